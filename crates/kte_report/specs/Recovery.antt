-- What a saved file and its swap file recover to, line by line. This project's own form
use Rattle.std.specs.Prelude.{ℕ, Bool, List, ◌++◌, codes}
use Rattle.kte_text.specs.Saving.{bytes_of}
use Rattle.kte_text.specs.declared.loading.Eol.{Eol}
use Rattle.kte_recover.specs.declared.answer.Tail.{Tail}
use Rattle.kte_recover.specs.declared.answer.Tail.TheVariants.{Clean, Torn}
use Rattle.kte_recover.specs.declared.answer.Recovered.{Recovered}
use Rattle.kte_recover.specs.declared.answer.Damage.{Damage}
use Rattle.kte_report.specs.Report.{number_line, digest_line, text_lines}

-- how many transactions count
abbrev pub transactions_line : ℕ → List ℕ
transactions_line done = number_line (codes "transactions") done

-- how the records of the swap file end
abbrev pub tail_line : Tail → List ℕ
tail_line Clean = codes "tail clean\n"
tail_line Torn = codes "tail torn\n"

-- the offset in the swap file of the record at fault
abbrev pub damage_line : ℕ → List ℕ
damage_line at = number_line (codes "tail damaged") at

-- how many transactions count, and how the records end
abbrev pub tail_lines : ℕ → Tail → List ℕ
tail_lines done tail = transactions_line done ++ tail_line tail

-- a text, after the digest of the file that saving it writes
abbrev pub file_lines : List (List ℕ) → Eol → Bool → List ℕ
file_lines text eol bom = digest_line (bytes_of text eol bom) ++ text_lines text

-- the recovered text, if no record is at fault
abbrev pub recovered_text : Recovered → List ℕ
recovered_text found =
    tail_lines found.done found.tail ++ file_lines found.text found.eol found.bom

-- the recovered text, if a record is at fault
abbrev pub damaged_text : Damage → List ℕ
damaged_text damage =
    transactions_line damage.done ++ damage_line damage.at
    ++ file_lines damage.text damage.eol damage.bom
