-- Worked examples of the definitions.
use Rattle.std.proofs.Common.{◌≡◌, [], ◌∷◌, Some, None, refl, arith}
use Rattle.std.specs.Prelude.{codes}
use Rattle.std.proofs.lemmas.Fmt.{decimal_digit}
use Rattle.hex.specs.Hex.{encode_with}
use Rattle.kte_text.specs.declared.digests.Digest.{Digest}
use Rattle.kte_text.specs.declared.loading.LoadFault.TheVariants as load
use Rattle.kte_run.specs.declared.TheConstants.{MAX_REVISIONS}
use Rattle.kte_run.specs.declared.status.Status.TheVariants as status
use Rattle.kte_script.specs.declared.fault.ScriptFault.TheVariants as faults
use Rattle.kte_run.specs.Statuses.{code_of, error_line, file_status}

constants : MAX_REVISIONS ≡ 2147483648
constants = refl

codes_of : (code_of status.Ok ≡ 0) × (code_of status.NoMemory ≡ 1) × (code_of (status.BadWords 9) ≡ 2) × (code_of status.ReadFault ≡ 3) × (code_of (status.BadScript faults.TooLong) ≡ 4) × (code_of status.DiskFault ≡ 5) × (code_of (status.NotUtf8 9) ≡ 6) × (code_of (status.TooLarge None) ≡ 7) × (code_of status.WriteFault ≡ 10)
codes_of = (refl, refl, refl, refl, refl, refl, refl, refl, refl)

pub swap_codes : (kept found : Digest) → (code_of (status.SwapPresent 9) ≡ 8) × (code_of status.SwapLost ≡ 9) × (code_of status.NoSwap ≡ 11) × (code_of status.Version ≡ 12) × (code_of (status.FileChanged kept found) ≡ 13) × (code_of (status.Damaged 9 1) ≡ 14)
swap_codes kept found = (refl, refl, refl, refl, refl, refl)

plain_lines : (error_line status.Ok ≡ []) × (error_line status.NoMemory ≡ codes "kted: out of memory") × (error_line status.ReadFault ≡ codes "kted: reading the script failed") × (error_line (status.BadScript faults.TooLong) ≡ codes "kted: script too long") × (error_line status.DiskFault ≡ codes "kted: the disk failed") × (error_line (status.TooLarge None) ≡ codes "kted: file too long") × (error_line status.WriteFault ≡ codes "kted: writing failed")
plain_lines = (refl, refl, refl, refl, refl, refl, refl)

bad_script_line : error_line (status.BadScript (faults.Bad 2 7)) ≡ codes "kted: script line 2 column 7"
bad_script_line = rw (decimal_digit 2 (omega arith), decimal_digit 7 (omega arith)) refl

too_many_line : error_line (status.BadScript (faults.TooMany 7)) ≡ codes "kted: script line 7 is one command too many"
too_many_line = rw (decimal_digit 7 (omega arith)) refl

bad_words_line : error_line (status.BadWords 2) ≡ codes "kted: word 2 does not fit"
bad_words_line = rw (decimal_digit 2 (omega arith)) refl

not_utf8_line : error_line (status.NotUtf8 7) ≡ codes "kted: file is not UTF-8 at byte 7"
not_utf8_line = rw (decimal_digit 7 (omega arith)) refl

too_large_line : error_line (status.TooLarge (Some 9)) ≡ codes "kted: text too large: 9"
too_large_line = rw (decimal_digit 9 (omega arith)) refl

plain_swap_lines : (error_line status.SwapLost ≡ codes "kted: swap file lost") × (error_line status.NoSwap ≡ codes "kted: no swap file") × (error_line status.Version ≡ codes "kted: unknown swap version")
plain_swap_lines = (refl, refl, refl)

swap_present_line : error_line (status.SwapPresent 9) ≡ codes "kted: swap file present: 9 bytes"
swap_present_line = rw (decimal_digit 9 (omega arith)) refl

damaged_line : error_line (status.Damaged 8 2) ≡ codes "kted: swap damaged at byte 8 after 2 transactions"
damaged_line = rw (decimal_digit 8 (omega arith), decimal_digit 2 (omega arith)) refl

-- the names that git gives to the empty file and to `hello` with a line end
changed_line : (kept found : Digest)
    → kept.0 ≡ 0xE6 ∷ 0x9D ∷ 0xE2 ∷ 0x9B ∷ 0xB2 ∷ 0xD1 ∷ 0xD6 ∷ 0x43 ∷ 0x4B ∷ 0x8B ∷ 0x29 ∷ 0xAE ∷ 0x77 ∷ 0x5A ∷ 0xD8 ∷ 0xC2 ∷ 0xE4 ∷ 0x8C ∷ 0x53 ∷ 0x91 ∷ []
    → found.0 ≡ 0xCE ∷ 0x01 ∷ 0x36 ∷ 0x25 ∷ 0x03 ∷ 0x0B ∷ 0xA8 ∷ 0xDB ∷ 0xA9 ∷ 0x06 ∷ 0xF7 ∷ 0x56 ∷ 0x96 ∷ 0x7F ∷ 0x9E ∷ 0x9C ∷ 0xA3 ∷ 0x94 ∷ 0x46 ∷ 0x4A ∷ []
    → error_line (status.FileChanged kept found)
    ≡ codes "kted: file changed: swap e69de29bb2d1d6434b8b29ae775ad8c2e48c5391 file ce013625030ba8dba906f756967f9e9ca394464a"
unfolding encode_with
changed_line kept found kept_is found_is = rw (kept_is, found_is) refl

long_file : file_status load.LongFile ≡ status.TooLarge None
long_file = refl
