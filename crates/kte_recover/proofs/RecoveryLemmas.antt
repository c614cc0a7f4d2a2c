-- What the end of a replay, and what comes before it, answer.
use Rattle.std.proofs.Common.{◌≡◌, ◌≢◌, ◌⊎◌, inl, inr, ℕ, ◌+◌, ◌<◌, ◌≤◌, Bool, true, false, List, [], ◌∷◌, ◌++◌, length, drop, Option, Some, None, Result, Ok, Err, subst, refl, sym, ap, ◌∙◌, arith}
use Rattle.std.specs.Option.{IfSome}
use Rattle.std.proofs.lemmas.Bool.{cases_Bool, cases_lt}
use Rattle.std.proofs.lemmas.Str.{IsUtf8-from_is_utf8, is_utf8-from_IsUtf8}
use Rattle.std.proofs.lemmas.List.{length-append, drop_at}
use Rattle.std.specs.Str.{IsUtf8, is_utf8}
use Rattle.std.specs.Str.Lossy.{utf8_valid_len}
use Rattle.kte_text.specs.Files.{Loads, Refuses}
use Rattle.kte_text.specs.Digests.{digest_of}
use Rattle.kte_text.specs.Primitives.{after_all}
use Rattle.kte_text.specs.declared.TheConstants.{MAX_FILE_LENGTH}
use Rattle.kte_text.specs.declared.loading.Loaded.{Loaded}
use Rattle.kte_text.specs.declared.loading.LoadFault.{LoadFault}
use Rattle.kte_text.specs.declared.loading.LoadFault.TheVariants as load
use Rattle.kte_text.specs.declared.primitive.Primitive.{Primitive}
use Rattle.kte_text.proofs.FileLemmas.{Loads-IsUtf8}
use Rattle.kte_record.specs.Grammar.{version_bytes, header, HasHeader, HasVersion}
use Rattle.kte_record.specs.Transactions.{joined}
use Rattle.kte_record.specs.Recovery.{Answer, no_swap, refused, version, changed, damaged, torn, clean, Answers, AnswersBeside, IsAtFault, read_primitives, Reads}
use Rattle.kte_record.proofs.HeaderLemmas.{version_by_header, length_by_header, one_digest}
use Rattle.kte_record.proofs.OneAnswer.{one_answer}
use Rattle.kte_recover.specs.declared.replay.Replay.{Replay}
use Rattle.kte_recover.specs.declared.replay.End.{End}
use Rattle.kte_recover.specs.declared.replay.End.TheVariants as end
use Rattle.kte_recover.specs.declared.answer.Recovered.{Recovered}
use Rattle.kte_recover.specs.declared.answer.RecoverFault.{RecoverFault}
use Rattle.kte_recover.specs.declared.answer.RecoverFault.TheVariants as fault
use Rattle.kte_recover.specs.Inverse.{undone}
use Rattle.kte_recover.specs.Replay.{Stands, Ends}
use Rattle.kte_recover.specs.Answers.{answer_of, IsAllowed, IsOfFile, IsRefusal, KeepsEnds, KeepsFile, RefusesHeader}

-- the header, with what follows it as it is read
header_at : (swap digest : List ℕ) → HasHeader swap digest → swap ≡ header digest ++ drop 46 swap
header_at swap digest h =
    let long : length (header digest) ≡ 46 = length-append version_bytes digest ∙ omega (arith, h.long) in
    h.spelled ∙ ap (λ (l : List ℕ). header digest ++ l) (sym (ap (drop 46) h.spelled ∙ drop_at (header digest) h.rest 46 long))

-- where a replay ends it stands
pub ends_stands : (text : List (List ℕ)) (body : List ℕ) (e : End) (replay : Replay) → Ends text body e replay
    → (rest : List ℕ) × Stands replay text body rest
ends_stands text body end.Clean replay h = ([], h.0)
ends_stands text body end.Torn replay h = (h.0, h.1)
ends_stands text body (end.Damaged at) replay h = (h.0, h.1)

pub clean_beside : (swap digest : List ℕ) (text : List (List ℕ)) (replay : Replay) (result : List (List ℕ)) → HasHeader swap digest
    → Ends text (drop 46 swap) end.Clean replay → result ≡ undone replay.undo.items replay.buffer.text
    → AnswersBeside text digest swap (clean replay.done result)
clean_beside swap digest text replay result h (s, none) e = (
  record { long = h.long; rest = drop 46 swap; spelled = header_at swap digest h },
  record {
    done = s.done;
    reads = subst (λ (b : Option (List Primitive)). Reads text (drop 46 swap) s.done b []) none s.reads;
    counts = record { count_is = s.count; result_is = e ∙ s.undone_is };
  },
)

pub torn_beside : (swap digest : List ℕ) (text : List (List ℕ)) (replay : Replay) (result : List (List ℕ)) → HasHeader swap digest
    → Ends text (drop 46 swap) end.Torn replay → result ≡ undone replay.undo.items replay.buffer.text
    → AnswersBeside text digest swap (torn replay.done result)
torn_beside swap digest text replay result h (rest, s, cut, some) e =
    inr (
      record { long = h.long; rest = drop 46 swap; spelled = header_at swap digest h },
      record {
        done = s.done;
        begun = s.begun;
        rest = rest;
        reads = s.reads;
        cut = cut;
        some = some;
        counts = record { count_is = s.count; result_is = e ∙ s.undone_is };
      },
    )

pub damaged_beside : (swap digest : List ℕ) (text : List (List ℕ)) (at : ℕ) (replay : Replay) (result : List (List ℕ)) → HasHeader swap digest
    → Ends text (drop 46 swap) (end.Damaged at) replay → result ≡ undone replay.undo.items replay.buffer.text
    → AnswersBeside text digest swap (damaged at replay.done result)
damaged_beside swap digest text at replay result h (rest, s, bad, place) e = (
  record { long = h.long; rest = drop 46 swap; spelled = header_at swap digest h },
  record {
    done = s.done;
    begun = s.begun;
    rest = rest;
    reads = s.reads;
    fault = subst (λ (t : List (List ℕ)). IsAtFault t s.begun rest) s.text_is bad;
    place = place;
    counts = record { count_is = s.count; result_is = e ∙ s.undone_is };
  },
)

-- a saved file that is not refused has a text
pub allowed_loads : (saved : List ℕ) → IsAllowed saved → (loaded : Loaded) × Loads saved loaded
allowed_loads saved allowed =
    let short : length saved ≤ MAX_FILE_LENGTH =
    elim (cases_lt MAX_FILE_LENGTH (length saved)) [ inl lt ↦ absurd (allowed load.LongFile lt) | inr le ↦ le ] in
    let utf8 : IsUtf8 saved =
    elim (cases_Bool (is_utf8 saved)) [
      | inl t ↦ IsUtf8-from_is_utf8 saved t
      | inr f ↦ absurd (allowed (load.NotUtf8 (utf8_valid_len saved))
          (short, (λ u. let a : true ≡ false = sym (is_utf8-from_IsUtf8 saved u) ∙ f in cc), refl))
    ] in
    (_, Loads-IsUtf8 saved utf8)

-- the answer beside the text of the saved file is the answer
pub beside_answers : (saved swap : List ℕ) (loaded : Loaded) (a : Answer) → swap ≢ [] → Loads saved loaded → IsAllowed saved
    → AnswersBeside loaded.text (digest_of saved) swap a → Answers saved swap a
beside_answers saved swap loaded no_swap some l ok h = absurd h
beside_answers saved swap loaded (refused given) some l ok h = absurd h
beside_answers saved swap loaded version some l ok h = (some, record { loaded = loaded; loads = l; allowed = ok; beside = h })
beside_answers saved swap loaded (changed kept found) some l ok h = (some, record { loaded = loaded; loads = l; allowed = ok; beside = h })
beside_answers saved swap loaded (damaged at done text) some l ok h = (some, record { loaded = loaded; loads = l; allowed = ok; beside = h })
beside_answers saved swap loaded (torn done text) some l ok h = (some, record { loaded = loaded; loads = l; allowed = ok; beside = h })
beside_answers saved swap loaded (clean done text) some l ok h = (some, record { loaded = loaded; loads = l; allowed = ok; beside = h })

pub some_answers : (saved swap : List ℕ) (loaded : Loaded) (o : Option Answer) → swap ≢ [] → Loads saved loaded → IsAllowed saved
    → IfSome o (AnswersBeside loaded.text (digest_of saved) swap) → IfSome o (Answers saved swap)
some_answers saved swap loaded None some l ok h = tt
some_answers saved swap loaded (Some a) some l ok h = beside_answers saved swap loaded a some l ok h

-- a header that is refused
pub header_answers : (saved swap : List ℕ) (e : RecoverFault) → swap ≢ [] → IsAllowed saved → RefusesHeader (digest_of saved) swap e
    → IfSome (answer_of (Err e)) (Answers saved swap)
header_answers saved swap fault.NoSwap some ok h = absurd h
header_answers saved swap (fault.Load given) some ok h = absurd h
header_answers saved swap fault.Version some ok h =
    let l = allowed_loads saved ok in (some, record { loaded = l.0; loads = l.1; allowed = ok; beside = h })
header_answers saved swap (fault.FileChanged kept found) some ok h =
    let l = allowed_loads saved ok in (some, record { loaded = l.0; loads = l.1; allowed = ok; beside = h })
header_answers saved swap (fault.Damaged damage) some ok h = absurd h
header_answers saved swap fault.NoMemory some ok h = absurd h

pub header_file : (saved swap digest : List ℕ) (e : RecoverFault) → RefusesHeader digest swap e → KeepsFile saved (Err e)
header_file saved swap digest fault.NoSwap h = tt
header_file saved swap digest (fault.Load given) h = tt
header_file saved swap digest fault.Version h = tt
header_file saved swap digest (fault.FileChanged kept found) h = tt
header_file saved swap digest (fault.Damaged damage) h = absurd h
header_file saved swap digest fault.NoMemory h = tt

pub header_memory : (swap digest : List ℕ) (e : RecoverFault) → RefusesHeader digest swap e → e ≢ fault.NoMemory
header_memory swap digest e h is = subst (RefusesHeader digest swap) is h

-- the line end and the mark
pub ends_file : (saved : List ℕ) (loaded : Loaded) (r : Result Recovered RecoverFault) → Loads saved loaded → KeepsEnds loaded r → KeepsFile saved r
ends_file saved loaded (Ok found) l h = record { loaded = loaded; loads = l; eol_is = h.0; bom_is = h.1 }
ends_file saved loaded (Err fault.NoSwap) l h = tt
ends_file saved loaded (Err (fault.Load given)) l h = tt
ends_file saved loaded (Err fault.Version) l h = tt
ends_file saved loaded (Err (fault.FileChanged kept found)) l h = tt
ends_file saved loaded (Err (fault.Damaged damage)) l h = record { loaded = loaded; loads = l; eol_is = h.0; bom_is = h.1 }
ends_file saved loaded (Err fault.NoMemory) l h = tt

-- nothing is refused where the saved file is not, and the header is whole or cut short
pub nothing_refused : (saved swap : List ℕ) (whole : Bool) → swap ≢ [] → IsAllowed saved
    → (whole ≡ true → HasHeader swap (digest_of saved)) → (whole ≡ false → HasVersion swap × (length swap < 46))
    → (a : Answer) → IsRefusal a → Answers saved swap a → ⊥
nothing_refused saved swap whole some ok there part no_swap r h = some h
nothing_refused saved swap whole some ok there part (refused given) r h = ok given h.1
nothing_refused saved swap true some ok there part version r h = h.1.beside (version_by_header swap (digest_of saved) (there refl))
nothing_refused saved swap false some ok there part version r h = h.1.beside (part refl).0
nothing_refused saved swap true some ok there part (changed kept found) r h =
    let b = h.1.beside in
    b.1 (sym (one_digest swap kept b.0) ∙ one_digest swap (digest_of saved) (there refl))
nothing_refused saved swap false some ok there part (changed kept found) r h =
    omega (arith, (part refl).1, length_by_header swap kept h.1.beside.0)
nothing_refused saved swap whole some ok there part (damaged at done text) r h = r
nothing_refused saved swap whole some ok there part (torn done text) r h = r
nothing_refused saved swap whole some ok there part (clean done text) r h = r

-- the answer is the only one
pub only_answer : (saved swap : List ℕ) (o : Option Answer) (a : Answer) → IfSome o (Answers saved swap) → Answers saved swap a
    → (o ≡ None) ⊎ (o ≡ Some a)
only_answer saved swap None a h k = inl refl
only_answer saved swap (Some b) a h k = inr (ap Some (one_answer saved swap b a h k))

pub no_answer : (r : Result Recovered RecoverFault) → answer_of r ≡ None → r ≡ Err fault.NoMemory
no_answer (Ok found) e = absurd (cc)
no_answer (Err fault.NoSwap) e = absurd (cc)
no_answer (Err (fault.Load given)) e = absurd (cc)
no_answer (Err fault.Version) e = absurd (cc)
no_answer (Err (fault.FileChanged kept found)) e = absurd (cc)
no_answer (Err (fault.Damaged damage)) e = absurd (cc)
no_answer (Err fault.NoMemory) e = refl
