-- The words of each command.
use Rattle.std.proofs.Common.{◌≡◌, ◌≢◌, ◌↔◌, ◌⊎◌, ⊎_elim, inl, inr, ℕ, zero, suc, ◌+◌, ◌-◌, ◌^◌, ◌<◌, ◌≤◌, List, [], ◌∷◌, ◌++◌, length, take, Option, Some, None, subst, sym, refl, ap, ◌∙◌, codes, slice_get, IsNone, IfSome, IsSomeAnd, false, is_some, Result, Ok, Err, IfOk, IfErr, if◌then◌else◌, arith}
use Rattle.std.proofs.lemmas.Bool.{cases_Bool, iff_false, false≢true}
use Rattle.std.proofs.lemmas.Option.{same_Some}
use Rattle.std.proofs.lemmas.Result.{IfOk-at_ok}
use Rattle.std.proofs.lemmas.Slice.Eq.{bytes_eq-Decides}
use Rattle.std.specs.Str.{bytes_eq}
use Rattle.kte_words.specs.Forms.{Part, Lead, AFile, ANumber, IsNumber, Are, Stops, number_at}
use Rattle.kte_words.specs.Words.{Spells, IsCommand, BeginsCommand, FirstMisfit, file_form, check_form, file_of}
use Rattle.kte_words.specs.declared.TheConstants.{MAX_COUNT, MAX_WORKERS}
use Rattle.kte_words.specs.declared.words.Words.{Words}
use Rattle.kte_words.specs.declared.words.Words.TheVariants.{Edit, Check, Recover, Gen}
use Rattle.kte_words.specs.declared.parsing.BadWords.{BadWords}
use Rattle.kte_words.proofs.MisfitLemmas.{misfit}
use Rattle.kte_words.proofs.FormLemmas.{part-at, HaveWords, samples, stops-within, stops-are, stops-before, stops-next, are-or-stop}

same : {A : Type 0} {a b : A} → Some a ≡ Some b → a ≡ b
same {a = a} {b = b} is = same_Some a b is

-- ---- the command of a first word

-- the command that words are, if they are one
abbrev command_of : List ℕ → List (List ℕ) → Option Words
command_of word words =
    if bytes_eq word (codes "edit") then Some (Edit 1)
    else if bytes_eq word (codes "check") then Some (Check (number_at (word ∷ words) 1) 2)
    else if bytes_eq word (codes "recover") then Some (Recover 1)
    else if bytes_eq word (codes "gen")
    then Some (Gen (number_at (word ∷ words) 1) (number_at (word ∷ words) 2))
    else None

its-command : {lead word : List ℕ} (words : List (List ℕ)) (command : Words) → word ≡ lead
    → command_of lead words ≡ Some command → command_of word words ≡ Some command
its-command words command is its =
    subst (λ one. command_of one words ≡ Some command) (sym is) its

command-of : (word : List ℕ) (words : List (List ℕ)) (command : Words)
    → Spells (word ∷ words) command → command_of word words ≡ Some command
command-of word words (Edit file) spelled =
    its-command words (Edit file) spelled.0.0 (rw spelled.1 refl)
command-of word words (Check workers file) spelled =
    its-command words (Check workers file) spelled.0.0 (rw (spelled.1, spelled.2) refl)
command-of word words (Recover file) spelled =
    its-command words (Recover file) spelled.0.0 (rw spelled.1 refl)
command-of word words (Gen number count) spelled =
    its-command words (Gen number count) spelled.0.0 (rw (spelled.1, spelled.2) refl)

no-words : (command : Words) → ¬ (Spells [] command)
no-words (Edit file) spelled = spelled.0
no-words (Check workers file) spelled = spelled.0
no-words (Recover file) spelled = spelled.0
no-words (Gen number count) spelled = spelled.0

pub one-command : (words : List (List ℕ)) (a b : Words) → Spells words a → Spells words b → a ≡ b
one-command [] a b first second = absurd (no-words a first)
one-command (word ∷ words) a b first second =
    same (sym (command-of word words a first) ∙ command-of word words b second)

-- a result that is a command is exactly this
pub exact-command : (words : List (List ℕ)) (result : Result Words BadWords)
    → IfOk result (λ command. Spells words command)
    → IfErr result (λ bad. FirstMisfit words bad.at) → (command : Words)
    → (result ≡ Ok command) ↔ Spells words command
exact-command words (Ok found) spelled first command = (
  (λ is. IfOk-at_ok (λ one. Spells words one) is spelled),
  (λ other. ap Ok (one-command words found command spelled other)),
)
exact-command words (Err bad) spelled first command = (
  (λ is. IfOk-at_ok (λ one. Spells words one) is spelled),
  (λ other. absurd (first.no_command (command, other))),
)

file-named : (parts : List Part) (words : List (List ℕ)) (at file : ℕ)
    → slice_get parts at ≡ Some AFile → Are parts words → file ≡ at
    → IsSomeAnd (slice_get words file) (λ name. name ≢ [])
file-named parts words at file part are is =
    let word = part-at parts words at AFile part are in
    subst (λ index. IsSomeAnd (slice_get words index) (λ name. name ≢ [])) (sym is)
    (subst (λ one. IsSomeAnd one (λ name. name ≢ [])) (sym word.0) word.1)

-- the file of a command is a word that is not empty
pub named-file : (words : List (List ℕ)) (command : Words) → Spells words command
    → IfSome (file_of command)
    (λ file. IsSomeAnd (slice_get words file) (λ name. name ≢ []))
named-file words (Edit file) spelled =
    file-named (file_form (codes "edit")) words 1 file refl spelled.0 spelled.1
named-file words (Check workers file) spelled =
    file-named check_form words 2 file refl spelled.0 spelled.2
named-file words (Recover file) spelled =
    file-named (file_form (codes "recover")) words 1 file refl spelled.0 spelled.1
named-file words (Gen number count) spelled = tt

-- ---- the forms of commands

-- all commands of this word have these parts after it, and such words are a command
pub record IsForm (lead : List ℕ) (parts : List Part) : Type 0 where
  pub have : HaveWords parts
  pub make : (words : List (List ℕ)) → Are (Lead lead ∷ parts) words → IsCommand words
  pub only : (words : List (List ℕ)) → IsCommand (lead ∷ words)
      → Are (Lead lead ∷ parts) (lead ∷ words)

-- words that begin with a command's word and are a command are the one that the word names
its-words : (lead : List ℕ) (words : List (List ℕ)) (command : Words)
    → command_of lead words ≡ Some command → IsCommand (lead ∷ words)
    → Spells (lead ∷ words) command
its-words lead words command its is =
    subst (Spells (lead ∷ words)) (same (sym (command-of lead words is.0 is.1) ∙ its)) is.1

a-file : (word : List ℕ) × (word ≢ [])
a-file = (codes "f", (λ is. omega (arith, ap length is)))

pub edit-form : IsForm (codes "edit") (AFile ∷ [])
edit-form = record {
  have = (a-file, tt);
  make = λ words are. (Edit 1, (are, refl));
  only = λ words is. (its-words (codes "edit") words (Edit 1) refl is).0;
}

pub recover-form : IsForm (codes "recover") (AFile ∷ [])
recover-form = record {
  have = (a-file, tt);
  make = λ words are. (Recover 1, (are, refl));
  only = λ words is. (its-words (codes "recover") words (Recover 1) refl is).0;
}

is-one : (least most : ℕ) → least ≤ 1 → 1 ≤ most → IsNumber least most (codes "1")
is-one least most below above = record {
  digits = (omega arith, (omega arith, tt));
  short = omega arith;
  at_least = below;
  at_most = above;
}

a-number : (least most : ℕ) → least ≤ 1 → 1 ≤ most → (word : List ℕ) × IsNumber least most word
a-number least most below above = (codes "1", is-one least most below above)

pub check-form : IsForm (codes "check") (ANumber 1 MAX_WORKERS ∷ AFile ∷ [])
check-form = record {
  have = (a-number 1 MAX_WORKERS (omega arith) (omega arith), (a-file, tt));
  make = λ words are. (Check (number_at words 1) 2, (are, refl, refl));
  only = λ words is.
      (its-words (codes "check") words (Check (number_at (codes "check" ∷ words) 1) 2) refl is).0;
}

pub gen-form : IsForm (codes "gen") (ANumber 0 (2 ^ 64 - 1) ∷ ANumber 1 MAX_COUNT ∷ [])
gen-form = record {
  have = (
    a-number 0 (2 ^ 64 - 1) (omega arith) (omega arith),
    (a-number 1 MAX_COUNT (omega arith) (omega arith), tt),
  );
  make = λ words are. (Gen (number_at words 1) (number_at words 2), (are, refl, refl));
  only = λ words is.
      let all = codes "gen" ∷ words in
      (its-words (codes "gen") words (Gen (number_at all 1) (number_at all 2)) refl is).0;
}

begins-nothing : BeginsCommand []
begins-nothing =
    let edit = samples (Lead (codes "edit") ∷ AFile ∷ []) ((codes "edit", refl), edit-form.have) in
    record { more = edit.0; whole = edit-form.make edit.0 edit.1 }

next-is : (at : ℕ) → suc at + 1 ≡ suc (suc at)
next-is at = omega arith

next : (lead : List ℕ) (parts : List Part) → IsForm lead parts → (words : List (List ℕ)) (at : ℕ)
    → Stops parts words at → at < length words → ¬ (BeginsCommand (take (suc (suc at)) (lead ∷ words)))
next lead parts form words at stops inside begins =
    stops-next parts words at stops inside
    (begins.more, (form.only (take (suc at) words ++ begins.more) begins.whole).1)

stopped : (lead : List ℕ) (parts : List Part) → IsForm lead parts → (word : List ℕ)
    (words : List (List ℕ)) (at : ℕ) → word ≡ lead → Stops (Lead lead ∷ parts) (word ∷ words) at
    → FirstMisfit (word ∷ words) at
stopped lead parts form word words zero is other = absurd (other is)
stopped lead parts form word words (suc at) is stops =
    let lead_stops : Stops (Lead lead ∷ parts) (lead ∷ words) (suc at) = (refl, stops.1) in
    let before = stops-before (Lead lead ∷ parts) (lead ∷ words) (suc at) ((lead, refl), form.have) lead_stops in
    subst (λ w. FirstMisfit (w ∷ words) (suc at)) (sym is)
    (misfit (lead ∷ words) (suc at)
    (λ command. stops-are (Lead lead ∷ parts) (lead ∷ words) (suc at) lead_stops
    (form.only words command))
    (stops-within (Lead lead ∷ parts) (lead ∷ words) (suc at) lead_stops)
    (record { more = before.0; whole = form.make (lead ∷ take at words ++ before.0) before.1 })
    (λ inside begins. next lead parts form words at stops.1 (omega (arith, inside))
    (subst BeginsCommand (ap (λ n. take n (lead ∷ words)) (next-is at)) begins)))

-- the first word of a form, and then the place at which its words stop being one
pub form-stopped : (lead : List ℕ) (parts : List Part) → IsForm lead parts
    → (words : List (List ℕ)) (at : ℕ) → slice_get words 0 ≡ Some lead
    → Stops (Lead lead ∷ parts) words at → FirstMisfit words at
form-stopped lead parts form [] at is stops = absurd (false≢true (ap is_some is))
form-stopped lead parts form (word ∷ words) at is stops =
    stopped lead parts form word words at (same is) stops

-- ---- the first word is missing, or is no command's

pub no-word : (words : List (List ℕ)) → IsNone (slice_get words 0) → FirstMisfit words 0
no-word [] none =
    misfit [] 0 (λ is. no-words is.0 is.1) (omega arith) begins-nothing
    (λ inside. absurd (omega (arith, inside)))
no-word (word ∷ words) none = absurd (false≢true (sym none))

-- a word is this one, or another
by-lead : {A : Type 0} (word lead : List ℕ) → (word ≡ lead → A) → (word ≢ lead → A) → A
by-lead word lead it other =
    let decides = bytes_eq-Decides word lead in
    ⊎_elim (λ is. it (decides.0 is)) (λ is_not. other (iff_false decides is_not))
    (cases_Bool (bytes_eq word lead))

unlike : (word lead : List ℕ) → word ≢ lead → bytes_eq word lead ≡ false
unlike word lead other =
    ⊎_elim (λ is. absurd (other ((bytes_eq-Decides word lead).0 is))) (λ no. no)
    (cases_Bool (bytes_eq word lead))

-- no command's word
pub record NoLead (word : List ℕ) : Type 0 where
  pub edit : word ≢ codes "edit"
  pub check : word ≢ codes "check"
  pub recover : word ≢ codes "recover"
  pub gen : word ≢ codes "gen"

unnamed : (word : List ℕ) (words : List (List ℕ)) → NoLead word → command_of word words ≡ None
unnamed word words other =
    let edit_no = unlike word (codes "edit") other.edit in
    let check_no = unlike word (codes "check") other.check in
    let recover_no = unlike word (codes "recover") other.recover in
    let gen_no = unlike word (codes "gen") other.gen in
    rw edit_no (rw check_no (rw recover_no (rw gen_no refl)))

other-word : (word : List ℕ) (words : List (List ℕ)) → NoLead word → FirstMisfit (word ∷ words) 0
other-word word words other =
    let no = λ (more : List (List ℕ)) (is : IsCommand (word ∷ more)).
    false≢true (ap is_some (sym (unnamed word more other) ∙ command-of word more is.0 is.1)) in
    misfit (word ∷ words) 0 (no words) (omega arith) begins-nothing
    (λ inside begins. no begins.more begins.whole)

pub no-command : (word : List ℕ) (words : List (List ℕ)) → slice_get words 0 ≡ Some word
    → NoLead word → FirstMisfit words 0
no-command word [] is other = no-word [] refl
no-command word (first ∷ words) is other =
    subst (λ w. FirstMisfit (w ∷ words) 0) (sym (same is)) (other-word word words other)

-- ---- all words are a command, or have a first misfit

abbrev IsRead : List (List ℕ) → Type 0
IsRead words = IsCommand words ⊎ ((at : ℕ) × FirstMisfit words at)

read-form : (lead : List ℕ) (parts : List Part) → IsForm lead parts → (word : List ℕ)
    (words : List (List ℕ)) → word ≡ lead → IsRead (word ∷ words)
read-form lead parts form word words is =
    ⊎_elim (λ are. inl (form.make (word ∷ words) are))
    (λ stops. inr (stops.0, stopped lead parts form word words stops.0 is stops.1))
    (are-or-stop (Lead lead ∷ parts) (word ∷ words))

pub read : (words : List (List ℕ)) → IsRead words
read [] = inr (0, no-word [] refl)
read (word ∷ words) =
    by-lead word (codes "edit")
    (λ is. read-form _ _ edit-form word words is)
    (λ edit. by-lead word (codes "check")
    (λ is. read-form _ _ check-form word words is)
    (λ check. by-lead word (codes "recover")
    (λ is. read-form _ _ recover-form word words is)
    (λ recover. by-lead word (codes "gen")
    (λ is. read-form _ _ gen-form word words is)
    (λ gen. inr (
      0,
      other-word word words
          (record { edit = edit; check = check; recover = recover; gen = gen }),
    )))))
