-- The first word that does not fit.
use Rattle.std.proofs.Common.{◌≡◌, ◌↔◌, ⊎_elim, ℕ, ◌+◌, ◌<◌, ◌≤◌, List, [], ◌++◌, length, take, drop, subst, sym, ap, ◌∙◌, append-nil, append_assoc, take-append-drop, Result, Ok, Err, IfOk, IfErr, arith}
use Rattle.std.proofs.lemmas.Bool.{cases_lt}
use Rattle.std.proofs.lemmas.List.{take_all, take-take}
use Rattle.std.proofs.lemmas.Result.{IfErr-at_err}
use Rattle.kte_words.specs.Words.{Spells, IsCommand, BeginsCommand, FirstMisfit}
use Rattle.kte_words.specs.declared.words.Words.{Words}
use Rattle.kte_words.specs.declared.parsing.BadWords.{BadWords}

-- ---- the fronts of words that begin a command

begins-command : (words : List (List ℕ)) → IsCommand words → BeginsCommand words
begins-command words is = record { more = []; whole = subst IsCommand (sym (append-nil words)) is }

begins-front : (words : List (List ℕ)) (count : ℕ) → BeginsCommand words
    → BeginsCommand (take count words)
begins-front words count begins =
    let joined : words ++ begins.more ≡ take count words ++ (drop count words ++ begins.more) =
    ap (λ front. front ++ begins.more) (sym (take-append-drop count words))
    ∙ append_assoc (take count words) (drop count words) begins.more in
    record { more = drop count words ++ begins.more; whole = subst IsCommand joined begins.whole }

begins-shorter : (words : List (List ℕ)) (count longer : ℕ) → count ≤ longer
    → BeginsCommand (take longer words) → BeginsCommand (take count words)
begins-shorter words count longer within begins =
    subst BeginsCommand (take-take count longer words within)
    (begins-front (take longer words) count begins)

-- ---- one misfit

at-most : (words : List (List ℕ)) (at count : ℕ)
    → (at < length words → ¬ (BeginsCommand (take (at + 1) words))) → count ≤ length words
    → BeginsCommand (take count words) → count ≤ at
at-most words at count next in_words begins =
    let with_it = λ (longer : at < count). begins-shorter words (at + 1) count (omega arith) begins in
    ⊎_elim (λ longer. absurd (next (omega arith) (with_it longer))) (λ most. most) (cases_lt at count)

-- the words before it begin a command, and with it they begin none
pub misfit : (words : List (List ℕ)) (at : ℕ) → ¬ (IsCommand words) → at ≤ length words
    → BeginsCommand (take at words)
    → (at < length words → ¬ (BeginsCommand (take (at + 1) words))) → FirstMisfit words at
misfit words at none within before next = record {
  no_command = none;
  within = within;
  longest = λ count in_words. (
    at-most words at count next in_words,
    (λ most. begins-shorter words count at most before),
  );
}

pub unfit : (words : List (List ℕ)) (at : ℕ) → at < length words
    → FirstMisfit words at
    ↔ (BeginsCommand (take at words) × ¬ (BeginsCommand (take (at + 1) words)))
unfit words at inside = (
  (λ first. (
    (first.longest at (omega arith)).1 (omega arith),
    (λ begins. omega (arith, (first.longest (at + 1) (omega arith)).0 begins)),
  )),
  (λ both. misfit words at (λ is. both.1 (begins-front words (at + 1) (begins-command words is)))
      (omega arith) both.0 (λ within. both.1)),
)

pub missing : (words : List (List ℕ))
    → FirstMisfit words (length words) ↔ (BeginsCommand words × ¬ (IsCommand words))
missing words =
    let whole : take (length words) words ≡ words = take_all (length words) words (omega arith) in (
      (λ first. (
        subst BeginsCommand whole ((first.longest (length words) (omega arith)).1 (omega arith)),
        first.no_command,
      )),
      (λ both. misfit words (length words) both.1 (omega arith)
          (subst BeginsCommand (sym whole) both.0) (λ within. absurd (omega (arith, within)))),
    )

pub one-misfit : (words : List (List ℕ)) (a b : ℕ) → FirstMisfit words a → FirstMisfit words b
    → a ≡ b
one-misfit words a b first second =
    let begins_a = (first.longest a first.within).1 (omega arith) in
    let begins_b = (second.longest b second.within).1 (omega arith) in
    omega (arith, (second.longest a first.within).0 begins_a, (first.longest b second.within).0 begins_b)

-- a result that is a command or a first misfit is so exactly
pub exact-misfit : (words : List (List ℕ)) (result : Result Words BadWords)
    → IfOk result (λ command. Spells words command)
    → IfErr result (λ bad. FirstMisfit words bad.at) → (bad : BadWords)
    → (result ≡ Err bad) ↔ FirstMisfit words bad.at
exact-misfit words (Ok command) spelled first bad = (
  (λ is. IfErr-at_err (λ found. FirstMisfit words found.at) is first),
  (λ other. absurd (other.no_command (command, spelled))),
)
exact-misfit words (Err found) spelled first bad = (
  (λ is. IfErr-at_err (λ other. FirstMisfit words other.at) is first),
  (λ other. ap (λ at. Err (record { at = at })) (one-misfit words found.at bad.at first other)),
)
