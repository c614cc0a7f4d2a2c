-- The bad line is that of the first fault.
use Rattle.std.proofs.Common.{◌≡◌, ℕ, ◌+◌, true, false, nat_eq, List, [], ◌∷◌, ◌++◌, length, refl, sym, ap, ◌∙◌, subst, append_assoc, arith, inl, inr, ◌⊎◌}
use Rattle.std.proofs.lemmas.List.{append-nil}
use Rattle.std.proofs.lemmas.Bool.{eqb-true}
use Rattle.std.proofs.lemmas.Bool.Decides.{nat_tests}
use Rattle.kte_report.specs.Lines.{is_in_line, ends_in, text_of_lines}
use Rattle.kte_report.specs.Faults.{IsBeforeFault, IsBadLine}
use Rattle.kte_report.proofs.LineLemmas.{both, decide, ends-append, no_ends, ends_of_lines}

-- two ways to cut a list in two
pub two_cuts : (a b c d : List ℕ) → a ++ b ≡ c ++ d → ((m : List ℕ) × (c ≡ a ++ m) × (b ≡ m ++ d)) ⊎ ((m : List ℕ) × (a ≡ c ++ m) × (d ≡ m ++ b))
two_cuts [] b c d e = inl (c, refl, e)
two_cuts (x ∷ a) b [] d e = inr (x ∷ a, refl, sym e)
two_cuts (x ∷ a) b (y ∷ c) d e =
    let head : x ≡ y = cc in
    let tail : a ++ b ≡ c ++ d = cc in
    elim (two_cuts a b c d tail) [
      | inl r ↦ inl (r.0, cc (head, r.1), r.2)
      | inr r ↦ inr (r.0, cc (head, r.1), r.2)
    ]

-- what holds of the front of what it holds of
abbrev pub Closed : (List ℕ → Type 0) → Type 0
Closed P = (a b : List ℕ) → P (a ++ b) → P a

front_in_line : (a b : List ℕ) → is_in_line (a ++ b) ≡ true → is_in_line a ≡ true
front_in_line [] b p = refl
front_in_line (x ∷ a) b p =
    let h = both _ (is_in_line (a ++ b)) p in
    rw (h.0, front_in_line a b h.1) refl

-- the first fault is not in the lines before the bad one
not_before : (P : List ℕ → Type 0) → Closed P → (bytes before : List ℕ) → (first : IsBeforeFault P bytes before) → (front m d : List ℕ) → P front → front ≡ before ++ m → first.after ≡ m ++ d → m ≡ []
not_before P closed bytes before first front [] d begun e f = refl
not_before P closed bytes before first front (byte ∷ m) d begun e f =
    let regroup : before ++ byte ∷ m ≡ (before ++ byte ∷ []) ++ m = sym (append_assoc before (byte ∷ []) m) in
    absurd (first.stops byte (m ++ d) f (closed (before ++ byte ∷ []) m (subst P (e ∙ regroup) begun)))

-- .. nor after its end
not_after : (P : List ℕ → Type 0) → Closed P → (front line rest before n after : List ℕ) → P before → before ≡ front ++ (line ++ n) → rest ≡ n ++ after → ((rest ≡ []) ⊎ ((more : List ℕ) × (rest ≡ 10 ∷ more) × ¬ (P (front ++ (line ++ 10 ∷ []))))) → n ≡ []
not_after P closed front line rest before [] after begun e f stops = refl
not_after P closed front line rest before (byte ∷ n) after begun e f (inl nil) = absurd cc
not_after P closed front line rest before (byte ∷ n) after begun e f (inr more) =
    let is : byte ≡ 10 = cc (f, more.1) in
    let regroup : front ++ (line ++ byte ∷ n) ≡ (front ++ (line ++ 10 ∷ [])) ++ n = rw is (simp append_assoc) in
    absurd (more.2 (closed (front ++ (line ++ 10 ∷ [])) n (subst P (e ∙ regroup) begun)))

in_bad : (front part line : List ℕ) (count : ℕ) → ends_in front ≡ count → is_in_line part ≡ true → ends_in (front ++ part) ≡ count
in_bad front part line count e p =
    let h : ends_in (front ++ part) ≡ ends_in front + ends_in part = ends-append front part in
    let z : ends_in part ≡ 0 = no_ends part p in
    omega arith

pub fault_in_bad_line : (P : List ℕ → Type 0) → Closed P → (bytes before : List ℕ) (number : ℕ) → IsBadLine P bytes number → IsBeforeFault P bytes before → number ≡ ends_in before + 1
fault_in_bad_line P closed bytes before number bad first =
    let front : List ℕ = text_of_lines bad.before in
    let count : ends_in front ≡ length bad.before = ends_of_lines bad.before bad.lines.1 in
    let ends : ends_in before ≡ length bad.before =
    elim (two_cuts before first.after front (bad.line ++ bad.rest) (sym first.parts ∙ bad.parts)) [
      | inl r ↦
          let nil : r.0 ≡ [] = not_before P closed bytes before first front r.0 (bad.line ++ bad.rest) bad.begun r.1 r.2 in
          let same : front ≡ before = r.1 ∙ ap (λ (xs : List ℕ). before ++ xs) nil ∙ append-nil before in
          rw (sym same) count
      | inr r ↦ elim (two_cuts r.0 first.after bad.line bad.rest (sym r.2)) [
        | inl s ↦ rw (r.1) (in_bad front r.0 bad.line (length bad.before) count (front_in_line r.0 s.0 (subst (λ (xs : List ℕ). is_in_line xs ≡ true) s.1 bad.lines.0)))
        | inr s ↦
            let nil : s.0 ≡ [] = not_after P closed front bad.line bad.rest before s.0 first.after first.begun (r.1 ∙ ap (λ (xs : List ℕ). front ++ xs) s.1) s.2 bad.stops in
            let same : r.0 ≡ bad.line = s.1 ∙ ap (λ (xs : List ℕ). bad.line ++ xs) nil ∙ append-nil bad.line in
            rw (r.1, same) (in_bad front bad.line bad.line (length bad.before) count bad.lines.0)
      ]
    ] in
    let counted : number ≡ length bad.before + 1 = bad.counted in
    omega arith

byte_is : (x byte : ℕ) (after others : List ℕ) → x ∷ after ≡ byte ∷ others → byte ≡ x
byte_is x byte after others h = cc

-- where the empty text begins one there is a first fault: not that there is none
later : (P : List ℕ → Type 0) (bytes before after : List ℕ) → bytes ≡ before ++ after → P before → ((front : List ℕ) → ¬ (IsBeforeFault P bytes front)) → ⊥
later P bytes before [] e p none = none before (record { after = []; parts = e; begun = p; stops = λ byte others h. cc })
later P bytes before (x ∷ after) e p none =
    let regroup : before ++ x ∷ after ≡ (before ++ x ∷ []) ++ after = sym (append_assoc before (x ∷ []) after) in
    let stop : ¬ (P (before ++ x ∷ [])) = λ q. later P bytes (before ++ x ∷ []) after (e ∙ regroup) q none in
    none before (record {
      after = x ∷ after;
      parts = e;
      begun = p;
      stops = λ byte others h q. stop (subst (λ (n : ℕ). P (before ++ n ∷ [])) (byte_is x byte after others h) q);
    })

pub some_fault : (P : List ℕ → Type 0) → P [] → (bytes : List ℕ) → ¬ ((front : List ℕ) → ¬ (IsBeforeFault P bytes front))
some_fault P p bytes none = later P bytes [] bytes refl p none

unequal : (a b : ℕ) → nat_eq a b ≡ false → a ≡ b → ⊥
unequal a b e same = grind (arith, nat_tests)

-- .. so no bytes have two bad lines
pub one_line : (P : List ℕ → Type 0) → Closed P → P [] → (bytes : List ℕ) (line other : ℕ) → IsBadLine P bytes line → IsBadLine P bytes other → line ≡ other
one_line P closed p bytes line other a b = elim (decide (nat_eq line other)) [
  | inl e ↦ eqb-true line other e
  | inr e ↦ absurd (some_fault P p bytes (λ before first.
      unequal line other e (fault_in_bad_line P closed bytes before line a first ∙ sym (fault_in_bad_line P closed bytes before other b first))))
]
