-- Lemmas on counts.
use Rattle.std.proofs.Common.{◌≡◌, ◌≢◌, ◌⊎◌, ℕ, ◌+◌, ◌≤◌, [], ◌∷◌, inl, inr, refl, sym, ap, ◌∙◌, arith}
use Rattle.std.proofs.Common.{slice_index_or}
use Rattle.kte_causes.specs.declared.causes.DiskCall.{DiskCall}
use Rattle.kte_causes.specs.declared.causes.DiskCall.TheVariants.{SavedLen, SavedAt, SwapLen, SwapAt, Append, Sync, Replace, Reset}
use Rattle.kte_causes.specs.Faults.{Rose, raised, last_count}
use Rattle.kte_causes.specs.DiskFaults.{AllStay, OthersStay, NoneFell, total}

pub Rose-le : (before after : ℕ) → Rose before after → before ≤ after
Rose-le before after (inl h) = omega arith
Rose-le before after (inr h) = omega arith

pub Rose-raised : (count : ℕ) → count ≤ last_count → Rose count (raised count)
Rose-raised count h = grind arith

-- the number of a call, and the call with a number
number : DiskCall → ℕ
number SavedLen = 0
number SavedAt = 1
number SwapLen = 2
number SwapAt = 3
number Append = 4
number Sync = 5
number Replace = 6
number Reset = 7

call_at : ℕ → DiskCall
call_at n = slice_index_or (SavedLen ∷ SavedAt ∷ SwapLen ∷ SwapAt ∷ Append ∷ Sync ∷ Replace ∷ []) n Reset

call_at-number : (call : DiskCall) → call_at (number call) ≡ call
unfolding number call_at
call_at-number SavedLen = refl
call_at-number SavedAt = refl
call_at-number SwapLen = refl
call_at-number SwapAt = refl
call_at-number Append = refl
call_at-number Sync = refl
call_at-number Replace = refl
call_at-number Reset = refl

same_number : (m n : ℕ) → (m ≡ n) ⊎ (m ≢ n)
same_number m n = grind arith

-- two calls are one, or they are not
pub same_call : (a b : DiskCall) → (a ≡ b) ⊎ (a ≢ b)
same_call a b =
    elim (same_number (number a) (number b)) [
      | inl e ↦ inl (sym (call_at-number a) ∙ ap call_at e ∙ call_at-number b)
      | inr ne ↦ inr (λ e. ne (ap number e))
    ]

-- no count fell where one rose and the others stay
pub NoneFell-rose : (one : DiskCall) (before after : DiskCall → ℕ) → Rose (before one) (after one) → OthersStay one before after → NoneFell before after
NoneFell-rose one before after rose others call =
    elim (same_call call one) [ inl e ↦ rw e (Rose-le _ _ rose) | inr ne ↦ omega (arith, others call ne) ]

pub NoneFell-stay : (before after : DiskCall → ℕ) → AllStay before after → NoneFell before after
NoneFell-stay before after stay call = omega (arith, stay call)

-- one count is at most the sum of all
pub total-count : (counts : DiskCall → ℕ) (call : DiskCall) → counts call ≤ total counts
total-count counts SavedLen = omega arith
total-count counts SavedAt = omega arith
total-count counts SwapLen = omega arith
total-count counts SwapAt = omega arith
total-count counts Append = omega arith
total-count counts Sync = omega arith
total-count counts Replace = omega arith
total-count counts Reset = omega arith

pub total-stay : (before after : DiskCall → ℕ) → AllStay before after → total after ≡ total before
total-stay before after stay =
    omega (arith, stay SavedLen, stay SavedAt, stay SwapLen, stay SwapAt, stay Append, stay Sync, stay Replace, stay Reset)

-- the sum rises by one with one of the counts
pub total-raise : (one : DiskCall) (before after : DiskCall → ℕ) → after one ≡ before one + 1 → OthersStay one before after → total after ≡ total before + 1
total-raise SavedLen before after more others = omega (arith, more, others SavedAt (λ e. cc), others SwapLen (λ e. cc), others SwapAt (λ e. cc), others Append (λ e. cc), others Sync (λ e. cc), others Replace (λ e. cc), others Reset (λ e. cc))
total-raise SavedAt before after more others = omega (arith, more, others SavedLen (λ e. cc), others SwapLen (λ e. cc), others SwapAt (λ e. cc), others Append (λ e. cc), others Sync (λ e. cc), others Replace (λ e. cc), others Reset (λ e. cc))
total-raise SwapLen before after more others = omega (arith, more, others SavedLen (λ e. cc), others SavedAt (λ e. cc), others SwapAt (λ e. cc), others Append (λ e. cc), others Sync (λ e. cc), others Replace (λ e. cc), others Reset (λ e. cc))
total-raise SwapAt before after more others = omega (arith, more, others SavedLen (λ e. cc), others SavedAt (λ e. cc), others SwapLen (λ e. cc), others Append (λ e. cc), others Sync (λ e. cc), others Replace (λ e. cc), others Reset (λ e. cc))
total-raise Append before after more others = omega (arith, more, others SavedLen (λ e. cc), others SavedAt (λ e. cc), others SwapLen (λ e. cc), others SwapAt (λ e. cc), others Sync (λ e. cc), others Replace (λ e. cc), others Reset (λ e. cc))
total-raise Sync before after more others = omega (arith, more, others SavedLen (λ e. cc), others SavedAt (λ e. cc), others SwapLen (λ e. cc), others SwapAt (λ e. cc), others Append (λ e. cc), others Replace (λ e. cc), others Reset (λ e. cc))
total-raise Replace before after more others = omega (arith, more, others SavedLen (λ e. cc), others SavedAt (λ e. cc), others SwapLen (λ e. cc), others SwapAt (λ e. cc), others Append (λ e. cc), others Sync (λ e. cc), others Reset (λ e. cc))
total-raise Reset before after more others = omega (arith, more, others SavedLen (λ e. cc), others SavedAt (λ e. cc), others SwapLen (λ e. cc), others SwapAt (λ e. cc), others Append (λ e. cc), others Sync (λ e. cc), others Replace (λ e. cc))
