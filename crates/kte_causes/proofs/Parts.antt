-- Lemmas on bytes that are taken or added in several parts.
use Rattle.std.proofs.Common.{◌≡◌, ℕ, ◌+◌, ◌-◌, ◌≤◌, List, [], ◌++◌, length, take, drop, subst, Option, Some, None, IfSome, refl, sym, ap, ◌∙◌, append_assoc, append-nil, length-append, arith}
use Rattle.std.proofs.lemmas.List.{take-append-drop}
use Rattle.std.proofs.Math.Seq.{take-append_seam, take-add, drop-drop}
use Rattle.std.proofs.lemmas.Grind.{common_steps}
use Rattle.std.specs.Io.KnownBytes.{Consumes, Appends, Keeps, IsAtEnd}

pub Keeps-refl : (x : Option (List ℕ)) → Keeps x x
Keeps-refl None = tt
Keeps-refl (Some xs) = refl

pub Keeps-trans : (x y z : Option (List ℕ)) → Keeps x y → Keeps y z → Keeps x z
Keeps-trans None y z p q = tt
Keeps-trans (Some xs) None z p q = absurd p
Keeps-trans (Some xs) (Some ys) None p q = q
Keeps-trans (Some xs) (Some ys) (Some zs) p q = q ∙ p

-- nothing taken
pub Consumes-none : (x y : Option (List ℕ)) → Keeps x y → Consumes x y []
Consumes-none None y p = tt
Consumes-none (Some xs) None p = p
Consumes-none (Some xs) (Some ys) p = sym p

pub Consumes-nil : (x : Option (List ℕ)) → Consumes x x []
Consumes-nil x = Consumes-none x x (Keeps-refl x)

pub Consumes-more : (a b : List ℕ) (x y z : Option (List ℕ)) → Consumes x y a → Consumes y z b → Consumes x z (a ++ b)
Consumes-more a b None y z p q = tt
Consumes-more a b (Some xs) None z p q = absurd p
Consumes-more a b (Some xs) (Some ys) None p q = q
Consumes-more a b (Some xs) (Some ys) (Some zs) p q = p ∙ ap (λ rest. a ++ rest) q ∙ sym (append_assoc a b zs)

-- bytes taken after a time at which they stayed
pub Consumes-kept : (a : List ℕ) (x y z : Option (List ℕ)) → Keeps x y → Consumes y z a → Consumes x z a
Consumes-kept a x y z p q = Consumes-more [] a x y z (Consumes-none x y p) q

-- what was taken is all that was left, where nothing is left
pub Consumes-all : (a : List ℕ) (x y : Option (List ℕ)) → Consumes x y a → IsAtEnd y → IfSome x (λ left. a ≡ left)
Consumes-all a None y p h = tt
Consumes-all a (Some xs) None p h = absurd p
Consumes-all a (Some xs) (Some ys) p h = sym (p ∙ ap (λ rest. a ++ rest) h ∙ append-nil a)

-- how many bytes were taken
pub Consumes-length : (a : List ℕ) (x y : Option (List ℕ)) → Consumes x y a → IfSome x (λ before. IfSome y (λ after. length before ≡ length a + length after))
Consumes-length a None y p = tt
Consumes-length a (Some xs) None p = tt
Consumes-length a (Some xs) (Some ys) p = ap length p ∙ length-append a ys

pub Appends-nil : (x y : Option (List ℕ)) → Keeps x y → Appends x y []
Appends-nil None y p = tt
Appends-nil (Some xs) None p = p
Appends-nil (Some xs) (Some ys) p = p ∙ sym (append-nil xs)

pub Appends-more : (a b : List ℕ) (x y z : Option (List ℕ)) → Appends x y a → Appends y z b → Appends x z (a ++ b)
Appends-more a b None y z p q = tt
Appends-more a b (Some xs) None z p q = absurd p
Appends-more a b (Some xs) (Some ys) None p q = q
Appends-more a b (Some xs) (Some ys) (Some zs) p q = q ∙ ap (λ got. got ++ b) p ∙ append_assoc xs a b

-- bytes added after a time at which they stayed
pub Appends-kept : (a : List ℕ) (x y z : Option (List ℕ)) → Keeps x y → Appends y z a → Appends x z a
Appends-kept a x y z p q = Appends-more [] a x y z (Appends-nil x y p) q

-- bytes that stay after some were added
pub Appends-then_kept : (a : List ℕ) (x y z : Option (List ℕ)) → Appends x y a → Keeps y z → Appends x z a
Appends-then_kept a x y z p q = subst (Appends x z) (append-nil a) (Appends-more a [] x y z p (Appends-nil y z q))

-- what was copied from the front, and the rest, are what was left
pub front_and_rest : (n at : ℕ) (bytes piece rest : List ℕ) → length piece ≡ n → piece ≡ take n (drop at bytes) → drop at bytes ≡ take n (piece ++ rest) ++ drop (at + n) bytes
front_and_rest n at bytes piece rest len copied =
    let front : take n (piece ++ rest) ≡ piece = subst (λ k. take k (piece ++ rest) ≡ piece) len (take-append_seam piece rest) in
    sym (take-append-drop n (drop at bytes)) ∙ ap (λ l. take n (drop at bytes) ++ l) (drop-drop n at bytes)
    ∙ ap (λ l. l ++ drop (at + n) bytes) (sym (front ∙ copied))

-- the part of a slice that was added after its first part
pub Appends-next : (w n : ℕ) (bytes : List ℕ) (x y z : Option (List ℕ)) → w ≤ length bytes → Appends x y (take w bytes) → Appends y z (take n (take (length bytes - w) (drop w bytes))) → Appends x z (take (w + n) bytes)
Appends-next w n bytes x y z h p q =
    let rest : take (length bytes - w) (drop w bytes) ≡ drop w bytes = grind (arith, common_steps) in
    let next : Appends y z (take n (drop w bytes)) = rw rest at q in
    rw (take-add w n bytes) (Appends-more _ _ x y z p next)
