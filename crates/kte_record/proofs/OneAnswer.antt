-- A saved file and a swap file have one answer.
use Rattle.std.proofs.Common.{◌≡◌, ◌≢◌, ℕ, List, [], ◌++◌, length, drop, subst, Option, None, refl, sym, ap, ◌∙◌, arith, inl, inr}
use Rattle.std.proofs.lemmas.List.{length-append, drop_at}
use Rattle.kte_text.specs.Digests.{digest_of}
use Rattle.kte_text.specs.Primitives.{after_all}
use Rattle.kte_text.specs.declared.loading.Loaded.{Loaded}
use Rattle.kte_text.specs.declared.primitive.Primitive.{Primitive}
use Rattle.kte_text.proofs.FileLemmas.{Loads_same, Refuses_same}
use Rattle.kte_record.specs.Grammar.{version_bytes, header, IsCutShort, HasVersion, HasHeader}
use Rattle.kte_record.specs.Transactions.{joined}
use Rattle.kte_record.specs.Recovery.{opening, IsAtFault, Counts, IsClean, IsTorn, IsDamaged, IsCutHeader, Answer, no_swap, refused, version, changed, damaged, torn, clean, AnswersBeside, AnswersLoaded, Answers}
use Rattle.kte_record.proofs.RecordLemmas.{cut_not_whole, unknown_not_cut}
use Rattle.kte_record.proofs.HeaderLemmas.{version_by_header, length_by_header, one_digest}
use Rattle.kte_record.proofs.OneReading.{one_reading}
use Rattle.kte_record.proofs.Cut.{nothing_cut}

-- bytes that are at fault are not cut short
fault_not_cut : (text : List (List ℕ)) (begun : Option (List Primitive)) (rest : List ℕ) → IsAtFault text begun rest → IsCutShort rest → ⊥
fault_not_cut text begun rest (inl unknown) cut = unknown_not_cut rest unknown cut
fault_not_cut text begun rest (inr at) cut = cut_not_whole rest at.0 cut at.1

counts_same : (text : List (List ℕ)) (ts us : List (List Primitive)) (n m : ℕ) (x y : List (List ℕ)) → ts ≡ us
    → Counts text ts n x → Counts text us m y → (n ≡ m) × (x ≡ y)
counts_same text ts us n m x y e p q = (
  p.count_is ∙ ap length e ∙ sym q.count_is,
  p.result_is ∙ ap (λ (l : List (List Primitive)). after_all (joined l) text) e ∙ sym q.result_is,
)

-- the bytes have one header and one rest
one_header : (swap kept digest : List ℕ) (a : HasHeader swap kept) (b : HasHeader swap digest) → (kept ≡ digest) × (a.rest ≡ b.rest)
one_header swap kept digest a b =
    let long : (d : List ℕ) → length d ≡ 20 → length (header d) ≡ 46 = λ d e. length-append version_bytes d ∙ omega (arith, e) in (
      sym (one_digest swap kept a) ∙ one_digest swap digest b,
      sym (drop_at (header kept) a.rest 46 (long kept a.long)) ∙ ap (drop 46) (sym a.spelled ∙ b.spelled) ∙ drop_at (header digest) b.rest 46 (long digest b.long),
    )

cut_not_header : (swap digest : List ℕ) → IsCutHeader swap → HasHeader swap digest → ⊥
cut_not_header swap digest c h = omega (arith, c.short, length_by_header swap digest h)

torn_version : (text : List (List ℕ)) (d swap : List ℕ) (n : ℕ) (x : List (List ℕ)) → AnswersBeside text d swap (torn n x) → HasVersion swap
torn_version text d swap n x (inl p) = p.0.version
torn_version text d swap n x (inr p) = version_by_header swap d p.0

other_not_torn : (text : List (List ℕ)) (d swap kept : List ℕ) (n : ℕ) (x : List (List ℕ)) → HasHeader swap kept → kept ≢ d
    → AnswersBeside text d swap (torn n x) → ⊥
other_not_torn text d swap kept n x h other (inl p) = cut_not_header swap kept p.0 h
other_not_torn text d swap kept n x h other (inr p) = other (one_header swap kept d h p.0).0

clean_same : (text : List (List ℕ)) (swap d : List ℕ) (a b : HasHeader swap d) (n m : ℕ) (x y : List (List ℕ))
    → IsClean text a.rest n x → IsClean text b.rest m y → (n ≡ m) × (x ≡ y)
clean_same text swap d a b n m x y p q₀ =
    let q = subst (λ (body : List ℕ). IsClean text body m y) (sym (one_header swap d d a b).1) q₀ in
    let same = one_reading text a.rest p.done q.done None None [] [] p.reads q.reads (inl nothing_cut) (inl nothing_cut) in
    counts_same text p.done q.done n m x y same.0 p.counts q.counts

torn_same_body : (text : List (List ℕ)) (swap d : List ℕ) (a b : HasHeader swap d) (n m : ℕ) (x y : List (List ℕ))
    → IsTorn text a.rest n x → IsTorn text b.rest m y → (n ≡ m) × (x ≡ y)
torn_same_body text swap d a b n m x y p q₀ =
    let q = subst (λ (body : List ℕ). IsTorn text body m y) (sym (one_header swap d d a b).1) q₀ in
    let same = one_reading text a.rest p.done q.done p.begun q.begun p.rest q.rest p.reads q.reads (inl p.cut) (inl q.cut) in
    counts_same text p.done q.done n m x y same.0 p.counts q.counts

torn_same : (text : List (List ℕ)) (d swap : List ℕ) (n m : ℕ) (x y : List (List ℕ)) → AnswersBeside text d swap (torn n x) → AnswersBeside text d swap (torn m y)
    → (n ≡ m) × (x ≡ y)
torn_same text d swap n m x y (inl p) (inl q) = (p.1 ∙ sym q.1, p.2 ∙ sym q.2)
torn_same text d swap n m x y (inl p) (inr q) = absurd (cut_not_header swap d p.0 q.0)
torn_same text d swap n m x y (inr p) (inl q) = absurd (cut_not_header swap d q.0 p.0)
torn_same text d swap n m x y (inr p) (inr q) = torn_same_body text swap d p.0 q.0 n m x y p.1 q.1

damaged_same : (text : List (List ℕ)) (swap d : List ℕ) (a b : HasHeader swap d) (at at₂ n m : ℕ) (x y : List (List ℕ))
    → IsDamaged text a.rest at n x → IsDamaged text b.rest at₂ m y → (at ≡ at₂) × (n ≡ m) × (x ≡ y)
damaged_same text swap d a b at at₂ n m x y p q₀ =
    let q = subst (λ (body : List ℕ). IsDamaged text body at₂ m y) (sym (one_header swap d d a b).1) q₀ in
    let same = one_reading text a.rest p.done q.done p.begun q.begun p.rest q.rest p.reads q.reads (inr p.fault) (inr q.fault) in
    let c = counts_same text p.done q.done n m x y same.0 p.counts q.counts in
    (omega (arith, p.place, q.place, ap length same.2), c.0, c.1)

torn_not_clean : (text : List (List ℕ)) (d swap : List ℕ) (n m : ℕ) (x y : List (List ℕ)) → AnswersBeside text d swap (torn n x)
    → AnswersBeside text d swap (clean m y) → ⊥
torn_not_clean text d swap n m x y (inl p) q = cut_not_header swap d p.0 q.0
torn_not_clean text d swap n m x y (inr (h, p)) (k, q₀) =
    let q = subst (λ (body : List ℕ). IsClean text body m y) (sym (one_header swap d d h k).1) q₀ in
    let same = one_reading text h.rest p.done q.done p.begun None p.rest [] p.reads q.reads (inl p.cut) (inl nothing_cut) in
    let none : opening p.begun ++ p.rest ≡ [] =
    ap (λ (b : Option (List Primitive)). opening b ++ p.rest) same.1 ∙ same.2 in
    omega (arith, p.some, ap length none)

torn_not_damaged : (text : List (List ℕ)) (d swap : List ℕ) (n at m : ℕ) (x y : List (List ℕ)) → AnswersBeside text d swap (torn n x)
    → AnswersBeside text d swap (damaged at m y) → ⊥
torn_not_damaged text d swap n at m x y (inl p) q = cut_not_header swap d p.0 q.0
torn_not_damaged text d swap n at m x y (inr (h, p)) (k, q₀) =
    let q = subst (λ (body : List ℕ). IsDamaged text body at m y) (sym (one_header swap d d h k).1) q₀ in
    let same = one_reading text h.rest p.done q.done p.begun q.begun p.rest q.rest p.reads q.reads (inl p.cut) (inr q.fault) in
    fault_not_cut _ q.begun q.rest q.fault (subst IsCutShort same.2 p.cut)

clean_not_damaged : (text : List (List ℕ)) (swap d : List ℕ) (a b : HasHeader swap d) (n at m : ℕ) (x y : List (List ℕ))
    → IsClean text a.rest n x → IsDamaged text b.rest at m y → ⊥
clean_not_damaged text swap d a b n at m x y p q₀ =
    let q = subst (λ (body : List ℕ). IsDamaged text body at m y) (sym (one_header swap d d a b).1) q₀ in
    let same = one_reading text a.rest p.done q.done None q.begun [] q.rest p.reads q.reads (inl nothing_cut) (inr q.fault) in
    fault_not_cut _ q.begun q.rest q.fault (subst IsCutShort same.2 nothing_cut)

beside_same : (text : List (List ℕ)) (d swap : List ℕ) (a b : Answer) → AnswersBeside text d swap a → AnswersBeside text d swap b → a ≡ b
beside_same text d swap no_swap b p q = absurd p
beside_same text d swap (refused fault) b p q = absurd p
beside_same text d swap a no_swap p q = absurd q
beside_same text d swap a (refused fault) p q = absurd q
beside_same text d swap version version p q = refl
beside_same text d swap version (changed kept₂ found₂) p q = absurd (p (version_by_header swap _ q.0))
beside_same text d swap version (damaged at₂ done₂ x₂) p q = absurd (p (version_by_header swap d q.0))
beside_same text d swap version (torn done₂ x₂) p q = absurd (p (torn_version text d swap _ _ q))
beside_same text d swap version (clean done₂ x₂) p q = absurd (p (version_by_header swap d q.0))
beside_same text d swap (changed kept found) version p q = absurd (q (version_by_header swap _ p.0))
beside_same text d swap (changed kept found) (changed kept₂ found₂) p q =
    let k = (one_header swap kept kept₂ p.0 q.0).0 in let f : found ≡ found₂ = p.2 ∙ sym q.2 in cc
beside_same text d swap (changed kept found) (damaged at₂ done₂ x₂) p q = absurd (p.1 (one_header swap kept d p.0 q.0).0)
beside_same text d swap (changed kept found) (torn done₂ x₂) p q = absurd (other_not_torn text d swap kept _ _ p.0 p.1 q)
beside_same text d swap (changed kept found) (clean done₂ x₂) p q = absurd (p.1 (one_header swap kept d p.0 q.0).0)
beside_same text d swap (damaged at done x) version p q = absurd (q (version_by_header swap d p.0))
beside_same text d swap (damaged at done x) (changed kept₂ found₂) p q = absurd (q.1 (one_header swap kept₂ d q.0 p.0).0)
beside_same text d swap (damaged at done x) (damaged at₂ done₂ x₂) p q =
    let s = damaged_same text swap d p.0 q.0 at at₂ done done₂ x x₂ p.1 q.1 in let k = s.0 in let n = s.1 in let t = s.2 in cc
beside_same text d swap (damaged at done x) (torn done₂ x₂) p q = absurd (torn_not_damaged text d swap _ _ _ _ _ q p)
beside_same text d swap (damaged at done x) (clean done₂ x₂) p q = absurd (clean_not_damaged text swap d q.0 p.0 _ _ _ _ _ q.1 p.1)
beside_same text d swap (torn done x) version p q = absurd (q (torn_version text d swap _ _ p))
beside_same text d swap (torn done x) (changed kept₂ found₂) p q = absurd (other_not_torn text d swap kept₂ _ _ q.0 q.1 p)
beside_same text d swap (torn done x) (damaged at₂ done₂ x₂) p q = absurd (torn_not_damaged text d swap _ _ _ _ _ p q)
beside_same text d swap (torn done x) (torn done₂ x₂) p q =
    let s = torn_same text d swap done done₂ x x₂ p q in let n = s.0 in let t = s.1 in cc
beside_same text d swap (torn done x) (clean done₂ x₂) p q = absurd (torn_not_clean text d swap _ _ _ _ p q)
beside_same text d swap (clean done x) version p q = absurd (q (version_by_header swap d p.0))
beside_same text d swap (clean done x) (changed kept₂ found₂) p q = absurd (q.1 (one_header swap kept₂ d q.0 p.0).0)
beside_same text d swap (clean done x) (damaged at₂ done₂ x₂) p q = absurd (clean_not_damaged text swap d p.0 q.0 _ _ _ _ _ p.1 q.1)
beside_same text d swap (clean done x) (torn done₂ x₂) p q = absurd (torn_not_clean text d swap _ _ _ _ q p)
beside_same text d swap (clean done x) (clean done₂ x₂) p q =
    let s = clean_same text swap d p.0 q.0 done done₂ x x₂ p.1 q.1 in let n = s.0 in let t = s.1 in cc

loaded_same : (saved swap : List ℕ) (a b : Answer) → AnswersLoaded saved swap a → AnswersLoaded saved swap b → a ≡ b
loaded_same saved swap a b p q =
    beside_same p.loaded.text (digest_of saved) swap a b p.beside
    (subst (λ (l : Loaded). AnswersBeside l.text (digest_of saved) swap b) (Loads_same saved q.loaded p.loaded q.loads p.loads) q.beside)

pub one_answer : (saved swap : List ℕ) (a b : Answer) → Answers saved swap a → Answers saved swap b → a ≡ b
one_answer saved swap no_swap no_swap p q = refl
one_answer saved swap no_swap (refused fault₂) p q = absurd (q.0 p)
one_answer saved swap no_swap version p q = absurd (q.0 p)
one_answer saved swap no_swap (changed kept₂ found₂) p q = absurd (q.0 p)
one_answer saved swap no_swap (damaged at₂ done₂ x₂) p q = absurd (q.0 p)
one_answer saved swap no_swap (torn done₂ x₂) p q = absurd (q.0 p)
one_answer saved swap no_swap (clean done₂ x₂) p q = absurd (q.0 p)
one_answer saved swap (refused fault) no_swap p q = absurd (p.0 q)
one_answer saved swap (refused fault) (refused fault₂) p q = ap refused (Refuses_same saved fault fault₂ p.1 q.1)
one_answer saved swap (refused fault) version p q = absurd (q.1.allowed fault p.1)
one_answer saved swap (refused fault) (changed kept₂ found₂) p q = absurd (q.1.allowed fault p.1)
one_answer saved swap (refused fault) (damaged at₂ done₂ x₂) p q = absurd (q.1.allowed fault p.1)
one_answer saved swap (refused fault) (torn done₂ x₂) p q = absurd (q.1.allowed fault p.1)
one_answer saved swap (refused fault) (clean done₂ x₂) p q = absurd (q.1.allowed fault p.1)
one_answer saved swap version no_swap p q = absurd (p.0 q)
one_answer saved swap version (refused fault₂) p q = absurd (p.1.allowed fault₂ q.1)
one_answer saved swap version version p q = loaded_same saved swap _ _ p.1 q.1
one_answer saved swap version (changed kept₂ found₂) p q = loaded_same saved swap _ _ p.1 q.1
one_answer saved swap version (damaged at₂ done₂ x₂) p q = loaded_same saved swap _ _ p.1 q.1
one_answer saved swap version (torn done₂ x₂) p q = loaded_same saved swap _ _ p.1 q.1
one_answer saved swap version (clean done₂ x₂) p q = loaded_same saved swap _ _ p.1 q.1
one_answer saved swap (changed kept found) no_swap p q = absurd (p.0 q)
one_answer saved swap (changed kept found) (refused fault₂) p q = absurd (p.1.allowed fault₂ q.1)
one_answer saved swap (changed kept found) version p q = loaded_same saved swap _ _ p.1 q.1
one_answer saved swap (changed kept found) (changed kept₂ found₂) p q = loaded_same saved swap _ _ p.1 q.1
one_answer saved swap (changed kept found) (damaged at₂ done₂ x₂) p q = loaded_same saved swap _ _ p.1 q.1
one_answer saved swap (changed kept found) (torn done₂ x₂) p q = loaded_same saved swap _ _ p.1 q.1
one_answer saved swap (changed kept found) (clean done₂ x₂) p q = loaded_same saved swap _ _ p.1 q.1
one_answer saved swap (damaged at done x) no_swap p q = absurd (p.0 q)
one_answer saved swap (damaged at done x) (refused fault₂) p q = absurd (p.1.allowed fault₂ q.1)
one_answer saved swap (damaged at done x) version p q = loaded_same saved swap _ _ p.1 q.1
one_answer saved swap (damaged at done x) (changed kept₂ found₂) p q = loaded_same saved swap _ _ p.1 q.1
one_answer saved swap (damaged at done x) (damaged at₂ done₂ x₂) p q = loaded_same saved swap _ _ p.1 q.1
one_answer saved swap (damaged at done x) (torn done₂ x₂) p q = loaded_same saved swap _ _ p.1 q.1
one_answer saved swap (damaged at done x) (clean done₂ x₂) p q = loaded_same saved swap _ _ p.1 q.1
one_answer saved swap (torn done x) no_swap p q = absurd (p.0 q)
one_answer saved swap (torn done x) (refused fault₂) p q = absurd (p.1.allowed fault₂ q.1)
one_answer saved swap (torn done x) version p q = loaded_same saved swap _ _ p.1 q.1
one_answer saved swap (torn done x) (changed kept₂ found₂) p q = loaded_same saved swap _ _ p.1 q.1
one_answer saved swap (torn done x) (damaged at₂ done₂ x₂) p q = loaded_same saved swap _ _ p.1 q.1
one_answer saved swap (torn done x) (torn done₂ x₂) p q = loaded_same saved swap _ _ p.1 q.1
one_answer saved swap (torn done x) (clean done₂ x₂) p q = loaded_same saved swap _ _ p.1 q.1
one_answer saved swap (clean done x) no_swap p q = absurd (p.0 q)
one_answer saved swap (clean done x) (refused fault₂) p q = absurd (p.1.allowed fault₂ q.1)
one_answer saved swap (clean done x) version p q = loaded_same saved swap _ _ p.1 q.1
one_answer saved swap (clean done x) (changed kept₂ found₂) p q = loaded_same saved swap _ _ p.1 q.1
one_answer saved swap (clean done x) (damaged at₂ done₂ x₂) p q = loaded_same saved swap _ _ p.1 q.1
one_answer saved swap (clean done x) (torn done₂ x₂) p q = loaded_same saved swap _ _ p.1 q.1
one_answer saved swap (clean done x) (clean done₂ x₂) p q = loaded_same saved swap _ _ p.1 q.1
