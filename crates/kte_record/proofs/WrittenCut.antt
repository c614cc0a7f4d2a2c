-- A front of a written swap file.
use Rattle.std.proofs.Common.{◌≡◌, ◌≢◌, ℕ, zero, suc, ◌+◌, ◌-◌, ◌<◌, ◌≤◌, List, [], ◌∷◌, ◌++◌, length, take, min, refl, sym, ap, ◌∙◌, append_assoc, arith, inl, inr}
use Rattle.std.specs.List.{flat_map}
use Rattle.std.proofs.lemmas.Bool.{cases_lt}
use Rattle.std.proofs.lemmas.List.{length-append, length-take, take-take}
use Rattle.std.proofs.Math.Seq.{take-nil, take-append-add}
use Rattle.kte_text.specs.Primitives.{after_all}
use Rattle.kte_text.specs.declared.primitive.Primitive.{Primitive}
use Rattle.kte_record.specs.Grammar.{version_bytes, header, HasVersion, HasHeader}
use Rattle.kte_record.specs.Transactions.{transaction, joined, FitOneByOne, written, written_from}
use Rattle.kte_record.specs.Recovery.{clean, torn, changed, AnswersBeside, Recovers}
use Rattle.kte_record.specs.Cuts.{CutRecovers}
use Rattle.kte_record.proofs.HeaderLemmas.{version_by_front, front_by_version, version_by_header}
use Rattle.kte_record.proofs.TransactionLemmas.{AreWritable}
use Rattle.kte_record.proofs.Cut.{cut_body, whole_body, Comes}

rest_is : (n : ℕ) (d : List ℕ) (ts : List (List Primitive)) → written_from (suc n) d ts ≡ flat_map transaction ts
rest_is n d [] = refl
rest_is n d (t ∷ ts) = ap (λ (l : List ℕ). transaction t ++ l) (rest_is (suc n) d ts)

pub written_is : (d : List ℕ) (t : List Primitive) (ts : List (List Primitive)) → written d (t ∷ ts) ≡ header d ++ flat_map transaction (t ∷ ts)
written_is d t ts =
    append_assoc (header d) (transaction t) (written_from 1 d ts)
    ∙ ap (λ (l : List ℕ). header d ++ (transaction t ++ l)) (rest_is 0 d ts)

length-header : (d : List ℕ) → length d ≡ 20 → length (header d) ≡ 46
length-header d e = length-append version_bytes d ∙ omega (arith, e)

-- a front of bytes with the version has it
version_of_front : (n : ℕ) (bytes : List ℕ) → HasVersion bytes → HasVersion (take n bytes)
version_of_front n bytes v =
    let few = min (length (take n bytes)) 26 in
    let most = min (length bytes) 26 in
    let long = length-take n bytes in
    version_by_front (take n bytes) few refl
    (take-take few n bytes (omega (arith, long))
    ∙ sym (take-take few most bytes (omega (arith, long)))
    ∙ ap (take few) (front_by_version bytes most refl v)
    ∙ take-take few most version_bytes (omega (arith, long)))

some_front : (n : ℕ) (bytes : List ℕ) → 0 < n → n ≤ length bytes → take n bytes ≢ []
some_front n bytes some le e = omega (arith, some, le, ap length e, length-take n bytes)

recovers : (text : List (List ℕ)) (d swap : List ℕ) (count : ℕ) (result : List (List ℕ)) → (h : HasHeader swap d) → Comes text h.rest count result
    → swap ≢ [] → Recovers text d swap result
recovers text d swap count result h (inl j) some = inr (clean count result, some, (h, j), refl)
recovers text d swap count result h (inr j) some = inr (torn count result, some, inr (h, j), refl)

pub written_recovers : (ts : List (List Primitive)) (d : List ℕ) (text : List (List ℕ)) → length d ≡ 20 → 0 < length ts
    → AreWritable (joined ts) → FitOneByOne (joined ts) text
    → AnswersBeside text d (written d ts) (clean (length ts) (after_all (joined ts) text))
written_recovers [] d text len some writable fit = absurd (omega (arith, some))
written_recovers (t ∷ ts) d text len some writable fit =
    (record { long = len; rest = flat_map transaction (t ∷ ts); spelled = written_is d t ts }, whole_body (t ∷ ts) text writable fit)

pub other_stands : (kept d body : List ℕ) (text : List (List ℕ)) → length kept ≡ 20 → kept ≢ d → Recovers text d (header kept ++ body) text
other_stands kept d body text len other =
    inr (
      changed kept d,
      (λ e. omega (arith, ap length e)),
      (record { long = len; rest = body; spelled = refl }, other, refl),
      refl,
    )

pub written_cut : (ts : List (List Primitive)) (d : List ℕ) (text : List (List ℕ)) (n : ℕ) → length d ≡ 20
    → AreWritable (joined ts) → FitOneByOne (joined ts) text → n ≤ length (written d ts) → CutRecovers text d ts n
written_cut [] d text n len writable fit le = record {
  count = 0;
  most = omega arith;
  whole = omega arith;
  least = λ j few within. few;
  recovers = inl (take-nil n, refl);
}
written_cut (t ∷ ts) d text zero len writable fit le =
    let at_front : (i : ℕ) → length (written d (take (suc i) (t ∷ ts))) ≡ 46 + length (flat_map transaction (take (suc i) (t ∷ ts))) =
    λ i. ap length (written_is d t (take i ts)) ∙ length-append (header d) (flat_map transaction (take (suc i) (t ∷ ts))) ∙ omega (arith, length-header d len) in
    record {
      count = 0;
      most = omega arith;
      whole = omega arith;
      least = λ j few within. elim j as (λ j. length (written d (take j (t ∷ ts))) ≤ 0 → j ≤ 0) [
        | zero ↦ λ _. omega arith
        | suc i ↦ λ h. absurd (omega (arith, h, at_front i))
      ] within;
      recovers = inl (refl, refl);
    }
written_cut (t ∷ ts) d text (suc k) len writable fit le =
    let n = suc k in
    let w = written_is d t ts in
    let body = flat_map transaction (t ∷ ts) in
    let long = length-header d len in
    let whole : length (written d (t ∷ ts)) ≡ 46 + length body = ap length w ∙ length-append (header d) body ∙ omega (arith, long) in
    let some = some_front n (written d (t ∷ ts)) (omega arith) le in
    let at_front : (i : ℕ) → length (written d (take (suc i) (t ∷ ts))) ≡ 46 + length (flat_map transaction (take (suc i) (t ∷ ts))) =
    λ i. ap length (written_is d t (take i ts)) ∙ length-append (header d) (flat_map transaction (take (suc i) (t ∷ ts))) ∙ omega (arith, long) in
    elim (cases_lt n 46) [
      | inl lt ↦
          record {
            count = 0;
            most = omega arith;
            whole = omega arith;
            least = λ j few within. elim j as (λ j. length (written d (take j (t ∷ ts))) ≤ n → j ≤ 0) [
              | zero ↦ λ _. omega arith
              | suc i ↦ λ h. absurd (omega (arith, h, lt, at_front i))
            ] within;
            recovers = inr (
              torn 0 text,
              some,
              inl (
                record {
                  version = version_of_front n (written d (t ∷ ts)) (version_by_header (written d (t ∷ ts)) d (record { long = len; rest = body; spelled = w }));
                  short = omega (arith, length-take n (written d (t ∷ ts)), lt);
                  some = some;
                },
                refl,
                refl,
              ),
              refl,
            );
          }
      | inr ge ↦
          let m = n - 46 in
          let c = cut_body (t ∷ ts) text m writable fit (omega (arith, le, whole, ge)) in
          let at : n ≡ length (header d) + m = omega (arith, ge, long) in
          let bytes : take n (written d (t ∷ ts)) ≡ header d ++ take m body =
          ap (λ (l : List ℕ). take n l) w ∙ ap (λ (k : ℕ). take k (header d ++ body)) at ∙ take-append-add (header d) body m in
          record {
            count = c.count;
            most = c.most;
            whole = elim c.count as (λ k. length (flat_map transaction (take k (t ∷ ts))) ≤ m → length (written d (take k (t ∷ ts))) ≤ n) [
              | zero ↦ λ _. omega arith
              | suc i ↦ λ h. omega (arith, h, ge, at_front i)
            ] c.whole;
            least = λ j few within. elim j as (λ j. j ≤ suc (length ts) → length (written d (take j (t ∷ ts))) ≤ n → j ≤ c.count) [
              | zero ↦ λ _ _. omega arith
              | suc i ↦ λ f h. c.least (suc i) f (omega (arith, h, ge, at_front i))
            ] few within;
            recovers = recovers text d (take n (written d (t ∷ ts))) c.count _ (record { long = len; rest = take m body; spelled = bytes }) c.comes some;
          }
    ]
