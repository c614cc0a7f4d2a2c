-- A front of some written transactions is whole ones and less than one more.
use Rattle.std.proofs.Common.{◌≡◌, ◌⊎◌, ℕ, zero, suc, ◌+◌, ◌-◌, ◌<◌, ◌≤◌, List, [], ◌∷◌, ◌++◌, length, take, drop, subst, Option, Some, None, refl, sym, ap, ◌∙◌, append_assoc, append-nil, arith, inl, inr}
use Rattle.std.specs.List.{flat_map}
use Rattle.std.proofs.lemmas.Bool.{cases_lt}
use Rattle.std.proofs.lemmas.List.{length-append, take-append-le, take-append-drop, length-take}
use Rattle.std.proofs.Math.Seq.{take-nil, take-append-add}
use Rattle.kte_text.specs.Primitives.{after_all}
use Rattle.kte_text.specs.declared.primitive.Primitive.{Primitive}
use Rattle.kte_record.specs.Grammar.{starts, spelling, IsCutShort}
use Rattle.kte_record.specs.Transactions.{record_of, records, transaction, joined, FitOneByOne}
use Rattle.kte_record.specs.Recovery.{opening, begun_primitives, read_primitives, Reads, Counts, IsClean, IsTorn}
use Rattle.kte_record.proofs.TransactionLemmas.{AreWritable, writable-front, writable-back, writable-join, fit-front, fit-back, fit-join, after_all-join}

-- no bytes are the front of a record
pub nothing_cut : IsCutShort []
nothing_cut = record { item = starts; is_record = tt; missing = 0x53 ∷ []; some = omega arith; spelled = refl }

-- records cut at a number of bytes: whole ones, and less than one more
record RecordsCut (ps : List Primitive) (n : ℕ) : Type 0 where
  pub front : List Primitive
  pub back : List Primitive
  pub part : List ℕ
  pub parts : ps ≡ front ++ back
  pub cut : take n (records ps) ≡ records front ++ part
  pub short : IsCutShort part

cut_records : (ps : List Primitive) (n : ℕ) → AreWritable ps → RecordsCut ps n
cut_records [] n h = record { front = []; back = []; part = []; parts = refl; cut = take-nil n; short = nothing_cut }
cut_records (p ∷ ps) n h =
    let s = spelling (record_of p) in
    let rest = records ps in
    elim (cases_lt n (length s)) [
      | inl lt ↦
          record {
            front = [];
            back = p ∷ ps;
            part = take n s;
            parts = refl;
            cut = take-append-le n s rest (omega (arith, lt));
            short = record {
              item = record_of p;
              is_record = h.0.is_record;
              missing = drop n s;
              some = omega (arith, ap length (take-append-drop n s), length-append (take n s) (drop n s), length-take n s, lt);
              spelled = sym (take-append-drop n s);
            };
          }
      | inr le ↦
          let r = cut_records ps (n - length s) h.1 in
          let at : n ≡ length s + (n - length s) = omega (arith, le) in
          record {
            front = p ∷ r.front;
            back = r.back;
            part = r.part;
            parts = ap (λ (l : List Primitive). p ∷ l) r.parts;
            cut = ap (λ (k : ℕ). take k (s ++ rest)) at ∙ take-append-add s rest (n - length s) ∙ ap (λ (l : List ℕ). s ++ l) r.cut ∙ sym (append_assoc s (records r.front) r.part);
            short = r.short;
          }
    ]

-- one whole transaction before
pub one_more : (text : List (List ℕ)) (t : List Primitive) (body : List ℕ) (done : List (List Primitive)) (begun : Option (List Primitive)) (rest : List ℕ)
    → AreWritable t → FitOneByOne t text → Reads (after_all t text) body done begun rest → Reads text (transaction t ++ body) (t ∷ done) begun rest
one_more text t body done begun rest writable fit r = record {
  parts = ap (λ (l : List ℕ). transaction t ++ l) r.parts ∙ sym (append_assoc (transaction t) (flat_map transaction done) (opening begun ++ rest));
  writable = subst AreWritable (sym (append_assoc t (joined done) (begun_primitives begun))) (writable-join t (read_primitives done begun) writable r.writable);
  fit = subst (λ (l : List Primitive). FitOneByOne l text) (sym (append_assoc t (joined done) (begun_primitives begun))) (fit-join t (read_primitives done begun) text fit r.fit);
}

counts_more : (text : List (List ℕ)) (t : List Primitive) (done : List (List Primitive)) (count : ℕ) (result : List (List ℕ))
    → Counts (after_all t text) done count result → Counts text (t ∷ done) (suc count) result
counts_more text t done count result c = record {
  count_is = omega (arith, c.count_is);
  result_is = c.result_is ∙ sym (after_all-join t (joined done) text);
}

clean_more : (text : List (List ℕ)) (t : List Primitive) (body : List ℕ) (count : ℕ) (result : List (List ℕ)) → AreWritable t → FitOneByOne t text
    → IsClean (after_all t text) body count result → IsClean text (transaction t ++ body) (suc count) result
clean_more text t body count result writable fit j = record {
  done = t ∷ j.done;
  reads = one_more text t body j.done None [] writable fit j.reads;
  counts = counts_more text t j.done count result j.counts;
}

torn_more : (text : List (List ℕ)) (t : List Primitive) (body : List ℕ) (count : ℕ) (result : List (List ℕ)) → AreWritable t → FitOneByOne t text
    → IsTorn (after_all t text) body count result → IsTorn text (transaction t ++ body) (suc count) result
torn_more text t body count result writable fit j = record {
  done = t ∷ j.done;
  begun = j.begun;
  rest = j.rest;
  reads = one_more text t body j.done j.begun j.rest writable fit j.reads;
  cut = j.cut;
  some = j.some;
  counts = counts_more text t j.done count result j.counts;
}

-- less than the first transaction
inside : (text : List (List ℕ)) (t : List Primitive) (rest : List ℕ) (m : ℕ) → AreWritable t → FitOneByOne t text → suc m < length (transaction t)
    → IsTorn text (take (suc m) (transaction t ++ rest)) 0 text
inside text t rest m writable fit lt =
    let c = cut_records t m writable in
    let len : length (transaction t) ≡ suc (length (records t) + 1) = ap suc (length-append (records t) (0x45 ∷ [])) in
    let bytes : take (suc m) (transaction t ++ rest) ≡ 0x53 ∷ (records c.front ++ c.part) =
    take-append-le (suc m) (transaction t) rest (omega (arith, lt))
    ∙ ap (λ (l : List ℕ). 0x53 ∷ l) (take-append-le m (records t) (0x45 ∷ []) (omega (arith, lt, len)) ∙ c.cut) in
    record {
      done = [];
      begun = Some c.front;
      rest = c.part;
      reads = record {
        parts = bytes;
        writable = writable-front c.front c.back (subst AreWritable c.parts writable);
        fit = fit-front c.front c.back text (subst (λ (l : List Primitive). FitOneByOne l text) c.parts fit);
      };
      cut = c.short;
      some = omega arith;
      counts = record { count_is = refl; result_is = refl };
    }

-- the bytes are whole transactions, or are cut after some
abbrev pub Comes : List (List ℕ) → List ℕ → ℕ → List (List ℕ) → Type 0
Comes text body count result = IsClean text body count result ⊎ IsTorn text body count result

comes_more : (text : List (List ℕ)) (t : List Primitive) (body : List ℕ) (count : ℕ) (result : List (List ℕ)) → AreWritable t → FitOneByOne t text
    → Comes (after_all t text) body count result → Comes text (transaction t ++ body) (suc count) result
comes_more text t body count result writable fit (inl j) = inl (clean_more text t body count result writable fit j)
comes_more text t body count result writable fit (inr j) = inr (torn_more text t body count result writable fit j)

-- a front of some transactions has a number of them whole, and all that are
pub record BodyCut (text : List (List ℕ)) (ts : List (List Primitive)) (n : ℕ) : Type 0 where
  pub count : ℕ
  pub most : count ≤ length ts
  pub whole : length (flat_map transaction (take count ts)) ≤ n
  pub least : (j : ℕ) → j ≤ length ts → length (flat_map transaction (take j ts)) ≤ n → j ≤ count
  pub comes : Comes text (take n (flat_map transaction ts)) count (after_all (joined (take count ts)) text)

nothing_read : (text : List (List ℕ)) (body : List ℕ) → body ≡ [] → IsClean text body 0 text
nothing_read text body e = record {
  done = [];
  reads = record { parts = e; writable = tt; fit = tt };
  counts = record { count_is = refl; result_is = refl };
}

pub cut_body : (ts : List (List Primitive)) (text : List (List ℕ)) (n : ℕ) → AreWritable (joined ts) → FitOneByOne (joined ts) text
    → n ≤ length (flat_map transaction ts) → BodyCut text ts n
cut_body [] text n writable fit le = record {
  count = 0;
  most = omega arith;
  whole = omega arith;
  least = λ j few within. few;
  comes = inl (nothing_read text (take n []) (take-nil n));
}
cut_body (t ∷ ts) text zero writable fit le = record {
  count = 0;
  most = omega arith;
  whole = omega arith;
  least = λ j few within. elim j as (λ j. length (flat_map transaction (take j (t ∷ ts))) ≤ 0 → j ≤ 0) [
    | zero ↦ λ _. omega arith
    | suc i ↦ λ w. absurd (omega (arith, w, length-append (transaction t) (flat_map transaction (take i ts))))
  ] within;
  comes = inl (nothing_read text [] refl);
}
cut_body (t ∷ ts) text (suc m) writable fit le =
    let s = transaction t in
    let first = writable-front t (joined ts) writable in
    let fits_first = fit-front t (joined ts) text fit in
    elim (cases_lt (suc m) (length s)) [
      | inl lt ↦
          record {
            count = 0;
            most = omega arith;
            whole = omega arith;
            least = λ j few within. elim j as (λ j. length (flat_map transaction (take j (t ∷ ts))) ≤ suc m → j ≤ 0) [
              | zero ↦ λ _. omega arith
              | suc i ↦ λ w. absurd (omega (arith, w, lt, length-append s (flat_map transaction (take i ts))))
            ] within;
            comes = inr (inside text t (flat_map transaction ts) m first fits_first lt);
          }
      | inr long ↦
          let rest = flat_map transaction ts in
          let n = suc m - length s in
          let r = cut_body ts (after_all t text) n (writable-back t (joined ts) writable) (fit-back t (joined ts) text fit) (omega (arith, le, long, length-append s rest)) in
          let at : suc m ≡ length s + n = omega (arith, long) in
          let bytes : take (suc m) (s ++ rest) ≡ s ++ take n rest = ap (λ (k : ℕ). take k (s ++ rest)) at ∙ take-append-add s rest n in
          let text_is = sym (after_all-join t (joined (take r.count ts)) text) in
          record {
            count = suc r.count;
            most = omega (arith, r.most);
            whole = omega (arith, r.whole, at, length-append s (flat_map transaction (take r.count ts)));
            least = λ j few within. elim j as (λ j. j ≤ suc (length ts) → length (flat_map transaction (take j (t ∷ ts))) ≤ suc m → j ≤ suc r.count) [
              | zero ↦ λ _ _. omega arith
              | suc i ↦ λ f w. omega (arith, r.least i (omega (arith, f)) (omega (arith, w, at, length-append s (flat_map transaction (take i ts)))))
            ] few within;
            comes = subst (λ (b : List ℕ). Comes text b (suc r.count) (after_all (joined (take (suc r.count) (t ∷ ts))) text)) (sym bytes)
                (subst (λ (x : List (List ℕ)). Comes text (s ++ take n rest) (suc r.count) x) text_is
                (comes_more text t (take n rest) r.count _ first fits_first r.comes));
          }
    ]

-- all transactions
pub whole_body : (ts : List (List Primitive)) (text : List (List ℕ)) → AreWritable (joined ts) → FitOneByOne (joined ts) text
    → IsClean text (flat_map transaction ts) (length ts) (after_all (joined ts) text)
whole_body ts text writable fit = record {
  done = ts;
  reads = record {
    parts = sym (append-nil (flat_map transaction ts));
    writable = subst AreWritable (sym (append-nil (joined ts))) writable;
    fit = subst (λ (l : List Primitive). FitOneByOne l text) (sym (append-nil (joined ts))) fit;
  };
  counts = record { count_is = refl; result_is = refl };
}
