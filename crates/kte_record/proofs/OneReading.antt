-- The bytes after a header are read in one way only.
use Rattle.std.proofs.Common.{◌≡◌, ℕ, List, [], ◌∷◌, ◌++◌, subst, Option, Some, None, refl, sym, ap, ◌∙◌, append_assoc, inl, inr}
use Rattle.std.specs.List.{flat_map}
use Rattle.kte_text.specs.Primitives.{after, after_all, misfit}
use Rattle.kte_text.specs.declared.primitive.Primitive.{Primitive}
use Rattle.kte_record.specs.Grammar.{Item, starts, finishes, spelling, IsRecord}
use Rattle.kte_record.specs.Transactions.{record_of, IsWritable, records, transaction, joined, FitOneByOne}
use Rattle.kte_record.specs.Recovery.{opening, begun_primitives, read_primitives, Reads, MayCome, Stops}
use Rattle.kte_record.proofs.RecordLemmas.{one_record, cut_not_whole, unknown_not_whole}
use Rattle.kte_record.proofs.TransactionLemmas.{AreWritable, primitive_is, no_finish, writable-front, writable-back, fit-front, fit-back, after_all-join}

-- where reading stops no record begins that may come
pub goes_on : (text : List (List ℕ)) (begun : Option (List Primitive)) (rest : List ℕ) (item : Item) (more : List ℕ)
    → IsRecord item → MayCome begun item text → Stops text begun rest → rest ≡ spelling item ++ more → ⊥
goes_on text begun rest item more h may (inl short) e =
    cut_not_whole rest item short (record { is_record = h; rest = more; spelled = e })
goes_on text begun rest item more h may (inr (inl unknown)) e =
    unknown_not_whole rest item unknown (record { is_record = h; rest = more; spelled = e })
goes_on text begun rest item more h may (inr (inr at)) e =
    let b = at.1 in
    let same = one_record item at.0 more b.rest h b.is_record (sym e ∙ b.spelled) in
    at.2 (subst (λ (i : Item). MayCome begun i text) same.0 may)

-- the record of no primitive that fits begins there
abbrev NoPrimitive : List (List ℕ) → List ℕ → Type 0
NoPrimitive text r = (p : Primitive) (more : List ℕ) → IsWritable p → misfit p text ≡ None → r ≡ spelling (record_of p) ++ more → ⊥

none_stops : (text : List (List ℕ)) (ps : List Primitive) (rest : List ℕ) → Stops text (Some ps) rest → NoPrimitive text rest
none_stops text ps rest stops p more w fit e =
    goes_on text (Some ps) rest (record_of p) more w.is_record
    (inr (record { primitive = p; writable = w; spelled = refl; fits = fit })) stops e

none_ends : (text : List (List ℕ)) (rest : List ℕ) → NoPrimitive text (0x45 ∷ rest)
none_ends text rest p more w fit e =
    let same = one_record finishes (record_of p) rest more tt w.is_record e in no_finish p same.0

-- the primitives up to there are the same
same_primitives : (xs ys : List Primitive) (text : List (List ℕ)) (r q : List ℕ) → AreWritable xs → AreWritable ys
    → FitOneByOne xs text → FitOneByOne ys text → NoPrimitive (after_all xs text) r → NoPrimitive (after_all ys text) q
    → records xs ++ r ≡ records ys ++ q → (xs ≡ ys) × (r ≡ q)
same_primitives [] [] text r q wx wy fx fy nx ny e = (refl, e)
same_primitives [] (y ∷ ys) text r q wx wy fx fy nx ny e =
    absurd (nx y (records ys ++ q) wy.0 fy.0 (e ∙ append_assoc (spelling (record_of y)) (records ys) q))
same_primitives (x ∷ xs) [] text r q wx wy fx fy nx ny e =
    absurd (ny x (records xs ++ r) wx.0 fx.0 (sym e ∙ append_assoc (spelling (record_of x)) (records xs) r))
same_primitives (x ∷ xs) (y ∷ ys) text r q wx wy fx fy nx ny e =
    let heads = one_record (record_of x) (record_of y) (records xs ++ r) (records ys ++ q) wx.0.is_record wy.0.is_record
    (sym (append_assoc (spelling (record_of x)) (records xs) r) ∙ e ∙ append_assoc (spelling (record_of y)) (records ys) q) in
    let head : x ≡ y = primitive_is x y wx.0 wy.0 heads.0 in
    let tail = same_primitives xs ys (after x text) r q wx.1 wy.1 fx.1
    (subst (λ (z : Primitive). FitOneByOne ys (after z text)) (sym head) fy.1) nx
    (subst (λ (z : Primitive). NoPrimitive (after_all ys (after z text)) q) (sym head) ny) heads.1 in
    (ap (λ (l : List Primitive). x ∷ l) tail.0 ∙ ap (λ (z : Primitive). z ∷ ys) head, tail.1)

-- what was read, and that it stops
record Read (text : List (List ℕ)) (done : List (List Primitive)) (begun : Option (List Primitive)) (rest : List ℕ) : Type 0 where
  pub writable : AreWritable (read_primitives done begun)
  pub fit : FitOneByOne (read_primitives done begun) text
  pub stops : Stops (after_all (read_primitives done begun) text) begun rest

later : (text : List (List ℕ)) (t : List Primitive) (ts : List (List Primitive)) (begun : Option (List Primitive)) (rest : List ℕ)
    → Read text (t ∷ ts) begun rest → AreWritable t × FitOneByOne t text × Read (after_all t text) ts begun rest
later text t ts begun rest r =
    let parts = append_assoc t (joined ts) (begun_primitives begun) in
    let writable = subst AreWritable parts r.writable in
    let fit = subst (λ (l : List Primitive). FitOneByOne l text) parts r.fit in (
      writable-front t _ writable,
      fit-front t _ text fit,
      record {
        writable = writable-back t _ writable;
        fit = fit-back t _ text fit;
        stops = subst (λ (x : List (List ℕ)). Stops x begun rest)
            (ap (λ (l : List Primitive). after_all l text) parts ∙ after_all-join t (read_primitives ts begun) text) r.stops;
      },
    )

abbrev tail_of : List ℕ → List ℕ
tail_of [] = []
tail_of (x ∷ xs) = xs

-- a whole transaction without its first byte, and what follows it
split : (t : List Primitive) (ts : List (List Primitive)) (x : List ℕ)
    → tail_of (flat_map transaction (t ∷ ts) ++ x) ≡ records t ++ (0x45 ∷ (flat_map transaction ts ++ x))
split t ts x =
    append_assoc (records t ++ 0x45 ∷ []) (flat_map transaction ts) x
    ∙ append_assoc (records t) (0x45 ∷ []) (flat_map transaction ts ++ x)

reading : (done also : List (List Primitive)) (begun too : Option (List Primitive)) (rest left : List ℕ) (text : List (List ℕ))
    → Read text done begun rest → Read text also too left
    → flat_map transaction done ++ (opening begun ++ rest) ≡ flat_map transaction also ++ (opening too ++ left)
    → (done ≡ also) × (begun ≡ too) × (rest ≡ left)
reading [] [] None None rest left text r q e = (refl, refl, e)
reading [] [] None (Some ps) rest left text r q e =
    absurd (goes_on text None rest starts (records ps ++ left) tt refl r.stops e)
reading [] [] (Some ps) None rest left text r q e =
    absurd (goes_on text None left starts (records ps ++ rest) tt refl q.stops (sym e))
reading [] [] (Some ps) (Some qs) rest left text r q e =
    let same = same_primitives ps qs text rest left r.writable q.writable r.fit q.fit
    (none_stops _ ps rest r.stops) (none_stops _ qs left q.stops) (ap tail_of e) in
    (refl, ap Some same.0, same.1)
reading (t ∷ ts) [] begun None rest left text r q e =
    absurd (goes_on text None left starts _ tt refl q.stops (sym e ∙ append_assoc (transaction t) (flat_map transaction ts) (opening begun ++ rest)))
reading (t ∷ ts) [] begun (Some qs) rest left text r q e =
    let l = later text t ts begun rest r in
    let x = flat_map transaction ts ++ (opening begun ++ rest) in
    let same = same_primitives t qs text (0x45 ∷ x) left l.0 q.writable l.1 q.fit (none_ends _ x) (none_stops _ qs left q.stops)
    (sym (split t ts (opening begun ++ rest)) ∙ ap tail_of e) in
    absurd (goes_on _ (Some qs) left finishes x tt (inl refl) q.stops (sym same.1))
reading [] (u ∷ us) None too rest left text r q e =
    absurd (goes_on text None rest starts _ tt refl r.stops (e ∙ append_assoc (transaction u) (flat_map transaction us) (opening too ++ left)))
reading [] (u ∷ us) (Some ps) too rest left text r q e =
    let l = later text u us too left q in
    let x = flat_map transaction us ++ (opening too ++ left) in
    let same = same_primitives ps u text rest (0x45 ∷ x) r.writable l.0 r.fit l.1 (none_stops _ ps rest r.stops) (none_ends _ x)
    (ap tail_of e ∙ split u us (opening too ++ left)) in
    absurd (goes_on _ (Some ps) rest finishes x tt (inl refl) r.stops same.1)
reading (t ∷ ts) (u ∷ us) begun too rest left text r q e =
    let a = later text t ts begun rest r in
    let b = later text u us too left q in
    let x = flat_map transaction ts ++ (opening begun ++ rest) in
    let y = flat_map transaction us ++ (opening too ++ left) in
    let same = same_primitives t u text (0x45 ∷ x) (0x45 ∷ y) a.0 b.0 a.1 b.1 (none_ends _ x) (none_ends _ y)
    (sym (split t ts (opening begun ++ rest)) ∙ ap tail_of e ∙ split u us (opening too ++ left)) in
    let rests = reading ts us begun too rest left (after_all t text) a.2
    (subst (λ (l : List Primitive). Read (after_all l text) us too left) (sym same.0) b.2) (ap tail_of same.1) in
    (ap (λ (l : List (List Primitive)). t ∷ l) rests.0 ∙ ap (λ (l : List Primitive). l ∷ us) same.0, rests.1, rests.2)

pub one_reading : (text : List (List ℕ)) (body : List ℕ) (ts us : List (List Primitive)) (begun other : Option (List Primitive)) (rest left : List ℕ)
    → Reads text body ts begun rest → Reads text body us other left
    → Stops (after_all (read_primitives ts begun) text) begun rest → Stops (after_all (read_primitives us other) text) other left
    → (ts ≡ us) × (begun ≡ other) × (rest ≡ left)
one_reading text body ts us begun other rest left r q s t =
    reading ts us begun other rest left text
    (record { writable = r.writable; fit = r.fit; stops = s })
    (record { writable = q.writable; fit = q.fit; stops = t })
    (sym r.parts ∙ q.parts)
