-- What the calls of a turn conclude from the steps that they make.
use Rattle.std.proofs.Common.{◌≡◌, ℕ, ◌+◌, ◌<◌, List, [], ◌∷◌, ◌++◌, length, get_or, sym, refl, ap, ◌∙◌, subst, arith, Option, Some, None, length-append, drop, Contains}
use Rattle.atomic_table.specs.Table.{Me, rest}
use Rattle.kte_turn.specs.declared.view.View.{View}
use Rattle.kte_turn.specs.declared.view.Stage.{Stage}
use Rattle.kte_turn.specs.declared.view.Stage.TheVariants.{Idle, Waits, Serves}
use Rattle.kte_turn.specs.Known.{Known, events_of, news, left}
use Rattle.kte_turn.specs.Sums.{times}
use Rattle.kte_turn.specs.Rule.{serving}
use Rattle.kte_turn.specs.Steps.{staged, knowing, Found, merged}
use Rattle.kte_turn.proofs.SumLemmas.{times-append, times-Contains}
use Rattle.kte_turn.proofs.StoryLemmas.{events_of-other, append-nil, nil_from_length, news-append, events_of-append, events_of-rest}

module _ {V E O : Type 0} (seat_of : E → ℕ) (origin : V → O) (story : V → List E) where
  abbrev W : Type 0
  W = View E O

  abbrev Sat : Type 0
  Sat = Me (Option V) W

  -- what an entering pass has, once it has taken the value out
  pub entered : (v : W) (t : ℕ) (m n after : Sat) (r : Option V) (value : V) → m ≡ (staged (Waits t) v, []) → n ≡ (staged (Serves t) (knowing (story value) m.0), (0, Some value) ∷ m.1) → Found seat_of origin story m.0 value
      → n.1 ≡ (0, r) ∷ rest n.1 → after ≡ (n.0, (0, None) ∷ rest n.1)
      → (r ≡ Some value) × (after ≡ (staged (Serves t) (knowing (story value) v), (0, None) ∷ [])) × Found seat_of origin story v value
  entered v t m n after r value was is found held put =
      let n-is : n ≡ (staged (Serves t) (knowing (story value) v), (0, Some value) ∷ []) = is ∙ ap (λ (x : Sat). (staged (Serves t) (knowing (story value) x.0), (0, Some value) ∷ x.1)) was in
      let f : Found seat_of origin story (staged (Waits t) v) value = subst (λ (x : Sat). Found seat_of origin story x.0 value) was found in (
        ap (λ (l : List (ℕ × Option V)). (get_or l 0 (0, r)).1) (sym held ∙ ap (λ (x : Sat). x.1) n-is),
        put ∙ ap (λ (x : Sat). (x.0, (0, None) ∷ rest x.1)) n-is,
        record { origin_is = f.origin_is; seen_is = f.seen_is; own_is = f.own_is },
      )

  pub found_news : (k : ℕ) (v : W) (value : V) → Found seat_of origin story v value → 0 < times k v.numbers → events_of seat_of k (news v.seen (story value)) ≡ []
  found_news k v value found has =
      let own = found.own_is k has in
      let p = found.seen_is in
      ap (λ l. events_of seat_of k (news v.seen l)) (sym p.1) ∙ (ap (events_of seat_of k) (news-append v.seen p.0) ∙ events_of-rest seat_of k v.seen (story value) p (own.0 ∙ sym own.1))

  -- the view of a pass that has joined another one
  abbrev pub joined_view : W → W → W
  joined_view v u = record (merged v u) { told = [] }

  -- the own calls of a pass stay what they were where it is joined with one that has none of that seat, on either side
  pub own-left : (k : ℕ) (v u : W) → length (events_of seat_of k u.own) ≡ 0 → events_of seat_of k (joined_view v u).own ≡ events_of seat_of k v.own
  own-left k v u free =
      events_of-append seat_of k v.own u.own ∙ (ap (λ l. events_of seat_of k v.own ++ l) (nil_from_length (events_of seat_of k u.own) free) ∙ append-nil (events_of seat_of k v.own))

  pub own-right : (k : ℕ) (v u : W) → length (events_of seat_of k v.own) ≡ 0 → events_of seat_of k (joined_view v u).own ≡ events_of seat_of k u.own
  own-right k v u free =
      events_of-append seat_of k v.own u.own ∙ ap (λ l. l ++ events_of seat_of k u.own) (nil_from_length (events_of seat_of k v.own) free)

  pub own-neither : (k : ℕ) (v u : W) → (times k v.numbers ≡ 0 → length (events_of seat_of k v.own) ≡ 0) → (times k u.numbers ≡ 0 → length (events_of seat_of k u.own) ≡ 0)
      → times k (joined_view v u).numbers ≡ 0 → length (events_of seat_of k (joined_view v u).own) ≡ 0
  own-neither k v u mine theirs free =
      let numbers = times-append k v.numbers u.numbers in
      omega (arith, mine (omega arith), theirs (omega arith), ap length (events_of-append seat_of k v.own u.own), length-append (events_of seat_of k v.own) (events_of seat_of k u.own))

-- an event of a seat that the pass has is none of another seat
pub no_others-push : {E : Type 0} (seat_of : E → ℕ) (k : ℕ) (numbers : List ℕ) (own : List E) (e : E) → 0 < times (seat_of e) numbers → times k numbers ≡ 0
    → length (events_of seat_of k own) ≡ 0 → length (events_of seat_of k (own ++ e ∷ [])) ≡ 0
no_others-push seat_of k numbers own e has absent before =
    ap length (events_of-other seat_of k own e (λ same. absurd (omega (arith, has, absent, ap (λ n. times n numbers) same)))) ∙ before

-- a turn in which one event was counted
pub left_push : {E O : Type 0} (before after : Known E O) (e : E) → after ≡ record before { seen = before.seen ++ e ∷ []; own = before.own ++ e ∷ [] }
    → record after { turns = after.turns + 1 } ≡ left (before.seen ++ e ∷ []) before
left_push {E} {O} before after e is =
    ap (λ (k : Known E O). record k { turns = k.turns + 1 }) is
    ∙ ap (λ (l : List E). record before { seen = before.seen ++ e ∷ []; own = before.own ++ l; turns = before.turns + 1 }) (sym (news-append before.seen (e ∷ [])))

pub served_ticket : (stage : Stage) → serving stage ≡ 1 → (t : ℕ) × (stage ≡ Serves t)
served_ticket Idle e = absurd (omega arith)
served_ticket (Waits t) e = absurd (omega arith)
served_ticket (Serves t) e = (t, refl)

-- the numbers of the seats that a pass stands for are those of its view
pub stands_times : (k n : ℕ) (xs : List ℕ) → xs ≡ n ∷ drop 1 xs → Contains (n ∷ drop 1 xs) k → 0 < times k xs
stands_times k n xs is stands = subst (λ l. 0 < times k l) (sym is) (times-Contains k (n ∷ drop 1 xs) stands)

pub numbered-append : (n : ℕ) (xs ys : List ℕ) → xs ≡ n ∷ drop 1 xs → xs ++ ys ≡ n ∷ drop 1 (xs ++ ys)
numbered-append n xs ys is = subst (λ l. l ++ ys ≡ n ∷ drop 1 (l ++ ys)) (sym is) refl

pub joined-append : (n m : ℕ) (xs ys : List ℕ) → xs ≡ n ∷ drop 1 xs → ys ≡ m ∷ drop 1 ys → drop 1 (xs ++ ys) ≡ drop 1 xs ++ m ∷ drop 1 ys
joined-append n m xs ys is its = ap (λ l. drop 1 (l ++ ys)) is ∙ ap (λ l. drop 1 xs ++ l) its
