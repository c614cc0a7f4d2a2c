-- What the rule says of single views, and steps that change one view.
use Rattle.std.proofs.Common.{◌≡◌, ◌≢◌, ◌⊎◌, ℕ, ◌+◌, ◌%◌, ◌^◌, ◌<◌, ◌≤◌, List, [], ◌∷◌, ◌++◌, length, get_or, set, sym, refl, ap, ◌∙◌, subst, ⊎_elim, arith, Option, drop}
use mathlib.Core.Option.{none, some, some-injective, some-ne-none}
use mathlib.Core.Option as maybe
use lib.ListN.{get_elem?}
use Rattle.atomic_table.specs.Table.{Me, Allows, State, Me}
use Rattle.atomic_table.proofs.Lists.{at_set, at_snoc}
use Rattle.kte_turn.specs.declared.view.View.{View}
use Rattle.kte_turn.specs.Known.{events_of}
use Rattle.kte_turn.specs.Sums.{times, once_below}
use Rattle.kte_turn.specs.StepLaws.{RuledWith, StepKeeps}
use Rattle.kte_turn.specs.Rule.{waiting, has_ticket, serving, Fits, Home, Away, Ruled}
use Rattle.kte_turn.proofs.SumLemmas.{total-set, term_le, terms_le, once_below-le, same_bit-eq}

module _ {V E O : Type 0} (seat_of : E → ℕ) (origin : V → O) (story : V → List E) (seats : ℕ) (o : O) where
  abbrev W : Type 0
  W = View E O

  abbrev St : Type 0
  St = State (Option V) W

  abbrev Sat : Type 0
  Sat = Me (Option V) W

  abbrev Rule : St → Type 0
  Rule = Ruled seat_of origin story seats o

  abbrev K : ℕ → List E → W → Type 0
  K = Fits seat_of origin story seats o

  -- after one place was set
  pub views_stay : (P : W → Type 0) (vs : List W) (me : ℕ) (w : W) → P w → ((j : ℕ) (d : W) → j ≢ me → get_elem? vs j ≡ some d → P d) → (j : ℕ) (d : W) → get_elem? (set vs me w) j ≡ some d → P d
  views_stay P vs me w mine others j d e =
      ⊎_elim (λ (t : (j ≡ me) × (w ≡ d)). subst P t.1 mine) (λ (t : (j ≢ me) × (get_elem? vs j ≡ some d)). others j d t.0 t.1) (at_set vs me j w d e)

  -- with a new view at the end
  pub views_more : (P : W → Type 0) (vs : List W) (w : W) → ((j : ℕ) (d : W) → get_elem? vs j ≡ some d → P d) → P w → (j : ℕ) (d : W) → get_elem? (vs ++ w ∷ []) j ≡ some d → P d
  views_more P vs w old new j d e = ⊎_elim (λ (t : get_elem? vs j ≡ some d). old j d t) (λ (t : w ≡ d). subst P t new) (at_snoc vs w d j e)

  -- while one pass is served no other is
  pub alone : (s : St) (r : Rule s) (id j : ℕ) (v u : W) → j ≢ id → get_elem? s.views id ≡ some v → get_elem? s.views j ≡ some u → serving v.stage ≡ 1 → serving u.stage ≡ 0
  alone s r id j v u apart at there mine =
      let two = terms_le (λ x. serving x.stage) s.views id j v u apart at there in
      ⊎_elim (λ (h : Home seat_of origin story o r.past s). absurd (omega (arith, h.4, two))) (λ (a : Away seat_of origin story s). omega (arith, a.1, two)) r.placed

  -- and the slot is out
  pub out : (s : St) (r : Rule s) (id : ℕ) (v : W) → get_elem? s.views id ≡ some v → serving v.stage ≡ 1 → Away seat_of origin story s
  out s r id v at mine =
      ⊎_elim (λ (h : Home seat_of origin story o r.past s). absurd (omega (arith, h.4, term_le (λ x. serving x.stage) s.views id v at))) (λ (a : Away seat_of origin story s). a) r.placed

  -- a number of one pass is no other's
  pub apart_numbers : (s : St) (r : Rule s) (id j k : ℕ) (v u : W) → j ≢ id → get_elem? s.views id ≡ some v → get_elem? s.views j ≡ some u → 0 < times k v.numbers → times k u.numbers ≡ 0
  apart_numbers s r id j k v u apart at there mine =
      omega (arith, terms_le (λ x. times k x.numbers) s.views id j v u apart at there, r.numbers k, once_below-le k r.made)

  -- a step that changes the view v into w, which has the same share and the same numbers
  pub one_view : (s : St) (r : Rule s) (id : ℕ) (v w : W) (ws : List ℕ) (homes : List (maybe.Option (Option V))) (past : List E) (drawn served : ℕ)
      → get_elem? s.views id ≡ some v → w.share ≡ v.share → w.numbers ≡ v.numbers
      → length ws ≡ length s.words → length homes ≡ length s.homes
      → get_or ws 0 0 ≡ drawn % 2 ^ 64 → get_or ws 1 0 ≡ served % 2 ^ 64 → get_or ws 2 0 ≡ length past
      → served + waiting w.stage + r.drawn ≡ drawn + waiting v.stage + r.served
      → ((t : ℕ) → has_ticket t w.stage + once_below t served + once_below t r.drawn ≡ has_ticket t v.stage + once_below t r.served + once_below t drawn)
      → ((k : ℕ) → r.made ≤ k → events_of seat_of k past ≡ [])
      → K served past w → ((j : ℕ) (d : W) → j ≢ id → get_elem? s.views j ≡ some d → K served past d)
      → (let after : St = record { words = ws; homes = homes; views = set s.views id w } in Home seat_of origin story o past after ⊎ Away seat_of origin story after)
      → RuledWith seat_of origin story seats o past record { words = ws; homes = homes; views = set s.views id w }
  one_view s r id v w ws homes past drawn served at share same long single tick serve count queue tickets unmade mine others placed = (
    record {
      past = past;
      drawn = drawn;
      served = served;
      made = r.made;
      three = long ∙ r.three;
      single = single ∙ r.single;
      few = r.few;
      ticket_word = tick;
      serving_word = serve;
      count_word = count;
      queue = omega (arith, queue, r.queue, total-set (λ u. waiting u.stage) s.views id v w at);
      tickets = λ t. omega (arith, r.tickets t, tickets t, total-set (λ u. has_ticket t u.stage) s.views id v w at);
      shares = omega (arith, share, r.shares, total-set (λ u. u.share) s.views id v w at);
      numbers = λ k. omega (arith, ap (times k) same, r.numbers k, total-set (λ u. times k u.numbers) s.views id v w at);
      unmade = unmade;
      first_seat = views_stay (λ u. u.numbers ≡ 0 ∷ [] → r.made + u.share ≡ seats + 1) s.views id w (λ e. omega (arith, share, r.first_seat id v at (sym same ∙ e))) (λ j d _ e. r.first_seat j d e);
      each_view = views_stay (K served past) s.views id w mine others;
      placed = placed;
    },
    refl,
  )

  -- a step that keeps the rule with some story is one that the table allows
  pub allows : (after : List E → List E) (n id : ℕ) (m : Me (Option V) W) (i : ℕ) (f : ℕ → ℕ) (then : ℕ → Me (Option V) W → Type 0) → StepKeeps seat_of origin story seats o after n id m i f then → Allows Rule n id m i f then
  allows after n id m i f then step s r wide at small = let x = step s r wide at small in (x.0, x.1, x.2, x.3.0, x.4)

-- a pass has the number of its own seat
pub has_times : (k : ℕ) (xs : List ℕ) → xs ≡ k ∷ drop 1 xs → 0 < times k xs
has_times k xs e = omega (arith, ap (times k) e, same_bit-eq k k refl)
