-- The seven sentences, from what each step keeps.
use Rattle.std.proofs.Common.{◌≡◌, ◌⊎◌, ℕ, ◌<◌, List, sym, refl, ap, ◌∙◌, ⊎_elim, inl, inr, arith, Some}
use mathlib.Core.Logic.{dite}
use mathlib.Core.Option.{none, some, some-injective, some-ne-none}
use native.Mathlib.Decide.{ℕ_discrete, dec_le}
use lib.ListN.{get_elem?}
use Rattle.kte_turn.specs.declared.view.View.{View}
use Rattle.kte_turn.specs.declared.view.Stage.{Stage}
use Rattle.kte_turn.specs.declared.view.Stage.TheVariants.{Idle, Waits, Serves}
use Rattle.kte_turn.specs.Sums.{total, times}
use Rattle.kte_turn.specs.Rule.{has_ticket, serving, Home, Away, Ruled}
use Rattle.kte_turn.specs.Laws.{TurnState, EachPass, OnePass, HasTicket, IsServed, HasSeat, InOrder}
use Rattle.kte_turn.proofs.SumLemmas.{term_le, terms_le, one_term, some_term, once_below-lt, once_below-ge, once_below-pos, once_below-le, same_bit-eq, same_bit-ne, times-Contains, Contains-times}
use Rattle.kte_turn.proofs.StoryLemmas.{Some-injective}

-- the sums of the rule, and what they say of one stage
ticket_from : (t : ℕ) (stage : Stage) → 0 < has_ticket t stage → (stage ≡ Waits t) ⊎ (stage ≡ Serves t)
ticket_from t Idle h = absurd (omega arith)
ticket_from t (Waits u) h = dite (ℕ_discrete u t) (λ e. inl (ap Waits e)) (λ ne. absurd (omega (arith, h, same_bit-ne u t ne)))
ticket_from t (Serves u) h = dite (ℕ_discrete u t) (λ e. inr (ap Serves e)) (λ ne. absurd (omega (arith, h, same_bit-ne u t ne)))

ticket_to : (t : ℕ) (stage : Stage) → (stage ≡ Waits t) ⊎ (stage ≡ Serves t) → has_ticket t stage ≡ 1
ticket_to t stage h = ⊎_elim (λ (e : stage ≡ Waits t). ap (has_ticket t) e ∙ same_bit-eq t t refl) (λ (e : stage ≡ Serves t). ap (has_ticket t) e ∙ same_bit-eq t t refl) h

served_from : (stage : Stage) → 0 < serving stage → (t : ℕ) × (stage ≡ Serves t)
served_from Idle h = absurd (omega arith)
served_from (Waits u) h = absurd (omega arith)
served_from (Serves u) h = (u, refl)

module _ {E O : Type 0} where
  -- where a sum of numbers over the passes is 1, one pass has it
  one_pass : (vs : List (View E O)) (f : View E O → ℕ) (P : View E O → Type 0) → ((v : View E O) → 0 < f v → P v) → ((v : View E O) → P v → 0 < f v) → total f vs ≡ 1 → OnePass vs P
  one_pass vs f P from to all =
      let r = one_term f vs all in (
        r.0,
        (r.1.0, r.1.1, from r.1.0 (omega (arith, r.1.2))),
        λ j other at has. dite (ℕ_discrete j r.0) (λ e. e)
            (λ apart. absurd (omega (arith, terms_le f vs r.0 j r.1.0 other apart r.1.1 at, r.1.2, to other has, all))),
      )

  -- and where it is 0, none
  no_pass : (vs : List (View E O)) (f : View E O → ℕ) (P : View E O → Type 0) → ((v : View E O) → P v → 0 < f v) → total f vs ≡ 0 → EachPass vs (λ v. ¬ P v)
  no_pass vs f P to all = λ i v at has. absurd (omega (arith, term_le f vs i v at, to v has, all))

  -- a sum that is 0 where no pass has it
  none_has : (f : View E O → ℕ) (vs : List (View E O)) → ((i : ℕ) (v : View E O) → get_elem? vs i ≡ some v → ¬ (0 < f v)) → total f vs ≡ 0
  none_has f vs not = dite (ℕ_discrete (total f vs) 0) (λ e. e) (λ ne. let r = some_term f vs (omega arith) in absurd (not r.0 r.1.0 r.1.1 r.1.2))

module _ {V E O : Type 0} (seat_of : E → ℕ) (origin : V → O) (story : V → List E) (seats : ℕ) (o : O) where
  pub in_order : (s : TurnState V E O) → Ruled seat_of origin story seats o s → InOrder seat_of origin story seats o s
  in_order s r = record {
    past = r.past;
    next = r.drawn;
    served = r.served;
    tickets = record {
      next_word = r.ticket_word;
      served_word = r.serving_word;
      count = r.queue;
      held = λ t low high.
          one_pass s.views (λ v. has_ticket t v.stage) (HasTicket t) (λ v. ticket_from t v.stage) (λ v h. omega (arith, ticket_to t v.stage h))
          (omega (arith, r.tickets t, once_below-ge t r.served low, once_below-lt t r.drawn high));
      no_other = λ t i v at h.
          let has = ticket_to t v.stage h in
          let part = term_le (λ u. has_ticket t u.stage) s.views i v at in
          let below : t < r.drawn = once_below-pos t r.drawn (omega (arith, r.tickets t, has, part)) in
          (dite (dec_le r.served t) (λ le. le) (λ gt. absurd (omega (arith, r.tickets t, has, part, once_below-lt t r.served (omega arith), once_below-le t r.drawn))), below);
    };
    seats_in_order = λ i v at alone k.
        let made = r.first_seat i v at alone in (
          (λ le. one_pass s.views (λ u. times k u.numbers) (HasSeat k) (λ u. Contains-times k u.numbers) (λ u. times-Contains k u.numbers) (omega (arith, r.numbers k, once_below-lt k r.made (omega (arith, made, le))))),
          (λ j u there has. omega (arith, made, once_below-pos k r.made (omega (arith, r.numbers k, times-Contains k u.numbers has, term_le (λ w. times k w.numbers) s.views j u there)))),
        );
    slot = ⊎_elim
        (λ (h : Home seat_of origin story o r.past s). inl ((h.0, h.1, h.2), no_pass s.views (λ v. serving v.stage) IsServed (λ v is. omega (arith, ap serving is.1)) h.4))
        (λ (a : Away seat_of origin story s). inr (
          a.0,
          one_pass s.views (λ v. serving v.stage) IsServed (λ v. served_from v.stage) (λ v is. omega (arith, ap serving is.1)) a.1,
          λ i v at is. let at-served = (r.each_view i v at).serves_is is.0 is.1 in (is.1 ∙ ap Serves at-served.0, at-served.1),
        ))
        r.placed;
    count = r.count_word;
    value_origin = λ value at. ⊎_elim
        (λ (h : Home seat_of origin story o r.past s). ap origin (Some-injective value h.0 (some-injective (Some value) (Some h.0) (some-injective (some (Some value)) (some (Some h.0)) (sym at ∙ h.1)))) ∙ h.3)
        (λ (a : Away seat_of origin story s). absurd (some-ne-none (Some value) (some-injective (some (Some value)) none (sym at ∙ a.0))))
        r.placed;
    pass_origin = λ i v at live. (r.each_view i v at).origin_is live;
    seen = λ i v at. (r.each_view i v at).seen_is;
    calls = λ k i v at has. ((r.each_view i v at).own_is k (times-Contains k v.numbers has)).0;
    no_others = λ k free. r.unmade k (dite (dec_le r.made k) (λ le. le)
        (λ gt. absurd (omega (arith, r.numbers k, once_below-lt k r.made (omega arith), none_has (λ v. times k v.numbers) s.views (λ i v at has. free i v at (Contains-times k v.numbers has))))));
    shares = r.shares;
  }
