-- Splitting a pass off, joining two, and closing.
use Rattle.std.proofs.Common.{◌≡◌, ◌≢◌, ℕ, ◌+◌, ◌-◌, ◌<◌, ◌≤◌, List, [], ◌∷◌, ◌++◌, length, get_or, set, sym, refl, ap, ◌∙◌, subst, ⊎_elim, inl, inr, arith, Option, Some, length-append}
use mathlib.Core.Logic.{dite}
use mathlib.Core.Option.{none, some, some-injective}
use mathlib.Core.List.{IsPrefix}
use native.Mathlib.Decide.{ℕ_discrete, dec_le}
use lib.ListN.{get_elem?}
use lib.Seq.{set-get_or}
use Rattle.atomic_table.specs.Table.{State, Me, step, keeps, Allows, Splits, Joins, Final, Seen}
use Rattle.atomic_table.proofs.Lists.{set_else}
use Rattle.kte_turn.specs.declared.view.View.{View}
use Rattle.kte_turn.specs.declared.view.Stage.{Stage}
use Rattle.kte_turn.specs.declared.view.Stage.TheVariants.{Idle, Waits, Serves}
use Rattle.kte_turn.specs.Known.{events_of, longer, shorter}
use Rattle.kte_turn.specs.Sums.{total, times}
use Rattle.kte_turn.specs.StepLaws.{RuledWith, StepKeeps}
use Rattle.kte_turn.specs.Rule.{waiting, has_ticket, serving, Fits, Home, Away, Ruled}
use Rattle.kte_turn.specs.Steps.{cut, another_view, merged, spent, settled}
use Rattle.kte_turn.proofs.SumLemmas.{total-append, total-set, term_le, total_apart, total_only, once_below-lt, once_below-pos, once_below-le, once_below-more, same_bit, times-append, times-other}
use Rattle.kte_turn.proofs.StoryLemmas.{append-nil, IsPrefix-shorter, by_length, shorter_le, both_prefixes, events_of-append, events_of-none, events_of-between}
use Rattle.kte_turn.proofs.ViewLemmas.{allows, views_stay, views_more, one_view, apart_numbers}

module _ {V E O : Type 0} (seat_of : E → ℕ) (origin : V → O) (story : V → List E) (seats : ℕ) (o : O) where
  abbrev W : Type 0
  W = View E O

  abbrev St : Type 0
  St = State (Option V) W

  abbrev Sat : Type 0
  Sat = Me (Option V) W

  abbrev Rule : St → Type 0
  Rule = Ruled seat_of origin story seats o

  abbrev K : ℕ → List E → W → Type 0
  K = Fits seat_of origin story seats o

  views_at : (other : ℕ) (P : W → Type 0) (vs : List W) (me : ℕ) (w : W) → P w → ((j : ℕ) (d : W) → j ≢ me → get_elem? vs j ≡ some d → P d) → (j : ℕ) (d : W) → j ≢ other → get_elem? (set vs me w) j ≡ some d → P d
  views_at other P vs me w mine others j d _ e = views_stay seat_of origin story seats o P vs me w mine others j d e

  pub split_step : (id : ℕ) (v : W) → v.numbers ≡ 0 ∷ [] → v.stage ≡ Idle → 1 < v.share → (s : St) (r : Rule s) → get_elem? s.views id ≡ some v → RuledWith seat_of origin story seats o r.past record { words = s.words; homes = s.homes; views = set s.views id (cut v) ++ another_view v ∷ [] }
  split_step id v first idle more-shares s r at =
      let x : W = cut v in
      let y : W = another_view v in
      let vs : List W = set s.views id x in
      let mine = r.each_view id v at in
      let number : v.seats - v.share + 1 ≡ r.made = omega (arith, mine.seats_is (omega arith), r.first_seat id v at first, term_le (λ u. u.share) s.views id v at, r.shares) in
      let sums : (g : W → ℕ) → total g (vs ++ y ∷ []) + g v ≡ total g s.views + g x + g y = λ g. omega (arith, total-append g vs (y ∷ []), total-set g s.views id v x at) in
      let quiet : waiting v.stage ≡ 0 = ap waiting idle in
      let calm : serving v.stage ≡ 0 = ap serving idle in (
        record {
          past = r.past;
          drawn = r.drawn;
          served = r.served;
          made = r.made + 1;
          three = r.three;
          single = r.single;
          few = r.few;
          ticket_word = r.ticket_word;
          serving_word = r.serving_word;
          count_word = r.count_word;
          queue = omega (arith, r.queue, sums (λ u. waiting u.stage));
          tickets = λ t. omega (arith, r.tickets t, sums (λ u. has_ticket t u.stage));
          shares = omega (arith, r.shares, sums (λ u. u.share));
          numbers = λ k. omega (arith, r.numbers k, sums (λ u. times k u.numbers), once_below-more k r.made, ap (λ (z : ℕ). same_bit z k) number);
          unmade = λ k le. r.unmade k (omega arith);
          first_seat = views_more seat_of origin story seats o (λ u. u.numbers ≡ 0 ∷ [] → r.made + 1 + u.share ≡ seats + 1) vs y
              (views_stay seat_of origin story seats o (λ u. u.numbers ≡ 0 ∷ [] → r.made + 1 + u.share ≡ seats + 1) s.views id x (λ z. omega (arith, r.first_seat id v at first))
              (λ j d other z is. absurd (omega (arith, apart_numbers seat_of origin story seats o s r id j 0 v d other at z (omega (arith, ap (times 0) first)), ap (times 0) is))))
              (λ z. absurd (omega (arith, number, ap (times 0) z, r.numbers 0, term_le (λ u. times 0 u.numbers) s.views id v at, ap (times 0) first, once_below-pos 0 r.made (omega (arith, r.numbers 0, term_le (λ u. times 0 u.numbers) s.views id v at, ap (times 0) first)), times-other 0 (v.seats - v.share + 1) (λ e. omega arith))));
          each_view = views_more seat_of origin story seats o (K r.served r.past) vs y
              (views_stay seat_of origin story seats o (K r.served r.past) s.views id x
              (record {
                seats_is = λ _. mine.seats_is (omega arith);
                origin_is = λ _. mine.origin_is (omega arith);
                seen_is = mine.seen_is;
                told_is = mine.told_is;
                own_is = mine.own_is;
                own_else = mine.own_else;
                serves_is = mine.serves_is;
                spent_is = λ z. absurd (omega arith);
                has_share = omega arith;
              })
              (λ j d _ z. r.each_view j d z))
              (record {
                seats_is = λ _. mine.seats_is (omega arith);
                origin_is = λ _. mine.origin_is (omega arith);
                seen_is = mine.seen_is;
                told_is = (r.past, refl);
                own_is = λ k has-k. let is : v.seats - v.share + 1 ≡ k = dite (ℕ_discrete (v.seats - v.share + 1) k) (λ e. e) (λ ne. absurd (omega (arith, has-k, times-other k (v.seats - v.share + 1) ne))) in
                    let none = r.unmade k (omega arith) in (none, events_of-none seat_of k v.seen r.past mine.seen_is none);
                own_else = λ k _. refl;
                serves_is = λ t e. absurd (omega (arith, ap serving e));
                spent_is = λ z. absurd (omega arith);
                has_share = omega arith;
              });
          placed = let same = sums (λ u. serving u.stage) in ⊎_elim (λ (h : Home seat_of origin story o r.past s). inl (h.0, h.1, h.2, h.3, omega (arith, h.4, same))) (λ (a : Away seat_of origin story s). inr (a.0, omega (arith, a.1, same))) r.placed;
        },
        refl,
      )

  pub join_step : (id : ℕ) (v : W) (other : ℕ) (u : W) → v.stage ≡ Idle → u.stage ≡ Idle → 0 < v.share → 0 < length v.numbers → 0 < length u.numbers → (s : St) (r : Rule s) → get_elem? s.views id ≡ some v → ¬ (other ≡ id) → get_elem? (set s.views id (merged v u)) other ≡ some u → RuledWith seat_of origin story seats o r.past record { words = s.words; homes = s.homes; views = set (set s.views id (merged v u)) other spent }
  join_step id v other u idle theirs live named also-named s r at apart them =
      let x : W = merged v u in
      let vs : List W = set s.views id x in
      let there : get_elem? s.views other ≡ some u = sym (set_else s.views id other x apart) ∙ them in
      let mine = r.each_view id v at in
      let yours = r.each_view other u there in
      let sums : (g : W → ℕ) → total g (set vs other spent) + g u + g v ≡ total g s.views + g x + g spent = λ g. omega (arith, total-set g s.views id v x at, total-set g vs other u spent them) in
      let quiet : waiting v.stage ≡ 0 = ap waiting idle in
      let quiet' : waiting u.stage ≡ 0 = ap waiting theirs in
      let calm : serving v.stage ≡ 0 = ap serving idle in
      let calm' : serving u.stage ≡ 0 = ap serving theirs in
      let lists : IsPrefix (longer v.seen u.seen) r.past × IsPrefix (shorter v.seen u.seen) r.past × IsPrefix v.seen (longer v.seen u.seen) × IsPrefix u.seen (longer v.seen u.seen) =
      let within = by_length (λ long short. IsPrefix long r.past × IsPrefix short r.past) v.seen u.seen (λ _. (mine.seen_is, yours.seen_is)) (λ _. (yours.seen_is, mine.seen_is)) in
      let both = both_prefixes v.seen u.seen (IsPrefix-shorter (shorter v.seen u.seen) (longer v.seen u.seen) r.past within.1 within.0 (shorter_le v.seen u.seen)) in
      (within.0, within.1, both.0, both.1) in (
        record {
          past = r.past;
          drawn = r.drawn;
          served = r.served;
          made = r.made;
          three = r.three;
          single = r.single;
          few = r.few;
          ticket_word = r.ticket_word;
          serving_word = r.serving_word;
          count_word = r.count_word;
          queue = omega (arith, r.queue, sums (λ d. waiting d.stage));
          tickets = λ t. omega (arith, r.tickets t, sums (λ d. has_ticket t d.stage), ap (has_ticket t) theirs);
          shares = omega (arith, r.shares, sums (λ d. d.share));
          numbers = λ k. omega (arith, r.numbers k, sums (λ d. times k d.numbers), times-append k v.numbers u.numbers);
          unmade = r.unmade;
          first_seat = views_stay seat_of origin story seats o (λ d. d.numbers ≡ 0 ∷ [] → r.made + d.share ≡ seats + 1) vs other spent (λ z. absurd (omega (arith, ap length z)))
              (views_at other (λ d. d.numbers ≡ 0 ∷ [] → r.made + d.share ≡ seats + 1) s.views id x (λ z. absurd (omega (arith, named, also-named, ap length z, length-append v.numbers u.numbers))) (λ j d _ z. r.first_seat j d z));
          each_view = views_stay seat_of origin story seats o (K r.served r.past) vs other spent
              (record {
                seats_is = λ z. absurd (omega arith);
                origin_is = λ z. absurd (omega arith);
                seen_is = (r.past, refl);
                told_is = (r.past, refl);
                own_is = λ k z. absurd (omega arith);
                own_else = λ k _. refl;
                serves_is = λ t e. absurd (omega (arith, ap serving e));
                spent_is = λ _. refl;
                has_share = omega arith;
              })
              (views_at other (K r.served r.past) s.views id x
              (record {
                seats_is = λ _. mine.seats_is live;
                origin_is = λ _. mine.origin_is live;
                seen_is = lists.0;
                told_is = lists.1;
                own_is = λ k has-k. dite (dec_le (times k v.numbers) 0)
                    (λ absent. let own = yours.own_is k (omega (arith, has-k, times-append k v.numbers u.numbers)) in let none = mine.own_else k (omega arith) in
                    let all : events_of seat_of k (v.own ++ u.own) ≡ events_of seat_of k u.own = events_of-append seat_of k v.own u.own ∙ ap (λ l. l ++ events_of seat_of k u.own) none in
                    (own.0 ∙ sym all, events_of-between seat_of k u.seen (longer v.seen u.seen) r.past lists.3 lists.0 (own.0 ∙ sym own.1) ∙ (own.1 ∙ sym all)))
                    (λ there-k. let own = mine.own_is k (omega arith) in let none = yours.own_else k (apart_numbers seat_of origin story seats o s r id other k v u apart at there (omega arith)) in
                    let all : events_of seat_of k (v.own ++ u.own) ≡ events_of seat_of k v.own = events_of-append seat_of k v.own u.own ∙ (ap (λ l. events_of seat_of k v.own ++ l) none ∙ append-nil (events_of seat_of k v.own)) in
                    (own.0 ∙ sym all, events_of-between seat_of k v.seen (longer v.seen u.seen) r.past lists.2 lists.0 (own.0 ∙ sym own.1) ∙ (own.1 ∙ sym all)));
                own_else = λ k none-k. let sum = times-append k v.numbers u.numbers in events_of-append seat_of k v.own u.own ∙ (ap (λ l. l ++ events_of seat_of k u.own) (mine.own_else k (omega arith)) ∙ yours.own_else k (omega arith));
                serves_is = λ t e. absurd (omega (arith, calm, ap serving e));
                spent_is = λ z. absurd (omega arith);
                has_share = omega arith;
              })
              (λ j d _ z. r.each_view j d z));
          placed = let same = sums (λ d. serving d.stage) in ⊎_elim (λ (h : Home seat_of origin story o r.past s). inl (h.0, h.1, h.2, h.3, omega (arith, h.4, same))) (λ (a : Away seat_of origin story s). inr (a.0, omega (arith, a.1, same))) r.placed;
        },
        refl,
      )

  pub settle_step : (n id : ℕ) (m : Sat) → m.0.stage ≡ Idle → length m.0.told ≤ length m.0.seen → StepKeeps seat_of origin story seats o (λ past. past) n id m 0 (λ x. x) (settled seat_of origin story (step n 0 0 0 none) m)
  settle_step n id m idle le s r wide at _ =
      let v : W = m.0 in
      let w : W = record v { told = [] } in
      let same : set s.words 0 (get_or s.words 0 0) ≡ s.words = set-get_or s.words 0 0 in
      let mine = r.each_view id v at in
      let count = total-set (λ u. serving u.stage) s.views id v w at in (
        w,
        keeps,
        tt,
        subst (λ (ws : List ℕ). RuledWith seat_of origin story seats o r.past record { words = ws; homes = s.homes; views = set s.views id w }) (sym same)
            (one_view seat_of origin story seats o s r id v w s.words s.homes r.past r.drawn r.served at refl refl refl refl r.ticket_word r.serving_word r.count_word (omega arith) (λ k. omega arith) r.unmade
            (record {
              seats_is = mine.seats_is;
              origin_is = mine.origin_is;
              seen_is = mine.seen_is;
              told_is = (r.past, refl);
              own_is = mine.own_is;
              own_else = mine.own_else;
              serves_is = mine.serves_is;
              spent_is = mine.spent_is;
              has_share = mine.has_share;
            })
            (λ j d _ z. r.each_view j d z)
            (⊎_elim (λ (h : Home seat_of origin story o r.past s). inl (h.0, h.1, h.2, h.3, omega (arith, h.4, count))) (λ (a : Away seat_of origin story s). inr (a.0, omega (arith, a.1, count))) r.placed)),
        (IsPrefix-shorter v.told v.seen r.past mine.told_is mine.seen_is le, (λ k. omega (arith, term_le (λ u. times k u.numbers) s.views id v at, r.numbers k, once_below-le k r.made)), refl),
      )

  pub splits : (id : ℕ) (v : W) → v.numbers ≡ 0 ∷ [] → v.stage ≡ Idle → 1 < v.share → Splits Rule id v (cut v) (another_view v)
  splits id v first idle more s r at = (split_step id v first idle more s r at).0

  pub joins : (id : ℕ) (v : W) (other : ℕ) (u : W) → v.stage ≡ Idle → u.stage ≡ Idle → 0 < v.share → 0 < length v.numbers → 0 < length u.numbers → Joins Rule id v other u (merged v u) spent
  joins id v other u idle theirs live named also s r at apart them = (join_step id v other u idle theirs live named also s r at apart them).0

  pub settles : (n id : ℕ) (m : Sat) → m.0.stage ≡ Idle → length m.0.told ≤ length m.0.seen → Allows Rule n id m 0 (λ x. x) (settled seat_of origin story (step n 0 0 0 none) m)
  settles n id m idle le = allows seat_of origin story seats o (λ past. past) n id m 0 (λ x. x) (settled seat_of origin story (step n 0 0 0 none) m) (settle_step n id m idle le)

  -- what the one pass with all shares knows of the last state
  pub closes : (s : St) (id : ℕ) (v : W) → Rule s → get_elem? s.views id ≡ some v → v.stage ≡ Idle → v.share ≡ seats → 0 < seats
      → (value : V) × (get_elem? s.homes 0 ≡ some (some (Some value))) × (v.origin.value ≡ Some (origin value)) × IsPrefix v.seen (story value) × ((k : ℕ) → events_of seat_of k (story value) ≡ events_of seat_of k v.own)
  closes s id v r at idle all some-seats =
      let mine = r.each_view id v at in
      let h : Home seat_of origin story o r.past s = ⊎_elim (λ (h : Home seat_of origin story o r.past s). h)
      (λ (a : Away seat_of origin story s).
      let apart = total_apart (λ u. serving u.stage) (λ u. u.share) s.views id v seats (λ j u e. omega (arith, (r.each_view j u e).has_share, serving_waits u.stage)) at (omega (arith, ap serving idle)) in
      absurd (omega (arith, a.1, apart, r.shares)))
      r.placed in (
        h.0,
        h.1,
        mine.origin_is (omega arith) ∙ ap Some (sym h.3),
        subst (IsPrefix v.seen) (sym h.2) mine.seen_is,
        λ k. ap (events_of seat_of k) h.2 ∙ dite (dec_le (times k v.numbers) 0)
            (λ absent. r.unmade k (unmade_else s r id v k at all some-seats (omega arith)) ∙ sym (mine.own_else k (omega arith)))
            (λ there-k. (mine.own_is k (omega arith)).0),
      )
    where
      serving_waits : (stage : Stage) → serving stage ≤ waiting stage
      serving_waits Idle = omega arith
      serving_waits (Waits t) = omega arith
      serving_waits (Serves t) = omega arith

      unmade_else : (s : St) (r : Rule s) (id : ℕ) (v : W) (k : ℕ) → get_elem? s.views id ≡ some v → v.share ≡ seats → 0 < seats → times k v.numbers ≡ 0 → r.made ≤ k
      unmade_else s r id v k at all some-seats absent = dite (dec_le r.made k) (λ y. y) (λ lt. absurd (omega (arith, absent, r.numbers k, once_below-lt k r.made (omega arith), total_only (λ u. times k u.numbers) (λ u. u.share) s.views id v at (omega (arith, r.shares)) (λ j u e z. ap (times k) ((r.each_view j u e).spent_is z)))))

  pub closing : (ws : List ℕ) (xs : List (Option V)) (id : ℕ) (v : W) (r : Option V) → Final (Seen Rule id v) ws xs → get_elem? xs 0 ≡ some r → v.stage ≡ Idle → v.share ≡ v.seats → 0 < v.share
      → (value : V) × (r ≡ Some value) × (v.origin.value ≡ Some (origin value)) × IsPrefix v.seen (story value) × ((k : ℕ) → events_of seat_of k (story value) ≡ events_of seat_of k v.own)
  closing ws xs id v r last there idle all live =
      let s = last.0 in
      let rule = last.1.0 in
      let at = last.1.1 in
      let seats-is : v.seats ≡ seats = (rule.each_view id v at).seats_is live in
      let h = closes s id v rule at idle (all ∙ seats-is) (omega (arith, all, seats-is)) in
      (h.0, some-injective r (Some h.0) (sym there ∙ last.4 0 (Some h.0) h.1), h.2, h.3, h.4)
