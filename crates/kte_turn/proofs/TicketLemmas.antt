-- Drawing a ticket, and looking which one is served.
use Rattle.std.proofs.Common.{◌≡◌, ◌≢◌, ℕ, ◌+◌, ◌%◌, ◌^◌, ◌<◌, ◌≤◌, List, ◌∷◌, length, get_or, set, sym, refl, ap, ◌∙◌, subst, ⊎_elim, inl, inr, arith, Option, Some, length-set, get_or-set_other, get_or-set_same}
use mathlib.Core.Logic.{dite}
use mathlib.Core.Option.{none, some}
use mathlib.Core.List.{IsPrefix}
use native.Mathlib.Decide.{ℕ_discrete, dec_le}
use lib.ListN.{get_elem?}
use lib.Seq.{set-get_or}
use Rattle.atomic_table.specs.Table.{State, Me, step, keeps, takes, Allows}
use Rattle.atomic_table.proofs.Lists.{set_here, one_turn}
use Rattle.kte_turn.specs.declared.view.View.{View}
use Rattle.kte_turn.specs.declared.view.Stage.{Stage}
use Rattle.kte_turn.specs.declared.view.Stage.TheVariants.{Idle, Waits, Serves}
use Rattle.kte_turn.specs.Known.{events_of}
use Rattle.kte_turn.specs.Sums.{once_below}
use Rattle.kte_turn.specs.StepLaws.{RuledWith, StepKeeps}
use Rattle.kte_turn.specs.Rule.{waiting, has_ticket, serving, Fits, Home, Away, Ruled}
use Rattle.kte_turn.specs.Steps.{staged, knowing, drew, looked, Found}
use Rattle.kte_turn.proofs.SumLemmas.{total-set, term_le, total_apart, once_below-lt, once_below-pos, once_below-le, once_below-more, same_bit-eq}
use Rattle.kte_turn.proofs.StoryLemmas.{IsPrefix-self}
use Rattle.kte_turn.proofs.ViewLemmas.{allows, one_view}

abbrev ticket_or : ℕ → Stage → ℕ
ticket_or d Idle = d
ticket_or d (Waits t) = t
ticket_or d (Serves t) = t

module _ {V E O : Type 0} (seat_of : E → ℕ) (origin : V → O) (story : V → List E) (seats : ℕ) (o : O) where
  abbrev W : Type 0
  W = View E O

  abbrev St : Type 0
  St = State (Option V) W

  abbrev Sat : Type 0
  Sat = Me (Option V) W

  abbrev Rule : St → Type 0
  Rule = Ruled seat_of origin story seats o

  abbrev K : ℕ → List E → W → Type 0
  K = Fits seat_of origin story seats o

  -- a step that changes no more than where a pass is that is not served
  restaged : (s : St) (r : Rule s) (id : ℕ) (v : W) (stage : Stage) (ws : List ℕ) (drawn : ℕ) → get_elem? s.views id ≡ some v
      → length ws ≡ length s.words → get_or ws 0 0 ≡ drawn % 2 ^ 64 → get_or ws 1 0 ≡ r.served % 2 ^ 64 → get_or ws 2 0 ≡ length r.past
      → serving v.stage ≡ 0 → serving stage ≡ 0 → waiting stage ≤ v.share → r.served + waiting stage + r.drawn ≡ drawn + waiting v.stage + r.served
      → ((t : ℕ) → has_ticket t stage + once_below t r.served + once_below t r.drawn ≡ has_ticket t v.stage + once_below t r.served + once_below t drawn)
      → RuledWith seat_of origin story seats o r.past record { words = ws; homes = s.homes; views = set s.views id (staged stage v) }
  restaged s r id v stage ws drawn at long tick serve count was now share queue tickets =
      let mine = r.each_view id v at in
      let same = total-set (λ u. serving u.stage) s.views id v (staged stage v) at in
      one_view seat_of origin story seats o s r id v (staged stage v) ws s.homes r.past drawn r.served at refl refl long refl tick serve count queue tickets r.unmade
      (record {
        seats_is = mine.seats_is;
        origin_is = mine.origin_is;
        seen_is = mine.seen_is;
        told_is = mine.told_is;
        own_is = mine.own_is;
        own_else = mine.own_else;
        serves_is = λ t e. absurd (omega (arith, now, ap serving e));
        spent_is = mine.spent_is;
        has_share = share;
      })
      (λ j d _ e. r.each_view j d e)
      (⊎_elim (λ (h : Home seat_of origin story o r.past s). inl (h.0, h.1, h.2, h.3, omega (arith, h.4, same))) (λ (a : Away seat_of origin story s). inr (a.0, omega (arith, a.1, same))) r.placed)

  pub draw_step : (n id : ℕ) (m : Sat) → m.0.stage ≡ Idle → 0 < m.0.share → StepKeeps seat_of origin story seats o (λ past. past) n id m 0 (λ x. (x + 1) % 2 ^ 64) (drew seat_of origin story (step n 0 1 0 none) m)
  draw_step n id m idle live s r wide at _ =
      let x : ℕ = get_or s.words 0 0 in
      let three = r.three in
      let tick : x ≡ r.drawn % 2 ^ 64 = r.ticket_word in (
        staged (Waits r.drawn) m.0,
        keeps,
        tt,
        restaged s r id m.0 (Waits r.drawn) (set s.words 0 ((x + 1) % 2 ^ 64)) (r.drawn + 1) at (length-set s.words 0 ((x + 1) % 2 ^ 64))
            (omega (arith, get_or-set_same s.words 0 ((x + 1) % 2 ^ 64) 0 (omega arith), tick))
            (get_or-set_other s.words 0 1 ((x + 1) % 2 ^ 64) 0 (λ e. omega arith) ∙ r.serving_word)
            (get_or-set_other s.words 0 2 ((x + 1) % 2 ^ 64) 0 (λ e. omega arith) ∙ r.count_word)
            (ap serving idle) refl (omega arith) (omega (arith, ap waiting idle))
            (λ t. omega (arith, once_below-more t r.drawn, ap (has_ticket t) idle)),
        (r.drawn, sym tick, refl),
      )

  serving_le : (served : ℕ) (stage : Stage) → ((t : ℕ) → stage ≡ Serves t → t ≡ served) → serving stage ≤ has_ticket served stage
  serving_le served Idle h = omega arith
  serving_le served (Waits t) h = omega arith
  serving_le served (Serves t) h = omega (arith, same_bit-eq t served (h t refl))

  -- a ticket that is held lies between the one that is served and the next one, so less than one round of the word away
  queued : (s : St) (r : Rule s) (id t : ℕ) (v : W) → get_elem? s.views id ≡ some v → has_ticket t v.stage ≡ 1 → (r.served ≤ t) × (t < r.served + 2 ^ 64)
  queued s r id t v at has =
      let part = term_le (λ u. has_ticket t u.stage) s.views id v at in
      let all = r.tickets t in
      let a = once_below-le t r.drawn in
      let b = once_below-le t r.served in
      let below : t < r.drawn = once_below-pos t r.drawn (omega arith) in
      let above : r.served ≤ t = dite (dec_le r.served t) (λ y. y) (λ n. absurd (omega (arith, once_below-lt t r.served (omega arith)))) in
      let fits = total_apart (λ u. waiting u.stage) (λ u. u.share) s.views id v 0 (λ j u e. (r.each_view j u e).has_share) at (omega (arith, (r.each_view id v at).has_share)) in
      (above, omega (arith, r.queue, r.shares, r.few))

  -- a pass whose ticket is served and that does not hold the slot finds it at home
  at_home : (s : St) (r : Rule s) (id : ℕ) (v : W) → get_elem? s.views id ≡ some v → has_ticket r.served v.stage ≡ 1 → serving v.stage ≡ 0 → Home seat_of origin story o r.past s
  at_home s r id v at has calm =
      ⊎_elim (λ (h : Home seat_of origin story o r.past s). h)
      (λ (a : Away seat_of origin story s).
      let apart = total_apart (λ u. serving u.stage) (λ u. has_ticket r.served u.stage) s.views id v 1 (λ j u e. serving_le r.served u.stage (λ t is. ((r.each_view j u e).serves_is t is).0)) at (omega arith) in
      absurd (omega (arith, a.1, apart, r.tickets r.served, once_below-le r.served r.drawn)))
      r.placed

  abbrev Finds : Sat → Sat → ℕ → ℕ → Type 0
  Finds m n z x =
      (z % 2 ^ 64 ≡ x → (value : V) × (n ≡ (staged (Serves z) (knowing (story value) m.0), (0, Some value) ∷ m.1)) × Found seat_of origin story m.0 value)
      × (z % 2 ^ 64 ≢ x → n ≡ m)

  pub look_step : (n id : ℕ) (m : Sat) (t : ℕ) → m.0.stage ≡ Waits t → StepKeeps seat_of origin story seats o (λ past. past) n id m 1 (λ x. x) (looked seat_of origin story (step n 1 0 0 none) m)
  look_step n id m t waits s r wide at _ =
      let x : ℕ = get_or s.words 1 0 in
      let same : set s.words 1 x ≡ s.words = set-get_or s.words 1 0 in
      let v : W = m.0 in
      let mine = r.each_view id v at in
      let has : has_ticket t v.stage ≡ 1 = ap (has_ticket t) waits ∙ same_bit-eq t t refl in
      let idle : serving v.stage ≡ 0 = ap serving waits in
      let live : 0 < v.share = omega (arith, mine.has_share, ap waiting waits) in
      dite (ℕ_discrete (t % 2 ^ 64) x)
      (λ mine-now.
      let q = queued s r id t v at has in
      let is : r.served ≡ t = one_turn r.served t (2 ^ 64) q.0 q.1 (sym r.serving_word ∙ sym mine-now) in
      let h = at_home s r id v at (ap (λ (z : ℕ). has_ticket z v.stage) is ∙ has) idle in
      let value : V = h.0 in
      let w : W = staged (Serves t) (knowing (story value) v) in (
        w,
        takes 0 (Some value),
        h.1,
        subst (λ (ws : List ℕ). RuledWith seat_of origin story seats o r.past record { words = ws; homes = set s.homes 0 none; views = set s.views id w }) (sym same)
            (one_view seat_of origin story seats o s r id v w s.words (set s.homes 0 none) r.past r.drawn r.served at refl refl refl (length-set s.homes 0 none) r.ticket_word r.serving_word r.count_word
            (omega (arith, ap waiting waits)) (λ k. omega (arith, ap (has_ticket k) waits)) r.unmade
            (record {
              seats_is = mine.seats_is;
              origin_is = mine.origin_is;
              seen_is = subst (λ l. IsPrefix l r.past) (sym h.2) (IsPrefix-self r.past);
              told_is = mine.told_is;
              own_is = λ k has-k. let own = mine.own_is k has-k in (own.0, ap (events_of seat_of k) h.2 ∙ own.0);
              own_else = mine.own_else;
              serves_is = λ k e. (sym (ap (ticket_or 0) e) ∙ sym is, h.2);
              spent_is = mine.spent_is;
              has_share = omega (arith, mine.has_share, ap waiting waits);
            })
            (λ j d _ e. r.each_view j d e)
            (inr (set_here s.homes 0 none (omega (arith, r.single)), omega (arith, h.4, idle, total-set (λ u. serving u.stage) s.views id v w at)))),
        λ k e.
            let k-is : t ≡ k = ap (ticket_or 0) (sym waits ∙ e) in
            subst (λ (z : ℕ). Finds m (w, (0, Some h.0) ∷ m.1) z x) k-is (
              (λ _. (value, refl, record { origin_is = mine.origin_is live ∙ ap Some (sym h.3); seen_is = subst (IsPrefix v.seen) (sym h.2) mine.seen_is; own_is = λ j has-j. let own = mine.own_is j has-j in (ap (events_of seat_of j) h.2 ∙ own.0, own.1) })),
              λ not. absurd (not mine-now),
            ),
      ))
      (λ other. (
        v,
        keeps,
        tt,
        restaged s r id v v.stage (set s.words 1 x) r.drawn at (ap length same) (ap (λ ws. get_or ws 0 0) same ∙ r.ticket_word) (ap (λ ws. get_or ws 1 0) same ∙ r.serving_word) (ap (λ ws. get_or ws 2 0) same ∙ r.count_word)
            idle idle mine.has_share (omega arith) (λ k. omega arith),
        λ k e. let k-is : t ≡ k = ap (ticket_or 0) (sym waits ∙ e) in ((λ y. absurd (other (ap (λ (z : ℕ). z % 2 ^ 64) k-is ∙ y))), λ _. refl),
      ))

  pub draws : (n id : ℕ) (m : Sat) → m.0.stage ≡ Idle → 0 < m.0.share → Allows Rule n id m 0 (λ x. (x + 1) % 2 ^ 64) (drew seat_of origin story (step n 0 1 0 none) m)
  draws n id m idle live = allows seat_of origin story seats o (λ past. past) n id m 0 (λ x. (x + 1) % 2 ^ 64) (drew seat_of origin story (step n 0 1 0 none) m) (draw_step n id m idle live)

  pub looks : (n id : ℕ) (m : Sat) (t : ℕ) → m.0.stage ≡ Waits t → Allows Rule n id m 1 (λ x. x) (looked seat_of origin story (step n 1 0 0 none) m)
  looks n id m t waits = allows seat_of origin story seats o (λ past. past) n id m 1 (λ x. x) (looked seat_of origin story (step n 1 0 0 none) m) (look_step n id m t waits)
