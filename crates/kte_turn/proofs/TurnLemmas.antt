-- Counting an event, and serving the next ticket.
use Rattle.std.proofs.Common.{◌≡◌, ℕ, ◌+◌, ◌%◌, ◌^◌, ◌<◌, List, [], ◌∷◌, ◌++◌, length, get_or, set, sym, refl, ap, ◌∙◌, subst, inl, inr, arith, Option, Some, length-set, length-append, get_or-set_other, get_or-set_same}
use mathlib.Core.Option.{none, some}
use mathlib.Core.List.{IsPrefix}
use Rattle.atomic_table.specs.Table.{State, Me, step, keeps, gives, Allows}
use Rattle.atomic_table.proofs.Lists.{set_here}
use Rattle.kte_turn.specs.declared.view.View.{View}
use Rattle.kte_turn.specs.declared.view.Stage.TheVariants.{Serves}
use Rattle.kte_turn.specs.Known.{events_of}
use Rattle.kte_turn.specs.Sums.{times}
use Rattle.kte_turn.specs.StepLaws.{StepKeeps}
use Rattle.kte_turn.specs.Rule.{waiting, has_ticket, serving, Fits, Ruled}
use Rattle.kte_turn.specs.Steps.{counting, leaving, counted, gave_back}
use Rattle.kte_turn.proofs.SumLemmas.{total-set, term_le, once_below-pos, once_below-more, same_bit}
use Rattle.kte_turn.proofs.StoryLemmas.{IsPrefix-self, IsPrefix-append, Some-injective, events_of-append, events_of-other}
use Rattle.kte_turn.proofs.ViewLemmas.{allows, one_view, alone, apart_numbers, out}

module _ {V E O : Type 0} (seat_of : E → ℕ) (origin : V → O) (story : V → List E) (seats : ℕ) (o : O) where
  abbrev W : Type 0
  W = View E O

  abbrev St : Type 0
  St = State (Option V) W

  abbrev Sat : Type 0
  Sat = Me (Option V) W

  abbrev Rule : St → Type 0
  Rule = Ruled seat_of origin story seats o

  abbrev K : ℕ → List E → W → Type 0
  K = Fits seat_of origin story seats o

  pub count_step : (n id : ℕ) (m : Sat) (t : ℕ) (e : E) (said : Option E) → said ≡ Some e → m.0.stage ≡ Serves t → 0 < times (seat_of e) m.0.numbers → length m.0.seen + 1 < 2 ^ 64
      → StepKeeps seat_of origin story seats o (λ past. past ++ e ∷ []) n id m 2 (λ x. (x + 1) % 2 ^ 64) (counted seat_of origin story said (step n 2 1 0 none) m)
  count_step n id m t e said is serves has short s r wide at _ =
      let x : ℕ = get_or s.words 2 0 in
      let v : W = m.0 in
      let w : W = counting e v in
      let mine = r.each_view id v at in
      let three = r.three in
      let now : serving v.stage ≡ 1 = ap serving serves in
      let whole : v.seen ≡ r.past = (mine.serves_is t serves).1 in
      let as_long : x ≡ length v.seen = r.count_word ∙ ap length (sym whole) in
      let a = out seat_of origin story seats o s r id v at now in
      let made : seat_of e < r.made = once_below-pos (seat_of e) r.made (omega (arith, r.numbers (seat_of e), term_le (λ u. times (seat_of e) u.numbers) s.views id v at)) in (
        w,
        keeps,
        tt,
        one_view seat_of origin story seats o s r id v w (set s.words 2 ((x + 1) % 2 ^ 64)) s.homes (r.past ++ e ∷ []) r.drawn r.served at refl refl (length-set s.words 2 ((x + 1) % 2 ^ 64)) refl
            (get_or-set_other s.words 2 0 ((x + 1) % 2 ^ 64) 0 (λ z. omega arith) ∙ r.ticket_word)
            (get_or-set_other s.words 2 1 ((x + 1) % 2 ^ 64) 0 (λ z. omega arith) ∙ r.serving_word)
            (omega (arith, get_or-set_same s.words 2 ((x + 1) % 2 ^ 64) 0 (omega arith), length-append r.past (e ∷ []), ap length whole))
            (omega arith) (λ k. omega arith)
            (λ k le. events_of-other seat_of k r.past e (λ z. omega arith) ∙ r.unmade k le)
            (record {
              seats_is = mine.seats_is;
              origin_is = mine.origin_is;
              seen_is = subst (λ l. IsPrefix (l ++ e ∷ []) (r.past ++ e ∷ [])) (sym whole) (IsPrefix-self (r.past ++ e ∷ []));
              told_is = IsPrefix-append v.told r.past (e ∷ []) mine.told_is;
              own_is = λ k has-k. let own = mine.own_is k has-k in (
                events_of-append seat_of k r.past (e ∷ []) ∙ (ap (λ l. l ++ events_of seat_of k (e ∷ [])) own.0 ∙ sym (events_of-append seat_of k v.own (e ∷ []))),
                events_of-append seat_of k v.seen (e ∷ []) ∙ (ap (λ l. l ++ events_of seat_of k (e ∷ [])) own.1 ∙ sym (events_of-append seat_of k v.own (e ∷ []))),
              );
              own_else = λ k none-k. events_of-other seat_of k v.own e (λ z. absurd (omega (arith, has, none-k, ap (λ (y : ℕ). times y v.numbers) z))) ∙ mine.own_else k none-k;
              serves_is = λ k z. ((mine.serves_is k z).0, ap (λ l. l ++ e ∷ []) whole);
              spent_is = mine.spent_is;
              has_share = mine.has_share;
            })
            (λ j d other z.
            let theirs = r.each_view j d z in
            let apart = apart_numbers seat_of origin story seats o s r id j (seat_of e) v d other at z has in
            let calm = alone seat_of origin story seats o s r id j v d other at z now in record {
              seats_is = theirs.seats_is;
              origin_is = theirs.origin_is;
              seen_is = IsPrefix-append d.seen r.past (e ∷ []) theirs.seen_is;
              told_is = IsPrefix-append d.told r.past (e ∷ []) theirs.told_is;
              own_is = λ k has-k. let own = theirs.own_is k has-k in (events_of-other seat_of k r.past e (λ y. absurd (omega (arith, apart, has-k, ap (λ (q : ℕ). times q d.numbers) y))) ∙ own.0, own.1);
              own_else = theirs.own_else;
              serves_is = λ k y. absurd (omega (arith, calm, ap serving y));
              spent_is = theirs.spent_is;
              has_share = theirs.has_share;
            })
            (inr (a.0, omega (arith, a.1, total-set (λ u. serving u.stage) s.views id v w at))),
        (e, is, refl),
      )

  pub serve_step : (n id : ℕ) (v : W) (value : V) (t : ℕ) → v.stage ≡ Serves t → story value ≡ v.seen → v.origin.value ≡ Some (origin value)
      → StepKeeps seat_of origin story seats o (λ past. past) n id (v, (0, Some value) ∷ []) 1 (λ x. (x + 1) % 2 ^ 64) (gave_back seat_of origin story (step n 1 1 0 none) (v, (0, Some value) ∷ []))
  serve_step n id v value t stage tells from s r wide at _ =
      let x : ℕ = get_or s.words 1 0 in
      let w : W = leaving v in
      let mine = r.each_view id v at in
      let three = r.three in
      let one = r.single in
      let now : serving v.stage ≡ 1 = ap serving stage in
      let is = mine.serves_is t stage in
      let a = out seat_of origin story seats o s r id v at now in
      let live : 0 < v.share = omega (arith, mine.has_share, ap waiting stage) in
      let word : x ≡ r.served % 2 ^ 64 = r.serving_word in
      let origin-is : origin value ≡ o = Some-injective (origin value) o (sym from ∙ mine.origin_is live) in (
        w,
        gives,
        tt,
        one_view seat_of origin story seats o s r id v w (set s.words 1 ((x + 1) % 2 ^ 64)) (set s.homes 0 (some (Some value))) r.past r.drawn (r.served + 1) at refl refl
            (length-set s.words 1 ((x + 1) % 2 ^ 64)) (length-set s.homes 0 (some (Some value)))
            (get_or-set_other s.words 1 0 ((x + 1) % 2 ^ 64) 0 (λ z. omega arith) ∙ r.ticket_word)
            (omega (arith, get_or-set_same s.words 1 ((x + 1) % 2 ^ 64) 0 (omega arith), word))
            (get_or-set_other s.words 1 2 ((x + 1) % 2 ^ 64) 0 (λ z. omega arith) ∙ r.count_word)
            (omega (arith, ap waiting stage))
            (λ k. omega (arith, ap (has_ticket k) stage, once_below-more k r.served, ap (λ (z : ℕ). same_bit z k) is.0))
            r.unmade
            (record {
              seats_is = mine.seats_is;
              origin_is = mine.origin_is;
              seen_is = mine.seen_is;
              told_is = mine.told_is;
              own_is = mine.own_is;
              own_else = mine.own_else;
              serves_is = λ k z. absurd (omega (arith, ap serving z));
              spent_is = mine.spent_is;
              has_share = omega arith;
            })
            (λ j d other z. let theirs = r.each_view j d z in let calm = alone seat_of origin story seats o s r id j v d other at z now in record {
              seats_is = theirs.seats_is;
              origin_is = theirs.origin_is;
              seen_is = theirs.seen_is;
              told_is = theirs.told_is;
              own_is = theirs.own_is;
              own_else = theirs.own_else;
              serves_is = λ k y. absurd (omega (arith, calm, ap serving y));
              spent_is = theirs.spent_is;
              has_share = theirs.has_share;
            })
            (inl (value, set_here s.homes 0 (some (Some value)) (omega arith), tells ∙ is.1, origin-is, omega (arith, a.1, now, total-set (λ u. serving u.stage) s.views id v w at))),
        refl,
      )

  pub serves_at : (n id : ℕ) (m : Sat) (v : W) (value : V) (t : ℕ) → m ≡ (v, (0, Some value) ∷ []) → v.stage ≡ Serves t → story value ≡ v.seen → v.origin.value ≡ Some (origin value)
      → Allows Rule n id m 1 (λ x. (x + 1) % 2 ^ 64) (gave_back seat_of origin story (step n 1 1 0 none) m)
  serves_at n id m v value t is stage tells from =
      subst (λ (x : Sat). Allows Rule n id x 1 (λ x. (x + 1) % 2 ^ 64) (gave_back seat_of origin story (step n 1 1 0 none) x)) (sym is)
      (allows seat_of origin story seats o (λ past. past) n id (v, (0, Some value) ∷ []) 1 (λ x. (x + 1) % 2 ^ 64) (gave_back seat_of origin story (step n 1 1 0 none) (v, (0, Some value) ∷ [])) (serve_step n id v value t stage tells from))

  pub counts : (n id : ℕ) (m : Sat) (t : ℕ) (e : E) (said : Option E) → said ≡ Some e → m.0.stage ≡ Serves t → 0 < times (seat_of e) m.0.numbers → length m.0.seen + 1 < 2 ^ 64
      → Allows Rule n id m 2 (λ x. (x + 1) % 2 ^ 64) (counted seat_of origin story said (step n 2 1 0 none) m)
  counts n id m t e said is serves has short = allows seat_of origin story seats o (λ past. past ++ e ∷ []) n id m 2 (λ x. (x + 1) % 2 ^ 64) (counted seat_of origin story said (step n 2 1 0 none) m) (count_step n id m t e said is serves has short)
