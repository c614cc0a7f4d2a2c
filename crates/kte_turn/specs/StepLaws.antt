-- What each kind of step keeps, and what it does to the story: a count adds its event, and no other
-- step changes anything. This project's own.
use Rattle.std.specs.Prelude.{◌≡◌, ℕ, ◌+◌, ◌%◌, ◌^◌, ◌<◌, ◌≤◌, List, [], ◌∷◌, ◌++◌, length, slice_index, slice_set, Option, Some}
use mathlib.Core.Option.{none, some}
use lib.ListN.{get_elem?}
use Rattle.atomic_table.specs.Table.{State, Me, Act, Valid, stepped, carried_after, step}
use Rattle.kte_turn.specs.declared.view.View.{View}
use Rattle.kte_turn.specs.declared.view.Stage.TheVariants.{Idle, Waits, Serves}
use Rattle.kte_turn.specs.Sums.{times}
use Rattle.kte_turn.specs.Rule.{Ruled}
use Rattle.kte_turn.specs.Steps.{drew, looked, counted, gave_back, settled, cut, another_view, merged, spent}

module _ {V E O : Type 0} (seat_of : E → ℕ) (origin : V → O) (story : V → List E) where
  abbrev St : Type 0
  St = State (Option V) (View E O)

  -- a pass: its view, and what it holds of the slots
  abbrev Sat : Type 0
  Sat = Me (Option V) (View E O)

  abbrev Rule : ℕ → O → St → Type 0
  Rule = Ruled seat_of origin story

  -- the rule holds in a state, with this story
  abbrev pub RuledWith : ℕ → O → List E → St → Type 0
  RuledWith seats o past s = (rule : Rule seats o s) × (rule.past ≡ past)

  -- Whatever the turn is when the word becomes f of what it was, the pass has a new view and an
  -- act on the slot that keep the rule. The story becomes `after` of it, and the pass is told
  -- `then`.
  abbrev pub StepKeeps : ℕ → O → (List E → List E) → ℕ → ℕ → Sat → ℕ → (ℕ → ℕ)
      → (ℕ → Sat → Type 0) → Type 0
  StepKeeps seats o after slots id me word f then =
      (s : St) (rule : Rule seats o s) → length s.homes ≡ slots → get_elem? s.views id ≡ some me.0
      → slice_index s.words word < 2 ^ 64
      → (view : View E O) × (act : Act (Option V)) × Valid s.homes me.1 act
      × RuledWith seats o (after rule.past)
      (stepped s word (f (slice_index s.words word)) id me.1 view act)
      × then (slice_index s.words word) (view, carried_after me.1 act)

  -- a pass without a ticket draws one
  abbrev pub DrawKeeps : Type 0
  DrawKeeps =
      (seats : ℕ) (o : O) (slots id : ℕ) (me : Sat) → me.0.stage ≡ Idle → 0 < me.0.share
      → StepKeeps seats o (λ past. past) slots id me 0 (λ x. (x + 1) % 2 ^ 64)
      (drew seat_of origin story (step slots 0 1 0 none) me)

  -- a pass that waits looks which ticket is served
  abbrev pub LookKeeps : Type 0
  LookKeeps =
      (seats : ℕ) (o : O) (slots id : ℕ) (me : Sat) (ticket : ℕ) → me.0.stage ≡ Waits ticket
      → StepKeeps seats o (λ past. past) slots id me 1 (λ x. x)
      (looked seat_of origin story (step slots 1 0 0 none) me)

  -- a pass that is served counts an event of a seat that it has
  abbrev pub CountKeeps : Type 0
  CountKeeps =
      (seats : ℕ) (o : O) (slots id : ℕ) (me : Sat) (ticket : ℕ) (event : E)
      → me.0.stage ≡ Serves ticket → 0 < times (seat_of event) me.0.numbers
      → length me.0.seen + 1 < 2 ^ 64
      → StepKeeps seats o (λ past. past ++ event ∷ []) slots id me 2 (λ x. (x + 1) % 2 ^ 64)
      (counted seat_of origin story (Some event) (step slots 2 1 0 none) me)

  -- a pass that is served, and holds a value that tells what it has seen, serves the next ticket
  abbrev pub ServeKeeps : Type 0
  ServeKeeps =
      (seats : ℕ) (o : O) (slots id : ℕ) (view : View E O) (value : V) (ticket : ℕ)
      → view.stage ≡ Serves ticket → story value ≡ view.seen
      → view.origin.value ≡ Some (origin value)
      → (let me : Sat = (view, (0, Some value) ∷ []) in
      StepKeeps seats o (λ past. past) slots id me 1 (λ x. (x + 1) % 2 ^ 64)
      (gave_back seat_of origin story (step slots 1 1 0 none) me))

  -- a pass without a ticket that has seat 0, and has joined none, is split
  abbrev pub SplitKeeps : Type 0
  SplitKeeps =
      (seats : ℕ) (o : O) (id : ℕ) (view : View E O)
      → view.numbers ≡ 0 ∷ [] → view.stage ≡ Idle → 1 < view.share
      → (s : St) (rule : Rule seats o s) → get_elem? s.views id ≡ some view
      → RuledWith seats o rule.past
      (record s { views = slice_set s.views id (cut view) ++ another_view view ∷ [] })

  -- two passes without a ticket are joined
  abbrev pub JoinKeeps : Type 0
  JoinKeeps =
      (seats : ℕ) (o : O) (id : ℕ) (view : View E O) (other : ℕ) (theirs : View E O)
      → view.stage ≡ Idle → theirs.stage ≡ Idle
      → 0 < view.share → 0 < length view.numbers → 0 < length theirs.numbers
      → (s : St) (rule : Rule seats o s) → get_elem? s.views id ≡ some view → ¬ (other ≡ id)
      → (let joined : List (View E O) = slice_set s.views id (merged view theirs) in
      get_elem? joined other ≡ some theirs
      → RuledWith seats o rule.past (record s { views = slice_set joined other spent }))

  -- the second load of a join
  abbrev pub SettleKeeps : Type 0
  SettleKeeps =
      (seats : ℕ) (o : O) (slots id : ℕ) (me : Sat)
      → me.0.stage ≡ Idle → length me.0.told ≤ length me.0.seen
      → StepKeeps seats o (λ past. past) slots id me 0 (λ x. x)
      (settled seat_of origin story (step slots 0 0 0 none) me)
