use Rattle.std.proofs.Common.{◌≡◌, ◌∙◌, ◌-◌, List, length, slice_get, Option, Some, None, false, ap}
use Rattle.std.specs.Option.{option_map_or}
use Rattle.kte_find.specs.Brackets.{Placed, closes}
use Rattle.kte_find.specs.Reading.{closes_last}
use Rattle.kte_find.proofs.brackets.Reading.closes_last.Goals as goal

as_last : (all items : List Placed) (c : Placed) (l : Option Placed) → all ≡ items → l ≡ slice_get all (length all - 1)
    → option_map_or (λ (o : Placed). closes o.unit c.unit) l false ≡ closes_last items c
as_last all items c l e h =
    ap (λ x. option_map_or (λ (o : Placed). closes o.unit c.unit) x false) (h ∙ ap (λ xs. slice_get xs (length xs - 1)) e)

pub returns-in-Some : goal.returns-in-Some
returns-in-Some c = c.is_closed_by.ensures
    ∙ as_last c.deref.result.now c.args.self.now.opened.items c.args.bracket.now (Some c.in-Some.opening.now) c.deref.ensures.value c.in-Some.ensures.value

pub returns-in-None : goal.returns-in-None
returns-in-None c = as_last c.deref.result.now c.args.self.now.opened.items c.args.bracket.now None c.deref.ensures.value c.in-None.ensures.value
