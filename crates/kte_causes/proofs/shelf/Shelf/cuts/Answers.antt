use Rattle.std.proofs.Common.{◌≡◌, ◌∙◌, List, [], ◌∷◌, ◌++◌, Some, slice_get, sym, ap}
use Rattle.kte_causes.specs.declared.shelf.Place.{Place}
use Rattle.kte_causes.proofs.Shelves.{place-within}
use Rattle.kte_causes.proofs.shelf.Shelf.cuts.Goals as goal

pub returns-clause-ordered : goal.returns-clause-ordered
returns-clause-ordered c =
    let s = c.self.inside in
    let place = c.place_at-place.result in
    let at : slice_get (s.past.items ++ s.present ∷ []) c.args.moment ≡ Some place =
    ap (λ (past : List Place). slice_get (past ++ s.present ∷ []) c.args.moment) (sym c.deref.ensures.value) ∙ c.place_at-place.ensures in
    (place-within s.saved.items s.swap.items s.past.items s.present c.args.moment place c.self.invariant at).synced_fits
