use Rattle.std.proofs.Common.{◌≡◌, ◌+◌, ◌-◌, arith, refl}
use Rattle.kte_causes.proofs.Shelves.{latest-map}
use Rattle.kte_causes.proofs.shelf.Shelf.saved.Goals as goal

pub returns : goal.returns
returns c =
    let s = c.self.inside in
    let p = s.present in
    let range : (p.saved_from + p.saved_len) - p.saved_from ≡ p.saved_len = omega arith in
    rw (range, c.deref.ensures.value, ← c.self.view_is, latest-map s.saved.items s.swap.items s.past.items p) refl
