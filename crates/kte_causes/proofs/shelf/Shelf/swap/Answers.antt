use Rattle.std.proofs.Common.{◌≡◌, ◌+◌, ◌-◌, arith, refl}
use Rattle.kte_causes.proofs.Shelves.{latest-map}
use Rattle.kte_causes.proofs.shelf.Shelf.swap.Goals as goal

pub returns : goal.returns
returns c =
    let s = c.self.inside in
    let p = s.present in
    let range : (p.swap_from + p.swap_len) - p.swap_from ≡ p.swap_len = omega arith in
    rw (range, c.deref.ensures.value, ← c.self.view_is, latest-map s.saved.items s.swap.items s.past.items p) refl
