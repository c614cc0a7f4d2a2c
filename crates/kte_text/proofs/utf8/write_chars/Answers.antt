use Rattle.std.proofs.Common.{ℕ, List, ◌≡◌, ◌≤◌, ◌∙◌, ◌++◌, [], length, take, drop, arith, sym, ap, append-nil, length-take}
use Rattle.std.proofs.lemmas.List.{drop_all, take_all}
use Rattle.kte_text.specs.Units.{utf8_of}
use Rattle.kte_text.proofs.Utf8Lemmas.{utf8-nil}
use Rattle.kte_text.proofs.utf8.write_chars.Goals as goal

pub returns : goal.returns
returns c =
    let l = c.loop-next in
    let units = c.args.units.now in
    let none : utf8_of (drop l.next units) ≡ [] = ap utf8_of (drop_all l.next units c.loop-next-test.false) ∙ utf8-nil in
    let whole : take l.at l.room ≡ utf8_of units = sym (append-nil (take l.at l.room)) ∙ rw none at l.invariant.0 in
    let full : length l.room ≤ l.at = omega (arith, ap length whole, length-take l.at l.room, l.invariant.2) in
    sym (take_all l.at l.room full) ∙ whole
