use Rattle.std.proofs.Common.{◌≡◌, ◌∙◌, [], ◌∷◌, ◌++◌, ◌+◌, take, get_or, sym, ap, add-one, zero-add, append_assoc}
use Rattle.kte_place.specs.Place.{at}
use Rattle.kte_find.specs.Brackets.{Placed, placed_on}
use Rattle.kte_find.proofs.PlacedLemmas.{placed_on-more}
use Rattle.kte_find.proofs.SealLemmas.{read_plain}
use Rattle.kte_find.proofs.brackets.Reading.read_line.Goals.{then-is_bracket+in_ok-read, else-is_bracket}
use Rattle.kte_find.proofs.brackets.Reading.read_line.Goals as goal

pub loop-column-preserved : goal.loop-column-preserved
loop-column-preserved c =
    let n = c.loop-column.column in
    let line = c.args.line in
    let units = c.args.units.now in
    let here : Placed = record { place = at line n; unit = get_or units n 0 } in
    let more : placed_on line 0 (take (n + 1) units) ≡ placed_on line 0 (take n units) ++ here ∷ [] = rw add-one (placed_on-more line 0 units n c.loop-column-test.true ∙ ap (λ m. placed_on line 0 (take n units) ++ (record { place = at line m; unit = get_or units n 0 }) ∷ []) (zero-add n)) in
    elim c.if-is_bracket.branch [
      | then-is_bracket+in_ok-read w ↦ rw w.self-is (record {
        few = w.in_ok-read.ensures.few;
        read = λ before h. rw (more, ← append_assoc) (w.in_ok-read.ensures.read (before ++ placed_on line 0 (take n units)) (c.loop-column.invariant.read before h));
      })
      | else-is_bracket w ↦ rw w.self-is (record {
        few = c.loop-column.invariant.few;
        read = λ before h. rw (more, ← append_assoc) (read_plain _ _ _ here (sym c.is_bracket.ensures ∙ w.if-is_bracket.false) (c.loop-column.invariant.read before h));
      })
    ]
