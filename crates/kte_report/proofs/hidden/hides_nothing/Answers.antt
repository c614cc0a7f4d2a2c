use Rattle.std.proofs.Common.{◌-◌, ◌∙◌, sym}
use Rattle.kte_core.specs.Replay.{present}
use Rattle.kte_core.proofs.FoldMapLemmas.{tree_shown}
use Rattle.kte_report.proofs.HiddenLemmas.{none_shown, same_number}
use Rattle.kte_report.proofs.hidden.hides_nothing.Goals as goal

pub visible_of-requires : goal.visible_of-requires
visible_of-requires c =
    tree_shown (present c.args.core.now) c.doc-doc.result.now c.folds.result.now c.doc-doc.ensures c.folds.ensures.tree

pub returns : goal.returns
returns c =
    let shown = none_shown (present c.args.core.now) c.doc-doc.result.now c.folds.result.now c.lines-last.result c.doc-doc.ensures
    c.folds.ensures.numbers c.lines-last.ensures.count c.lines-last.ensures.is_text.some in
    let same = same_number c.visible_of.result (c.lines-last.result - 1) in (
      λ yes. shown.0 (sym c.visible_of.ensures ∙ same.0 (sym c.eq.ensures ∙ yes)),
      λ none. c.eq.ensures ∙ same.1 (c.visible_of.ensures ∙ shown.1 none),
    )
