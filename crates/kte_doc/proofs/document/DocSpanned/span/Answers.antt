use Rattle.std.proofs.Common.{◌∙◌}
use Rattle.kte_doc.proofs.Looks.{span_by_range}
use Rattle.kte_doc.proofs.document.DocSpanned.span.Goals as goal

pub returns : goal.returns
returns c = c.unwrap_or.ensures ∙ span_by_range _ c.args.id _ _ c.range.ensures.span
