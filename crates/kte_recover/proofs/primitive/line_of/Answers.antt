use Rattle.std.proofs.Common.{◌≡◌, ◌∙◌, ℕ, List, subst, sym, ap, Err}
use Rattle.std.specs.List.{position}
use Rattle.std.specs.Str.{IsUtf8}
use Rattle.kte_text.specs.Units.{IsLine, is_line_end, utf8_of}
use Rattle.kte_text.proofs.CharLemmas.{IsUtf8-utf8_of}
use Rattle.kte_recover.proofs.LineEnds.{no_end}
use Rattle.kte_recover.proofs.primitive.line_of.Goals as goal

pub returns-in_default : goal.returns-in_default
returns-in_default c units line e =
    c.in_default.ensures.cases.0 (subst IsUtf8 e (IsUtf8-utf8_of units line))

pub returns-in-Err-HasEnd : goal.returns-in-Err-HasEnd
returns-in-Err-HasEnd c units line e =
    let at = c.in-Err-HasEnd.field-0-0 in
    let found = (c.from_utf8-2.ensures.has_end at).0 (c.in-Err-HasEnd.is ∙ ap Err c.in-Err-HasEnd.field-0-is) in
    no_end units at line (ap (position is_line_end) (e ∙ sym c.in-Ok.ensures.cases.0) ∙ found)
