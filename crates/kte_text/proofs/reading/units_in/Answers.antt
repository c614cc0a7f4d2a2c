use Rattle.std.proofs.Common.{flat_map, sym, ap, ◌∙◌, map-id}
use Rattle.std.proofs.lemmas.Bool.{MatchBool-at_true}
use Rattle.std.proofs.lemmas.Iterator.{YieldsList-from_chars}
use Rattle.std.proofs.lemmas.Iterator.Consumers.{YieldsList-end}
use Rattle.std.specs.Char.Escape.{encode_utf16}
use Rattle.kte_text.proofs.CharLemmas.{utf16_of-ascii}
use Rattle.kte_text.proofs.reading.units_in.Goals as goal

pub returns-then-is_ascii : goal.returns-then-is_ascii
returns-then-is_ascii c =
    let ascii = rw c.as_bytes-bytes.ensures.value at (MatchBool-at_true _ _ c.if-is_ascii.true c.is_ascii.ensures.cases) in
    let same = utf16_of-ascii c.args.text.now ascii in
    rw (same, ← c.as_bytes-bytes.ensures.value) c.widened.ensures

pub returns : goal.returns
returns c =
    let end = YieldsList-end (YieldsList-from_chars c.args.text.now c.utf8.text cc) c.loop-c.yielded _ c.loop-c.yielded_by _ _ c.in-None.is c.next.ensures.steps in
    c.loop-c.invariant ∙ ap (flat_map encode_utf16) (sym (map-id c.loop-c.yielded) ∙ end.0)
