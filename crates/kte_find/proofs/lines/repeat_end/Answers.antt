use Rattle.std.proofs.Common.{sym, inr}
use Rattle.kte_find.proofs.RunLemmas.{none_without_blanks, none_repeated, is_repeated, not_repeated}
use Rattle.kte_find.proofs.lines.repeat_end.Goals as goal

pub returns-then-other_end-start : goal.returns-then-other_end-start
returns-then-other_end-start c =
    let gap = c.blanks_start-other_end.ensures in
    none_without_blanks c.args.units.now c.args.start c.blanks_start-other_end.result gap.order gap.blank gap.first c.if-other_end-start.true

pub returns-then-other_start-other_end : goal.returns-then-other_start-other_end
returns-then-other_start-other_end c =
    let gap = c.blanks_start-other_end.ensures in
    let other = c.word_start-other_start.ensures in
    none_repeated c.args.units.now c.args.start c.word_start-other_start.result c.blanks_start-other_end.result
    (sym c.if-not-is_word_unit.ensures) c.requires gap.blank gap.first gap.order other.word other.first other.order
    (inr c.if-other_start-other_end.true)

pub returns-then-eq : goal.returns-then-eq
returns-then-eq c =
    let gap = c.blanks_start-other_end.ensures in
    let other = c.word_start-other_start.ensures in
    let word = c.word_end-end.ensures in
    is_repeated c.args.units.now c.args.start c.word_start-other_start.result c.blanks_start-other_end.result
    (sym c.if-not-is_word_unit.ensures) c.requires gap.blank gap.first gap.order other.word other.first other.order
    c.word_end-end.result c.if-other_end-start.false c.if-other_start-other_end.false word.order word.within word.word word.last
    c.eq.result c.eq.ensures c.if-eq.true

pub returns-else-eq : goal.returns-else-eq
returns-else-eq c =
    let gap = c.blanks_start-other_end.ensures in
    let other = c.word_start-other_start.ensures in
    let word = c.word_end-end.ensures in
    not_repeated c.args.units.now c.args.start c.word_start-other_start.result c.blanks_start-other_end.result
    (sym c.if-not-is_word_unit.ensures) c.requires gap.blank gap.first gap.order other.word other.first other.order
    c.word_end-end.result c.if-other_end-start.false c.if-other_start-other_end.false word.order word.within word.word word.last
    c.eq.result c.eq.ensures c.if-eq.false
