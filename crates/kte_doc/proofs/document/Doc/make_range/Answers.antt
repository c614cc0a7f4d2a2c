use Rattle.std.proofs.Common.{ℕ, ◌+◌, List, length, ◌∙◌, ap, sym, subst, arith}
use Rattle.std.specs.FinMap.{insert}
use Rattle.kte_ranges.specs.declared.info.RangeInfo.{RangeInfo}
use Rattle.kte_doc.specs.Standings.{new_range}
use Rattle.kte_doc.specs.Within.{farthest_at}
use Rattle.kte_doc.specs.Inside.{standings_of, CursorsFit}
use Rattle.kte_doc.specs.Documents.{CameBy}
use Rattle.kte_doc.proofs.Fields.{by_fields}
use Rattle.kte_doc.proofs.Calls.{IsPut-make}
use Rattle.kte_doc.proofs.Trails.{CameBy-make}
use Rattle.kte_doc.proofs.document.Doc.make_range.Goals as goal

pub invariant_of-self-2 : goal.invariant_of-self-2
invariant_of-self-2 c =
    let info : RangeInfo = record {
      expand = c.args.expand;
      empty = c.args.empty;
      kind = c.args.kind;
      origin = record { revision = c.revision.result; span = c.args.span };
      cursors = c.in_ok-cursors.cursors;
    } in
    let put = IsPut-make _ _ _ _ _ _ (farthest_at c.self.inside.history.revision) _ info c.args.span c.self.invariant.cursors c.reserve.ensures.ranges
    c.make.ensures.unused c.make.ensures.ranges c.requires.span (omega arith) c.in_ok-cursors.ensures.cursors in
    record {
      within = c.self.invariant.within;
      small = c.self.invariant.small;
      cursors = subst (λ (text : List (List ℕ)). CursorsFit c.hang.new.buffer.hung c.make.new.self.ranges (length text) (farthest_at c.self.inside.history.revision))
          (sym c.hang.ensures.text) put.fits;
    }

ok : goal.returns-clause-ok
ok c =
    let info : RangeInfo = record {
      expand = c.args.expand;
      empty = c.args.empty;
      kind = c.args.kind;
      origin = record { revision = c.revision.result; span = c.args.span };
      cursors = c.in_ok-cursors.cursors;
    } in
    let put = IsPut-make _ _ _ _ _ _ (farthest_at c.self.inside.history.revision) _ info c.args.span c.self.invariant.cursors c.reserve.ensures.ranges
    c.make.ensures.unused c.make.ensures.ranges c.requires.span (omega arith) c.in_ok-cursors.ensures.cursors in
    let new = new_range c.self.inside.buffer.text c.revision.result c.args.span c.args.expand c.args.empty c.args.kind in
    by_fields _ _ (c.hang.ensures.text ∙ ap (λ d. d.text) c.self.view_is) (ap (λ d. d.revision) c.self.view_is) (ap (λ d. d.limit) c.self.view_is)
    (put.seen
    ∙ ap (λ next. insert (standings_of c.self.inside.buffer.hung c.self.inside.ranges.ranges) next new) c.reserve.ensures.next
    ∙ ap (λ (revision : ℕ). insert (standings_of c.self.inside.buffer.hung c.self.inside.ranges.ranges) c.self.inside.ranges.next
    (new_range c.self.inside.buffer.text revision c.args.span c.args.expand c.args.empty c.args.kind)) c.revision.ensures.revision
    ∙ ap (λ d. insert d.ranges d.next (new_range d.text d.revision c.args.span c.args.expand c.args.empty c.args.kind)) c.self.view_is)
    (c.make.ensures.next ∙ ap (λ n. n + 1) (c.reserve.ensures.next ∙ ap (λ d. d.next) c.self.view_is))
    (ap (λ d. d.locks) c.self.view_is) (ap (λ d. d.kept) c.self.view_is)

pub returns-clause-ok : goal.returns-clause-ok
returns-clause-ok c = ok c

pub returns-clause-trail : goal.returns-clause-trail
returns-clause-trail c loaded trail came =
    subst (CameBy loaded trail) (sym (ok c)) (CameBy-make loaded trail c.args.self.now c.args.span c.args.expand c.args.empty c.args.kind came)
