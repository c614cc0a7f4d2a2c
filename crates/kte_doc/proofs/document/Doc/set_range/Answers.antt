use Rattle.std.proofs.Common.{◌≡◌, ℕ, List, length, ◌∙◌, ap, sym, subst, arith}
use Rattle.std.specs.FinMap.{insert}
use Rattle.kte_place.specs.declared.span.Empty.{Empty}
use Rattle.kte_place.specs.Span.{made}
use Rattle.kte_ranges.specs.declared.info.RangeInfo.{RangeInfo}
use Rattle.kte_ranges.specs.Table.{reset}
use Rattle.kte_doc.specs.Standings.{Standing, reset_to}
use Rattle.kte_doc.specs.Within.{farthest_at}
use Rattle.kte_doc.specs.Inside.{standing_of, standings_of, CursorsFit}
use Rattle.kte_doc.specs.Documents.{CameBy}
use Rattle.kte_doc.proofs.Fields.{by_fields}
use Rattle.kte_doc.proofs.Calls.{hangs_of, still_hangs, IsPut-set}
use Rattle.kte_doc.proofs.Looks.{seen_none, seen_is, seen_same}
use Rattle.kte_doc.proofs.Trails.{CameBy-set}
use Rattle.kte_doc.proofs.document.Doc.set_range.Goals as goal

pub returns-in_default-clause-no_range : goal.returns-in_default-clause-no_range
returns-in_default-clause-no_range c n is =
    (cc, seen_none _ _ _ c.args.id (ap (λ d. d.ranges) c.self.view_is) (sym c.get.ensures ∙ c.in_default.is))

pub returns-in_default-hang-clause-none : goal.returns-in_default-hang-clause-none
returns-in_default-hang-clause-none c none =
    let some = seen_is _ _ _ c.args.id c.in-Some.info (ap (λ d. d.ranges) c.self.view_is) (sym c.get.ensures ∙ c.in-Some.is) in
    absurd (cc)

pub unhang-requires-clause-hang : goal.unhang-requires-clause-hang
unhang-requires-clause-hang c n held =
    still_hangs _ _ _ _ _ c.in-Ok.ensures.cursors n
    (hangs_of _ _ _ _ c.args.id c.in-Some.info c.self.invariant.cursors (sym c.get.ensures ∙ c.in-Some.is) n held)

pub invariant_of-self-2 : goal.invariant_of-self-2
invariant_of-self-2 c =
    let there = sym c.get.ensures ∙ c.in-Some.is in
    let info : RangeInfo = reset c.in-Some.info (record { revision = c.revision.result; span = c.args.span }) c.in-Ok.cursors in
    let put = IsPut-set _ _ _ _ _ _ (farthest_at c.self.inside.history.revision) c.args.id c.in-Some.info info c.args.span c.self.invariant.cursors there
    (c.set.ensures.set c.in-Some.info there) c.unhang.ensures.hung c.requires (omega arith) c.in-Ok.ensures.cursors in
    record {
      within = c.self.invariant.within;
      small = c.self.invariant.small;
      cursors = subst (λ (text : List (List ℕ)). CursorsFit c.unhang.new.buffer.hung c.set.new.self.ranges (length text) (farthest_at c.self.inside.history.revision))
          (sym (c.unhang.ensures.text ∙ c.in-Ok.ensures.text)) put.fits;
    }

ok : goal.returns-clause-ok
ok c range is =
    let there = sym c.get.ensures ∙ c.in-Some.is in
    let info : RangeInfo = reset c.in-Some.info (record { revision = c.revision.result; span = c.args.span }) c.in-Ok.cursors in
    let put = IsPut-set _ _ _ _ _ _ (farthest_at c.self.inside.history.revision) c.args.id c.in-Some.info info c.args.span c.self.invariant.cursors there
    (c.set.ensures.set c.in-Some.info there) c.unhang.ensures.hung c.requires (omega arith) c.in-Ok.ensures.cursors in
    let same : standing_of c.self.inside.buffer.hung c.in-Some.info ≡ range =
    seen_same _ _ _ c.args.id c.in-Some.info range (ap (λ d. d.ranges) c.self.view_is) there is in
    by_fields _ _ (c.unhang.ensures.text ∙ c.in-Ok.ensures.text ∙ ap (λ d. d.text) c.self.view_is)
    (ap (λ d. d.revision) c.self.view_is) (ap (λ d. d.limit) c.self.view_is)
    (put.seen
    ∙ ap (λ (revision : ℕ). insert (standings_of c.self.inside.buffer.hung c.self.inside.ranges.ranges) c.args.id
    (reset_to c.self.inside.buffer.text revision c.args.span (standing_of c.self.inside.buffer.hung c.in-Some.info))) c.revision.ensures.revision
    ∙ ap (λ (r : Standing). insert (standings_of c.self.inside.buffer.hung c.self.inside.ranges.ranges) c.args.id
    (reset_to c.self.inside.buffer.text c.self.inside.history.revision c.args.span r)) same
    ∙ ap (λ d. insert d.ranges c.args.id (reset_to d.text d.revision c.args.span range)) c.self.view_is)
    (c.set.ensures.next ∙ ap (λ d. d.next) c.self.view_is)
    (ap (λ d. d.locks) c.self.view_is) (ap (λ d. d.kept) c.self.view_is)

pub returns-clause-ok : goal.returns-clause-ok
returns-clause-ok c = ok c

pub returns-clause-trail : goal.returns-clause-trail
returns-clause-trail c loaded trail came =
    let there = sym c.get.ensures ∙ c.in-Some.is in
    let is = seen_is _ _ _ c.args.id c.in-Some.info (ap (λ d. d.ranges) c.self.view_is) there in
    subst (CameBy loaded trail) (sym (ok c _ is)) (CameBy-set loaded trail c.args.self.now c.args.id c.args.span _ came is)

pub returns-clause-none : goal.returns-clause-none
returns-clause-none c none =
    let some = seen_is _ _ _ c.args.id c.in-Some.info (ap (λ d. d.ranges) c.self.view_is) (sym c.get.ensures ∙ c.in-Some.is) in
    absurd (cc)

pub returns-in_default-hang-clause-invalid : goal.returns-in_default-hang-clause-invalid
returns-in_default-hang-clause-invalid c range is none =
    let same : standing_of c.self.inside.buffer.hung c.in-Some.info ≡ range =
    seen_same _ _ _ c.args.id c.in-Some.info range (ap (λ d. d.ranges) c.self.view_is) (sym c.get.ensures ∙ c.in-Some.is) is in
    let ok = c.hang.ensures.invalid
    (ap (λ (empty : Empty). made (length c.self.inside.buffer.text) c.args.span empty) (ap (λ (r : Standing). r.empty) same)
    ∙ ap (λ d. made (length d.text) c.args.span range.empty) c.self.view_is ∙ none) in
    let bad = rw c.in_default-hang.is at ok in absurd (cc)

pub returns-in_default-clause-invalid : goal.returns-in_default-clause-invalid
returns-in_default-clause-invalid c range is none =
    let not_there = seen_none _ _ _ c.args.id (ap (λ d. d.ranges) c.self.view_is) (sym c.get.ensures ∙ c.in_default.is) in absurd (cc)
