use Rattle.std.proofs.Common.{ℕ, List, length, slice_get, if◌then◌else◌, nat_lt, ◌-◌, refl, sym, ap, ◌∙◌, subst, arith}
use Rattle.std.proofs.lemmas.Option.{slice_get-map}
use Rattle.std.specs.FinMap.{get}
use Rattle.kte_doc.specs.Standings.{Standing}
use Rattle.kte_doc.specs.Within.{farthest_at}
use Rattle.kte_doc.specs.Batches.{standing_by, range_of}
use Rattle.kte_doc.specs.Documents.{CameBy, made_of}
use Rattle.kte_doc.specs.Inside.{standings_of, CursorsFit}
use Rattle.kte_doc.specs.declared.batch.Batch.{Batch}
use Rattle.kte_doc.proofs.Fields.{by_fields}
use Rattle.kte_doc.proofs.Making.{made_all, as_many, not_refused, CameBy-made}
use Rattle.kte_doc.proofs.document.Doc.make_at.Goals as goal

pub invariant_of-self-2 : goal.invariant_of-self-2
invariant_of-self-2 c =
    let old = c.self.inside.ranges in
    let lines = length c.self.inside.buffer.text in
    let farthest = farthest_at c.self.inside.history.revision in
    let put = made_all c.self.inside.history lines farthest c.in_ok-infos.infos.items c.as_slice.result.now c.self.inside.buffer.hung
    c.hang.new.buffer.hung old.ranges c.reserve.new.self.ranges c.make_all.new.ranges.ranges old.next c.reserve.new.self.next
    c.self.invariant.cursors c.next_id-first.ensures.numbers c.in_ok-infos.ensures.cursors c.make_all.ensures.ranges c.reserve.ensures.ranges
    c.reserve.ensures.next c.as_slice.ensures.value in
    let Fit : List (List ℕ) → Type 0 = λ text. CursorsFit c.hang.new.buffer.hung c.make_all.new.ranges.ranges (length text) farthest in
    record {
      within = c.self.invariant.within;
      small = c.self.invariant.small;
      cursors = subst Fit (sym c.hang.ensures.text) put.fits;
    }

ranges : goal.returns-clause-ranges
ranges c id =
    let old = c.self.inside.ranges in
    let h = c.self.inside.history in
    let lines = length c.self.inside.buffer.text in
    let batch : Batch = record { revision = c.args.revision; expand = c.args.expand; empty = c.args.empty; kind = c.args.kind } in
    let put = made_all h lines (farthest_at h.revision) c.in_ok-infos.infos.items c.as_slice.result.now c.self.inside.buffer.hung
    c.hang.new.buffer.hung old.ranges c.reserve.new.self.ranges c.make_all.new.ranges.ranges old.next c.reserve.new.self.next
    c.self.invariant.cursors c.next_id-first.ensures.numbers c.in_ok-infos.ensures.cursors c.make_all.ensures.ranges c.reserve.ensures.ranges
    c.reserve.ensures.next c.as_slice.ensures.value in
    let before = get (standings_of c.self.inside.buffer.hung old.ranges) id in
    put.seen id
    ∙ ap (λ (l : List Standing). if nat_lt id old.next then before else slice_get l (id - old.next)) c.in_ok-infos.ensures.ranges
    ∙ ap (λ o. if nat_lt id old.next then before else o) (slice_get-map (range_of h lines batch) c.args.spans.now (id - old.next))
    ∙ ap (λ d. made_of d c.args.revision c.args.expand c.args.empty c.args.kind c.args.spans.now id) c.self.view_is

pub returns-clause-ranges : goal.returns-clause-ranges
returns-clause-ranges c = ranges c

pub returns-clause-trail : goal.returns-clause-trail
returns-clause-trail c loaded trail came =
    let h = c.self.inside.history in
    let lines = length c.self.inside.buffer.text in
    let batch : Batch = record { revision = c.args.revision; expand = c.args.expand; empty = c.args.empty; kind = c.args.kind } in
    let many = as_many (standing_by h lines) (range_of h lines batch) c.in_ok-infos.infos.items c.args.spans.now c.in_ok-infos.ensures.ranges in
    let may = not_refused _ c.check_lands.result _ _ c.check_lands.ensures c.in_ok-check_lands.was in
    let is = by_fields _ _ (c.hang.ensures.text ∙ ap (λ d. d.text) c.self.view_is) (ap (λ d. d.revision) c.self.view_is)
    (ap (λ d. d.limit) c.self.view_is) refl
    (c.make_all.ensures.next ∙ omega (
      arith,
      c.reserve.ensures.next,
      ap (λ d. d.next) c.self.view_is,
      ap (λ l. length l) c.as_slice.ensures.value,
      many,
    ))
    (ap (λ d. d.locks) c.self.view_is) (ap (λ d. d.kept) c.self.view_is) in
    subst (CameBy loaded trail) (sym is)
    (CameBy-made loaded trail c.args.self.now c.args.revision c.args.expand c.args.empty c.args.kind c.args.spans.now _ came may (ranges c))
