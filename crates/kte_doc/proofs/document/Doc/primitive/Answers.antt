use Rattle.std.proofs.Common.{◌≡◌, ℕ, ◌+◌, List, [], ◌∷◌, ◌++◌, length, None, IfSome, IsTrue, ◌∙◌, ap, refl, sym, subst, arith}
use Rattle.std.specs.Option.{option_map}
use Rattle.std.specs.FinMap.{get}
use Rattle.std.specs.List.{Contains}
use Rattle.kte_text.specs.Primitives.{misfit, after}
use Rattle.kte_place.specs.declared.entry.Entry.{Entry}
use Rattle.kte_buffer.specs.Buffer.{is_home}
use Rattle.kte_buffer.specs.declared.buffer.Ready.{Ready}
use Rattle.kte_buffer.specs.Entries.{entry}
use Rattle.kte_ranges.specs.Cursors.{StartsAreReady}
use Rattle.kte_doc.specs.Standings.{moved_over}
use Rattle.kte_doc.specs.Within.{farthest_at}
use Rattle.kte_doc.specs.Inside.{standings_of, CursorsFit}
use Rattle.kte_text.proofs.PrimitiveLemmas.{FitsText-from_misfit}
use Rattle.kte_place.specs.Entry.{EntryFits}
use Rattle.kte_buffer.proofs.CallerLemmas.{EntryFits-entry}
use Rattle.kte_history.specs.Revisions.{Revisions, with_entry}
use Rattle.kte_doc.specs.Documents.{CameBy, kept_further}
use Rattle.kte_doc.proofs.Histories.{in_room, added}
use Rattle.kte_doc.proofs.Fields.{by_fields}
use Rattle.kte_doc.proofs.Settled.{Carries-primitive, columns_fit, hang_now, ready_now, others_now, CursorsFit-settled, ranges_moved}
use Rattle.kte_doc.proofs.Trails.{CameBy-primitive}
use Rattle.kte_doc.proofs.document.Doc.primitive.Goals as goal

pub apply-entry-requires-clause-columns : goal.apply-entry-requires-clause-columns
apply-entry-requires-clause-columns c =
    columns_fit _ _ _ _ (farthest_at c.self.inside.history.revision) (omega (arith, c.self.invariant.small)) (ap (λ b. b.hung) c.reserve-2.ensures.kept) c.self.invariant.cursors

pub settle_near-requires-clause-hang : goal.settle_near-requires-clause-hang
settle_near-requires-clause-hang c =
    let carries = Carries-primitive c.args.primitive.now c.self.inside.buffer.text _ c.self.inside.history.revision c.self.inside.history.limit _ _ _ _ _
    (sym c.in_default.ensures) (in_room _ _ _ c.room.ensures c.in_default-room.not-Err) c.self.invariant.small c.apply-entry.ensures.entry (ap (λ b. b.text) c.reserve-2.ensures.kept)
    c.self.invariant.cursors (ap (λ b. b.hung) c.reserve-2.ensures.kept) c.apply-entry.ensures.hung in
    hang_now _ _ _ _ _ _ _ _ carries

pub settle_near-requires-clause-ready : goal.settle_near-requires-clause-ready
settle_near-requires-clause-ready c =
    let carries = Carries-primitive c.args.primitive.now c.self.inside.buffer.text _ c.self.inside.history.revision c.self.inside.history.limit _ _ _ _ _
    (sym c.in_default.ensures) (in_room _ _ _ c.room.ensures c.in_default-room.not-Err) c.self.invariant.small c.apply-entry.ensures.entry (ap (λ b. b.text) c.reserve-2.ensures.kept)
    c.self.invariant.cursors (ap (λ b. b.hung) c.reserve-2.ensures.kept) c.apply-entry.ensures.hung in
    subst (λ ready. StartsAreReady c.apply-entry.new.self.hung (is_home ready) c.self.inside.ranges.ranges) (sym c.apply-entry.ensures.ready)
    (ready_now _ _ _ _ _ _ _ _ carries)

pub settle_near-requires-clause-others : goal.settle_near-requires-clause-others
settle_near-requires-clause-others c =
    let carries = Carries-primitive c.args.primitive.now c.self.inside.buffer.text _ c.self.inside.history.revision c.self.inside.history.limit _ _ _ _ _
    (sym c.in_default.ensures) (in_room _ _ _ c.room.ensures c.in_default-room.not-Err) c.self.invariant.small c.apply-entry.ensures.entry (ap (λ b. b.text) c.reserve-2.ensures.kept)
    c.self.invariant.cursors (ap (λ b. b.hung) c.reserve-2.ensures.kept) c.apply-entry.ensures.hung in
    let Lists : Ready → Type 0 = λ ready. (id : ℕ) → IfSome (get c.apply-entry.new.self.hung id)
    (λ cursor. IsTrue (is_home ready cursor.place.line) → Contains c.apply-entry.new.self.near id) in
    others_now _ _ _ _ _ _ _ _ carries c.apply-entry.new.self.near (subst Lists c.apply-entry.ensures.ready c.apply-entry.ensures.near)

pub invariant_of-self-2 : goal.invariant_of-self-2
invariant_of-self-2 c =
    let carries = Carries-primitive c.args.primitive.now c.self.inside.buffer.text _ c.self.inside.history.revision c.self.inside.history.limit _ _ _ _ _
    (sym c.in_default.ensures) (in_room _ _ _ c.room.ensures c.in_default-room.not-Err) c.self.invariant.small c.apply-entry.ensures.entry (ap (λ b. b.text) c.reserve-2.ensures.kept)
    c.self.invariant.cursors (ap (λ b. b.hung) c.reserve-2.ensures.kept) c.apply-entry.ensures.hung in
    let fit = CursorsFit-settled _ _ _ _ _ _ _ _ carries _ _ c.settle_near.ensures.ranges c.settle_near.ensures.spans c.settle_near.ensures.cursors
    c.settle_near.ensures.others c.settle_near.ensures.apart in
    let text = c.settle_near.ensures.rest ∙ c.apply-entry.ensures.text ∙ ap (after c.args.primitive.now) (ap (λ b. b.text) c.reserve-2.ensures.kept) in
    let now = added c.self.inside.history c.reserve.new.self c.add.new.self c.apply-entry.result _ _ c.reserve.ensures.same c.add.ensures.added in
    let revision : c.add.new.self.revision ≡ c.self.inside.history.revision + 1 = ap (λ (h : Revisions). h.revision) now in
    let limit : c.add.new.self.limit ≡ c.self.inside.history.limit = ap (λ (h : Revisions). h.limit) now in
    let room = in_room _ _ _ c.room.ensures c.in_default-room.not-Err in
    record {
      within = omega arith;
      small = omega (arith, c.self.invariant.small);
      cursors = subst (λ (text : List (List ℕ)). CursorsFit c.settle_near.new.cursors.hung c.settle_near.new.self.ranges (length text) (farthest_at c.add.new.self.revision)) (sym text)
          (subst (λ (r : ℕ). CursorsFit c.settle_near.new.cursors.hung c.settle_near.new.self.ranges (length (after c.args.primitive.now c.self.inside.buffer.text)) (farthest_at r)) (sym revision) fit);
    }

ranges : goal.returns-clause-ranges
ranges c id =
    let carries = Carries-primitive c.args.primitive.now c.self.inside.buffer.text _ c.self.inside.history.revision c.self.inside.history.limit _ _ _ _ _
    (sym c.in_default.ensures) (in_room _ _ _ c.room.ensures c.in_default-room.not-Err) c.self.invariant.small c.apply-entry.ensures.entry (ap (λ b. b.text) c.reserve-2.ensures.kept)
    c.self.invariant.cursors (ap (λ b. b.hung) c.reserve-2.ensures.kept) c.apply-entry.ensures.hung in
    let moved = ranges_moved _ _ _ _ _ _ _ _ carries _ _ c.settle_near.ensures.ranges c.settle_near.ensures.spans c.settle_near.ensures.cursors
    c.settle_near.ensures.others c.settle_near.ensures.apart id in
    moved
    ∙ ap (λ (e : Entry). option_map (moved_over e) (get (standings_of c.self.inside.buffer.hung c.self.inside.ranges.ranges) id))
    (c.apply-entry.ensures.entry ∙ ap (entry c.args.primitive.now) (ap (λ b. b.text) c.reserve-2.ensures.kept))
    ∙ ap (λ d. option_map (moved_over (entry c.args.primitive.now d.text)) (get d.ranges id)) c.self.view_is

pub returns-clause-ranges : goal.returns-clause-ranges
returns-clause-ranges c = ranges c

ok : goal.returns-clause-ok
ok c =
    let now = added c.self.inside.history c.reserve.new.self c.add.new.self c.apply-entry.result _ _ c.reserve.ensures.same c.add.ensures.added in
    let is : c.apply-entry.result ≡ entry c.args.primitive.now c.self.inside.buffer.text =
    c.apply-entry.ensures.entry ∙ ap (entry c.args.primitive.now) (ap (λ b. b.text) c.reserve-2.ensures.kept) in
    by_fields _ _
    (c.settle_near.ensures.rest ∙ c.apply-entry.ensures.text ∙ ap (after c.args.primitive.now) (ap (λ b. b.text) c.reserve-2.ensures.kept)
    ∙ ap (λ d. after c.args.primitive.now d.text) c.self.view_is)
    (ap (λ (h : Revisions). h.revision) now ∙ ap (λ d. d.revision + 1) c.self.view_is)
    (ap (λ (h : Revisions). h.limit) now ∙ ap (λ d. d.limit) c.self.view_is) refl
    (c.settle_near.ensures.next ∙ ap (λ d. d.next) c.self.view_is)
    (ap (λ (h : Revisions). h.locks) now ∙ ap (λ d. d.locks) c.self.view_is)
    (ap (λ (h : Revisions). h.kept) now
    ∙ ap (λ (e : Entry). (with_entry e c.self.inside.history).kept) is
    ∙ ap (λ d. kept_further d (entry c.args.primitive.now d.text)) c.self.view_is)

pub returns-clause-ok : goal.returns-clause-ok
returns-clause-ok c = ok c

pub returns-clause-trail : goal.returns-clause-trail
returns-clause-trail c loaded trail came =
    subst (CameBy loaded (trail ++ c.args.primitive.now ∷ [])) (sym (ok c))
    (CameBy-primitive loaded trail c.args.primitive.now c.args.self.now _ came
    (subst (λ d. misfit c.args.primitive.now d.text ≡ None) c.self.view_is (sym c.in_default.ensures)) c.requires.some
    (ranges c))

pub add-requires-clause-entry : goal.add-requires-clause-entry
add-requires-clause-entry c =
    let text : c.reserve-2.new.self.text ≡ c.self.inside.buffer.text = ap (λ b. b.text) c.reserve-2.ensures.kept in
    let whole = c.lines-lines.ensures.is_text in
    subst EntryFits (sym (c.apply-entry.ensures.entry ∙ ap (entry c.args.primitive.now) text))
    (EntryFits-entry c.args.primitive.now c.self.inside.buffer.text whole
    (FitsText-from_misfit c.args.primitive.now c.self.inside.buffer.text (sym c.in_default.ensures)))
