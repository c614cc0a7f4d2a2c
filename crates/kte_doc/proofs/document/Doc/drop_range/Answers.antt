use Rattle.std.proofs.Common.{ℕ, length, List, None, Some, Err, ◌∙◌, ap, sym, subst, refl, if◌then◌else◌}
use Rattle.std.proofs.lemmas.Result.{err_from_is_err_and}
use Rattle.kte_ranges.specs.declared.table.NoRange.{NoRange}
use Rattle.std.specs.FinMap.{get, remove}
use Rattle.kte_ranges.specs.Cursors.{is_among}
use Rattle.kte_doc.specs.Within.{farthest_at}
use Rattle.kte_doc.specs.Inside.{CursorsFit}
use Rattle.kte_doc.specs.Documents.{CameBy}
use Rattle.kte_doc.proofs.Fields.{by_fields}
use Rattle.kte_doc.proofs.Looks.{found, not_found, was_there, was_not_there}
use Rattle.kte_doc.proofs.Calls.{hangs_of, drop_fits, drop_ranges}
use Rattle.kte_doc.proofs.Trails.{CameBy-drop}
use Rattle.kte_doc.proofs.document.Doc.drop_range.Goals as goal

pub returns-in_err-cursors-clause-found : goal.returns-in_err-cursors-clause-found
returns-in_err-cursors-clause-found c =
    let none = not_found (λ info. info.cursors) _ _ _ c.in_err-cursors.ensures.cursors in
    let p = err_from_is_err_and c.from_residual.result c.from_residual.ensures.1 in
    p.1 ∙ ap (λ (e : NoRange). Err e) (p.2 ∙ none.1)
    ∙ was_not_there _ _ _ c.args.id _ (ap (λ d. d.ranges) c.self.view_is) none.0

pub unhang-requires-clause-hang : goal.unhang-requires-clause-hang
unhang-requires-clause-hang c n held =
    let it = found (λ info. info.cursors) _ _ _ c.in_ok-cursors.ensures.cursors in
    hangs_of _ _ _ _ c.args.id it.0 c.self.invariant.cursors it.1.0 n (ap (λ o. is_among o n) (sym it.1.1) ∙ held)

pub invariant_of-self-2 : goal.invariant_of-self-2
invariant_of-self-2 c =
    let it = found (λ info. info.cursors) _ _ _ c.in_ok-cursors.ensures.cursors in
    let fit = drop_fits c.self.inside.buffer.hung c.self.inside.buffer.hung c.unhang.new.buffer.hung c.self.inside.ranges.ranges c.drop_range.new.self.ranges
    (length c.self.inside.buffer.text) (farthest_at c.self.inside.history.revision) c.args.id (Some it.0) c.self.invariant.cursors it.1.0
    (λ n. c.unhang.ensures.hung n ∙ ap (λ o. if is_among o n then None else get c.self.inside.buffer.hung n) it.1.1)
    c.in_ok-cursors.ensures.ok refl in
    record {
      within = c.self.invariant.within;
      small = c.self.invariant.small;
      cursors = subst (λ (text : List (List ℕ)). CursorsFit c.unhang.new.buffer.hung c.drop_range.new.self.ranges (length text) (farthest_at c.self.inside.history.revision))
          (sym c.unhang.ensures.text) fit;
    }

pub returns-clause-found : goal.returns-clause-found
returns-clause-found c =
    let it = found (λ info. info.cursors) _ _ _ c.in_ok-cursors.ensures.cursors in
    was_there _ _ _ c.args.id _ it.0 (ap (λ d. d.ranges) c.self.view_is) it.1.0

ok : goal.returns-clause-ok
ok c =
    let it = found (λ info. info.cursors) _ _ _ c.in_ok-cursors.ensures.cursors in
    by_fields _ _ (c.unhang.ensures.text ∙ ap (λ d. d.text) c.self.view_is) (ap (λ d. d.revision) c.self.view_is) (ap (λ d. d.limit) c.self.view_is)
    (drop_ranges c.self.inside.buffer.hung c.self.inside.buffer.hung c.unhang.new.buffer.hung c.self.inside.ranges.ranges c.drop_range.new.self.ranges
    (length c.self.inside.buffer.text) (farthest_at c.self.inside.history.revision) c.args.id (Some it.0) c.self.invariant.cursors it.1.0
    (λ n. c.unhang.ensures.hung n ∙ ap (λ o. if is_among o n then None else get c.self.inside.buffer.hung n) it.1.1)
    c.in_ok-cursors.ensures.ok refl
    ∙ ap (λ d. remove d.ranges c.args.id) c.self.view_is)
    (c.drop_range.ensures.next ∙ ap (λ d. d.next) c.self.view_is)
    (ap (λ d. d.locks) c.self.view_is) (ap (λ d. d.kept) c.self.view_is)

pub returns-clause-ok : goal.returns-clause-ok
returns-clause-ok c = ok c

pub returns-clause-trail : goal.returns-clause-trail
returns-clause-trail c loaded trail came =
    subst (CameBy loaded trail) (sym (ok c)) (CameBy-drop loaded trail c.args.self.now c.args.id came)
