use Rattle.std.proofs.Common.{ap, position, ◌∙◌, sym}
use Rattle.kte_history.specs.Locks.{is_lock_of}
use Rattle.kte_history.proofs.InsideLemmas.{found, not_found}
use Rattle.kte_history.proofs.lock.remove_first.Goals as goal

pub returns-in_default-clause-found : goal.returns-in_default-clause-found
returns-in_default-clause-found c =
    let none = ap (position (is_lock_of c.args.owner c.args.revision)) (sym c.deref.ensures.value) ∙ sym c.index_of.ensures ∙ c.in_default.is in
    sym (not_found c.args.locks.now.items c.args.owner c.args.revision none).0

pub returns-in_default-clause-removed : goal.returns-in_default-clause-removed
returns-in_default-clause-removed c =
    let none = ap (position (is_lock_of c.args.owner c.args.revision)) (sym c.deref.ensures.value) ∙ sym c.index_of.ensures ∙ c.in_default.is in
    (not_found c.args.locks.now.items c.args.owner c.args.revision none).1

pub returns-clause-found : goal.returns-clause-found
returns-clause-found c =
    let some = ap (position (is_lock_of c.args.owner c.args.revision)) (sym c.deref.ensures.value) ∙ sym c.index_of.ensures ∙ c.in-Some.is in
    sym (found c.args.locks.now.items c.args.owner c.args.revision c.in-Some.at some).0

pub returns-clause-removed : goal.returns-clause-removed
returns-clause-removed c =
    let some = ap (position (is_lock_of c.args.owner c.args.revision)) (sym c.deref.ensures.value) ∙ sym c.index_of.ensures ∙ c.in-Some.is in
    c.remove.ensures.items ∙ (found c.args.locks.now.items c.args.owner c.args.revision c.in-Some.at some).1
