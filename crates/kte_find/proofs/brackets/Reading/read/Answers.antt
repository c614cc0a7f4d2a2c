use Rattle.std.proofs.Common.{◌≡◌, ◌∙◌, ◌≤◌, ◌-◌, ◌∷◌, [], ◌++◌, List, length, map, take, sym, ap, subst}
use Rattle.kte_find.specs.declared.found.TheConstants.{MAX_FINDINGS}
use Rattle.kte_find.specs.Brackets.{Placed}
use Rattle.kte_find.specs.Findings.{span_of}
use Rattle.kte_find.specs.Reading.{HasRead}
use Rattle.kte_find.proofs.FirstLemmas.{take_few}
use Rattle.kte_find.proofs.SealLemmas.{read_opening, read_closing, read_unclosed, closed_last, not_closed_last, on_ok, on_ok_both}
use Rattle.kte_find.proofs.brackets.Reading.read.Goals as goal

pub returns-then-is_opening-clause-read : goal.returns-then-is_opening-clause-read
returns-then-is_opening-clause-read c = λ before h.
    rw c.in_ok-push.ensures.items
    (read_opening before c.args.self.now.opened.items c.args.self.now.found c.args.bracket (sym c.is_opening.ensures ∙ c.if-is_opening.true) h)

pub returns-then-closes_last-clause-read : goal.returns-then-closes_last-clause-read
returns-then-closes_last-clause-read c = λ before h.
    let items = c.args.self.now.opened.items in
    let last = closed_last items c.args.bracket (sym c.closes_last.ensures ∙ c.if-closes_last.true) in
    let rest : c.pop.new.self.items ≡ take (length items - 1) items = c.pop.ensures.rest ∙ ap (λ n. take (n - 1) items) (c.args.self.now.opened.ok).0 in
    rw rest
    (read_closing before (take (length items - 1) items) c.args.self.now.found last.0 c.args.bracket last.2
    (subst (λ os. HasRead before os c.args.self.now.found) last.1 h))

pub returns-clause-few : goal.returns-clause-few
returns-clause-few c =
    on_ok c.seal.result
    (c.seal.new.self.found ≡ take MAX_FINDINGS (c.args.self.now.found ++ map span_of c.args.self.now.opened.items ++ span_of c.args.bracket ∷ []))
    (length c.seal.new.self.found ≤ MAX_FINDINGS)
    (λ e. rw e (take_few MAX_FINDINGS _)) c.seal.ensures.found

pub returns-clause-read : goal.returns-clause-read
returns-clause-read c =
    let items = c.args.self.now.opened.items in
    let last = not_closed_last items c.args.bracket (sym c.closes_last.ensures ∙ c.if-closes_last.false) in
    on_ok_both c.seal.result
    (c.seal.new.self.opened.items ≡ [])
    (c.seal.new.self.found ≡ take MAX_FINDINGS (c.args.self.now.found ++ map span_of items ++ span_of c.args.bracket ∷ []))
    ((before : List Placed) → HasRead before items c.args.self.now.found
    → HasRead (before ++ c.args.bracket ∷ []) c.seal.new.self.opened.items c.seal.new.self.found)
    (λ e f before h. rw (e, f)
    (read_unclosed before items c.args.self.now.found c.args.bracket c.requires.is_bracket (sym c.is_opening.ensures ∙ c.if-is_opening.false) last h))
    c.seal.ensures.opened c.seal.ensures.found
