use Rattle.std.proofs.Common.{◌∙◌, List, [], ◌∷◌, ◌++◌, ap, arith}
use Rattle.kte_causes.proofs.Shelves.{added, order-more, latest-map, synced-fits}
use Rattle.kte_causes.proofs.shelf.Shelf.add.Goals as goal

pub invariant_of-self-2 : goal.invariant_of-self-2
invariant_of-self-2 c =
    let s = c.self.inside in
    let past = c.push_reserved.ensures.items ∙ ap (λ (l : List _). l ++ s.present ∷ []) c.in_ok-reserve.ensures.items in
    let saved = c.len-saved.ensures ∙ s.saved.ok.0 in
    let swap = c.len-swap.ensures ∙ s.swap.ok.0 in
    rw (past, c.in_ok-keep_bytes.ensures.saved, c.in_ok-keep_bytes.ensures.swap, c.after-next.ensures, saved, swap)
    (order-more s.saved.items s.swap.items s.past.items s.present c.args.change c.args.failed c.self.invariant)

pub returns-clause-ok : goal.returns-clause-ok
returns-clause-ok c =
    let s = c.self.inside in
    let past = c.push_reserved.ensures.items ∙ ap (λ (l : List _). l ++ s.present ∷ []) c.in_ok-reserve.ensures.items in
    let saved = c.len-saved.ensures ∙ s.saved.ok.0 in
    let swap = c.len-swap.ensures ∙ s.swap.ok.0 in
    rw (past, c.in_ok-keep_bytes.ensures.saved, c.in_ok-keep_bytes.ensures.swap, c.after-next.ensures, saved, swap, ← c.self.view_is, latest-map s.saved.items s.swap.items s.past.items s.present)
    (added s.saved.items s.swap.items s.past.items s.present c.args.change c.args.failed c.self.invariant)

pub returns-clause-bound : goal.returns-clause-bound
returns-clause-bound c =
    let next = c.after-next.result in
    rw (latest-map c.keep_bytes.new.saved.items c.keep_bytes.new.swap.items c.push_reserved.new.self.items next) (omega arith)

pub returns-in_err-reserve-clause-synced : goal.returns-in_err-reserve-clause-synced
returns-in_err-reserve-clause-synced c =
    let s = c.self.inside in
    rw (← c.self.view_is) (synced-fits s.saved.items s.swap.items s.past.items s.present c.self.invariant)

pub returns-in_err-keep_bytes-clause-synced : goal.returns-in_err-keep_bytes-clause-synced
returns-in_err-keep_bytes-clause-synced c =
    let s = c.self.inside in
    rw (← c.self.view_is) (synced-fits s.saved.items s.swap.items s.past.items s.present c.self.invariant)

pub returns-clause-synced : goal.returns-clause-synced
returns-clause-synced c =
    let s = c.self.inside in
    rw (← c.self.view_is) (synced-fits s.saved.items s.swap.items s.past.items s.present c.self.invariant)
