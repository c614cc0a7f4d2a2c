use Rattle.std.proofs.Common.{◌≡◌, ◌≢◌, ℕ, [], Err, ap, ◌∙◌}
use Rattle.kte_causes.specs.Faults.{raised}
use Rattle.kte_swap.specs.declared.causes.SwapFault.TheVariants as fault
use Rattle.kte_swap.specs.Swap.{SwapView, finished}
use Rattle.kte_swap.proofs.Standing.{Made, made-answers, made-failed, made-images, made-ok, not_both}
use Rattle.kte_swap.proofs.swap.Swap.finish.Goals as goal

pub returns-in-Ok-clause-stands : goal.returns-in-Ok-clause-stands
returns-in-Ok-clause-stands g c =
    let swap : SwapView = record { base = c.self.inside.base.0; state = c.self.inside.state; count = c.self.inside.count } in
    let made : Made c.args.self.now swap c.args.batch.now c.deref.result.now = record {
      view_is = c.self.view_is;
      other = c.if-eq.ensures;
      bytes_are = c.deref.ensures.value ∙ c.in_ok-write_piece.ensures.bytes;
      writable = c.in_ok-write_piece.ensures.writable;
    } in
    let some : c.args.batch.now ≢ [] = λ e. not_both c.is_empty.result (c.is_empty.ensures.1 e) c.if-is_empty.false in
    let more : c.saturating_add-self-inside.result ≡ raised c.self.inside.count = c.saturating_add-self-inside.ensures in
    made-ok c.in-Ok.field-0 c.args.self.now swap
    (record { base = c.self.inside.base.0; state = c.self.inside.state; count = c.saturating_add-self-inside.result })
    c.args.batch.now c.deref.result.now _ _ made c.in-Ok.ensures.moments some
    (ap (λ (n : ℕ). record swap { count = n }) more)

pub returns-in-Ok-clause-images : goal.returns-in-Ok-clause-images
returns-in-Ok-clause-images g c =
    let swap : SwapView = record { base = c.self.inside.base.0; state = c.self.inside.state; count = c.self.inside.count } in
    let made : Made c.args.self.now swap c.args.batch.now c.deref.result.now = record {
      view_is = c.self.view_is;
      other = c.if-eq.ensures;
      bytes_are = c.deref.ensures.value ∙ c.in_ok-write_piece.ensures.bytes;
      writable = c.in_ok-write_piece.ensures.writable;
    } in
    made-images c.append.result c.args.self.now swap c.args.batch.now c.deref.result.now _ _ made c.append.ensures.moments

pub returns-in-Ok-clause-recovers : goal.returns-in-Ok-clause-recovers
returns-in-Ok-clause-recovers g c = λ text ts h f _ _.
    let swap : SwapView = record { base = c.self.inside.base.0; state = c.self.inside.state; count = c.self.inside.count } in
    let made : Made c.args.self.now swap c.args.batch.now c.deref.result.now = record {
      view_is = c.self.view_is;
      other = c.if-eq.ensures;
      bytes_are = c.deref.ensures.value ∙ c.in_ok-write_piece.ensures.bytes;
      writable = c.in_ok-write_piece.ensures.writable;
    } in
    made-answers c.in-Ok.field-0 c.args.self.now swap c.args.batch.now c.deref.result.now _ _ made c.in-Ok.ensures.moments text ts h f

pub returns-in-Err-Failed-clause-stands : goal.returns-in-Err-Failed-clause-stands
returns-in-Err-Failed-clause-stands g c = λ text ts h f.
    let swap : SwapView = record { base = c.self.inside.base.0; state = c.self.inside.state; count = c.self.inside.count } in
    let made : Made c.args.self.now swap c.args.batch.now c.deref.result.now = record {
      view_is = c.self.view_is;
      other = c.if-eq.ensures;
      bytes_are = c.deref.ensures.value ∙ c.in_ok-write_piece.ensures.bytes;
      writable = c.in_ok-write_piece.ensures.writable;
    } in
    made-failed c.append.result c.args.self.now swap c.args.batch.now c.deref.result.now _ _ made c.append.ensures.moments text ts (finished c.args.batch.now (Err fault.Failed) ts) h

pub returns-in-Err-Failed-clause-images : goal.returns-in-Err-Failed-clause-images
returns-in-Err-Failed-clause-images g c =
    let swap : SwapView = record { base = c.self.inside.base.0; state = c.self.inside.state; count = c.self.inside.count } in
    let made : Made c.args.self.now swap c.args.batch.now c.deref.result.now = record {
      view_is = c.self.view_is;
      other = c.if-eq.ensures;
      bytes_are = c.deref.ensures.value ∙ c.in_ok-write_piece.ensures.bytes;
      writable = c.in_ok-write_piece.ensures.writable;
    } in
    made-images c.append.result c.args.self.now swap c.args.batch.now c.deref.result.now _ _ made c.append.ensures.moments
