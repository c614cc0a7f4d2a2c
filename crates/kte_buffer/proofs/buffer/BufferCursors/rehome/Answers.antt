use Rattle.std.proofs.Common.{ap, IsTrue, Some, subst, sym, arith}
use Rattle.std.proofs.lemmas.List.{length-set}
use Rattle.slab.specs.Slab.{with_value}
use Rattle.kte_buffer.specs.Buffer.{is_home}
use Rattle.kte_buffer.proofs.HungLemmas.{ContainsKey-hung, hung_in-moved, contents_with}
use Rattle.kte_buffer.proofs.SoundLemmas.{home_within, Keeps-cursors, StandWithin-moved}
use Rattle.kte_buffer.proofs.buffer.BufferCursors.rehome.Goals as goal

pub index_mut-requires : goal.index_mut-requires
index_mut-requires c = ContainsKey-hung c.self.inside.cursors _ _ (ap (λ b. b.hung) c.self.view_is) c.requires.hangs

pub invariant_of-self : goal.invariant_of-self
invariant_of-self c =
    let home = subst (λ ready. IsTrue (is_home ready c.args.place.line)) (sym (ap (λ b. b.ready) c.self.view_is)) c.requires.line in
    record {
      text = c.self.invariant.text;
      size = c.self.invariant.size;
      fresh = c.self.invariant.fresh;
      cursors = StandWithin-moved c.self.inside.cursors _ _ _ _ c.self.invariant.cursors c.index_mut.ensures.value (home_within _ _ _ c.self.invariant.ready home);
      ready = Keeps-cursors c.self.inside.ready c.self.inside
          (with_value c.self.inside.cursors c.args.id (record c.index_mut.result.now { place = c.args.place }))
          (omega (arith, length-set c.self.inside.cursors.slots c.args.id (Some (record c.index_mut.result.now { place = c.args.place })))) c.self.invariant.ready;
    }

pub returns : goal.returns
returns c = record {
  moved = contents_with c.self.inside
      (with_value c.self.inside.cursors c.args.id (record c.index_mut.result.now { place = c.args.place })) _ _ c.self.view_is
      (hung_in-moved c.self.inside.cursors _ _ _ _ (ap (λ b. b.hung) c.self.view_is) c.index_mut.ensures.value);
}
