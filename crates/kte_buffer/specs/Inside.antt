-- The representation of a buffer: what contracts see of it, and its invariant.
use Rattle.std.specs.Prelude.{◌≡◌, ◌<◌, ◌≤◌, [], length, All, vec_capacity}
use Rattle.kte_text.specs.Texts.{IsText, size_of}
use Rattle.kte_buffer.specs.Entries.{touched}
use Rattle.kte_buffer.specs.Rows.{lines_in, HasRoom}
use Rattle.kte_buffer.specs.Cursors.{hung_in, StandWithin}
use Rattle.kte_buffer.specs.Buffer.{Contents}
use Rattle.kte_buffer.specs.declared.buffer.Ready.{Ready}
use Rattle.kte_buffer.specs.declared.buffer.Ready.TheVariants.{Nothing, ToApply, ToRehome}
use Rattle.kte_buffer.specs.declared.buffer.Buffer.TheInside.{Inside}

-- the text of the rows, and the cursors of the slab
abbrev pub contents_of : Inside → Contents
contents_of b = record {
  text = lines_in b.rows.items;
  hung = hung_in b.cursors;
  ready = b.ready;
  near = b.near.items;
}

-- what being ready needs: room for the primitive, and for the number of each slot of the slab; or
-- that the lines that were touched are there
abbrev pub Keeps : Ready → Inside → Type 0
Keeps Nothing b = Unit {0}
Keeps (ToApply entry) b = HasRoom entry b.rows b.fresh × (length b.cursors.slots ≤ vec_capacity b.near)
Keeps (ToRehome entry) b = All (λ line. line < length b.rows.items) (touched entry)

-- the rows are a text of this size, no cursor is past its last line, and there is what being ready
-- needs
pub record IsSound (b : Inside) : Type 0 where
  pub text : IsText (lines_in b.rows.items)
  pub size : b.size ≡ size_of (lines_in b.rows.items)
  pub fresh : b.fresh.items ≡ []
  pub cursors : StandWithin b.cursors (length b.rows.items)
  pub ready : Keeps b.ready b
