-- Worked examples of the definitions, each proved by computation, in the text `abc`, `de`.
use Rattle.std.proofs.Common.{◌≡◌, [], ◌∷◌, true, false, refl}
use Rattle.kte_text.specs.declared.primitive.Primitive.TheVariants.{Wrap, Unwrap, Insert}
use Rattle.kte_place.specs.Place.{at}
use Rattle.kte_place.specs.Entry.{wrap, unwrap, insertion, removal}
use Rattle.kte_place.specs.declared.place.OnInsert.TheVariants.{Stay, Move}
use Rattle.kte_buffer.specs.declared.buffer.Ready.TheVariants.{Nothing, ToApply, ToRehome}
use Rattle.kte_buffer.specs.Entries.{entry, touched}
use Rattle.kte_buffer.specs.Cursors.{carried, hanging}
use Rattle.kte_buffer.specs.Buffer.{is_home}
use Rattle.kte_buffer.specs.Offset.{offset, shift}
use Rattle.kte_buffer.specs.Examples.{abc_de}

-- an Unwrap has the length of the line before, an Insert that of its own line
entry_of_unwrap : entry (Unwrap 1) abc_de ≡ unwrap 1 3
entry_of_unwrap = refl

entry_of_insert : entry (Insert 1 2 (102 ∷ [])) abc_de ≡ insertion 1 2 1 2
entry_of_insert = refl

-- the lines that primitives touched, to which cursors can then be moved
touched_by_wrap : touched (wrap 0 2) ≡ 0 ∷ 1 ∷ []
touched_by_wrap = refl

touched_by_unwrap : touched (unwrap 1 3) ≡ 0 ∷ []
touched_by_unwrap = refl

touched_by_removal : touched (removal 1 0 1) ≡ 1 ∷ []
touched_by_removal = refl

is_home_after : is_home (ToRehome (wrap 0 2)) 1 ≡ true
is_home_after = refl

no_home_before : is_home (ToApply (wrap 0 2)) 0 ≡ false
no_home_before = refl

no_home : is_home Nothing 0 ≡ false
no_home = refl

-- a carried cursor keeps its behaviour
carried_over_wrap : carried (entry (Wrap 0 2) abc_de) (hanging (at 0 2) Move) ≡ hanging (at 1 0) Move
carried_over_wrap = refl

-- the line end counts: `d` is at offset 4
offset_of_d : offset abc_de (at 1 0) ≡ 4
offset_of_d = refl

-- two units at offset 4 are replaced by three
before_it : shift 4 2 3 Move 3 ≡ 3
before_it = refl

at_it_with_stay : shift 4 2 3 Stay 4 ≡ 4
at_it_with_stay = refl

within_it : shift 4 2 3 Stay 5 ≡ 7
within_it = refl

after_it : shift 4 2 3 Stay 8 ≡ 9
after_it = refl
