-- What contracts see of a buffer.
use Rattle.std.specs.Prelude.{◌≡◌, ℕ, ◌≤◌, Bool, false, IsTrue, List, None, IfSome, refl}
use Rattle.std.specs.List.{Contains}
use Rattle.std.specs.Ordering.{nat_cmp}
use Rattle.std.specs.FinMap.{FinMap, get}
use Rattle.std.specs.Coded.{Coded, code_by, coded×, coded_list, coded_ℕ}
use Rattle.kte_text.specs.Primitives.{is_empty, misfit}
use Rattle.kte_text.specs.declared.primitive.Primitive.{Primitive}
use Rattle.kte_place.specs.Cursors.{Hanging}
use Rattle.kte_place.specs.Codes.{hung_code}
use Rattle.kte_place.specs.declared.place.TheConstants.{MAX_COLUMN}
use Rattle.kte_buffer.specs.Entries.{entry, is_touched}
use Rattle.kte_buffer.specs.contracts.buffer.Ready as ready_contract
use Rattle.kte_buffer.specs.declared.buffer.Ready.{Ready}
use Rattle.kte_buffer.specs.declared.buffer.Ready.TheVariants.{Nothing, ToApply, ToRehome}

-- what a buffer holds
pub record Contents : Type 0 where
  pub text : List (List ℕ)
  -- the cursors that hang, by their numbers
  pub hung : FinMap nat_cmp Hanging
  -- what it is ready for
  pub ready : Ready
  -- the numbers of the cursors on the lines that the last primitive touched, and possibly others
  pub near : List ℕ

-- contents are encoded as the tuple of their parts
abbrev pub contents_code : Coded Contents
contents_code =
    code_by
    (List (List ℕ) × (FinMap nat_cmp Hanging × (Ready × List ℕ)))
    (coded× (coded_list (coded_list coded_ℕ))
    (coded× hung_code (coded× ready_contract.the_row.coded (coded_list coded_ℕ))))
    (λ b. (b.text, (b.hung, (b.ready, b.near))))
    (λ p. record { text = p.0; hung = p.1.0; ready = p.1.1.0; near = p.1.1.1 })
    (λ _. refl)

-- a cursor can be moved to this line: the primitive that was just applied touched it
abbrev pub is_home : Ready → ℕ → Bool
is_home Nothing line = false
is_home (ToApply entry) line = false
is_home (ToRehome entry) line = is_touched entry line

-- the buffer is ready for the primitive, which fits its text and changes it
pub record IsReadyFor (primitive : Primitive) (buffer : Contents) : Type 0 where
  pub fits : misfit primitive buffer.text ≡ None
  pub changes : is_empty primitive ≡ false
  pub ready : buffer.ready ≡ ToApply (entry primitive buffer.text)

-- no cursor is at a greater column than can be carried
abbrev pub ColumnsFit : FinMap nat_cmp Hanging → Type 0
ColumnsFit hung = (id : ℕ) → IfSome (get hung id) (λ cursor. cursor.place.column ≤ MAX_COLUMN)

-- every cursor on a line to which cursors can be moved is listed
abbrev pub ListsNear : Contents → Type 0
ListsNear buffer =
    (id : ℕ) → IfSome (get buffer.hung id)
    (λ cursor. IsTrue (is_home buffer.ready cursor.place.line) → Contains buffer.near id)
