-- How a buffer stays sound.
use Rattle.std.proofs.Common.{◌≡◌, ℕ, ◌+◌, ◌^◌, ◌<◌, ◌≤◌, true, ◌==◌, IsTrue, List, [], ◌∷◌, length, All, Option, None, Some, inl, inr, sym, ap, ◌∙◌, subst, refl, arith}
use Rattle.std.proofs.lemmas.Bool.{cases_eq}
use Rattle.std.proofs.lemmas.Bool.Decides.{nat_tests}
use Rattle.std.proofs.lemmas.List.{length-map}
use Rattle.std.proofs.lemmas.List.Elements.{All-head, All-tail}
use Rattle.std.specs.Option.{option_map, IfSome, IsSome}
use Rattle.std.specs.List.{list_any, Contains}
use Rattle.std.specs.Ordering.{nat_cmp}
use Rattle.std.specs.FinMap.{FinMap}
use Rattle.std.specs.FinMap as finmap
use Rattle.slab.specs.Slab.{Slab, get, with_value}
use Rattle.slab.proofs.SlabLemmas.{Updates-with_value}
use Rattle.kte_text.specs.Texts.{IsText, size_of}
use Rattle.kte_text.specs.Primitives.{FitsText, HasLine, after, misfit}
use Rattle.kte_text.specs.Flat.{given, taken_by}
use Rattle.kte_text.proofs.PrimitiveLemmas.{length-le-size_of, FitsText-from_misfit, IsText-after}
use Rattle.kte_text.specs.declared.primitive.Primitive.{Primitive}
use Rattle.kte_place.specs.Entry.{PlaceFits}
use Rattle.kte_place.specs.Cursors.{Hanging}
use Rattle.kte_place.specs.declared.place.Place.{Place}
use Rattle.kte_place.specs.declared.entry.Entry.{Entry}
use Rattle.kte_buffer.specs.declared.cursors.Cursor.{Cursor}
use Rattle.kte_buffer.specs.declared.buffer.Ready.{Ready}
use Rattle.kte_buffer.specs.declared.buffer.Ready.TheVariants.{Nothing, ToApply, ToRehome}
use Rattle.kte_buffer.specs.declared.buffer.Buffer.TheInside.{Inside}
use Rattle.kte_buffer.specs.Entries.{entry, touched, is_touched}
use Rattle.kte_buffer.specs.Rows.{lines_in}
use Rattle.kte_buffer.specs.Cursors.{StandWithin, cursor_after, shown, hung_in, carried}
use Rattle.kte_buffer.specs.Buffer.{Contents, IsReadyFor, is_home, ColumnsFit}
use Rattle.kte_buffer.specs.Inside.{contents_of, Keeps, IsSound}
use Rattle.kte_buffer.proofs.HungLemmas.{get-hung, get-hung_in}
use Rattle.kte_buffer.proofs.CallerLemmas.{carried_within, touched_within}
use Rattle.kte_buffer.proofs.ChangeLemmas.{size_of-after}

-- what holds of all of the numbers holds of one among them
all_any : (n line : ℕ) (xs : List ℕ) → All (λ x. x < n) xs → list_any (λ x. x == line) xs ≡ true → line < n
all_any n line [] all any = absurd (cc)
all_any n line (x ∷ xs) all any =
    let P : ℕ → Type 0 = λ x. x < n in
    elim (cases_eq x line) [
      | inl here ↦ omega (arith, All-head P x xs all)
      | inr other ↦ all_any n line xs (All-tail P x xs all) (grind (arith, nat_tests, any))
    ]

-- a line that cursors can be moved to is there
pub home_within : (ready : Ready) (buffer : Inside) (line : ℕ) → Keeps ready buffer → IsTrue (is_home ready line)
    → line < length buffer.rows.items
home_within Nothing buffer line keeps home = absurd (cc)
home_within (ToApply entry) buffer line keeps home = absurd (cc)
home_within (ToRehome entry) buffer line keeps home = all_any (length buffer.rows.items) line _ keeps home

-- what a buffer is ready for needs no more as cursors change and no slot comes
pub Keeps-cursors : (ready : Ready) (buffer : Inside) (slab : Slab Cursor) → length slab.slots ≤ length buffer.cursors.slots
    → Keeps ready buffer → Keeps ready (record buffer { cursors = slab })
Keeps-cursors Nothing buffer slab few keeps = tt
Keeps-cursors (ToApply entry) buffer slab few keeps = (keeps.0, omega (arith, few, keeps.1))
Keeps-cursors (ToRehome entry) buffer slab few keeps = keeps

-- a cursor that is moved stands where it is moved to
pub StandWithin-moved : (slab : Slab Cursor) (key lines : ℕ) (cursor : Cursor) (place : Place) → StandWithin slab lines
    → get slab key ≡ Some cursor → place.line < lines → StandWithin (with_value slab key (record cursor { place = place })) lines
StandWithin-moved slab key lines cursor place stand read within =
    let there : IsSome (get slab key) = subst (λ o. IsSome o) (sym read) refl in
    let made = Updates-with_value slab key (record cursor { place = place }) there in
    λ other. elim (cases_eq other key) [
      | inl here ↦ subst (λ o. IfSome o (λ cursor. cursor.place.line < lines)) (sym (ap (get (with_value slab key (record cursor { place = place }))) here ∙ made.changed)) within
      | inr differs ↦ subst (λ o. IfSome o (λ cursor. cursor.place.line < lines)) (sym (made.others other differs)) (stand other)
    ]

-- every cursor stands where it can be carried
place_fits : (o : Option Cursor) (lines : ℕ) → lines < 2 ^ 32 → IfSome o (λ cursor. cursor.place.line < lines)
    → IfSome (option_map shown o) (λ h. h.place.column ≤ 2 ^ 62) → IfSome o (λ cursor. PlaceFits cursor.place)
place_fits None lines few stands column = tt
place_fits (Some cursor) lines few stands column = record { line = omega arith; column = column }

pub PlaceFits-hung : (slab : Slab Cursor) (hung : FinMap nat_cmp Hanging) (text : List (List ℕ)) → IsText text → hung_in slab ≡ hung
    → StandWithin slab (length text) → ColumnsFit hung → (key : ℕ) → IfSome (get slab key) (λ cursor. PlaceFits cursor.place)
PlaceFits-hung slab hung text whole is stand columns key =
    place_fits (get slab key) (length text) (omega (arith, length-le-size_of text, whole.small)) (stand key)
    (subst (λ o. IfSome o (λ h. h.place.column ≤ 2 ^ 62)) (get-hung slab hung key is) (columns key))

-- carried cursors stand within the text after
carried_stands : (p : Primitive) (text : List (List ℕ)) (o : Option Cursor) → FitsText p text
    → IfSome o (λ cursor. cursor.place.line < length text)
    → IfSome (option_map (cursor_after (entry p text)) o) (λ cursor. cursor.place.line < length (after p text))
carried_stands p text None fits stands = tt
carried_stands p text (Some cursor) fits stands = carried_within p text cursor.place cursor.on_insert fits stands

pub StandWithin-carried : (p : Primitive) (text : List (List ℕ)) (old new : Slab Cursor) → FitsText p text → StandWithin old (length text)
    → ((key : ℕ) → get new key ≡ option_map (cursor_after (entry p text)) (get old key)) → StandWithin new (length (after p text))
StandWithin-carried p text old new fits stand made key =
    subst (λ o. IfSome o (λ cursor. cursor.place.line < length (after p text))) (sym (made key))
    (carried_stands p text (get old key) fits (stand key))

-- a carried cursor of the slab is seen as carried
shown_after : (e : Entry) (o : Option Cursor) → option_map shown (option_map (cursor_after e) o) ≡ option_map (carried e) (option_map shown o)
shown_after e None = refl
shown_after e (Some cursor) = refl

pub get-carried : (e : Entry) (old new : Slab Cursor) (hung : FinMap nat_cmp Hanging) → hung_in old ≡ hung
    → ((key : ℕ) → get new key ≡ option_map (cursor_after e) (get old key))
    → (id : ℕ) → finmap.get (hung_in new) id ≡ option_map (carried e) (finmap.get hung id)
get-carried e old new hung is made id =
    get-hung_in new id ∙ ap (option_map shown) (made id) ∙ shown_after e (get old id) ∙ ap (option_map (carried e)) (sym (get-hung old hung id is))

-- a listed cursor is listed as it is seen
listed_shown : (e : Entry) (near : List ℕ) (id : ℕ) (o : Option Cursor)
    → IfSome o (λ cursor. IsTrue (is_touched e cursor.place.line) → Contains near id)
    → IfSome (option_map shown o) (λ cursor. IsTrue (is_touched e cursor.place.line) → Contains near id)
listed_shown e near id None listed = tt
listed_shown e near id (Some cursor) listed = listed

pub get-listed : (e : Entry) (slab : Slab Cursor) (near : List ℕ)
    → ((key : ℕ) → IfSome (get slab key) (λ cursor. IsTrue (is_touched e cursor.place.line) → Contains near key))
    → (id : ℕ) → IfSome (finmap.get (hung_in slab) id) (λ cursor. IsTrue (is_touched e cursor.place.line) → Contains near id)
get-listed e slab near listed id =
    subst (λ o. IfSome o (λ cursor. IsTrue (is_touched e cursor.place.line) → Contains near id)) (sym (get-hung_in slab id))
    (listed_shown e near id (get slab id) (listed id))

-- a buffer is sound after a primitive
pub IsSound-after : (p : Primitive) (old new : Inside) → IsSound old → misfit p (lines_in old.rows.items) ≡ None → HasLine p
    → lines_in new.rows.items ≡ after p (lines_in old.rows.items) → new.fresh.items ≡ []
    → new.size + taken_by p ≡ old.size + length (given p)
    → ((key : ℕ) → get new.cursors key ≡ option_map (cursor_after (entry p (lines_in old.rows.items))) (get old.cursors key))
    → new.ready ≡ ToRehome (entry p (lines_in old.rows.items)) → IsSound new
IsSound-after p old new sound none has made empty size cursors ready =
    let text = lines_in old.rows.items in
    let fits = FitsText-from_misfit p text none in
    let stand : StandWithin old.cursors (length text) =
    subst (StandWithin old.cursors) (sym (length-map old.rows.items (λ row. row.items))) sound.cursors in
    let lines : length new.rows.items ≡ length (after p text) = sym (length-map new.rows.items (λ row. row.items)) ∙ ap length made in
    record {
      text = subst IsText (sym made) (IsText-after p text sound.text has none);
      size = omega (arith, size, sound.size, size_of-after p text fits, ap size_of made);
      fresh = empty;
      cursors = subst (StandWithin new.cursors) (sym lines) (StandWithin-carried p text old.cursors new.cursors fits stand cursors);
      ready = subst (λ ready. Keeps ready new) (sym ready)
          (subst (λ n. All (λ line. line < n) (touched (entry p text))) (sym lines) (touched_within p text fits));
    }

one_entry : (a b : Entry) → ToApply a ≡ ToApply b → a ≡ b
one_entry a b is = cc

-- the entry that a buffer keeps is that of the primitive that it is ready for
pub kept_entry : (b : Inside) (buffer : Contents) (p : Primitive) (e : Entry) → contents_of b ≡ buffer
    → IsReadyFor p buffer → b.ready ≡ ToApply e → e ≡ entry p (lines_in b.rows.items)
kept_entry b buffer p e seen ready kept =
    one_entry e (entry p (lines_in b.rows.items))
    (sym kept ∙ ap (λ (c : Contents). c.ready) seen ∙ ready.ready
    ∙ ap (λ (c : Contents). ToApply (entry p c.text)) (sym seen))
