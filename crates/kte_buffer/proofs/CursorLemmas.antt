-- What is done to the cursors of a slab, one after another.
use Rattle.std.proofs.Common.{◌≡◌, ◌≢◌, ℕ, ◌+◌, ◌<◌, ◌≤◌, IsTrue, false, List, [], ◌∷◌, ◌++◌, length, length-append, Option, Some, None, inl, inr, sym, ap, ◌∙◌, subst, refl, arith}
use Rattle.std.proofs.lemmas.Bool.{cases_eq, cases_lt}
use Rattle.std.proofs.lemmas.List.{get_or_past}
use Rattle.std.proofs.lemmas.List.Elements.{Contains-append_left, Contains-push}
use Rattle.std.specs.List.{Contains}
use Rattle.std.specs.Option.{option_map, IsSome, IfSome}
use Rattle.slab.specs.Slab.{Slab, get, with_value, Updates}
use Rattle.slab.proofs.SlabLemmas.{Updates-with_value}
use Rattle.kte_place.specs.Entry.{carry}
use Rattle.kte_place.specs.declared.place.Place.{Place}
use Rattle.kte_place.specs.declared.entry.Entry.{Entry}
use Rattle.kte_buffer.specs.declared.cursors.Cursor.{Cursor}
use Rattle.kte_buffer.specs.Entries.{is_touched}
use Rattle.kte_buffer.specs.Cursors.{cursor_after}

-- the cursors of lower keys are carried, and the others are as they were
pub record CarriedBelow (entry : Entry) (old now : Slab Cursor) (n : ℕ) : Type 0 where
  pub carried : (key : ℕ) → key < n → get now key ≡ option_map (cursor_after entry) (get old key)
  pub waiting : (key : ℕ) → n ≤ key → get now key ≡ get old key

-- the cursors of lower keys that are on touched lines are listed
pub record ListedBelow (entry : Entry) (now : Slab Cursor) (near : List ℕ) (n : ℕ) : Type 0 where
  pub few : length near ≤ n
  pub listed : (key : ℕ) → key < n → IfSome (get now key) (λ cursor. IsTrue (is_touched entry cursor.place.line) → Contains near key)

-- one more key
pub CarriedBelow-more : (entry : Entry) (old now next : Slab Cursor) (n : ℕ) → CarriedBelow entry old now n
    → Updates now next n (option_map (cursor_after entry) (get now n)) → CarriedBelow entry old next (n + 1)
CarriedBelow-more entry old now next n below made =
    record {
      carried = λ key within. elim (cases_eq key n) [
        | inl here ↦ ap (get next) here ∙ made.changed ∙ ap (option_map (cursor_after entry)) (below.waiting n (omega arith) ∙ ap (get old) (sym here))
        | inr other ↦ made.others key other ∙ below.carried key (omega arith)
      ];
      waiting = λ key past. let other : key ≢ n = omega arith in made.others key other ∙ below.waiting key (omega arith);
    }

-- a cursor that is there is written
pub carried_there : (entry : Entry) (now next : Slab Cursor) (n : ℕ) (cursor : Cursor) (place : Place) → get now n ≡ Some cursor
    → place ≡ carry entry cursor.place cursor.on_insert → next ≡ with_value now n (record cursor { place = place })
    → Updates now next n (option_map (cursor_after entry) (get now n))
carried_there entry now next n cursor place read is written =
    let there : IsSome (get now n) = subst (λ o. IsSome o) (sym read) refl in
    let made = Updates-with_value now n (cursor_after entry cursor) there in
    rw (written, is, read) made

-- where there is none, nothing is written
pub carried_nowhere : (entry : Entry) (now next : Slab Cursor) (n : ℕ) → get now n ≡ None → next ≡ now
    → Updates now next n (option_map (cursor_after entry) (get now n))
carried_nowhere entry now next n read same =
    rw (same, read) (record { changed = read; others = λ other differs. refl })

-- a key with a cursor is below the number of slots
pub key_below : (slab : Slab Cursor) (key : ℕ) (cursor : Cursor) → get slab key ≡ Some cursor → key < length slab.slots
key_below slab key cursor read =
    elim (cases_lt key (length slab.slots)) [
      | inl below ↦ below
      | inr past ↦ let none = get_or_past slab.slots key None past in absurd (cc)
    ]

-- what is listed stays listed as the list grows
listed_longer : (entry : Entry) (near longer : List ℕ) (key : ℕ) (o : Option Cursor) → (Contains near key → Contains longer key)
    → IfSome o (λ cursor. IsTrue (is_touched entry cursor.place.line) → Contains near key)
    → IfSome o (λ cursor. IsTrue (is_touched entry cursor.place.line) → Contains longer key)
listed_longer entry near longer key None grows listed = tt
listed_longer entry near longer key (Some cursor) grows listed = λ touched. grows (listed touched)

ListedBelow-more : (entry : Entry) (now next : Slab Cursor) (near longer : List ℕ) (n : ℕ) (slot : Option Cursor)
    → ListedBelow entry now near n → Updates now next n slot → length longer ≤ n + 1
    → ((key : ℕ) → Contains near key → Contains longer key)
    → IfSome slot (λ cursor. IsTrue (is_touched entry cursor.place.line) → Contains longer n)
    → ListedBelow entry next longer (n + 1)
ListedBelow-more entry now next near longer n slot below made few grows here =
    record {
      few = few;
      listed = λ key within. elim (cases_eq key n) [
        | inl same ↦ subst (λ k. IfSome (get next k) (λ cursor. IsTrue (is_touched entry cursor.place.line) → Contains longer k)) (sym same)
            (subst (λ o. IfSome o (λ cursor. IsTrue (is_touched entry cursor.place.line) → Contains longer n)) (sym made.changed) here)
        | inr other ↦ subst (λ o. IfSome o (λ cursor. IsTrue (is_touched entry cursor.place.line) → Contains longer key)) (sym (made.others key other))
            (listed_longer entry near longer key (get now key) (grows key) (below.listed key (omega arith)))
      ];
    }

-- what holds of any cursor holds of one that may be there
if_any : {P : Type 0} (entry : Entry) (o : Option Cursor) → P → IfSome o (λ cursor. IsTrue (is_touched entry cursor.place.line) → P)
if_any entry None holds = tt
if_any entry (Some cursor) holds = λ touched. holds

-- a cursor is listed
pub listed_there : (entry : Entry) (now next : Slab Cursor) (near longer : List ℕ) (n : ℕ) (slot : Option Cursor)
    → ListedBelow entry now near n → Updates now next n slot → longer ≡ near ++ n ∷ [] → ListedBelow entry next longer (n + 1)
listed_there entry now next near longer n slot below made is =
    ListedBelow-more entry now next near longer n slot below made
    (omega (arith, ap length is, length-append near (n ∷ []), below.few))
    (λ key held. subst (λ xs. Contains xs key) (sym is) (Contains-append_left near (n ∷ []) key held))
    (if_any entry slot (subst (λ xs. Contains xs n) (sym is) (Contains-push near n)))

-- .. or it is on a line that was not touched
pub listed_elsewhere : (entry : Entry) (now next : Slab Cursor) (near : List ℕ) (n : ℕ) (cursor : Cursor) (place : Place)
    → ListedBelow entry now near n → get now n ≡ Some cursor → place ≡ carry entry cursor.place cursor.on_insert
    → Updates now next n (option_map (cursor_after entry) (get now n)) → is_touched entry place.line ≡ false
    → ListedBelow entry next near (n + 1)
listed_elsewhere entry now next near n cursor place below read is made not =
    ListedBelow-more entry now next near near n _ below made (omega (arith, below.few)) (λ key held. held)
    (subst (λ o. IfSome o (λ cursor. IsTrue (is_touched entry cursor.place.line) → Contains near n))
    (sym (ap (option_map (cursor_after entry)) read))
    (λ touched. let no : is_touched entry (carry entry cursor.place cursor.on_insert).line ≡ false =
    ap (λ (p : Place). is_touched entry p.line) (sym is) ∙ not in absurd (cc)))

-- .. or there is none
pub listed_nowhere : (entry : Entry) (now next : Slab Cursor) (near : List ℕ) (n : ℕ) → ListedBelow entry now near n
    → get now n ≡ None → Updates now next n (option_map (cursor_after entry) (get now n)) → ListedBelow entry next near (n + 1)
listed_nowhere entry now next near n below read made =
    ListedBelow-more entry now next near near n _ below made (omega (arith, below.few)) (λ key held. held)
    (subst (λ o. IfSome o (λ cursor. IsTrue (is_touched entry cursor.place.line) → Contains near n))
    (sym (ap (option_map (cursor_after entry)) read)) tt)
