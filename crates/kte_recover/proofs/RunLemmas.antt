-- Where the replay of all records goes on and ends.
use Rattle.std.proofs.Common.{◌≡◌, ◌≢◌, ◌⊎◌, inl, inr, ℕ, ◌+◌, ◌-◌, ◌<◌, ◌≤◌, true, false, List, [], ◌∷◌, ◌++◌, length, take, drop, Option, Some, None, subst, refl, sym, ap, ◌∙◌, append_assoc, append-nil, arith}
use Rattle.std.proofs.lemmas.List.{length-append, length-drop, take_all, drop_at, drop-drop}
use Rattle.kte_text.specs.Primitives.{after, after_all}
use Rattle.kte_text.specs.declared.primitive.Primitive.{Primitive}
use Rattle.kte_record.specs.Grammar.{Item, starts, finishes, wraps, unwraps, inserts, removes, spelling, IsRecord, Begins, IsCutShort, FirstFault}
use Rattle.kte_record.specs.Recovery.{opening}
use Rattle.kte_record.proofs.RecordLemmas.{fault_unknown}
use Rattle.kte_record.proofs.Cut.{nothing_cut}
use Rattle.kte_recover.specs.declared.replay.Replay.{Replay}
use Rattle.kte_recover.specs.declared.replay.End.TheVariants.{Clean, Torn, Damaged}
use Rattle.kte_recover.specs.Inverse.{CanUndo, undone}
use Rattle.kte_recover.proofs.ReplayLemmas.{last-CanUndo, undone-last}
use Rattle.kte_recover.specs.Replay.{is_begun, Stands, Took, MayNotCome, Ends}

pub rest_of : (bytes : List ℕ) (at : ℕ) → take (length bytes - at) (drop at bytes) ≡ drop at bytes
rest_of bytes at = take_all (length bytes - at) (drop at bytes) (omega (arith, length-drop at bytes))

pub some_bytes : (item : Item) → 0 < length (spelling item)
some_bytes starts = omega arith
some_bytes finishes = omega arith
some_bytes (wraps line column) = omega arith
some_bytes (unwraps line) = omega arith
some_bytes (inserts line column text) = omega arith
some_bytes (removes line start end) = omega arith

-- the record, and what follows it
pub goes_on : (swap : List ℕ) (at used : ℕ) (item : Item) → Begins (drop at swap) item → used ≡ length (spelling item)
    → (drop at swap ≡ spelling item ++ drop (at + used) swap) × (0 < used) × (at + used ≤ length swap)
goes_on swap at used item b e =
    let rest : drop (at + used) swap ≡ b.rest =
    sym (drop-drop used at swap) ∙ ap (drop used) b.spelled ∙ drop_at (spelling item) b.rest used (sym e) in (
      b.spelled ∙ ap (λ (l : List ℕ). spelling item ++ l) (sym rest),
      omega (arith, some_bytes item, e),
      omega (arith, ap length b.spelled, length-append (spelling item) b.rest, length-drop at swap, e, some_bytes item),
    )

place_of : (swap : List ℕ) (at : ℕ) → 46 ≤ at → at ≤ length swap → at + length (drop at swap) ≡ 46 + length (drop 46 swap)
place_of swap at from within = omega (arith, length-drop at swap, length-drop 46 swap, from, within)

-- a record that may not come
pub ends_refused : (swap : List ℕ) (at : ℕ) (old new : Replay) (item : Item) (text : List (List ℕ)) → new ≡ old → MayNotCome item old
    → Begins (drop at swap) item → 46 ≤ at → at ≤ length swap → Stands old text (drop 46 swap) (drop at swap)
    → Ends text (drop 46 swap) (Damaged at) new
ends_refused swap at old new item text same never b from within s =
    subst (Ends text (drop 46 swap) (Damaged at)) (sym same)
    (drop at swap, s, inr (item, b, never text (drop 46 swap) (drop at swap) s), place_of swap at from within)

-- bytes that no record begins with
pub ends_unknown : (swap : List ℕ) (at field : ℕ) (replay : Replay) (text : List (List ℕ)) → FirstFault (drop at swap) field
    → 46 ≤ at → at ≤ length swap → Stands replay text (drop 46 swap) (drop at swap) → Ends text (drop 46 swap) (Damaged at) replay
ends_unknown swap at field replay text f from within s =
    (drop at swap, s, inl (fault_unknown (drop at swap) field f), place_of swap at from within)

-- a record that is cut short
pub ends_cut : (swap : List ℕ) (at : ℕ) (replay : Replay) (text : List (List ℕ)) → IsCutShort (drop at swap) → at < length swap
    → Stands replay text (drop 46 swap) (drop at swap) → Ends text (drop 46 swap) Torn replay
ends_cut swap at replay text cut lt s =
    (drop at swap, s, cut, omega (arith, length-append (opening s.begun) (drop at swap), length-drop at swap, lt))

nothing_left : (swap : List ℕ) (at : ℕ) → length swap ≤ at → drop at swap ≡ []
nothing_left swap at le = none (drop at swap) (omega (arith, length-drop at swap, le))
  where
    none : (l : List ℕ) → length l ≡ 0 → l ≡ []
    none [] e = refl
    none (x ∷ l) e = absurd (omega (arith, e))

some_opening : (begun : Option (List Primitive)) → is_begun begun ≡ true → 0 < length (opening begun ++ [])
some_opening None e = absurd (cc)
some_opening (Some ps) e = omega arith

none_begun : (begun : Option (List Primitive)) → is_begun begun ≡ false → begun ≡ None
none_begun None e = refl
none_begun (Some ps) e = absurd (cc)

-- the bytes end within a transaction
pub ends_open : (swap : List ℕ) (at : ℕ) (replay : Replay) (text : List (List ℕ)) → length swap ≤ at → replay.is_open ≡ true
    → Stands replay text (drop 46 swap) (drop at swap) → Ends text (drop 46 swap) Torn replay
ends_open swap at replay text le opened s₀ =
    let s = subst (Stands replay text (drop 46 swap)) (nothing_left swap at le) s₀ in
    ([], s, nothing_cut, some_opening s.begun (sym s.is_open ∙ opened))

-- the bytes end after a transaction
pub ends_shut : (swap : List ℕ) (at : ℕ) (replay : Replay) (text : List (List ℕ)) → length swap ≤ at → replay.is_open ≡ false
    → Stands replay text (drop 46 swap) (drop at swap) → Ends text (drop 46 swap) Clean replay
ends_shut swap at replay text le shut s₀ =
    let s = subst (Stands replay text (drop 46 swap)) (nothing_left swap at le) s₀ in
    (s, none_begun s.begun (sym s.is_open ∙ shut))

-- one primitive is taken back
pub taken_back : (items rest : List Primitive) (p : Primitive) (text next goal : List (List ℕ)) → items ≡ rest ++ p ∷ [] → next ≡ after p text
    → CanUndo items text → undone items text ≡ goal → CanUndo rest next × (undone rest next ≡ goal)
taken_back items rest p text next goal e is can to =
    let last = last-CanUndo rest p text (subst (λ (l : List Primitive). CanUndo l text) e can) in (
      subst (CanUndo rest) (sym is) last.0,
      ap (undone rest) is ∙ sym (undone-last rest p text) ∙ ap (λ (l : List Primitive). undone l text) (sym e) ∙ to,
    )
