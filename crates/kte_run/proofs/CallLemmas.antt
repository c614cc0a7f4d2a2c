-- The state after one call of the swap, and its outcome.
use Rattle.std.proofs.Common.{◌≡◌, ◌≢◌, ◌⊎◌, ℕ, zero, suc, ◌==◌, Bool, true, false, List, [], ◌∷◌, ◌++◌, take, Option, Some, None, IfSome, Result, Ok, Err, refl, ap, sym, subst, ◌∙◌, inl, inr, ◌+◌, slice_get, append_assoc, append-nil}
use Rattle.std.proofs.lemmas.Bool.{cases_Bool, eq-eqb, true≢false}
use Rattle.std.specs.Str.{bytes_eq}
use Rattle.std.proofs.lemmas.List.{take_more}
use Rattle.std.proofs.lemmas.Option.{slice_get_within, get_or_from_slice_get}
use Rattle.std.proofs.lemmas.Slice.Eq.{bytes_eq-Decides}
use Rattle.std.specs.List.{AllByRecursion}
use Rattle.kte_text.specs.declared.primitive.Primitive.{Primitive}
use Rattle.kte_causes.specs.Moments.{Moment, AddsMoments, AddedBy, HasPrefix, IsSyncedMore, Syncing, Synced, latest, latest_from, nowhere}
use Rattle.kte_causes.proofs.Added.{latest_from-append, latest_from-all, All-weaker}
use Rattle.kte_record.specs.Transactions.{piece}
use Rattle.kte_swap.specs.Swap.{SwapView, HasRecord, Finishing, after_finish, after_sync, disk_result, finished, lost}
use Rattle.kte_swap.specs.Saving.{Guarding, Emptying, Leaving}
use Rattle.kte_swap.specs.Guards.{FitAfter, IsFileOf, Stands, StandsIn}
use Rattle.kte_swap.specs.declared.causes.SwapState.{SwapState}
use Rattle.kte_swap.specs.declared.causes.SwapState.TheVariants.{Guarded, Lost}
use Rattle.kte_swap.specs.declared.causes.SwapFault.{SwapFault}
use Rattle.kte_swap.specs.declared.causes.SwapFault.TheVariants as fault
use Rattle.kte_text.specs.Digests.{digest_of}
use Rattle.kte_core.specs.declared.request.OutsideCall.{OutsideCall}
use Rattle.kte_core.specs.declared.request.OutsideCall.TheVariants as Call
use Rattle.kte_run.specs.declared.editor.Told.{Told}
use Rattle.kte_run.specs.Editor.{finished_by, is_lost}
use Rattle.kte_run.specs.Calls.{Leaves, listed}

-- ---- the moments

-- the last of the moments with those that were added
latest-added : (old added : List Moment) → latest (old ++ added) ≡ latest_from (latest old) added
latest-added old added = latest_from-append nowhere old added

-- what the added moments say of the saved file
adds-saved : (P : Moment → List Moment → Type 0) (Q : List ℕ → List ℕ → Type 0) (before after : Option (List Moment))
    → AddsMoments P before after → ((old : Moment) (added : List Moment) → P old added → Q old.saved (latest_from old added).saved)
    → IfSome before (λ old. IfSome after (λ told. Q (latest old).saved (latest told).saved))
adds-saved P Q None after adds holds = tt
adds-saved P Q (Some old) None adds holds = absurd adds
adds-saved P Q (Some old) (Some new) (added, is, p) holds =
    subst (λ (ms : List Moment). Q (latest old).saved (latest ms).saved) (sym is)
    (subst (λ (m : Moment). Q (latest old).saved m.saved) (sym (latest-added old added)) (holds (latest old) added p))

finishing-saved : (swap : SwapView) (batch : List Primitive) (b : Bool) (old : Moment) (added : List Moment)
    → Finishing swap batch (Ok b) old added → (latest_from old added).saved ≡ old.saved
finishing-saved swap [] b old added none = ap (λ (ms : List Moment). (latest_from old ms).saved) none
finishing-saved swap (p ∷ ps) false old added none = ap (λ (ms : List Moment). (latest_from old ms).saved) none
finishing-saved swap (p ∷ ps) true old added by =
    let P : Moment → Type 0 = λ m. m.saved ≡ old.saved in
    latest_from-all P old added refl (All-weaker (HasPrefix (piece swap.count swap.base (p ∷ ps)) old) P (λ m h. h.0) added by.1)

-- a sync that went well
abbrev pub well : Result (Unit {0}) SwapFault
well = Ok tt

syncing-saved : (old : Moment) (added : List Moment) → AddedBy (disk_result well) Syncing Synced old added
    → (latest_from old added).saved ≡ old.saved
syncing-saved old added by =
    let P : Moment → Type 0 = λ m. m.saved ≡ old.saved in
    latest_from-all P old added refl (All-weaker (IsSyncedMore old) P (λ m h. h.0) added by.1)

-- ---- a lost swap

pub state-cases : (state : SwapState) → (state ≡ Guarded) ⊎ (state ≡ Lost)
state-cases Guarded = inl refl
state-cases Lost = inr refl

-- what is told once it is lost
lost-saved : (state : SwapState) → state ≡ Lost → {P : Type 0} → is_lost state ≡ false → P
lost-saved Guarded lost {P} kept = absurd (cc)
lost-saved Lost lost {P} kept = absurd (cc)

-- it stands for any text and any transactions
lost-stands : (swap : SwapView) (text later : List (List ℕ)) (ts us : List (List Primitive)) (moments : Option (List Moment))
    → swap.state ≡ Lost → Stands swap text ts moments → Stands swap later us moments
lost-stands swap text later ts us None lost stands = stands
lost-stands swap text later ts us (Some told) lost stands =
    subst (λ (s : SwapState). StandsIn s swap later us (latest told)) (sym lost)
    (subst (λ (s : SwapState). StandsIn s swap text ts (latest told)) lost stands)

-- nothing was finished
none-stands : (swap : SwapView) (text : List (List ℕ)) (ts : List (List Primitive)) (moments : Option (List Moment))
    → Stands swap text ts moments → Stands swap text (ts ++ []) moments
none-stands swap text ts moments stands = subst (λ us. Stands swap text us moments) (sym (append-nil ts)) stands

-- ---- an append

kept-state : (b : Bool) (batch : List Primitive) (swap : SwapView) → (after_finish batch (Ok b) swap).state ≡ swap.state
kept-state true [] swap = refl
kept-state false [] swap = refl
kept-state true (p ∷ ps) swap = refl
kept-state false (p ∷ ps) swap = refl

finished-stands : (b : Bool) (batch : List Primitive) (swap : SwapView) (text : List (List ℕ)) (ts : List (List Primitive))
    (moments : Option (List Moment)) → (b ≡ false → swap.state ≡ Lost) → Stands swap text (finished batch (Ok b) ts) moments
    → Stands swap text (ts ++ listed batch) moments
finished-stands b [] swap text ts moments lost stands = none-stands swap text ts moments stands
finished-stands true (p ∷ ps) swap text ts moments lost stands = stands
finished-stands false (p ∷ ps) swap text ts moments lost stands =
    lost-stands swap text text ts (ts ++ (p ∷ ps) ∷ []) moments (lost refl) stands

pub finish-ok : (b : Bool) (batch : List Primitive) (form : List ℕ) (old new : SwapView) (before after : Option (List Moment))
    → (b ≡ false → old.state ≡ Lost) → new ≡ after_finish batch (Ok b) old
    → AddsMoments (Finishing old batch (Ok b)) before after
    → ((text : List (List ℕ)) (ts : List (List Primitive)) → Stands old text ts before → FitAfter old.state batch ts text
    → Stands new text (finished batch (Ok b) ts) after)
    → Leaves Call.Append batch form old new before after None
finish-ok b batch form old new before after lost is adds stands =
    let state : new.state ≡ old.state = ap (λ (s : SwapView). s.state) is ∙ kept-state b batch old in
    record {
      told = tt;
      lost = ap is_lost state;
      stands = λ text later ts was fit file.
          finished-stands b batch new text ts after (λ e. state ∙ lost e) (stands text ts was fit);
      saves = λ kept. adds-saved (Finishing old batch (Ok b)) (λ x y. y ≡ x) before after adds (finishing-saved old batch b);
    }

-- the transaction that was open is finished
pub at-depth : (depth : ℕ) (current batch : List Primitive) (form : List ℕ) (swap old new : SwapView) (before after : Option (List Moment))
    (owed : Option Told) → depth ≡ 0 → batch ≡ current → swap ≡ old → Leaves Call.Append batch form swap new before after owed
    → Leaves Call.Append (finished_by Call.Append depth current) form old new before after owed
at-depth depth current batch form swap old new before after owed none is_batch is_swap leaves =
    let t : (depth == 0) ≡ true = eq-eqb depth 0 none in
    rw t (subst (λ (s : SwapView). Leaves Call.Append current form s new before after owed) is_swap
    (subst (λ (b : List Primitive). Leaves Call.Append b form swap new before after owed) is_batch leaves))

-- .. or the swap is this one
pub of-swap : (call : OutsideCall) (form : List ℕ) (swap old new : SwapView) (before after : Option (List Moment)) (owed : Option Told)
    → swap ≡ old → Leaves call [] form swap new before after owed → Leaves call [] form old new before after owed
of-swap call form swap old new before after owed is leaves =
    subst (λ (s : SwapView). Leaves call [] form s new before after owed) is leaves

-- ---- a sync

pub sync-ok : (form : List ℕ) (old new : SwapView) (before after : Option (List Moment)) → old.state ≢ Lost → new ≡ old
    → AddsMoments (AddedBy (disk_result well) Syncing Synced) before after
    → ((text : List (List ℕ)) (ts : List (List Primitive)) → Stands old text ts before → Stands new text ts after)
    → Leaves Call.Sync [] form old new before after (Some (record { call = Call.Sync; ok = true }))
sync-ok form old new before after held is adds stands =
    let guarded : old.state ≡ Guarded = elim (state-cases old.state) [ inl g ↦ g | inr l ↦ absurd (held l) ] in
    record {
      told = (refl, λ lost. lost-saved old.state (absurd (cc)) (ap is_lost guarded));
      lost = ap (λ (s : SwapView). is_lost s.state) is;
      stands = λ text later ts was fit file. none-stands new text ts after (stands text ts was);
      saves = λ kept. adds-saved (AddedBy (disk_result well) Syncing Synced) (λ x y. y ≡ x) before after adds syncing-saved;
    }

pub sync-failed : (form : List ℕ) (old new : SwapView) (before after : Option (List Moment)) → new.state ≡ Lost
    → ((text : List (List ℕ)) (ts : List (List Primitive)) → Stands old text ts before → Stands new text ts after)
    → Leaves Call.Sync [] form old new before after (Some (record { call = Call.Sync; ok = false }))
sync-failed form old new before after lost stands = record {
  told = (refl, λ was. refl);
  lost = ap is_lost lost;
  stands = λ text later ts was fit file. none-stands new text ts after (stands text ts was);
  saves = λ kept. lost-saved new.state lost kept;
}

-- the swap after a sync that failed, or was not made
pub sync-lost : (error : SwapFault) (swap : SwapView) → error ≢ fault.NoMemory → (error ≡ fault.Lost → swap.state ≡ Lost)
    → (after_sync {T = Unit {0}} (Err error) swap).state ≡ Lost
sync-lost fault.Failed swap some lost = refl
sync-lost fault.Lost swap some lost = lost refl
sync-lost fault.NoMemory swap some lost = absurd (some refl)

-- ---- a save

same_or_not : (a b : List ℕ) → (a ≡ b) ⊎ (a ≢ b)
same_or_not a b =
    let decides = bytes_eq-Decides a b in
    elim (cases_Bool (bytes_eq a b)) [ inl t ↦ inl (decides.0 t) | inr f ↦ inr (λ e. true≢false (sym (decides.1 e) ∙ f)) ]

pub save-ok : (form : List ℕ) (old new : SwapView) (before after : Option (List Moment)) (P Q R : Moment → List Moment → Type 0)
    → (old.state ≡ Guarded → AddsMoments (λ m added. P m added × Guarding form (Ok tt) m added) before after)
    → (old.state ≡ Lost → digest_of form ≡ old.base → AddsMoments (λ m added. Q m added × Emptying form (Ok tt) m added) before after)
    → (old.state ≡ Lost → digest_of form ≢ old.base → AddsMoments (λ m added. R m added × Leaving form (Ok tt) m added) before after)
    → new.state ≡ Guarded
    → ((text later : List (List ℕ)) (ts : List (List Primitive)) → Stands old text ts before → IsFileOf form later → Stands new later [] after)
    → Leaves Call.Save [] form old new before after (Some (record { call = Call.Save; ok = true }))
save-ok form old new before after P Q R guarded same other is stands = record {
  told = refl;
  lost = ap is_lost is;
  stands = λ text later ts was fit file. stands text later ts was (file refl);
  saves = elim (state-cases old.state) [
    | inl e ↦ adds-saved (λ m added. P m added × Guarding form (Ok tt) m added) (λ x y. y ≡ form) before after (guarded e) (λ m added p. p.1.1.0)
    | inr e ↦ elim (same_or_not (digest_of form) old.base) [
      | inl d ↦ adds-saved (λ m added. Q m added × Emptying form (Ok tt) m added) (λ x y. y ≡ form) before after (same e d) (λ m added p. p.1.1.0)
      | inr d ↦ adds-saved (λ m added. R m added × Leaving form (Ok tt) m added) (λ x y. y ≡ form) before after (other e d) (λ m added p. p.1.1.0)
    ]
  ];
}

pub save-failed : (form : List ℕ) (old new : SwapView) (before after : Option (List Moment)) → new.state ≡ Lost
    → ((text later : List (List ℕ)) (ts : List (List Primitive)) → Stands old text ts before → IsFileOf form later → Stands new text ts after)
    → Leaves Call.Save [] form old new before after (Some (record { call = Call.Save; ok = false }))
save-failed form old new before after lost stands = record {
  told = refl;
  lost = ap is_lost lost;
  stands = λ text later ts was fit file. none-stands new text ts after (stands text later ts was (file refl));
  saves = λ kept. lost-saved new.state lost kept;
}

-- the swap after a save that failed
pub save-lost : (Spared : Type 0) (old new : SwapView) → (new ≡ lost old) ⊎ Spared → (Spared → ⊥) → new.state ≡ Lost
save-lost Spared old new (inl is) never = ap (λ (s : SwapView). s.state) is
save-lost Spared old new (inr spared) never = absurd (never spared)

-- ---- the primitives that are noted

pub records-so-far : (current made : List Primitive) (n : ℕ) → AllByRecursion HasRecord current → AllByRecursion HasRecord made
    → AllByRecursion HasRecord (current ++ take n made)
records-so-far [] [] zero some more = tt
records-so-far [] [] (suc n) some more = tt
records-so-far [] (p ∷ made) zero some more = tt
records-so-far [] (p ∷ made) (suc n) some more = (more.0, records-so-far [] made n tt more.1)
records-so-far (p ∷ current) made n some more = (some.0, records-so-far current made n some.1 more)

pub noted-more : (current now new made : List Primitive) (n : ℕ) (p : Primitive) → new ≡ now ++ p ∷ [] → now ≡ current ++ take n made
    → slice_get made n ≡ Some p → new ≡ current ++ take (n + 1) made
noted-more current now new made n p more is found =
    let next : take (n + 1) made ≡ take n made ++ p ∷ [] =
    take_more made n p (slice_get_within made n p found)
    ∙ ap (λ (q : Primitive). take n made ++ q ∷ []) (get_or_from_slice_get made n p p found) in
    more ∙ ap (λ (ps : List Primitive). ps ++ p ∷ []) is ∙ append_assoc current (take n made) (p ∷ [])
    ∙ ap (λ (ps : List Primitive). current ++ ps) (sym next)
