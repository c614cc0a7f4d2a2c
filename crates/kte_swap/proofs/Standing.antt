-- How the condition that every call keeps is kept.
use Rattle.std.proofs.Common.{◌≡◌, ◌≢◌, ◌⊎◌, ℕ, ◌+◌, min, Bool, true, false, List, [], ◌∷◌, ◌++◌, length, take, drop, subst, Option, Some, None, Result, Ok, IfSome, inl, inr, refl, sym, ap, ◌∙◌, append_assoc, append-nil, arith}
use Rattle.std.specs.List.{AllByRecursion}
use denote.Enum.Bare.{sameb}
use Rattle.kte_swap.specs.contracts.causes.SwapState.{the_type}
use Rattle.std.proofs.lemmas.List.{length-append, take-append-drop}
use Rattle.kte_text.specs.Digests.{digest_of}
use Rattle.kte_text.specs.Primitives.{after_all}
use Rattle.kte_text.specs.declared.primitive.Primitive.{Primitive}
use Rattle.kte_record.specs.Transactions.{IsWritable, FitOneByOne, joined, piece, written}
use Rattle.kte_record.specs.Recovery.{Answers, clean}
use Rattle.kte_record.proofs.TransactionLemmas.{writable-join, fit-join}
use Rattle.kte_causes.specs.Faults.{last_count, raised}
use Rattle.kte_causes.specs.Moments.{Moment, latest, latest_from, nowhere, AddsMoments, AddedBy, Appending, Appended, HasPrefix, IsSyncedMore, Syncing, Synced}
use Rattle.kte_causes.specs.declared.causes.DiskFail.{DiskFail}
use Rattle.kte_causes.proofs.Added.{latest_from-append, latest_from-all, All-weaker, AddedBy-each}
use Rattle.kte_swap.specs.declared.causes.SwapState.{SwapState}
use Rattle.kte_swap.specs.declared.causes.SwapState.TheVariants.{Guarded, Lost}
use Rattle.kte_swap.specs.Swap.{SwapView, finished, lost}
use Rattle.kte_swap.specs.Saving.{IsAlone, KeepsSwap}
use Rattle.kte_swap.specs.Guards.{FitAfter, Guards, ImagesRecover, IsFileOf, IsFront, Stands, StandsIn}
use Rattle.kte_swap.proofs.Written.{images_recover, joined-push, written-push, written_answers}

-- the last moment after some were added
latest-is : (b c added : List Moment) → c ≡ b ++ added → latest c ≡ latest_from (latest b) added
latest-is b c added e = ap latest e ∙ latest_from-append nowhere b added

guards : (swap : SwapView) (text : List (List ℕ)) (ts : List (List Primitive)) (moment : Moment) → swap.state ≡ Guarded
    → StandsIn swap.state swap text ts moment → Guards swap text ts moment
guards swap text ts moment e h = subst (λ s. StandsIn s swap text ts moment) e h

stands : (swap : SwapView) (text : List (List ℕ)) (ts : List (List Primitive)) (moment : Moment) → swap.state ≡ Guarded
    → Guards swap text ts moment → StandsIn swap.state swap text ts moment
stands swap text ts moment e h = subst (λ s. StandsIn s swap text ts moment) (sym e) h

-- where no moment was added
pub Stands-none : (swap : SwapView) (text : List (List ℕ)) (ts : List (List Primitive)) (x y : Option (List Moment))
    → AddsMoments (λ _ added. added ≡ []) x y → Stands swap text ts x → Stands swap text ts y
Stands-none swap text ts None y p h = absurd h
Stands-none swap text ts (Some b) None p h = absurd p
Stands-none swap text ts (Some b) (Some c) p h =
    let same : c ≡ b = p.1 ∙ ap (λ (l : List Moment). b ++ l) p.2 ∙ append-nil b in
    subst (λ (l : List Moment). StandsIn swap.state swap text ts (latest l)) (sym same) h

-- a moment with the same files
Guards-same : (swap : SwapView) (text : List (List ℕ)) (ts : List (List Primitive)) (old moment : Moment) → Guards swap text ts old
    → moment.saved ≡ old.saved → moment.swap ≡ old.swap → Guards swap text ts moment
Guards-same swap text ts old moment g saved bytes = record {
  file = subst (λ (l : List ℕ). IsFileOf l text) (sym saved) g.file;
  base_is = ap digest_of saved ∙ g.base_is;
  bytes = bytes ∙ g.bytes;
  counted = g.counted;
  writable = g.writable;
  fit = g.fit;
}

-- the images of a moment of a guarded swap
Guards-images : (swap : SwapView) (text : List (List ℕ)) (ts : List (List Primitive)) (moment : Moment) → Guards swap text ts moment → ImagesRecover text ts moment
Guards-images swap text ts moment g =
    images_recover text ts moment [] g.file g.writable g.fit
    (ap (λ (d : List ℕ). written d ts) g.base_is ∙ sym g.bytes ∙ sym (append-nil moment.swap))

kept_by_sync : (old : Moment) (added : List Moment) → AllByRecursion (IsSyncedMore old) added
    → ((latest_from old added).saved ≡ old.saved) × ((latest_from old added).swap ≡ old.swap)
kept_by_sync old added all =
    let P : Moment → Type 0 = λ m. (m.saved ≡ old.saved) × (m.swap ≡ old.swap) in
    latest_from-all P old added (refl, refl) (All-weaker (IsSyncedMore old) P (λ m p. (p.0, p.1)) added all)

sync_guards : {T : Type 0} (r : Result T DiskFail) (swap : SwapView) (text : List (List ℕ)) (ts : List (List Primitive)) (b c : List Moment)
    → swap.state ≡ Guarded → Stands swap text ts (Some b) → AddsMoments (AddedBy r Syncing Synced) (Some b) (Some c) → Guards swap text ts (latest c)
sync_guards r swap text ts b c e h p =
    let old = latest b in
    let kept = kept_by_sync old p.0 (AddedBy-each r Syncing Synced old p.0 tt p.2) in
    subst (Guards swap text ts) (sym (latest-is b c p.0 p.1))
    (Guards-same swap text ts old (latest_from old p.0) (guards swap text ts old e h) kept.0 kept.1)

pub Stands-sync : {T : Type 0} (r : Result T DiskFail) (swap : SwapView) (text : List (List ℕ)) (ts : List (List Primitive)) (x y : Option (List Moment))
    → swap.state ≡ Guarded → Stands swap text ts x → AddsMoments (AddedBy r Syncing Synced) x y → Stands swap text ts y
Stands-sync r swap text ts None y e h p = absurd h
Stands-sync r swap text ts (Some b) None e h p = absurd p
Stands-sync r swap text ts (Some b) (Some c) e h p = stands swap text ts (latest c) e (sync_guards r swap text ts b c e h p)

-- a guarded swap that is lost without a change of its bytes
Guards-lost : (swap : SwapView) (text : List (List ℕ)) (ts : List (List Primitive)) (moment : Moment) → Guards swap text ts moment → IsFront swap.base moment
Guards-lost swap text ts moment g = record { ts = ts; rest = []; bytes = sym g.bytes ∙ sym (append-nil moment.swap) }

pub Stands-sync_failed : {T : Type 0} (r : Result T DiskFail) (swap : SwapView) (text : List (List ℕ)) (ts : List (List Primitive)) (x y : Option (List Moment))
    → swap.state ≡ Guarded → Stands swap text ts x → AddsMoments (AddedBy r Syncing Synced) x y → Stands (lost swap) text ts y
Stands-sync_failed r swap text ts None y e h p = absurd h
Stands-sync_failed r swap text ts (Some b) None e h p = absurd p
Stands-sync_failed r swap text ts (Some b) (Some c) e h p = Guards-lost swap text ts (latest c) (sync_guards r swap text ts b c e h p)

pub sync_images : {T : Type 0} (r : Result T DiskFail) (swap : SwapView) (text : List (List ℕ)) (ts : List (List Primitive)) (x y : Option (List Moment))
    → swap.state ≡ Guarded → Stands swap text ts x → AddsMoments (AddedBy r Syncing Synced) x y
    → AddsMoments (λ _ added. AllByRecursion (ImagesRecover text ts) added) x y
sync_images r swap text ts None y e h p = absurd h
sync_images r swap text ts (Some b) None e h p = absurd p
sync_images r swap text ts (Some b) (Some c) e h p =
    let old = latest b in
    let g = guards swap text ts old e h in (
      p.0,
      p.1,
      All-weaker (IsSyncedMore old) (ImagesRecover text ts)
          (λ m q. Guards-images swap text ts m (Guards-same swap text ts old m g q.0 q.1)) p.0
          (AddedBy-each r Syncing Synced old p.0 tt p.2),
    )

-- ---- one more transaction

-- the transaction can be written, and fits the text after these
pub record IsNext (text : List (List ℕ)) (ts : List (List Primitive)) (batch : List Primitive) : Type 0 where
  pub writable : AllByRecursion IsWritable batch
  pub fit : FitOneByOne batch (after_all (joined ts) text)

-- with it all can be written, and fit the text
next_writable : (text : List (List ℕ)) (ts : List (List Primitive)) (batch : List Primitive) → AllByRecursion IsWritable (joined ts)
    → IsNext text ts batch → AllByRecursion IsWritable (joined (ts ++ batch ∷ []))
next_writable text ts batch w next =
    subst (AllByRecursion IsWritable) (sym (joined-push ts batch)) (writable-join (joined ts) batch w next.writable)

next_fit : (text : List (List ℕ)) (ts : List (List Primitive)) (batch : List Primitive) → FitOneByOne (joined ts) text
    → IsNext text ts batch → FitOneByOne (joined (ts ++ batch ∷ [])) text
next_fit text ts batch f next =
    subst (λ (ps : List Primitive). FitOneByOne ps text) (sym (joined-push ts batch)) (fit-join (joined ts) batch text f next.fit)

-- the swap with a front of its bytes is a front of what is written with it
next_front : (swap : SwapView) (text : List (List ℕ)) (ts : List (List Primitive)) (batch : List Primitive) (old moment : Moment) (n : ℕ)
    → Guards swap text ts old → moment.swap ≡ old.swap ++ take n (piece swap.count swap.base batch)
    → written swap.base (ts ++ batch ∷ []) ≡ moment.swap ++ drop n (piece swap.count swap.base batch)
next_front swap text ts batch old moment n g at =
    let bytes = piece swap.count swap.base batch in
    written-push swap.count swap.base ts batch g.counted
    ∙ ap (λ (l : List ℕ). l ++ bytes) (sym g.bytes)
    ∙ ap (λ (l : List ℕ). old.swap ++ l) (sym (take-append-drop n bytes))
    ∙ sym (append_assoc old.swap (take n bytes) (drop n bytes))
    ∙ ap (λ (l : List ℕ). l ++ drop n bytes) (sym at)

next_images : (swap : SwapView) (text : List (List ℕ)) (ts : List (List Primitive)) (batch : List Primitive) (old : Moment)
    → Guards swap text ts old → IsNext text ts batch
    → (moment : Moment) → HasPrefix (piece swap.count swap.base batch) old moment → ImagesRecover text (ts ++ batch ∷ []) moment
next_images swap text ts batch old g next moment p =
    images_recover text (ts ++ batch ∷ []) moment (drop p.2.0 (piece swap.count swap.base batch))
    (subst (λ (l : List ℕ). IsFileOf l text) (sym p.0) g.file)
    (next_writable text ts batch g.writable next) (next_fit text ts batch g.fit next)
    (ap (λ (d : List ℕ). written d (ts ++ batch ∷ [])) (ap digest_of p.0 ∙ g.base_is) ∙ next_front swap text ts batch old moment p.2.0 g p.2.1)

pub finish_images : {T : Type 0} (r : Result T DiskFail) (swap : SwapView) (text : List (List ℕ)) (ts : List (List Primitive)) (batch : List Primitive)
    (x y : Option (List Moment)) → swap.state ≡ Guarded → Stands swap text ts x → IsNext text ts batch
    → AddsMoments (AddedBy r (Appending (piece swap.count swap.base batch)) (Appended (piece swap.count swap.base batch))) x y
    → AddsMoments (λ _ added. AllByRecursion (ImagesRecover text (ts ++ batch ∷ [])) added) x y
finish_images r swap text ts batch None y e h next p = absurd h
finish_images r swap text ts batch (Some b) None e h next p = absurd p
finish_images r swap text ts batch (Some b) (Some c) e h next p =
    let old = latest b in
    let bytes = piece swap.count swap.base batch in (
      p.0,
      p.1,
      All-weaker (HasPrefix bytes old) (ImagesRecover text (ts ++ batch ∷ []))
          (next_images swap text ts batch old (guards swap text ts old e h) next) p.0
          (AddedBy-each r (Appending bytes) (Appended bytes) old p.0 tt p.2),
    )

last_prefix : {T : Type 0} (r : Result T DiskFail) (bytes : List ℕ) (old : Moment) (added : List Moment)
    → AddedBy r (Appending bytes) (Appended bytes) old added → HasPrefix bytes old (latest_from old added)
last_prefix r bytes old added by =
    latest_from-all (HasPrefix bytes old) old added (refl, refl, (0, sym (append-nil old.swap)))
    (AddedBy-each r (Appending bytes) (Appended bytes) old added tt by)

-- the count of one more transaction
count-more : (count few many most : ℕ) → count ≡ min few most → many ≡ few + 1 → min (count + 1) most ≡ min many most
count-more count few many most e more = omega (arith, e, more)

finish_guards : {T : Type 0} (v : T) (swap : SwapView) (text : List (List ℕ)) (ts : List (List Primitive)) (batch : List Primitive) (b c : List Moment)
    → swap.state ≡ Guarded → Stands swap text ts (Some b) → IsNext text ts batch
    → AddsMoments (AddedBy (Ok v) (Appending (piece swap.count swap.base batch)) (Appended (piece swap.count swap.base batch))) (Some b) (Some c)
    → Guards (record swap { count = raised swap.count }) text (ts ++ batch ∷ []) (latest c)
finish_guards {T} v swap text ts batch b c e h next p =
    let old = latest b in
    let g = guards swap text ts old e h in
    let bytes = piece swap.count swap.base batch in
    let ok : Result T DiskFail = Ok v in
    let last = latest_from old p.0 in
    let kept = last_prefix ok bytes old p.0 p.2 in
    let whole : last.swap ≡ written swap.base (ts ++ batch ∷ []) =
    p.2.2 ∙ ap (λ (l : List ℕ). l ++ bytes) g.bytes ∙ sym (written-push swap.count swap.base ts batch g.counted) in
    subst (Guards (record swap { count = raised swap.count }) text (ts ++ batch ∷ [])) (sym (latest-is b c p.0 p.1))
    (record {
      file = subst (λ (l : List ℕ). IsFileOf l text) (sym kept.0) g.file;
      base_is = ap digest_of kept.0 ∙ g.base_is;
      bytes = whole;
      counted = count-more swap.count (length ts) (length (ts ++ batch ∷ [])) last_count g.counted (length-append ts (batch ∷ []));
      writable = next_writable text ts batch g.writable next;
      fit = next_fit text ts batch g.fit next;
    })

pub finish_ok : {T : Type 0} (v : T) (swap : SwapView) (text : List (List ℕ)) (ts : List (List Primitive)) (batch : List Primitive)
    (x y : Option (List Moment)) → swap.state ≡ Guarded → Stands swap text ts x → IsNext text ts batch
    → AddsMoments (AddedBy (Ok v) (Appending (piece swap.count swap.base batch)) (Appended (piece swap.count swap.base batch))) x y
    → Stands (record swap { count = raised swap.count }) text (ts ++ batch ∷ []) y
finish_ok v swap text ts batch None y e h next p = absurd h
finish_ok v swap text ts batch (Some b) None e h next p = absurd p
finish_ok v swap text ts batch (Some b) (Some c) e h next p =
    stands (record swap { count = raised swap.count }) text (ts ++ batch ∷ []) (latest c) e (finish_guards v swap text ts batch b c e h next p)

pub finish_answers : {T : Type 0} (v : T) (swap : SwapView) (text : List (List ℕ)) (ts : List (List Primitive)) (batch : List Primitive)
    (x y : Option (List Moment)) → swap.state ≡ Guarded → Stands swap text ts x → IsNext text ts batch
    → AddsMoments (AddedBy (Ok v) (Appending (piece swap.count swap.base batch)) (Appended (piece swap.count swap.base batch))) x y
    → IfSome y (λ moments. Answers (latest moments).saved (latest moments).swap (clean (length ts + 1) (after_all (joined (ts ++ batch ∷ [])) text)))
finish_answers v swap text ts batch None y e h next p = absurd h
finish_answers v swap text ts batch (Some b) None e h next p = absurd p
finish_answers v swap text ts batch (Some b) (Some c) e h next p =
    let us = ts ++ batch ∷ [] in
    let g = finish_guards v swap text ts batch b c e h next p in
    let last = latest c in
    let long : length us ≡ length ts + 1 = length-append ts (batch ∷ []) in
    subst (λ (n : ℕ). Answers last.saved last.swap (clean n (after_all (joined us) text))) long
    (written_answers text last.saved last.swap us g.file g.writable g.fit (omega (arith, long))
    (g.bytes ∙ ap (λ (d : List ℕ). written d us) (sym g.base_is)))

pub finish_failed : {T : Type 0} (r : Result T DiskFail) (swap : SwapView) (text : List (List ℕ)) (ts us : List (List Primitive)) (batch : List Primitive)
    (x y : Option (List Moment)) → swap.state ≡ Guarded → Stands swap text ts x
    → AddsMoments (AddedBy r (Appending (piece swap.count swap.base batch)) (Appended (piece swap.count swap.base batch))) x y
    → Stands (lost swap) text us y
finish_failed r swap text ts us batch None y e h p = absurd h
finish_failed r swap text ts us batch (Some b) None e h p = absurd p
finish_failed r swap text ts us batch (Some b) (Some c) e h p =
    let old = latest b in
    let bytes = piece swap.count swap.base batch in
    let kept = last_prefix r bytes old p.0 p.2 in
    subst (IsFront swap.base) (sym (latest-is b c p.0 p.1))
    (record {
      ts = ts ++ batch ∷ [];
      rest = drop kept.2.0 bytes;
      bytes = next_front swap text ts batch old (latest_from old p.0) kept.2.0 (guards swap text ts old e h) kept.2.1;
    })

-- ---- by the transaction and the result

-- a state that was compared with the lost one
pub guarded-is : (s : SwapState) → false ≡ sameb the_type s Lost → s ≡ Guarded
guarded-is Guarded e = refl
guarded-is Lost e = absurd (cc)

pub fit_next : (s : SwapState) (text : List (List ℕ)) (ts : List (List Primitive)) (batch : List Primitive) → s ≡ Guarded
    → AllByRecursion IsWritable batch → FitAfter s batch ts text → IsNext text ts batch
fit_next s text ts batch e w f = record { writable = w; fit = subst (λ s. FitAfter s batch ts text) e f }

pub finished-ok : (batch : List Primitive) (ts : List (List Primitive)) → batch ≢ [] → finished batch (Ok true) ts ≡ ts ++ batch ∷ []
finished-ok [] ts some = absurd (some refl)
finished-ok (p ∷ batch) ts some = refl

-- What is known where an append was made: the swap is guarded, and the bytes are those of the
-- transaction, which can be written
pub record Made (now swap : SwapView) (batch : List Primitive) (bytes : List ℕ) : Type 0 where
  pub view_is : swap ≡ now
  pub other : false ≡ sameb the_type swap.state Lost
  pub bytes_are : bytes ≡ piece swap.count swap.base batch
  pub writable : AllByRecursion IsWritable batch

made_state : (now swap : SwapView) (batch : List Primitive) (bytes : List ℕ) → Made now swap batch bytes → swap.state ≡ Guarded
made_state now swap batch bytes m = guarded-is swap.state m.other

made_stands : (now swap : SwapView) (batch : List Primitive) (bytes : List ℕ) (text : List (List ℕ)) (ts : List (List Primitive)) (x : Option (List Moment))
    → Made now swap batch bytes → Stands now text ts x → Stands swap text ts x
made_stands now swap batch bytes text ts x m h = subst (λ (s : SwapView). Stands s text ts x) (sym m.view_is) h

made_next : (now swap : SwapView) (batch : List Primitive) (bytes : List ℕ) (text : List (List ℕ)) (ts : List (List Primitive))
    → Made now swap batch bytes → FitAfter now.state batch ts text → IsNext text ts batch
made_next now swap batch bytes text ts m f =
    fit_next now.state text ts batch (ap (λ (s : SwapView). s.state) (sym m.view_is) ∙ made_state now swap batch bytes m) m.writable f

made_moments : {T : Type 0} (r : Result T DiskFail) (now swap : SwapView) (batch : List Primitive) (bytes : List ℕ) (x y : Option (List Moment))
    → Made now swap batch bytes → AddsMoments (AddedBy r (Appending bytes) (Appended bytes)) x y
    → AddsMoments (AddedBy r (Appending (piece swap.count swap.base batch)) (Appended (piece swap.count swap.base batch))) x y
made_moments r now swap batch bytes x y m p =
    subst (λ (l : List ℕ). AddsMoments (AddedBy r (Appending l) (Appended l)) x y) m.bytes_are p

pub made-images : {T : Type 0} (r : Result T DiskFail) (now swap : SwapView) (batch : List Primitive) (bytes : List ℕ) (x y : Option (List Moment))
    → Made now swap batch bytes → AddsMoments (AddedBy r (Appending bytes) (Appended bytes)) x y
    → (text : List (List ℕ)) (ts : List (List Primitive)) → Stands now text ts x → FitAfter now.state batch ts text
    → AddsMoments (λ _ added. AllByRecursion (ImagesRecover text (ts ++ batch ∷ [])) added) x y
made-images r now swap batch bytes x y m p text ts h f =
    finish_images r swap text ts batch x y (made_state now swap batch bytes m) (made_stands now swap batch bytes text ts x m h)
    (made_next now swap batch bytes text ts m f) (made_moments r now swap batch bytes x y m p)

pub made-ok : {T : Type 0} (v : T) (now swap next : SwapView) (batch : List Primitive) (bytes : List ℕ) (x y : Option (List Moment))
    → Made now swap batch bytes → AddsMoments (AddedBy (Ok v) (Appending bytes) (Appended bytes)) x y
    → batch ≢ [] → next ≡ record swap { count = raised swap.count }
    → (text : List (List ℕ)) (ts : List (List Primitive)) → Stands now text ts x → FitAfter now.state batch ts text
    → Stands next text (finished batch (Ok true) ts) y
made-ok {T} v now swap next batch bytes x y m p some is text ts h f =
    let ok : Result T DiskFail = Ok v in
    subst (λ (us : List (List Primitive)). Stands next text us y) (sym (finished-ok batch ts some))
    (subst (λ (s : SwapView). Stands s text (ts ++ batch ∷ []) y) (sym is)
    (finish_ok v swap text ts batch x y (made_state now swap batch bytes m) (made_stands now swap batch bytes text ts x m h)
    (made_next now swap batch bytes text ts m f) (made_moments ok now swap batch bytes x y m p)))

pub made-answers : {T : Type 0} (v : T) (now swap : SwapView) (batch : List Primitive) (bytes : List ℕ) (x y : Option (List Moment))
    → Made now swap batch bytes → AddsMoments (AddedBy (Ok v) (Appending bytes) (Appended bytes)) x y
    → (text : List (List ℕ)) (ts : List (List Primitive)) → Stands now text ts x → FitAfter now.state batch ts text
    → IfSome y (λ moments. Answers (latest moments).saved (latest moments).swap (clean (length ts + 1) (after_all (joined (ts ++ batch ∷ [])) text)))
made-answers {T} v now swap batch bytes x y m p text ts h f =
    let ok : Result T DiskFail = Ok v in
    finish_answers v swap text ts batch x y (made_state now swap batch bytes m) (made_stands now swap batch bytes text ts x m h)
    (made_next now swap batch bytes text ts m f) (made_moments ok now swap batch bytes x y m p)

pub made-failed : {T : Type 0} (r : Result T DiskFail) (now swap : SwapView) (batch : List Primitive) (bytes : List ℕ) (x y : Option (List Moment))
    → Made now swap batch bytes → AddsMoments (AddedBy r (Appending bytes) (Appended bytes)) x y
    → (text : List (List ℕ)) (ts us : List (List Primitive)) → Stands now text ts x → Stands (lost swap) text us y
made-failed r now swap batch bytes x y m p text ts us h =
    finish_failed r swap text ts us batch x y (made_state now swap batch bytes m) (made_stands now swap batch bytes text ts x m h)
    (made_moments r now swap batch bytes x y m p)

pub not_both : (b : Bool) → b ≡ true → b ≡ false → ⊥
not_both b t f = cc

-- ---- a save

front_of : (s : SwapState) (swap : SwapView) (text : List (List ℕ)) (ts : List (List Primitive)) (moment : Moment) → StandsIn s swap text ts moment → IsFront swap.base moment
front_of Guarded swap text ts moment g = Guards-lost swap text ts moment g
front_of Lost swap text ts moment f = f

front_stays : (base : List ℕ) (old moment : Moment) → IsFront base old → KeepsSwap old moment → IsFront base moment
front_stays base old moment f (inl same) = record { ts = f.ts; rest = f.rest; bytes = f.bytes ∙ ap (λ (l : List ℕ). l ++ f.rest) (sym same) }
front_stays base old moment f (inr none) = record { ts = []; rest = []; bytes = sym (append-nil moment.swap ∙ none) }

save_lost : (swap : SwapView) (text : List (List ℕ)) (ts : List (List Primitive)) (x y : Option (List Moment))
    → AddsMoments (λ old added. KeepsSwap old (latest_from old added)) x y → Stands swap text ts x → Stands (lost swap) text ts y
save_lost swap text ts None y p h = absurd h
save_lost swap text ts (Some b) None p h = absurd p
save_lost swap text ts (Some b) (Some c) p h =
    subst (IsFront swap.base) (sym (latest-is b c p.0 p.1))
    (front_stays swap.base (latest b) (latest_from (latest b) p.0) (front_of swap.state swap text ts (latest b) h) p.2)

pub save-err : (R : Type 0) (old new : SwapView) (text : List (List ℕ)) (ts : List (List Primitive)) (x y : Option (List Moment))
    → AddsMoments (λ old added. KeepsSwap old (latest_from old added)) x y
    → (new ≡ lost old) ⊎ (R × (new ≡ old) × AddsMoments (λ _ added. added ≡ []) x y) → Stands old text ts x → Stands new text ts y
save-err R old new text ts x y p (inl e) h = subst (λ (s : SwapView). Stands s text ts y) (sym e) (save_lost old text ts x y p h)
save-err R old new text ts x y p (inr e) h = subst (λ (s : SwapView). Stands s text ts y) (sym e.1) (Stands-none old text ts x y e.2 h)

pub save-ok : (base bytes : List ℕ) (old : SwapView) (text after : List (List ℕ)) (ts : List (List Primitive)) (x y : Option (List Moment))
    → base ≡ digest_of bytes → AddsMoments (λ old added. IsAlone bytes (latest_from old added)) x y → IsFileOf bytes after
    → Stands old text ts x → Stands (record { base = base; state = Guarded; count = 0 }) after [] y
save-ok base bytes old text after ts None y d p file h = absurd h
save-ok base bytes old text after ts (Some b) None d p file h = absurd p
save-ok base bytes old text after ts (Some b) (Some c) d p file h =
    subst (Guards (record { base = base; state = Guarded; count = 0 }) after []) (sym (latest-is b c p.0 p.1))
    (record {
      file = subst (λ (l : List ℕ). IsFileOf l after) (sym p.2.0) file;
      base_is = ap digest_of p.2.0 ∙ sym d;
      bytes = p.2.1;
      counted = omega arith;
      writable = tt;
      fit = tt;
    })
