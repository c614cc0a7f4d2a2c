-- A replay goes on with each record.
use Rattle.std.proofs.Common.{◌≡◌, ◌≢◌, ◌⊎◌, inl, inr, ℕ, zero, suc, ◌+◌, ◌-◌, ◌<◌, ◌≤◌, true, false, List, [], ◌∷◌, ◌++◌, length, Option, Some, None, subst, refl, sym, ap, ◌∙◌, append_assoc, append-nil, arith}
use Rattle.std.specs.List.{flat_map}
use Rattle.std.specs.Option.{option_map}
use Rattle.std.specs.Prelude.{Result, Ok, Err, is_err}
use Rattle.std.specs.Result.{result_err}
use Rattle.std.proofs.lemmas.Grind.{flat_map-append}
use Rattle.std.proofs.lemmas.List.{length-append}
use Rattle.kte_text.specs.Texts.{IsText}
use Rattle.kte_text.specs.Primitives.{HasLine, HasEnd, after, after_all, is_empty, misfit}
use Rattle.kte_text.specs.declared.primitive.Primitive.{Primitive}
use Rattle.kte_text.specs.declared.primitive.Primitive.TheVariants.{Wrap, Unwrap, Insert, Remove}
use Rattle.kte_text.proofs.PrimitiveLemmas.{IsText-after, after_empty}
use Rattle.kte_record.specs.Grammar.{Item, starts, finishes, spelling, IsRecord}
use Rattle.kte_record.specs.Transactions.{record_of, IsWritable, records, transaction, joined, FitOneByOne}
use Rattle.kte_record.specs.Recovery.{opening, read_primitives, Reads, Fits, MayCome}
use Rattle.kte_record.proofs.TransactionLemmas.{AreWritable, primitive_is, no_start, no_finish, writable-join, fit-join, after_all-join}
use Rattle.kte_recover.specs.declared.replay.Replay.{Replay}
use Rattle.kte_recover.specs.Inverse.{inverse, undone, CanUndo}
use Rattle.kte_recover.specs.Replay.{is_begun, Stands, Took, MayNotCome, Applied}
use Rattle.kte_recover.proofs.InverseLemmas.{inverse_fits, inverse_after, inverse_changes}

-- one more to take back, which goes first
pub undone-last : (ps : List Primitive) (q : Primitive) (text : List (List ℕ)) → undone (ps ++ q ∷ []) text ≡ undone ps (after q text)
undone-last [] q text = refl
undone-last (p ∷ ps) q text = ap (after p) (undone-last ps q text)

pub CanUndo-last : (ps : List Primitive) (q : Primitive) (text : List (List ℕ)) → CanUndo ps (after q text) → misfit q text ≡ None → is_empty q ≡ false
    → CanUndo (ps ++ q ∷ []) text
CanUndo-last [] q text can fits changes = (tt, fits, changes)
CanUndo-last (p ∷ ps) q text can fits changes =
    (CanUndo-last ps q text can.0 fits changes, ap (misfit p) (undone-last ps q text) ∙ can.1, can.2)

pub last-CanUndo : (ps : List Primitive) (q : Primitive) (text : List (List ℕ)) → CanUndo (ps ++ q ∷ []) text
    → CanUndo ps (after q text) × (misfit q text ≡ None) × (is_empty q ≡ false)
last-CanUndo [] q text can = (tt, can.1, can.2)
last-CanUndo (p ∷ ps) q text can =
    let l = last-CanUndo ps q text can.0 in
    ((l.0, ap (misfit p) (sym (undone-last ps q text)) ∙ can.1, can.2), l.1, l.2)

joined-last : (done : List (List Primitive)) (t : List Primitive) → joined (done ++ t ∷ []) ≡ joined done ++ t
joined-last done t =
    flat_map-append (λ (t : List Primitive). t) done (t ∷ []) ∙ ap (λ (l : List Primitive). joined done ++ l) (append-nil t)

records-last : (ps : List Primitive) (p : Primitive) → records (ps ++ p ∷ []) ≡ records ps ++ spelling (record_of p)
records-last ps p =
    flat_map-append (λ (p : Primitive). spelling (record_of p)) ps (p ∷ [])
    ∙ ap (λ (l : List ℕ). records ps ++ l) (append-nil (spelling (record_of p)))

-- a start was read
start_reads : (text : List (List ℕ)) (body : List ℕ) (done : List (List Primitive)) (begun : Option (List Primitive)) (more : List ℕ)
    → is_begun begun ≡ false → Reads text body done begun (spelling starts ++ more) → Reads text body done (Some []) more
start_reads text body done None more e r = record { parts = r.parts; writable = r.writable; fit = r.fit }
start_reads text body done (Some ps) more e r = absurd (cc)

none_begun : (done : List (List Primitive)) (begun : Option (List Primitive)) → is_begun begun ≡ false → read_primitives done begun ≡ read_primitives done (Some [])
none_begun done None e = refl
none_begun done (Some ps) e = absurd (cc)

pub took_start : (old new : Replay) → old.is_open ≡ false → new.is_open ≡ true → new.buffer ≡ old.buffer → new.undo ≡ old.undo → new.done ≡ old.done
    → Took starts old new
took_start old new shut opened buffer undo count text body more s = record {
  done = s.done;
  begun = Some [];
  reads = start_reads text body s.done s.begun more (sym s.is_open ∙ shut) s.reads;
  text_is = ap (λ b. b.text) buffer ∙ s.text_is ∙ ap (λ (l : List Primitive). after_all l text) (none_begun s.done s.begun (sym s.is_open ∙ shut));
  can_undo = subst (λ (l : List Primitive). CanUndo l new.buffer.text) (ap (λ u. u.items) (sym undo)) (subst (λ b. CanUndo old.undo.items b.text) (sym buffer) s.can_undo);
  undone_is = ap (λ u. undone u.items new.buffer.text) undo ∙ ap (λ b. undone old.undo.items b.text) buffer ∙ s.undone_is;
  is_open = opened;
  count = count ∙ s.count;
}

-- an end was read
finish_reads : (text : List (List ℕ)) (body : List ℕ) (done : List (List Primitive)) (ps : List Primitive) (more : List ℕ)
    → Reads text body done (Some ps) (spelling finishes ++ more) → Reads text body (done ++ ps ∷ []) None more
finish_reads text body done ps more r =
    let same : read_primitives done (Some ps) ≡ read_primitives (done ++ ps ∷ []) None =
    sym (append-nil (joined (done ++ ps ∷ [])) ∙ joined-last done ps) in
    let bytes : flat_map transaction (done ++ ps ∷ []) ≡ flat_map transaction done ++ transaction ps =
    flat_map-append transaction done (ps ∷ []) ∙ ap (λ (l : List ℕ). flat_map transaction done ++ l) (append-nil (transaction ps)) in
    record {
      parts = r.parts
          ∙ ap (λ (l : List ℕ). flat_map transaction done ++ l) (sym (append_assoc (opening (Some ps)) (spelling finishes) more))
          ∙ sym (append_assoc (flat_map transaction done) (transaction ps) more)
          ∙ ap (λ (l : List ℕ). l ++ more) (sym bytes);
      writable = subst AreWritable same r.writable;
      fit = subst (λ (l : List Primitive). FitOneByOne l text) same r.fit;
    }

finish_stands : (old new : Replay) (text : List (List ℕ)) (body more : List ℕ) (begun : Option (List Primitive)) (s : Stands old text body (spelling finishes ++ more))
    → s.begun ≡ begun → is_begun begun ≡ true → new.is_open ≡ false → new.buffer ≡ old.buffer → new.undo.items ≡ [] → new.done ≡ old.done + 1
    → Stands new text body more
finish_stands old new text body more None s is e shut buffer undo count = absurd (cc)
finish_stands old new text body more (Some ps) s is e shut buffer undo count =
    let reads = subst (λ (b : Option (List Primitive)). Reads text body s.done b (spelling finishes ++ more)) is s.reads in
    let text_is : new.buffer.text ≡ after_all (joined (s.done ++ ps ∷ [])) text =
    ap (λ b. b.text) buffer ∙ s.text_is ∙ ap (λ (b : Option (List Primitive)). after_all (read_primitives s.done b) text) is
    ∙ ap (λ (l : List Primitive). after_all l text) (sym (joined-last s.done ps)) in
    record {
      done = s.done ++ ps ∷ [];
      begun = None;
      reads = finish_reads text body s.done ps more reads;
      text_is = text_is ∙ ap (λ (l : List Primitive). after_all l text) (sym (append-nil (joined (s.done ++ ps ∷ []))));
      can_undo = subst (λ (l : List Primitive). CanUndo l new.buffer.text) (sym undo) tt;
      undone_is = ap (λ (l : List Primitive). undone l new.buffer.text) undo ∙ text_is;
      is_open = shut;
      count = omega (arith, count, s.count, length-append s.done (ps ∷ []));
    }

pub took_finish : (old new : Replay) → old.is_open ≡ true → new.is_open ≡ false → new.buffer ≡ old.buffer → new.undo.items ≡ [] → new.done ≡ old.done + 1
    → Took finishes old new
took_finish old new opened shut buffer undo count text body more s =
    finish_stands old new text body more s.begun s refl (sym s.is_open ∙ opened) shut buffer undo count

-- a primitive was read
primitive_reads : (text : List (List ℕ)) (body : List ℕ) (done : List (List Primitive)) (ps : List Primitive) (p : Primitive) (more : List ℕ) (now : List (List ℕ))
    → IsWritable p → misfit p now ≡ None → now ≡ after_all (read_primitives done (Some ps)) text
    → Reads text body done (Some ps) (spelling (record_of p) ++ more) → Reads text body done (Some (ps ++ p ∷ [])) more
primitive_reads text body done ps p more now w fits is r =
    let one = spelling (record_of p) in
    let same : (joined done ++ ps) ++ p ∷ [] ≡ joined done ++ (ps ++ p ∷ []) = append_assoc (joined done) ps (p ∷ []) in
    record {
      parts = r.parts
          ∙ ap (λ (l : List ℕ). flat_map transaction done ++ l) (sym (append_assoc (opening (Some ps)) one more))
          ∙ ap (λ (l : List ℕ). flat_map transaction done ++ ((0x53 ∷ l) ++ more)) (sym (records-last ps p));
      writable = subst AreWritable same (writable-join (joined done ++ ps) (p ∷ []) r.writable (w, tt));
      fit = subst (λ (l : List Primitive). FitOneByOne l text) same
          (fit-join (joined done ++ ps) (p ∷ []) text r.fit (subst (λ (t : List (List ℕ)). misfit p t ≡ None) is fits, tt));
    }

-- the text is changed by the primitive, and what is kept leads back as before
pub record Edited (p : Primitive) (old new : Replay) : Type 0 where
  pub text : new.buffer.text ≡ after p old.buffer.text
  pub can_undo : CanUndo old.undo.items old.buffer.text → CanUndo new.undo.items new.buffer.text
  pub undone_is : undone new.undo.items new.buffer.text ≡ undone old.undo.items old.buffer.text
  pub is_open : new.is_open ≡ old.is_open
  pub count : new.done ≡ old.done

edit_stands : (old new : Replay) (p : Primitive) (text : List (List ℕ)) (body more : List ℕ) (begun : Option (List Primitive))
    (s : Stands old text body (spelling (record_of p) ++ more)) → s.begun ≡ begun → is_begun begun ≡ true
    → IsWritable p → misfit p old.buffer.text ≡ None → Edited p old new → Stands new text body more
edit_stands old new p text body more None s is e w fits ed = absurd (cc)
edit_stands old new p text body more (Some ps) s is e w fits ed =
    let reads = subst (λ (b : Option (List Primitive)). Reads text body s.done b (spelling (record_of p) ++ more)) is s.reads in
    let was : old.buffer.text ≡ after_all (read_primitives s.done (Some ps)) text =
    s.text_is ∙ ap (λ (b : Option (List Primitive)). after_all (read_primitives s.done b) text) is in
    record {
      done = s.done;
      begun = Some (ps ++ p ∷ []);
      reads = primitive_reads text body s.done ps p more old.buffer.text w fits was reads;
      text_is = ed.text ∙ ap (after p) was ∙ sym (after_all-join (joined s.done ++ ps) (p ∷ []) text)
          ∙ ap (λ (l : List Primitive). after_all l text) (append_assoc (joined s.done) ps (p ∷ []));
      can_undo = ed.can_undo s.can_undo;
      undone_is = ed.undone_is ∙ s.undone_is;
      is_open = ed.is_open ∙ s.is_open ∙ ap is_begun is;
      count = ed.count ∙ s.count;
    }

pub took_edit : (old new : Replay) (item : Item) (p : Primitive) → old.is_open ≡ true → item ≡ record_of p → IsWritable p
    → misfit p old.buffer.text ≡ None → Edited p old new → Took item old new
took_edit old new item p opened is w fits ed text body more s =
    let s₂ = subst (λ (i : Item). Stands old text body (spelling i ++ more)) is s in
    edit_stands old new p text body more s₂.begun s₂ refl (sym s₂.is_open ∙ opened) w fits ed

-- a primitive that was applied
pub applied_edit : (p : Primitive) (old new : Replay) → HasLine p → misfit p old.buffer.text ≡ None → is_empty p ≡ false → new.is_open ≡ old.is_open → new.done ≡ old.done
    → Applied p old new → IsText old.buffer.text → Edited p old new
applied_edit p old new has fits changes opened count a whole =
    let t = old.buffer.text in
    let q = inverse p t in
    let back : after q new.buffer.text ≡ t = ap (after q) a.text ∙ inverse_after p t fits in
    record {
      text = a.text;
      can_undo = λ can.
          subst (λ (l : List Primitive). CanUndo l new.buffer.text) (sym a.undo)
          (CanUndo-last old.undo.items q new.buffer.text (subst (CanUndo old.undo.items) (sym back) can)
          (ap (misfit q) a.text ∙ inverse_fits p t whole has fits) (inverse_changes p t fits changes));
      undone_is = ap (λ (l : List Primitive). undone l new.buffer.text) a.undo
          ∙ undone-last old.undo.items q new.buffer.text ∙ ap (undone old.undo.items) back;
      is_open = opened;
      count = count;
    }

-- a primitive that changes nothing
pub empty_edit : (p : Primitive) (old : Replay) → is_empty p ≡ true → Edited p old old
empty_edit p old empty = record {
  text = sym (after_empty p old.buffer.text empty);
  can_undo = λ can. can;
  undone_is = refl;
  is_open = refl;
  count = refl;
}

-- what may come, by whether a transaction is begun
begun_may : (begun : Option (List Primitive)) (item : Item) (text : List (List ℕ)) → is_begun begun ≡ true → MayCome begun item text
    → (item ≡ finishes) ⊎ Fits item text
begun_may None item text e may = absurd (cc)
begun_may (Some ps) item text e may = may

shut_may : (begun : Option (List Primitive)) (item : Item) (text : List (List ℕ)) → is_begun begun ≡ false → MayCome begun item text → item ≡ starts
shut_may None item text e may = may
shut_may (Some ps) item text e may = absurd (cc)

pub no_second_start : (old : Replay) → old.is_open ≡ true → MayNotCome starts old
no_second_start old opened text body rest s may =
    elim (begun_may s.begun starts old.buffer.text (sym s.is_open ∙ opened) may) [
      | inl e ↦ absurd (cc)
      | inr f ↦ no_start f.primitive f.spelled
    ]

pub no_start_missing : (old : Replay) (item : Item) → old.is_open ≡ false → item ≢ starts → MayNotCome item old
no_start_missing old item shut other text body rest s may =
    other (shut_may s.begun item old.buffer.text (sym s.is_open ∙ shut) may)

pub no_primitive : (old : Replay) (item : Item) → old.is_open ≡ true → item ≢ finishes → ((p : Primitive) → IsWritable p → item ≡ record_of p → misfit p old.buffer.text ≡ None → ⊥)
    → MayNotCome item old
no_primitive old item opened other none text body rest s may =
    elim (begun_may s.begun item old.buffer.text (sym s.is_open ∙ opened) may) [
      | inl e ↦ other e
      | inr f ↦ none f.primitive f.writable f.spelled f.fits
    ]

-- the end of a removal that is a record
pub HasEnd-record : (p : Primitive) → IsRecord (record_of p) → HasEnd p
HasEnd-record (Wrap line column) h = tt
HasEnd-record (Unwrap line) h = tt
HasEnd-record (Insert line column text) h = tt
HasEnd-record (Remove line column units) h = omega (arith, h.2)

pub is_writable : (p : Primitive) (item : Item) → HasLine p → IsRecord item → item ≡ record_of p → IsWritable p
is_writable p item has h e = record { line = has; is_record = subst IsRecord e h }

-- the only primitive of the record does not fit
pub unfit : (p : Primitive) (item : Item) (text : List (List ℕ)) → IsWritable p → item ≡ record_of p → misfit p text ≢ None
    → (q : Primitive) → IsWritable q → item ≡ record_of q → misfit q text ≡ None → ⊥
unfit p item text w e other q v f fits =
    let same = primitive_is p q w v (sym e ∙ f) in other (ap (λ (x : Primitive). misfit x text) same ∙ fits)

-- no cursor is carried to one
pub still_none : {A : Type 0} (f : A → A) (o : Option A) → o ≡ None → option_map f o ≡ None
still_none f o e = ap (option_map f) e

pub fits_ok : {A E : Type 0} (r : Result A E) → is_err r ≡ false → result_err r ≡ None
fits_ok (Ok a) e = refl
fits_ok (Err x) e = absurd (cc)

pub fits_err : {A E : Type 0} (r : Result A E) → is_err r ≡ true → result_err r ≢ None
fits_err (Ok a) e n = absurd (cc)
fits_err (Err x) e n = absurd (cc)
