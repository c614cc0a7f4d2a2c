-- What a saved file and its swap file recover to, as a status tells it.
use Rattle.std.proofs.Common.{◌≡◌, ◌≢◌, ◌⊎◌, ◌∙◌, ℕ, ◌<◌, Bool, true, false, List, [], ◌∷◌, length, Option, Some, None, Result, Ok, Err, IfSome, IfOk, IfErr, IsErrAnd, Contains, inl, inr, refl, sym, ap, subst, arith}
use Rattle.std.specs.Io.KnownBytes.{Appends}
use Rattle.kte_causes.specs.Contents.{AppendsPrefix}
use Rattle.kte_causes.specs.DiskFaults.{AllStay}
use Rattle.kte_causes.specs.Faults.{Rose}
use Rattle.kte_causes.specs.Moments.{Moment, AddsMoments, Staying, saved_now, swap_now}
use Rattle.kte_causes.proofs.CallerLemmas.{swap_now-stays}
use Rattle.kte_causes.specs.declared.causes.DiskCall.{DiskCall}
use Rattle.kte_causes.specs.declared.causes.DiskCall.TheVariants.{SwapAt}
use Rattle.kte_causes.specs.declared.causes.SinkFail.{SinkFail}
use Rattle.kte_causes.specs.declared.causes.SinkFail.TheVariants as sink
use Rattle.kte_text.specs.Files.{Refuses}
use Rattle.kte_text.specs.declared.loading.Eol.{Eol}
use Rattle.kte_text.specs.declared.loading.Loaded.{Loaded}
use Rattle.kte_text.specs.declared.loading.LoadFault.{LoadFault}
use Rattle.kte_text.specs.declared.loading.LoadFault.TheVariants as load
use Rattle.kte_record.specs.Recovery.{Answer, Answers, no_swap, refused, damaged}
use Rattle.kte_record.proofs.OneAnswer.{one_answer}
use Rattle.kte_recover.specs.Answers.{IsOfFile, answer_by}
use Rattle.kte_recover.specs.declared.answer.Tail.{Tail}
use Rattle.kte_recover.specs.declared.answer.Tail.TheVariants.{Clean, Torn}
use Rattle.kte_recover.specs.declared.answer.Recovered.{Recovered}
use Rattle.kte_recover.specs.declared.answer.Damage.{Damage}
use Rattle.kte_report.specs.Recovery.{recovered_text, damaged_text}
use Rattle.kte_run.specs.declared.status.Status.{Status}
use Rattle.kte_run.specs.declared.status.Status.TheVariants as status
use Rattle.kte_run.specs.Run.{Outer, DiskRose, FilesStay}
use Rattle.kte_run.specs.Recover.{IfBoth, IsRecovery, Shows, Tells, TellsAnswer, WritesRecovery, WritesRecoveryPrefix, has_text, is_answer, text_for}
use Rattle.kte_run.specs.Statuses.{file_status, is_of_file, is_of_length, is_of_recovery, is_unread, is_unwritten, sink_status}
use Rattle.kte_run.proofs.Files.{later, not_memory}

-- a status that tells the answer of two files tells every answer of theirs: there is one
pub tells_each : (saved swap : List ℕ) (given : Status) → Tells saved swap given → (answer : Answer) → Answers saved swap answer
    → TellsAnswer answer given
tells_each saved swap given tells answer answers =
    subst (λ (a : Answer). TellsAnswer a given) (one_answer saved swap tells.answer answer tells.answers answers) tells.told

-- a recovered text, however its records end
told_by : (tail : Tail) (done : ℕ) (text : List (List ℕ)) → TellsAnswer (answer_by tail done text) status.Ok
told_by Clean done text = refl
told_by Torn done text = refl

text_by : (tail : Tail) (done : ℕ) (text : List (List ℕ)) (loaded : Loaded) → text_for (answer_by tail done text) loaded
    ≡ Some (recovered_text (record { text = text; eol = loaded.eol; bom = loaded.bom; done = done; tail = tail }))
text_by Clean done text loaded = refl
text_by Torn done text loaded = refl

pub shows_found : (saved swap : List ℕ) (found : Recovered) (output : List ℕ)
    → Answers saved swap (answer_by found.tail found.done found.text) → IsOfFile saved found.eol found.bom
    → output ≡ recovered_text found → Shows saved swap status.Ok output
shows_found saved swap found output answers file is = record {
  tells = record {
    answer = answer_by found.tail found.done found.text;
    answers = answers;
    told = told_by found.tail found.done found.text;
  };
  loaded = file.loaded;
  loads = file.loads;
  printed = text_by found.tail found.done found.text file.loaded ∙ ap Some (
      ap (λ (e : Eol). recovered_text (record found { eol = e; bom = file.loaded.bom })) (sym file.eol_is)
      ∙ ap (λ (b : Bool). recovered_text (record found { bom = b })) (sym file.bom_is)
      ∙ sym is);
}

pub shows_damage : (saved swap : List ℕ) (damage : Damage) (output : List ℕ)
    → Answers saved swap (damaged damage.at damage.done damage.text) → IsOfFile saved damage.eol damage.bom
    → output ≡ damaged_text damage → Shows saved swap (status.Damaged damage.at damage.done) output
shows_damage saved swap damage output answers file is = record {
  tells = record { answer = damaged damage.at damage.done damage.text; answers = answers; told = refl };
  loaded = file.loaded;
  loads = file.loads;
  printed = ap Some (
      ap (λ (e : Eol). damaged_text (record { at = damage.at; done = damage.done; text = damage.text; eol = e; bom = file.loaded.bom })) (sym file.eol_is)
      ∙ ap (λ (b : Bool). damaged_text (record { at = damage.at; done = damage.done; text = damage.text; eol = damage.eol; bom = b })) (sym file.bom_is)
      ∙ sym is);
}

-- a saved file that is refused
untexted : (fault : LoadFault) → has_text (file_status fault) ≡ false
untexted load.LongFile = refl
untexted (load.NotUtf8 at) = refl
untexted (load.TooLarge size) = refl
untexted load.NoMemory = refl

unread : (fault : LoadFault) → is_unread (file_status fault) ≡ true
unread load.LongFile = refl
unread (load.NotUtf8 at) = refl
unread (load.TooLarge size) = refl
unread load.NoMemory = refl

pub is_unread-file : (given : Status) (fault : LoadFault) → given ≡ file_status fault → is_unread given ≡ true
is_unread-file given fault is = ap is_unread is ∙ unread fault

pub tells_refused : (saved swap : List ℕ) (given : Status) (fault : LoadFault) → Answers saved swap (refused fault) → given ≡ file_status fault
    → (has_text given ≡ false) × Tells saved swap given
tells_refused saved swap given fault answers is = (
  ap has_text is ∙ untexted fault,
  record { answer = refused fault; answers = answers; told = (not_memory saved fault answers.1, is) },
)

-- ---- where there is no text

-- a result that fails with a status has what that status has
pub if_err : {T : Type 0} (r : Result T Status) (s : Status) (Q : Status → Type 0) → IsErrAnd r (λ e. e ≡ s) → Q s → IfErr r Q
if_err (Ok v) s Q is q = absurd is
if_err (Err e) s Q is q = subst Q (sym is) q

-- an answer without a text, where this holds besides
abbrev pub Untold : Type 0 → Option (List Moment) → Status → Type 0
Untold A moments given = (has_text given ≡ false) × A × IfBoth moments (λ saved swap. Tells saved swap given)

each : (P : List ℕ → List ℕ → Type 0) (o w : Option (List ℕ)) → ((saved swap : List ℕ) → o ≡ Some saved → w ≡ Some swap → P saved swap)
    → IfSome o (λ saved. IfSome w (λ swap. P saved swap))
each P None w f = tt
each P (Some saved) None f = tt
each P (Some saved) (Some swap) f = f saved swap refl refl

-- .. where something else holds of them
both_then : (P Q : List ℕ → List ℕ → Type 0) (o w : Option (List ℕ)) → ((saved swap : List ℕ) → P saved swap → Q saved swap)
    → IfSome o (λ saved. IfSome w (λ swap. P saved swap)) → IfSome o (λ saved. IfSome w (λ swap. Q saved swap))
both_then P Q None w f h = tt
both_then P Q (Some saved) None f h = tt
both_then P Q (Some saved) (Some swap) f h = f saved swap h

at_some : (P : List ℕ → Type 0) (o : Option (List ℕ)) (v : List ℕ) → o ≡ Some v → IfSome o P → P v
at_some P o v is h = subst (λ (x : Option (List ℕ)). IfSome x P) is h

-- the swap file is empty, or its length was not told
pub untold_length : (A : Type 0) (moments : Option (List Moment)) (given : Status) → is_of_length given ≡ true
    → (given ≡ status.NoSwap → A × IfSome (swap_now moments) (λ swap. swap ≡ [])) → is_answer given ≡ true → Untold A moments given
untold_length A moments status.NoSwap of empty is_one =
    let found = empty refl in (
      refl,
      found.0,
      each (λ saved swap. Tells saved swap status.NoSwap) (saved_now moments) (swap_now moments)
          (λ saved swap o w. record { answer = no_swap; answers = at_some (λ s. s ≡ []) (swap_now moments) swap w found.1; told = refl }),
    )
untold_length A moments _ of empty is_one = cc

-- the saved file is refused, or was not read
untold_file : (A : Type 0) (moments : Option (List Moment)) (given : Status) (fault : LoadFault) → given ≡ file_status fault
    → A × IfSome (saved_now moments) (λ file. Refuses file fault) → IfSome (swap_now moments) (λ swap. swap ≢ []) → Untold A moments given
untold_file A moments given fault is denied some = (
  ap has_text is ∙ untexted fault,
  denied.0,
  each (λ saved swap. Tells saved swap given) (saved_now moments) (swap_now moments)
      (λ saved swap o w. (tells_refused saved swap given fault
      (at_some (λ s. s ≢ []) (swap_now moments) swap w some, at_some (λ file. Refuses file fault) (saved_now moments) saved o denied.1) is).1),
)

pub untold_saved : (A : Type 0) (moments : Option (List Moment)) (given : Status) → is_of_file given ≡ true
    → ((fault : LoadFault) → fault ≢ load.NoMemory → given ≡ file_status fault → A × IfSome (saved_now moments) (λ file. Refuses file fault))
    → IfSome (swap_now moments) (λ swap. swap ≢ []) → is_answer given ≡ true → Untold A moments given
untold_saved A moments (status.NotUtf8 at) of denied some is_one =
    untold_file A moments (status.NotUtf8 at) (load.NotUtf8 at) refl (denied (load.NotUtf8 at) (λ e. cc e) refl) some
untold_saved A moments (status.TooLarge None) of denied some is_one =
    untold_file A moments (status.TooLarge None) load.LongFile refl (denied load.LongFile (λ e. cc e) refl) some
untold_saved A moments (status.TooLarge (Some size)) of denied some is_one =
    untold_file A moments (status.TooLarge (Some size)) (load.TooLarge size) refl (denied (load.TooLarge size) (λ e. cc e) refl) some
untold_saved A moments _ of denied some is_one = cc

-- ---- both files were read

-- a list without elements
pub empty_of : (xs : List ℕ) → length xs ≡ 0 → xs ≡ []
empty_of [] none = refl
empty_of (x ∷ xs) none = absurd (omega (arith, none))

-- what holds of the bytes that were read holds of the file
pub of_file : (P : List ℕ → Type 0) (o : Option (List ℕ)) (bytes : List ℕ) → IfSome o (λ file. bytes ≡ file) → P bytes → IfSome o P
of_file P None bytes same h = tt
of_file P (Some file) bytes same h = subst P same h

-- .. and of both files
pub of_both : (P : List ℕ → List ℕ → Type 0) (moments : Option (List Moment)) (saved : List ℕ)
    → IfSome (saved_now moments) (λ file. saved ≡ file) → IfSome (swap_now moments) (P saved) → IfBoth moments P
of_both P moments saved same h = of_file (λ file. IfSome (swap_now moments) (P file)) (saved_now moments) saved same h

-- the swap file has bytes
pub swap_some : (o : Option (List ℕ)) (n : ℕ) → IfSome o (λ s. n ≡ length s) → (n ≡ 0 → ⊥) → IfSome o (λ s. s ≢ [])
swap_some None n long some = tt
swap_some (Some []) n long some = absurd (some long)
swap_some (Some (byte ∷ s)) n long some = λ is. cc is

-- what holds of a result
pub ok_then : {T E : Type 0} (r : Result T E) (P Q : T → Type 0) → ((v : T) → P v → Q v) → IfOk r P → IfOk r Q
ok_then (Ok v) P Q f h = f v h
ok_then (Err e) P Q f h = tt

pub err_then : {T E : Type 0} (r : Result T E) (P Q : E → Type 0) → ((e : E) → P e → Q e) → IfErr r P → IfErr r Q
err_then (Ok v) P Q f h = tt
err_then (Err e) P Q f h = f e h

-- an answer is not a lack of memory
pub is_some : (given : Status) → is_answer given ≡ true → given ≢ status.NoMemory
is_some given one same = let no : false ≡ true = ap is_answer (sym same) ∙ one in cc

pub both_by : (P : List ℕ → List ℕ → Type 0) (old mid : Option (List Moment)) (saved : List ℕ) → AddsMoments Staying old mid
    → IfSome (saved_now old) (λ file. saved ≡ file) → IfSome (swap_now mid) (P saved) → IfBoth old P
both_by P old mid saved stays same h =
    of_both P old saved same (later (P saved) (swap_now old) (swap_now mid) (swap_now-stays old mid stays) h)

-- ---- the whole recovery

unwritten_text : (given : Status) → is_unwritten given ≡ true → has_text given ≡ true → ⊥
unwritten_text status.Ok of is = cc
unwritten_text _ of is = cc

unwritten_only : (given : Status) → is_unwritten given ≡ true → is_of_recovery given ≡ true
unwritten_only status.NoMemory of = refl
unwritten_only status.DiskFault of = refl
unwritten_only (status.NotUtf8 at) of = refl
unwritten_only (status.TooLarge size) of = refl
unwritten_only status.NoSwap of = refl
unwritten_only status.Version of = refl
unwritten_only (status.FileChanged kept found) of = refl
unwritten_only _ of = cc

-- what comes of each answer of two files
abbrev Comes : Status → List ℕ → List ℕ → Type 0
Comes given saved swap = (answer : Answer) → Answers saved swap answer
    → TellsAnswer answer given ⊎ Contains (status.DiskFault ∷ status.WriteFault ∷ status.NoMemory ∷ []) given

comes_told : (moments : Option (List Moment)) (given : Status) → IfBoth moments (λ saved swap. Tells saved swap given) → IfBoth moments (Comes given)
comes_told moments given tells =
    both_then (λ saved swap. Tells saved swap given) (Comes given) (saved_now moments) (swap_now moments)
    (λ saved swap told answer answers. inl (tells_each saved swap given told answer answers)) tells

comes_failed : (moments : Option (List Moment)) (given : Status) → Contains (status.DiskFault ∷ status.WriteFault ∷ status.NoMemory ∷ []) given
    → IfBoth moments (Comes given)
comes_failed moments given is =
    each (Comes given) (saved_now moments) (swap_now moments) (λ saved swap o w answer answers. inr is)

comes_unwritten : (moments : Option (List Moment)) (given : Status) → is_unwritten given ≡ true
    → (is_answer given ≡ true → IfBoth moments (λ saved swap. Tells saved swap given)) → IfBoth moments (Comes given)
comes_unwritten moments status.NoMemory of tells = comes_failed moments status.NoMemory (2, omega arith, refl)
comes_unwritten moments status.DiskFault of tells = comes_failed moments status.DiskFault (0, omega arith, refl)
comes_unwritten moments (status.NotUtf8 at) of tells = comes_told moments (status.NotUtf8 at) (tells refl)
comes_unwritten moments (status.TooLarge size) of tells = comes_told moments (status.TooLarge size) (tells refl)
comes_unwritten moments status.NoSwap of tells = comes_told moments status.NoSwap (tells refl)
comes_unwritten moments status.Version of tells = comes_told moments status.Version (tells refl)
comes_unwritten moments (status.FileChanged kept found) of tells = comes_told moments (status.FileChanged kept found) (tells refl)
comes_unwritten moments _ of tells = cc

-- nothing was written
pub recovery_unwritten : (before after : Outer) (got : Option (List ℕ)) (faults : ℕ) (sink_stays : Type 0) (given : Status) → is_unwritten given ≡ true
    → (is_answer given ≡ true → (has_text given ≡ false) × AllStay before.faults after.faults × IfBoth before.moments (λ saved swap. Tells saved swap given))
    → (given ≡ status.DiskFault → DiskRose before.faults after.faults ⊎ Rose (before.faults SwapAt) (after.faults SwapAt))
    → ((call : DiskCall) → before.faults call < after.faults call → given ≡ status.DiskFault)
    → FilesStay before after → sink_stays → IsRecovery before after got got faults faults sink_stays given
recovery_unwritten before after got faults sink_stays given of told failed comes files stays = record {
  answers = λ is. ((told is).1, (told is).2);
  answers_come = comes_unwritten before.moments given of (λ is. (told is).2);
  disk_fault = failed;
  disk_fault_comes = comes;
  files = files;
  shown = λ is. absurd (unwritten_text given of is);
  silent = λ none other memory. stays;
  write_fault = λ is. absurd (unwritten_write given of is);
  write_fault_comes = λ rose. absurd (omega (arith, rose));
  prefix = λ is. each (λ saved swap. (got ≡ got) ⊎ WritesRecoveryPrefix got got saved swap) (saved_now before.moments) (swap_now before.moments)
      (λ saved swap o w. inl refl);
  only = unwritten_only given of;
} where
  unwritten_write : (given : Status) → is_unwritten given ≡ true → given ≡ status.WriteFault → ⊥
  unwritten_write given of is = let bad : is_unwritten status.WriteFault ≡ true = ap is_unwritten (sym is) ∙ of in cc

text_answer : (given : Status) → has_text given ≡ true → (is_of_recovery given ≡ true) × (given ≢ status.DiskFault) × (given ≢ status.WriteFault) × (given ≢ status.NoMemory)
text_answer given is = (only given is, apart status.DiskFault (λ e. cc e), apart status.WriteFault (λ e. cc e), apart status.NoMemory (λ e. cc e)) where
  apart : (other : Status) → (has_text other ≡ true → ⊥) → given ≢ other
  apart other none same = none (ap has_text (sym same) ∙ is)

  only : (s : Status) → has_text s ≡ true → is_of_recovery s ≡ true
  only status.Ok t = refl
  only (status.Damaged at done) t = refl
  only _ t = cc

-- the whole text was written
pub recovery_written : (before after : Outer) (got now : Option (List ℕ)) (faults later : ℕ) (sink_stays : Type 0) (given : Status) (output : List ℕ)
    → has_text given ≡ true → AllStay before.faults after.faults → IfBoth before.moments (λ saved swap. Shows saved swap given output)
    → FilesStay before after → Appends got now output → later ≡ faults → IsRecovery before after got now faults later sink_stays given
recovery_written before after got now faults later sink_stays given output text calm shows files gains still =
    let is = text_answer given text in
    let tells : IfBoth before.moments (λ saved swap. Tells saved swap given) =
    both_then (λ saved swap. Shows saved swap given output) (λ saved swap. Tells saved swap given) (saved_now before.moments) (swap_now before.moments)
    (λ saved swap shown. shown.tells) shows in
    record {
      answers = λ one. (calm, tells);
      answers_come = comes_told before.moments given tells;
      disk_fault = λ fault. absurd (is.1 fault);
      disk_fault_comes = λ call rose. absurd (let same = calm call in omega (arith, rose, same));
      files = files;
      shown = λ one. (
        still,
        both_then (λ saved swap. Shows saved swap given output) (WritesRecovery given got now) (saved_now before.moments)
            (swap_now before.moments) (λ saved swap shown. record { output = output; shows = shown; gains = gains }) shows,
      );
      silent = λ none. absurd (let no : false ≡ true = sym none ∙ text in cc);
      write_fault = λ fault. absurd (is.2 fault);
      write_fault_comes = λ rose. absurd (omega (arith, rose, still));
      prefix = λ one. absurd (elim one [ inl w ↦ is.2 w | inr m ↦ is.3 m ]);
      only = is.0;
    }

-- writing failed
pub recovery_failed : (before after : Outer) (got now : Option (List ℕ)) (faults later : ℕ) (sink_stays : Type 0) (told : Status) (output : List ℕ) (fail : SinkFail)
    → AllStay before.faults after.faults → IfBoth before.moments (λ saved swap. Shows saved swap told output)
    → FilesStay before after → AppendsPrefix got now output → (fail ≡ sink.Failed → Rose faults later) → (fail ≢ sink.Failed → later ≡ faults)
    → IsRecovery before after got now faults later sink_stays (sink_status fail)
recovery_failed before after got now faults later sink_stays told output sink.Failed calm shows files gains rose still =
    let prefix : IfBoth before.moments (λ saved swap. (now ≡ got) ⊎ WritesRecoveryPrefix got now saved swap) =
    both_then (λ saved swap. Shows saved swap told output) (λ saved swap. (now ≡ got) ⊎ WritesRecoveryPrefix got now saved swap) (saved_now before.moments)
    (swap_now before.moments) (λ saved swap shown. inr (record { output = output; given = told; shows = shown; gains = gains })) shows in
    record {
      answers = λ one. cc;
      answers_come = comes_failed before.moments status.WriteFault (1, omega arith, refl);
      disk_fault = λ fault. cc;
      disk_fault_comes = λ call up. absurd (let same = calm call in omega (arith, up, same));
      files = files;
      shown = λ one. cc;
      silent = λ none other. absurd (other refl);
      write_fault = λ fault. (calm, rose refl);
      write_fault_comes = λ up. refl;
      prefix = λ one. prefix;
      only = refl;
    }
recovery_failed before after got now faults later sink_stays told output sink.NoMemory calm shows files gains rose still =
    let prefix : IfBoth before.moments (λ saved swap. (now ≡ got) ⊎ WritesRecoveryPrefix got now saved swap) =
    both_then (λ saved swap. Shows saved swap told output) (λ saved swap. (now ≡ got) ⊎ WritesRecoveryPrefix got now saved swap) (saved_now before.moments)
    (swap_now before.moments) (λ saved swap shown. inr (record { output = output; given = told; shows = shown; gains = gains })) shows in
    let same : later ≡ faults = still (λ e. cc e) in
    record {
      answers = λ one. cc;
      answers_come = comes_failed before.moments status.NoMemory (2, omega arith, refl);
      disk_fault = λ fault. cc;
      disk_fault_comes = λ call up. absurd (let stay = calm call in omega (arith, up, stay));
      files = files;
      shown = λ one. cc;
      silent = λ none other memory. absurd (memory refl);
      write_fault = λ fault. cc;
      write_fault_comes = λ up. absurd (omega (arith, up, same));
      prefix = λ one. prefix;
      only = refl;
    }
