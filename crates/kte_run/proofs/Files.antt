-- The saved file, read and loaded.
use Rattle.std.proofs.Common.{◌≡◌, ◌≢◌, ◌↔◌, ◌<◌, ◌≤◌, IsSomeAnd, IsErrAnd, IfErr, arith, ℕ, List, [], ◌∷◌, ◌+◌, ◌++◌, refl, length, take, Option, Some, None, Result, Ok, Err, IfSome, sym, subst, ap, ◌∙◌}
use Rattle.std.specs.Option.{option_map}
use Rattle.std.proofs.Math.Seq.{take-length}
use Rattle.kte_causes.specs.Moments.{Moment, AddsMoments, Staying, latest, swap_now}
use Rattle.kte_causes.proofs.CallerLemmas.{saved_now-stays, swap_now-stays}
use Rattle.kte_text.specs.Files.{Refuses}
use Rattle.kte_text.specs.declared.loading.Loaded.{Loaded}
use Rattle.kte_text.specs.declared.loading.LoadFault.{LoadFault}
use Rattle.kte_text.specs.declared.loading.LoadFault.TheVariants as load
use Rattle.kte_text.specs.declared.TheConstants.{MAX_FILE_LENGTH}
use Rattle.kte_run.specs.declared.saved.DiskFile.{DiskFile}
use Rattle.kte_run.specs.declared.saved.DiskFile.TheVariants.{Saved, Swap}
use Rattle.kte_run.specs.declared.status.Status.{Status}
use Rattle.kte_run.specs.declared.status.Status.TheVariants as status
use Rattle.kte_run.specs.Files.{file_now}
use Rattle.kte_run.specs.Run.{IsLoadable}
use Rattle.kte_run.specs.Statuses.{file_status}

front_all : (xs ys : List ℕ) → take (length xs) (xs ++ ys) ≡ xs
front_all [] ys = refl
front_all (x ∷ xs) ys = ap (λ (rest : List ℕ). x ∷ rest) (front_all xs ys)

both : (P Q R : List ℕ → Type 0) → ((file : List ℕ) → P file → Q file → R file) → (o : Option (List ℕ)) → IfSome o P → IfSome o Q → IfSome o R
both P Q R f None p q = tt
both P Q R f (Some file) p q = f file p q

pub if_then : (P Q : List ℕ → Type 0) → ((file : List ℕ) → P file → Q file) → (o : Option (List ℕ)) → IfSome o P → IfSome o Q
if_then P Q f None p = tt
if_then P Q f (Some file) p = f file p

-- so many elements as a list has, of it and of others after it
pub front : (n : ℕ) (xs ys : List ℕ) → n ≡ length xs → take n (xs ++ ys) ≡ xs
front n xs ys is = ap (λ (k : ℕ). take k (xs ++ ys)) is ∙ front_all xs ys

-- what is told later is what was told before
abbrev pub TellsOn : Option (List ℕ) → Option (List ℕ) → Type 0
TellsOn before after = IfSome before (λ file. after ≡ Some file)

pub later : (P : List ℕ → Type 0) (before after : Option (List ℕ)) → TellsOn before after → IfSome after P → IfSome before P
later P None after on h = tt
later P (Some file) after on h = subst (λ (o : Option (List ℕ)). IfSome o P) on h

-- a length or a read leaves the bytes of each file
pub file_now-stays : (file : DiskFile) (old new : Option (List Moment)) → AddsMoments Staying old new → TellsOn (file_now file old) (file_now file new)
file_now-stays Saved old new stays = saved_now-stays old new stays
file_now-stays Swap old new stays = swap_now-stays old new stays

-- there are so many bytes from the first on
pub room : (file : List Moment → List ℕ) (n : ℕ) (moments : Option (List Moment)) → IfSome (option_map file moments) (λ bytes. n ≤ length bytes)
    → IfSome moments (λ told. 0 + n ≤ length (file told))
room file n None fits = tt
room file n (Some told) fits = omega arith

-- the bytes that were read are the file
pub read : (now new : Option (List ℕ)) (n : ℕ) (room filled bytes : List ℕ) → TellsOn now new → IfSome now (λ file. n ≡ length file) → length room ≡ n
    → IfSome new (λ file. filled ≡ take (length room) file) → bytes ≡ filled → IfSome now (λ file. bytes ≡ file)
read now new n room filled bytes on long fits gives is =
    both (λ file. n ≡ length file) (λ file. filled ≡ take (length room) file) (λ file. bytes ≡ file)
    (λ file long gives. is ∙ gives ∙ ap (λ (k : ℕ). take k file) (fits ∙ long) ∙ take-length file)
    now long (later (λ file. filled ≡ take (length room) file) now new on gives)

-- a file that was loaded is not refused
pub loadable : (file : List ℕ) (loaded : Loaded) (result : Result Loaded LoadFault) → result ≡ Ok loaded → ((fault : LoadFault) → fault ≢ load.NoMemory → (result ≡ Err fault) ↔ Refuses file fault) → IsLoadable file
loadable file loaded result is refused load.LongFile refuses = let never = (refused load.LongFile (λ same. cc)).1 refuses in cc
loadable file loaded result is refused (load.NotUtf8 at) refuses = let never = (refused (load.NotUtf8 at) (λ same. cc)).1 refuses in cc
loadable file loaded result is refused (load.TooLarge size) refuses = let never = (refused (load.TooLarge size) (λ same. cc)).1 refuses in cc
loadable file loaded result is refused load.NoMemory refuses = refuses

-- what is said of the bytes is said of the file that they are
pub refused_file : (saved : Option (List ℕ)) (bytes : List ℕ) (fault : LoadFault) → IfSome saved (λ file. bytes ≡ file) → Refuses bytes fault → IfSome saved (λ file. Refuses file fault)
refused_file None bytes fault same refuses = tt
refused_file (Some file) bytes fault same refuses = subst (λ (b : List ℕ). Refuses b fault) same refuses

-- and the other way
pub refused_bytes : (saved : Option (List ℕ)) (bytes : List ℕ) (fault : LoadFault) → IfSome saved (λ file. bytes ≡ file) → IsSomeAnd saved (λ file. Refuses file fault) → Refuses bytes fault
refused_bytes None bytes fault same refuses = absurd refuses
refused_bytes (Some file) bytes fault same refuses = subst (λ (b : List ℕ). Refuses b fault) (sym same) refuses

-- the fault that a status stands for
fault_in : Status → LoadFault
fault_in (status.NotUtf8 at) = load.NotUtf8 at
fault_in (status.TooLarge None) = load.LongFile
fault_in (status.TooLarge (Some size)) = load.TooLarge size
fault_in _ = load.NoMemory

fault_in-file_status : (fault : LoadFault) → fault_in (file_status fault) ≡ fault
unfolding fault_in
fault_in-file_status load.LongFile = refl
fault_in-file_status (load.NotUtf8 at) = refl
fault_in-file_status (load.TooLarge size) = refl
fault_in-file_status load.NoMemory = refl

-- two faults with one status are one
pub same_fault : (a b : LoadFault) → file_status a ≡ file_status b → a ≡ b
same_fault a b is = sym (fault_in-file_status a) ∙ ap fault_in is ∙ fault_in-file_status b

long : (n : ℕ) (file : List ℕ) (fault : LoadFault) → n ≡ length file → MAX_FILE_LENGTH < n → load.LongFile ≡ fault → Refuses file fault
long n file fault measured much is = subst (λ (f : LoadFault). Refuses file f) is (omega (arith, measured, much))

-- a file that is too long is refused for that
pub long_refused : (saved : Option (List ℕ)) (n : ℕ) (given : Status) (fault : LoadFault) → given ≡ file_status load.LongFile → given ≡ file_status fault → IfSome saved (λ file. n ≡ length file) → MAX_FILE_LENGTH < n → IfSome saved (λ file. Refuses file fault)
long_refused None n given fault is given_is measured much = tt
long_refused (Some file) n given fault is given_is measured much =
    long n file fault measured much (same_fault load.LongFile fault (sym is ∙ given_is))

-- and for nothing else
pub long_comes : (saved : Option (List ℕ)) (n : ℕ) (given : Status) (fault : LoadFault) → given ≡ file_status load.LongFile → IfSome saved (λ file. n ≡ length file) → MAX_FILE_LENGTH < n → IsSomeAnd saved (λ file. Refuses file fault) → given ≡ file_status fault
long_comes None n given fault is measured much refuses = absurd refuses
long_comes (Some file) n given load.LongFile is measured much refuses = is
long_comes (Some file) n given (load.NotUtf8 at) is measured much refuses = absurd (let short = refuses.0 in omega (arith, measured, much, short))
long_comes (Some file) n given (load.TooLarge size) is measured much refuses = absurd (let short = refuses.0 in omega (arith, measured, much, short))
long_comes (Some file) n given load.NoMemory is measured much refuses = absurd refuses

-- the status of a fault that went up
pub err_status : {T : Type 0} (r : Result T Status) (fault : LoadFault) (given : Status) → IsErrAnd r (λ s. s ≡ file_status fault) → r ≡ Err given → given ≡ file_status fault
err_status (Ok v) fault given is as_err = absurd is
err_status (Err s) fault given is as_err = let same : s ≡ given = cc in sym same ∙ is

pub err_any : {T : Type 0} (r : Result T Status) (fault : LoadFault) (Q : Status → Type 0) → IsErrAnd r (λ s. s ≡ file_status fault) → ((s : Status) → s ≡ file_status fault → Q s) → IfErr r Q
err_any (Ok v) fault Q is f = absurd is
err_any (Err s) fault Q is f = f s is

-- out of memory is no fault of a file
pub not_memory : (bytes : List ℕ) (fault : LoadFault) → Refuses bytes fault → fault ≢ load.NoMemory
not_memory bytes load.LongFile refuses = λ e. cc e
not_memory bytes (load.NotUtf8 at) refuses = λ e. cc e
not_memory bytes (load.TooLarge size) refuses = λ e. cc e
not_memory bytes load.NoMemory refuses = absurd refuses

-- ---- the swap file

-- what is said of the bytes that are told is said of these
pub if_is : (o : Option (List ℕ)) (P : List ℕ → Type 0) (bytes : List ℕ) → IfSome o P → o ≡ Some bytes → P bytes
if_is o P bytes holds is = subst (λ (x : Option (List ℕ)). IfSome x P) is holds

pub some_same : (a b : List ℕ) → ◌≡◌ {A = Option (List ℕ)} (Some a) (Some b) → a ≡ b
some_same a b same = cc

-- the length of the swap file
pub swap_length : (o : Option (List ℕ)) (n : ℕ) (swap : List ℕ) → IfSome o (λ s. n ≡ length s) → o ≡ Some swap → n ≡ length swap
swap_length o n swap long is = if_is o (λ s. n ≡ length s) swap long is

-- one that has bytes is not empty
pub swap_there : (o : Option (List ℕ)) (n bytes : ℕ) → n ≡ bytes → IfSome o (λ s. n ≡ length s) → 0 < n → IfSome o (λ s. (bytes ≡ length s) × (s ≢ []))
swap_there None n bytes same long some = tt
swap_there (Some []) n bytes same long some = absurd (omega (arith, long, some))
swap_there (Some (byte ∷ s)) n bytes same long some = (sym same ∙ long, λ is. cc is)

-- .. and one that has none is
pub swap_empty : (o : Option (List ℕ)) (n : ℕ) → IfSome o (λ s. n ≡ length s) → n ≤ 0 → IfSome o (λ s. s ≡ [])
swap_empty None n long none = tt
swap_empty (Some []) n long none = refl
swap_empty (Some (byte ∷ s)) n long none = absurd (omega (arith, long, none))

-- a swap file that is empty is not there
pub swap_both : (o : Option (List ℕ)) (swap : List ℕ) → IfSome o (λ s. s ≡ []) → o ≡ Some swap → swap ≢ [] → ⊥
swap_both o swap empty there some = some (if_is o (λ s. s ≡ []) swap empty there)

-- what holds of the swap bytes of the last moment, in the words of a disk's clauses
pub swap_now-holds : (P : List ℕ → Type 0) (x : Option (List Moment)) → IfSome x (λ ms. P (latest ms).swap) → IfSome (swap_now x) P
swap_now-holds P None h = tt
swap_now-holds P (Some ms) h = h
