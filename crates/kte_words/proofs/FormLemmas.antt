-- Words and the parts of a form.
use Rattle.std.proofs.Common.{◌≡◌, ◌⊎◌, ⊎_elim, inl, inr, ℕ, zero, suc, ◌<◌, ◌≤◌, List, [], ◌∷◌, ◌++◌, length, take, get_or, slice_get, Some, is_some, subst, sym, refl, ap, arith}
use Rattle.std.proofs.lemmas.Bool.{cases_Bool, cases_lt, iff_false, false≢true}
use Rattle.std.proofs.lemmas.Option.{same_Some}
use Rattle.std.proofs.lemmas.Slice.Eq.{bytes_eq-Decides}
use Rattle.std.specs.Char.{digit_value}
use Rattle.std.specs.Str.{bytes_eq}
use Rattle.std.specs.Str.Parse.{AllDigits, digits_value}
use Rattle.kte_words.specs.Forms.{Part, Lead, AFile, ANumber, IsNumber, Is, Are, Stops}
use Rattle.kte_words.specs.declared.TheConstants.{MAX_DIGITS}

-- ---- the word of a part

-- words that are the parts of a form have a word for this part, which is at the part's index
pub part-at : (parts : List Part) (words : List (List ℕ)) (at : ℕ) (part : Part)
    → slice_get parts at ≡ Some part → Are parts words
    → (slice_get words at ≡ Some (get_or words at [])) × Is part (get_or words at [])
part-at [] words at part is are = absurd (false≢true (ap is_some is))
part-at (first ∷ parts) [] at part is are = absurd are
part-at (first ∷ parts) (word ∷ words) zero part is are =
    (refl, subst (λ one. Is one word) (same_Some first part is) are.0)
part-at (first ∷ parts) (word ∷ words) (suc at) part is are =
    part-at parts words at part is are.1

-- ---- parts that have words

-- each part has a word
abbrev pub HaveWords : List Part → Type 0
HaveWords [] = Unit {0}
HaveWords (part ∷ parts) = ((word : List ℕ) × Is part word) × HaveWords parts

pub samples : (parts : List Part) → HaveWords parts → (words : List (List ℕ)) × Are parts words
samples [] have = ([], tt)
samples (part ∷ parts) have =
    let others = samples parts have.1 in (have.0.0 ∷ others.0, (have.0.1, others.1))

-- ---- the front of words that begins a form

-- the words are the first parts of a form
abbrev pub BeginsForm : List Part → List (List ℕ) → Type 0
BeginsForm parts words = (more : List (List ℕ)) × Are parts (words ++ more)

pub stops-within : (parts : List Part) (words : List (List ℕ)) (at : ℕ) → Stops parts words at
    → at ≤ length words
stops-within [] [] at stops = absurd stops
stops-within [] (word ∷ words) at is = omega (arith, is)
stops-within (part ∷ parts) [] at is = omega (arith, is)
stops-within (part ∷ parts) (word ∷ words) zero other = omega arith
stops-within (part ∷ parts) (word ∷ words) (suc at) stops =
    omega (arith, stops-within parts words at stops.1)

pub stops-are : (parts : List Part) (words : List (List ℕ)) (at : ℕ) → Stops parts words at
    → ¬ (Are parts words)
stops-are [] [] at stops are = stops
stops-are [] (word ∷ words) at is are = are
stops-are (part ∷ parts) [] at is are = are
stops-are (part ∷ parts) (word ∷ words) zero other are = other are.0
stops-are (part ∷ parts) (word ∷ words) (suc at) stops are =
    stops-are parts words at stops.1 are.1

pub stops-before : (parts : List Part) (words : List (List ℕ)) (at : ℕ) → HaveWords parts
    → Stops parts words at → BeginsForm parts (take at words)
stops-before [] [] at have stops = absurd stops
stops-before [] (word ∷ words) at have is =
    subst (λ n. BeginsForm [] (take n (word ∷ words))) (sym is) ([], tt)
stops-before (part ∷ parts) [] at have is =
    subst (λ n. BeginsForm (part ∷ parts) (take n [])) (sym is) (samples (part ∷ parts) have)
stops-before (part ∷ parts) (word ∷ words) zero have other = samples (part ∷ parts) have
stops-before (part ∷ parts) (word ∷ words) (suc at) have stops =
    let before = stops-before parts words at have.1 stops.1 in
    (before.0, (stops.0, before.1))

pub stops-next : (parts : List Part) (words : List (List ℕ)) (at : ℕ) → Stops parts words at
    → at < length words → ¬ (BeginsForm parts (take (suc at) words))
stops-next [] [] at stops inside begins = stops
stops-next [] (word ∷ words) at is inside begins = begins.1
stops-next (part ∷ parts) [] at is inside begins = omega (arith, inside)
stops-next (part ∷ parts) (word ∷ words) zero other inside begins = other begins.1.0
stops-next (part ∷ parts) (word ∷ words) (suc at) stops inside begins =
    stops-next parts words at stops.1 (omega (arith, inside)) (begins.0, begins.1.1)

-- ---- words are a form, or stop being one

-- one of the two holds
abbrev Decided : Type 0 → Type 0
Decided A = A ⊎ ¬ A

both-or-not : {A B : Type 0} → Decided A → Decided B → Decided (A × B)
both-or-not a b =
    ⊎_elim (λ one. ⊎_elim (λ two. inl (one, two)) (λ no. inr (λ is. no is.1)) b)
    (λ no. inr (λ is. no is.0)) a

less-or-not : (m n : ℕ) → Decided (m < n)
less-or-not m n = ⊎_elim (λ less. inl less) (λ no. inr (λ less. omega arith)) (cases_lt m n)

most-or-not : (m n : ℕ) → Decided (m ≤ n)
most-or-not m n = ⊎_elim (λ more. inr (λ most. omega arith)) (λ most. inl most) (cases_lt n m)

digits-or-not : (word : List ℕ) → Decided (AllDigits 10 word)
digits-or-not [] = inl tt
digits-or-not (byte ∷ bytes) =
    both-or-not (less-or-not (digit_value byte) 10) (digits-or-not bytes)

number-or-not : (least most : ℕ) (word : List ℕ) → Decided (IsNumber least most word)
number-or-not least most word =
    let value = digits_value 10 word in
    ⊎_elim
    (λ is. inl (record { digits = is.0.0; short = is.0.1; at_least = is.1.0; at_most = is.1.1 }))
    (λ no. inr (λ is. no ((is.digits, is.short), (is.at_least, is.at_most))))
    (both-or-not
    (both-or-not (both-or-not (less-or-not 0 (length word)) (digits-or-not word))
    (most-or-not (length word) MAX_DIGITS))
    (both-or-not (most-or-not least value) (most-or-not value most)))

is-or-not : (part : Part) (word : List ℕ) → Decided (Is part word)
is-or-not (Lead text) word =
    let decides = bytes_eq-Decides word text in
    ⊎_elim (λ yes. inl (decides.0 yes)) (λ no. inr (iff_false decides no))
    (cases_Bool (bytes_eq word text))
is-or-not AFile [] = inr (λ named. named refl)
is-or-not AFile (byte ∷ bytes) = inl (λ empty. omega (arith, ap length empty))
is-or-not (ANumber least most) word = number-or-not least most word

-- the words are the parts, or stop being them
abbrev pub AreOrStop : List Part → List (List ℕ) → Type 0
AreOrStop parts words = Are parts words ⊎ ((at : ℕ) × Stops parts words at)

pub are-or-stop : (parts : List Part) (words : List (List ℕ)) → AreOrStop parts words
are-or-stop [] [] = inl tt
are-or-stop [] (word ∷ words) = inr (0, refl)
are-or-stop (part ∷ parts) [] = inr (0, refl)
are-or-stop (part ∷ parts) (word ∷ words) =
    ⊎_elim
    (λ is. ⊎_elim (λ are. inl (is, are)) (λ stops. inr (suc stops.0, (is, stops.1)))
    (are-or-stop parts words))
    (λ other. inr (zero, other))
    (is-or-not part word)
