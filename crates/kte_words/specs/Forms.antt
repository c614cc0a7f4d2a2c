-- The forms of commands: what each of their words is. This project's own rule
use Rattle.std.specs.Prelude.{◌≡◌, ◌≢◌, ◌≤◌, ℕ, zero, suc, List, [], ◌∷◌, length, get_or}
use Rattle.std.specs.Str.Parse.{IsNumeral, digits_value}
use Rattle.kte_words.specs.declared.TheConstants.{MAX_DIGITS}

-- what a word of a command is
pub data Part : Type 0 where
  -- this word itself
  Lead : List ℕ → Part
  -- the name of a file: any word that is not empty
  AFile : Part
  -- a number from the first of these to the second
  ANumber : ℕ → ℕ → Part

-- the word is a number from least to most: decimal digits alone, at most MAX_DIGITS of them
pub record IsNumber (least most : ℕ) (word : List ℕ) : Type 0 where
  pub digits : IsNumeral 10 word
  pub short : length word ≤ MAX_DIGITS
  pub at_least : least ≤ digits_value 10 word
  pub at_most : digits_value 10 word ≤ most

abbrev pub Is : Part → List ℕ → Type 0
Is (Lead text) word = word ≡ text
Is AFile word = word ≢ []
Is (ANumber least most) word = IsNumber least most word

-- the number that the word of this index is
abbrev pub number_at : List (List ℕ) → ℕ → ℕ
number_at words at = digits_value 10 (get_or words at [])

-- the words are these parts, one word a part
abbrev pub Are : List Part → List (List ℕ) → Type 0
Are [] [] = Unit {0}
Are [] (word ∷ words) = ⊥
Are (part ∷ parts) [] = ⊥
Are (part ∷ parts) (word ∷ words) = Is part word × Are parts words

-- The first word that is not its part has this index; it may be missing, or one too many
abbrev pub Stops : List Part → List (List ℕ) → ℕ → Type 0
Stops [] [] at = ⊥
Stops [] (word ∷ words) at = at ≡ 0
Stops (part ∷ parts) [] at = at ≡ 0
Stops (part ∷ parts) (word ∷ words) zero = ¬ (Is part word)
Stops (part ∷ parts) (word ∷ words) (suc at) = Is part word × Stops parts words at
