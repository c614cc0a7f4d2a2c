-- Where bytes stop being the beginning of a text of some form, and in which line. This project's
-- own rule
use Rattle.std.specs.Prelude.{◌≡◌, ℕ, ◌+◌, true, ◌⊎◌, List, [], ◌∷◌, ◌++◌, length}
use Rattle.std.specs.List.{AllByRecursion}
use Rattle.kte_report.specs.Lines.{is_in_line, text_of_lines}

-- The bytes before the first fault begin a text of the form, and with the next byte they no longer
-- do, if there is a next byte
pub record IsBeforeFault (Begins : List ℕ → Type 0) (bytes before : List ℕ) : Type 0 where
  pub after : List ℕ
  pub parts : bytes ≡ before ++ after
  pub begun : Begins before
  pub stops : (byte : ℕ) (others : List ℕ) → after ≡ byte ∷ others
      → ¬ (Begins (before ++ byte ∷ []))

-- The line of this number, from 1, is at fault: the lines before it begin a text of the form, and
-- with it and its end they no longer do, or the bytes end in it
pub record IsBadLine (Begins : List ℕ → Type 0) (bytes : List ℕ) (number : ℕ) : Type 0 where
  pub before : List (List ℕ)
  pub line : List ℕ
  pub rest : List ℕ
  pub parts : bytes ≡ text_of_lines before ++ (line ++ rest)
  pub counted : number ≡ length before + 1
  pub lines : AllByRecursion (λ one. is_in_line one ≡ true) (line ∷ before)
  pub begun : Begins (text_of_lines before)
  pub stops : (rest ≡ [])
      ⊎ ((more : List ℕ) × (rest ≡ 10 ∷ more)
      × ¬ (Begins (text_of_lines before ++ (line ++ 10 ∷ []))))
