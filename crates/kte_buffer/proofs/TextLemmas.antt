-- What holds of the lines of a text.
use Rattle.std.proofs.Common.{◌≡◌, ℕ, ◌+◌, ◌<◌, List, [], ◌∷◌, ◌++◌, length, take, sym, ap, ◌∙◌}
use Rattle.std.proofs.lemmas.List.{take_more}
use Rattle.kte_text.specs.Texts.{line_at}

-- the first lines and the next one
pub take-line : (text : List (List ℕ)) (n : ℕ) (front : List (List ℕ)) (line : List ℕ) → n < length text → front ≡ take n text
    → line ≡ line_at text n → front ++ line ∷ [] ≡ take (n + 1) text
take-line text n front line within first next =
    ap (λ xs. xs ++ line ∷ []) first ∙ ap (λ x. take n text ++ x ∷ []) next ∙ sym (take_more text n [] within)
