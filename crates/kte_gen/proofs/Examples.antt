-- Worked examples of the definitions.
use Rattle.std.proofs.Common.{◌≡◌, ◌/◌, ◌^◌, ◌∷◌, [], codes, refl}
use Rattle.kte_gen.specs.Draws.{next, drawn}
use Rattle.kte_gen.specs.Commands.{script_of, after_commands, one_more, wrapped, unwrapped, expand_word}

-- the first draw of the number 0
first_state : next 0 ≡ 1442695040888963407
unfolding next
first_state = refl

upper_bits : 1442695040888963407 / 2 ^ 33 ≡ 167951807
upper_bits = refl

first_draw : drawn 16 (next 0) ≡ 15
unfolding next drawn
first_draw = refl

-- .. which is a search
search_first : script_of 0 1 ≡ codes "find 0 0 \"a\" case part\n"
unfolding next drawn one_more after_commands
search_first = refl

-- a line is wrapped, and joined again
wrapped_line : wrapped (2 ∷ 5 ∷ 7 ∷ []) 1 3 ≡ 2 ∷ 3 ∷ 2 ∷ 7 ∷ []
wrapped_line = refl

unwrapped_line : unwrapped (2 ∷ 3 ∷ 2 ∷ 7 ∷ []) 2 ≡ 2 ∷ 5 ∷ 7 ∷ []
unwrapped_line = refl

wrapped_at_start : wrapped (4 ∷ []) 0 0 ≡ 0 ∷ 4 ∷ []
wrapped_at_start = refl

to_the_right : expand_word 2 ≡ codes " right"
to_the_right = refl
