-- What the crates above cite.
pub use Rattle.kte_script.proofs.AgainLemmas.{IsWord, word-of, behind-of, skip-none, skip-one, skip-word, skip-first, taken, meant_again, Limited, limited, decimal_word, decimal_means, number_again}
pub use Rattle.kte_script.proofs.RoundLemmas.{fields_again, filled_again, filled_again-spaced, IsListed, listed, front_again, one_front}
pub use Rattle.kte_script.proofs.WithinLemmas.{fields_fit, front_within}
pub use Rattle.kte_script.proofs.TextLemmas.{fields_text, spelling_text}
pub use Rattle.kte_script.proofs.SpellingLemmas.{keeps, two_parts, one_field, two_fields, three_fields, four_fields, keeps_three, keeps_four}
