use Rattle.std.proofs.Common.{◌≡◌, length}
use Rattle.kte_script.specs.Strings.{string_from, Plain}
use Rattle.kte_script.proofs.StringLemmas.{with_front}
use Rattle.kte_script.proofs.quotation.string.Given as goal

abbrev pub invariant-bytes : goal.invariant-bytes
invariant-bytes l = with_front l.text.items (string_from Plain l.rest) ≡ string_from Plain l.bytes

abbrev pub decreases-bytes : goal.decreases-bytes
decreases-bytes l = length l.rest
