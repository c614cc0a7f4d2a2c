-- What is left of a source that tells.
use Rattle.std.proofs.Common.{◌≡◌, ℕ, ◌+◌, ◌<◌, List, length, Option, None, Some, Err, IfSome, refl, ◌↔◌, arith}
use Rattle.std.proofs.lemmas.Bool.{lt-ltb}
use Rattle.kte_causes.specs.Contents.{ConsumesSome}
use Rattle.kte_script.specs.declared.fault.ScriptFault.TheVariants as faults
use Rattle.kte_script.specs.Script.{script_of}
use Rattle.kte_script.specs.declared.TheConstants.{MAX_SCRIPT_LENGTH}

-- a script that is too long does not spell commands
script_of-long : (bytes : List ℕ) → MAX_SCRIPT_LENGTH < length bytes → script_of bytes ≡ Err faults.TooLong
script_of-long bytes long = rw (lt-ltb MAX_SCRIPT_LENGTH (length bytes) long) refl

-- where a read ended since more than the longest script was taken, what was left does not spell commands
pub script_of-too_long : (before after : Option (List ℕ)) (P : Type 0) → ConsumesSome before after → IfSome before (λ was. IfSome after (λ is. P ↔ (length is + MAX_SCRIPT_LENGTH < length was))) → P → IfSome before (λ was. script_of was ≡ Err faults.TooLong)
script_of-too_long None after P took h p = tt
script_of-too_long (Some was) (Some is) P took h p = script_of-long was (let more = h.0 p in omega arith)
script_of-too_long (Some was) None P took h p = absurd took.1
