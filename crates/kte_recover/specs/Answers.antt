-- The answer that a result of recovery tells.
use Rattle.std.specs.Prelude.{◌≡◌, ◌≢◌, ℕ, Bool, Option, Some, None, Result, Ok, Err}
use Rattle.std.specs.Prelude.{List}
use Rattle.kte_text.specs.Files.{Loads, Refuses}
use Rattle.kte_text.specs.declared.loading.LoadFault.{LoadFault}
use Rattle.kte_record.specs.Grammar.{HasHeader, HasVersion}
use Rattle.kte_text.specs.declared.loading.Eol.{Eol}
use Rattle.kte_text.specs.declared.loading.Loaded.{Loaded}
use Rattle.kte_record.specs.Recovery.{Answer, no_swap, refused, version, changed, damaged, torn, clean}
use Rattle.kte_recover.specs.declared.answer.Tail.{Tail}
use Rattle.kte_recover.specs.declared.answer.Tail.TheVariants.{Clean, Torn}
use Rattle.kte_recover.specs.declared.answer.Recovered.{Recovered}
use Rattle.kte_recover.specs.declared.answer.RecoverFault.{RecoverFault}
use Rattle.kte_recover.specs.declared.answer.RecoverFault.TheVariants as fault

abbrev pub answer_by : Tail → ℕ → List (List ℕ) → Answer
answer_by Clean done text = clean done text
answer_by Torn done text = torn done text

-- the answer, unless memory ran out
abbrev pub answer_of : Result Recovered RecoverFault → Option Answer
answer_of (Ok found) = Some (answer_by found.tail found.done found.text)
answer_of (Err fault.NoSwap) = Some no_swap
answer_of (Err (fault.Load given)) = Some (refused given)
answer_of (Err fault.Version) = Some version
answer_of (Err (fault.FileChanged kept found)) = Some (changed kept.0 found.0)
answer_of (Err (fault.Damaged damage)) = Some (damaged damage.at damage.done damage.text)
answer_of (Err fault.NoMemory) = None

-- the line end and the mark of a saved file
pub record IsOfFile (saved : List ℕ) (eol : Eol) (bom : Bool) : Type 0 where
  pub loaded : Loaded
  pub loads : Loads saved loaded
  pub eol_is : eol ≡ loaded.eol
  pub bom_is : bom ≡ loaded.bom

-- the line end and the mark are those of the loaded file
abbrev pub KeepsEnds : Loaded → Result Recovered RecoverFault → Type 0
KeepsEnds loaded (Ok found) = (found.eol ≡ loaded.eol) × (found.bom ≡ loaded.bom)
KeepsEnds loaded (Err fault.NoSwap) = ⊥
KeepsEnds loaded (Err (fault.Load given)) = ⊥
KeepsEnds loaded (Err fault.Version) = ⊥
KeepsEnds loaded (Err (fault.FileChanged kept found)) = ⊥
KeepsEnds loaded (Err (fault.Damaged damage)) = (damage.eol ≡ loaded.eol) × (damage.bom ≡ loaded.bom)
KeepsEnds loaded (Err fault.NoMemory) = Unit {0}

-- the saved file is not refused
abbrev pub IsAllowed : List ℕ → Type 0
IsAllowed saved = (given : LoadFault) → ¬ (Refuses saved given)

-- why a header is refused beside a file with this digest
abbrev pub RefusesHeader : List ℕ → List ℕ → RecoverFault → Type 0
RefusesHeader digest swap fault.NoSwap = ⊥
RefusesHeader digest swap (fault.Load given) = ⊥
RefusesHeader digest swap fault.Version = ¬ (HasVersion swap)
RefusesHeader digest swap (fault.FileChanged kept found) =
    HasHeader swap kept.0 × (kept.0 ≢ digest) × (found.0 ≡ digest)
RefusesHeader digest swap (fault.Damaged damage) = ⊥
RefusesHeader digest swap fault.NoMemory = ⊥

-- a result with a text has the line end and the mark of the saved file
abbrev pub KeepsFile : List ℕ → Result Recovered RecoverFault → Type 0
KeepsFile saved (Ok found) = IsOfFile saved found.eol found.bom
KeepsFile saved (Err fault.NoSwap) = Unit {0}
KeepsFile saved (Err (fault.Load given)) = Unit {0}
KeepsFile saved (Err fault.Version) = Unit {0}
KeepsFile saved (Err (fault.FileChanged kept found)) = Unit {0}
KeepsFile saved (Err (fault.Damaged damage)) = IsOfFile saved damage.eol damage.bom
KeepsFile saved (Err fault.NoMemory) = Unit {0}

-- the answers that refuse, which are given whether there is memory or not
abbrev pub IsRefusal : Answer → Type 0
IsRefusal no_swap = Unit {0}
IsRefusal (refused given) = Unit {0}
IsRefusal version = Unit {0}
IsRefusal (changed kept found) = Unit {0}
IsRefusal (damaged at done text) = ⊥
IsRefusal (torn done text) = ⊥
IsRefusal (clean done text) = ⊥
