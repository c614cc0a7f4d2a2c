-- The command whose spelling bytes begin with is the one that is read from their front.
use Rattle.std.proofs.Common.{◌≡◌, ◌↔◌, ℕ, Bool, false, List, [], ◌∷◌, ◌++◌, length, Option, None, Some, Ok, Err, refl, sym, ap, ◌∙◌, subst, append_assoc}
use Rattle.std.specs.Prelude.{IsTrue}
use Rattle.kte_command.specs.declared.command.Command.{Command}
use Rattle.kte_script.specs.declared.limits.Limits.TheVariants.{Journal}
use Rattle.kte_script.specs.Fields.{Reading}
use Rattle.kte_script.specs.Table.{table, spelling}
use Rattle.kte_script.specs.Reading.{front_at}
use Rattle.kte_script.specs.Limits.{BeginsWith}
use Rattle.kte_script.proofs.ReadsLemmas.{done_same}
use Rattle.kte_script.proofs.RoundLemmas.{front_again}
use Rattle.kte_script.proofs.WithinLemmas.{front_within}

abbrev some_found : Command × ℕ → Option (Command × ℕ)
some_found found = Some found

abbrev none_found : Option (Command × ℕ)
none_found = None

found_same : (a b : Command × ℕ) → some_found a ≡ Some b → a ≡ b
found_same a b e = cc

not_found : {A : Type 0} (found : Command × ℕ) → none_found ≡ Some found → A
not_found found e = absurd cc

clash : (read : Reading Command) (found : Command × List ℕ) (left : ℕ) → read ≡ Ok found → read ≡ Err left → ⊥
clash read found left p q = cc

-- what bytes begin with is read
pub begun_read : (bytes : List ℕ) (command : Command) (size : ℕ) (b : BeginsWith bytes command size)
    → front_at Journal table bytes ≡ Ok (command, 32 ∷ b.after)
begun_read bytes command size b =
    ap (front_at Journal table) b.parts ∙ front_again Journal command (32 ∷ b.after) b.within refl

-- nothing is read
pub unread : (bytes : List ℕ) (left : ℕ) → front_at Journal table bytes ≡ Err left
    → (command : Command) (size : ℕ) → (none_found ≡ Some (command, size)) ↔ BeginsWith bytes command size
unread bytes left e command size = (
  λ f. not_found (command, size) f,
  λ b. absurd (clash (front_at Journal table bytes) (command, 32 ∷ b.after) left (begun_read bytes command size b) e),
)

same_command : (bytes : List ℕ) (read : Command) (rest : List ℕ) (command : Command) (size : ℕ)
    → front_at Journal table bytes ≡ Ok (read, rest) → BeginsWith bytes command size → read ≡ command
same_command bytes read rest command size e b =
    let same : (read, rest) ≡ (command, 32 ∷ b.after) = done_same {A = Command × List ℕ} (read, rest) (command, 32 ∷ b.after) (sym e ∙ begun_read bytes command size b) in
    ap (λ (z : Command × List ℕ). z.0) same

-- with the space that follows
spaced : (word after : List ℕ) → (word ++ 32 ∷ []) ++ after ≡ word ++ 32 ∷ after
spaced word after = append_assoc word (32 ∷ []) after

-- what is read, spelled again, is in front
pub found : (bytes : List ℕ) (read : Command) (rest spelled : List ℕ) (size : ℕ)
    → front_at Journal table bytes ≡ Ok (read, rest) → spelled ≡ spelling read ++ 32 ∷ [] → size ≡ length (spelling read)
    → (after : List ℕ) × (bytes ≡ spelled ++ after)
    → (command : Command) (n : ℕ) → (some_found (read, size) ≡ Some (command, n)) ↔ BeginsWith bytes command n
found bytes read rest spelled size e is_spelled is_size front command n = (
  λ f. subst (λ (z : Command × ℕ). BeginsWith bytes z.0 z.1) (found_same (read, size) (command, n) f)
      (record {
        within = front_within Journal bytes read rest e;
        after = front.0;
        parts = front.1 ∙ rw is_spelled (spaced (spelling read) front.0);
        counted = is_size;
      }),
  λ b.
      let same = same_command bytes read rest command n e b in
      rw (same, is_size, same, b.counted) refl,
)

-- .. or it is not
pub missed : (bytes : List ℕ) (read : Command) (rest spelled : List ℕ)
    → front_at Journal table bytes ≡ Ok (read, rest) → spelled ≡ spelling read ++ 32 ∷ []
    → ((after : List ℕ) × (bytes ≡ spelled ++ after) → ⊥)
    → (command : Command) (n : ℕ) → (none_found ≡ Some (command, n)) ↔ BeginsWith bytes command n
missed bytes read rest spelled e is_spelled none command n = (
  λ f. not_found (command, n) f,
  λ b.
      let same = same_command bytes read rest command n e b in
      absurd (none (b.after, b.parts ∙ rw (is_spelled, same) (sym (spaced (spelling command) b.after)))),
)

pub never : (b : Bool) → b ≡ false → IsTrue b → ⊥
never b p q = cc
