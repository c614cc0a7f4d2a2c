-- What contracts see of a table of ranges. This project's own rule.
use Rattle.std.specs.Prelude.{◌≡◌, ℕ, ◌<◌, ◌≤◌, Bool, true, false, Option, None, Some, IsSome, refl}
use Rattle.std.specs.Ordering.{nat_cmp}
use Rattle.std.specs.FinMap.{FinMap, get, code}
use Rattle.std.specs.Coded.{Coded, code_by, coded×, coded_ℕ, coded_bool, coded_option}
use Rattle.kte_place.specs.declared.span.Expand.{Expand}
use Rattle.kte_place.specs.declared.span.Empty.{Empty}
use Rattle.kte_place.specs.declared.span.Empty.TheVariants.{Allow, Void}
use Rattle.kte_place.specs.Ends.{Ends}
use Rattle.kte_place.specs.Codes.{ends_code}
use Rattle.kte_ranges.specs.declared.info.RangeKind.{RangeKind}
use Rattle.kte_ranges.specs.declared.info.RangeKind.TheVariants.{User, Fold, Job}
use Rattle.kte_ranges.specs.declared.info.Origin.{Origin}
use Rattle.kte_ranges.specs.declared.info.RangeInfo.{RangeInfo}

-- the ranges by their numbers
abbrev pub Ranges : Type 0
Ranges = FinMap nat_cmp RangeInfo

-- the ranges, the number that the next one gets, and how many more can be made without memory
pub record Table : Type 0 where
  pub ranges : Ranges
  pub next : ℕ
  pub room : ℕ

-- each range has a property
abbrev pub AllInfos : (RangeInfo → Type 0) → Ranges → Type 0
AllInfos P ranges = (id : ℕ) (info : RangeInfo) → get ranges id ≡ Some info → P info

-- every number in use is at least 1 and below the next one
abbrev pub NumbersBelow : {V : Type 0} → ℕ → FinMap nat_cmp V → Type 0
NumbersBelow next ranges = (id : ℕ) → IsSome (get ranges id) → (1 ≤ id) × (id < next)

-- the range with another origin and other cursors
abbrev pub reset : RangeInfo → Origin → Option (ℕ × ℕ) → RangeInfo
reset info origin cursors = record info { origin = origin; cursors = cursors }

-- how a range grows is stored as its two answers
abbrev pub expand_code : Coded Expand
expand_code =
    code_by (Bool × Bool) (coded× coded_bool coded_bool) (λ x. (x.left, x.right))
    (λ t. record { left = t.0; right = t.1 }) (λ _. refl)

-- a range may not be empty
abbrev pub is_void : Empty → Bool
is_void Allow = false
is_void Void = true

-- the choice that a test stands for
abbrev pub empty_of : Bool → Empty
empty_of true = Void
empty_of false = Allow

-- .. which is the one that was tested
pub empty_of-is_void : (e : Empty) → empty_of (is_void e) ≡ e
empty_of-is_void Allow = refl
empty_of-is_void Void = refl

-- stored as the test whether it is void
abbrev pub empty_code : Coded Empty
empty_code = code_by Bool coded_bool is_void empty_of empty_of-is_void

-- the user's is none, a fold's is some none, a job's is some number
abbrev pub kind_number : RangeKind → Option (Option ℕ)
kind_number User = None
kind_number Fold = Some None
kind_number (Job job) = Some (Some job)

-- the kind that a number stands for
abbrev pub kind_of : Option (Option ℕ) → RangeKind
kind_of None = User
kind_of (Some None) = Fold
kind_of (Some (Some job)) = Job job

-- .. which is the one that was numbered
pub kind_of-kind_number : (k : RangeKind) → kind_of (kind_number k) ≡ k
kind_of-kind_number User = refl
kind_of-kind_number Fold = refl
kind_of-kind_number (Job job) = refl

-- a kind is stored as its number
abbrev pub kind_code : Coded RangeKind
kind_code =
    code_by (Option (Option ℕ)) (coded_option (coded_option coded_ℕ)) kind_number kind_of
    kind_of-kind_number

-- an origin is stored as its revision and its span
abbrev pub origin_code : Coded Origin
origin_code =
    code_by (ℕ × Ends) (coded× coded_ℕ ends_code) (λ o. (o.revision, o.span))
    (λ t. record { revision = t.0; span = t.1 }) (λ _. refl)

-- a range is stored as the tuple of its fields
abbrev pub info_code : Coded RangeInfo
info_code =
    code_by ((Expand × Empty) × (RangeKind × (Origin × Option (ℕ × ℕ))))
    (coded× (coded× expand_code empty_code) (coded× kind_code (coded× origin_code
    (coded_option (coded× coded_ℕ coded_ℕ)))))
    (λ i. ((i.expand, i.empty), (i.kind, (i.origin, i.cursors))))
    (λ t. record {
      expand = t.0.0;
      empty = t.0.1;
      kind = t.1.0;
      origin = t.1.1.0;
      cursors = t.1.1.1;
    })
    (λ _. refl)

-- a table is stored as the tuple of its fields
abbrev pub table_code : Coded Table
table_code =
    code_by (Ranges × (ℕ × ℕ)) (coded× (code coded_ℕ info_code) (coded× coded_ℕ coded_ℕ))
    (λ t. (t.ranges, (t.next, t.room)))
    (λ t. record { ranges = t.0; next = t.1.0; room = t.1.1 }) (λ _. refl)
