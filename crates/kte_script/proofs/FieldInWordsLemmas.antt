-- A field in words, of any kind.
use Rattle.std.proofs.Common.{◌≡◌, ℕ, zero, suc, ◌≤◌, ◌<◌, Bool, true, false, cond, nat_lt, nat_le, ◌&&◌, List, [], ◌∷◌, ◌++◌, length, Option, None, Some, Ok, Err, refl, sym, ap, ◌∙◌, subst, arith, inl, inr, ◌⊎◌, lit<}
use Rattle.std.specs.Prelude.{codes, if◌then◌else◌}
use Rattle.std.specs.List.{list_all}
use Rattle.std.specs.Option.{option_map}
use Rattle.std.specs.Char.{is_ascii_digit}
use Rattle.std.specs.Str.{bytes_eq}
use Rattle.std.specs.Str.Parse.{digits_value}
use Rattle.std.proofs.lemmas.List.{length-append}
use Rattle.std.proofs.lemmas.Bool.{and_parts, ltb-true, leb-true, lt-ltb, le-leb}
use Rattle.std.proofs.lemmas.Slice.Eq.{bytes_eq-Decides}
use Rattle.kte_find.specs.declared.rule.Rule.{Rule}
use Rattle.kte_find.specs.declared.rule.Rule.TheVariants as rules
use Rattle.kte_place.specs.declared.place.Place.{Place}
use Rattle.kte_place.specs.declared.span.Expand.{Expand}
use Rattle.kte_place.specs.declared.span.Empty.{Empty}
use Rattle.kte_place.specs.declared.span.Empty.TheVariants.{Allow, Void}
use Rattle.kte_place.specs.Ends.{Ends}
use Rattle.kte_place.specs.Place.{at}
use Rattle.kte_place.specs.Span.{between}
use Rattle.kte_script.specs.declared.limits.Limits.{Limits}
use Rattle.kte_script.specs.Words.{skip, word, behind, is_number, number_of}
use Rattle.kte_script.specs.Strings.{text_in, pattern_in}
use Rattle.kte_script.specs.Fields.{Count, ALine, AColumn, most, most_digits, Kind, Number, OrNone, APlace, ASpan, OrInvalid, Spans, AText, APattern, AQuery, ARule, Expands, Empties, Succeeds, Closes, Reading, ◌>>=◌, word_at, one_of, number_at, or_none_of, or_none_at, place_at, span_at, or_invalid_at, starts_number, spans_from, spans_at, text_at, pattern_at, fold_word, folds_of, folds_at, whole_word, whole_of, whole_at, how_at, query_of, query_at, RuleName, ForWord, ForBlanks, ForLong, ForPairs, ForRepeat, rule_word, rule_name, rule_after, rule_at, expand_of, expand_at, empty_of, empty_at, succeeds_of, succeeds_at, closes_of, closes_at, expand_word, succeeds_word, closes_word, read_field}
use Rattle.kte_script.specs.Table.{Values}
use Rattle.kte_script.specs.Reading.{read_fields}
use Rattle.kte_script.specs.InWords.{Begins, Misfits, IsNumber, IsOrNone, IsQuoted, IsQuotedPattern, IsFold, IsWhole, IsRuleName, IsExpand, IsEmpty, DoesSucceed, DoesClose, HasNumber, FailsNumber, HasPlace, FailsPlace, HasSpan, FailsSpan, IsInvalid, HasOrInvalid, FailsOrInvalid, Continues, HasSpans, FailsSpans, HasQuotedPattern, HasHow, FailsHow, HasQuery, FailsQuery, HasRuleAfter, FailsRuleAfter, HasRule, FailsRule, HasField, FailsField, HasFields, FailsFields}
use Rattle.kte_script.proofs.AgainLemmas.{IsWord, all_digits, all_other, digits_start, digits_no_word}
use Rattle.kte_script.proofs.NumberLemmas.{digits}
use Rattle.kte_script.proofs.WordLemmas.{found}
use Rattle.kte_script.proofs.RoundLemmas.{expand_is, expand_means, flag_of, AreFlags, success_flags, closed_flags, fold_flags, whole_flags}
use Rattle.kte_script.proofs.PieceLemmas.{quoted_front, text_quotes, pattern_quotes}
use Rattle.kte_script.proofs.ReadsLemmas.{Reads, word_reads, meaning_front, then_reads, spaces_of, skipped, starts-skip, skip-spaces, begun_skip, begun_word, begun_behind, bind_ok, bind_err, done_same}

-- ---- numbers

number_sound : (limits : Limits) (count : Count) (w : List ℕ) (n : ℕ)
    → number_of (most_digits limits) (most limits count) w ≡ Some n → IsNumber limits count n w
unfolding number_of is_number
number_sound limits count w n e =
    let digits_most = most_digits limits in
    let greatest = most limits count in
    let f = found (nat_lt 0 (length w) && nat_le (length w) digits_most && list_all is_ascii_digit w && nat_le (digits_value 10 w) greatest) (digits_value 10 w) n e in
    let p = and_parts (nat_lt 0 (length w) && nat_le (length w) digits_most && list_all is_ascii_digit w) (nat_le (digits_value 10 w) greatest) f.0 in
    let q = and_parts (nat_lt 0 (length w) && nat_le (length w) digits_most) (list_all is_ascii_digit w) p.0 in
    let r = and_parts (nat_lt 0 (length w)) (nat_le (length w) digits_most) q.0 in
    let le : digits_value 10 w ≤ greatest = leb-true _ _ p.1 in
    record { digits = (ltb-true _ _ r.0, digits w q.1); few = leb-true _ _ r.1; value = f.1; small = rw (← f.1) le }

number_tested : (limits : Limits) (count : Count) (n : ℕ) (w : List ℕ) → IsNumber limits count n w
    → is_number (most_digits limits) (most limits count) w ≡ true
unfolding is_number
number_tested limits count n w is =
    let le : digits_value 10 w ≤ most limits count = rw is.value is.small in
    rw (lt-ltb _ _ is.digits.0, le-leb _ _ is.few, all_digits w is.digits.1, le-leb _ _ le) refl

number_word : (limits : Limits) (count : Count) (n : ℕ) (w : List ℕ) → IsNumber limits count n w → IsWord w
number_word limits count n w is = record { some = is.digits.0; whole = all_other w is.digits.1 }

number_full : (limits : Limits) (count : Count) (w : List ℕ) (n : ℕ) → IsNumber limits count n w
    → IsWord w × (number_of (most_digits limits) (most limits count) w ≡ Some n)
unfolding number_of
number_full limits count w n is = (number_word limits count n w is, rw (number_tested limits count n w is, is.value) refl)

pub number_reads : (limits : Limits) (count : Count) → Reads (HasNumber limits count) (FailsNumber limits count) (number_at limits count)
unfolding number_at
number_reads limits count =
    word_reads (IsNumber limits count) _
    (meaning_front (IsNumber limits count) (number_of (most_digits limits) (most limits count)) (number_sound limits count) (number_full limits count))

-- ---- places and spans

place_reads : (limits : Limits) → Reads (HasPlace limits) (FailsPlace limits) (place_at limits)
unfolding place_at
place_reads limits =
    then_reads at (HasNumber limits ALine) (FailsNumber limits ALine) (number_at limits ALine) (λ line. HasNumber limits AColumn) (λ line. FailsNumber limits AColumn) (λ line. number_at limits AColumn)
    (number_reads limits ALine) (λ line. number_reads limits AColumn)

pub span_reads : (limits : Limits) → Reads (HasSpan limits) (FailsSpan limits) (span_at limits)
unfolding span_at
span_reads limits =
    then_reads between (HasPlace limits) (FailsPlace limits) (place_at limits) (λ first. HasPlace limits) (λ first. FailsPlace limits) (λ first. place_at limits)
    (place_reads limits) (λ first. place_reads limits)

text_reads : Reads (λ text. Begins (IsQuoted text)) (Misfits IsQuoted) text_at
unfolding text_at
text_reads = word_reads IsQuoted _ (quoted_front IsQuoted text_in text_quotes)

pattern_reads : Reads HasQuotedPattern (Misfits IsQuotedPattern) pattern_at
unfolding pattern_at
pattern_reads = word_reads IsQuotedPattern _ (quoted_front IsQuotedPattern pattern_in pattern_quotes)

-- ---- words that are given

same_words : (w want : List ℕ) → bytes_eq w want ≡ true → w ≡ want
same_words w want e = (bytes_eq-Decides w want).0 e

decide : (b : Bool) → (b ≡ true) ⊎ (b ≡ false)
decide true = inl refl
decide false = inr refl

not_both : (b : Bool) → b ≡ true → b ≡ false → ⊥
not_both b p q = cc

pub given : {A : Type 0} (w want : List ℕ) (x : A) (o : Option A) (value : A)
    → cond (bytes_eq w want) (Some x) o ≡ Some value
    → ((w ≡ want) × (Some x ≡ Some value)) ⊎ (o ≡ Some value)
given w want x o value e =
    elim (decide (bytes_eq w want)) [
      | inl yes' ↦ inl (same_words w want yes', rw yes' at e)
      | inr other ↦ inr (rw other at e)
    ]

pub some_same : {A : Type 0} (a b : A) → Some a ≡ Some b → a ≡ b
some_same a b e = cc

expand_by : (w : List ℕ) (left right : Bool) (value : Expand) → w ≡ expand_word left right
    → Some (record { left = left; right = right }) ≡ Some value → IsExpand value w
expand_by w left right value is e =
    subst (λ (x : Expand). IsExpand x w) (some_same {A = Expand} (record { left = left; right = right }) value e) is

abbrev pub no_value : {A : Type 0} → Option A
no_value = None

pub nothing : {A B : Type 0} (value : A) → no_value {A = A} ≡ Some value → B
nothing value e = absurd cc

expand_sound : (w : List ℕ) (value : Expand) → expand_of w ≡ Some value → IsExpand value w
unfolding expand_of
expand_sound w value e =
    elim (given w (codes "none") _ _ value e) [
      | inl p ↦ expand_by w false false value p.0 p.1
      | inr e ↦ elim (given w (codes "left") _ _ value e) [
        | inl p ↦ expand_by w true false value p.0 p.1
        | inr e ↦ elim (given w (codes "right") _ _ value e) [
          | inl p ↦ expand_by w false true value p.0 p.1
          | inr e ↦ elim (given w (codes "both") _ _ value e) [
            | inl p ↦ expand_by w true true value p.0 p.1
            | inr e ↦ nothing value e
          ]
        ]
      ]
    ]

expand_full : (w : List ℕ) (value : Expand) → IsExpand value w → IsWord w × (expand_of w ≡ Some value)
expand_full w value is = rw is (expand_is value.left value.right, expand_means value.left value.right)

expand_reads : Reads (λ expand. Begins (IsExpand expand)) (Misfits IsExpand) expand_at
unfolding expand_at
expand_reads = word_reads IsExpand _ (meaning_front IsExpand expand_of expand_sound expand_full)

-- one of two words
one_sound : {A : Type 0} (first second : List ℕ) (a b : A) (w : List ℕ) (value : A) → one_of first a second b w ≡ Some value
    → ((w ≡ first) × (a ≡ value)) ⊎ ((w ≡ second) × (b ≡ value))
one_sound {A} first second a b w value e =
    elim (given w first a _ value e) [
      | inl p ↦ inl (p.0, some_same {A = A} a value p.1)
      | inr e ↦ elim (given w second b _ value e) [
        | inl p ↦ inr (p.0, some_same {A = A} b value p.1)
        | inr e ↦ nothing {A = A} value e
      ]
    ]

empty_sound : (w : List ℕ) (value : Empty) → empty_of w ≡ Some value → IsEmpty value w
unfolding empty_of
empty_sound w value e =
    elim (one_sound (codes "allow") (codes "void") Allow Void w value e) [
      | inl p ↦ rw (← p.1) p.0
      | inr p ↦ rw (← p.1) p.0
    ]

empty_full : (w : List ℕ) (value : Empty) → IsEmpty value w → IsWord w × (empty_of w ≡ Some value)
unfolding empty_of
empty_full w Allow is = rw is (record { some = lit< tt; whole = refl }, refl)
empty_full w Void is = rw is (record { some = lit< tt; whole = refl }, refl)

empty_reads : Reads (λ empty. Begins (IsEmpty empty)) (Misfits IsEmpty) empty_at
unfolding empty_at
empty_reads = word_reads IsEmpty _ (meaning_front IsEmpty empty_of empty_sound empty_full)

-- one of two words, for true or false
flag_sound : (spelled : Bool → List ℕ) (w : List ℕ) (value : Bool) → flag_of spelled w ≡ Some value → w ≡ spelled value
flag_sound spelled w value e =
    elim (one_sound (spelled true) (spelled false) true false w value e) [
      | inl p ↦ rw (← p.1) p.0
      | inr p ↦ rw (← p.1) p.0
    ]

flag_full : (spelled : Bool → List ℕ) → AreFlags spelled → (w : List ℕ) (value : Bool) → w ≡ spelled value
    → IsWord w × (flag_of spelled w ≡ Some value)
flag_full spelled flags w value is = rw is (flags.is value, flags.means value)

flag_reads : (spelled : Bool → List ℕ) → AreFlags spelled
    → Reads (λ value. Begins (λ w. w ≡ spelled value)) (Misfits (λ value w. w ≡ spelled value)) (word_at (flag_of spelled))
flag_reads spelled flags =
    word_reads (λ value w. w ≡ spelled value) _
    (meaning_front (λ value w. w ≡ spelled value) (flag_of spelled) (flag_sound spelled) (flag_full spelled flags))

succeeds_reads : Reads (λ ok. Begins (DoesSucceed ok)) (Misfits DoesSucceed) succeeds_at
unfolding succeeds_at succeeds_of
succeeds_reads = flag_reads succeeds_word success_flags

closes_reads : Reads (λ closed. Begins (DoesClose closed)) (Misfits DoesClose) closes_at
unfolding closes_at closes_of
closes_reads = flag_reads closes_word closed_flags

-- ---- queries

folds_reads : Reads (λ fold_case. Begins (IsFold fold_case)) (Misfits IsFold) folds_at
unfolding folds_at folds_of
folds_reads = flag_reads fold_word fold_flags

whole_reads : Reads (λ whole. Begins (IsWhole whole)) (Misfits IsWhole) whole_at
unfolding whole_at whole_of
whole_reads = flag_reads whole_word whole_flags

how_reads : Reads HasHow FailsHow how_at
unfolding how_at
how_reads =
    then_reads (λ fold_case whole. (fold_case, whole)) (λ fold_case. Begins (IsFold fold_case)) (Misfits IsFold) folds_at (λ fold_case whole. Begins (IsWhole whole)) (λ fold_case. Misfits IsWhole) (λ fold_case. whole_at)
    folds_reads (λ fold_case. whole_reads)

query_reads : Reads HasQuery FailsQuery query_at
unfolding query_at
query_reads =
    then_reads query_of HasQuotedPattern (Misfits IsQuotedPattern) pattern_at (λ pattern. HasHow) (λ pattern. FailsHow) (λ pattern. how_at)
    pattern_reads (λ pattern. how_reads)

-- ---- numbers or `none`

or_none_given : (limits : Limits) (count : Count) (w : List ℕ) (read : Option ℕ) (value : Option ℕ)
    → number_of (most_digits limits) (most limits count) w ≡ read
    → option_map {T = ℕ} (λ n. Some n) read ≡ Some value → IsOrNone limits count value w
or_none_given limits count w None value is e = nothing {A = Option ℕ} value e
or_none_given limits count w (Some n) value is e =
    subst (λ (x : Option ℕ). IsOrNone limits count x w) (some_same {A = Option ℕ} (Some n) value e) (number_sound limits count w n is)

or_none_sound : (limits : Limits) (count : Count) (w : List ℕ) (value : Option ℕ) → or_none_of limits count w ≡ Some value
    → IsOrNone limits count value w
unfolding or_none_of
or_none_sound limits count w value e =
    elim (given {A = Option ℕ} w (codes "none") None _ value e) [
      | inl p ↦ subst (λ (x : Option ℕ). IsOrNone limits count x w) (some_same {A = Option ℕ} None value p.1) p.0
      | inr e ↦ or_none_given limits count w (number_of (most_digits limits) (most limits count) w) value refl e
    ]

or_none_full : (limits : Limits) (count : Count) (w : List ℕ) (value : Option ℕ) → IsOrNone limits count value w
    → IsWord w × (or_none_of limits count w ≡ Some value)
unfolding or_none_of
or_none_full limits count w None is = rw is (record { some = lit< tt; whole = refl }, refl)
or_none_full limits count w (Some n) is =
    let f = number_full limits count w n is in
    (f.0, rw (digits_no_word w 110 (codes "one") (omega arith) is.digits.0 is.digits.1, f.1) refl)

or_none_reads : (limits : Limits) (count : Count)
    → Reads (λ n. Begins (IsOrNone limits count n)) (Misfits (IsOrNone limits count)) (or_none_at limits count)
unfolding or_none_at
or_none_reads limits count =
    word_reads (IsOrNone limits count) _
    (meaning_front (IsOrNone limits count) (or_none_of limits count) (or_none_sound limits count) (or_none_full limits count))

-- ---- spans

-- what begins with a place begins with a number
place_word : (limits : Limits) (place : Place) (bytes rest : List ℕ) (h : HasPlace limits place bytes rest)
    → IsWord h.front.word
place_word limits place bytes rest h = number_word limits ALine h.first h.front.word h.front.is

abbrev is_invalid : List ℕ → Option (Unit {0})
is_invalid w = if bytes_eq w (codes "invalid") then Some tt else None

invalid_sound : (w : List ℕ) (value : Unit {0}) → is_invalid w ≡ Some value → IsInvalid w
invalid_sound w value e =
    elim (given {A = Unit {0}} w (codes "invalid") tt None value e) [
      | inl p ↦ p.0
      | inr e ↦ nothing {A = Unit {0}} value e
    ]

invalid_full : (w : List ℕ) (value : Unit {0}) → IsInvalid w → IsWord w × (is_invalid w ≡ Some value)
invalid_full w value is = rw is (record { some = lit< tt; whole = refl }, refl)

invalid_reads : Reads (λ (value : Unit {0}). Begins IsInvalid) (Misfits (λ (value : Unit {0}). IsInvalid)) (word_at is_invalid)
invalid_reads =
    word_reads (λ (value : Unit {0}). IsInvalid) _ (meaning_front (λ (value : Unit {0}). IsInvalid) is_invalid invalid_sound invalid_full)

-- the word is `invalid`, or not
invalid_there : (bytes : List ℕ) → bytes_eq (word (skip bytes)) (codes "invalid") ≡ true
    → Begins IsInvalid bytes (behind (skip bytes))
invalid_there bytes there = invalid_reads.takes bytes tt (behind (skip bytes)) (rw there refl)

invalid_word : (bytes rest : List ℕ) (b : Begins IsInvalid bytes rest) → IsWord b.word
invalid_word bytes rest b = (invalid_full b.word tt b.is).0

invalid_test : (bytes rest : List ℕ) → Begins IsInvalid bytes rest → bytes_eq (word (skip bytes)) (codes "invalid") ≡ true
invalid_test bytes rest b = rw (begun_word bytes rest b (invalid_word bytes rest b), b.is) refl

span_test : (limits : Limits) (span : Ends) (bytes rest : List ℕ) → HasSpan limits span bytes rest
    → bytes_eq (word (skip bytes)) (codes "invalid") ≡ false
span_test limits span bytes rest h =
    let b = h.front.front in
    rw (begun_word bytes h.front.middle b (place_word limits h.first bytes h.middle h.front))
    (digits_no_word b.word 105 (codes "nvalid") (omega arith) b.is.digits.0 b.is.digits.1)

abbrev done_maybe : Option Ends × List ℕ → Reading (Option Ends)
done_maybe pair = Ok pair

maybe_ok : (pair : Option Ends × List ℕ) (left : ℕ) → done_maybe pair ≡ Err left → ⊥
maybe_ok pair left e = cc

or_invalid_takes : (limits : Limits) (bytes : List ℕ) (value : Option Ends) (rest : List ℕ)
    → or_invalid_at limits bytes ≡ Ok (value, rest) → HasOrInvalid limits value bytes rest
unfolding or_invalid_at
or_invalid_takes limits bytes value rest e =
    elim (decide (bytes_eq (word (skip bytes)) (codes "invalid"))) [
      | inl there ↦
          let is : (None, behind (skip bytes)) ≡ (value, rest) = done_same {A = Option Ends × List ℕ} (None, behind (skip bytes)) (value, rest) (rw there at e) in
          subst (λ (z : Option Ends × List ℕ). HasOrInvalid limits z.0 bytes z.1) is (invalid_there bytes there)
      | inr other ↦
          let p = bind_ok (span_at limits bytes) (λ span. done_maybe (Some span.0, span.1)) (value, rest) (rw other at e) in
          let is : (Some p.0.0, p.0.1) ≡ (value, rest) = done_same {A = Option Ends × List ℕ} (Some p.0.0, p.0.1) (value, rest) p.2 in
          subst (λ (z : Option Ends × List ℕ). HasOrInvalid limits z.0 bytes z.1) is ((span_reads limits).takes bytes p.0.0 p.0.1 p.1)
    ]

or_invalid_gives : (limits : Limits) (bytes : List ℕ) (value : Option Ends) (rest : List ℕ)
    → HasOrInvalid limits value bytes rest → or_invalid_at limits bytes ≡ Ok (value, rest)
unfolding or_invalid_at
or_invalid_gives limits bytes None rest b =
    rw (invalid_test bytes rest b, begun_behind bytes rest b (invalid_word bytes rest b)) refl
or_invalid_gives limits bytes (Some span) rest h =
    rw (span_test limits span bytes rest h, (span_reads limits).gives bytes span rest h) refl

or_invalid_stops : (limits : Limits) (bytes : List ℕ) (left : ℕ) → or_invalid_at limits bytes ≡ Err left
    → FailsOrInvalid limits bytes left
unfolding or_invalid_at
or_invalid_stops limits bytes left e =
    elim (decide (bytes_eq (word (skip bytes)) (codes "invalid"))) [
      | inl there ↦ absurd (maybe_ok (None, behind (skip bytes)) left (rw there at e))
      | inr other ↦ elim (bind_err (span_at limits bytes) (λ span. done_maybe (Some span.0, span.1)) left (rw other at e)) [
        | inl f ↦ ((span_reads limits).stops bytes left f, λ rest b. not_both _ (invalid_test bytes rest b) other)
        | inr p ↦ absurd (maybe_ok (Some p.0.0, p.0.1) left p.2)
      ]
    ]

or_invalid_misses : (limits : Limits) (bytes : List ℕ) (left : ℕ) → FailsOrInvalid limits bytes left
    → or_invalid_at limits bytes ≡ Err left
unfolding or_invalid_at
or_invalid_misses limits bytes left f =
    elim (decide (bytes_eq (word (skip bytes)) (codes "invalid"))) [
      | inl there ↦ absurd (f.1 (behind (skip bytes)) (invalid_there bytes there))
      | inr other ↦ rw (other, (span_reads limits).misses bytes left f.0) refl
    ]

or_invalid_reads : (limits : Limits) → Reads (HasOrInvalid limits) (FailsOrInvalid limits) (or_invalid_at limits)
or_invalid_reads limits = record {
  takes = or_invalid_takes limits;
  gives = or_invalid_gives limits;
  stops = or_invalid_stops limits;
  misses = or_invalid_misses limits;
}

-- a digit begins the next word, or not
continues : (bytes : List ℕ) (goes_on : Bool) → starts_number (skip bytes) ≡ goes_on → Continues goes_on bytes
continues bytes goes_on e = record {
  spaces = _;
  words = skip bytes;
  parts = skipped bytes;
  only = spaces_of bytes;
  first = starts-skip bytes;
  is = e;
}

continued : (bytes : List ℕ) (goes_on : Bool) → Continues goes_on bytes → starts_number (skip bytes) ≡ goes_on
continued bytes goes_on c = ap starts_number (ap skip c.parts ∙ skip-spaces c.spaces c.words c.only c.first) ∙ c.is

span_first : (limits : Limits) (span : Ends) (bytes rest : List ℕ) → HasSpan limits span bytes rest
    → starts_number (skip bytes) ≡ true
span_first limits span bytes rest h =
    let b = h.front.front in
    rw (begun_skip bytes h.front.middle b (place_word limits h.first bytes h.middle h.front))
    (digits_start b.word h.front.middle b.is.digits.0 b.is.digits.1)

begins_shorter : {Is : List ℕ → Type 0} (bytes rest : List ℕ) (b : Begins Is bytes rest) → IsWord b.word
    → length rest < length bytes
begins_shorter bytes rest b is =
    let whole = ap length b.parts ∙ length-append b.spaces (b.word ++ rest) in
    omega (arith, whole, length-append b.word rest, is.some)

place_shorter : (limits : Limits) (place : Place) (bytes rest : List ℕ) → HasPlace limits place bytes rest
    → length rest < length bytes
place_shorter limits place bytes rest h =
    omega (
      arith,
      begins_shorter bytes h.middle h.front (number_word limits ALine h.first h.front.word h.front.is),
      begins_shorter h.middle rest h.back (number_word limits AColumn h.second h.back.word h.back.is),
    )

pub span_shorter : (limits : Limits) (span : Ends) (bytes rest : List ℕ) → HasSpan limits span bytes rest
    → length rest < length bytes
span_shorter limits span bytes rest h =
    omega (arith, place_shorter limits h.first bytes h.middle h.front, place_shorter limits h.second h.middle rest h.back)

-- spans of at most so many bytes
pub record ReadsUpTo (limits : Limits) (room : ℕ) : Type 0 where
  pub takes : (bytes : List ℕ) (spans : List Ends) (rest : List ℕ) → length bytes ≤ room
      → spans_from limits room bytes ≡ Ok (spans, rest) → HasSpans limits spans bytes rest
  pub gives : (bytes : List ℕ) (spans : List Ends) (rest : List ℕ) → length bytes ≤ room
      → HasSpans limits spans bytes rest → spans_from limits room bytes ≡ Ok (spans, rest)
  pub stops : (bytes : List ℕ) (left : ℕ) → length bytes ≤ room
      → spans_from limits room bytes ≡ Err left → FailsSpans limits bytes left
  pub misses : (bytes : List ℕ) (left : ℕ) → length bytes ≤ room
      → FailsSpans limits bytes left → spans_from limits room bytes ≡ Err left

abbrev done_spans : List Ends × List ℕ → Reading (List Ends)
done_spans pair = Ok pair

spans_ok : (pair : List Ends × List ℕ) (left : ℕ) → done_spans pair ≡ Err left → ⊥
spans_ok pair left e = cc

-- no spans are left
none_left : (limits : Limits) (bytes : List ℕ) (spans : List Ends) (rest : List ℕ) → starts_number (skip bytes) ≡ false
    → done_spans ([], bytes) ≡ Ok (spans, rest) → HasSpans limits spans bytes rest
none_left limits bytes spans rest none e =
    let is : ([], bytes) ≡ (spans, rest) = done_same {A = List Ends × List ℕ} ([], bytes) (spans, rest) e in
    subst (λ (z : List Ends × List ℕ). HasSpans limits z.0 bytes z.1) is (refl, continues bytes false none)

nothing_starts : (bytes : List ℕ) → length bytes ≤ 0 → starts_number (skip bytes) ≡ false
unfolding skip
nothing_starts [] le = refl
nothing_starts (byte ∷ bytes) le = absurd (omega arith)

nothing_gives : (limits : Limits) (bytes : List ℕ) (spans : List Ends) (rest : List ℕ) → length bytes ≤ 0
    → HasSpans limits spans bytes rest → done_spans ([], bytes) ≡ Ok (spans, rest)
nothing_gives limits bytes [] rest le h = rw h.0 refl
nothing_gives limits bytes (span ∷ spans) rest le h =
    absurd (omega (arith, span_shorter limits span bytes h.0.0 h.0.1))

nothing_misses : (limits : Limits) (bytes : List ℕ) (left : ℕ) → length bytes ≤ 0 → FailsSpans limits bytes left → ⊥
nothing_misses limits bytes left le ([], middle, same, c, f) =
    not_both _ (rw same (continued middle true c)) (nothing_starts bytes le)
nothing_misses limits bytes left le (span ∷ spans, middle, some, c, f) =
    absurd (omega (arith, span_shorter limits span bytes some.0 some.1))

up_to_none : (limits : Limits) → ReadsUpTo limits zero
up_to_none limits = record {
  takes = λ bytes spans rest le e. none_left limits bytes spans rest (nothing_starts bytes le) e;
  gives = λ bytes spans rest le h. nothing_gives limits bytes spans rest le h;
  stops = λ bytes left le e. absurd (spans_ok ([], bytes) left e);
  misses = λ bytes left le f. absurd (nothing_misses limits bytes left le f);
}

abbrev more_spans : Limits → ℕ → List ℕ → Reading (List Ends)
more_spans limits room bytes =
    span_at limits bytes >>= λ first. spans_from limits room first.1
    >>= λ others. Ok (first.0 ∷ others.0, others.1)

one_takes : (limits : Limits) (room : ℕ) (bytes : List ℕ) (spans : List Ends) (rest : List ℕ) → ReadsUpTo limits room
    → length bytes ≤ suc room → more_spans limits room bytes ≡ Ok (spans, rest) → HasSpans limits spans bytes rest
one_takes limits room bytes spans rest up le e =
    let p = bind_ok (span_at limits bytes) (λ first. spans_from limits room first.1 >>= λ others. done_spans (first.0 ∷ others.0, others.1)) (spans, rest) e in
    let q = bind_ok (spans_from limits room p.0.1) (λ others. done_spans (p.0.0 ∷ others.0, others.1)) (spans, rest) p.2 in
    let first = (span_reads limits).takes bytes p.0.0 p.0.1 p.1 in
    let small : length p.0.1 ≤ room = omega (arith, span_shorter limits p.0.0 bytes p.0.1 first) in
    let others = up.takes p.0.1 q.0.0 q.0.1 small q.1 in
    let is : (p.0.0 ∷ q.0.0, q.0.1) ≡ (spans, rest) = done_same {A = List Ends × List ℕ} (p.0.0 ∷ q.0.0, q.0.1) (spans, rest) q.2 in
    subst (λ (z : List Ends × List ℕ). HasSpans limits z.0 bytes z.1) is ((p.0.1, first, others.0), others.1)

one_stops : (limits : Limits) (room : ℕ) (bytes : List ℕ) (left : ℕ) → ReadsUpTo limits room
    → length bytes ≤ suc room → starts_number (skip bytes) ≡ true → more_spans limits room bytes ≡ Err left
    → FailsSpans limits bytes left
one_stops limits room bytes left up le more e =
    elim (bind_err (span_at limits bytes) (λ first. spans_from limits room first.1 >>= λ others. done_spans (first.0 ∷ others.0, others.1)) left e) [
      | inl f ↦ ([], bytes, refl, continues bytes true more, (span_reads limits).stops bytes left f)
      | inr p ↦
          let first = (span_reads limits).takes bytes p.0.0 p.0.1 p.1 in
          elim (bind_err (spans_from limits room p.0.1) (λ others. done_spans (p.0.0 ∷ others.0, others.1)) left p.2) [
            | inl f ↦
                let later = up.stops p.0.1 left (omega (arith, span_shorter limits p.0.0 bytes p.0.1 first)) f in
                (p.0.0 ∷ later.0, later.1, (p.0.1, first, later.2), later.3, later.4)
            | inr q ↦ absurd (spans_ok (p.0.0 ∷ q.0.0, q.0.1) left q.2)
          ]
    ]

one_gives : (limits : Limits) (room : ℕ) (bytes : List ℕ) (spans : List Ends) (rest : List ℕ) → ReadsUpTo limits room
    → length bytes ≤ suc room → HasSpans limits spans bytes rest → spans_from limits (suc room) bytes ≡ Ok (spans, rest)
one_gives limits room bytes [] rest up le h = rw (h.0, continued rest false h.1) refl
one_gives limits room bytes (span ∷ spans) rest up le h =
    let first = (span_reads limits).gives bytes span h.0.0 h.0.1 in
    let others = up.gives h.0.0 spans rest (omega (arith, span_shorter limits span bytes h.0.0 h.0.1)) (h.0.2, h.1) in
    rw (span_first limits span bytes h.0.0 h.0.1, first, others) refl

one_misses : (limits : Limits) (room : ℕ) (bytes : List ℕ) (left : ℕ) → ReadsUpTo limits room
    → length bytes ≤ suc room → FailsSpans limits bytes left → spans_from limits (suc room) bytes ≡ Err left
one_misses limits room bytes left up le ([], middle, same, c, f) =
    rw (same, continued middle true c, (span_reads limits).misses middle left f) refl
one_misses limits room bytes left up le (span ∷ spans, middle, some, c, f) =
    let first = (span_reads limits).gives bytes span some.0 some.1 in
    let others = up.misses some.0 left (omega (arith, span_shorter limits span bytes some.0 some.1)) (spans, middle, some.2, c, f) in
    rw (span_first limits span bytes some.0 some.1, first, others) refl

up_to_more : (limits : Limits) (room : ℕ) → ReadsUpTo limits room → ReadsUpTo limits (suc room)
up_to_more limits room up = record {
  takes = λ bytes spans rest le e.
      elim (decide (starts_number (skip bytes))) [
        | inl more ↦ one_takes limits room bytes spans rest up le (rw more at e)
        | inr none ↦ none_left limits bytes spans rest none (rw none at e)
      ];
  gives = λ bytes spans rest le h. one_gives limits room bytes spans rest up le h;
  stops = λ bytes left le e.
      elim (decide (starts_number (skip bytes))) [
        | inl more ↦ one_stops limits room bytes left up le more (rw more at e)
        | inr none ↦ absurd (spans_ok ([], bytes) left (rw none at e))
      ];
  misses = λ bytes left le f. one_misses limits room bytes left up le f;
}

pub up_to : (limits : Limits) (room : ℕ) → ReadsUpTo limits room
up_to limits zero = up_to_none limits
up_to limits (suc room) = up_to_more limits room (up_to limits room)

spans_reads : (limits : Limits) → Reads (HasSpans limits) (FailsSpans limits) (spans_at limits)
unfolding spans_at
spans_reads limits = record {
  takes = λ bytes spans rest e. (up_to limits (length bytes)).takes bytes spans rest (omega arith) e;
  gives = λ bytes spans rest h. (up_to limits (length bytes)).gives bytes spans rest (omega arith) h;
  stops = λ bytes left e. (up_to limits (length bytes)).stops bytes left (omega arith) e;
  misses = λ bytes left f. (up_to limits (length bytes)).misses bytes left (omega arith) f;
}

-- ---- rules

name_by : (w : List ℕ) (name value : RuleName) → w ≡ rule_word name → Some name ≡ Some value → IsRuleName value w
name_by w name value is e = subst (λ (x : RuleName). IsRuleName x w) (some_same {A = RuleName} name value e) is

name_sound : (w : List ℕ) (value : RuleName) → rule_name w ≡ Some value → IsRuleName value w
unfolding rule_name
name_sound w value e =
    elim (given w (codes "word") _ _ value e) [
      | inl p ↦ name_by w ForWord value p.0 p.1
      | inr e ↦ elim (given w (codes "blanks") _ _ value e) [
        | inl p ↦ name_by w ForBlanks value p.0 p.1
        | inr e ↦ elim (given w (codes "long") _ _ value e) [
          | inl p ↦ name_by w ForLong value p.0 p.1
          | inr e ↦ elim (given w (codes "pairs") _ _ value e) [
            | inl p ↦ name_by w ForPairs value p.0 p.1
            | inr e ↦ elim (given w (codes "repeat") _ _ value e) [
              | inl p ↦ name_by w ForRepeat value p.0 p.1
              | inr e ↦ nothing value e
            ]
          ]
        ]
      ]
    ]

name_full : (w : List ℕ) (value : RuleName) → IsRuleName value w → IsWord w × (rule_name w ≡ Some value)
unfolding rule_name
name_full w ForWord is = rw is (record { some = lit< tt; whole = refl }, refl)
name_full w ForBlanks is = rw is (record { some = lit< tt; whole = refl }, refl)
name_full w ForLong is = rw is (record { some = lit< tt; whole = refl }, refl)
name_full w ForPairs is = rw is (record { some = lit< tt; whole = refl }, refl)
name_full w ForRepeat is = rw is (record { some = lit< tt; whole = refl }, refl)

name_reads : Reads (λ name. Begins (IsRuleName name)) (Misfits IsRuleName) (word_at rule_name)
name_reads = word_reads IsRuleName _ (meaning_front IsRuleName rule_name name_sound name_full)

-- a part that makes a rule
abbrev done_rule : Rule × List ℕ → Reading Rule
done_rule pair = Ok pair

rule_ok : (pair : Rule × List ℕ) (left : ℕ) → done_rule pair ≡ Err left → ⊥
rule_ok pair left e = cc

made_reads : {A : Type 0} (make : A → Rule) (Has : A → List ℕ → List ℕ → Type 0) (FailsAt : List ℕ → ℕ → Type 0)
    (read : List ℕ → Reading A) → Reads Has FailsAt read
    → Reads (λ rule bytes rest. (value : A) × (rule ≡ make value) × Has value bytes rest) FailsAt
    (λ bytes. read bytes >>= λ x. Ok (make x.0, x.1))
made_reads {A} make Has FailsAt read reads = record {
  takes = λ bytes rule rest e.
      let p = bind_ok (read bytes) (λ x. Ok (make x.0, x.1)) (rule, rest) e in
      let is : (make p.0.0, p.0.1) ≡ (rule, rest) = done_same {A = Rule × List ℕ} (make p.0.0, p.0.1) (rule, rest) p.2 in
      let after : p.0.1 ≡ rest = ap (λ (z : Rule × List ℕ). z.1) is in (
        p.0.0,
        sym (ap (λ (z : Rule × List ℕ). z.0) is),
        subst (Has p.0.0 bytes) after (reads.takes bytes p.0.0 p.0.1 p.1),
      );
  gives = λ bytes rule rest h. rw (reads.gives bytes h.0 rest h.2, h.1) refl;
  stops = λ bytes left e.
      elim (bind_err (read bytes) (λ x. Ok (make x.0, x.1)) left e) [
        | inl f ↦ reads.stops bytes left f
        | inr p ↦ absurd (rule_ok (make p.0.0, p.0.1) left p.2)
      ];
  misses = λ bytes left f. rw (reads.misses bytes left f) refl;
}

-- a rule of which nothing follows the name
alone_reads : (rule : Rule) → Reads (λ value bytes rest. (value ≡ rule) × (bytes ≡ rest)) (λ bytes left. ⊥) (λ bytes. Ok (rule, bytes))
alone_reads rule = record {
  takes = λ bytes value rest e.
      let is : (rule, bytes) ≡ (value, rest) = done_same {A = Rule × List ℕ} (rule, bytes) (value, rest) e in
      (sym (ap (λ (z : Rule × List ℕ). z.0) is), ap (λ (z : Rule × List ℕ). z.1) is);
  gives = λ bytes value rest is. rw (is.0, is.1) refl;
  stops = λ bytes left e. rule_ok (rule, bytes) left e;
  misses = λ bytes left f. absurd f;
}

after_reads : (limits : Limits) (name : RuleName)
    → Reads (HasRuleAfter limits name) (FailsRuleAfter limits name) (rule_after limits name)
after_reads limits ForWord = made_reads {A = List ℕ} (λ units. rules.Word units) HasQuotedPattern (Misfits IsQuotedPattern) pattern_at pattern_reads
after_reads limits ForBlanks = alone_reads rules.Blanks
after_reads limits ForLong = made_reads {A = ℕ} (λ n. rules.Long n) (HasNumber limits AColumn) (FailsNumber limits AColumn) (number_at limits AColumn) (number_reads limits AColumn)
after_reads limits ForPairs = alone_reads rules.Pairs
after_reads limits ForRepeat = alone_reads rules.Repeat

rule_reads : (limits : Limits) → Reads (HasRule limits) (FailsRule limits) (rule_at limits)
unfolding rule_at
rule_reads limits =
    then_reads (λ name rule. rule) (λ name. Begins (IsRuleName name)) (Misfits IsRuleName) (word_at rule_name) (HasRuleAfter limits) (FailsRuleAfter limits) (rule_after limits)
    name_reads (after_reads limits)

-- ---- fields

pub field_reads : (limits : Limits) (kind : Kind) → Reads (HasField limits kind) (FailsField limits kind) (read_field limits kind)
field_reads limits (Number count) = number_reads limits count
field_reads limits (OrNone count) = or_none_reads limits count
field_reads limits APlace = place_reads limits
field_reads limits ASpan = span_reads limits
field_reads limits OrInvalid = or_invalid_reads limits
field_reads limits Spans = spans_reads limits
field_reads limits AText = text_reads
field_reads limits APattern = pattern_reads
field_reads limits AQuery = query_reads
field_reads limits ARule = rule_reads limits
field_reads limits Expands = expand_reads
field_reads limits Empties = empty_reads
field_reads limits Succeeds = succeeds_reads
field_reads limits Closes = closes_reads

no_fault : (limits : Limits) (bytes : List ℕ) (left : ℕ) → read_fields limits [] bytes ≡ Err left → ⊥
no_fault limits bytes left e = cc

pub fields_reads : (limits : Limits) (kinds : List Kind)
    → Reads (HasFields limits kinds) (FailsFields limits kinds) (read_fields limits kinds)
fields_reads limits [] = record {
  takes = λ bytes values rest e.
      ap (λ (z : Unit {0} × List ℕ). z.1) (done_same {A = Unit {0} × List ℕ} (tt, bytes) (values, rest) e);
  gives = λ bytes values rest is. rw is refl;
  stops = λ bytes left e. no_fault limits bytes left e;
  misses = λ bytes left f. absurd f;
}
fields_reads limits (kind ∷ kinds) =
    then_reads {C = Values (kind ∷ kinds)} (λ value others. (value, others)) (HasField limits kind) (FailsField limits kind) (read_field limits kind) (λ value. HasFields limits kinds) (λ value. FailsFields limits kinds) (λ value. read_fields limits kinds)
    (field_reads limits kind) (λ value. fields_reads limits kinds)
