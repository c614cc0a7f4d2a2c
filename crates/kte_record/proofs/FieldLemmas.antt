-- Where a number of a record is missing or at fault.
use Rattle.std.proofs.Common.{◌≡◌, ℕ, ◌+◌, ◌-◌, ◌<◌, ◌≤◌, List, [], ◌∷◌, ◌++◌, length, get_or, take, drop, replicate, subst, refl, sym, ap, ◌∙◌, append_assoc, arith, None, Err}
use Rattle.std.specs.Prelude.{slice_get, IsSomeAnd}
use Rattle.std.specs.List.{Contains}
use Rattle.std.proofs.lemmas.List.{length-append, length-replicate, length-take-le, take_at, take-append-drop}
use Rattle.std.proofs.Math.Seq.{take-append-add}
use Rattle.kte_record.specs.Grammar.{Item, starts, finishes, wraps, unwraps, inserts, removes, number, spelling, IsRecord, Begins, IsCutShort, FirstFault, field_starts, field_end}
use Rattle.kte_record.specs.Reading.{ReadsNumber, ReadsRecord}
use Rattle.kte_record.specs.declared.record.TheConstants.{MAX_NUMBER, MAX_TEXT_LENGTH}
use Rattle.kte_record.specs.declared.reading.Gap.{Gap}
use Rattle.kte_record.specs.declared.reading.Gap.TheVariants.{Cut, Fault}

abbrev pub tag : Item → ℕ
tag starts = 0x53
tag finishes = 0x45
tag (wraps line column) = 0x57
tag (unwraps line) = 0x55
tag (inserts line column text) = 0x49
tag (removes line start end) = 0x52

pub first_is_tag : (item : Item) (t : ℕ) (x rest : List ℕ) → t ∷ x ≡ spelling item ++ rest → t ≡ tag item
first_is_tag starts t x rest e = ap (λ (l : List ℕ). get_or l 0 0) e
first_is_tag finishes t x rest e = ap (λ (l : List ℕ). get_or l 0 0) e
first_is_tag (wraps line column) t x rest e = ap (λ (l : List ℕ). get_or l 0 0) e
first_is_tag (unwraps line) t x rest e = ap (λ (l : List ℕ). get_or l 0 0) e
first_is_tag (inserts line column text) t x rest e = ap (λ (l : List ℕ). get_or l 0 0) e
first_is_tag (removes line start end) t x rest e = ap (λ (l : List ℕ). get_or l 0 0) e

only_wraps : (P : Item → Type 0) → ((line column : ℕ) → P (wraps line column)) → (item : Item) → 0x57 ≡ tag item → P item
only_wraps P f starts e = absurd (omega (arith, e))
only_wraps P f finishes e = absurd (omega (arith, e))
only_wraps P f (wraps line column) e = f line column
only_wraps P f (unwraps line) e = absurd (omega (arith, e))
only_wraps P f (inserts line column text) e = absurd (omega (arith, e))
only_wraps P f (removes line start end) e = absurd (omega (arith, e))

only_unwraps : (P : Item → Type 0) → ((line : ℕ) → P (unwraps line)) → (item : Item) → 0x55 ≡ tag item → P item
only_unwraps P f starts e = absurd (omega (arith, e))
only_unwraps P f finishes e = absurd (omega (arith, e))
only_unwraps P f (wraps line column) e = absurd (omega (arith, e))
only_unwraps P f (unwraps line) e = f line
only_unwraps P f (inserts line column text) e = absurd (omega (arith, e))
only_unwraps P f (removes line start end) e = absurd (omega (arith, e))

only_inserts : (P : Item → Type 0) → ((line column : ℕ) (text : List ℕ) → P (inserts line column text)) → (item : Item) → 0x49 ≡ tag item
    → P item
only_inserts P f starts e = absurd (omega (arith, e))
only_inserts P f finishes e = absurd (omega (arith, e))
only_inserts P f (wraps line column) e = absurd (omega (arith, e))
only_inserts P f (unwraps line) e = absurd (omega (arith, e))
only_inserts P f (inserts line column text) e = f line column text
only_inserts P f (removes line start end) e = absurd (omega (arith, e))

only_removes : (P : Item → Type 0) → ((line start end : ℕ) → P (removes line start end)) → (item : Item) → 0x52 ≡ tag item → P item
only_removes P f starts e = absurd (omega (arith, e))
only_removes P f finishes e = absurd (omega (arith, e))
only_removes P f (wraps line column) e = absurd (omega (arith, e))
only_removes P f (unwraps line) e = absurd (omega (arith, e))
only_removes P f (inserts line column text) e = absurd (omega (arith, e))
only_removes P f (removes line start end) e = f line start end

-- a record that has this number after these bytes
record Next (before : List ℕ) (n : ℕ) : Type 0 where
  pub item : Item
  pub is_record : IsRecord item
  pub tail : List ℕ
  pub spelled : spelling item ≡ before ++ (number n ++ tail)

-- the bytes go on with a number
record GoesOn (most : ℕ) (bytes : List ℕ) : Type 0 where
  pub n : ℕ
  pub small : n ≤ most
  pub tail : List ℕ
  pub spelled : bytes ≡ number n ++ tail

-- after these bytes of a record comes a number, and each number up to this one may stand there
record Field (before : List ℕ) (most : ℕ) : Type 0 where
  pub start : Contains field_starts (length before)
  pub end : field_end (length before) ≡ length before + 4
  pub next : (n : ℕ) → n ≤ most → Next before n
  pub only : (item : Item) (x rest : List ℕ) → IsRecord item → before ++ x ≡ spelling item ++ rest → GoesOn most x

at_one : Contains field_starts 1
at_one = (1, omega arith, refl)

at_five : Contains field_starts 5
at_five = (2, omega arith, refl)

at_nine : Contains field_starts 9
at_nine = (3, omega arith, refl)

wrap_line : Field (0x57 ∷ []) MAX_NUMBER
wrap_line = record {
  start = at_one;
  end = refl;
  next = λ n small. record { item = wraps n 0; is_record = (small, omega arith); tail = number 0; spelled = refl };
  only = λ item x rest h e.
      only_wraps (λ i. IsRecord i → (0x57 ∷ []) ++ x ≡ spelling i ++ rest → GoesOn MAX_NUMBER x)
      (λ l k r s. record { n = l; small = r.0; tail = number k ++ rest; spelled = ap (λ (b : List ℕ). drop 1 b) s })
      item (first_is_tag item 0x57 x rest e) h e;
}

wrap_column : (line : ℕ) → line ≤ MAX_NUMBER → Field (0x57 ∷ number line) MAX_NUMBER
wrap_column line known = record {
  start = at_five;
  end = refl;
  next = λ n small. record { item = wraps line n; is_record = (known, small); tail = []; spelled = refl };
  only = λ item x rest h e.
      only_wraps (λ i. IsRecord i → (0x57 ∷ number line) ++ x ≡ spelling i ++ rest → GoesOn MAX_NUMBER x)
      (λ l k r s. record { n = k; small = r.1; tail = rest; spelled = ap (λ (b : List ℕ). drop 5 b) s })
      item (first_is_tag item 0x57 (number line ++ x) rest e) h e;
}

unwrap_line : Field (0x55 ∷ []) MAX_NUMBER
unwrap_line = record {
  start = at_one;
  end = refl;
  next = λ n small. record { item = unwraps n; is_record = small; tail = []; spelled = refl };
  only = λ item x rest h e.
      only_unwraps (λ i. IsRecord i → (0x55 ∷ []) ++ x ≡ spelling i ++ rest → GoesOn MAX_NUMBER x)
      (λ l r s. record { n = l; small = r; tail = rest; spelled = ap (λ (b : List ℕ). drop 1 b) s })
      item (first_is_tag item 0x55 x rest e) h e;
}

insert_line : Field (0x49 ∷ []) MAX_NUMBER
insert_line = record {
  start = at_one;
  end = refl;
  next = λ n small. record { item = inserts n 0 []; is_record = (small, omega arith, omega arith); tail = number 0 ++ number 0; spelled = refl };
  only = λ item x rest h e.
      only_inserts (λ i. IsRecord i → (0x49 ∷ []) ++ x ≡ spelling i ++ rest → GoesOn MAX_NUMBER x)
      (λ l k t r s. record { n = l; small = r.0; tail = number k ++ (number (length t) ++ (t ++ rest)); spelled = ap (λ (b : List ℕ). drop 1 b) s })
      item (first_is_tag item 0x49 x rest e) h e;
}

insert_column : (line : ℕ) → line ≤ MAX_NUMBER → Field (0x49 ∷ number line) MAX_NUMBER
insert_column line known = record {
  start = at_five;
  end = refl;
  next = λ n small. record { item = inserts line n []; is_record = (known, small, omega arith); tail = number 0; spelled = refl };
  only = λ item x rest h e.
      only_inserts (λ i. IsRecord i → (0x49 ∷ number line) ++ x ≡ spelling i ++ rest → GoesOn MAX_NUMBER x)
      (λ l k t r s. record { n = k; small = r.1; tail = number (length t) ++ (t ++ rest); spelled = ap (λ (b : List ℕ). drop 5 b) s })
      item (first_is_tag item 0x49 (number line ++ x) rest e) h e;
}

insert_length : (line column : ℕ) → line ≤ MAX_NUMBER → column ≤ MAX_NUMBER
    → Field ((0x49 ∷ number line) ++ number column) MAX_TEXT_LENGTH
insert_length line column line_known column_known = record {
  start = at_nine;
  end = refl;
  next = λ n small.
      let long = length-replicate {A = ℕ} n 0 in
      record {
        item = inserts line column (replicate n 0);
        is_record = (line_known, column_known, omega (arith, long));
        tail = replicate n 0;
        spelled = ap (λ (m : ℕ). ((0x49 ∷ number line) ++ number column) ++ (number m ++ replicate n 0)) long;
      };
  only = λ item x rest h e.
      only_inserts (λ i. IsRecord i → ((0x49 ∷ number line) ++ number column) ++ x ≡ spelling i ++ rest → GoesOn MAX_TEXT_LENGTH x)
      (λ l k t r s. record { n = length t; small = r.2; tail = t ++ rest; spelled = ap (λ (b : List ℕ). drop 9 b) s })
      item (first_is_tag item 0x49 (number line ++ number column ++ x) rest e) h e;
}

remove_line : Field (0x52 ∷ []) MAX_NUMBER
remove_line = record {
  start = at_one;
  end = refl;
  next = λ n small. record { item = removes n 0 0; is_record = (small, omega arith, omega arith); tail = number 0 ++ number 0; spelled = refl };
  only = λ item x rest h e.
      only_removes (λ i. IsRecord i → (0x52 ∷ []) ++ x ≡ spelling i ++ rest → GoesOn MAX_NUMBER x)
      (λ l k m r s. record { n = l; small = r.0; tail = number k ++ (number m ++ rest); spelled = ap (λ (b : List ℕ). drop 1 b) s })
      item (first_is_tag item 0x52 x rest e) h e;
}

remove_start : (line : ℕ) → line ≤ MAX_NUMBER → Field (0x52 ∷ number line) MAX_NUMBER
remove_start line known = record {
  start = at_five;
  end = refl;
  next = λ n small. record { item = removes line n 0; is_record = (known, small, omega arith); tail = number 0; spelled = refl };
  only = λ item x rest h e.
      only_removes (λ i. IsRecord i → (0x52 ∷ number line) ++ x ≡ spelling i ++ rest → GoesOn MAX_NUMBER x)
      (λ l k m r s. record { n = k; small = r.1; tail = number m ++ rest; spelled = ap (λ (b : List ℕ). drop 5 b) s })
      item (first_is_tag item 0x52 (number line ++ x) rest e) h e;
}

remove_end : (line start : ℕ) → line ≤ MAX_NUMBER → start ≤ MAX_NUMBER
    → Field ((0x52 ∷ number line) ++ number start) MAX_NUMBER
remove_end line start line_known start_known = record {
  start = at_nine;
  end = refl;
  next = λ n small. record { item = removes line start n; is_record = (line_known, start_known, small); tail = []; spelled = refl };
  only = λ item x rest h e.
      only_removes (λ i. IsRecord i → ((0x52 ∷ number line) ++ number start) ++ x ≡ spelling i ++ rest → GoesOn MAX_NUMBER x)
      (λ l k m r s. record { n = m; small = r.2; tail = rest; spelled = ap (λ (b : List ℕ). drop 9 b) s })
      item (first_is_tag item 0x52 (number line ++ number start ++ x) rest e) h e;
}

-- why a number of a record was not read is why the record was not
gap : (before bytes : List ℕ) (most : ℕ) (e : Gap) → Field before most → bytes ≡ before ++ drop (length before) bytes
    → ReadsNumber most (length before) bytes (Err e) → ReadsRecord bytes (Err e)
gap before bytes most Cut field there r =
    let rest = drop (length before) bytes in
    let next = field.next r.n r.small in
    record {
      item = next.item;
      is_record = next.is_record;
      missing = r.missing ++ next.tail;
      some = omega (arith, r.some, length-append r.missing next.tail);
      spelled = next.spelled ∙ ap (λ (l : List ℕ). before ++ (l ++ next.tail)) r.spelled
          ∙ ap (λ (l : List ℕ). before ++ l) (append_assoc rest r.missing next.tail)
          ∙ sym (append_assoc before rest (r.missing ++ next.tail))
          ∙ ap (λ (l : List ℕ). l ++ (r.missing ++ next.tail)) (sym there);
    }
gap before bytes most (Fault at) field there r =
    let rest = drop (length before) bytes in
    let next = field.next 0 (omega arith) in
    let front : take (length before) bytes ≡ before =
    ap (λ (l : List ℕ). take (length before) l) there ∙ take_at before rest (length before) refl in
    let whole : take (field_end (length before)) bytes ≡ before ++ take 4 rest =
    ap (λ (n : ℕ). take n bytes) field.end ∙ ap (λ (l : List ℕ). take (length before + 4) l) there
    ∙ take-append-add before rest 4 in
    subst (λ (n : ℕ). FirstFault bytes n) (sym r.0) (record {
      field = field.start;
      before = subst IsCutShort (sym front) (record {
        item = next.item;
        is_record = next.is_record;
        missing = number 0 ++ next.tail;
        some = omega arith;
        spelled = next.spelled;
      });
      fault = λ item more tail h e.
          let g = field.only item (take 4 rest ++ more) tail h
          (sym (append_assoc before (take 4 rest) more) ∙ ap (λ (l : List ℕ). l ++ more) (sym whole) ∙ e) in
          r.1 g.n more g.tail g.small g.spelled;
    })

-- the first byte, and the bytes after it
pub first_is : (bytes : List ℕ) (t : ℕ) → IsSomeAnd (slice_get bytes 0) (λ tag. tag ≡ t) → bytes ≡ (t ∷ []) ++ drop 1 bytes
first_is [] t h = absurd h
first_is (x ∷ bytes) t h = ap (λ (u : ℕ). u ∷ bytes) h

-- one more number
pub and_number : (before bytes : List ℕ) (n : ℕ) → bytes ≡ before ++ drop (length before) bytes
    → drop (length before) bytes ≡ number n ++ drop (length before + 4) bytes
    → bytes ≡ (before ++ number n) ++ drop (length before + 4) bytes
and_number before bytes n there e =
    there ∙ ap (λ (l : List ℕ). before ++ l) e ∙ sym (append_assoc before (number n) (drop (length before + 4) bytes))

pub wrap_line_gap : (bytes : List ℕ) (e : Gap) → bytes ≡ (0x57 ∷ []) ++ drop 1 bytes
    → ReadsNumber MAX_NUMBER 1 bytes (Err e) → ReadsRecord bytes (Err e)
wrap_line_gap bytes e there r = gap (0x57 ∷ []) bytes MAX_NUMBER e wrap_line there r

pub wrap_column_gap : (bytes : List ℕ) (line : ℕ) (e : Gap) → line ≤ MAX_NUMBER → bytes ≡ (0x57 ∷ number line) ++ drop 5 bytes
    → ReadsNumber MAX_NUMBER 5 bytes (Err e) → ReadsRecord bytes (Err e)
wrap_column_gap bytes line e known there r =
    gap (0x57 ∷ number line) bytes MAX_NUMBER e (wrap_column line known) there r

pub unwrap_line_gap : (bytes : List ℕ) (e : Gap) → bytes ≡ (0x55 ∷ []) ++ drop 1 bytes
    → ReadsNumber MAX_NUMBER 1 bytes (Err e) → ReadsRecord bytes (Err e)
unwrap_line_gap bytes e there r = gap (0x55 ∷ []) bytes MAX_NUMBER e unwrap_line there r

pub insert_line_gap : (bytes : List ℕ) (e : Gap) → bytes ≡ (0x49 ∷ []) ++ drop 1 bytes
    → ReadsNumber MAX_NUMBER 1 bytes (Err e) → ReadsRecord bytes (Err e)
insert_line_gap bytes e there r = gap (0x49 ∷ []) bytes MAX_NUMBER e insert_line there r

pub insert_column_gap : (bytes : List ℕ) (line : ℕ) (e : Gap) → line ≤ MAX_NUMBER → bytes ≡ (0x49 ∷ number line) ++ drop 5 bytes
    → ReadsNumber MAX_NUMBER 5 bytes (Err e) → ReadsRecord bytes (Err e)
insert_column_gap bytes line e known there r =
    gap (0x49 ∷ number line) bytes MAX_NUMBER e (insert_column line known) there r

pub insert_length_gap : (bytes : List ℕ) (line column : ℕ) (e : Gap) → line ≤ MAX_NUMBER → column ≤ MAX_NUMBER
    → bytes ≡ ((0x49 ∷ number line) ++ number column) ++ drop 9 bytes
    → ReadsNumber MAX_TEXT_LENGTH 9 bytes (Err e) → ReadsRecord bytes (Err e)
insert_length_gap bytes line column e known fits there r =
    gap ((0x49 ∷ number line) ++ number column) bytes MAX_TEXT_LENGTH e (insert_length line column known fits) there r

pub remove_line_gap : (bytes : List ℕ) (e : Gap) → bytes ≡ (0x52 ∷ []) ++ drop 1 bytes
    → ReadsNumber MAX_NUMBER 1 bytes (Err e) → ReadsRecord bytes (Err e)
remove_line_gap bytes e there r = gap (0x52 ∷ []) bytes MAX_NUMBER e remove_line there r

pub remove_start_gap : (bytes : List ℕ) (line : ℕ) (e : Gap) → line ≤ MAX_NUMBER → bytes ≡ (0x52 ∷ number line) ++ drop 5 bytes
    → ReadsNumber MAX_NUMBER 5 bytes (Err e) → ReadsRecord bytes (Err e)
remove_start_gap bytes line e known there r =
    gap (0x52 ∷ number line) bytes MAX_NUMBER e (remove_start line known) there r

pub remove_end_gap : (bytes : List ℕ) (line start : ℕ) (e : Gap) → line ≤ MAX_NUMBER → start ≤ MAX_NUMBER
    → bytes ≡ ((0x52 ∷ number line) ++ number start) ++ drop 9 bytes
    → ReadsNumber MAX_NUMBER 9 bytes (Err e) → ReadsRecord bytes (Err e)
remove_end_gap bytes line start e known fits there r =
    gap ((0x52 ∷ number line) ++ number start) bytes MAX_NUMBER e (remove_end line start known fits) there r

-- the text of an insertion is cut short
pub text_cut : (bytes : List ℕ) (line column n : ℕ) → line ≤ MAX_NUMBER → column ≤ MAX_NUMBER → n ≤ MAX_TEXT_LENGTH
    → bytes ≡ (((0x49 ∷ number line) ++ number column) ++ number n) ++ drop 13 bytes → length (drop 13 bytes) < n → IsCutShort bytes
text_cut bytes line column n known fits small there short =
    let rest = drop 13 bytes in
    let missing = replicate (n - length rest) 0 in
    let long : length (rest ++ missing) ≡ n =
    length-append rest missing ∙ omega (arith, short, length-replicate {A = ℕ} (n - length rest) 0) in
    let before = ((0x49 ∷ number line) ++ number column) ++ number n in
    record {
      item = inserts line column (rest ++ missing);
      is_record = (known, fits, omega (arith, long, small));
      missing = missing;
      some = omega (arith, short, length-replicate {A = ℕ} (n - length rest) 0);
      spelled = ap (λ (m : ℕ). (((0x49 ∷ number line) ++ number column) ++ number m) ++ (rest ++ missing)) long
          ∙ sym (append_assoc before rest missing) ∙ ap (λ (l : List ℕ). l ++ missing) (sym there);
    }

-- nothing is cut short of a record
pub none_cut : (bytes : List ℕ) → slice_get bytes 0 ≡ None → IsCutShort bytes
none_cut [] e = record { item = starts; is_record = tt; missing = 0x53 ∷ []; some = omega arith; spelled = refl }
none_cut (x ∷ bytes) e = absurd (cc)

-- the text of an insertion
pub text_whole : (bytes text : List ℕ) (line column n : ℕ) → line ≤ MAX_NUMBER → column ≤ MAX_NUMBER → n ≤ MAX_TEXT_LENGTH
    → bytes ≡ (((0x49 ∷ number line) ++ number column) ++ number n) ++ drop 13 bytes → n ≤ length (drop 13 bytes)
    → text ≡ take n (drop 13 bytes) → Begins bytes (inserts line column text) × (n ≡ length text)
text_whole bytes text line column n known fits small there enough e =
    let long : n ≡ length text = sym (ap length e ∙ length-take-le n (drop 13 bytes) enough) in
    let before = ((0x49 ∷ number line) ++ number column) in (
      record {
        is_record = (known, fits, omega (arith, long, small));
        rest = drop n (drop 13 bytes);
        spelled = there ∙ ap (λ (l : List ℕ). (before ++ number n) ++ l) (sym (take-append-drop n (drop 13 bytes)))
            ∙ ap (λ (l : List ℕ). (before ++ number n) ++ (l ++ drop n (drop 13 bytes))) (sym e)
            ∙ ap (λ (m : ℕ). (before ++ number m) ++ (text ++ drop n (drop 13 bytes))) long;
      },
      long,
    )
