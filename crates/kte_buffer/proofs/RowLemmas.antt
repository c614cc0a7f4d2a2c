-- What edits of rows do to their lines.
use Rattle.std.proofs.Common.{◌≡◌, ◌≢◌, inl, inr, ℕ, suc, ◌+◌, ◌-◌, ◌<◌, ◌≤◌, List, [], ◌∷◌, ◌++◌, length, get_or, set, take, drop, map, sym, ap, ◌∙◌, arith, add-one, add_comm}
use Rattle.std.proofs.lemmas.List.{map-append, map-set, take-map, drop-map, get_or-map, get_or-set_same, get_or-set_other, set-get_or, take_rest, get_or-drop, length-take, length-map, length-take-le, append_assoc, take_more_set, drop-set-lt, set-append_left, take-take, set_split, drop_all}
use Rattle.std.proofs.lemmas.List.Edits.{get_or-remove_below}
use Rattle.std.proofs.lemmas.Bool.{cases_eq}
use Rattle.std.specs.List.{insert, remove}
use Rattle.std.specs.Vec.{with_item, vec_capacity, vec_len}
use Rattle.std.specs.declared.vec.Vec.{Vec}
use Rattle.kte_buffer.specs.Rows.{lines_in, row_at, capacity_at, OnlyGrows}

-- a row and a new one after the place that is written
pub insert-set : {X : Type 0} (xs : List X) (i : ℕ) (x y : X) → i < length xs
    → insert (set xs i x) (i + 1) y ≡ take i xs ++ x ∷ y ∷ drop (i + 1) xs
insert-set xs i x y within =
    ap (λ front. front ++ y ∷ drop (i + 1) (set xs i x)) (take_more_set xs i x within)
    ∙ ap (λ back. (take i xs ++ x ∷ []) ++ y ∷ back) (drop-set-lt (i + 1) xs i x (omega arith))
    ∙ append_assoc (take i xs) (x ∷ []) (y ∷ drop (i + 1) xs)

-- the place before the one that is removed is written
pub set-remove : {X : Type 0} (xs : List X) (i : ℕ) (x : X) → i + 1 < length xs
    → set (remove xs (i + 1)) i x ≡ take i xs ++ x ∷ drop (i + 1 + 1) xs
set-remove xs i x within =
    let front : length (take (i + 1) xs) ≡ i + 1 = length-take-le (i + 1) xs (omega arith) in
    set-append_left (take (i + 1) xs) (drop (suc (i + 1)) xs) i x (omega arith)
    ∙ ap (λ front. front ++ drop (suc (i + 1)) xs) (set_split (take (i + 1) xs) i x (omega arith)
    ∙ ap (λ back. take i (take (i + 1) xs) ++ x ∷ back) (drop_all (suc i) (take (i + 1) xs) (omega arith))
    ∙ ap (λ front. front ++ x ∷ []) (take-take i (i + 1) xs (omega arith)))
    ∙ append_assoc (take i xs) (x ∷ []) (drop (suc (i + 1)) xs)
    ∙ ap (λ n. take i xs ++ x ∷ drop n xs) (sym (add-one (i + 1)))

module _ {Z : Type 0} where
  -- the units of the row that is read
  pub row_at-read : (rows : List (Vec ℕ Z)) (i : ℕ) (row : Vec ℕ Z) → i < length rows → row ≡ get_or rows i row
      → row.items ≡ row_at rows i
  row_at-read rows i row within read =
      ap (λ row. row.items) read ∙ sym (get_or-map (λ (row : Vec ℕ Z). row.items) rows i row [] within)

  pub lines_in-set : (rows : List (Vec ℕ Z)) (i : ℕ) (row : Vec ℕ Z) → lines_in (set rows i row) ≡ set (lines_in rows) i row.items
  lines_in-set rows i row = map-set (λ (row : Vec ℕ Z). row.items) rows i row

  pub lines_in-insert : (rows : List (Vec ℕ Z)) (i : ℕ) (row : Vec ℕ Z) → lines_in (insert rows i row) ≡ insert (lines_in rows) i row.items
  lines_in-insert rows i row =
      let units : Vec ℕ Z → List ℕ = λ row. row.items in
      map-append units (take i rows) (row ∷ drop i rows)
      ∙ ap (λ front. front ++ row.items ∷ map units (drop i rows)) (sym (take-map units i rows))
      ∙ ap (λ back. take i (map units rows) ++ row.items ∷ back) (sym (drop-map units i rows))

  pub lines_in-remove : (rows : List (Vec ℕ Z)) (i : ℕ) → lines_in (remove rows i) ≡ remove (lines_in rows) i
  lines_in-remove rows i =
      let units : Vec ℕ Z → List ℕ = λ row. row.items in
      map-append units (take i rows) (drop (suc i) rows)
      ∙ ap (λ front. front ++ map units (drop (suc i) rows)) (sym (take-map units i rows))
      ∙ ap (λ back. take i (map units rows) ++ back) (sym (drop-map units (suc i) rows))

  -- a row is changed in place
  pub changed_row : (rows : List (Vec ℕ Z)) (i : ℕ) (row new : Vec ℕ Z) (f : List ℕ → List ℕ) → i < length rows → row ≡ get_or rows i row
      → new.items ≡ f row.items → lines_in (set rows i new) ≡ set (lines_in rows) i (f (row_at rows i))
  changed_row rows i row new f within read made =
      lines_in-set rows i new ∙ ap (set (lines_in rows) i) (made ∙ ap f (row_at-read rows i row within read))

  -- a row is cut, and its end stands after it
  pub wrapped_row : (rows : List (Vec ℕ Z)) (i k : ℕ) (row head tail : Vec ℕ Z) → i < length rows → row ≡ get_or rows i row
      → head.items ≡ take k row.items → tail.items ≡ drop k row.items
      → lines_in (insert (set rows i head) (i + 1) tail)
      ≡ take i (lines_in rows) ++ take k (row_at rows i) ∷ drop k (row_at rows i) ∷ drop (i + 1) (lines_in rows)
  wrapped_row rows i k row head tail within read first second =
      let read' = row_at-read rows i row within read in
      lines_in-insert (set rows i head) (i + 1) tail
      ∙ ap (λ lines. insert lines (i + 1) tail.items) (lines_in-set rows i head)
      ∙ insert-set (lines_in rows) i head.items tail.items (omega (arith, length-map rows (λ (row : Vec ℕ Z). row.items)))
      ∙ ap (λ x. take i (lines_in rows) ++ x ∷ tail.items ∷ drop (i + 1) (lines_in rows)) (first ∙ ap (take k) read')
      ∙ ap (λ x. take i (lines_in rows) ++ take k (row_at rows i) ∷ x ∷ drop (i + 1) (lines_in rows)) (second ∙ ap (drop k) read')

  joined_below : (rows : List (Vec ℕ Z)) (i : ℕ) (row joined tail : Vec ℕ Z) → i + 1 < length rows
      → row ≡ get_or (remove rows (i + 1)) i row → tail ≡ get_or rows (i + 1) tail
      → joined.items ≡ row.items ++ tail.items
      → lines_in (set (remove rows (i + 1)) i joined)
      ≡ take i (lines_in rows) ++ (row_at rows i ++ row_at rows (i + 1)) ∷ drop (i + 1 + 1) (lines_in rows)
  joined_below rows i row joined tail within read last made =
      let first : row ≡ get_or rows i row = read ∙ get_or-remove_below rows (i + 1) row i (omega arith) within in
      let units : joined.items ≡ row_at rows i ++ row_at rows (i + 1) =
      made ∙ ap (λ x. x ++ tail.items) (row_at-read rows i row (omega arith) first)
      ∙ ap (λ x. row_at rows i ++ x) (row_at-read rows (i + 1) tail within last) in
      lines_in-set (remove rows (i + 1)) i joined
      ∙ ap (λ lines. set lines i joined.items) (lines_in-remove rows (i + 1))
      ∙ set-remove (lines_in rows) i joined.items (omega (arith, length-map rows (λ (row : Vec ℕ Z). row.items)))
      ∙ ap (λ x. take i (lines_in rows) ++ x ∷ drop (i + 1 + 1) (lines_in rows)) units

  -- a row is joined to the one before it
  pub joined_row : (rows left : List (Vec ℕ Z)) (i j : ℕ) (row joined tail : Vec ℕ Z) → i + 1 ≡ j → j < length rows
      → left ≡ remove rows j → row ≡ get_or left i row → tail ≡ get_or rows j tail
      → joined.items ≡ row.items ++ tail.items
      → lines_in (set left i joined)
      ≡ take i (lines_in rows) ++ (row_at rows i ++ row_at rows j) ∷ drop (j + 1) (lines_in rows)
  joined_row rows left i j row joined tail next within removed read last made =
      let read' : row ≡ get_or (remove rows (i + 1)) i row = rw (next, ← removed) read in
      let last' : tail ≡ get_or rows (i + 1) tail = rw next last in
      let all = joined_below rows i row joined tail (omega arith) read' last' made in
      rw removed (rw next at all)

  -- a row that is written without a change of its units leaves the lines
  lines_in-same : (rows : List (Vec ℕ Z)) (i : ℕ) (row new : Vec ℕ Z) → i < length rows → row ≡ get_or rows i row
      → new.items ≡ row.items → lines_in (set rows i new) ≡ lines_in rows
  lines_in-same rows i row new within read same =
      lines_in-set rows i new
      ∙ ap (set (lines_in rows) i) (same ∙ row_at-read rows i row within read)
      ∙ set-get_or (lines_in rows) i []

  -- the room of the row that is written, and of the others
  pub capacity_at-set : (rows : List (Vec ℕ Z)) (i : ℕ) (new : Vec ℕ Z) → i < length rows → capacity_at (set rows i new) i ≡ vec_capacity new
  capacity_at-set rows i new within =
      let room : Vec ℕ Z → ℕ = λ row. vec_capacity row in
      ap (λ xs. get_or xs i 0) (map-set room rows i new)
      ∙ get_or-set_same (map room rows) i (room new) 0 (omega (arith, length-map rows room))

  capacity_at-other : (rows : List (Vec ℕ Z)) (i n : ℕ) (new : Vec ℕ Z) → n ≢ i → capacity_at (set rows i new) n ≡ capacity_at rows n
  capacity_at-other rows i n new other =
      let room : Vec ℕ Z → ℕ = λ row. vec_capacity row in
      ap (λ xs. get_or xs n 0) (map-set room rows i new)
      ∙ get_or-set_other (map room rows) i n (room new) 0 other

  capacity_at-read : (rows : List (Vec ℕ Z)) (i : ℕ) (row : Vec ℕ Z) → i < length rows → row ≡ get_or rows i row → vec_capacity row ≡ capacity_at rows i
  capacity_at-read rows i row within read =
      let room : Vec ℕ Z → ℕ = λ row. vec_capacity row in
      ap room read ∙ sym (get_or-map room rows i row 0 within)

  -- a row that gets more room
  pub grown_row : {Y : Type 0} (rows : Vec (Vec ℕ Z) Y) (i : ℕ) (row new : Vec ℕ Z) → i < length rows.items → row ≡ get_or rows.items i row
      → new.items ≡ row.items → vec_capacity row ≤ vec_capacity new → OnlyGrows rows (with_item rows i new)
  grown_row rows i row new within read same more =
      record {
        lines = lines_in-same rows.items i row new within read same;
        rows = omega arith;
        units = λ n. elim (cases_eq n i) [
          | inl here ↦
              let e : capacity_at (set rows.items i new) n ≡ vec_capacity new = rw here (capacity_at-set rows.items i new within) in
              let f : vec_capacity row ≡ capacity_at rows.items n = rw here (capacity_at-read rows.items i row within read) in
              omega arith
          | inr other ↦ let e = capacity_at-other rows.items i n new other in omega (arith, e)
        ];
      }

  -- the room that a row got
  pub room_in_row : {Y : Type 0} (rows : Vec (Vec ℕ Z) Y) (i added : ℕ) (row new : Vec ℕ Z) → i < length rows.items → row ≡ get_or rows.items i row
      → new.items ≡ row.items → vec_len new + added ≤ vec_capacity new
      → length (row_at rows.items i) + added ≤ capacity_at (set rows.items i new) i
  room_in_row rows i added row new within read same room =
      omega (
        arith,
        ap length (row_at-read rows.items i row within read),
        ap length same,
        capacity_at-set rows.items i new within,
      )

  -- a walk over all rows but the first comes to a row that is there, and reads it
  pub later_within : (rows : List (Vec ℕ Z)) (k : ℕ) → k < length (take (length rows - 1) (drop 1 rows)) → k + 1 < length (lines_in rows)
  later_within rows k within =
      omega (arith, length-take (length rows - 1) (drop 1 rows), length-map rows (λ (row : Vec ℕ Z). row.items))

  pub later_row : (rows : List (Vec ℕ Z)) (k : ℕ) (row : Vec ℕ Z) → k < length (take (length rows - 1) (drop 1 rows))
      → row ≡ get_or (take (length rows - 1) (drop 1 rows)) k row → row.items ≡ row_at rows (k + 1)
  later_row rows k row within read =
      let there = later_within rows k within in
      row_at-read rows (k + 1) row (omega (arith, length-map rows (λ (row : Vec ℕ Z). row.items)))
      (read ∙ ap (λ xs. get_or xs k row) (take_rest rows 1) ∙ get_or-drop 1 rows k row ∙ ap (λ n. get_or rows n row) (add_comm 1 k))
