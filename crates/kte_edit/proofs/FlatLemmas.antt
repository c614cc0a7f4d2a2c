-- A text as one list: a part of it replaced.
use Rattle.std.proofs.Common.{◌≡◌, ℕ, ◌+◌, ◌-◌, ◌<◌, ◌≤◌, List, [], ◌∷◌, ◌++◌, length, take, drop, sum_by, sym, refl, ap, ◌∙◌, append_assoc, length-append, take-append-drop, arith}
use Rattle.std.proofs.lemmas.List.{take_at, drop_at, take_more, length-take-le}
use Rattle.std.proofs.lemmas.List.Sums.{sum_by-cons, sum_by-append}
use Rattle.std.specs.List.{flat_map}
use Rattle.kte_text.specs.Texts.{line_at}
use Rattle.kte_text.specs.Flat.{flatten, start_of, spliced}
use Rattle.kte_text.proofs.FlatLemmas.{split_at}
use Rattle.kte_place.specs.Span.{ends}
use Rattle.kte_place.specs.Ends.{Ends}
use Rattle.kte_edit.specs.Parts.{offset, replaced}
use Rattle.kte_edit.proofs.ListLemmas.{held}

-- lines, each with its line end
abbrev ended : List (List ℕ) → List ℕ
ended lines = flat_map (λ line. line ++ 10 ∷ []) lines

-- lines, each after a line end
abbrev begun : List (List ℕ) → List ℕ
begun lines = flat_map (λ line. 10 ∷ line) lines

begun-around : (front : List (List ℕ)) (line : List ℕ) (back : List (List ℕ))
    → begun (front ++ line ∷ back) ≡ 10 ∷ (ended front ++ (line ++ begun back))
begun-around [] line back = refl
begun-around (x ∷ front) line back = rw (begun-around front line back) (simp append_assoc)

flatten-around : (front : List (List ℕ)) (line : List ℕ) (back : List (List ℕ))
    → flatten (front ++ line ∷ back) ≡ ended front ++ (line ++ begun back)
flatten-around [] line back = refl
flatten-around (x ∷ front) line back = rw (begun-around front line back) (simp append_assoc)

length-ended : (lines : List (List ℕ)) → length (ended lines) ≡ sum_by (λ units. length units + 1) lines
length-ended [] = refl
length-ended (x ∷ lines) =
    omega (
      arith,
      length-append (x ++ 10 ∷ []) (ended lines),
      length-append x (10 ∷ []),
      sum_by-cons (λ (units : List ℕ). length units + 1) x lines,
      length-ended lines,
    )

begun-held : (units : List ℕ) (lines : List (List ℕ)) (rest : List ℕ) (back : List (List ℕ))
    → begun (held units lines rest ++ back) ≡ 10 ∷ (units ++ (begun lines ++ (rest ++ begun back)))
begun-held units [] rest back = simp append_assoc
begun-held units (next ∷ lines) rest back = rw (begun-held next lines rest back) (simp append_assoc)

flatten-held : (front : List (List ℕ)) (units : List ℕ) (lines : List (List ℕ)) (rest : List ℕ) (back : List (List ℕ))
    → flatten (front ++ held units lines rest ++ back) ≡ ended front ++ (units ++ (begun lines ++ (rest ++ begun back)))
flatten-held front units [] rest back =
    rw (append_assoc front ((units ++ rest) ∷ []) back) (flatten-around front (units ++ rest) back ∙ simp append_assoc)
flatten-held front units (next ∷ lines) rest back =
    rw (append_assoc front (units ∷ held next lines rest) back)
    (flatten-around front units (held next lines rest ++ back) ∙ rw (begun-held next lines rest back) (simp append_assoc))

-- the list before a place, and the list from it on
abbrev before : List (List ℕ) → ℕ → ℕ → List ℕ
before text line column = ended (take line text) ++ take column (line_at text line)

abbrev beyond : List (List ℕ) → ℕ → ℕ → List ℕ
beyond text line column = drop column (line_at text line) ++ begun (drop (line + 1) text)

cut_at : (text : List (List ℕ)) (line column : ℕ) → line < length text
    → flatten text ≡ before text line column ++ beyond text line column
cut_at text line column inside =
    let l = line_at text line in
    ap flatten (split_at text line inside)
    ∙ flatten-around (take line text) l (drop (line + 1) text)
    ∙ ap (λ (x : List ℕ). ended (take line text) ++ (x ++ begun (drop (line + 1) text))) (sym (take-append-drop column l))
    ∙ simp append_assoc

length-before : (text : List (List ℕ)) (line column : ℕ) → column ≤ length (line_at text line)
    → length (before text line column) ≡ start_of text line + column
length-before text line column within =
    omega (
      arith,
      length-append (ended (take line text)) (take column (line_at text line)),
      length-ended (take line text),
      length-take-le column (line_at text line) within,
    )

-- the start of the next line
pub start_of-next : (text : List (List ℕ)) (line : ℕ) → line < length text
    → start_of text (line + 1) ≡ start_of text line + (length (line_at text line) + 1)
start_of-next text line inside =
    let f = λ (units : List ℕ). length units + 1 in
    rw (take_more text line [] inside)
    (omega (
      arith,
      sum_by-append f (take line text) (line_at text line ∷ []),
      sum_by-cons f (line_at text line) [],
    ))

-- a replacement of the list between two offsets
between_offsets : (old new front gone come last rest : List ℕ) (from to : ℕ)
    → old ≡ front ++ gone → old ≡ last ++ rest → new ≡ front ++ (come ++ rest)
    → length front ≡ from → length last ≡ to → from ≤ to
    → new ≡ spliced from (to - from) come old
between_offsets old new front gone come last rest from to cut again is starts ends order =
    let first : take from old ≡ front = rw cut (take_at front gone from starts) in
    let e : from + (to - from) ≡ to = omega arith in
    let later : drop (from + (to - from)) old ≡ rest = rw (e, again) (drop_at last rest to ends) in
    rw (is, first, later) (sym (append_assoc front come rest))

-- lines in place of a part of a text
pub part_replaced : (text : List (List ℕ)) (part : Ends) (units : List ℕ) (lines : List (List ℕ))
    → part.start.line < length text → part.end.line < length text
    → part.start.column ≤ length (line_at text part.start.line)
    → part.end.column ≤ length (line_at text part.end.line)
    → offset text part.start ≤ offset text part.end
    → flatten (take part.start.line text
    ++ held (take part.start.column (line_at text part.start.line) ++ units) lines
    (drop part.end.column (line_at text part.end.line))
    ++ drop (part.end.line + 1) text)
    ≡ replaced text part (flatten (units ∷ lines))
part_replaced text part units lines starts ends within last order =
    let a = part.start.line in
    let b = part.end.line in
    between_offsets (flatten text) _ (before text a part.start.column) (beyond text a part.start.column) (flatten (units ∷ lines))
    (before text b part.end.column) (beyond text b part.end.column) (offset text part.start) (offset text part.end)
    (cut_at text a part.start.column starts)
    (cut_at text b part.end.column ends)
    (flatten-held (take a text) (take part.start.column (line_at text a) ++ units) lines (drop part.end.column (line_at text b)) (drop (b + 1) text)
    ∙ simp append_assoc)
    (length-before text a part.start.column within)
    (length-before text b part.end.column last)
    order
