-- A text around one of its lines, and what each primitive at that line makes of it.
use Rattle.std.proofs.Common.{◌≡◌, ℕ, ◌+◌, ◌-◌, ◌<◌, List, [], ◌∷◌, ◌++◌, length, take, drop, sym, ◌∙◌, append_assoc, length-append, arith}
use Rattle.std.proofs.lemmas.List.{take_at, drop_at, drop_all, take_more, get_or-append-add}
use Rattle.kte_text.specs.Texts.{line_at}
use Rattle.kte_text.specs.Primitives.{after}
use Rattle.kte_text.specs.declared.primitive.Primitive.TheVariants.{Wrap, Unwrap, Insert, Remove}
use Rattle.kte_text.proofs.FlatLemmas.{set_line}

pub line_around : (front : List (List ℕ)) (line : List ℕ) (back : List (List ℕ)) (n : ℕ) → length front ≡ n
    → line_at (front ++ line ∷ back) n ≡ line
line_around front line back n is =
    let e : n ≡ length front + 0 = omega arith in
    rw e (get_or-append-add front (line ∷ back) 0 [])

drop_around : (front : List (List ℕ)) (line : List ℕ) (back : List (List ℕ)) (n : ℕ) → length front ≡ n
    → drop (n + 1) (front ++ line ∷ back) ≡ back
drop_around front line back n is =
    rw (← append_assoc front (line ∷ []) back)
    (drop_at (front ++ line ∷ []) back (n + 1) (omega (arith, length-append front (line ∷ []))))

length_around : (front : List (List ℕ)) (line : List ℕ) (back : List (List ℕ)) (n : ℕ) → length front ≡ n
    → n < length (front ++ line ∷ back)
length_around front line back n is = omega (arith, length-append front (line ∷ back))

pub wrap_around : (front : List (List ℕ)) (line : List ℕ) (back : List (List ℕ)) (n column : ℕ) → length front ≡ n
    → after (Wrap n column) (front ++ line ∷ back) ≡ front ++ take column line ∷ drop column line ∷ back
wrap_around front line back n column is =
    rw (line_around front line back n is, drop_around front line back n is, take_at front (line ∷ back) n is)

set_around : (front : List (List ℕ)) (line new : List ℕ) (back : List (List ℕ)) (n : ℕ) → length front ≡ n
    → take n (front ++ line ∷ back) ++ new ∷ drop (n + 1) (front ++ line ∷ back) ≡ front ++ new ∷ back
set_around front line new back n is =
    rw (drop_around front line back n is, take_at front (line ∷ back) n is)

pub insert_around : (front : List (List ℕ)) (line : List ℕ) (back : List (List ℕ)) (n column : ℕ) (units : List ℕ)
    → length front ≡ n
    → after (Insert n column units) (front ++ line ∷ back)
    ≡ front ++ (take column line ++ units ++ drop column line) ∷ back
insert_around front line back n column units is =
    rw (line_around front line back n is)
    (set_line (front ++ line ∷ back) n (take column line ++ units ++ drop column line) (length_around front line back n is)
    ∙ set_around front line (take column line ++ units ++ drop column line) back n is)

pub remove_around : (front : List (List ℕ)) (line : List ℕ) (back : List (List ℕ)) (n column units : ℕ) → length front ≡ n
    → after (Remove n column units) (front ++ line ∷ back)
    ≡ front ++ (take column line ++ drop (column + units) line) ∷ back
remove_around front line back n column units is =
    rw (line_around front line back n is)
    (set_line (front ++ line ∷ back) n (take column line ++ drop (column + units) line) (length_around front line back n is)
    ∙ set_around front line (take column line ++ drop (column + units) line) back n is)

pub unwrap_around : (front : List (List ℕ)) (first second : List ℕ) (back : List (List ℕ)) (n : ℕ) → length front ≡ n
    → after (Unwrap (n + 1)) (front ++ first ∷ second ∷ back) ≡ front ++ (first ++ second) ∷ back
unwrap_around front first second back n is =
    let e : n + 1 - 1 ≡ n = omega arith in
    let a = line_around front first (second ∷ back) n is in
    let long = length-append front (first ∷ []) in
    let g : front ++ first ∷ second ∷ back ≡ (front ++ first ∷ []) ++ second ∷ back = sym (append_assoc front (first ∷ []) (second ∷ back)) in
    let b : line_at (front ++ first ∷ second ∷ back) (n + 1) ≡ second =
    rw g (line_around (front ++ first ∷ []) second back (n + 1) (omega (arith, long))) in
    let d : drop (n + 1 + 1) (front ++ first ∷ second ∷ back) ≡ back =
    rw g (drop_around (front ++ first ∷ []) second back (n + 1) (omega (arith, long))) in
    rw (e, a, b, d, take_at front (first ∷ second ∷ back) n is)

-- a line with everything of it removed
pub emptied : (line : List ℕ) → take 0 line ++ drop (0 + length line) line ≡ []
emptied line = drop_all (0 + length line) line (omega arith)

-- the lines up to one, and that one
pub take_next : (text : List (List ℕ)) (n : ℕ) (rest : List (List ℕ)) → n < length text
    → take (n + 1) text ++ rest ≡ take n text ++ line_at text n ∷ rest
take_next text n rest inside =
    rw (take_more text n [] inside) (append_assoc (take n text) (line_at text n ∷ []) rest)
