-- The order of places and of spans.
use Rattle.std.proofs.Common.{◌≡◌, ◌⊎◌, Option, None, Some, Bool, true, false, IsTrue, ◌&&◌, ◌||◌, inl, inr, refl, sym, arith}
use Rattle.std.proofs.lemmas.Bool.Decides.{nat_tests}
use Rattle.kte_place.specs.declared.place.Place.{Place}
use Rattle.kte_place.specs.Ends.{Ends}
use Rattle.kte_place.specs.Place.{is_at_or_before, is_before}
use Rattle.kte_fold.specs.Folds.{crosses, overlaps}
use Rattle.kte_fold.specs.Tree.{LiesIn, Precedes}

pub le_trans : (p q r : Place) → IsTrue (is_at_or_before p q) → IsTrue (is_at_or_before q r) → IsTrue (is_at_or_before p r)
le_trans p q r a b = grind (arith, nat_tests)

-- what lies in a fold that lies in another lies in that one too
pub lies_trans : (a b c : Option Ends) → LiesIn a b → LiesIn b c → LiesIn a c
lies_trans None b c h k = tt
lies_trans (Some a) None c h k = absurd h
lies_trans (Some a) (Some b) None h k = absurd k
lies_trans (Some a) (Some b) (Some c) h k =
    (le_trans c.start b.start a.start k.0 h.0, le_trans a.end b.end c.end h.1 k.1)

-- what lies in a fold before another is before that one too
pub lies_precedes : (a b c : Option Ends) → LiesIn a b → Precedes b c → Precedes a c
lies_precedes None b c h k = tt
lies_precedes (Some a) None c h k = absurd h
lies_precedes (Some a) (Some b) None h k = tt
lies_precedes (Some a) (Some b) (Some c) h k = le_trans a.end b.end c.start h.1 k

pub precedes_lies : (a b c : Option Ends) → Precedes a b → LiesIn c b → Precedes a c
precedes_lies None b c h k = tt
precedes_lies (Some a) b None h k = tt
precedes_lies (Some a) None (Some c) h k = absurd k
precedes_lies (Some a) (Some b) (Some c) h k = le_trans a.end b.start c.start h k.0

-- of two places one is at or before the other, or after it
pub compare : (p q : Place) → IsTrue (is_at_or_before p q) ⊎ IsTrue (is_before q p)
compare p q = grind (arith, nat_tests)

pub lt_le : (p q : Place) → IsTrue (is_before p q) → IsTrue (is_at_or_before p q)
lt_le p q h = grind (arith, nat_tests)

pub lt_trans_le : (p q r : Place) → IsTrue (is_before p q) → IsTrue (is_at_or_before q r) → IsTrue (is_before p r)
lt_trans_le p q r a b = grind (arith, nat_tests)

pub le_trans_lt : (p q r : Place) → IsTrue (is_at_or_before p q) → IsTrue (is_before q r) → IsTrue (is_before p r)
le_trans_lt p q r a b = grind (arith, nat_tests)

pub lt_not_le : (p q : Place) → IsTrue (is_before p q) → ¬ (IsTrue (is_at_or_before q p))
lt_not_le p q a b = absurd (grind (arith, nat_tests))

all_three : (x y z : Bool) → IsTrue x → IsTrue y → IsTrue z → IsTrue ((x && y) && (y && z))
all_three true true true a b c = a
all_three true true false a b c = c
all_three true false z a b c = b
all_three false y z a b c = a

or_left : (x y : Bool) → IsTrue x → IsTrue (x || y)
or_left true y a = a
or_left false y a = absurd (cc)

or_right : (x y : Bool) → IsTrue y → IsTrue (x || y)
or_right true y a = a-true where
  a-true : IsTrue true
  a-true = refl
or_right false y a = a

-- a starts before s, and s ends after a, but they overlap
pub cross_left : (a s : Ends) → IsTrue (is_before a.start s.start) → IsTrue (is_before s.start a.end) → IsTrue (is_before a.end s.end) → IsTrue (crosses a s)
cross_left a s p q r =
    or_right (overlaps a s) (overlaps s a) (all_three (is_before a.start s.start) (is_before s.start a.end) (is_before a.end s.end) p q r)

pub cross_right : (a s : Ends) → IsTrue (is_before s.start a.start) → IsTrue (is_before a.start s.end) → IsTrue (is_before s.end a.end) → IsTrue (crosses a s)
cross_right a s p q r =
    or_left (overlaps a s) (overlaps s a) (all_three (is_before s.start a.start) (is_before a.start s.end) (is_before s.end a.end) p q r)

not_both : (b : Bool) → IsTrue b → b ≡ false → ⊥
not_both b h e = cc

-- a fold that starts strictly after a span does lies in it or follows it, unless they cross
pub by_later_start : (a s : Ends) → IsTrue (is_before s.start a.start) → crosses a s ≡ false
    → LiesIn (Some a) (Some s) ⊎ Precedes (Some s) (Some a)
by_later_start a s h x = elim (compare s.end a.start) [
  | inl f ↦ inr f
  | inr g ↦ elim (compare a.end s.end) [
    | inl i ↦ inl (lt_le s.start a.start h, i)
    | inr j ↦ absurd (not_both (crosses a s) (cross_right a s h g j) x)
  ]
]

-- a fold that ends after the start of a span holds it, or lies in it or follows it, unless they cross
pub by_later_end : (a s : Ends) → IsTrue (is_before s.start a.end) → crosses a s ≡ false
    → ¬ (LiesIn (Some s) (Some a))
    → LiesIn (Some a) (Some s) ⊎ Precedes (Some s) (Some a)
by_later_end a s h x out = elim (compare a.start s.start) [
  | inr later ↦ by_later_start a s later x
  | inl le ↦ elim (compare s.end a.end) [
    | inl within ↦ absurd (out (le, within))
    | inr past ↦ elim (compare s.start a.start) [
      | inl ge ↦ inl (ge, lt_le a.end s.end past)
      | inr lt ↦ absurd (not_both (crosses a s) (cross_left a s lt h past) x)
    ]
  ]
]

-- what the tests of spans say
pub lies_when : (s t : Ends) → true ≡ (is_at_or_before t.start s.start && is_at_or_before s.end t.end) → LiesIn (Some s) (Some t)
lies_when s t h = both (is_at_or_before t.start s.start) (is_at_or_before s.end t.end) h where
  both : (x y : Bool) → true ≡ (x && y) → IsTrue x × IsTrue y
  both true true h = (refl, refl)
  both true false h = absurd (cc)
  both false y h = absurd (cc)

pub out_when : (s t : Ends) → false ≡ (is_at_or_before t.start s.start && is_at_or_before s.end t.end) → ¬ (LiesIn (Some s) (Some t))
out_when s t h l = neither (is_at_or_before t.start s.start) (is_at_or_before s.end t.end) h l.0 l.1 where
  neither : (x y : Bool) → false ≡ (x && y) → IsTrue x → IsTrue y → ⊥
  neither true true h a b = cc
  neither true false h a b = cc
  neither false y h a b = cc

pub later_when : (p q : Place) → false ≡ is_at_or_before p q → IsTrue (is_before q p)
later_when p q h = elim (compare p q) [ inl a ↦ absurd (not_both (is_at_or_before p q) a (sym h)) | inr b ↦ b ]
