-- From the rows of a table to its ranges by number, and back.
use Rattle.std.proofs.Common.{◌≡◌, ℕ, suc, ◌<◌, Bool, true, false, eqb, [], ◌∷◌, ◌++◌, length, take, drop, map, get_or, Option, Some, None, IsTrue, IsSome, refl, sym, ap, ◌∙◌, subst, ◌⊎◌, ⊎_elim, inl, inr, arith}
use Rattle.std.proofs.lemmas.Bool.Decides.{nat_tests}
use Rattle.std.proofs.lemmas.Grind.{common_steps}
use Rattle.std.proofs.lemmas.List.{get_or_default, get_or-map, length-map}
use Rattle.std.specs.List.{All, AllPairs}
use Rattle.std.specs.Option.{option_map}
use Rattle.std.specs.Ordering.{nat_cmp}
use Rattle.std.specs.FinMap.{get, find, from_entries, get-from_entries}
use Rattle.std.specs.Cmp.{nat_cmp_total}
use Rattle.kte_place.specs.declared.place.Place.{Place}
use Rattle.kte_place.specs.Ends.{Ends}
use Rattle.kte_place.specs.Cursors.{Hanging, place_of, cursor_at}
use Rattle.kte_ranges.specs.declared.info.RangeInfo.{RangeInfo}
use Rattle.kte_ranges.specs.Table.{Ranges, AllInfos}
use Rattle.kte_ranges.specs.Cursors.{Hung, is_among, holds_cursor, ends_at, span_of, Hangs, CursorsHang, CursorsApart}
use Rattle.kte_ranges.specs.Settling.{settled, settled_span, settled_info, cursors_kept, CursorsFollow}
use Rattle.kte_ranges.specs.Starts.{Rows}
use Rattle.kte_ranges.specs.declared.starts.Starts.{Starts}
use Rattle.kte_ranges.specs.Starts.{LeadTo}
use Rattle.std.proofs.lemmas.List.Elements.{All-map, All-weaker}
use Rattle.kte_ranges.specs.Rows.{IsRising, RowsFit, ShareNone, settled_row}
use Rattle.kte_ranges.proofs.Numbers.{found}
use Rattle.kte_ranges.proofs.Settled.{first_is_held, second_is_held}

find_every : (P : RangeInfo → Type 0) (rows : Rows) → All (λ row. P row.1) rows → (id : ℕ) (info : RangeInfo)
    → find nat_cmp id rows ≡ Some info → P info
find_every P [] all id info is = absurd (grind arith)
find_every P (x ∷ rows) all id info is = by_first (eqb id x.0) refl (find_every P rows (λ k d lt. all (suc k) d (omega arith)) id info)
  where
    by_first : (b : Bool) → eqb id x.0 ≡ b → (find nat_cmp id rows ≡ Some info → P info) → P info
    by_first true same behind =
        let it : x.1 ≡ info = grind (arith, nat_tests) in
        subst P it (all 0 x (omega arith))
    by_first false differs behind = behind (grind (arith, nat_tests))

-- what holds of each row holds of each range
pub every_range : (P : RangeInfo → Type 0) (rows : Rows) → All (λ row. P row.1) rows → AllInfos P (from_entries rows)
every_range P rows all id info is = find_every P rows all id info (sym (get-from_entries nat_cmp_total rows id) ∙ is)

find_map : (hung : Hung) (rows : Rows) (q : ℕ)
    → find nat_cmp q (map (settled_row hung) rows) ≡ option_map (settled_info hung) (find nat_cmp q rows)
find_map hung [] q = refl
find_map hung (x ∷ rows) q = grind (arith, nat_tests, find_map hung rows q)

pub ranges_settled : (hung : Hung) (rows : Rows) (q : ℕ)
    → get (from_entries {R = nat_cmp} (map (settled_row hung) rows)) q ≡ option_map (settled_info hung) (get (from_entries {R = nat_cmp} rows) q)
ranges_settled hung rows q =
    get-from_entries nat_cmp_total (map (settled_row hung) rows) q ∙ find_map hung rows q
    ∙ ap (option_map (settled_info hung)) (sym (get-from_entries nat_cmp_total rows q))

module _ (rows : Rows) (rising : IsRising rows) where
  pub at_its_place : (k : ℕ) (d : ℕ × RangeInfo) → k < length rows
      → get (from_entries {R = nat_cmp} rows) (get_or rows k d).0 ≡ Some (get_or rows k d).1
  at_its_place k d lt =
      found rows rising (get_or rows k d).0 k
      (record { in_range = lt; has_number = λ e. ap (λ row. row.0) (get_or_default rows k e d lt) }) d

  -- what holds of each range holds of each row
  pub every_row : (P : RangeInfo → Type 0) → AllInfos P (from_entries rows) → All (λ row. P row.1) rows
  every_row P all k d lt = all (get_or rows k d).0 (get_or rows k d).1 (at_its_place k d lt)

  pub rows_apart : CursorsApart (from_entries rows) → AllPairs ShareNone rows
  rows_apart apart i j d lt in_range n held = by_test (holds_cursor (get_or rows j d).1 n) refl where
    by_test : (b : Bool) → holds_cursor (get_or rows j d).1 n ≡ b → b ≡ false
    by_test false is = refl
    by_test true is =
        let same = apart.others (get_or rows i d).0 (get_or rows j d).0 n _ _ (at_its_place i d (omega arith)) (at_its_place j d in_range) held is in
        absurd (omega (arith, rising i j d lt in_range, same))

number_settled : (hung : Hung) (rows : Rows) (k : ℕ) (d : ℕ × RangeInfo) → k < length rows
    → (get_or (map (settled_row hung) rows) k d).0 ≡ (get_or rows k d).0
number_settled hung rows k d lt = ap (λ row. row.0) (get_or-map (settled_row hung) rows k d d lt)

pub kept_pair : (s : Option Ends) (o : Option (ℕ × ℕ)) (c : ℕ × ℕ) → cursors_kept s o ≡ Some c → o ≡ Some c
kept_pair None o c is = absurd (grind arith)
kept_pair (Some s) o c is = is

pub fits_settled : (hung : Hung) (rows : Rows) (next : ℕ) (starts : Starts) → RowsFit rows next starts → RowsFit (map (settled_row hung) rows) next starts
fits_settled hung rows next starts fit = record {
  rising = λ i j d lt in_range.
      let last : j < length rows = rw length-map at in_range in
      rw (number_settled hung rows i d (omega arith), number_settled hung rows j d last) (fit.rising i j d lt last);
  numbers = λ k d lt.
      let inside : k < length rows = rw length-map at lt in
      rw (number_settled hung rows k d inside) (fit.numbers k d inside);
  first = fit.first;
  bound = fit.bound;
  led = λ near. All-map (LeadTo starts.ids.items) (settled_row hung) rows
      (All-weaker (LeadTo starts.ids.items) (λ row. LeadTo starts.ids.items (settled_row hung row)) (λ row leads. record {
        inside = λ c is. leads.inside c (kept_pair (settled_span hung row.1) row.1.cursors c is);
        leads = λ c is. leads.leads c (kept_pair (settled_span hung row.1) row.1.cursors c is);
      }) rows (fit.led near));
}

written : (new old : Rows) (n : ℕ) → length new ≡ n → take n (new ++ drop (length new) old) ≡ new
written new old n is = grind (arith, common_steps)

-- the rows, of which a slice was settled whole
pub written_settled : (hung : Hung) (new slice rows : Rows) (n : ℕ) → new ≡ map (settled_row hung) slice → slice ≡ rows → length slice ≡ n
    → take n (new ++ drop (length new) rows) ≡ map (settled_row hung) rows
written_settled hung new slice rows n is same len =
    written new rows n (ap length is ∙ length-map _ _ ∙ len) ∙ is ∙ ap (map (settled_row hung)) same

-- a cursor's number among two
one_of_two : (n : ℕ) (c : ℕ × ℕ) → IsTrue (is_among (Some c) n) → (n ≡ c.0) ⊎ (n ≡ c.1)
one_of_two n c held = by_test (eqb n c.0) refl where
  by_test : (b : Bool) → eqb n c.0 ≡ b → (n ≡ c.0) ⊎ (n ≡ c.1)
  by_test true is = inl (grind (arith, nat_tests))
  by_test false is = inr (grind (arith, nat_tests))

-- a hung cursor that goes to a place stands there
place_sent : (place : Place) (h : Option Hanging) → IsSome h → place_of (cursor_at place h) ≡ Some place
place_sent place None hangs = absurd (grind arith)
place_sent place (Some h) hangs = refl

still_some : (place : Place) (h : Option Hanging) → IsSome h → IsSome (cursor_at place h)
still_some place None hangs = absurd (grind arith)
still_some place (Some h) hangs = hangs

first_hangs : (hung : Hung) (info : RangeInfo) (c : ℕ × ℕ) → Hangs hung info → info.cursors ≡ Some c → IsSome (get hung c.0)
first_hangs hung info c hangs is = hangs c.0 (first_is_held info c is)

second_hangs : (hung : Hung) (info : RangeInfo) (c : ℕ × ℕ) → Hangs hung info → info.cursors ≡ Some c → IsSome (get hung c.1)
second_hangs hung info c hangs is = hangs c.1 (second_is_held info c is)

module _ (old new : Hung) (info : RangeInfo) (hangs : Hangs old info) (follow : CursorsFollow old new info) where
  -- by what the range settles to
  span_by : (c : ℕ × ℕ) → info.cursors ≡ Some c → (s : Option Ends) → settled_span old info ≡ s → ends_at new (cursors_kept s (Some c)) ≡ s
  span_by c is None settles = refl
  span_by c is (Some s) settles =
      let start = rw settles at (follow.start c is) in
      let end = rw settles at (follow.end c is) in
      rw (start, end, place_sent s.start _ (first_hangs old info c hangs is), place_sent s.end _ (second_hangs old info c hangs is)) refl

  span_of_cursors : (o : Option (ℕ × ℕ)) → info.cursors ≡ o → ends_at new (cursors_kept (settled info.empty (ends_at old o)) o) ≡ settled info.empty (ends_at old o)
  span_of_cursors None is = refl
  span_of_cursors (Some c) is = span_by c is _ (ap (λ o. settled info.empty (ends_at old o)) is)

  -- the range stands where it settled to
  pub span_settled : span_of new (settled_info old info) ≡ settled_span old info
  span_settled = span_of_cursors info.cursors refl

  hangs_by : (s : Option Ends) → settled_span old info ≡ s → (o : Option (ℕ × ℕ)) → info.cursors ≡ o
      → (n : ℕ) → IsTrue (is_among (cursors_kept s o) n) → IsSome (get new n)
  hangs_by None settles o is n held = absurd (grind arith)
  hangs_by (Some s) settles None is n held = absurd (grind arith)
  hangs_by (Some s) settles (Some c) is n held =
      let start = rw settles at (follow.start c is) in
      let end = rw settles at (follow.end c is) in
      let first : IsSome (get new c.0) = rw start (still_some s.start _ (first_hangs old info c hangs is)) in
      let second : IsSome (get new c.1) = rw end (still_some s.end _ (second_hangs old info c hangs is)) in
      ⊎_elim (λ same. rw same first) (λ same. rw same second) (one_of_two n c held)

  -- its cursors still hang
  pub hangs_settled : Hangs new (settled_info old info)
  hangs_settled = hangs_by (settled_span old info) refl info.cursors refl

pub kept_among : (s : Option Ends) (o : Option (ℕ × ℕ)) (n : ℕ) → IsTrue (is_among (cursors_kept s o) n) → IsTrue (is_among o n)
kept_among None o n held = absurd (grind arith)
kept_among (Some s) o n held = held

-- a settled range came from a range of the same number
came_from : (f : RangeInfo → RangeInfo) (o : Option RangeInfo) (x : RangeInfo) → option_map f o ≡ Some x
    → (info : RangeInfo) × (o ≡ Some info) × (f info ≡ x)
came_from f None x is = absurd (grind arith)
came_from f (Some info) x is = (info, refl, grind arith)

module _ (old new : Hung) (before after : Ranges) (each : (id : ℕ) → get after id ≡ option_map (settled_info old) (get before id)) where
  pub cursors_hang : CursorsHang old before → AllInfos (CursorsFollow old new) before → CursorsHang new after
  cursors_hang hang follow id info is =
      let was = came_from (settled_info old) (get before id) info (sym (each id) ∙ is) in
      subst (Hangs new) was.2 (hangs_settled old new was.0 (hang id was.0 was.1) (follow id was.0 was.1))

  pub cursors_apart : CursorsApart before → CursorsApart after
  cursors_apart apart = record {
    own = λ id info is c pair.
        let was = came_from (settled_info old) (get before id) info (sym (each id) ∙ is) in
        let kept : (settled_info old was.0).cursors ≡ Some c = ap (λ x. x.cursors) was.2 ∙ pair in
        apart.own id was.0 was.1 c (kept_pair (settled_span old was.0) was.0.cursors c kept);
    others = λ i j n x y is_x is_y held_x held_y.
        let was_x = came_from (settled_info old) (get before i) x (sym (each i) ∙ is_x) in
        let was_y = came_from (settled_info old) (get before j) y (sym (each j) ∙ is_y) in
        apart.others i j n was_x.0 was_y.0 was_x.1 was_y.1
        (kept_among (settled_span old was_x.0) was_x.0.cursors n (subst (λ x. IsTrue (holds_cursor x n)) (sym was_x.2) held_x))
        (kept_among (settled_span old was_y.0) was_y.0.cursors n (subst (λ x. IsTrue (holds_cursor x n)) (sym was_y.2) held_y));
  }
