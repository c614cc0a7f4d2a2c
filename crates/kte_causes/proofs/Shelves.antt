-- Lemmas on the places of a disk in memory: what is kept more leaves every earlier moment.
use Rattle.std.proofs.Common.{◌≡◌, ℕ, zero, suc, ◌+◌, ◌≤◌, Bool, true, false, List, [], ◌∷◌, ◌++◌, length, take, drop, map, subst, refl, sym, ap, ◌∙◌, arith, Some, slice_get}
use Rattle.std.specs.List.{AllByRecursion}
use Rattle.std.proofs.lemmas.List.{length-append, take-append-le, drop-append-le, length-drop, length-take, map-append, take_all}
use Rattle.std.proofs.Math.Seq.{drop-append_seam}
use Rattle.kte_causes.specs.Moments.{Moment, latest}
use Rattle.kte_causes.specs.declared.shelf.Place.{Place}
use Rattle.kte_causes.specs.declared.shelf.Change.{Change}
use Rattle.kte_causes.specs.declared.shelf.Change.TheVariants as change
use Rattle.kte_causes.specs.Shelf.{moment_of, IsWithin, IsInOrder, changed, counted, saved_bytes, swap_bytes, fault_of, place_after}
use Rattle.kte_causes.proofs.Added.{latest-push}

abbrev AllWithin : ℕ → ℕ → List Place → Type 0
AllWithin saved swap past = AllByRecursion (IsWithin saved swap) past

wider : (a b c d : ℕ) (s : Place) → a ≤ c → b ≤ d → IsWithin a b s → IsWithin c d s
wider a b c d s p q w = record {
  saved_fits = omega (arith, w.saved_fits, p);
  swap_fits = omega (arith, w.swap_fits, q);
  synced_fits = w.synced_fits;
}

all_wider : (a b c d : ℕ) (past : List Place) → a ≤ c → b ≤ d → AllWithin a b past → AllWithin c d past
all_wider a b c d [] p q h = tt
all_wider a b c d (s ∷ past) p q h = (wider a b c d s p q h.0, all_wider a b c d past p q h.1)

all_push : (a b : ℕ) (past : List Place) (s : Place) → AllWithin a b past → IsWithin a b s → AllWithin a b (past ++ s ∷ [])
all_push a b [] s h w = (w, tt)
all_push a b (t ∷ past) s h w = (h.0, all_push a b past s h.1 w)

-- a part of what was kept before is the same
part-more : (from n : ℕ) (xs ys : List ℕ) → from + n ≤ length xs → take n (drop from (xs ++ ys)) ≡ take n (drop from xs)
part-more from n xs ys le =
    ap (λ (l : List ℕ). take n l) (drop-append-le from xs ys (omega (arith, le)))
    ∙ take-append-le n (drop from xs) ys (omega (arith, le, length-drop from xs))

moment-more : (saved swap xs ys : List ℕ) (s : Place) → IsWithin (length saved) (length swap) s → moment_of (saved ++ xs) (swap ++ ys) s ≡ moment_of saved swap s
moment-more saved swap xs ys s w =
    rw (part-more s.saved_from s.saved_len saved xs w.saved_fits, part-more s.swap_from s.swap_len swap ys w.swap_fits) refl

moments-more : (saved swap xs ys : List ℕ) (past : List Place) → AllWithin (length saved) (length swap) past → map (moment_of (saved ++ xs) (swap ++ ys)) past ≡ map (moment_of saved swap) past
moments-more saved swap xs ys [] h = refl
moments-more saved swap xs ys (s ∷ past) h =
    ap (λ (m : Moment). m ∷ map (moment_of (saved ++ xs) (swap ++ ys)) past) (moment-more saved swap xs ys s h.0)
    ∙ ap (λ (l : List Moment). moment_of saved swap s ∷ l) (moments-more saved swap xs ys past h.1)

-- the part that ends where all ends
end-part : (from n : ℕ) (xs : List ℕ) → from + n ≡ length xs → take n (drop from xs) ≡ drop from xs
end-part from n xs e = take_all n (drop from xs) (omega (arith, e, length-drop from xs))

end-more : (from n : ℕ) (xs ys : List ℕ) → from + n ≡ length xs → take (n + length ys) (drop from (xs ++ ys)) ≡ take n (drop from xs) ++ ys
end-more from n xs ys e =
    end-part from (n + length ys) (xs ++ ys) (omega (arith, e, length-append xs ys))
    ∙ drop-append-le from xs ys (omega (arith, e))
    ∙ ap (λ (l : List ℕ). l ++ ys) (sym (end-part from n xs e))

-- what is kept last
last-part : (xs ys : List ℕ) → take (length ys) (drop (length xs) (xs ++ ys)) ≡ ys
last-part xs ys =
    ap (λ (l : List ℕ). take (length ys) l) (drop-append_seam xs ys)
    ∙ take_all (length ys) ys (omega arith)

-- moments with the same files and numbers are the same
same_moment : (saved saved' swap swap' : List ℕ) (synced synced' faults faults' : ℕ) → saved ≡ saved' → swap ≡ swap' → synced ≡ synced' → faults ≡ faults' → let m : Moment = record { saved = saved; swap = swap; synced = synced; faults = faults } in m ≡ record { saved = saved'; swap = swap'; synced = synced'; faults = faults' }
same_moment saved saved' swap swap' synced synced' faults faults' p q r s = rw (p, q, r, s) refl

counted-is : (failed : Bool) (m : Moment) → record m { faults = m.faults + fault_of failed } ≡ counted failed m
counted-is true m = refl
counted-is false m = same_moment m.saved m.saved m.swap m.swap m.synced m.synced (m.faults + 0) m.faults refl refl refl (omega arith)

-- the moment of the place after a change
moment-changed : (saved swap : List ℕ) (p : Place) (c : Change) (failed : Bool) → IsWithin (length saved) (length swap) p → p.swap_from + p.swap_len ≡ length swap → moment_of (saved ++ saved_bytes c) (swap ++ swap_bytes c) (place_after p c failed (length saved) (length swap)) ≡ counted failed (changed c (moment_of saved swap p))
moment-changed saved swap p change.Keep failed w e =
    same_moment _ _ _ _ _ _ _ _ (part-more p.saved_from p.saved_len saved [] w.saved_fits) (part-more p.swap_from p.swap_len swap [] w.swap_fits) refl refl
    ∙ counted-is failed (moment_of saved swap p)
moment-changed saved swap p (change.Append bytes) failed w e =
    same_moment _ _ _ _ _ _ _ _ (part-more p.saved_from p.saved_len saved [] w.saved_fits) (end-more p.swap_from p.swap_len swap bytes.now e) refl refl
    ∙ counted-is failed (changed (change.Append bytes) (moment_of saved swap p))
moment-changed saved swap p change.Sync failed w e =
    let whole : p.swap_len ≡ length (take p.swap_len (drop p.swap_from swap)) = omega (arith, length-take p.swap_len (drop p.swap_from swap), length-drop p.swap_from swap, e) in
    same_moment _ _ _ _ _ _ _ _ (part-more p.saved_from p.saved_len saved [] w.saved_fits) (part-more p.swap_from p.swap_len swap [] w.swap_fits) whole refl
    ∙ counted-is failed (changed change.Sync (moment_of saved swap p))
moment-changed saved swap p (change.Replace bytes) failed w e =
    same_moment _ _ _ _ _ _ _ _ (last-part saved bytes.now) (part-more p.swap_from p.swap_len swap [] w.swap_fits) refl refl
    ∙ counted-is failed (changed (change.Replace bytes) (moment_of saved swap p))
moment-changed saved swap p change.Empty failed w e =
    same_moment _ _ _ _ _ _ _ _ (part-more p.saved_from p.saved_len saved [] w.saved_fits) refl refl refl
    ∙ counted-is failed (changed change.Empty (moment_of saved swap p))

-- one moment more
pub added : (saved swap : List ℕ) (past : List Place) (p : Place) (c : Change) (failed : Bool) → IsInOrder saved swap past p → map (moment_of (saved ++ saved_bytes c) (swap ++ swap_bytes c)) ((past ++ p ∷ []) ++ place_after p c failed (length saved) (length swap) ∷ []) ≡ map (moment_of saved swap) (past ++ p ∷ []) ++ counted failed (changed c (moment_of saved swap p)) ∷ []
added saved swap past p c failed o =
    let all = all_push (length saved) (length swap) past p o.earlier o.present_fits in
    let next = place_after p c failed (length saved) (length swap) in
    map-append (moment_of (saved ++ saved_bytes c) (swap ++ swap_bytes c)) (past ++ p ∷ []) (next ∷ [])
    ∙ ap (λ (l : List Moment). l ++ moment_of (saved ++ saved_bytes c) (swap ++ swap_bytes c) next ∷ []) (moments-more saved swap (saved_bytes c) (swap_bytes c) (past ++ p ∷ []) all)
    ∙ ap (λ (m : Moment). map (moment_of saved swap) (past ++ p ∷ []) ++ m ∷ []) (moment-changed saved swap p c failed o.present_fits o.at_the_end)

pub latest-map : (saved swap : List ℕ) (past : List Place) (p : Place) → latest (map (moment_of saved swap) (past ++ p ∷ [])) ≡ moment_of saved swap p
latest-map saved swap past p =
    ap latest (map-append (moment_of saved swap) past (p ∷ []))
    ∙ latest-push (map (moment_of saved swap) past) (moment_of saved swap p)

-- the place after a change lies within what is kept then, and its swap ends there
pub record FitsAfter (saved swap : List ℕ) (p : Place) (c : Change) (next : Place) : Type 0 where
  pub within : IsWithin (length (saved ++ saved_bytes c)) (length (swap ++ swap_bytes c)) next
  pub at_the_end : next.swap_from + next.swap_len ≡ length (swap ++ swap_bytes c)
  pub faults : next.faults ≤ p.faults + 1

fault_of-le : (failed : Bool) → fault_of failed ≤ 1
fault_of-le true = omega arith
fault_of-le false = omega arith

fits-changed : (saved swap : List ℕ) (p : Place) (c : Change) (failed : Bool) → IsWithin (length saved) (length swap) p → p.swap_from + p.swap_len ≡ length swap → FitsAfter saved swap p c (place_after p c failed (length saved) (length swap))
fits-changed saved swap p change.Keep failed w e = record {
  within = record { saved_fits = omega (arith, length-append saved [], w.saved_fits); swap_fits = omega (arith, length-append swap [], w.swap_fits); synced_fits = w.synced_fits };
  at_the_end = omega (arith, e, length-append swap []);
  faults = omega (arith, fault_of-le failed);
}
fits-changed saved swap p (change.Append bytes) failed w e = record {
  within = record { saved_fits = omega (arith, length-append saved [], w.saved_fits); swap_fits = omega (arith, length-append swap bytes.now, e); synced_fits = omega (arith, w.synced_fits) };
  at_the_end = omega (arith, e, length-append swap bytes.now);
  faults = omega (arith, fault_of-le failed);
}
fits-changed saved swap p change.Sync failed w e = record {
  within = record { saved_fits = omega (arith, length-append saved [], w.saved_fits); swap_fits = omega (arith, length-append swap [], w.swap_fits); synced_fits = omega arith };
  at_the_end = omega (arith, e, length-append swap []);
  faults = omega (arith, fault_of-le failed);
}
fits-changed saved swap p (change.Replace bytes) failed w e = record {
  within = record { saved_fits = omega (arith, length-append saved bytes.now); swap_fits = omega (arith, length-append swap [], w.swap_fits); synced_fits = w.synced_fits };
  at_the_end = omega (arith, e, length-append swap []);
  faults = omega (arith, fault_of-le failed);
}
fits-changed saved swap p change.Empty failed w e = record {
  within = record { saved_fits = omega (arith, length-append saved [], w.saved_fits); swap_fits = omega (arith, length-append swap []); synced_fits = omega arith };
  at_the_end = omega (arith, length-append swap []);
  faults = omega (arith, fault_of-le failed);
}

pub order-more : (saved swap : List ℕ) (past : List Place) (p : Place) (c : Change) (failed : Bool) → IsInOrder saved swap past p → IsInOrder (saved ++ saved_bytes c) (swap ++ swap_bytes c) (past ++ p ∷ []) (place_after p c failed (length saved) (length swap))
order-more saved swap past p c failed o =
    let fits = fits-changed saved swap p c failed o.present_fits o.at_the_end in
    let more_saved = length-append saved (saved_bytes c) in
    let more_swap = length-append swap (swap_bytes c) in
    record {
      earlier = all_wider _ _ _ _ (past ++ p ∷ []) (omega (arith, more_saved)) (omega (arith, more_swap)) (all_push (length saved) (length swap) past p o.earlier o.present_fits);
      present_fits = fits.within;
      at_the_end = fits.at_the_end;
      few_faults = omega (arith, fits.faults, o.few_faults, length-append past (p ∷ []));
    }

-- no more of a swap is synced than it has
pub synced-fits : (saved swap : List ℕ) (past : List Place) (p : Place) → IsInOrder saved swap past p → let m = latest (map (moment_of saved swap) (past ++ p ∷ [])) in m.synced ≤ length m.swap
synced-fits saved swap past p o =
    let w = o.present_fits in
    rw (latest-map saved swap past p) (omega (arith, w.synced_fits, w.swap_fits, length-take p.swap_len (drop p.swap_from swap), length-drop p.swap_from swap))

-- a place that is there lies within what is kept
within-at : (a b : ℕ) (places : List Place) (i : ℕ) (s : Place) → AllWithin a b places → slice_get places i ≡ Some s → IsWithin a b s
within-at a b [] i s all at = absurd cc
within-at a b (p ∷ places) zero s all at = let same : p ≡ s = cc in subst (IsWithin a b) same all.0
within-at a b (p ∷ places) (suc i) s all at = within-at a b places i s all.1 at

pub place-within : (saved swap : List ℕ) (past : List Place) (p : Place) (i : ℕ) (s : Place) → IsInOrder saved swap past p → slice_get (past ++ p ∷ []) i ≡ Some s → IsWithin (length saved) (length swap) s
place-within saved swap past p i s o at =
    within-at _ _ (past ++ p ∷ []) i s (all_push _ _ past p o.earlier o.present_fits) at
