-- The tree as a fold goes, and as one comes.
use Rattle.std.proofs.Common.{◌≡◌, ℕ, ◌+◌, ◌-◌, ◌<◌, ◌≤◌, ◌⊎◌, List, length, slice_index, Option, Some, inl, inr, sym, subst, arith}
use Rattle.kte_place.specs.Ends.{Ends}
use Rattle.kte_fold.specs.Folds.{Spans}
use Rattle.kte_fold.specs.Tree.{LiesIn, Precedes, span_at}
use Rattle.kte_fold.specs.Inside.{Left, Descended, IsAbove, IsPast, LieInside, Follow}

data Side : ℕ → ℕ → Type 0 where
  below : {k at : ℕ} → k < at → Side k at
  here : {k at : ℕ} → k ≡ at → Side k at
  above : {k at : ℕ} → at < k → Side k at

side : (k at : ℕ) → Side k at
side k at = elim (cases k at) [ inl h ↦ below h | inr r ↦ elim r [ inl e ↦ here e | inr h ↦ above h ] ] where
  cases : (k at : ℕ) → (k < at) ⊎ ((k ≡ at) ⊎ (at < k))
  cases k at = grind arith

-- what is inside the folds stays inside the list and nests, by the places of folds
pub record Sound (len : ℕ) (N : ℕ → ℕ) : Type 0 where
  pub fits : (i : ℕ) → i < len → i + N i < len
  pub nests : (i j : ℕ) → i < len → i < j → j ≤ i + N i → j + N j ≤ i + N i

-- the spans keep the tree
pub record Kept (len : ℕ) (N : ℕ → ℕ) (P : ℕ → Option Ends) : Type 0 where
  pub nested : (i j : ℕ) → j < len → i < j → j ≤ i + N i → LiesIn (P j) (P i)
  pub apart : (i j : ℕ) → j < len → i + N i < j → Precedes (P i) (P j)

lies : (a b c d : Option Ends) → a ≡ c → b ≡ d → LiesIn c d → LiesIn a b
lies a b c d e f h = subst (λ x. LiesIn x b) (sym e) (subst (λ y. LiesIn c y) (sym f) h)

precedes : (a b c d : Option Ends) → a ≡ c → b ≡ d → Precedes c d → Precedes a b
precedes a b c d e f h = subst (λ x. Precedes x b) (sym e) (subst (λ y. Precedes c y) (sym f) h)

-- the fold at a place goes
module _ (len at : ℕ) (N N' : ℕ → ℕ) (old : Sound (len + 1) N) (there : at ≤ len)
    (left : (i : ℕ) → i < at → Left at i (N i) (N' i)) (shifted : (i : ℕ) → at ≤ i → N' i ≡ N (i + 1)) where
  nests_below : (i j : ℕ) → i < at → i < len → i < j → j ≤ i + N' i → j + N' j ≤ i + N' i
  nests_below i j b h l u =
      let w = left i b in
      let x = w.holding in
      let y = w.before in
      elim (side j at) [
        | below k ↦
            let v = left j k in
            let p = v.holding in
            let q = v.before in
            let n = old.nests i j (omega arith) l in
            grind arith
        | here e ↦
            let p = shifted j (omega arith) in
            let n = old.nests i (j + 1) (omega arith) (omega arith) in
            grind arith
        | above k ↦
            let p = shifted j (omega arith) in
            let n = old.nests i (j + 1) (omega arith) (omega arith) in
            grind arith
      ]

  nests_above : (i j : ℕ) → at ≤ i → i < len → i < j → j ≤ i + N' i → j + N' j ≤ i + N' i
  nests_above i j a h l u =
      let p = shifted i a in
      let q = shifted j (omega arith) in
      let n = old.nests (i + 1) (j + 1) (omega arith) (omega arith) in
      omega arith

  fits_gone : (i : ℕ) → i < len → i + N i < len + 1 → (i + 1) + N (i + 1) < len + 1 → i + N' i < len
  fits_gone i h a b = elim (side i at) [
    | below l ↦ let w = left i l in let x = w.holding in let y = w.before in grind arith
    | here e ↦ let x = shifted i (omega arith) in omega arith
    | above l ↦ let x = shifted i (omega arith) in omega arith
  ]

  pub gone_sound : Sound len N'
  gone_sound = record {
    fits = λ i h. fits_gone i h (old.fits i (omega arith)) (old.fits (i + 1) (omega arith));
    nests = λ i j h l u. elim (side i at) [
      | below b ↦ nests_below i j b h l u
      | here e ↦ nests_above i j (omega arith) h l u
      | above a ↦ nests_above i j (omega arith) h l u
    ];
  }

  module _ (P P' : ℕ → Option Ends) (kept : Kept (len + 1) N P) (same : (i : ℕ) → i < at → P' i ≡ P i)
      (moved : (i : ℕ) → at ≤ i → P' i ≡ P (i + 1)) where
    nested_below : (i j : ℕ) → i < at → j < len → i < j → j ≤ i + N' i → LiesIn (P' j) (P' i)
    nested_below i j b h l u =
        let w = left i b in
        let x = w.holding in
        let y = w.before in
        elim (side j at) [
          | below k ↦ lies (P' j) (P' i) (P j) (P i) (same j k) (same i b) (kept.nested i j (omega arith) l (grind arith))
          | here e ↦
              lies (P' j) (P' i) (P (j + 1)) (P i) (moved j (omega arith)) (same i b)
              (kept.nested i (j + 1) (omega arith) (omega arith) (grind arith))
          | above k ↦
              lies (P' j) (P' i) (P (j + 1)) (P i) (moved j (omega arith)) (same i b)
              (kept.nested i (j + 1) (omega arith) (omega arith) (grind arith))
        ]

    nested_above : (i j : ℕ) → at ≤ i → j < len → i < j → j ≤ i + N' i → LiesIn (P' j) (P' i)
    nested_above i j a h l u =
        let p = shifted i a in
        lies (P' j) (P' i) (P (j + 1)) (P (i + 1)) (moved j (omega arith)) (moved i a)
        (kept.nested (i + 1) (j + 1) (omega arith) (omega arith) (omega arith))

    apart_below : (i j : ℕ) → i < at → j < len → i + N' i < j → Precedes (P' i) (P' j)
    apart_below i j b h l =
        let w = left i b in
        let x = w.holding in
        let y = w.before in
        elim (side j at) [
          | below k ↦ precedes (P' i) (P' j) (P i) (P j) (same i b) (same j k) (kept.apart i j (omega arith) (grind arith))
          | here e ↦
              precedes (P' i) (P' j) (P i) (P (j + 1)) (same i b) (moved j (omega arith))
              (kept.apart i (j + 1) (omega arith) (grind arith))
          | above k ↦
              precedes (P' i) (P' j) (P i) (P (j + 1)) (same i b) (moved j (omega arith))
              (kept.apart i (j + 1) (omega arith) (grind arith))
        ]

    apart_above : (i j : ℕ) → at ≤ i → j < len → i + N' i < j → Precedes (P' i) (P' j)
    apart_above i j a h l =
        let p = shifted i a in
        precedes (P' i) (P' j) (P (i + 1)) (P (j + 1)) (moved i a) (moved j (omega arith))
        (kept.apart (i + 1) (j + 1) (omega arith) (omega arith))

    pub gone_kept : Kept len N' P'
    gone_kept = record {
      nested = λ i j h l u. elim (side i at) [
        | below b ↦ nested_below i j b h l u
        | here e ↦ nested_above i j (omega arith) h l u
        | above a ↦ nested_above i j (omega arith) h l u
      ];
      apart = λ i j h l. elim (side i at) [
        | below b ↦ apart_below i j b h l
        | here e ↦ apart_above i j (omega arith) h l
        | above a ↦ apart_above i j (omega arith) h l
      ];
    }

-- a fold comes to the place that was found for its span
module _ (spans : Spans) (numbers before after : List ℕ) (s : Ends) (at end count : ℕ)
    (old : Sound (length numbers) (slice_index before))
    (found : Descended spans numbers before after s at end)
    (counted : at + count ≤ end)
    (inner : LieInside spans numbers before s at (at + count))
    (M : ℕ → ℕ)
    (m_below : (k : ℕ) → k < at → M k ≡ slice_index after k)
    (m_here : M at ≡ count)
    (m_above : (k : ℕ) → at < k → M k ≡ slice_index before (k - 1)) where
  fits_come : (i : ℕ) → i < length numbers + 1 → i + M i < length numbers + 1
  fits_come i h = elim (side i at) [
    | below b ↦ elim (found.passed i b) [
      | inl a ↦ let e = m_below i b in let f = a.counted in let g = old.fits i (omega (arith, found.bounded, found.ordered)) in omega arith
      | inr p ↦ let e = m_below i b in let f = p.kept in let g = p.ends in omega (arith, found.bounded, found.ordered)
    ]
    | here e ↦ let f = subst (λ (k : ℕ). M k ≡ count) (sym e) m_here in omega (arith, found.bounded)
    | above a ↦ let e = m_above i a in let g = old.fits (i - 1) (omega arith) in omega arith
  ]

  nests_come : (i j : ℕ) → i < length numbers + 1 → i < j → j ≤ i + M i → j + M j ≤ i + M i
  nests_come i j h l u = elim (side i at) [
    | below b ↦ elim (found.passed i b) [
      | inl a ↦ in_above i j b a l u
      | inr p ↦
          let e = m_below i b in
          let f = p.kept in
          let g = p.ends in
          let x = m_below j (omega arith) in
          let y = p.kept_inside j (l, omega arith) in
          let z = old.nests i j (omega (arith, found.bounded, found.ordered)) l (omega arith) in
          omega arith
    ]
    | here e ↦
        let f = subst (λ (k : ℕ). M k ≡ count) (sym e) m_here in
        let g = m_above j (omega arith) in
        let x = (inner (j - 1) (omega arith) (omega arith)).0 in
        omega arith
    | above a ↦
        let e = m_above i a in
        let f = m_above j (omega arith) in
        let g = old.nests (i - 1) (j - 1) (omega arith) (omega arith) (omega arith) in
        omega arith
  ] where
    in_above : (i j : ℕ) → i < at → IsAbove spans numbers before after s end i → i < j → j ≤ i + M i → j + M j ≤ i + M i
    in_above i j b a l u =
        let e = m_below i b in
        let f = a.counted in
        let g = a.reaches in
        let o = found.ordered in
        elim (side j at) [
          | below c ↦
              let x = m_below j c in
              let n = old.nests i j (omega (arith, found.bounded)) l (omega arith) in
              elim (found.passed j c) [
                | inl v ↦ let y = v.counted in omega arith
                | inr v ↦ let y = v.kept in omega arith
              ]
          | here x ↦ let y = subst (λ (k : ℕ). M k ≡ count) (sym x) m_here in omega arith
          | above x ↦
              let y = m_above j x in
              let n = old.nests i (j - 1) (omega (arith, found.bounded)) (omega arith) (omega arith) in
              omega arith
        ]

  pub come_sound : Sound (length numbers + 1) M
  come_sound = record { fits = fits_come; nests = nests_come }

  module _ (Q : ℕ → Option Ends)
      (kept : Kept (length numbers) (slice_index before) (span_at spans numbers))
      (outer : Follow spans numbers s (at + count) end)
      (q_below : (k : ℕ) → k < at → Q k ≡ span_at spans numbers k)
      (q_here : Q at ≡ Some s)
      (q_above : (k : ℕ) → at < k → Q k ≡ span_at spans numbers (k - 1)) where
    here_is : (k : ℕ) → k ≡ at → Q k ≡ Some s
    here_is k e = subst (λ (n : ℕ). Q n ≡ Some s) (sym e) q_here

    nested_come : (i j : ℕ) → j < length numbers + 1 → i < j → j ≤ i + M i → LiesIn (Q j) (Q i)
    nested_come i j h l u = elim (side i at) [
      | below b ↦ elim (found.passed i b) [
        | inl a ↦ in_above i j b a h l u
        | inr p ↦
            let e = m_below i b in
            let f = p.kept in
            let g = p.ends in
            lies (Q j) (Q i) (span_at spans numbers j) (span_at spans numbers i) (q_below j (omega arith)) (q_below i b)
            (kept.nested i j (omega (arith, found.bounded, found.ordered)) l (omega arith))
      ]
      | here e ↦
          let f = subst (λ (k : ℕ). M k ≡ count) (sym e) m_here in
          lies (Q j) (Q i) (span_at spans numbers (j - 1)) (Some s) (q_above j (omega arith)) (here_is i e)
          (inner (j - 1) (omega arith) (omega arith)).1
      | above a ↦
          let e = m_above i a in
          lies (Q j) (Q i) (span_at spans numbers (j - 1)) (span_at spans numbers (i - 1)) (q_above j (omega arith)) (q_above i a)
          (kept.nested (i - 1) (j - 1) (omega arith) (omega arith) (omega arith))
    ] where
      in_above : (i j : ℕ) → i < at → IsAbove spans numbers before after s end i → j < length numbers + 1 → i < j → j ≤ i + M i → LiesIn (Q j) (Q i)
      in_above i j b a h l u =
          let e = m_below i b in
          let f = a.counted in
          let g = a.reaches in
          let o = found.ordered in
          elim (side j at) [
            | below c ↦
                lies (Q j) (Q i) (span_at spans numbers j) (span_at spans numbers i) (q_below j c) (q_below i b)
                (kept.nested i j (omega (arith, found.bounded)) l (omega arith))
            | here x ↦ lies (Q j) (Q i) (Some s) (span_at spans numbers i) (here_is j x) (q_below i b) a.holds
            | above x ↦
                lies (Q j) (Q i) (span_at spans numbers (j - 1)) (span_at spans numbers i) (q_above j x) (q_below i b)
                (kept.nested i (j - 1) (omega arith) (omega arith) (omega arith))
          ]

    follows : (j : ℕ) → at + count ≤ j → j < length numbers → Precedes (Some s) (span_at spans numbers j)
    follows j a h = elim (cases j end) [ inl l ↦ outer j a l | inr g ↦ found.beyond j g h ] where
      cases : (k at : ℕ) → (k < at) ⊎ (at ≤ k)
      cases k at = grind arith

    apart_come : (i j : ℕ) → j < length numbers + 1 → i + M i < j → Precedes (Q i) (Q j)
    apart_come i j h l = elim (side i at) [
      | below b ↦ elim (found.passed i b) [
        | inl a ↦
            let e = m_below i b in
            let f = a.counted in
            let g = a.reaches in
            precedes (Q i) (Q j) (span_at spans numbers i) (span_at spans numbers (j - 1)) (q_below i b)
            (q_above j (omega (arith, found.ordered)))
            (kept.apart i (j - 1) (omega arith) (omega arith))
        | inr p ↦ in_past i j b p h l
      ]
      | here e ↦
          let f = subst (λ (k : ℕ). M k ≡ count) (sym e) m_here in
          precedes (Q i) (Q j) (Some s) (span_at spans numbers (j - 1)) (here_is i e) (q_above j (omega arith))
          (follows (j - 1) (omega arith) (omega arith))
      | above a ↦
          let e = m_above i a in
          precedes (Q i) (Q j) (span_at spans numbers (i - 1)) (span_at spans numbers (j - 1)) (q_above i a) (q_above j (omega arith))
          (kept.apart (i - 1) (j - 1) (omega arith) (omega arith))
    ] where
      in_past : (i j : ℕ) → i < at → IsPast spans numbers before after s at i → j < length numbers + 1 → i + M i < j → Precedes (Q i) (Q j)
      in_past i j b p h l =
          let e = m_below i b in
          let f = p.kept in
          let g = p.ends in
          elim (side j at) [
            | below c ↦
                precedes (Q i) (Q j) (span_at spans numbers i) (span_at spans numbers j) (q_below i b) (q_below j c)
                (kept.apart i j (omega (arith, found.ordered, found.bounded)) (omega arith))
            | here x ↦ precedes (Q i) (Q j) (span_at spans numbers i) (Some s) (q_below i b) (here_is j x) p.precedes
            | above x ↦
                precedes (Q i) (Q j) (span_at spans numbers i) (span_at spans numbers (j - 1)) (q_below i b) (q_above j x)
                (kept.apart i (j - 1) (omega arith) (omega arith))
          ]

    pub come_kept : Kept (length numbers + 1) M Q
    come_kept = record { nested = nested_come; apart = apart_come }
