-- The points of a record, place after place: the list is what one gets by following them. Assumes nothing.
use mathlib.Core.Path.{◌≡◌, refl, sym, ◌∙◌}
use mathlib.Core.Bool.{Bool, true, false}
use mathlib.Core.List.{List, [], ◌∷◌}
use Prim.Native.Nat.{ℕ, zero, suc, ◌+◌, ◌*◌, ◌≤◌, ◌<◌, min}
use native.Mathlib.Numerals.{add-one}
use native.Mathlib.Omega.{arith}
use borrow.Author.Tests.{lt-ltb, le-ltb, ltb-true, ltb-false}
use lib.Dec.{ltb}
use lib.ListN.{length, take, drop, get_or, length-append, length-drop, get_or-append, get_or-eq_default}
use lib.Seq.{length-take-le, get_or-append-add, get_or-take, get_or-drop, drop-cons, take-length}
use lib.Ieee.{Float, nan}
use Rattle.slices.specs.Joined.{joined, summed}
use Rattle.places.specs.Places.{row_points, list_of, first_place, next_place, point_at, follow, points_before, InRecord, Ready}
use Rattle.places.specs.declared.RowPlace.{RowPlace}
use Rattle.slices.proofs.Joined.{length-summed, summed_mono, item}

-- ---- the next place

-- the test of a row of n points, which are m
module _ {b : Bool} (index n m : ℕ) (e : n ≡ m) (h : b ≡ ltb (index + 1) n) where
  pub row_on : b ≡ true → index + 1 < m
  row_on k = omega (arith, e, ltb-true (index + 1) n (sym h ∙ k))

  pub row_done : b ≡ false → m ≤ index + 1
  row_done k = omega (arith, e, ltb-false (index + 1) n (sym h ∙ k))

module _ (counts : List ℕ) (p : RowPlace) where
  pub same_row : p.index + 1 < get_or counts p.row 0 → record { row = p.row; index = p.index + 1 } ≡ next_place counts p
  unfolding next_place
  same_row h = simp (lt-ltb (p.index + 1) (get_or counts p.row 0) h)

  module _ (h : get_or counts p.row 0 ≤ p.index + 1) where
    pub next_row : p.row < 36 → record { row = p.row + 1; index = 0 } ≡ next_place counts p
    unfolding next_place
    next_row k = let e : min (p.row + 1) 36 ≡ p.row + 1 = omega arith in rw (le-ltb (p.index + 1) (get_or counts p.row 0) h, e)

    pub past_rows : 36 ≤ p.row → record { row = 36; index = 0 } ≡ next_place counts p
    unfolding next_place
    past_rows k = let e : min (p.row + 1) 36 ≡ 36 = omega arith in rw (le-ltb (p.index + 1) (get_or counts p.row 0) h, e)

pub point_in : (rows : List Float) (max : Float) (p : RowPlace) → p.row < 36 → get_or rows (p.row * 128 + p.index) nan ≡ point_at rows max p
unfolding point_at
point_in rows max p h = simp (lt-ltb p.row 36 h)

pub point_past : (rows : List Float) (max : Float) (p : RowPlace) → p.row < 36 → length rows ≤ p.index → nan ≡ point_at rows max p
point_past rows max p h k = sym (get_or-eq_default rows nan {n = p.row * 128 + p.index} (omega arith)) ∙ point_in rows max p h

pub point_end : (rows : List Float) (max : Float) (p : RowPlace) → 36 ≤ p.row → max ≡ point_at rows max p
unfolding point_at
point_end rows max p h = simp (le-ltb p.row 36 h)

-- ---- a record that may be thinned

module _ (rows : List Float) (counts : List ℕ) (max : Float) (ok : Ready rows counts) where
  abbrev count_at : ℕ → ℕ
  count_at i = get_or counts i 0

  row_points_lem : (i : ℕ) → i < 36 → length (row_points rows counts i) ≡ count_at i
  row_points_lem i h = length-take-le (count_at i) (drop (i * 128) rows) (omega (arith, ok.long, ok.most i h, length-drop (i * 128) rows))

  pub list_length : length (list_of rows counts max) ≡ summed count_at 36 + 1
  unfolding list_of
  list_length = length-append (joined (row_points rows counts) 36) (max ∷ []) ∙ omega (arith, length-summed (row_points rows counts) count_at 36 row_points_lem)

  summed_bounds : (n : ℕ) → n ≤ 36 → (n ≤ summed count_at n) × (summed count_at n ≤ 128 * n)
  unfolding summed
  summed_bounds zero h = (omega arith, omega arith)
  summed_bounds (suc n) h =
      let ih = summed_bounds n (omega arith) in
      (omega (arith, ih, ok.some n h), omega (arith, ih, ok.most n h))

  -- 37 to 4,609 points
  pub list_some : 37 ≤ length (list_of rows counts max)
  list_some = omega (arith, list_length, summed_bounds 36 (omega arith))

  pub list_most : length (list_of rows counts max) ≤ 4609
  list_most = omega (arith, list_length, summed_bounds 36 (omega arith))

  pub first_within : InRecord counts first_place
  first_within = record { in_row = λ h. omega (arith, ok.some 0 h); in_end = λ h. absurd (h (omega arith)) }

  pub first_before : points_before counts first_place ≡ 0
  unfolding points_before summed
  first_before = refl

  pub within_index : (p : RowPlace) → InRecord counts p → p.index < 128
  within_index p w = by (ltb p.row 36) refl
    where
      by : (b : Bool) → ltb p.row 36 ≡ b → p.index < 128
      by true e = let h = ltb-true p.row 36 e in omega (arith, w.in_row h, ok.most p.row h)
      by false e = let h = ltb-false p.row 36 e in omega (arith, w.in_end (λ k. absurd (omega arith)))

  module _ (p : RowPlace) (w : InRecord counts p) where
    in_rows : p.row < 36 → get_or (list_of rows counts max) (points_before counts p) nan ≡ point_at rows max p
    unfolding list_of points_before
    in_rows h =
        let l = length-summed (row_points rows counts) count_at 36 row_points_lem in
        let m = summed_mono count_at p.row 36 h in
        get_or-append (joined (row_points rows counts) 36) (max ∷ []) nan (summed count_at p.row + p.index) (omega (arith, l, m, w.in_row h))
        ∙ item (row_points rows counts) count_at nan 36 row_points_lem p.row p.index h (w.in_row h)
        ∙ get_or-take (count_at p.row) (drop (p.row * 128) rows) p.index nan (w.in_row h)
        ∙ get_or-drop (p.row * 128) rows p.index nan
        ∙ point_in rows max p h

    at-end : (p.row < 36 → ⊥) → get_or (list_of rows counts max) (points_before counts p) nan ≡ point_at rows max p
    unfolding list_of points_before
    at-end h =
        let e = w.in_end h in
        let l : summed count_at p.row + p.index ≡ length (joined (row_points rows counts) 36) + 0 =
        rw (e.0, e.1) (omega (arith, length-summed (row_points rows counts) count_at 36 row_points_lem)) in
        rw l (get_or-append-add (joined (row_points rows counts) 36) (max ∷ []) 0 nan) ∙ point_end rows max p (omega (arith, e.0))

    -- the list's point after as many as stand before a place is the point at the place
    pub point_is : get_or (list_of rows counts max) (points_before counts p) nan ≡ point_at rows max p
    point_is = by (ltb p.row 36) refl
      where
        by : (b : Bool) → ltb p.row 36 ≡ b → get_or (list_of rows counts max) (points_before counts p) nan ≡ point_at rows max p
        by true e = in_rows (ltb-true p.row 36 e)
        by false e = at-end (λ k. let h = ltb-false p.row 36 e in absurd (omega arith))

    -- one point follows another in a row, and the list goes on past it
    module _ (h : p.row < 36) where
      pub before_next : points_before counts (next_place counts p) ≡ points_before counts p + 1
      unfolding points_before summed
      before_next = by (ltb (p.index + 1) (count_at p.row)) refl
        where
          by : (b : Bool) → ltb (p.index + 1) (count_at p.row) ≡ b → summed count_at (next_place counts p).row + (next_place counts p).index ≡ summed count_at p.row + p.index + 1
          by true e = rw (← same_row counts p (ltb-true (p.index + 1) (count_at p.row) e)) (omega arith)
          by false e =
              let f = ltb-false (p.index + 1) (count_at p.row) e in
              rw (← next_row counts p f h, add-one) (omega (arith, w.in_row h))

      pub next_within : InRecord counts (next_place counts p)
      next_within = by (ltb (p.index + 1) (count_at p.row)) refl
        where
          by : (b : Bool) → ltb (p.index + 1) (count_at p.row) ≡ b → InRecord counts (next_place counts p)
          by true e =
              let f = ltb-true (p.index + 1) (count_at p.row) e in
              rw (← same_row counts p f) (record { in_row = λ k. f; in_end = λ k. absurd (k h) })
          by false e =
              rw (← next_row counts p (ltb-false (p.index + 1) (count_at p.row) e) h)
              (record { in_row = λ k. omega (arith, ok.some (p.row + 1) k); in_end = λ k. (omega arith, refl) })

      pub more_follow : points_before counts p + 1 < length (list_of rows counts max)
      unfolding points_before
      more_follow = omega (arith, list_length, summed_mono count_at p.row 36 h, w.in_row h)

    pub before_end : (p.row < 36 → ⊥) → length (list_of rows counts max) ≡ points_before counts p + 1
    unfolding points_before
    before_end h = let e = w.in_end h in rw (e.0, e.1) (list_length ∙ omega arith)

  -- the place after the first
  pub second_within : InRecord counts (next_place counts first_place)
  second_within = next_within first_place first_within (omega arith)

  pub second_before : points_before counts (next_place counts first_place) ≡ 1
  second_before = before_next first_place first_within (omega arith) ∙ rw first_before

  -- the list's first point is the first row's
  pub list_head : (t : Float) → t ≡ get_or rows 0 nan → list_of rows counts max ≡ t ∷ drop 1 (list_of rows counts max)
  unfolding point_at
  list_head t e =
      let h : get_or (list_of rows counts max) 0 nan ≡ get_or rows 0 nan = rw first_before at (point_is first_place first_within) in
      drop-cons (list_of rows counts max) 0 nan (omega (arith, list_some)) ∙ rw (h, ← e)

  -- n points from a place on are the list's
  pub followed : (n : ℕ) (p : RowPlace) → InRecord counts p → points_before counts p + n ≤ length (list_of rows counts max)
      → follow rows counts max n p ≡ take n (drop (points_before counts p) (list_of rows counts max))
  unfolding follow
  followed zero p w h = refl
  followed (suc n) p w h = by (ltb p.row 36) refl (λ k. followed n (next_place counts p) (next_within p w k) (omega (arith, before_next p w k)))
    where
      here : drop (points_before counts p) (list_of rows counts max) ≡ point_at rows max p ∷ drop (suc (points_before counts p)) (list_of rows counts max)
      here = drop-cons (list_of rows counts max) (points_before counts p) nan (omega arith) ∙ rw (point_is p w)

      by : (b : Bool) → ltb p.row 36 ≡ b
          → (p.row < 36 → follow rows counts max n (next_place counts p) ≡ take n (drop (points_before counts (next_place counts p)) (list_of rows counts max)))
          → point_at rows max p ∷ follow rows counts max n (next_place counts p) ≡ take (suc n) (drop (points_before counts p) (list_of rows counts max))
      by true e ih =
          let k = ltb-true p.row 36 e in
          rw (here, ih k, before_next p w k, add-one)
      by false e ih =
          let k = ltb-false p.row 36 e in
          let z : n ≡ 0 = omega (arith, before_end p w (λ l. absurd (omega arith))) in
          rw (here, z)

  -- followed from the first place on, the points are the list
  pub followed_whole : follow rows counts max (length (list_of rows counts max)) first_place ≡ list_of rows counts max
  followed_whole =
      followed (length (list_of rows counts max)) first_place first_within (rw first_before (omega arith))
      ∙ rw (first_before, take-length)
