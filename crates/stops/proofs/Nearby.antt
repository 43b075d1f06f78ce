-- On positions that rise, trying a pair first finds the document's place; and the segment of the pair gives the document's colour. Assumes nothing.
use mathlib.Core.Path.{◌≡◌, refl, sym, ◌∙◌, ap, subst}
use mathlib.Core.Bool.{Bool, true, false, true≢false, not, cond, ◌&&◌}
use mathlib.Core.List.{List}
use Prim.Native.Nat.{ℕ, ◌+◌, ◌-◌, ◌*◌, ◌≤◌, ◌<◌}
use native.Mathlib.Omega.{arith}
use lib.Dec.{T, ltb}
use lib.ListN.{length}
use lib.Ieee.{Float, le, lt, is_nan}
use lib.Ieee.Bits.{is_true}
use borrow.Author.Tests.{ltb-true, lt-ltb, le-ltb}
use Rattle.float.proofs.Flags.{parts4}
use Rattle.float.proofs.Order.{le_lt_trans, lt-le_trans, lt→le, not_lt_from_le, no_nan_l, no_nan_r}
use Rattle.blend.specs.CatmullRom.{segment_of, segment_at}
use Rattle.blend.specs.Pair.{share_of, catmull_pair}
use Rattle.blend.specs.declared.Rgba.{Rgba}
use Rattle.blend.specs.declared.Stop.{Stop}
use Rattle.stops.specs.Stops.{pos_at, colour_at, stop_at}
use Rattle.stops.specs.Place.{Rising, place_of, place_in}
use Rattle.stops.specs.Pair.{left_of, right_of, pair_of, between, colour_in}
use Rattle.stops.specs.Near.{is_between, place_near, pair_or, segment_for, segment_in}
use Rattle.stops.specs.Segments.{is_catmull_rom}
use Rattle.stops.specs.declared.Kind.{Kind}
use Rattle.stops.specs.declared.Kind.TheVariants.{Linear, Smoothstep, Sharp, Basis, CatmullRom, Gimp, GimpSaved}
use Rattle.stops.specs.declared.Place.{Place}
use Rattle.stops.specs.declared.Place.TheVariants.{End, Nowhere, Between}
use Rattle.stops.proofs.Choice.{rising_numbers, le_is, first-is, place_between}
use Rattle.stops.proofs.Same.{same_place}

-- ---- the test, step by step
-- n times the number of answers is above n + k only where both are yes
two_answers : (n k : ℕ) → k < n → (a b : Bool) → ltb (n + k) (n * (cond a 1 0 + cond b 1 0)) ≡ (a && b)
two_answers n k h true true = lt-ltb (n + k) (n * (1 + 1)) (omega arith)
two_answers n k h true false = le-ltb (n + k) (n * (1 + 0)) (omega arith)
two_answers n k h false true = le-ltb (n + k) (n * (0 + 1)) (omega arith)
two_answers n k h false false = le-ltb (n + k) (n * (0 + 0)) (omega arith)

pub both_yes : (n k : ℕ) → k < n → (a b : Bool) {x y : ℕ} → x ≡ cond a 1 0 → y ≡ cond b 1 0 → ltb (n + k) (n * (x + y)) ≡ (a && b)
both_yes n k h a b {x} {y} p q = ap (λ (m : ℕ). ltb (n + k) (n * (m + y))) p ∙ ap (λ (m : ℕ). ltb (n + k) (n * (cond a 1 0 + m))) q ∙ two_answers n k h a b

module _ (ps : List Float) (t : Float) (k : ℕ) where
  pub no_pair : k ≡ 0 → false ≡ is_between ps t k
  unfolding is_between
  no_pair h = simp (le-ltb 0 k (omega arith))

  module _ (some : 0 < k) where
    pub past_all : length ps ≤ k → false ≡ is_between ps t k
    unfolding is_between
    past_all h = simp (lt-ltb 0 k some, le-ltb k (length ps) h)

    module _ (inside : k < length ps) where
      pub is_pair : {x y : ℕ} → x ≡ cond (lt (pos_at ps (k - 1)) t) 1 0 → y ≡ cond (lt t (pos_at ps k)) 1 0 → ltb (length ps + k) (length ps * (x + y)) ≡ is_between ps t k
      unfolding is_between
      is_pair p q = both_yes (length ps) k inside (lt (pos_at ps (k - 1)) t) (lt t (pos_at ps k)) p q ∙ simp (lt-ltb 0 k some, lt-ltb k (length ps) inside)

  pub near_pair : is_between ps t k ≡ true → Between k ≡ place_near ps t k
  unfolding place_near
  near_pair h = simp h

  pub near_else : {w : Place} → is_between ps t k ≡ false → w ≡ place_in ps t → w ≡ place_near ps t k
  unfolding place_near
  near_else h e = e ∙ simp h

-- ---- the place
as_T : {b : Bool} → b ≡ true → T b
as_T e = subst T (sym e) tt

-- x < y: then y ≤ x is false
not-le : (x y : Float) → T (lt x y) → le y x ≡ false
not-le x y h = le_is y x (no_nan_r x y (lt→le x y h)) (no_nan_l x y (lt→le x y h)) ∙ ap not (is_true (lt x y) h)

-- what the test says
record Inside (ps : List Float) (t : Float) (k : ℕ) : Type 0 where
  some : 0 < k
  within : k < length ps
  below : T (lt (pos_at ps (k - 1)) t)
  above : T (lt t (pos_at ps k))

inside_of : (ps : List Float) (t : Float) (k : ℕ) → is_between ps t k ≡ true → Inside ps t k
unfolding is_between
inside_of ps t k h =
    let p = parts4 (ltb 0 k) (ltb k (length ps)) (lt (pos_at ps (k - 1)) t) (lt t (pos_at ps k)) h in
    record { some = ltb-true 0 k p.0; within = ltb-true k (length ps) p.1; below = as_T p.2; above = as_T p.3 }

module _ (ps : List Float) (two : 2 ≤ length ps) (R : Rising ps) (t : Float) where
  found : (k : ℕ) → 0 < k → k < length ps → T (lt (pos_at ps (k - 1)) t) → T (lt t (pos_at ps k)) → place_of ps t ≡ Between k
  found k a b below above =
      place_between ps t
      (not-le (pos_at ps 0) t (le_lt_trans (pos_at ps 0) (pos_at ps (k - 1)) t (R 0 (k - 1) (omega arith) (omega arith)) below))
      (not-le t (pos_at ps (length ps - 1)) (lt-le_trans t (pos_at ps k) (pos_at ps (length ps - 1)) above (R k (length ps - 1) (omega arith) (omega arith))))
      number
      ∙ ap Between (first-is t ps k number (rising_numbers ps R) (omega arith) (λ j l. is_true (lt (pos_at ps j) t) (le_lt_trans (pos_at ps j) (pos_at ps (k - 1)) t (R j (k - 1) (omega arith) (omega arith)) below)) (λ l. not_lt_from_le (pos_at ps k) t (lt→le t (pos_at ps k) above)))
    where
      number : is_nan t ≡ false
      number = no_nan_l t (pos_at ps k) (lt→le t (pos_at ps k) above)

  pub near_same : (k : ℕ) → place_near ps t k ≡ place_of ps t
  unfolding place_near
  near_same k = go (is_between ps t k) refl
    where
      go : (c : Bool) → is_between ps t k ≡ c → cond c (Between k) (place_in ps t) ≡ place_of ps t
      go true e = let i = inside_of ps t k e in sym (found k i.some i.within i.below i.above)
      go false e = same_place ps two R t

-- ---- the colour by a segment
module _ (ps cs : List Float) (t : Float) where
  pub segment_colour : (w : Place) (k : ℕ) {s : List (List Float)} → s ≡ segment_for cs (length ps) (pair_or w k) → segment_in ps cs s t w ≡ colour_in CatmullRom ps cs t w
  unfolding segment_in colour_in between pair_of catmull_pair segment_for
  segment_colour (End i) k e = refl
  segment_colour Nowhere k e = refl
  segment_colour (Between j) k e = ap (λ (s : List (List Float)). segment_at s (share_of (stop_at ps cs (j - 1)) (stop_at ps cs j) t)) e

-- ---- the colour of a ramp, whichever pair is tried first
module _ (ps cs : List Float) (two : 2 ≤ length ps) (rising : Rising ps) (t : Float) {c : Rgba} {w : Place} (guess : ℕ) (near : w ≡ place_near ps t guess) where
  pub near_colour : (kind : Kind) → c ≡ colour_in kind ps cs t w → c ≡ colour_in kind ps cs t (place_of ps t)
  near_colour kind e = e ∙ ap (colour_in kind ps cs t) (near ∙ near_same ps two rising t guess)

  pub kept_colour : (k : ℕ) {j : ℕ} {s : List (List Float)} → j ≡ pair_or w k → s ≡ segment_for cs (length ps) j → c ≡ segment_in ps cs s t w → c ≡ colour_in CatmullRom ps cs t (place_of ps t)
  kept_colour k q r e = near_colour CatmullRom (e ∙ segment_colour ps cs t w k (r ∙ ap (segment_for cs (length ps)) q))

pub catmull : (kind : Kind) → is_catmull_rom kind ≡ true → kind ≡ CatmullRom
catmull Linear h = absurd (true≢false (sym h))
catmull Smoothstep h = absurd (true≢false (sym h))
catmull Sharp h = absurd (true≢false (sym h))
catmull Basis h = absurd (true≢false (sym h))
catmull CatmullRom h = refl
catmull Gimp h = absurd (true≢false (sym h))
catmull GimpSaved h = absurd (true≢false (sym h))

-- ---- what the functions give
module _ (cs : List Float) (n k : ℕ) {s : List (List Float)} where
  pub segment_is : {p q l r : Rgba} {i : ℕ} → i ≡ k - 1 → p ≡ colour_at cs i → q ≡ colour_at cs k → l ≡ left_of cs k p q → r ≡ right_of cs n k p q → s ≡ segment_of l p q r → s ≡ segment_for cs n k
  unfolding segment_for
  segment_is {p} {q} {l} {r} {i} h a b c d e =
      e
      ∙ ap (λ (x : Rgba). segment_of x p q r) c
      ∙ ap (λ (x : Rgba). segment_of (left_of cs k p q) p q x) d
      ∙ ap (λ (x : Rgba). segment_of (left_of cs k x q) x q (right_of cs n k x q)) (a ∙ ap (λ (j : ℕ). colour_at cs j) h)
      ∙ ap (λ (x : Rgba). segment_of (left_of cs k (colour_at cs (k - 1)) x) (colour_at cs (k - 1)) x (right_of cs n k (colour_at cs (k - 1)) x)) b

module _ (ps cs : List Float) (s : List (List Float)) (t : Float) {w : Place} {z : Rgba} where
  pub by_end : (i : ℕ) → w ≡ End i → z ≡ colour_at cs i → z ≡ segment_in ps cs s t w
  unfolding segment_in
  by_end i h e = e ∙ ap (segment_in ps cs s t) (sym h)

  pub by_nowhere : w ≡ Nowhere → z ≡ segment_in ps cs s t Nowhere → z ≡ segment_in ps cs s t w
  by_nowhere h e = e ∙ ap (segment_in ps cs s t) (sym h)

  pub by_between : (k : ℕ) {i : ℕ} {p q : Stop} {x : Float} → w ≡ Between k → i ≡ k - 1 → p ≡ stop_at ps cs i → q ≡ stop_at ps cs k → x ≡ share_of p q t → z ≡ segment_at s x → z ≡ segment_in ps cs s t w
  unfolding segment_in
  by_between k {i} {p} {q} {x} h g a b c e =
      e
      ∙ ap (segment_at s) c
      ∙ ap (λ (u : Stop). segment_at s (share_of u q t)) (a ∙ ap (λ (j : ℕ). stop_at ps cs j) g)
      ∙ ap (λ (u : Stop). segment_at s (share_of (stop_at ps cs (k - 1)) u t)) b
      ∙ ap (segment_in ps cs s t) (sym h)
