-- The colours of a block: how it is filled, and that what is asked of it is asked of the ramp. Assumes nothing.
use mathlib.Core.Path.{◌≡◌, sym, ap, ◌∙◌}
use mathlib.Core.Bool.{Bool, true, false, not, ◌&&◌}
use mathlib.Core.List.{List, []}
use Prim.Native.Nat.{ℕ, ◌+◌, ◌-◌, ◌≤◌, ◌<◌}
use native.Mathlib.Decide.{dec_le}
use native.Mathlib.Omega.{arith}
use borrow.Author.Tests.{ltb-true}
use lib.Dec.{T, ltb}
use lib.ListN.{length, get_or, set}
use lib.Seq.{get_or-set_same, get_or-set_other}
use lib.Ieee.{Float, nan, le, lt}
use lib.Ieee.Bits.{is_true}
use Rattle.float.proofs.Flags.{both_l, both_r}
use Rattle.float.proofs.Order.{as_T, le_lt_trans, lt→le, not_lt_from_le, no_nan_l, no_nan_r}
use Rattle.float.specs.F32.{◌⊖◌, ◌⊘◌}
use Rattle.blend.specs.Blend.{linear}
use Rattle.blend.specs.Channels.{channels_of}
use Rattle.blend.specs.declared.Rgba.{Rgba}
use Rattle.stops.specs.Lent.{Ramp}
use Rattle.stops.specs.Stops.{pos_at}
use Rattle.stops.specs.Place.{Rising, place_of}
use Rattle.stops.specs.Pair.{colour_in}
use Rattle.stops.specs.Segments.{is_catmull_rom}
use Rattle.stops.specs.declared.Checked.TheVariants.{Fine}
use Rattle.stops.specs.declared.Place.TheVariants.{Between}
use Rattle.stops.specs.declared.Window.{Window}
use Rattle.stops.proofs.Choice.{rising_numbers, le_is, first-is, place_between}
use Rattle.gradient.specs.Ramp.{is_gimp, check_of, colour_of}
use Rattle.gradient.proofs.Valid.{valid}
use Rattle.sampling.specs.Midpoints.{Gradient}
use Rattle.sampling.specs.inner.Steps.{Coloured, PointAt, Carrying}
use Rattle.sampling.specs.Segments.{Drawn, placed_point, Draws}
use Rattle.sampling.specs.declared.Point.{Point}
use Rattle.sampling.proofs.Nearness.{placed_is}
use Rattle.sampling.proofs.Along.{drawn_point}
use Rattle.difference.specs.Difference.{clamped_of, squares_of}
use Rattle.within.specs.Shown.{Near, off_at, near_below, fairly}
use Rattle.within.specs.inner.Weighing.{entry_at, point_fair, block_fair, fair_from, all_from, is_up_to, ColoursInHand}
use Rattle.within.proofs.Arrays.{same_test}

-- ---- filling
module _ (g : Gradient) (ts : List Float) (base : ℕ) where
  -- the first i are there
  abbrev pub Filled : ℕ → List (List Float) → Type 0
  Filled i block = (j : ℕ) → j < i → get_or block j [] ≡ channels_of (g (get_or ts (base + j) nan))

  pub filled_next : (i : ℕ) (block : List (List Float)) (x : Point) → i < length block → PointAt g (get_or ts (base + i) nan) x → Filled i block
      → Filled (i + 1) (set block i (channels_of x.colour))
  filled_next i block x l p w j h = go (dec_le i j)
    where
      here : channels_of x.colour ≡ channels_of (g (get_or ts (base + i) nan))
      here = ap channels_of (p.1 ∙ ap g p.0)

      go : Dec (i ≤ j) → get_or (set block i (channels_of x.colour)) j [] ≡ channels_of (g (get_or ts (base + j) nan))
      go (yes k) = let e : j ≡ i = omega (arith, h, k) in rw e (get_or-set_same block i (channels_of x.colour) [] l ∙ here)
      go (no k) = get_or-set_other block i j (channels_of x.colour) [] (λ e. k (omega arith)) ∙ w j (omega arith)

  pub filled_hand : (i count : ℕ) (block : List (List Float)) → count ≤ i → length block ≡ 1024 → count ≤ 1024 → base + count ≤ 10753 → Filled i block → ColoursInHand g ts (record { base = base; count = count }) block
  filled_hand i count block e l a b w = record { long = l; fits = a; within = b; each = λ j h. w j (omega arith) }

pub nothing_in_hand : (g : Gradient) (ts : List Float) (block : List (List Float)) → length block ≡ 1024 → ColoursInHand g ts (record { base = 0; count = 0 }) block
nothing_in_hand g ts block l = record { long = l; fits = omega arith; within = omega arith; each = λ i h. absurd (omega arith) }

-- ---- the test of one point
pub fair_by : (t h : Float) (m : ℕ) (a b x : Point) {y : Rgba} {o : Float} {r : Bool} → y ≡ linear a.colour b.colour ((x.t ⊖ a.t) ⊘ (b.t ⊖ a.t)) → o ≡ off_at t h m
    → r ≡ le (squares_of (clamped_of x.colour) (clamped_of y)) o → r ≡ point_fair (near_below t h) m a b x
unfolding point_fair near_below
fair_by t h m a b x p q e = e ∙ rw (p, q)

-- ---- the colour of a point in hand
module _ (g : Gradient) (ts : List Float) (w : Window) (block : List (List Float)) (hand : ColoursInHand g ts w block) where
  pub entry_is : (i : ℕ) → w.base ≤ i → i < w.base + w.count → entry_at block (i - w.base) ≡ g (get_or ts i nan)
  entry_is i a b =
      let e : w.base + (i - w.base) ≡ i = omega arith in
      let c : get_or block (i - w.base) [] ≡ channels_of (g (get_or ts i nan)) = hand.each (i - w.base) (omega arith) ∙ rw e in
      ap (λ (l : List Float). record { r = get_or l 0 nan; g = get_or l 1 nan; b = get_or l 2 nan; a = get_or l 3 nan }) c

  -- what is asked of the block is asked of the ramp
  module _ (near : Near) (a b : Point) (ca : Coloured g a) (cb : Coloured g b) (ms : List ℕ) where
    fair_is : (i : ℕ) → w.base ≤ i → i < w.base + w.count → block_fair near a b ts ms block w.base i ≡ fair_from g near a.t b.t ts ms i
    unfolding point_fair fairly
    fair_is i h k = rw (entry_is i h k, ca, cb)

    pub shown_is : (from to : ℕ) → w.base ≤ from → to ≤ w.base + w.count → all_from (block_fair near a b ts ms block w.base) from (to - from) ≡ all_from (fair_from g near a.t b.t ts ms) from (to - from)
    shown_is from to h k = same_test (block_fair near a b ts ms block w.base) (fair_from g near a.t b.t ts ms) from (to - from) (λ j x y. fair_is j (omega arith) (omega arith))

-- ---- the pair of a point, its right end among it
not-le : (x y : Float) → T (lt x y) → le y x ≡ false
not-le x y h = le_is y x (no_nan_r x y (lt→le x y h)) (no_nan_l x y (lt→le x y h)) ∙ ap not (is_true (lt x y) h)

module _ (ps : List Float) (t : Float) (k : ℕ) where
  record UpTo : Type 0 where
    some : 0 < k
    within : k < length ps
    below : T (lt (pos_at ps (k - 1)) t)
    above : T (le t (pos_at ps k))
    last : T (lt t (pos_at ps (length ps - 1)))

  up_to : is_up_to ps t k ≡ true → UpTo
  unfolding is_up_to
  up_to h =
      let a = both_l (ltb 0 k) (ltb k (length ps) && (lt (pos_at ps (k - 1)) t && le t (pos_at ps k) && lt t (pos_at ps (length ps - 1)))) h in
      let r = both_r (ltb 0 k) (ltb k (length ps) && (lt (pos_at ps (k - 1)) t && le t (pos_at ps k) && lt t (pos_at ps (length ps - 1)))) h in
      let b = both_l (ltb k (length ps)) (lt (pos_at ps (k - 1)) t && le t (pos_at ps k) && lt t (pos_at ps (length ps - 1))) r in
      let s = both_r (ltb k (length ps)) (lt (pos_at ps (k - 1)) t && le t (pos_at ps k) && lt t (pos_at ps (length ps - 1))) r in
      let u = both_l (lt (pos_at ps (k - 1)) t && le t (pos_at ps k)) (lt t (pos_at ps (length ps - 1))) s in
      record {
        some = ltb-true 0 k a;
        within = ltb-true k (length ps) b;
        below = as_T _ (both_l (lt (pos_at ps (k - 1)) t) (le t (pos_at ps k)) u);
        above = as_T _ (both_r (lt (pos_at ps (k - 1)) t) (le t (pos_at ps k)) u);
        last = as_T _ (both_r (lt (pos_at ps (k - 1)) t && le t (pos_at ps k)) (lt t (pos_at ps (length ps - 1))) s);
      }

  pub found : Rising ps → is_up_to ps t k ≡ true → place_of ps t ≡ Between k
  found R h =
      let u = up_to h in
      let some = u.some in
      let within = u.within in
      let number = no_nan_l t (pos_at ps k) u.above in
      place_between ps t
      (not-le (pos_at ps 0) t (le_lt_trans (pos_at ps 0) (pos_at ps (k - 1)) t (R 0 (k - 1) (omega arith) (omega arith)) u.below))
      (not-le t (pos_at ps (length ps - 1)) u.last)
      number
      ∙ ap Between (first-is t ps k number (rising_numbers ps R) (omega arith) (λ j l. is_true (lt (pos_at ps j) t) (le_lt_trans (pos_at ps j) (pos_at ps (k - 1)) t (R j (k - 1) (omega arith) (omega arith)) u.below)) (λ l. not_lt_from_le (pos_at ps k) t u.above))

-- the point of a checked ramp in its pair, mixed or by the pair, drawn
module _ (ramp : Ramp) (fine : check_of ramp ≡ Fine) (t : Float) (k : ℕ) (h : is_up_to ramp.positions t k ≡ true) where
  pub placed_point_lem : (x : Point) → is_gimp ramp.kind ≡ false → x ≡ placed_point ramp.kind ramp.positions ramp.channels t (Between k) → PointAt (colour_of ramp) t x
  unfolding colour_of
  placed_point_lem x e q =
      let v = valid ramp e fine in
      let p = placed_is ramp.kind ramp.positions ramp.channels t (Between k) in
      let c : x.colour ≡ colour_in ramp.kind ramp.positions ramp.channels t (place_of ramp.positions t) =
      ap (λ (y : Point). y.colour) q ∙ p.1 ∙ ap (colour_in ramp.kind ramp.positions ramp.channels t) (sym (found ramp.positions t k v.rising h)) in
      let at : x.t ≡ t = ap (λ (y : Point). y.t) q ∙ p.0 in
      (at, rw (e, at) c)

  pub drawn_there : (i : ℕ) {s s' : Drawn} {x : Point} → is_gimp ramp.kind ≡ false → (curved : is_catmull_rom ramp.kind ≡ true) → Carrying ramp i s
      → Draws ramp.positions ramp.channels t (Between k) i s s' x → PointAt (colour_of ramp) t x × Carrying ramp x.pair s'
  drawn_there i e curved has q =
      let v = valid ramp e fine in
      let w = drawn_point ramp fine curved t i (has curved) (sym (found ramp.positions t k v.rising h)) q in
      (w.0, (λ d. w.1))
