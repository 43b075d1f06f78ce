-- The difference of two clamped colours in units of 2 ^ -149, by its rounded steps (`measured`); and a colour whose difference from another is a number has channels that are (`numbers`). Assumes nothing.
use Prim.Native.Nat.{◌^◌}
use lib.Dec.{T}
use lib.Ieee.{Float, binary32, of_bits, fits, neg, add, sub, sum, mul, div, round, le}
use lib.Ieee.Fits.{add-fits, sub-fits, mul-fits}
use lib.Ieee.Scale.{finite}
use Rattle.float.specs.F32.{◌⊖◌, ◌⊗◌, ◌⊘◌, f0, f1, f2}
use Rattle.float.specs.Units.{count}
use Rattle.float.proofs.Order as order
use Rattle.float.proofs.Rounding.{sub_mono}
use Rattle.float.proofs.UnitSums.{Counted}
use Rattle.float.proofs.RoundOff.{gap}
use Rattle.float.proofs.OperationsOff.{counted_up, sub_off, add_off, mul_off, half_off}
use Rattle.sqrt.specs.Root.{root_of}
use Rattle.sqrt.proofs.Squared.{root_single, root_squared}
use Rattle.blend.specs.declared.Rgba.{Rgba}
use Rattle.blend.proofs.Clear.{Clear, clear_finite, clear_counted}
use Rattle.difference.specs.Difference.{squares_of}
use Rattle.difference.proofs.Errors.{Squarely, Measured}
use Rattle.difference.proofs.Sizes.{From0, from0_finite, square_small, Room, Small, most4, two_small, three_small, squares_small, half_mono, root_from0, half_root}

-- ---- a colour whose channels are from 0 to 1
pub record ClearColour (c : Rgba) : Type 0 where
  pub red : Clear c.r
  pub green : Clear c.g
  pub blue : Clear c.b
  pub alpha : Clear c.a

unit_facts : T (finite f0) × T (finite f1) × T (le (f1 ⊖ f0) f1) × T (le (neg f1) (f0 ⊖ f1)) × T (finite (f0 ⊘ f2)) × T (le f0 (f0 ⊘ f2))
unfolding of_bits neg sub add sum div round le
unit_facts = (tt, tt, tt, tt, tt, tt)

room1 : Room f1
unfolding of_bits mul add sum round
room1 = record { whole = tt; one = tt; two = tt; three = tt; four = tt }

root4 : T (finite (root_of (most4 f1))) × T (finite (root_of (most4 f1) ⊘ f2)) × T (le (root_of (most4 f1) ⊘ f2) f1)
unfolding root_of of_bits mul add sum div round le
root4 = (tt, tt, tt)

module _ (a b : Float) (wa : Clear a) (wb : Clear b) where
  small : Small (a ⊖ b) f1
  small =
      let fa = clear_finite a wa in
      let fb = clear_finite b wb in
      record {
        least = order.le_trans (neg f1) (f0 ⊖ f1) (a ⊖ b) unit_facts.3 (sub_mono f0 f1 a b unit_facts.0 unit_facts.1 fa fb wa.low wb.high);
        most = order.le_trans (a ⊖ b) (f1 ⊖ f0) f1 (sub_mono a b f1 f0 fa fb unit_facts.1 unit_facts.0 wa.high wb.low) unit_facts.2;
      }

  squared : From0 ((a ⊖ b) ⊗ (a ⊖ b)) (f1 ⊗ f1)
  squared = square_small f1 unit_facts.1 (a ⊖ b) small.least small.most

  gap_finite : T (finite (a ⊖ b))
  gap_finite = order.finite_between (neg f1) (a ⊖ b) f1 neg_one unit_facts.1 small.least small.most
    where
      neg_one : T (finite (neg f1))
      neg_one = unfold neg of_bits in tt

  squarely : Squarely (gap (count a) (count b)) (count ((a ⊖ b) ⊗ (a ⊖ b))) (2 ^ 149)
  squarely =
      record {
        z = count (a ⊖ b);
        part = sub_off a b (count a) (count b) (clear_counted a wa) (clear_counted b wb) gap_finite;
        off = mul_off (a ⊖ b) (a ⊖ b) (sub-fits binary32 a b) (sub-fits binary32 a b) gap_finite gap_finite (from0_finite room1.one squared);
      }

  square_counted : Counted ((a ⊖ b) ⊗ (a ⊖ b)) (count ((a ⊖ b) ⊗ (a ⊖ b))) 0
  square_counted = counted_up _ (mul-fits binary32 (a ⊖ b) (a ⊖ b)) (from0_finite room1.one squared) squared.low

module _ (x y : Rgba) (wx : ClearColour x) (wy : ClearColour y) where
  abbrev e : Float
  e = root_of (squares_of x y) ⊘ f2

  abbrev red : Small (x.r ⊖ y.r) f1
  red = small x.r y.r wx.red wy.red

  abbrev green : Small (x.g ⊖ y.g) f1
  green = small x.g y.g wx.green wy.green

  abbrev blue : Small (x.b ⊖ y.b) f1
  blue = small x.b y.b wx.blue wy.blue

  abbrev alpha : Small (x.a ⊖ y.a) f1
  alpha = small x.a y.a wx.alpha wy.alpha

  s_single : T (fits binary32 (squares_of x y))
  unfolding squares_of
  s_single = add-fits binary32 _ _

  s_from0 : From0 (squares_of x y) (most4 f1)
  s_from0 = squares_small f1 room1 x y red green blue alpha

  s_finite : T (finite (squares_of x y))
  s_finite = from0_finite room1.four s_from0

  r_from0 : From0 (root_of (squares_of x y)) (root_of (most4 f1))
  r_from0 = root_from0 (squares_of x y) (most4 f1) s_single (add-fits binary32 _ _) s_from0 root4.0

  r_finite : T (finite (root_of (squares_of x y)))
  r_finite = from0_finite root4.0 r_from0

  -- from 0 to 1
  pub half_from0 : From0 e f1
  half_from0 =
      record {
        low = order.le_trans f0 (f0 ⊘ f2) e unit_facts.5 (half_mono f0 (root_of (squares_of x y)) unit_facts.0 r_finite r_from0.low);
        high = order.le_trans e (root_of (most4 f1) ⊘ f2) f1 (half_root (squares_of x y) (most4 f1) s_single (add-fits binary32 _ _) s_from0 root4.0) root4.2;
      }

  pub half-finite : T (finite e)
  half-finite = from0_finite unit_facts.1 half_from0

  pub measured : Measured (gap (count x.r) (count y.r)) (gap (count x.g) (count y.g)) (gap (count x.b) (count y.b)) (gap (count x.a) (count y.a)) (count e) (2 ^ 149)
  unfolding squares_of
  measured =
      let two = two_small f1 room1 x y red green blue alpha in
      let three = three_small f1 room1 x y red green blue alpha in
      let f₂ = from0_finite room1.two two in
      let f₃ = from0_finite room1.three three in
      let c₁ = square_counted x.r y.r wx.red wy.red in
      let c₂ = square_counted x.g y.g wx.green wy.green in
      let c₃ = square_counted x.b y.b wx.blue wy.blue in
      let c₄ = square_counted x.a y.a wx.alpha wy.alpha in
      let root = root_of (squares_of x y) in
      record {
        p₁ = _;
        p₂ = _;
        p₃ = _;
        p₄ = _;
        s₂ = _;
        s₃ = _;
        s₄ = count (squares_of x y);
        r = count root;
        one = squarely x.r y.r wx.red wy.red;
        other = squarely x.g y.g wx.green wy.green;
        third = squarely x.b y.b wx.blue wy.blue;
        fourth = squarely x.a y.a wx.alpha wy.alpha;
        two = add_off _ _ _ _ c₁ c₂ f₂;
        three = add_off _ _ _ _ (counted_up _ (add-fits binary32 _ _) f₂ two.low) c₃ f₃;
        four = add_off _ _ _ _ (counted_up _ (add-fits binary32 _ _) f₃ three.low) c₄ s_finite;
        root = root_squared (squares_of x y) s_single s_finite s_from0.low;
        half = half_off root (count root) (counted_up root (root_single (squares_of x y) s_single s_finite s_from0.low) r_finite r_from0.low) half-finite;
      }
