-- The ends of a domain and of its last cell in units of 2 ^ -149. Where max - min is an f32, the last cell ends at max. Assumes nothing.
use mathlib.Core.Path.{◌≡◌, refl, ap, ◌∙◌}
use mathlib.Core.Bool.{true, false}
use mathlib.Core.Logic.{◌⊎◌, inl, inr}
use Prim.Native.Nat.{ℕ, ◌+◌, ◌-◌, ◌*◌, ◌^◌, ◌≤◌, ◌<◌}
use native.Mathlib.Nat.{zero-mul, mul-le-mul_right, le_of_mul-le-mul_right}
use native.Mathlib.Omega.{arith}
use lib.Dec.{T}
use lib.Pow.{pow_pos}
use lib.IntN.{negsuc}
use lib.Ieee.{Float, fin, binary32, fits, round, sub, mul, div, of_int, of_bits, neg, le}
use lib.Ieee.Bits.{of_bits-fits}
use lib.Ieee.Fits.{sub-fits}
use lib.Ieee.Positive.{den}
use lib.Ieee.Scale.{finite}
use Rattle.float.specs.F32.{◌⊕◌, ◌⊖◌, ◌⊗◌, f0, f1}
use Rattle.float.proofs.Order as order
use Rattle.float.proofs.Rounding.{add_mono, mul_mono}
use Rattle.float.proofs.SignedOrder.{zero_of}
use Rattle.float.proofs.SignedRound.{con}
use Rattle.sampling.specs.Constants.{farthest}
use Rattle.sampling.specs.Cells.{edge_of}
use Rattle.refresh.specs.reach.KeptCells.{is_domain}
use Rattle.ordinary.proofs.UnitBlend.{once_high}
use Rattle.ordinary.proofs.Rising as domains
use Rattle.ordinary.proofs.Rising.{along}
use Rattle.float.proofs.UnitSums.{Counted, Units, units_of, le_units, sum_under, opposite}
use Rattle.ordinary.proofs.RightHalves.{floor, numbers}

-- ---- the numbers of units of the ends of a domain
bounded : (p n t : ℕ) → (p ≡ 0) ⊎ (n ≡ 0) → p + 0 ≤ t + n → 0 + n ≤ p + t → (p ≤ t) × (n ≤ t)
bounded p n t (inl z) h k = (omega arith, omega arith)
bounded p n t (inr z) h k = (omega arith, omega arith)

farthest_counted : Counted farthest (9860761 * 2 ^ 252) 0
unfolding of_bits
farthest_counted = record { whole = tt; single = of_bits-fits binary32 0x7e96_7699; up = refl; down = refl }

pub shares : T (finite (along 36)) × T (le f0 (along 36)) × T (le (along 36) f1) × T (finite (along 35)) × T (le f0 (along 35)) × T (le (along 35) f1) × T (finite f1) × T (le f0 f0) × T (le f0 (f0 ⊗ f0))
unfolding of_bits of_int div mul round le
shares = (tt, tt, tt, tt, tt, tt, tt, tt, tt)

-- 35 / 36 rounded
pub share_is : along 35 ≡ fin false 8155591 (negsuc 22)
unfolding of_int div round
share_is = refl

pub scaled : (a c z d q r u : ℕ) → 0 < u → a * u ≡ q * c → z * u ≡ r * d → q * 8155591 ≤ r * 8388608 → a * 8155591 * d ≤ z * (c * 8388608)
scaled a c z d q r u U ea ez h =
    let k : q * 8155591 * (c * d) ≤ r * 8388608 * (c * d) = mul-le-mul_right (c * d) h in
    le_of_mul-le-mul_right {k = u} (omega (arith, k, ap (λ (x : ℕ). x * d) ea, ap (λ (x : ℕ). x * c) ez)) U

pub no_down : (y : Float) (p : ℕ) → Counted y p 0 → con y ≡ 0
no_down y p h = zero_of (con y) (2 ^ 149) (pow_pos 149) (h.down ∙ zero-mul (den y))

module _ (lo hi : Float) (domain : is_domain lo hi ≡ true) (fl : T (fits binary32 lo)) (fh : T (fits binary32 hi)) where
  pub ul : Units lo
  ul = units_of lo fl (domains.low_finite lo hi domain)

  pub uh : Units hi
  uh = units_of hi fh (domains.high_finite lo hi domain)

  abbrev span : Float
  span = hi ⊖ lo

  rise : ul.p + uh.n ≤ uh.p + ul.n
  rise = le_units lo hi ul.p ul.n uh.p uh.n ul.is uh.is (domains.ends lo hi domain).1

  abbrev pub d : ℕ
  d = uh.p + ul.n - (ul.p + uh.n)

  pub d_is : ul.p + uh.n + d ≡ uh.p + ul.n
  d_is = omega (arith, rise)

  -- span is no more than what has as many units
  module _ (cap : Float) (q : ℕ) (has : Counted cap q 0) where
    pub under_cap : d ≤ q → T (le span cap)
    unfolding sub
    under_cap h = sum_under hi (neg lo) cap uh.p uh.n ul.n ul.p q 0 uh.is (opposite lo ul.p ul.n ul.is) has (omega (arith, d_is, h))

    -- an end of a cell, of what the span's part is no more than
    pub edge_to : (part z : Float) (r o : ℕ) → T (finite part) → T (le part cap) → Counted z r o → ul.p + q + o ≤ r + ul.n → T (le (lo ⊕ part) z)
    edge_to part z r o fp h c l =
        order.le_trans (lo ⊕ part) (lo ⊕ cap) z
        (add_mono lo part lo cap ul.is.whole fp ul.is.whole has.whole (order.le_refl lo (order.no_nan_l lo hi (domains.ends lo hi domain).1)) h)
        (sum_under lo cap z ul.p ul.n q 0 r o ul.is has c (omega (arith, l)))

    pub whole_part : d ≤ q → T (le (span ⊗ along 36) cap)
    whole_part h =
        order.le_trans (span ⊗ along 36) (span ⊗ f1) cap
        (mul_mono span (along 36) span f1 (domains.span-finite lo hi domain) shares.0 (domains.span-finite lo hi domain) shares.6 (domains.span_low lo hi domain) shares.1 (order.le_refl span (order.no_nan_r f0 span (domains.span_low lo hi domain))) shares.2)
        (order.le_trans (span ⊗ f1) span cap (once_high span (sub-fits binary32 hi lo) (domains.span-finite lo hi domain)) (under_cap h))

  pub part36 : T (finite (span ⊗ along 36))
  part36 = domains.part_finite lo hi domain (along 36) shares.0 shares.1 shares.2

  pub part35 : T (finite (span ⊗ along 35))
  part35 = domains.part_finite lo hi domain (along 35) shares.3 shares.4 shares.5

  -- the span is an f32: the last cell ends at max
  pub exact : (cap : Float) → Counted cap d 0 → T (le (edge_of lo hi 36) hi)
  unfolding edge_of
  exact cap has = edge_to cap d has (span ⊗ along 36) hi uh.p uh.n part36 (whole_part cap d has (omega arith)) uh.is (omega (arith, d_is))

  -- the ends of cells are no less than -1e38
  pub above_floor : (q : Float) → T (finite q) → T (le f0 q) → T (le q f1) → T (le floor (lo ⊕ span ⊗ q))
  above_floor q fq n m =
      add_mono (neg farthest) f0 lo (span ⊗ q) numbers.5 numbers.4 ul.is.whole (domains.part_finite lo hi domain q fq n m) (domains.ends lo hi domain).0
      (order.le_trans f0 (f0 ⊗ f0) (span ⊗ q) shares.8 (mul_mono f0 f0 span q numbers.4 numbers.4 (domains.span-finite lo hi domain) fq shares.7 shares.7 (domains.span_low lo hi domain) n))

  pub high_bounds : (uh.p ≤ 9860761 * 2 ^ 252) × (uh.n ≤ 9860761 * 2 ^ 252)
  high_bounds =
      bounded uh.p uh.n (9860761 * 2 ^ 252) uh.one_sided
      (le_units hi farthest uh.p uh.n (9860761 * 2 ^ 252) 0 uh.is farthest_counted (domains.ends lo hi domain).2)
      (le_units (neg farthest) hi 0 (9860761 * 2 ^ 252) uh.p uh.n (opposite farthest (9860761 * 2 ^ 252) 0 farthest_counted) uh.is (order.le_trans (neg farthest) lo hi (domains.ends lo hi domain).0 (domains.ends lo hi domain).1))

  pub low_bounds : (ul.p ≤ 9860761 * 2 ^ 252) × (ul.n ≤ 9860761 * 2 ^ 252)
  low_bounds =
      bounded ul.p ul.n (9860761 * 2 ^ 252) ul.one_sided
      (le_units lo farthest ul.p ul.n (9860761 * 2 ^ 252) 0 ul.is farthest_counted (order.le_trans lo hi farthest (domains.ends lo hi domain).1 (domains.ends lo hi domain).2))
      (le_units (neg farthest) lo 0 (9860761 * 2 ^ 252) ul.p ul.n (opposite farthest (9860761 * 2 ^ 252) 0 farthest_counted) ul.is (domains.ends lo hi domain).0)

  pub d_most : (q : ℕ) → uh.p ≤ 9860761 * q → ul.n ≤ 9860761 * q → d ≤ 19721522 * q
  d_most q a b = omega arith
