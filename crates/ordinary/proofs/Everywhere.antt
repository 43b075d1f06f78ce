-- The colours of moderate ramps are finite at every t, and those of ordinary ones within 0 to 1. One law over the kind. Assumes nothing.
use mathlib.Core.Path.{◌≡◌, refl, sym}
use mathlib.Core.Bool.{Bool, true, false, cond, true≢false}
use mathlib.Core.List.{List}
use Prim.Native.Nat.{ℕ, ◌+◌, ◌-◌, ◌*◌, ◌%◌, ◌<◌}
use native.Mathlib.Omega.{arith}
use lib.Dec.{T, eqb}
use lib.ListN.{length, get_or}
use lib.Ieee.{Float, nan, binary32, of_bits, neg, fits, le}
use lib.Ieee.Bits.{is_true}
use lib.Ieee.Scale.{finite}
use Rattle.float.specs.F32.{◌⊖◌, f0, f1}
use Rattle.float.proofs.Order as order
use Rattle.blend.specs.Blend.{linear1, smooth1, linear, smooth, black}
use Rattle.blend.specs.Pair.{share_of, linear_pair, smooth_pair, sharp_pair}
use Rattle.blend.specs.declared.Rgba.{Rgba}
use Rattle.stops.specs.Lent.{Ramp}
use Rattle.stops.specs.Stops.{pos_at, colour_at, stop_at, finite_rgba}
use Rattle.stops.specs.Pair.{pair_of, between}
use Rattle.stops.specs.declared.Kind.{Kind}
use Rattle.stops.specs.declared.Kind.TheVariants.{Linear, Smoothstep, Sharp, Basis, CatmullRom, Gimp, GimpSaved}
use Rattle.stops.proofs.Valid.{Valid}
use Rattle.gradient.specs.Ramp.{is_gimp, colour_of}
use Rattle.ordinary.specs.Ordinary.{AllFrom, Singles, of_pairs, largest, InUnit, UnitColour}
use Rattle.ordinary.proofs.Blends.{linear_finite, smooth_finite}
use Rattle.ordinary.proofs.UnitBlend.{blend_low, blend_high}
use Rattle.ordinary.proofs.Colours.{Past, Share, everywhere, share_is}

-- ---- what holds of each channel
pub record Each (Q : Float → Type 0) (c : Rgba) : Type 0 where
  pub red : Q c.r
  pub green : Q c.g
  pub blue : Q c.b
  pub alpha : Q c.a

stop_each : (Q : Float → Type 0) (cs : List Float) (n i : ℕ) → length cs ≡ 4 * n → ((j : ℕ) → j < length cs → Q (get_or cs j nan)) → i < n → Each Q (colour_at cs i)
stop_each Q cs n i e h l = record { red = h (4 * i) (omega arith); green = h (4 * i + 1) (omega arith); blue = h (4 * i + 2) (omega arith); alpha = h (4 * i + 3) (omega arith) }

all_finite : (c : Rgba) → Each (λ x. T (finite x)) c → finite_rgba c ≡ true
all_finite c h = rw (is_true (finite c.r) h.red, is_true (finite c.g) h.green, is_true (finite c.b) h.blue, is_true (finite c.a) h.alpha)

-- ---- finite
pub record Sized (l x : Float) : Type 0 where
  whole : T (finite x)
  low : T (le (neg l) x)
  high : T (le x l)

module _ (s : Float) (at : Share s) (p q : Rgba) where
  linear_each : Each (Sized (largest Linear)) p → Each (Sized (largest Linear)) q → finite_rgba (linear p q s) ≡ true
  unfolding linear
  linear_each h k = all_finite (linear p q s) (record { red = one h.red k.red; green = one h.green k.green; blue = one h.blue k.blue; alpha = one h.alpha k.alpha })
    where
      one : {a b : Float} → Sized (largest Linear) a → Sized (largest Linear) b → T (finite (linear1 a b s))
      one {a} {b} u v = linear_finite a b s u.whole v.whole at.whole at.low at.high u.low u.high v.low v.high

  smooth_each : Each (Sized (largest Smoothstep)) p → Each (Sized (largest Smoothstep)) q → finite_rgba (smooth p q s) ≡ true
  unfolding smooth
  smooth_each h k = all_finite (smooth p q s) (record { red = one h.red k.red; green = one h.green k.green; blue = one h.blue k.blue; alpha = one h.alpha k.alpha })
    where
      one : {a b : Float} → Sized (largest Smoothstep) a → Sized (largest Smoothstep) b → T (finite (smooth1 a b s))
      one {a} {b} u v = smooth_finite a b s u.whole v.whole at.whole at.low at.high u.low u.high v.low v.high

flat_or_not : (b : Bool) (c d : Rgba) → finite_rgba c ≡ true → finite_rgba d ≡ true → finite_rgba (cond b c d) ≡ true
flat_or_not true c d h k = h
flat_or_not false c d h k = k

-- between two stops, by the kind
pub pair_finite : (kind : Kind) (ps cs : List Float) (n k : ℕ) (t : Float) → of_pairs kind ≡ true → Share (share_of (stop_at ps cs (k - 1)) (stop_at ps cs k) t)
    → Each (Sized (largest kind)) (colour_at cs (k - 1)) → Each (Sized (largest kind)) (colour_at cs k) → finite_rgba (colour_at cs (k - 1)) ≡ true
    → finite_rgba (pair_of kind cs n k (stop_at ps cs (k - 1)) (stop_at ps cs k) t) ≡ true
unfolding pair_of linear_pair smooth_pair sharp_pair
pair_finite Linear ps cs n k t o at h j f = linear_each _ at (colour_at cs (k - 1)) (colour_at cs k) h j
pair_finite Smoothstep ps cs n k t o at h j f = smooth_each _ at (colour_at cs (k - 1)) (colour_at cs k) h j
pair_finite Sharp ps cs n k t o at h j f = flat_or_not (eqb ((k - 1) % 2) 0) (colour_at cs (k - 1)) _ f (smooth_each _ at (colour_at cs (k - 1)) (colour_at cs k) h j)
pair_finite Basis ps cs n k t o at h j f = absurd (true≢false (sym o))
pair_finite CatmullRom ps cs n k t o at h j f = absurd (true≢false (sym o))
pair_finite Gimp ps cs n k t o at h j f = absurd (true≢false (sym o))
pair_finite GimpSaved ps cs n k t o at h j f = absurd (true≢false (sym o))

pub no_segments : (kind : Kind) → of_pairs kind ≡ true → is_gimp kind ≡ false
no_segments Linear h = refl
no_segments Smoothstep h = refl
no_segments Sharp h = refl
no_segments Basis h = refl
no_segments CatmullRom h = refl
no_segments Gimp h = absurd (true≢false (sym h))
no_segments GimpSaved h = absurd (true≢false (sym h))

black_finite : finite_rgba black ≡ true
unfolding of_bits
black_finite = refl

bounds : (kind : Kind) → T (finite (neg (largest kind))) × T (finite (largest kind))
unfolding of_bits neg
bounds Linear = (tt, tt)
bounds Smoothstep = (tt, tt)
bounds Sharp = (tt, tt)
bounds Basis = (tt, tt)
bounds CatmullRom = (tt, tt)
bounds Gimp = (tt, tt)
bounds GimpSaved = (tt, tt)

sized_in : (kind : Kind) (x : Float) → T (le (neg (largest kind)) x) × T (le x (largest kind)) → Sized (largest kind) x
sized_in kind x h = record { whole = order.finite_between (neg (largest kind)) x (largest kind) (bounds kind).0 (bounds kind).1 h.0 h.1; low = h.0; high = h.1 }

-- ---- within 0 to 1
record Proper (x : Float) : Type 0 where
  single : T (fits binary32 x)
  whole : T (finite x)
  unit : InUnit x

unit_numbers : T (finite f0) × T (finite f1) × T (le f0 f0) × T (le f0 f1) × T (le f1 f1)
unfolding of_bits le
unit_numbers = (tt, tt, tt, tt, tt)

proper_in : (x : Float) → T (fits binary32 x) → InUnit x → Proper x
proper_in x t h = record { single = t; whole = order.finite_between f0 x f1 unit_numbers.0 unit_numbers.1 h.0 h.1; unit = h }

linear_unit : (s : Float) → Share s → (p q : Rgba) → Each Proper p → Each Proper q → UnitColour (linear p q s)
unfolding linear
linear_unit s at p q h k = record { red = one h.red k.red; green = one h.green k.green; blue = one h.blue k.blue; alpha = one h.alpha k.alpha }
  where
    one : {a b : Float} → Proper a → Proper b → InUnit (linear1 a b s)
    one {a} {b} u v = (
      blend_low a b s u.single u.whole v.whole at.whole u.unit.0 u.unit.1 v.unit.0 v.unit.1 at.low at.high,
      blend_high a b s u.single u.whole v.whole at.whole u.unit.0 u.unit.1 v.unit.0 v.unit.1 at.low at.high,
    )

pair_unit : (kind : Kind) (ps cs : List Float) (n k : ℕ) (t : Float) → kind ≡ Linear → Share (share_of (stop_at ps cs (k - 1)) (stop_at ps cs k) t)
    → Each Proper (colour_at cs (k - 1)) → Each Proper (colour_at cs k) → UnitColour (pair_of kind cs n k (stop_at ps cs (k - 1)) (stop_at ps cs k) t)
unfolding pair_of linear_pair
pair_unit kind ps cs n k t o at h j = rw o (linear_unit _ at (colour_at cs (k - 1)) (colour_at cs k) h j)

-- ---- everywhere
module _ (ramp : Ramp) (ok : Valid ramp) (places : Singles ramp.positions) (span : T (finite (pos_at ramp.positions (length ramp.positions - 1) ⊖ pos_at ramp.positions 0))) where
  abbrev ps : List Float
  ps = ramp.positions

  abbrev cs : List Float
  cs = ramp.channels

  -- a moderate ramp's colours
  pub finite_everywhere : of_pairs ramp.kind ≡ true → AllFrom (neg (largest ramp.kind)) (largest ramp.kind) cs → (t : Float) → finite_rgba (colour_of ramp t) ≡ true
  finite_everywhere o within t =
      everywhere ramp (no_segments ramp.kind o) ok (λ c. finite_rgba c ≡ true) ok.colour_finite black_finite inside t
    where
      sized : (i : ℕ) → i < length ps → Each (Sized (largest ramp.kind)) (colour_at cs i)
      sized i l = stop_each (Sized (largest ramp.kind)) cs (length ps) i ok.sized.four (λ j m. sized_in ramp.kind (get_or cs j nan) (within j m)) l

      inside : (k : ℕ) (t : Float) → Past ps k t → finite_rgba (between ramp.kind ps cs k t) ≡ true
      inside k t at =
          let l = at.there in
          unfold between in pair_finite ramp.kind ps cs (length ps) k t o (share_is ramp (no_segments ramp.kind o) ok places span k t at) (sized (k - 1) (omega arith)) (sized k l) (ok.colour_finite (k - 1) (omega arith))

  -- an ordinary ramp's
  pub unit_everywhere : ramp.kind ≡ Linear → AllFrom f0 f1 cs → Singles cs → (t : Float) → UnitColour (colour_of ramp t)
  unit_everywhere o within singles t = everywhere ramp of_stops ok UnitColour stop none inside t
    where
      of_stops : is_gimp ramp.kind ≡ false
      of_stops = rw o

      proper : (i : ℕ) → i < length ps → Each Proper (colour_at cs i)
      proper i l = stop_each Proper cs (length ps) i ok.sized.four (λ j m. proper_in (get_or cs j nan) (singles j m) (within j m)) l

      stop : (i : ℕ) → i < length ps → UnitColour (colour_at cs i)
      stop i l = let p = proper i l in record { red = p.red.unit; green = p.green.unit; blue = p.blue.unit; alpha = p.alpha.unit }

      none : UnitColour black
      none = record { red = (unit_numbers.2, unit_numbers.3); green = (unit_numbers.2, unit_numbers.3); blue = (unit_numbers.2, unit_numbers.3); alpha = (unit_numbers.3, unit_numbers.4) }

      inside : (k : ℕ) (t : Float) → Past ps k t → UnitColour (between ramp.kind ps cs k t)
      inside k t at =
          let l = at.there in
          unfold between in pair_unit ramp.kind ps cs (length ps) k t o (share_is ramp of_stops ok places span k t at) (proper (k - 1) (omega arith)) (proper k l)
