-- Building a sharp ramp: n colours, each a band, give 2n stops. Item 4 of document 01's 'Ramps carried', and refusals 17, 1, 2, in that order.
use Rattle.std.specs.Prelude.{ℕ, zero, suc, ◌+◌, ◌*◌, ◌/◌, ◌%◌, ◌≡◌, Bool, true, not, cond, ◌&&◌, List, [], ◌∷◌, ◌++◌, leb, ltb, eqb, length, get_or, drop, Float}
use Rattle.std.specs.Float.{nan, inf}
use Rattle.std.specs.Float.Ieee.{lt}
use Rattle.std.specs.Float.Ieee.Scale.{finite}
use Rattle.refusals.specs.Refusals.{misshapen, not_finite, not_built}
use Rattle.refusals.specs.Limits.{most_colours}
use Rattle.float.specs.F32.{◌⊕◌, ◌⊖◌, ◌⊗◌, ◌⊘◌, f4, tenth}
use Rattle.float.specs.Number.{clamp_of, count_of}
use Rattle.blend.specs.Points.{linspace_at}
use Rattle.blend.specs.Finite.{all_finite}
use Rattle.stops.specs.Stops.{steady}
use Rattle.sharp_ramp.specs.declared.Built.{Built}
use Rattle.sharp_ramp.specs.declared.Built.TheVariants.{Stops, Refused}

-- ---- the stops
-- not finite becomes 0.1, else is clamped to 0..1
unfoldable pub softness_of : Float → Float
softness_of s = cond (finite s) (clamp_of s) tenth

-- how far a stop lies inside its band's end
unfoldable pub inset_of : Float → Float → Float → ℕ → Float
inset_of min max s n = softness_of s ⊗ (max ⊖ min) ⊘ count_of n ⊘ f4

-- Stop j of 2n: band j / 2 runs from point j / 2 of n + 1 to the next, and its two stops lie inside, but for the first and the last of all.
unfoldable pub band_at : Float → Float → Float → ℕ → ℕ → Float
band_at min max inset n j =
    cond (eqb (j % 2) 0)
    (cond (ltb 0 j) (linspace_at min max (n + 1) (j / 2) ⊕ inset) (linspace_at min max (n + 1) (j / 2)))
    (cond (ltb (j + 1) (2 * n)) (linspace_at min max (n + 1) (j / 2 + 1) ⊖ inset) (linspace_at min max (n + 1) (j / 2 + 1)))

-- f 0, f 1, .., f (n - 1)
unfoldable pub listed : (ℕ → Float) → ℕ → List Float
listed f zero = []
listed f (suc n) = listed f n ++ (f n ∷ [])

unfoldable pub sharp_positions : Float → Float → Float → ℕ → List Float
sharp_positions min max s n = listed (band_at min max (inset_of min max s n) n) (2 * n)

-- channel m of the stops: stop m / 4 has the colour of band m / 8
abbrev pub band_channel : List Float → ℕ → Float
band_channel colours m = get_or colours (4 * (m / 8) + m % 4) nan

unfoldable pub sharp_channels : List Float → ℕ → List Float
sharp_channels colours n = listed (band_channel colours) (8 * n)

-- ---- the refusals
-- 17: n bands over a domain
unfoldable pub domain_fits : ℕ → Float → Float → Bool
domain_fits n min max = leb 1 n && leb n most_colours && finite min && finite max && not (lt max min)

-- 1: m channels are those of n colours, and p positions and c channels have room for 2n stops
unfoldable pub roomy : ℕ → ℕ → ℕ → ℕ → Bool
roomy m n p c = eqb m (4 * n) && leb (2 * n) p && leb (8 * n) c

-- the number of colours: four channels each
abbrev pub bands : List Float → ℕ
bands colours = length colours / 4

-- 17, then 1, then 2; p and c are the lengths of the lent outputs. Nothing is below the first position's `prev`
unfoldable pub build_of : List Float → Float → Float → Float → ℕ → ℕ → Built
build_of colours min max s p c =
    let n = bands colours in
    cond (domain_fits n min max && steady max (inf true) (sharp_positions min max s n))
    (cond (roomy (length colours) n p c) (cond (all_finite colours) (Stops (2 * n)) (Refused not_finite)) (Refused misshapen))
    (Refused not_built)

-- document 01's number of each answer, 0 for none, and its value, the number of stops; it has no line
abbrev pub number_of_built : Built → ℕ
number_of_built (Stops m) = 0
number_of_built (Refused k) = k

abbrev pub stops_of_built : Built → ℕ
stops_of_built (Stops m) = m
stops_of_built (Refused k) = 0

-- ---- the outputs
-- what was written, and past it what was there; a refusal changes nothing
unfoldable pub after_building : Built → List Float → List Float → List Float
after_building (Stops m) written old = written ++ drop (length written) old
after_building (Refused k) written old = old

-- the promise of `build`: the answer, its number and value, and what both lent outputs hold at the end
pub record Builds (colours : List Float) (min max s : Float) (ps ps' cs cs' : List Float) (r : Built) : Type 0 where
  pub answer : r ≡ build_of colours min max s (length ps) (length cs)
  pub number : number_of_built r ≡ number_of_built (build_of colours min max s (length ps) (length cs))
  pub stops : stops_of_built r ≡ stops_of_built (build_of colours min max s (length ps) (length cs))
  pub positions : ps' ≡ after_building (build_of colours min max s (length ps) (length cs)) (sharp_positions min max s (bands colours)) ps
  pub channels : cs' ≡ after_building (build_of colours min max s (length ps) (length cs)) (sharp_channels colours (bands colours)) cs
