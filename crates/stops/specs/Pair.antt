-- The colours beside a pair of stops, the colour between the two by the kind, and the colour at a place. Items 3 to 5 of document 01's 'Ramps carried'.
use Rattle.std.specs.Prelude.{ℕ, ◌+◌, ◌-◌, cond, List, ltb, length, Float}
use Rattle.float.specs.F32.{◌⊖◌, ◌⊗◌, f2}
use Rattle.blend.specs.Blend.{black}
use Rattle.blend.specs.Pair.{linear_pair, smooth_pair, sharp_pair, basis_pair, catmull_pair}
use Rattle.blend.specs.declared.Rgba.{Rgba}
use Rattle.blend.specs.declared.Stop.{Stop}
use Rattle.stops.specs.Stops.{colour_at, stop_at}
use Rattle.stops.specs.declared.Kind.{Kind}
use Rattle.stops.specs.declared.Kind.TheVariants.{Linear, Smoothstep, Sharp, Basis, CatmullRom, Gimp, GimpSaved}
use Rattle.stops.specs.declared.Place.{Place}
use Rattle.stops.specs.declared.Place.TheVariants.{End, Nowhere, Between}

-- on each channel, what would lie past the end p from q: 2 p - q
unfoldable pub beyond : Rgba → Rgba → Rgba
beyond p q = record { r = f2 ⊗ p.r ⊖ q.r; g = f2 ⊗ p.g ⊖ q.g; b = f2 ⊗ p.b ⊖ q.b; a = f2 ⊗ p.a ⊖ q.a }

-- the colours beside the pair k - 1, k, whose colours are p and q, of n stops
unfoldable pub left_of : List Float → ℕ → Rgba → Rgba → Rgba
left_of cs k p q = cond (ltb 1 k) (colour_at cs (k - 2)) (beyond p q)

unfoldable pub right_of : List Float → ℕ → ℕ → Rgba → Rgba → Rgba
right_of cs n k p q = cond (ltb (k + 1) n) (colour_at cs (k + 1)) (beyond q p)

-- between p, which is stop k - 1, and q, which is stop k, of n stops. GIMP segments have no stops
unfoldable pub pair_of : Kind → List Float → ℕ → ℕ → Stop → Stop → Float → Rgba
pair_of Linear cs n k p q t = linear_pair p q t
pair_of Smoothstep cs n k p q t = smooth_pair p q t
pair_of Sharp cs n k p q t = sharp_pair (k - 1) p q t
pair_of Basis cs n k p q t = basis_pair (left_of cs k p.colour q.colour) p q (right_of cs n k p.colour q.colour) t
pair_of CatmullRom cs n k p q t = catmull_pair (left_of cs k p.colour q.colour) p q (right_of cs n k p.colour q.colour) t
pair_of Gimp cs n k p q t = black
pair_of GimpSaved cs n k p q t = black

unfoldable pub between : Kind → List Float → List Float → ℕ → Float → Rgba
between kind ps cs k t = pair_of kind cs (length ps) k (stop_at ps cs (k - 1)) (stop_at ps cs k) t

-- the colour at a place
unfoldable pub colour_in : Kind → List Float → List Float → Float → Place → Rgba
colour_in kind ps cs t (End i) = colour_at cs i
colour_in kind ps cs t Nowhere = black
colour_in kind ps cs t (Between k) = between kind ps cs k t
