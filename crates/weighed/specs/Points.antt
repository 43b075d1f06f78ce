-- The points at which a list is weighed: min, whatever lies strictly between min and max of a record's points, of the lent positions and of their neighbours, and max.
use Rattle.std.specs.Prelude.{Bool, cond, ◌&&◌, List, [], ◌∷◌, ℕ, zero, suc, ◌+◌, length, Float}
use Rattle.std.specs.Float.Ieee.{lt}
use Rattle.float.specs.Number.{above_of, below_of}
use Rattle.stops.specs.Lent.{Ramp}
use Rattle.gradient.specs.Ramp.{min_of, max_of}

-- a point, and what it is: the record's, beside a lent position, or a lent position itself
abbrev pub sampled_mark : ℕ
sampled_mark = 0

abbrev pub beside_mark : ℕ
beside_mark = 1

abbrev pub lent_mark : ℕ
lent_mark = 2

pub record Site : Type 0 where
  pub t : Float
  pub mark : ℕ

abbrev pub site : Float → ℕ → Site
site t m = record { t = t; mark = m }

-- ---- the lent positions and their neighbours: three lists that never fall, where the positions never fall
unfoldable pub sites_by : (Float → Float) → ℕ → List Float → List Site
sites_by f m [] = []
sites_by f m (p ∷ ps) = site (f p) m ∷ sites_by f m ps

-- two lists made one: of the next of each the lesser is taken, at a tie the second's
unfoldable pub before : Site → (List Site → List Site) → List Site → List Site
before x rest [] = x ∷ rest []
before x rest (y ∷ ys) = cond (lt x.t y.t) (x ∷ rest (y ∷ ys)) (y ∷ before x rest ys)

unfoldable pub joined_with : List Site → List Site → List Site
joined_with [] ys = ys
joined_with (x ∷ xs) ys = before x (joined_with xs) ys

-- at a tie a lent position comes before a neighbour
unfoldable pub own_of : List Float → List Site
own_of ps = joined_with (joined_with (sites_by below_of beside_mark ps) (sites_by above_of beside_mark ps)) (sites_by (λ p. p) lent_mark ps)

-- ---- the record's points and these: of the next of each the lesser is taken, at a tie not the record's; what does not lie between the point taken last and max is passed over
module _ (max : Float) where
  unfoldable pub inside : Float → Float → Bool
  inside last t = lt last t && lt t max

  -- at most n steps, each of which takes or passes over one
  unfoldable pub merged : ℕ → Float → List Float → List Site → List Site
  merged zero last ts os = []
  merged (suc n) last [] [] = []
  merged (suc n) last (t ∷ ts) [] = cond (inside last t) (site t sampled_mark ∷ merged n t ts []) (merged n last ts [])
  merged (suc n) last [] (o ∷ os) = cond (inside last o.t) (o ∷ merged n o.t [] os) (merged n last [] os)
  merged (suc n) last (t ∷ ts) (o ∷ os) =
      cond (inside last t)
      (cond (inside last o.t)
      (cond (lt t o.t) (site t sampled_mark ∷ merged n t ts (o ∷ os)) (o ∷ merged n o.t (t ∷ ts) os))
      (merged n last (t ∷ ts) os))
      (merged n last ts (o ∷ os))

-- the points strictly between min and max, of a ramp and a record's points
unfoldable pub sites_of : Ramp → List Float → List Site
sites_of ramp ts = merged (max_of ramp) (length ts + length (own_of ramp.positions)) (min_of ramp) ts (own_of ramp.positions)
