-- Halving a stretch, over any gradient and any test whether two colours are far apart.
use Rattle.std.specs.Prelude.{Bool, cond, List, [], ◌∷◌, ◌++◌, ℕ, zero, suc, ◌+◌, Float}
use Rattle.float.specs.F32.{◌⊕◌, ◌⊘◌, f2, half}
use Rattle.blend.specs.Blend.{linear}
use Rattle.blend.specs.declared.Rgba.{Rgba}

-- a colour for each number
abbrev pub Gradient : Type 0
Gradient = Float → Rgba

-- whether a colour is far from the one foretold
abbrev pub Far : Type 0
Far = Rgba → Rgba → Bool

unfoldable pub mid_of : Float → Float → Float
mid_of t0 t1 = (t0 ⊕ t1) ⊘ f2

-- the midpoint is kept when its colour is far from the half-way mix
unfoldable pub keeps : Gradient → Far → Float → Float → Bool
keeps g far t0 t1 = far (g (mid_of t0 t1)) (linear (g t0) (g t1) half)

-- the midpoints kept between t0 and t1, in order, with n halvings left
unfoldable pub halves : Gradient → Far → ℕ → Float → Float → List Float
halves g far zero t0 t1 = []
halves g far (suc n) t0 t1 =
    cond (keeps g far t0 t1)
    (halves g far n t0 (mid_of t0 t1) ++ mid_of t0 t1 ∷ halves g far n (mid_of t0 t1) t1)
    []

-- how many stretches are tried
unfoldable pub tries : Gradient → Far → ℕ → Float → Float → ℕ
tries g far zero t0 t1 = 0
tries g far (suc n) t0 t1 =
    1 + cond (keeps g far t0 t1)
    (tries g far n t0 (mid_of t0 t1) + tries g far n (mid_of t0 t1) t1)
    0
