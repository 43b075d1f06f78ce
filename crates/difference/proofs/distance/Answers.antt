-- `distance` meets its contract: the parts, one within the other, are the definition. Assumes nothing.
use mathlib.Core.Path.{◌≡◌}
use lib.Ieee.{Float}
use Rattle.float.specs.F32.{◌⊘◌, f2}
use Rattle.sqrt.specs.Root.{root_of}
use Rattle.blend.specs.declared.Rgba.{Rgba}
use Rattle.difference.specs.Difference.{clamped_of, squares_of, distance_of}
use Rattle.difference.proofs.distance.Goals as goal

is : (q z : Float) (x y u v : Rgba) → u ≡ clamped_of x → v ≡ clamped_of y → q ≡ squares_of u v → z ≡ root_of q → z ⊘ f2 ≡ distance_of x y
is q z x y u v a b e f = rw (f, e, a, b)

pub returns : goal.returns
returns c = is _ _ _ _ _ _ c.clamped-a.ensures c.clamped-b.ensures c.squares.ensures c.root.ensures
