-- `is_near` meets its contract: the parts, one within the other, are the definition. Assumes nothing.
use mathlib.Core.Path.{◌≡◌}
use lib.Ieee.{Float, le}
use Rattle.blend.specs.declared.Rgba.{Rgba}
use Rattle.difference.specs.Difference.{clamped_of, squares_of}
use Rattle.difference.proofs.is_near.Goals as goal

is : (cutoff q : Float) (x y u v : Rgba) → u ≡ clamped_of x → v ≡ clamped_of y → q ≡ squares_of u v → le q cutoff ≡ le (squares_of (clamped_of x) (clamped_of y)) cutoff
is cutoff q x y u v a b e = rw (e, a, b)

pub returns : goal.returns
returns c = is _ _ _ _ _ _ c.clamped.ensures c.clamped-2.ensures c.squares.ensures
