-- The colour between two stops, by each kind. Items 3 to 5 of document 01's 'Ramps carried'.
use Rattle.std.specs.Prelude.{ℕ, ◌%◌, cond, eqb, Float}
use Rattle.float.specs.F32.{◌⊖◌, ◌⊘◌}
use Rattle.blend.specs.Blend.{linear, smooth}
use Rattle.blend.specs.Basis.{basis}
use Rattle.blend.specs.CatmullRom.{segment_of, segment_at}
use Rattle.blend.specs.declared.Rgba.{Rgba}
use Rattle.blend.specs.declared.Stop.{Stop}

-- how far t has come from stop p to stop q
abbrev pub share_of : Stop → Stop → Float → Float
share_of p q t = (t ⊖ p.position) ⊘ (q.position ⊖ p.position)

unfoldable pub linear_pair : Stop → Stop → Float → Rgba
linear_pair p q t = linear p.colour q.colour (share_of p q t)

unfoldable pub smooth_pair : Stop → Stop → Float → Rgba
smooth_pair p q t = smooth p.colour q.colour (share_of p q t)

-- a pair with even lower index is flat
unfoldable pub sharp_pair : ℕ → Stop → Stop → Float → Rgba
sharp_pair lower p q t = cond (eqb (lower % 2) 0) p.colour (smooth_pair p q t)

-- a spline takes the colours beside the pair too
unfoldable pub basis_pair : Rgba → Stop → Stop → Rgba → Float → Rgba
basis_pair left p q right t = basis (share_of p q t) left p.colour q.colour right

unfoldable pub catmull_pair : Rgba → Stop → Stop → Rgba → Float → Rgba
catmull_pair left p q right t = segment_at (segment_of left p.colour q.colour right) (share_of p q t)
