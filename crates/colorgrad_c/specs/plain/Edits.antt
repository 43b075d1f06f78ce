-- The sorts of edit by their codes. A code that names none is an edit of no place: the first stop cannot be removed.
use Rattle.std.specs.Prelude.{ℕ, cond, eqb, Float}
use Rattle.blend.specs.declared.Rgba.{Rgba}
use Rattle.refresh.specs.declared.editing.Edit.{Edit}
use Rattle.refresh.specs.declared.editing.Edit.TheVariants.{Colour, Move, Add, Remove}

-- a colour is four numbers
abbrev pub rgba_of : Float → Float → Float → Float → Rgba
rgba_of r g b a = record { r = r; g = g; b = b; a = a }

unfoldable pub edit_of : ℕ → ℕ → Float → Float → Float → Float → Float → Edit
edit_of sort k p r g b a =
    cond (eqb sort 0) (Colour k (rgba_of r g b a))
    (cond (eqb sort 1) (Move k p)
    (cond (eqb sort 2) (Add k p (rgba_of r g b a))
    (cond (eqb sort 3) (Remove k) (Remove 0))))
