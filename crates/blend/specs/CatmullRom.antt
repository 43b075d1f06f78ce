-- The Catmull-Rom spline, in the source's order: alpha 0.5, tension 0. Item 5 of document 01's 'Ramps carried'. v1 and v2 are the values of the pair, v0 and v3 those beside it.
use Rattle.std.specs.Prelude.{cond, List, [], ◌∷◌, get_or, Float}
use Rattle.std.specs.Float.{nan}
use Rattle.std.specs.Float.Ieee.{neg, is_nan}
use Rattle.float.specs.F32.{◌⊕◌, ◌⊖◌, ◌⊗◌, ◌⊘◌, f0, f1, f2, f3}
use Rattle.float.specs.Number.{magnitude_of}
use Rattle.sqrt.specs.Root.{root_of}
use Rattle.blend.specs.declared.Rgba.{Rgba}

-- the root of |v - w|
unfoldable pub chord : Float → Float → Float
chord v w = root_of (magnitude_of (v ⊖ w))

-- a tangent that is not-a-number becomes 0
unfoldable pub tangent : Float → Float → Float → Float → Float → Float → Float → Float
tangent w x y z t0 t1 t2 =
    let m = (f1 ⊖ f0) ⊗ w ⊗ ((x ⊖ y) ⊘ (t0 ⊖ t1) ⊖ (x ⊖ z) ⊘ (t0 ⊖ t2) ⊕ (y ⊖ z) ⊘ (t1 ⊖ t2)) in
    cond (is_nan m) f0 m

-- the cubic from v1 to v2 with the tangents m1 and m2
unfoldable pub cubic : Float → Float → Float → Float → List Float
cubic v1 v2 m1 m2 =
    (f2 ⊗ v1 ⊖ f2 ⊗ v2 ⊕ m1 ⊕ m2) ∷ (neg f3 ⊗ v1 ⊕ f3 ⊗ v2 ⊖ f2 ⊗ m1 ⊖ m2) ∷ m1 ∷ v1 ∷ []

-- one channel's four coefficients
unfoldable pub coefficients_of : Float → Float → Float → Float → List Float
coefficients_of v0 v1 v2 v3 =
    let t1 = f0 ⊕ chord v0 v1 in
    let t2 = t1 ⊕ chord v1 v2 in
    let t3 = t2 ⊕ chord v2 v3 in
    cubic v1 v2 (tangent (t2 ⊖ t1) v0 v1 v2 f0 t1 t2) (tangent (t2 ⊖ t1) v1 v2 v3 t1 t2 t3)

-- four channels of four coefficients
unfoldable pub segment_of : Rgba → Rgba → Rgba → Rgba → List (List Float)
segment_of p0 p1 p2 p3 =
    coefficients_of p0.r p1.r p2.r p3.r
    ∷ coefficients_of p0.g p1.g p2.g p3.g
    ∷ coefficients_of p0.b p1.b p2.b p3.b
    ∷ coefficients_of p0.a p1.a p2.a p3.a
    ∷ []

unfoldable pub cubic_at : List Float → Float → Float
cubic_at s t =
    let t2 = t ⊗ t in
    let t3 = t2 ⊗ t in
    get_or s 0 nan ⊗ t3 ⊕ get_or s 1 nan ⊗ t2 ⊕ get_or s 2 nan ⊗ t ⊕ get_or s 3 nan

unfoldable pub segment_at : List (List Float) → Float → Rgba
segment_at s t = record { r = cubic_at (get_or s 0 []) t; g = cubic_at (get_or s 1 []) t; b = cubic_at (get_or s 2 []) t; a = cubic_at (get_or s 3 []) t }
