-- What the functions within promise each other, and those that fill a table of segments: a Catmull-Rom segment with its chords in hand. With the chords of its own four colours
-- it is `segment_of` (proofs/Curves, drawn-by-own).
use Rattle.std.specs.Prelude.{List, [], ◌∷◌, Float}
use Rattle.float.specs.F32.{◌⊕◌, ◌⊖◌, f0}
use Rattle.blend.specs.CatmullRom.{chord, tangent, cubic}
use Rattle.blend.specs.declared.Rgba.{Rgba}

-- channel by channel
unfoldable pub chords_of : Rgba → Rgba → Rgba
chords_of p q = record { r = chord p.r q.r; g = chord p.g q.g; b = chord p.b q.b; a = chord p.a q.a }

-- one channel's four coefficients, by the chords before, within and after the pair
unfoldable pub coefficients_by : Float → Float → Float → Float → Float → Float → Float → List Float
coefficients_by v0 v1 v2 v3 before within after =
    let t1 = f0 ⊕ before in
    let t2 = t1 ⊕ within in
    let t3 = t2 ⊕ after in
    cubic v1 v2 (tangent (t2 ⊖ t1) v0 v1 v2 f0 t1 t2) (tangent (t2 ⊖ t1) v1 v2 v3 t1 t2 t3)

unfoldable pub segment_drawn : Rgba → Rgba → Rgba → Rgba → Rgba → Rgba → Rgba → List (List Float)
segment_drawn p0 p1 p2 p3 before within after =
    coefficients_by p0.r p1.r p2.r p3.r before.r within.r after.r
    ∷ coefficients_by p0.g p1.g p2.g p3.g before.g within.g after.g
    ∷ coefficients_by p0.b p1.b p2.b p3.b before.b within.b after.b
    ∷ coefficients_by p0.a p1.a p2.a p3.a before.a within.a after.a
    ∷ []
