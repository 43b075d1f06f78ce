-- The laws that the splines' functions cite. Assumes nothing.
use mathlib.Core.Path.{◌≡◌, sym, ◌∙◌}
use mathlib.Core.Bool.{true, false, cond}
use mathlib.Core.List.{List}
use lib.Ieee.{Float, ne, is_nan}
use Rattle.float.specs.F32.{◌⊕◌, ◌⊖◌, f0}
use Rattle.float.proofs.Order.{ne_self}
use Rattle.blend.specs.CatmullRom.{tangent, cubic, coefficients_of, segment_of}
use Rattle.blend.specs.Chords.{chords_of, coefficients_by, segment_drawn}
use Rattle.blend.specs.declared.Rgba.{Rgba}

-- `if m != m { return z; } m`
pub was_nan : (z m : Float) → ne m m ≡ true → z ≡ cond (is_nan m) z m
was_nan z m h = simp (sym (ne_self m) ∙ h)

pub no_nan : (z m : Float) → ne m m ≡ false → m ≡ cond (is_nan m) z m
no_nan z m h = simp (sym (ne_self m) ∙ h)

-- the coefficients, from what the calls gave
pub coefficients_are : (v0 v1 v2 v3 d1 d2 d3 : Float) {m1 m2 : Float} {r : List Float}
    → m1 ≡ tangent (f0 ⊕ d1 ⊕ d2 ⊖ (f0 ⊕ d1)) v0 v1 v2 f0 (f0 ⊕ d1) (f0 ⊕ d1 ⊕ d2)
    → m2 ≡ tangent (f0 ⊕ d1 ⊕ d2 ⊖ (f0 ⊕ d1)) v1 v2 v3 (f0 ⊕ d1) (f0 ⊕ d1 ⊕ d2) (f0 ⊕ d1 ⊕ d2 ⊕ d3)
    → r ≡ cubic v1 v2 m1 m2
    → r ≡ coefficients_by v0 v1 v2 v3 d1 d2 d3
unfolding coefficients_by
coefficients_are v0 v1 v2 v3 d1 d2 d3 q1 q2 e = e ∙ simp (q1, q2)

-- with its own chords a segment is the document's
pub drawn_by_own : (p0 p1 p2 p3 : Rgba) {before within after : Rgba} → before ≡ chords_of p0 p1 → within ≡ chords_of p1 p2 → after ≡ chords_of p2 p3
    → segment_drawn p0 p1 p2 p3 before within after ≡ segment_of p0 p1 p2 p3
unfolding segment_drawn segment_of coefficients_by coefficients_of chords_of
drawn_by_own p0 p1 p2 p3 a b c = rw (a, b, c)
