-- The basis spline, in the source's order. Item 5 of document 01's 'Ramps carried'. v1 and v2 are the values of the pair, v0 and v3 those beside it.
use Rattle.std.specs.Prelude.{Float}
use Rattle.float.specs.F32.{◌⊕◌, ◌⊖◌, ◌⊗◌, ◌⊘◌, f1, f3, f4, f6}
use Rattle.blend.specs.declared.Rgba.{Rgba}
use Rattle.blend.specs.declared.basis.Weights.{Weights}

-- what each of the four values counts, six times over
unfoldable pub weights_of : Float → Weights
weights_of t =
    let t2 = t ⊗ t in
    let t3 = t2 ⊗ t in
    record { w0 = f1 ⊖ f3 ⊗ t ⊕ f3 ⊗ t2 ⊖ t3; w1 = f4 ⊖ f6 ⊗ t2 ⊕ f3 ⊗ t3; w2 = f1 ⊕ f3 ⊗ t ⊕ f3 ⊗ t2 ⊖ f3 ⊗ t3; w3 = t3 }

unfoldable pub weighted_sum : Weights → Float → Float → Float → Float → Float
weighted_sum w v0 v1 v2 v3 = (w.w0 ⊗ v0 ⊕ w.w1 ⊗ v1 ⊕ w.w2 ⊗ v2 ⊕ w.w3 ⊗ v3) ⊘ f6

-- one channel
abbrev pub basis1 : Float → Float → Float → Float → Float → Float
basis1 t v0 v1 v2 v3 = weighted_sum (weights_of t) v0 v1 v2 v3

unfoldable pub basis : Float → Rgba → Rgba → Rgba → Rgba → Rgba
basis t p0 p1 p2 p3 =
    record {
      r = basis1 t p0.r p1.r p2.r p3.r;
      g = basis1 t p0.g p1.g p2.g p3.g;
      b = basis1 t p0.b p1.b p2.b p3.b;
      a = basis1 t p0.a p1.a p2.a p3.a;
    }
