-- Document 01's proof prints marked P, of the whole product: one table, and one claim about it. Each number is by its bits.
-- What the crates below proved of roots and sharp ramps is cited; the rest is computed from the definitions.
use Rattle.std.specs.Prelude.{◌≡◌, refl, List, [], ◌∷◌, map, ℕ, get_or, Float}
use Rattle.std.proofs.Common.{ap, ap₂}
use Prim.Native.Char.{code}
use Prim.Native.String.{String, [] as empty, ◌∷◌ as ◌then◌}
use Rattle.std.specs.Float.{binary32}
use Rattle.std.specs.Float.Ieee.{of_bits, to_bits, round, add, sub, mul, div, neg, le, lt, is_nan}
use Rattle.float.specs.F32.{f0, f1}
use Rattle.float.specs.Number.{magnitude_of}
use Rattle.sqrt.specs.Root.{root_of}
use Rattle.sqrt.proofs.Prints.{root_bits, root_prints, table as roots}
use Rattle.decimal.specs.Decimal.{are_digits, value_after, before_point, after_point, number_of, unsigned_of, read_of}
use Rattle.decimal.specs.declared.Token.{Token}
use Rattle.decimal.specs.declared.Token.TheVariants.{Number, NoNumber}
use Rattle.blend.specs.Blend.{linear, smooth}
use Rattle.blend.specs.Basis.{weights_of, weighted_sum, basis}
use Rattle.blend.specs.CatmullRom.{chord, tangent, cubic, coefficients_of, segment_of, cubic_at, segment_at}
use Rattle.blend.specs.Pair.{linear_pair, smooth_pair, basis_pair, catmull_pair}
use Rattle.stops.specs.Place.{first_at, place_of}
use Rattle.stops.specs.Pair.{beyond, left_of, right_of, pair_of, between, colour_in}
use Rattle.stops.specs.declared.Kind.{Kind}
use Rattle.stops.specs.declared.Kind.TheVariants.{Linear, Smoothstep, Basis, CatmullRom, Gimp}
use Rattle.gradient.specs.Gimp.{search, segment_found, gimp_segment, along, linear_factor, bent, unwaved, blended, segment_colour, off_domain, gimp_colour}
use Rattle.stops.specs.Lent.{ramp_of}
use Rattle.gradient.specs.Ramp.{colour_of}
use Rattle.sharp_ramp.specs.Sharp.{sharp_positions}
use Rattle.sharp_ramp.proofs.Examples.{prints}

-- what the definitions give, and what document 01 prints
pub record Print : Type 0 where
  pub from : List ℕ
  pub is : List ℕ

abbrev pub floats : List ℕ → List Float
floats [] = []
floats (b ∷ bs) = of_bits binary32 b ∷ floats bs

-- opaque colours without green and blue
abbrev pub reds : List ℕ → List Float
reds [] = []
reds (b ∷ bs) = of_bits binary32 b ∷ f0 ∷ f0 ∷ f1 ∷ reds bs

-- the red at t of a ramp
pub red : Kind → List ℕ → List ℕ → List ℕ → ℕ → ℕ
unfolding colour_of colour_in between pair_of left_of right_of beyond linear_pair smooth_pair basis_pair catmull_pair place_of first_at linear smooth weights_of weighted_sum basis chord tangent cubic coefficients_of segment_of cubic_at segment_at magnitude_of root_of gimp_colour off_domain gimp_segment segment_colour segment_found search along linear_factor bent unwaved blended of_bits to_bits add sub mul div neg le lt is_nan
red kind positions channels codes t = to_bits binary32 (colour_of (ramp_of kind (floats positions) (reds channels) codes) (of_bits binary32 t)).r

-- from black at 0 to red at 1
abbrev pub stops : Kind → ℕ → ℕ
stops kind t = red kind (0 ∷ 0x3f80_0000 ∷ []) (0 ∷ 0x3f80_0000 ∷ []) [] t

bytes : String → List ℕ
bytes empty = []
bytes (c then s) = code c ∷ bytes s

pattern_of : Token → List ℕ
pattern_of (Number x) = to_bits binary32 x ∷ []
pattern_of NoNumber = []

-- the number of a token, if it is one
pub token_bits : String → List ℕ
unfolding bytes pattern_of read_of unsigned_of number_of before_point after_point value_after are_digits round to_bits
token_bits s = pattern_of (read_of (bytes s))

-- In order: linear, smoothstep, basis and Catmull-Rom from 0 to 1, at 0.25, 0.25, 0.5 and 0.25; sharp, 2 colours, softness 0.5 on 0..1; the roots of 2 and of 2 ^ -149; two tokens;
-- GIMP segments 0..0.5 and 0.5..1 at 0.5, whose reds tell which is taken; and one with its middle at 0.25, at 0.625, where the red from 0 to 1 is the factor.
abbrev pub print_table : List Print
print_table =
    record { from = stops Linear 0x3e80_0000 ∷ []; is = 0x3e80_0000 ∷ [] }
    ∷ record { from = stops Smoothstep 0x3e80_0000 ∷ []; is = 0x3e20_0000 ∷ [] }
    ∷ record { from = stops Basis 0x3f00_0000 ∷ []; is = 0x3f00_0000 ∷ [] }
    ∷ record { from = stops CatmullRom 0x3e80_0000 ∷ []; is = 0x3e80_0000 ∷ [] }
    ∷ record { from = map (to_bits binary32) (sharp_positions f0 f1 (of_bits binary32 0x3f00_0000) 2); is = 0 ∷ 0x3ee0_0000 ∷ 0x3f10_0000 ∷ 0x3f80_0000 ∷ [] }
    ∷ record { from = root_bits 0x4000_0000 ∷ []; is = 0x3fb5_04f3 ∷ [] }
    ∷ record { from = root_bits 0x0000_0001 ∷ []; is = 0x1a35_04f3 ∷ [] }
    ∷ record { from = token_bits "0.1"; is = 0x3dcc_cccd ∷ [] }
    ∷ record { from = token_bits "16777217"; is = 0x4b80_0000 ∷ [] }
    ∷ record { from = red Gimp (0 ∷ 0x3e80_0000 ∷ 0x3f00_0000 ∷ 0x3f00_0000 ∷ 0x3f40_0000 ∷ 0x3f80_0000 ∷ []) (0 ∷ 0x3e80_0000 ∷ 0x3f40_0000 ∷ 0x3f80_0000 ∷ []) (0 ∷ 0 ∷ 0 ∷ 0 ∷ []) 0x3f00_0000 ∷ []; is = 0x3f40_0000 ∷ [] }
    ∷ record { from = red Gimp (0 ∷ 0x3e80_0000 ∷ 0x3f80_0000 ∷ []) (0 ∷ 0x3f80_0000 ∷ []) (0 ∷ 0 ∷ []) 0x3f20_0000 ∷ []; is = 0x3f40_0000 ∷ [] }
    ∷ []

-- a line that holds, and those after it
next : {A : Type 0} {x y : A} {xs ys : List A} → x ≡ y → xs ≡ ys → ◌≡◌ {A = List A} (x ∷ xs) (y ∷ ys)
next {A} p q = ap₂ (λ (x : A) (xs : List A). x ∷ xs) p q

root_print : (i : ℕ) → ◌≡◌ {A = List ℕ} (get_or (map (λ (row : ℕ × ℕ). root_bits row.0) roots) i 0 ∷ []) (get_or (map (λ (row : ℕ × ℕ). row.1) roots) i 0 ∷ [])
root_print i = ap (λ (l : List ℕ). get_or l i 0 ∷ []) root_prints

pub claim : map (λ (p : Print). p.from) print_table ≡ map (λ (p : Print). p.is) print_table
unfolding red token_bits
claim =
    next refl
    (next refl
    (next refl
    (next refl
    (next (ap (λ (l : List (List ℕ)). get_or l 0 []) prints)
    (next (root_print 0)
    (next (root_print 1)
    (next refl
    (next refl
    (next refl
    (next refl refl))))))))))
