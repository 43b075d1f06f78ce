-- Codes, and the segment of 15 numbers. Assumes nothing.
use Prim.Native.Nat.{ℕ, ◌^◌, ◌<◌}
use native.Mathlib.Omega.{arith}
use Rattle.std.proofs.lemmas.Int.{ints}
use mathlib.Core.Path.{◌≡◌, refl, ap, ◌∙◌}
use mathlib.Core.Bool.{Bool, true, false, cond}
use mathlib.Core.List.{List}
use lib.ListN.{get_or}
use lib.IntN.{ℤ, pos, negsuc, nat_abs}
use Rattle.std.specs.Prelude.{◌≤ℤ◌, ◌<ℤ◌}
use lib.Ieee.{Float, nan}
use mir.Syntax.{w64}
use mir.Val.{to_z, of_z}
use mir.ValLaws.{to_z-of_z}
use Rattle.refusals.specs.Refusals.{bad_segment, not_carried}
use Rattle.blend.specs.declared.Rgba.{Rgba}
use Rattle.gradient.specs.declared.gimp.Segment.{Segment}
use Rattle.stops.specs.declared.Kind.{Kind}
use Rattle.gradient.specs.Gimp.{carried_of}
use Rattle.segment.specs.declared.Rules.{Rules}
use Rattle.segment.specs.declared.SegmentRead.TheVariants.{Valid, Fault}
use Rattle.segment.specs.Line.{kind_by, cut, code_of, valid_codes, end_colour, judge, build}

-- a whole number from 0 to 5 is itself, any other is 6
pub cut_small : (z : ℤ) → pos 0 ≤ℤ z → z ≤ℤ pos 5 → nat_abs (to_z w64 (of_z w64 z)) ≡ cut z
unfolding cut
cut_small (pos n) l h = let b : n < 2 ^ 63 = omega (arith, ints) in ap nat_abs (to_z-of_z w64 (pos n) (record { sfits = b })) ∙ omega (arith, ints)
cut_small (negsuc n) l h = absurd (omega (arith, ints))

pub cut_low : (z : ℤ) → z <ℤ pos 0 → 6 ≡ cut z
unfolding cut
cut_low (pos n) h = absurd (omega (arith, ints))
cut_low (negsuc n) h = refl

pub cut_high : (z : ℤ) → pos 5 <ℤ z → 6 ≡ cut z
unfolding cut
cut_high (pos n) h = omega (arith, ints)
cut_high (negsuc n) h = refl

-- what the proof of `code` takes
pub ruleset cuts = (cut_small, cut_low, cut_high)

-- ---- the segment of 15 numbers
module _ (rules : Rules) (fg bg : Rgba) (d : List Float) (b k l r : ℕ)
    (eb : b ≡ code_of (get_or d 11 nan)) (ek : k ≡ code_of (get_or d 12 nan)) (el : l ≡ code_of (get_or d 13 nan)) (er : r ≡ code_of (get_or d 14 nan)) where
  pub build_invalid : valid_codes b k l r ≡ false → Fault bad_segment ≡ build rules fg bg d
  unfolding build
  build_invalid h = rw (← eb, ← ek, ← el, ← er, h)

  abbrev pub segment_by : Rgba → Rgba → Segment
  segment_by p q = record { left = get_or d 0 nan; middle = get_or d 1 nan; right = get_or d 2 nan; lcolor = p; rcolor = q; blending = b; colouring = k }

  module _ (h : valid_codes b k l r ≡ true) (p q : Rgba)
      (ep : p ≡ end_colour l (record { r = get_or d 3 nan; g = get_or d 4 nan; b = get_or d 5 nan; a = get_or d 6 nan }) fg bg)
      (eq : q ≡ end_colour r (record { r = get_or d 7 nan; g = get_or d 8 nan; b = get_or d 9 nan; a = get_or d 10 nan }) fg bg) where
    by : judge rules (segment_by p q) ≡ build rules fg bg d
    unfolding build
    by = rw (← eb, ← ek, ← el, ← er, h, ← ep, ← eq)

    module _ {kind : Kind} (w : kind ≡ kind_by rules) {t : Bool} (z : t ≡ carried_of kind (segment_by p q)) where
      by_kind : cond t (Valid (segment_by p q)) (Fault not_carried) ≡ build rules fg bg d
      unfolding judge
      by_kind = ap (λ (u : Bool). cond u (Valid (segment_by p q)) (Fault not_carried)) (z ∙ ap (λ (k : Kind). carried_of k (segment_by p q)) w) ∙ by

      pub build_valid : t ≡ true → Valid (segment_by p q) ≡ build rules fg bg d
      build_valid c = rw c at by_kind

      pub build_not : t ≡ false → Fault not_carried ≡ build rules fg bg d
      build_not c = rw c at by_kind
