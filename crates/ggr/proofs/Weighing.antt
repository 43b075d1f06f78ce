-- What a line holds after the segment before it. Assumes nothing.
use Prim.Native.Nat.{ℕ}
use native.Mathlib.Omega.{arith}
use mathlib.Core.Path.{◌≡◌, refl, sym, ap, ◌∙◌}
use mathlib.Core.Bool.{Bool, true, false, cond}
use lib.Ieee.{Float}
use Rattle.refusals.specs.Refusals.{torn}
use Rattle.gradient.specs.declared.gimp.Segment.{Segment}
use Rattle.segment.specs.declared.SegmentRead.{SegmentRead}
use Rattle.segment.specs.declared.SegmentRead.TheVariants.{Valid, Fault}
use Rattle.ggr.specs.File.{joins, joined_to}

-- a line that is not torn holds the segment that was read, and it joins
pub weighs : (end : Float) (l : SegmentRead) (g : Segment) → joined_to end l ≡ Valid g → (l ≡ Valid g) × (joins end g ≡ true)
unfolding joined_to
weighs end (Fault a) g e = absurd (let z : ◌≡◌ {A = ℕ} 0 1 = cc in omega arith)
weighs end (Valid h) g e = go (joins end h) refl e where
  go : (b : Bool) → joins end h ≡ b → cond b (Valid h) (Fault torn) ≡ Valid g → (Valid h ≡ Valid g) × (joins end g ≡ true)
  go true q e = let w : h ≡ g = cc in (e, ap (joins end) (sym w) ∙ q)
  go false q e = absurd (let z : ◌≡◌ {A = ℕ} 0 1 = cc in omega arith)
