-- A stop that is not refused: the tests that it passes, and that it has room. Assumes nothing.
use mathlib.Core.Path.{◌≡◌, refl}
use mathlib.Core.Bool.{Bool, true, false, cond}
use Prim.Native.Nat.{ℕ, ◌<◌}
use native.Mathlib.Omega.{arith}
use borrow.Author.Tests.{lt-leb, leb-false}
use lib.Dec.{leb}
use lib.Ieee.{Float, lt}
use lib.Ieee.Scale.{finite}
use Rattle.blend.specs.declared.Rgba.{Rgba}
use Rattle.stops.specs.Stops.{finite_rgba}
use Rattle.thinning.specs.Kept.{stop_refusal}

module _ (room n : ℕ) (last t : Float) (c : Rgba) where
  module _ (h : n < room) where
    module _ (p : finite t ≡ true) where
      module _ (q : finite_rgba c ≡ true) where
        pub stop_fine : lt t last ≡ false → 0 ≡ stop_refusal room n last t c
        unfolding stop_refusal
        stop_fine l = simp (lt-leb room n h, p, q, l)

  not_seven : (b : Bool) (z : ℕ) → cond b 7 z ≡ 0 → b ≡ false
  not_seven true z h = absurd (omega arith)
  not_seven false z h = refl

  -- a stop that is not refused has room
  pub has_room : stop_refusal room n last t c ≡ 0 → n < room
  unfolding stop_refusal
  has_room h = leb-false room n (not_seven (leb room n) _ h)
