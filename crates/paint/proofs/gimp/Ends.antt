-- A step takes one of its two ends by a number, 0 for the left one and 1 for the right one. Assumes nothing.
use mathlib.Core.Path.{◌≡◌, refl, ◌∙◌, ap}
use mathlib.Core.Bool.{Bool, true, false, cond}
use mathlib.Core.List.{List, ◌++◌}
use Prim.Native.Nat.{◌+◌, ◌*◌, ◌≤◌}
use native.Mathlib.Omega.{arith}
use mir.Val.{bool_byte}
use borrow.Author.Tests.{eq-eqb}
use lib.ListN.{length}
use lib.Ieee.{Float, le}
use Rattle.blend.specs.Channels.{channels_of}
use Rattle.blend.specs.declared.Rgba.{Rgba}
use Rattle.stops.specs.Stops.{colour_at}
use Rattle.gradient.specs.Gimp.{step_code, is_costly, unwaved, blended}
use Rattle.gradient.specs.declared.gimp.Segment.{Segment}
use Rattle.gradient.proofs.GimpLaws.{by_rest}

abbrev pub ends_of : Segment → List Float
ends_of g = channels_of g.lcolor ++ channels_of g.rcolor

picked : (g : Segment) (b : Bool) → colour_at (ends_of g) (bool_byte b) ≡ cond b g.rcolor g.lcolor
picked g true = refl
picked g false = refl

pub end_there : (g : Segment) {ends : List Float} → ends ≡ ends_of g → (b : Bool) → 4 * bool_byte b + 4 ≤ length ends
end_there g e true = rw e (omega arith)
end_there g e false = rw e (omega arith)

pub by_step : (g : Segment) (pivot place : Float) {ends : List Float} {z : Rgba} → is_costly g.blending g.colouring ≡ false → ends ≡ ends_of g → g.blending ≡ step_code
    → z ≡ colour_at ends (bool_byte (le pivot place)) → z ≡ blended g pivot place
unfolding unwaved
by_step g pivot place h e s z =
    by_rest g pivot place refl h (λ w. omega (arith, s, w))
    (z ∙ ap (λ (l : List Float). colour_at l (bool_byte (le pivot place))) e ∙ picked g (le pivot place) ∙ simp (eq-eqb g.blending step_code s))
