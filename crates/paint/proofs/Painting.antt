-- The answers of `at` and `paint`, from what the check gave. Assumes nothing.
use mathlib.Core.Path.{◌≡◌, sym, ◌∙◌, ap, fun_ext}
use mathlib.Core.Bool.{true, false}
use mathlib.Core.List.{List, ◌∷◌, []}
use Prim.Native.Nat.{ℕ, ◌-◌, ◌*◌, ◌≤◌, ◌<◌}
use native.Mathlib.Omega.{arith}
use lib.ListN.{length, replicate, length-replicate}
use lib.Seq.{sets}
use lib.Ieee.{Float}
use borrow.Author.Tests.{lt-ltb, le-ltb}
use Rattle.refusals.specs.Refusals.{no_room}
use Rattle.float.specs.F32.{f0}
use Rattle.slices.proofs.Stores.{sets_all}
use Rattle.blend.specs.declared.Rgba.{Rgba}
use Rattle.stops.specs.Segments.{is_catmull_rom}
use Rattle.stops.specs.declared.Kind.TheVariants.{CatmullRom}
use Rattle.stops.specs.Lent.{Ramp}
use Rattle.stops.specs.declared.Kind.{Kind}
use Rattle.stops.specs.declared.Checked.{Checked}
use Rattle.stops.specs.declared.Checked.TheVariants as checked
use Rattle.stops.proofs.Nearby.{catmull}
use Rattle.gradient.specs.Gimp.{gimp_colour}
use Rattle.gradient.specs.Ramp.{is_gimp, check_of, colour_of, any_colour}
use Rattle.stops.specs.Answers.{on_fine, number_of_checked}
use Rattle.gradient.proofs.Same.{same_colour}
use Rattle.gradient.proofs.Valid.{valid}
use Rattle.gradient.proofs.GimpLaws.{fine_shape}
use Rattle.paint.specs.Answers.{at_answer, paint_check, paint_answer}
use Rattle.paint.specs.inner.Segments.{Fits}
use Rattle.paint.specs.Canvas.{colour_room, painted_over, canvas}
use Rattle.paint.specs.Promises.{AtIs, PaintIs}
use Rattle.paint.specs.inner.Steps.{stop_colour, Paintable}
use Rattle.paint.specs.declared.ColourAnswer.TheVariants as answer
use Rattle.paint.specs.declared.Painted.TheVariants as painted

-- ---- the answers
zeroed : (out : List Float) → sets out 0 (replicate (length out - 0) f0) ≡ replicate (length out) f0
zeroed out = let e : length out - 0 ≡ length out = omega arith in ap (λ (n : ℕ). sets out 0 (replicate n f0)) e ∙ sets_all out (replicate (length out) f0) (length-replicate (length out) f0)

module _ (ramp : Ramp) where
  module _ {n : ℕ} (no : check_of ramp ≡ checked.Refused n) where
    pub at_refused : (t : Float) → AtIs ramp t (answer.Refused n)
    unfolding at_answer
    at_refused t = record { number = ap number_of_checked (sym no); colours = simp no; answer = ap (λ (k : Checked). on_fine k (answer.Colour (colour_of ramp t)) answer.Refused) (sym no) }

    pub paint_refused : (ts out : List Float) → PaintIs ramp ts out out (painted.Refused n)
    unfolding paint_check paint_answer canvas
    paint_refused ts out = record { number = simp no; answer = simp no; contents = simp no }

  module _ (yes : check_of ramp ≡ checked.Fine) where
    pub at_coloured : (t : Float) {c : Rgba} → c ≡ any_colour ramp t → AtIs ramp t (answer.Colour c)
    unfolding at_answer
    at_coloured t e =
        record {
          number = ap number_of_checked (sym yes);
          colours = ap (λ (x : Rgba). x ∷ []) (e ∙ same_colour ramp yes t) ∙ simp yes;
          answer = ap answer.Colour (e ∙ same_colour ramp yes t) ∙ ap (λ (k : Checked). on_fine k (answer.Colour (colour_of ramp t)) answer.Refused) (sym yes);
        }

    module _ (ts out : List Float) {out' : List Float} where
      pub no_room_lem : colour_room out < length ts → out' ≡ sets out 0 (replicate (length out - 0) f0) → PaintIs ramp ts out out' (painted.Refused no_room)
      unfolding paint_check paint_answer canvas
      no_room_lem l e = let b = lt-ltb (colour_room out) (length ts) l in record { number = simp (yes, b); answer = simp (yes, b); contents = e ∙ zeroed out ∙ simp (yes, b) }

      pub done : length ts ≤ colour_room out → out' ≡ painted_over (colour_of ramp) ts out → PaintIs ramp ts out out' painted.Done
      unfolding paint_check paint_answer canvas
      done l e =
          let b = le-ltb (colour_room out) (length ts) l in
          record {
            number = simp (yes, b);
            answer = simp (yes, b);
            contents = e ∙ simp (yes, b);
          }

-- ---- each kind's colours
module _ (ramp : Ramp) (ts out : List Float) where
  module _ (stops : is_gimp ramp.kind ≡ false) where
    not_gimp : (t : Float) → stop_colour ramp.kind ramp.positions ramp.channels t ≡ colour_of ramp t
    unfolding colour_of
    not_gimp t = simp stops

    pub as_stops : {out' : List Float} → out' ≡ painted_over (stop_colour ramp.kind ramp.positions ramp.channels) ts out → out' ≡ painted_over (colour_of ramp) ts out
    as_stops e = e ∙ ap (λ (g : Float → Rgba). painted_over g ts out) (fun_ext not_gimp)

    pub as_kept : {out' : List Float} → is_catmull_rom ramp.kind ≡ true → out' ≡ painted_over (stop_colour CatmullRom ramp.positions ramp.channels) ts out → out' ≡ painted_over (colour_of ramp) ts out
    as_kept h e = as_stops (e ∙ ap (λ (u : Kind). painted_over (stop_colour u ramp.positions ramp.channels) ts out) (sym (catmull ramp.kind h)))

    pub paintable : check_of ramp ≡ checked.Fine → 4 * length ts ≤ length out → Paintable ramp.positions ramp.channels ts out
    paintable fine l = let ok = valid ramp stops fine in record { two = ok.sized.least; rising = ok.rising; four = ok.sized.four; room = l }

  module _ (gimp : is_gimp ramp.kind ≡ true) where
    is_gimp_lem : (t : Float) → gimp_colour ramp.positions ramp.channels ramp.codes t ≡ colour_of ramp t
    unfolding colour_of
    is_gimp_lem t = simp gimp

    pub fits : check_of ramp ≡ checked.Fine → 4 * length ts ≤ length out → Fits ramp.positions ramp.channels ramp.codes ts out
    unfolding check_of
    fits fine l =
        let s = fine_shape ramp.kind ramp.positions ramp.channels ramp.codes (sym (simp gimp) ∙ fine) in
        record { cut = record { least = s.least; channels = s.channels; codes = s.codes }; room = l }

    pub as_gimp : {out' : List Float} → out' ≡ painted_over (gimp_colour ramp.positions ramp.channels ramp.codes) ts out → out' ≡ painted_over (colour_of ramp) ts out
    as_gimp e = e ∙ ap (λ (g : Float → Rgba). painted_over g ts out) (fun_ext is_gimp_lem)
