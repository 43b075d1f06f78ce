-- What the calls answer, and document 01's number of each answer, 0 for no refusal.
use Rattle.std.specs.Prelude.{cond, List, [], ◌∷◌, ℕ, ltb, Float}
use Rattle.refusals.specs.Refusals.{no_room}
use Rattle.blend.specs.declared.Rgba.{Rgba}
use Rattle.stops.specs.Lent.{Ramp}
use Rattle.stops.specs.declared.Checked.{Checked}
use Rattle.stops.specs.declared.Checked.TheVariants as checked
use Rattle.gradient.specs.Ramp.{check_of, colour_of}
use Rattle.stops.specs.Answers.{on_fine}
use Rattle.paint.specs.declared.ColourAnswer.{ColourAnswer}
use Rattle.paint.specs.declared.ColourAnswer.TheVariants as answer
use Rattle.paint.specs.declared.Painted.{Painted}
use Rattle.paint.specs.declared.Painted.TheVariants as painted

abbrev pub number_of_at : ColourAnswer → ℕ
number_of_at (answer.Colour c) = 0
number_of_at (answer.Refused n) = n

-- the value beside it: a colour, or none; no answer has a line
abbrev pub colours_of_at : ColourAnswer → List Rgba
colours_of_at (answer.Colour c) = c ∷ []
colours_of_at (answer.Refused n) = []

abbrev pub number_of_painted : Painted → ℕ
number_of_painted painted.Done = 0
number_of_painted (painted.Refused n) = n

module _ (ramp : Ramp) where
  -- the colour at t, or the refusal
  unfoldable pub at_answer : Float → ColourAnswer
  at_answer t = on_fine (check_of ramp) (answer.Colour (colour_of ramp t)) answer.Refused

  -- painting n colours where there is room for so many: 1 to 3, then 7
  unfoldable pub paint_check : ℕ → ℕ → Checked
  paint_check n room = on_fine (check_of ramp) (cond (ltb room n) (checked.Refused no_room) checked.Fine) checked.Refused

  unfoldable pub paint_answer : ℕ → ℕ → Painted
  paint_answer n room = on_fine (paint_check n room) painted.Done painted.Refused
