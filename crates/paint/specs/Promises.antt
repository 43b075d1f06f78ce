-- What the calls promise, part by part: the number, the answer, and what the lent output holds at the end.
use Rattle.std.specs.Prelude.{◌≡◌, List, [], ◌∷◌, length, Float}
use Rattle.stops.specs.Lent.{Ramp}
use Rattle.gradient.specs.Ramp.{check_of, colour_of}
use Rattle.stops.specs.Answers.{number_of_checked, on_fine}
use Rattle.paint.specs.Answers.{number_of_at, colours_of_at, number_of_painted, at_answer, paint_check, paint_answer}
use Rattle.paint.specs.Canvas.{colour_room, canvas}
use Rattle.paint.specs.declared.ColourAnswer.{ColourAnswer}
use Rattle.paint.specs.declared.Painted.{Painted}

module _ (ramp : Ramp) where
  pub record AtIs (t : Float) (r : ColourAnswer) : Type 0 where
    pub number : number_of_at r ≡ number_of_checked (check_of ramp)
    pub colours : colours_of_at r ≡ on_fine (check_of ramp) (colour_of ramp t ∷ []) (λ n. [])
    pub answer : r ≡ at_answer ramp t

  pub record PaintIs (ts out out' : List Float) (r : Painted) : Type 0 where
    pub number : number_of_painted r ≡ number_of_checked (paint_check ramp (length ts) (colour_room out))
    pub answer : r ≡ paint_answer ramp (length ts) (colour_room out)
    pub contents : out' ≡ canvas ramp ts out
