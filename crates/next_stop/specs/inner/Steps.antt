-- What the functions within promise each other.
use Rattle.std.specs.Prelude.{◌≡◌, List, ℕ, ◌≤◌, Float}
use Rattle.sampling.specs.Constants.{record_length}
use Rattle.sampling.specs.Midpoints.{Gradient, Far}
use Rattle.sampling.specs.inner.Steps.{PointAt}
use Rattle.places.specs.Places.{point_at}
use Rattle.places.specs.declared.RowPlace.{RowPlace}
use Rattle.next_stop.specs.Step.{next, later_next}
use Rattle.next_stop.specs.declared.Found.{Found}

-- the stop after the one at p is found, with its colour
pub record FindsNext (g : Gradient) (far : Far) (rows : List Float) (counts : List ℕ) (max : Float) (p : RowPlace) (r : Found) : Type 0 where
  pub stop : next r.last r.place r.tried ≡ later_next g far rows counts max p
  pub few : r.tried ≤ record_length
  pub point : PointAt g (point_at rows max r.place) r.point
