-- What the functions within promise each other.
use Rattle.std.specs.Prelude.{◌≡◌, List, ℕ, ◌≤◌, get_or, drop, Float}
use Rattle.stops.specs.Lent.{Ramp, Change, Lent}
use Rattle.gradient.specs.Ramp.{colour_of}
use Rattle.difference.specs.Difference.{exceeds}
use Rattle.sampling.specs.Constants.{record_length}
use Rattle.sampling.specs.Midpoints.{Gradient, Far}
use Rattle.float.specs.F32.{f0}
use Rattle.sampling.specs.inner.Steps.{Coloured}
use Rattle.sampling.specs.Segments.{point_of}
use Rattle.sampling.specs.declared.Point.{Point}
use Rattle.places.specs.Places.{list_of}
use Rattle.thinning.specs.Kept.{kept_of, weighed_of, positions_written, channels_written}
use Rattle.linearize.specs.Lent.{Output}
use Rattle.thinning.specs.Walk.{Run, run, Outcome, Ends, comes_to, outcome}
use Rattle.linearize.specs.Desk.{list_answer, room}
use Rattle.thinning.specs.declared.Progress.{Progress}
use Rattle.linearize.specs.declared.Listed.{Listed}

-- thinning may start: the first stop is written
pub record Started (g : Gradient) (room : ℕ) (s : Progress) : Type 0 where
  pub going : s.refusal ≡ 0
  pub none : s.tried ≡ 0
  pub fitting : s.stops ≤ room
  pub coloured : Coloured g s.last

-- nothing is written, and the first point stands
abbrev pub starting : Point → Progress
starting p = record { last = p; stops = 0; tried = 0; refusal = 0 }

-- what thinning has come to
pub record Thinned (o : Outcome) (room : ℕ) (r : Run) : Type 0 where
  pub ends : Ends o r
  pub few : r.progress.tried ≤ record_length
  pub fitting : r.progress.stops ≤ room

-- what a list of the points ts comes to, with nothing written yet: the first is a stop, and before it stands none
abbrev pub comes_to_all : Gradient → Far → ℕ → List Float → List Float → List Float → Outcome
comes_to_all g far room ts ps cs =
    comes_to g room (run (starting (point_of (g (get_or ts 0 f0)) (get_or ts 0 f0) 0)) ps cs) (kept_of g far ts) (weighed_of g far ts)

-- a list is made of the points ts: the answer and both outputs
pub record ListMade (g : Gradient) (far : Far) (room : ℕ) (ts ps ps' cs cs' : List Float) (r : Listed) : Type 0 where
  pub answer : r ≡ list_answer g far room ts
  pub positions : ps' ≡ positions_written g far room ts ps
  pub channels : cs' ≡ channels_written g far room ts cs

-- ---- the same of a ramp, a cutoff and the outputs whole

-- the points of a lent record
abbrev pub points : Lent Float → Lent ℕ → Float → List Float
points rows counts max = list_of rows.entry.now counts.entry.now max

abbrev pub MakesList : Ramp → Float → List Float → Change Output → Listed → Type 0
MakesList ramp cutoff ts out r =
    ListMade (colour_of ramp) (exceeds cutoff) (room out.entry) ts out.entry.positions out.exit.positions out.entry.channels out.exit.channels r

-- a run with both outputs whole
abbrev pub run_on : Progress → Output → Run
run_on s out = run s out.positions out.channels

-- the points after the first are thinned, from what is written so far
abbrev pub ThinsRest : Ramp → Float → ℕ → List Float → Progress → Change Output → Progress → Type 0
ThinsRest ramp cutoff n ts s out r = Thinned (outcome (colour_of ramp) (exceeds cutoff) n (run_on s out.entry) (drop 1 ts)) n (run_on r out.exit)

-- all points are thinned
abbrev pub ThinsAll : Ramp → Float → ℕ → List Float → Change Output → Progress → Type 0
ThinsAll ramp cutoff n ts out r =
    Thinned (comes_to_all (colour_of ramp) (exceeds cutoff) n ts out.entry.positions out.entry.channels) n (run_on r out.exit)
