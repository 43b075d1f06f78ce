-- One stop at a time: what a step answers for a place, and the place to go on from. Document 01's number for each case of what is told.
use Rattle.std.specs.Prelude.{◌≡◌, Bool, true, false, cond, ◌&&◌, List, ℕ, zero, suc, ◌+◌, ◌*◌, ltb, eqb, get_or, Float}
use Rattle.refusals.specs.Refusals.{bad_record, other_threshold}
use Rattle.blend.specs.declared.Rgba.{Rgba}
use Rattle.blend.specs.declared.Stop.{Stop}
use Rattle.stops.specs.declared.Checked.{Checked}
use Rattle.stops.specs.declared.Checked.TheVariants as checked
use Rattle.stops.specs.Answers.{on_fine}
use Rattle.stops.specs.Lent.{Ramp}
use Rattle.gradient.specs.Ramp.{max_of, colour_of}
use Rattle.sampling.specs.Constants.{cells}
use Rattle.sampling.specs.Lent.{Held}
use Rattle.sampling.specs.Midpoints.{Gradient, Far}
use Rattle.sampling.specs.Sampling.{far_of}
use Rattle.records.specs.Fitness.{thin_check}
use Rattle.thinning.specs.Kept.{stop_refusal}
use Rattle.places.specs.Places.{first_place, next_place, point_at}
use Rattle.places.specs.declared.RowPlace.{RowPlace}
use Rattle.next_stop.specs.First.{First, first_kept, places_on, points_after}
use Rattle.next_stop.specs.declared.ListPlace.{ListPlace}
use Rattle.next_stop.specs.declared.ListPlace.TheVariants as place
use Rattle.next_stop.specs.declared.Told.{Told}
use Rattle.next_stop.specs.declared.Told.TheVariants as told
use Rattle.next_stop.specs.declared.Handed.{Handed}

-- the number of a refusal, 0 for none; its evaluations stand beside it
abbrev pub number_of_told : Told → ℕ
number_of_told (told.Stop s) = 0
number_of_told told.Ended = 0
number_of_told (told.Refused n) = n

-- ---- the check of a step

-- a place of the record's rows and counts; the start and the end are none, and always taken
unfoldable pub is_within : List ℕ → ListPlace → Bool
is_within counts place.Start = true
is_within counts (place.After row index) = ltb row cells && ltb index (get_or counts row 0)
is_within counts place.Ended = true

-- 20 comes after 5, so the 5 of a place outside comes after the record's own refusals but for 20
unfoldable pub placed_check : Bool → Checked → Checked
placed_check true c = c
placed_check false checked.Fine = checked.Refused bad_record
placed_check false (checked.Refused n) = cond (eqb n other_threshold) (checked.Refused bad_record) (checked.Refused n)

-- ---- what is handed out

abbrev pub stop_with : Float → Rgba → Stop
stop_with t c = record { position = t; colour = c }

-- the place after the stop at a place; max is the last stop
unfoldable pub list_place_of : RowPlace → ListPlace
list_place_of q = cond (ltb q.row cells) (place.After q.row q.index) place.Ended

-- a stop, unless it is refused; after a refusal among the stops nothing more comes
abbrev pub handed_by : ℕ → Stop → ℕ → ListPlace → Handed
handed_by zero s evaluations p = record { told = told.Stop s; evaluations = evaluations; place = p }
handed_by (suc r) s evaluations p = record { told = told.Refused (suc r); evaluations = 0; place = place.Ended }

abbrev pub ended : Handed
ended = record { told = told.Ended; evaluations = 0; place = place.Ended }

-- a refusal of the check leaves the place as it was
abbrev pub refused_at : ListPlace → ℕ → Handed
refused_at p n = record { told = told.Refused n; evaluations = 0; place = p }

-- where the next stop stands, the position of the one before it, and how many points were weighed
pub record Next : Type 0 where
  pub last : Float
  pub at : RowPlace
  pub tried : ℕ

abbrev pub next : Float → RowPlace → ℕ → Next
next last q n = record { last = last; at = q; tried = n }

-- of the points of a record, over any gradient and any test whether two colours are far apart
module _ (g : Gradient) (far : Far) (rows : List Float) (counts : List ℕ) (max : Float) where
  -- the first stop is compared with itself, and not weighed
  abbrev pub first_next : Next
  first_next = next (point_at rows max first_place) first_place 0

  -- after the stop at p: the first of the points after it that is kept
  abbrev pub first_after : RowPlace → First
  first_after p = first_kept g far (point_at rows max p) (points_after rows counts max p)

  abbrev pub later_next : RowPlace → Next
  later_next p = next (point_at rows max p) (places_on counts (first_after p).passed (next_place counts p)) (first_after p).tried

  -- the position of a stop, its colour, and its fault: 8, 9 or 0; there is room for one stop, so no 7
  abbrev pub position_of : Next → Float
  position_of n = point_at rows max n.at

  abbrev pub fault_of : Next → ℕ
  fault_of n = stop_refusal 1 0 n.last (position_of n) (g (position_of n))

  -- 3 for each point weighed, 1 for the stop
  unfoldable pub handed_at : Next → Handed
  handed_at n = handed_by (fault_of n) (stop_with (position_of n) (g (position_of n))) (3 * n.tried + 1) (list_place_of n.at)

  -- a step whose check is passed: what it hands out, and its fault
  abbrev pub handed_from : ListPlace → Handed
  handed_from place.Start = handed_at first_next
  handed_from (place.After row index) = handed_at (later_next (record { row = row; index = index }))
  handed_from place.Ended = ended

  abbrev pub fault_from : ListPlace → ℕ
  fault_from place.Start = fault_of first_next
  fault_from (place.After row index) = fault_of (later_next (record { row = row; index = index }))
  fault_from place.Ended = 0

-- ---- the call: a ramp, a threshold as it was asked for, a record and a place
module _ (ramp : Ramp) (asked : Float) (was : Held) (p : ListPlace) where
  abbrev pub step_check : Checked
  step_check = placed_check (is_within was.counts p) (thin_check ramp asked was)

  unfoldable pub handed_of : Handed
  handed_of = on_fine step_check (handed_from (colour_of ramp) (far_of asked) was.rows was.counts (max_of ramp) p) (refused_at p)

  unfoldable pub handed_number : ℕ
  handed_number = on_fine step_check (fault_from (colour_of ramp) (far_of asked) was.rows was.counts (max_of ramp) p) (λ n. n)

-- `next_stop`: what is handed out, and the number of its refusal
pub record HandsOut (ramp : Ramp) (asked : Float) (was : Held) (p : ListPlace) (r : Handed) : Type 0 where
  pub handed : r ≡ handed_of ramp asked was p
  pub number : number_of_told r.told ≡ handed_number ramp asked was p
