-- What is said of one step and of the check before it: which record is valid, and which numbers a check gives.
use Rattle.std.specs.Prelude.{◌≡◌, Bool, false, ◌&&◌, ◌||◌, ◌⊎◌, ◌≤◌, eqb, length}
use Rattle.stops.specs.declared.Checked.{Checked}
use Rattle.stops.specs.declared.Checked.TheVariants as checked
use Rattle.stops.specs.Answers.{number_of_checked}
use Rattle.stops.specs.Lent.{Ramp}
use Rattle.gradient.specs.Ramp.{check_of, min_of, max_of}
use Rattle.sampling.specs.Constants.{cells, record_length, marks_length}
use Rattle.sampling.specs.Lent.{Held}
use Rattle.sampling.specs.Sampling.{beyond_of}
use Rattle.records.specs.Fitness.{counts_good}
use Rattle.next_stop.specs.Step.{is_within}
use Rattle.next_stop.specs.declared.ListPlace.{ListPlace}

-- refusals 1 to 4 let the ramp pass
pub record Passes (ramp : Ramp) : Type 0 where
  pub fine : check_of ramp ≡ checked.Fine
  pub near : beyond_of (min_of ramp) || beyond_of (max_of ramp) ≡ false

-- a record has its lengths and counts of 1 to 128, and the place in it is there; its words stand beside this (`same_words`)
abbrev pub record_fits : Held → ListPlace → Bool
record_fits was p =
    eqb (length was.rows) record_length && (eqb (length was.counts) cells && eqb (length was.marks) marks_length)
    && (counts_good was.counts && is_within was.counts p)

-- a check is passed, or refuses with 1 to 5 or 20
pub record Early (c : Checked) : Type 0 where
  pub number : (c ≡ checked.Fine) ⊎ (((1 ≤ number_of_checked c) × (number_of_checked c ≤ 5)) ⊎ (number_of_checked c ≡ 20))
