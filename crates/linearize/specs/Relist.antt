-- A list after a resampling: when it is refused, what it answers, and what it leaves in lent memory.
use Rattle.std.specs.Prelude.{◌≡◌, Bool, true, cond, ◌&&◌, List, ℕ, zero, suc, ◌+◌, leb, get_or, Float}
use Rattle.refusals.specs.Refusals.{bad_record}
use Rattle.stops.specs.declared.Checked.{Checked}
use Rattle.stops.specs.declared.Checked.TheVariants as checked
use Rattle.stops.specs.Answers.{on_fine}
use Rattle.stops.specs.Lent.{Ramp, Change}
use Rattle.gradient.specs.Ramp.{colour_of}
use Rattle.sampling.specs.Constants.{cells, row_length}
use Rattle.sampling.specs.Lent.{Held}
use Rattle.sampling.specs.Sampling.{and_then, held_check, far_of}
use Rattle.sampling.specs.Anew.{kept_by, resampled, resampled_evaluations}
use Rattle.linearize.specs.Lent.{Output}
use Rattle.thinning.specs.Kept.{list_evaluations}
use Rattle.linearize.specs.Desk.{points_in, written}
use Rattle.linearize.specs.Promises.{TellsOf}
use Rattle.linearize.specs.declared.Listed.{Listed}

-- the count of a kept cell is 1 to 128; that of another one is made anew
unfoldable pub count_fits : Bool → ℕ → Bool
count_fits kept n = cond kept (leb 1 n && leb n row_length) true

-- so is it in n cells from cell i on
unfoldable pub counts_fit : (ℕ → Bool) → List ℕ → ℕ → ℕ → Bool
counts_fit keep counts i zero = true
counts_fit keep counts i (suc n) = count_fits (keep i) (get_or counts i 0) && counts_fit keep counts (i + 1) n

abbrev pub kept_good : List Bool → List ℕ → Bool
kept_good ks counts = counts_fit (kept_by ks) counts 0 cells

module _ (ramp : Ramp) (asked : Float) (ks : List Bool) (was : Held) where
  -- refusals 1 to 5 of a sampling; then 5 of the count of a kept cell
  unfoldable pub relist_check : Checked
  relist_check = and_then (held_check ramp was) (cond (kept_good ks was.counts) checked.Fine (checked.Refused bad_record))

  -- the points of the record sampled anew, and the evaluations of both
  abbrev pub relist_points : List Float
  relist_points = points_in ramp (resampled ramp asked ks was)

  abbrev pub relist_evaluations : ℕ
  relist_evaluations = resampled_evaluations ramp asked ks + list_evaluations (colour_of ramp) (far_of asked) relist_points

  unfoldable pub relist_held : Held
  relist_held = on_fine relist_check (resampled ramp asked ks was) (λ n. was)

  unfoldable pub relist_output : Output → Output
  relist_output out = on_fine relist_check (written ramp asked relist_points out) (λ n. out)

-- `relist`: the answer, the record and both outputs
pub record Relists (ramp : Ramp) (asked : Float) (ks : List Bool) (held : Change Held) (out : Change Output) (r : Listed) : Type 0 where
  pub told : TellsOf ramp asked (relist_check ramp asked ks held.entry) out.entry (relist_points ramp asked ks held.entry) (relist_evaluations ramp asked ks held.entry) r
  pub left : held.exit ≡ relist_held ramp asked ks held.entry
  pub output : out.exit ≡ relist_output ramp asked ks held.entry out.entry
