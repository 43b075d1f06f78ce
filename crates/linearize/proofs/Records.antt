-- The record of a sampling may be thinned. Assumes nothing.
use mathlib.Core.Path.{◌≡◌, refl, sym, ap, ◌∙◌}
use lib.ListN.{length}
use lib.Ieee.{Float}
use Rattle.places.specs.Places.{Ready}
use Rattle.stops.specs.Lent.{Ramp}
use Rattle.stops.specs.declared.Checked.TheVariants as checked
use Rattle.gradient.specs.Ramp.{min_of, max_of, colour_of}
use Rattle.sampling.specs.Lent.{Held}
use Rattle.sampling.specs.Midpoints.{Gradient, Far}
use Rattle.sampling.specs.Cells.{rows_of, counts_of}
use Rattle.sampling.specs.Sampling.{held_check, marks_of, far_of, fresh}
use Rattle.sampling.proofs.Checks.{record_lengths}
use Rattle.sampling.proofs.Rows.{cell_count_some, cell_count_most}
use Rattle.sampling.proofs.Filling.{rows-length, counts_length, count_at}
use Rattle.records.specs.Fitness.{thin_check}
use Rattle.records.proofs.Passing.{thin_passes}
use Rattle.linearize.proofs.Checks.{ready_counts}

module _ (g : Gradient) (far : Far) (lo hi : Float) where
  pub sampled_ready : Ready (rows_of g far lo hi) (counts_of g far lo hi)
  sampled_ready =
      record {
        long = rows-length g far lo hi;
        many = counts_length g far lo hi;
        some = λ i h. rw (count_at g far lo hi i h) (cell_count_some g far lo hi i);
        most = λ i h. rw (count_at g far lo hi i h) (cell_count_most g far lo hi i);
      }

pub fresh_ready : (ramp : Ramp) (asked : Float) (is : Held) → is ≡ fresh ramp asked → Ready is.rows is.counts
unfolding fresh
fresh_ready ramp asked is e = rw e (sampled_ready (colour_of ramp) (far_of asked) (min_of ramp) (max_of ramp))

-- what a sampling leaves has the lengths that it had, and passes the check of a thinning
module _ (ramp : Ramp) (asked : Float) (was : Held) (h : held_check ramp was ≡ checked.Fine) where
  fresh_words : (fresh ramp asked).marks ≡ marks_of ramp asked
  unfolding fresh
  fresh_words = refl

  pub fresh_held : held_check ramp (fresh ramp asked) ≡ checked.Fine
  fresh_held =
      let r = fresh_ready ramp asked (fresh ramp asked) refl in
      let l = record_lengths ramp _ _ _ h in
      rw (r.long ∙ sym l.long, r.many ∙ sym l.many, ap length fresh_words ∙ sym l.three) h

  pub fresh_thins : thin_check ramp asked (fresh ramp asked) ≡ checked.Fine
  fresh_thins = thin_passes ramp asked (fresh ramp asked) fresh_held (ready_counts _ _ (fresh_ready ramp asked (fresh ramp asked) refl)) fresh_words
