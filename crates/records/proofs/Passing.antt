-- The check of a thinning, one check after the other, and what a record that passes it has. Assumes nothing.
use mathlib.Core.Path.{◌≡◌, ◌∙◌}
use mathlib.Core.Bool.{true}
use Prim.Native.Nat.{ℕ}
use lib.Ieee.{Float}
use Rattle.stops.specs.declared.Checked.{Checked}
use Rattle.stops.specs.declared.Checked.TheVariants as checked
use Rattle.stops.specs.Lent.{Ramp}
use Rattle.sampling.specs.Lent.{Held}
use Rattle.sampling.specs.Sampling.{and_then, held_check, marks_of}
use Rattle.sampling.proofs.Checks.{passes_both}
use Rattle.records.specs.Fitness.{counts_good, counts_check, marks_check, thin_check}
use Rattle.records.proofs.Counting.{counts_good_lem}
use Rattle.records.proofs.Marking.{marks_equal, marks_pass}

module _ (ramp : Ramp) (asked : Float) (was : Held) where
  pub sample_refuses : (k : ℕ) → held_check ramp was ≡ checked.Refused k → checked.Refused k ≡ thin_check ramp asked was
  unfolding thin_check
  sample_refuses k e = simp e

  pub sample_passes : (r a b : Checked) → held_check ramp was ≡ checked.Fine → a ≡ counts_check was.counts → b ≡ marks_check (marks_of ramp asked) was.marks → r ≡ and_then a b → r ≡ thin_check ramp asked was
  unfolding thin_check
  sample_passes r a b e p q h = h ∙ rw (e, p, q)

  -- a record with these words, whose lengths and counts pass, passes
  pub thin_passes : held_check ramp was ≡ checked.Fine → counts_check was.counts ≡ checked.Fine → was.marks ≡ marks_of ramp asked → thin_check ramp asked was ≡ checked.Fine
  unfolding thin_check
  thin_passes e c m = rw (e, c) (marks_pass (marks_of ramp asked) was.marks m)

  module _ (h : thin_check ramp asked was ≡ checked.Fine) where
    after_sample : (held_check ramp was ≡ checked.Fine) × (and_then (counts_check was.counts) (marks_check (marks_of ramp asked) was.marks) ≡ checked.Fine)
    unfolding thin_check
    after_sample = passes_both (held_check ramp was) (and_then (counts_check was.counts) (marks_check (marks_of ramp asked) was.marks)) h

    after_counts : (counts_check was.counts ≡ checked.Fine) × (marks_check (marks_of ramp asked) was.marks ≡ checked.Fine)
    after_counts = passes_both (counts_check was.counts) (marks_check (marks_of ramp asked) was.marks) after_sample.1

    pub sample_fine : held_check ramp was ≡ checked.Fine
    sample_fine = after_sample.0

    pub counts_fine : counts_good was.counts ≡ true
    counts_fine = counts_good_lem was.counts after_counts.0

    -- it was sampled with this threshold in force, on this domain
    pub marks_own : was.marks ≡ marks_of ramp asked
    marks_own = marks_equal (marks_of ramp asked) was.marks after_counts.1
