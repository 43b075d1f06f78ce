-- Flattening within a hold is a sampling, and then a thinning within it over what that left. Assumes nothing.
use mathlib.Core.Path.{◌≡◌, refl, sym, ◌∙◌}
use lib.ListN.{length}
use lib.Ieee.{Float}
use Rattle.stops.specs.Lent.{Ramp, Change, change}
use Rattle.stops.specs.declared.Checked.{Checked}
use Rattle.stops.specs.declared.Checked.TheVariants as checked
use Rattle.sampling.specs.Lent.{Held}
use Rattle.sampling.specs.Sampling.{held_check, fresh, fresh_evaluations, sample_answer, sample_held}
use Rattle.sampling.specs.Promises.{Samples}
use Rattle.sampling.specs.declared.Sampled.{Sampled}
use Rattle.linearize.specs.Lent.{Output}
use Rattle.linearize.specs.Desk.{room}
use Rattle.linearize.specs.declared.Listed.{Listed}
use Rattle.linearize.proofs.Answers.{added}
use Rattle.linearize.proofs.Records.{fresh_thins}
use Rattle.within.specs.Lists.{kept_of, refusal_within, evaluations_within, within_output, fresh_points, flatten_within_output, flatten_within_evaluations}
use Rattle.within.specs.Promises.{ThinsWithin, FlattensWithin}
use Rattle.word.specs.Word.{SampledThenThinned}

module _ (ramp : Ramp) (asked hold : Float) (held : Change Held) (all : Held) (thinned : Change Output) (out : Output) (s : Sampled) (l r : Listed)
    (first : Samples ramp asked held s)
    (second : ThinsWithin ramp asked hold held.exit thinned l)
    (both : FlattensWithin ramp asked hold (change held.entry all) (change thinned.entry out) r) where
  by_check : (c : Checked) → held_check ramp held.entry ≡ c → SampledThenThinned held.exit all thinned out s l r
  unfolding sample_answer sample_held flatten_within_output within_output flatten_within_evaluations
  by_check (checked.Refused n) h =
      record {
        answer = both.told.answer ∙ rw (first.answer, h);
        same_record = both.left ∙ rw (first.left, h);
        output = both.output ∙ rw (first.answer, h);
      }
  by_check checked.Fine h =
      let ts = fresh_points ramp asked hold in
      let new : held.exit ≡ fresh ramp asked = first.left ∙ rw h in
      let fine = fresh_thins ramp asked held.entry h in
      record {
        answer =
            both.told.answer
            ∙ rw (first.answer, second.told.answer, h, new, fine)
            (sym (added (fresh_evaluations ramp asked) (refusal_within ramp asked hold (room thinned.entry) ts) (length (kept_of ramp asked hold ts)) (evaluations_within ramp asked hold ts)));
        same_record = both.left ∙ rw (first.left, h);
        output = both.output ∙ rw (first.answer, second.output, h, new, fine);
      }

  pub flatten_within_is_both : SampledThenThinned held.exit all thinned out s l r
  flatten_within_is_both = by_check (held_check ramp held.entry) refl
