-- The list of a record, of either sort, as a sheet's answer. Assumes nothing.
use mathlib.Core.Path.{◌≡◌, refl, ap, ◌∙◌}
use Prim.Native.Nat.{ℕ, zero, suc, ◌≤◌}
use native.Mathlib.Omega.{arith}
use lib.ListN.{length}
use lib.Ieee.{Float}
use Rattle.stops.specs.Lent.{Ramp, Change}
use Rattle.stops.specs.declared.Checked.TheVariants as checked
use Rattle.gradient.specs.Ramp.{max_of}
use Rattle.sampling.specs.Lent.{Held}
use Rattle.sampling.proofs.Checks.{ramp_fine}
use Rattle.records.specs.Fitness.{thin_check}
use Rattle.records.proofs.Passing.{sample_fine}
use Rattle.places.proofs.Following.{list_most}
use Rattle.linearize.specs.Lent.{Output}
use Rattle.linearize.specs.Desk.{evaluations_of_listed, listed_of, with_sampling, after_spending, points_in, room, thin_output}
use Rattle.linearize.specs.Promises.{Thins}
use Rattle.linearize.specs.declared.Listed.{Listed}
use Rattle.linearize.proofs.Answers.{added}
use Rattle.linearize.proofs.Lists.{after_few}
use Rattle.linearize.proofs.Checks.{ready}
use Rattle.linearize.proofs.Calls.{thin_most}
use Rattle.within.specs.Lists as within
use Rattle.within.specs.Promises.{ThinsWithin}
use Rattle.within.proofs.Counting.{evaluations_most}
use Rattle.within.proofs.Sites.{positions_few}
use Rattle.sheet.specs.Lists.{written_by, listed_by, refusal_by, stops_by, evaluations_by, ThinsBy}
use Rattle.sheet.specs.Answers.{sheet_by}
use Rattle.sheet.specs.inner.Making.{ListsBy}
use Rattle.sheet.specs.declared.ListSort.{ListSort}
use Rattle.sheet.specs.declared.ListSort.TheVariants.{Thinned, Within}
use Rattle.sheet.specs.declared.SheetAnswer.{SheetAnswer}

-- ---- by the sort
module _ (sort : ListSort) (ramp : Ramp) (asked : Float) (was : Held) (out : Change Output) (r : Listed) where
  pub thinned_by : sort ≡ Thinned → Thins ramp asked was out r → ThinsBy sort ramp asked was out r
  thinned_by e w = rw e w

  pub within_by : (hold : Float) → sort ≡ Within hold → ThinsWithin ramp asked hold was out r → ThinsBy sort ramp asked was out r
  within_by hold e w = rw e w

pub lists_by : (sort : ListSort) (ramp : Ramp) (asked : Float) (was : Held) (out : Change Output) (stops spent : ℕ) (made more : Listed) (r : SheetAnswer)
    → ThinsBy sort ramp asked was out made → more ≡ after_spending spent made → r ≡ sheet_by stops more → ListsBy sort ramp asked was out stops spent r
lists_by sort ramp asked was out stops spent made more r w p q = record { made = made; call = w; answer = q ∙ ap (sheet_by stops) p }

-- ---- of a record that may be thinned
few_evaluations : (k s e most : ℕ) → e ≤ most → evaluations_of_listed (listed_of k s e) ≤ most
few_evaluations zero s e most h = h
few_evaluations (suc k) s e most h = omega arith

module _ (ramp : Ramp) (asked : Float) (was : Held) (fine : thin_check ramp asked was ≡ checked.Fine) (out : Change Output) where
  -- the answer of the call, the output, and few evaluations
  pub record Makes (sort : ListSort) (made : Listed) : Type 0 where
    pub answer : made ≡ listed_of (refusal_by sort ramp asked (room out.entry) (points_in ramp was)) (stops_by sort ramp asked (points_in ramp was)) (evaluations_by sort ramp asked (points_in ramp was))
    pub output : out.exit ≡ written_by sort ramp asked (points_in ramp was) out.entry
    pub few : evaluations_of_listed made ≤ 32146

  makes : (sort : ListSort) (made : Listed) → ThinsBy sort ramp asked was out made → Makes sort made
  unfolding thin_output within.within_output
  makes Thinned made w = record { answer = w.told.answer ∙ rw fine; output = w.output ∙ rw fine; few = omega (arith, thin_most ramp asked was out.entry out.exit made w) }
  makes (Within hold) made w =
      let ts = points_in ramp was in
      let e : made ≡ listed_of (within.refusal_within ramp asked hold (room out.entry) ts) (length (within.kept_of ramp asked hold ts)) (within.evaluations_within ramp asked hold ts) = w.told.answer ∙ rw fine in
      let ok = ready ramp asked was fine in
      let m = evaluations_most ramp asked hold ts (list_most was.rows was.counts (max_of ramp) ok) (positions_few ramp (ramp_fine ramp _ _ _ (sample_fine ramp asked was fine))) in
      record {
        answer = e;
        output = w.output ∙ rw fine;
        few = rw e (few_evaluations (within.refusal_within ramp asked hold (room out.entry) ts) (length (within.kept_of ramp asked hold ts)) (within.evaluations_within ramp asked hold ts) 32146 (omega (arith, m)));
      }

  module _ (sort : ListSort) (stops spent : ℕ) (r : SheetAnswer) (w : ListsBy sort ramp asked was out stops spent r) where
    made_list : Makes sort w.made
    made_list = makes sort w.made w.call

    pub listed_is : spent ≤ 13716 → r ≡ sheet_by stops (listed_by sort ramp asked (points_in ramp was) out.entry spent)
    listed_is most =
        let ts = points_in ramp was in
        w.answer ∙ ap (sheet_by stops)
        (after_few spent w.made refl most made_list.few ∙ ap (with_sampling spent) made_list.answer ∙ added spent (refusal_by sort ramp asked (room out.entry) ts) (stops_by sort ramp asked ts) (evaluations_by sort ramp asked ts))

    pub output_is : out.exit ≡ written_by sort ramp asked (points_in ramp was) out.entry
    output_is = made_list.output
