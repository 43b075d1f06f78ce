-- Never refused: an ordinary ramp has a list that keeps its word, where there is room for 4,609 stops; of the calls. Assumes nothing.
use mathlib.Core.Path.{◌≡◌, ◌∙◌}
use mathlib.Core.List.{List}
use Prim.Native.Nat.{ℕ, ◌+◌, ◌≤◌, ◌<◌}
use native.Mathlib.Omega.{arith}
use lib.ListN.{length}
use lib.Ieee.{Float}
use Rattle.stops.specs.Lent.{Ramp, Change}
use Rattle.stops.specs.declared.Checked.{Checked}
use Rattle.stops.specs.declared.Checked.TheVariants as checked
use Rattle.gradient.specs.Ramp.{min_of, max_of, colour_of}
use Rattle.sampling.specs.Lent.{Held}
use Rattle.sampling.specs.Sampling.{held_check, far_of, fresh}
use Rattle.records.specs.Fitness.{thin_check}
use Rattle.linearize.specs.Lent.{Output}
use Rattle.linearize.specs.Desk.{points_in, room, answer_by}
use Rattle.linearize.specs.Promises.{Tells}
use Rattle.linearize.specs.declared.Listed.{Listed}
use Rattle.linearize.specs.declared.Listed.TheVariants as listed
use Rattle.refresh.specs.AfterEdit.{Shaped}
use Rattle.ordinary.specs.Ordinary.{Singles, Ordinary}
use Rattle.ordinary.proofs.Calls.{fine as shaped_fine}
use Rattle.ordinary.proofs.Classes.{moderate_finite, ordinary_moderate}
use Rattle.weighed.specs.Points.{sites_of}
use Rattle.within.specs.Lists.{kept_of, refusal_within, evaluations_within, fresh_points}
use Rattle.within.specs.Promises.{ThinsWithin, FlattensWithin}
use Rattle.within.proofs.Counting.{evaluations_most}
use Rattle.word.specs.Word.{ListedFew}
use Rattle.word.proofs.FreshPoints.{all_single}
use Rattle.word.proofs.Values.{min_single, max_single}
use Rattle.word.proofs.NeverNotShown.{points_single}
use Rattle.word.proofs.TameRamps.{ordinary_tame}
use Rattle.word.proofs.Singles.{Every, Single}
use Rattle.word.proofs.Bounds.{few_positions, thin_few, fresh_few}
use Rattle.word.proofs.FewEnough.{kept_few, never_refused}

-- an answer with no refusal
answered : (check : Checked) (refusal kept spent : ℕ) → check ≡ checked.Fine → refusal ≡ 0 → answer_by check refusal kept spent ≡ listed.Done kept spent
answered check refusal kept spent e f = rw (e, f)

module _ (ramp : Ramp) (o : Ordinary ramp) (asked hold : Float) where
  listed_few : (check : Checked) (ts : List Float) (spent space : ℕ) (r : Listed) → Every Single ts → length ts ≤ 4609 → check ≡ checked.Fine → 4609 ≤ space
      → Tells check (refusal_within ramp asked hold space ts) (length (kept_of ramp asked hold ts)) spent r → ListedFew ramp r
  listed_few check ts spent space r points most fine wide told =
      record {
        stops = length (kept_of ramp asked hold ts);
        evaluations = spent;
        done = told.answer ∙ answered check _ _ spent fine (never_refused ramp o asked hold ts points few_points space wide);
        few = kept_few ramp o asked hold ts points few_points;
      }
    where
      few_points : length (sites_of ramp ts) < 32768
      few_points =
          let h : length (sites_of ramp ts) + 2 ≤ 10755 = unfold evaluations_within in evaluations_most ramp asked hold ts most (few_positions ramp o.passes) in
          omega arith

  pub flatten_within_never_refused : (held : Change Held) (out : Change Output) (r : Listed) → FlattensWithin ramp asked hold held out r → Shaped held.entry → 4609 ≤ room out.entry → ListedFew ramp r
  unfolding fresh
  flatten_within_never_refused held out r call shaped wide =
      listed_few (held_check ramp held.entry) (fresh_points ramp asked hold) _ (room out.entry) r
      (all_single (colour_of ramp) (far_of asked) (min_of ramp) (max_of ramp) (ordinary_moderate ramp o).near (min_single ramp o.passes o.places) (max_single ramp o.passes o.places)) (fresh_few ramp asked hold)
      (shaped_fine ramp (moderate_finite ramp (ordinary_moderate ramp o)) held.entry shaped) wide call.told

  -- of any record of f32 that passes the check
  pub thin_within_never_refused : (was : Held) (out : Change Output) (r : Listed) → ThinsWithin ramp asked hold was out r → Singles was.rows → thin_check ramp asked was ≡ checked.Fine → 4609 ≤ room out.entry → ListedFew ramp r
  thin_within_never_refused was out r call rows fine wide =
      listed_few (thin_check ramp asked was) (points_in ramp was) _ (room out.entry) r (points_single ramp asked hold o.places (ordinary_tame ramp o) was o.passes rows) (thin_few ramp asked hold was fine) fine wide call.told
