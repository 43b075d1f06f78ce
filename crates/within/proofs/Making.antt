-- A list within a hold is made: its answer and both outputs, from the stops written. Assumes nothing.
use mathlib.Core.Path.{◌≡◌, refl, sym, ap, ap₂, ◌∙◌, subst}
use mathlib.Core.Bool.{Bool, true, false}
use lib.Dec.{T}
use mathlib.Core.List.{List}
use Prim.Native.Nat.{ℕ, zero, suc, ◌+◌, ◌≤◌, min}
use native.Mathlib.Omega.{arith}
use lib.ListN.{length}
use lib.Seq.{sets, length-sets}
use lib.Ieee.{Float}
use Rattle.blend.specs.Channels.{colours_of}
use Rattle.sqrt.specs.Cutoff.{IsCutoff}
use Rattle.stops.specs.declared.Checked.{Checked}
use Rattle.stops.specs.declared.Checked.TheVariants as checked
use Rattle.stops.specs.Answers.{on_fine, number_of_checked}
use Rattle.stops.specs.Lent.{Ramp, Change, change}
use Rattle.gradient.specs.Ramp.{min_of, max_of, colour_of}
use Rattle.sampling.specs.Constants.{threshold_of}
use Rattle.sampling.specs.Lent.{Held}
use Rattle.sampling.specs.Midpoints.{Gradient}
use Rattle.sampling.specs.Sampling.{held_check, fresh_evaluations, sample_held, sample_answer, number_of_sampled}
use Rattle.sampling.specs.Promises.{Samples}
use Rattle.sampling.specs.declared.Sampled.{Sampled}
use Rattle.sampling.specs.declared.Sampled.TheVariants as sampled
use Rattle.sampling.proofs.Answers.{Fresh}
use Rattle.records.specs.Fitness.{thin_check}
use Rattle.places.specs.Places.{list_of, Ready}
use Rattle.places.proofs.Following.{list_most}
use Rattle.thinning.specs.Kept.{written_of}
use Rattle.thinning.specs.declared.Progress.{Progress}
use Rattle.linearize.specs.Lent.{Output}
use Rattle.linearize.specs.Desk.{listed_of, with_sampling, points_in, room, evaluations_of_listed}
use Rattle.linearize.specs.declared.Listed.{Listed}
use Rattle.linearize.specs.declared.Listed.TheVariants as listed
use Rattle.linearize.proofs.Answers.{tells, added, both}
use Rattle.weighed.specs.Points.{sites_of}
use Rattle.weighed.specs.Gathered.{gathered, Gathers}
use Rattle.within.specs.Shown.{Near, near_within}
use Rattle.within.specs.Kept.{Kept, kept_all, positions_of, kept_refusals}
use Rattle.within.specs.Lists.{hold_of, kept_of, list_within, refusal_within, evaluations_within, within_output, fresh_points, flatten_within_output, flatten_within_evaluations}
use Rattle.within.specs.Promises.{ThinsWithin, FlattensWithin}
use Rattle.within.specs.inner.Weighing.{near_by, sites_from, ending, EndsWith, whole_ending, MakesWithin}
use Rattle.within.specs.declared.fair.Allowed.{Allowed}
use Rattle.within.proofs.Counting.{evaluations_most}
use Rattle.within.proofs.Cutoffs.{same_near}
use Rattle.within.proofs.Limits.{threshold_number, hold_number, hold_in_force}
use Rattle.within.proofs.Sites.{count_is, sites_there}

-- ---- the stops
module _ (g : Gradient) (rm : ℕ) (ps cs : List Float) (ks : List Kept) (s : Progress) (ps' cs' : List Float) (w : EndsWith (ending g rm 0 ps cs ks) s ps' cs')
    (lp : length ps' ≡ length ps) (lc : length cs' ≡ length cs) (spent : ℕ) where
  abbrev refusal : ℕ
  refusal = kept_refusals g rm 0 ks

  refused_is : s.refusal ≡ refusal
  unfolding ending
  refused_is = w.refused

  answer_is : listed_of s.refusal s.stops spent ≡ listed_of refusal (length ks) spent
  unfolding ending
  answer_is = by s.refusal refl
    where
      by : (k : ℕ) → s.refusal ≡ k → listed_of s.refusal s.stops spent ≡ listed_of refusal (length ks) spent
      by zero z = let e : s.stops ≡ length ks = (w.same z).0 ∙ omega arith in rw (← refused_is, z, e)
      by (suc k) z = rw (← refused_is, z)

  places_are : written_of s.refusal ps' ≡ written_of refusal (sets ps 0 (positions_of ks))
  unfolding ending
  places_are = by s.refusal refl
    where
      by : (k : ℕ) → s.refusal ≡ k → written_of s.refusal ps' ≡ written_of refusal (sets ps 0 (positions_of ks))
      by zero z = rw (← refused_is, z) (w.same z).1.0
      by (suc k) z = rw (← refused_is, z, lp, length-sets)

  colours_are : written_of s.refusal cs' ≡ written_of refusal (sets cs 0 (colours_of g (positions_of ks)))
  unfolding ending
  colours_are = by s.refusal refl
    where
      by : (k : ℕ) → s.refusal ≡ k → written_of s.refusal cs' ≡ written_of refusal (sets cs 0 (colours_of g (positions_of ks)))
      by zero z = rw (← refused_is, z) (w.same z).1.1
      by (suc k) z = rw (← refused_is, z, lc, length-sets)

-- ---- the test by the cutoffs is the rule's
near_is : (asked hold : Float) (offs : Allowed) → IsCutoff (threshold_of asked) offs.threshold → IsCutoff (threshold_of (hold_of asked hold)) offs.hold → near_by offs ≡ near_within (threshold_of asked) (hold_of asked hold)
near_is asked hold offs v w =
    same_near (threshold_of asked) (hold_of asked hold) offs.threshold offs.hold v (rw (hold_in_force asked hold) at w) (threshold_number asked) (hold_number asked hold)

-- ---- the list
module _ (ramp : Ramp) (asked hold : Float) (rows : List Float) (counts : List ℕ) (ok : Ready rows counts) (few : length ramp.positions ≤ 2048) where
  abbrev points : List Float
  points = list_of rows counts (max_of ramp)

  pub made : (offs : Allowed) → IsCutoff (threshold_of asked) offs.threshold → IsCutoff (threshold_of (hold_of asked hold)) offs.hold
      → (lo hi : Float) → lo ≡ min_of ramp → hi ≡ max_of ramp → (ts ts' : List Float) (ms ms' : List ℕ) (n : ℕ) → length ts ≡ 10753 → length ms ≡ 10753
      → Gathers (gathered ramp.positions rows counts lo hi) ts ms ts' ms' n
      → (out : Change Output) (rm : ℕ) → rm ≡ min (room out.entry) 4609
      → (s : Progress) (ps' cs' : List Float) → EndsWith (whole_ending ramp offs rm n lo hi ts' ms' out.entry.positions out.entry.channels) s ps' cs'
      → length ps' ≡ length out.entry.positions → length cs' ≡ length out.entry.channels
      → (r : Listed) → r ≡ listed_of s.refusal s.stops (n + 2) → out.exit.positions ≡ written_of s.refusal ps' → out.exit.channels ≡ written_of s.refusal cs'
      → MakesWithin ramp asked hold points out r
  unfolding refusal_within kept_of evaluations_within list_within
  made offs v w lo hi el eh ts ts' ms ms' n lt lm gs out rm er s ps' cs' e lp lc r a b c =
      let sites = sites_of ramp points in
      let near = near_within (threshold_of asked) (hold_of asked hold) in
      let there = sites_there ramp rows counts ok few lo hi el eh ts ts' ms ms' n gs lt lm in
      let many = count_is ramp rows counts ok few lo hi el eh ts ts' ms ms' n gs in
      let kept : List Kept = kept_all (colour_of ramp) near (max_of ramp) (min_of ramp) sites in
      let q : kept_all (colour_of ramp) (near_by offs) hi lo (sites_from ts' ms' 0 n) ≡ kept =
      ap (λ (x : Near). kept_all (colour_of ramp) x hi lo (sites_from ts' ms' 0 n)) (near_is asked hold offs v w)
      ∙ ap₂ (λ (x y : Float). kept_all (colour_of ramp) near x y (sites_from ts' ms' 0 n)) eh el
      ∙ ap (kept_all (colour_of ramp) near (max_of ramp) (min_of ramp)) there in
      let f : EndsWith (ending (colour_of ramp) (min (room out.entry) 4609) 0 out.entry.positions out.entry.channels kept) s ps' cs' =
      subst (λ (m : ℕ). EndsWith (ending (colour_of ramp) m 0 out.entry.positions out.entry.channels kept) s ps' cs') er
      (subst (λ (l : List Kept). EndsWith (ending (colour_of ramp) rm 0 out.entry.positions out.entry.channels l) s ps' cs') q e) in
      record {
        answer = a ∙ answer_is (colour_of ramp) (min (room out.entry) 4609) out.entry.positions out.entry.channels kept s ps' cs' f lp lc (n + 2) ∙ ap (λ (k : ℕ). listed_of (kept_refusals (colour_of ramp) (min (room out.entry) 4609) 0 kept) (length kept) (k + 2)) many;
        output =
            both _ _
            (b ∙ places_are (colour_of ramp) (min (room out.entry) 4609) out.entry.positions out.entry.channels kept s ps' cs' f lp lc (n + 2))
            (c ∙ colours_are (colour_of ramp) (min (room out.entry) 4609) out.entry.positions out.entry.channels kept s ps' cs' f lp lc (n + 2));
      }

-- ---- the calls
module _ (ramp : Ramp) (asked hold : Float) (was : Held) where
  pub thin_refused : (out : Output) (k : ℕ) → thin_check ramp asked was ≡ checked.Refused k → ThinsWithin ramp asked hold was (change out out) (listed.Refused k)
  unfolding within_output
  thin_refused out k e = record { told = tells _ _ _ _ _ (rw e); output = rw e }

  pub thin_done : (out : Change Output) (r : Listed) → thin_check ramp asked was ≡ checked.Fine → MakesWithin ramp asked hold (points_in ramp was) out r → ThinsWithin ramp asked hold was out r
  unfolding within_output
  thin_done out r e w = record { told = tells _ _ _ _ _ (w.answer ∙ rw e); output = w.output ∙ rw e }

abbrev is_done : Sampled → Bool
is_done (sampled.Done n) = true
is_done (sampled.Refused n) = false

sampling_refused : (ramp : Ramp) (asked : Float) (held : Change Held) (k : ℕ) (r : Sampled) → r ≡ sampled.Refused k → Samples ramp asked held r → held_check ramp held.entry ≡ checked.Refused k
unfolding sample_answer
sampling_refused ramp asked held k r h w = go (held_check ramp held.entry) (sym h ∙ w.answer) (sym (ap number_of_sampled h) ∙ w.number)
  where
    go : (c : Checked) → sampled.Refused k ≡ on_fine c (sampled.Done (fresh_evaluations ramp asked)) sampled.Refused → k ≡ number_of_checked c → c ≡ checked.Refused k
    go checked.Fine e m = absurd (subst T (sym (ap is_done e)) tt)
    go (checked.Refused n) e m = ap checked.Refused (sym m)

-- as many evaluations as a count holds
pub made_few : (ramp : Ramp) (asked hold : Float) (rows : List Float) (counts : List ℕ) → Ready rows counts → length ramp.positions ≤ 2048 → (out : Change Output) (r : Listed)
    → MakesWithin ramp asked hold (list_of rows counts (max_of ramp)) out r → evaluations_of_listed r ≤ 32146
made_few ramp asked hold rows counts ok few out r w =
    let ts = list_of rows counts (max_of ramp) in
    let m = evaluations_most ramp asked hold ts (list_most rows counts (max_of ramp) ok) few in
    rw w.answer (by (refusal_within ramp asked hold (room out.entry) ts) (length (kept_of ramp asked hold ts)) (evaluations_within ramp asked hold ts) m)
  where
    by : (k s e : ℕ) → e ≤ 10755 → evaluations_of_listed (listed_of k s e) ≤ 32146
    by zero s e h = omega arith
    by (suc k) s e h = omega arith

module _ (ramp : Ramp) (asked hold : Float) (held : Change Held) where
  pub flatten_refused : (out : Output) (k : ℕ) (r : Sampled) → r ≡ sampled.Refused k → Samples ramp asked held r → FlattensWithin ramp asked hold held (change out out) (listed.Refused k)
  unfolding flatten_within_output sample_held
  flatten_refused out k r h w =
      let e = sampling_refused ramp asked held k r h w in
      record { told = tells _ _ _ _ _ (rw e); left = w.left; output = rw e }

  pub flatten_done : (n : ℕ) (out : Change Output) (made r : Listed) → Fresh ramp asked held n → MakesWithin ramp asked hold (points_in ramp held.exit) out made → r ≡ with_sampling n made → FlattensWithin ramp asked hold held out r
  unfolding flatten_within_output flatten_within_evaluations sample_held
  flatten_done n out made r w l f =
      let m : MakesWithin ramp asked hold (fresh_points ramp asked hold) out made = rw (← w.left) l in
      let e = w.fine in
      let ts = fresh_points ramp asked hold in
      record {
        told =
            tells _ _ _ _ _
            (f ∙ rw (m.answer, w.spent, e)
            (added (fresh_evaluations ramp asked) (refusal_within ramp asked hold (room out.entry) ts) (length (kept_of ramp asked hold ts)) (evaluations_within ramp asked hold ts)));
        left = w.left ∙ rw e;
        output = m.output ∙ rw e;
      }
