-- The answers of the calls, from what the functions within promise. Assumes nothing.
use mathlib.Core.Path.{◌≡◌, refl, sym, ap, ◌∙◌, subst}
use mathlib.Core.Bool.{Bool, true, false}
use lib.ListN.{replicate}
use mathlib.Core.List.{List}
use Prim.Native.Nat.{ℕ, ◌*◌, ◌≤◌}
use native.Mathlib.Omega.{arith}
use lib.Dec.{T}
use lib.Ieee.{Float}
use Rattle.stops.specs.declared.Checked.{Checked}
use Rattle.stops.specs.declared.Checked.TheVariants as checked
use Rattle.stops.specs.Answers.{number_of_checked, on_fine}
use Rattle.stops.specs.Lent.{Ramp, Change, change}
use Rattle.gradient.specs.Ramp.{min_of, max_of, colour_of}
use Rattle.sampling.specs.Lent.{Held, Body, body_of}
use Rattle.sampling.specs.Constants.{threshold_of}
use Rattle.sampling.specs.Midpoints.{Far}
use Rattle.sampling.specs.Sampling.{number_of_sampled, evaluations_of_sampled, far_of, words_of, marks_of, held_check, fresh, fresh_evaluations, sample_answer, sample_evaluations, sample_held}
use Rattle.sampling.specs.Anew.{anew_evaluations, kept_by, resampled, resampled_evaluations, resample_answer, resample_held, resample_evaluations}
use Rattle.sampling.proofs.Words.{same_held}
use Rattle.sampling.proofs.Renewing.{none_held, none_evaluations}
use Rattle.sampling.specs.inner.Steps.{RecordAnew}
use Rattle.sampling.specs.Promises.{Samples, Resamples}
use Rattle.sampling.specs.declared.Sampled.{Sampled}
use Rattle.sampling.specs.declared.Sampled.TheVariants as sampled
use Rattle.sampling.proofs.Bounds.{sampling_bound}

-- its rows and counts
abbrev body_in : Held → Body
body_in h = body_of h.rows h.counts

module _ (ramp : Ramp) (asked : Float) (ks : List Bool) (was : Held) where
  pub resample_refused : (k : ℕ) → held_check ramp was ≡ checked.Refused k → Resamples ramp asked ks (change was was) (sampled.Refused k)
  unfolding resample_answer resample_evaluations resample_held
  resample_refused k e = record { answer = rw e; number = rw e; evaluations = rw e; left = rw e }

  -- a record sampled with the values in hand is the document's
  pub resample_done : (far : Far) (lo hi : Float) (is : Held) (n : ℕ) → held_check ramp was ≡ checked.Fine
      → far ≡ far_of asked → lo ≡ min_of ramp → hi ≡ max_of ramp
      → RecordAnew (colour_of ramp) far (kept_by ks) lo hi (change (body_in was) (body_in is)) n
      → is.marks ≡ words_of (threshold_of asked) lo hi
      → Resamples ramp asked ks (change was is) (sampled.Done (3 * n))
  unfolding resample_answer resample_evaluations resample_held resampled resampled_evaluations anew_evaluations
  resample_done far lo hi is n e p q s w m =
      let d : RecordAnew (colour_of ramp) (far_of asked) (kept_by ks) (min_of ramp) (max_of ramp) (change (body_in was) (body_in is)) n = rw (← p, ← q, ← s) w in
      let own : is.marks ≡ marks_of ramp asked = rw (← q, ← s) m in
      record {
        answer = rw (e, d.tried);
        number = rw e;
        evaluations = rw (e, d.tried);
        left = same_held is (resampled ramp asked ks was) d.written d.counted own ∙ rw e;
      }

-- with no cell kept it is a sampling
pub sample_of : (ramp : Ramp) (asked : Float) (held : Change Held) (r : Sampled) → Resamples ramp asked (replicate 36 false) held r → Samples ramp asked held r
unfolding resample_answer resample_evaluations resample_held sample_answer sample_evaluations sample_held
sample_of ramp asked held r w =
    record {
      answer = w.answer ∙ rw (none_evaluations ramp asked);
      number = w.number;
      evaluations = w.evaluations ∙ rw (none_evaluations ramp asked);
      left = w.left ∙ rw (none_held ramp asked held.entry);
    }

-- ---- what a sampling told
abbrev is_done : Sampled → Bool
is_done (sampled.Done n) = true
is_done (sampled.Refused n) = false

module _ (ramp : Ramp) (asked : Float) (held : Change Held) (n : ℕ) where
  -- the record is the ramp's
  pub record Fresh : Type 0 where
    pub fine : held_check ramp held.entry ≡ checked.Fine
    pub left : held.exit ≡ fresh ramp asked
    pub spent : n ≡ fresh_evaluations ramp asked

  done_fresh : Samples ramp asked held (sampled.Done n) → Fresh
  unfolding sample_answer sample_evaluations sample_held
  done_fresh w =
      let e = go (held_check ramp held.entry) w.answer in
      record { fine = e; left = w.left ∙ rw e; spent = w.evaluations ∙ rw e }
    where
      go : (c : Checked) → sampled.Done n ≡ on_fine c (sampled.Done (fresh_evaluations ramp asked)) sampled.Refused → c ≡ checked.Fine
      go checked.Fine e = refl
      go (checked.Refused k) e = absurd (subst T (ap is_done e) tt)

  pub fresh_is : (r : Sampled) → r ≡ sampled.Done n → Samples ramp asked held r → Fresh
  fresh_is r e w = done_fresh (subst (λ (x : Sampled). Samples ramp asked held x) e w)

-- ---- what a resampling told
module _ (ramp : Ramp) (asked : Float) (ks : List Bool) (held : Change Held) where
  pub resampling_refused : (k : ℕ) (r : Sampled) → r ≡ sampled.Refused k → Resamples ramp asked ks held r → held_check ramp held.entry ≡ checked.Refused k
  unfolding resample_answer
  resampling_refused k r h w = go (held_check ramp held.entry) (sym h ∙ w.answer) (sym (ap number_of_sampled h) ∙ w.number)
    where
      go : (c : Checked) → sampled.Refused k ≡ on_fine c (sampled.Done (resampled_evaluations ramp asked ks)) sampled.Refused → k ≡ number_of_checked c → c ≡ checked.Refused k
      go checked.Fine e m = absurd (subst T (sym (ap is_done e)) tt)
      go (checked.Refused n) e m = ap checked.Refused (sym m)

  -- the cells that are not kept are the ramp's
  pub record Again (n : ℕ) : Type 0 where
    pub fine : held_check ramp held.entry ≡ checked.Fine
    pub left : held.exit ≡ resampled ramp asked ks held.entry
    pub spent : n ≡ resampled_evaluations ramp asked ks

  pub again_is : (n : ℕ) (r : Sampled) → r ≡ sampled.Done n → Resamples ramp asked ks held r → Again n
  unfolding resample_answer resample_evaluations resample_held
  again_is n r h w =
      let e = go (held_check ramp held.entry) (sym h ∙ w.answer) in
      record { fine = e; left = w.left ∙ rw e; spent = sym (ap evaluations_of_sampled h) ∙ w.evaluations ∙ rw e }
    where
      go : (c : Checked) → sampled.Done n ≡ on_fine c (sampled.Done (resampled_evaluations ramp asked ks)) sampled.Refused → c ≡ checked.Fine
      go checked.Fine e = refl
      go (checked.Refused k) e = absurd (subst T (ap is_done e) tt)

-- ---- 13,716 evaluations at most
fine_most : (check : Checked) (n most : ℕ) → n ≤ most → on_fine check n (λ k. 0) ≤ most
fine_most checked.Fine n most h = h
fine_most (checked.Refused k) n most h = omega arith

pub fresh_bound : (ramp : Ramp) (asked : Float) (n : ℕ) → n ≡ fresh_evaluations ramp asked → n ≤ 13716
unfolding fresh_evaluations
fresh_bound ramp asked n e = omega (arith, sampling_bound (colour_of ramp) (far_of asked) (min_of ramp) (max_of ramp))

pub sample_most : (ramp : Ramp) (asked : Float) (was is : Held) (r : Sampled) → Samples ramp asked (change was is) r → evaluations_of_sampled r ≤ 13716
unfolding sample_evaluations
sample_most ramp asked was is r w =
    omega (arith, w.evaluations, fine_most (held_check ramp was) (fresh_evaluations ramp asked) 13716 (fresh_bound ramp asked _ refl))
