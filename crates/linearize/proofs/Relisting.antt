-- A list after a resampling: the counts of the cells kept, and the answers. Assumes nothing.
use mathlib.Core.Path.{◌≡◌, refl, sym, ap, ◌∙◌}
use mathlib.Core.Logic.{⊎_elim}
use mathlib.Core.Bool.{Bool, true, false, cond, ◌&&◌}
use mathlib.Core.List.{List, [], ◌∷◌}
use Prim.Native.Nat.{ℕ, zero, suc, ◌+◌, ◌≤◌, ◌<◌}
use native.Mathlib.Nat.{eq-or-lt_of_le}
use native.Mathlib.Omega.{arith}
use borrow.Author.Tests.{leb-true}
use lib.Dec.{leb}
use lib.ListN.{length, get_or, replicate}
use lib.Ieee.{Float}
use Rattle.std.specs.Prelude.{◌↔◌, IsTrue, EachIndex}
use Rattle.refusals.specs.Refusals.{bad_record}
use Rattle.float.proofs.Flags.{both_l, both_r}
use Rattle.stops.specs.declared.Checked.{Checked}
use Rattle.stops.specs.declared.Checked.TheVariants as checked
use Rattle.stops.specs.Answers.{on_fine}
use Rattle.stops.specs.Lent.{Ramp, Change, change}
use Rattle.gradient.specs.Ramp.{min_of, max_of, colour_of}
use Rattle.sampling.specs.Midpoints.{Far}
use Rattle.sampling.specs.Lent.{Held}
use Rattle.sampling.specs.Sampling.{and_then, held_check, far_of, fresh, sample_held}
use Rattle.sampling.specs.Cells.{cell_count}
use Rattle.sampling.specs.Anew.{anew_row, anew_count, anew_rows, anew_counts, kept_by, resampled, resampled_evaluations, resample_held}
use Rattle.sampling.specs.Promises.{Resamples}
use Rattle.sampling.specs.declared.Sampled.{Sampled}
use Rattle.sampling.specs.declared.Sampled.TheVariants as sampled
use Rattle.slices.proofs.Joined.{length-joined, single}
use Rattle.sampling.proofs.Rows.{cell_count_some, cell_count_most}
use Rattle.sampling.proofs.Checks.{record_lengths}
use Rattle.sampling.proofs.Renewing.{anew_length, none_held, none_evaluations}
use Rattle.sampling.proofs.Bounds.{resampling_bound}
use Rattle.sampling.proofs.Answers.{resampling_refused, Again}
use Rattle.linearize.specs.Lent.{Output}
use Rattle.places.specs.Places.{list_of, Ready}
use Rattle.thinning.specs.Kept.{kept_of, refusal_of, list_evaluations}
use Rattle.linearize.specs.Desk.{evaluations_of_listed, answer_by, with_sampling, list_answer, points_in, room, written, flatten_evaluations, flatten_output}
use Rattle.linearize.specs.inner.Steps.{ListMade}
use Rattle.linearize.specs.Promises.{Flattens}
use Rattle.linearize.specs.Relist.{count_fits, counts_fit, kept_good, relist_check, relist_points, relist_held, relist_output, Relists}
use Rattle.linearize.specs.declared.Listed.{Listed}
use Rattle.linearize.specs.declared.Listed.TheVariants as listed
use Rattle.linearize.proofs.Bounds.{answer_bound}
use Rattle.places.proofs.Following.{list_some, list_most}
use Rattle.linearize.proofs.Answers.{Lists, tells, added, both}

-- ---- the counts of the cells kept
not_kept : (k : Bool) (n : ℕ) → k ≡ false → true ≡ count_fits k n
unfolding count_fits
not_kept k n e = rw e

each_fits : (keep : ℕ → Bool) (counts : List ℕ) (i n : ℕ) → counts_fit keep counts i n ≡ true → (j : ℕ) → i ≤ j → j < i + n → count_fits (keep j) (get_or counts j 0) ≡ true
unfolding counts_fit
each_fits keep counts i zero e j h l = absurd (omega arith)
each_fits keep counts i (suc n) e j h l =
    ⊎_elim
    (λ q. rw (← q) (both_l (count_fits (keep i) (get_or counts i 0)) (counts_fit keep counts (i + 1) n) e))
    (λ q. each_fits keep counts (i + 1) n (both_r (count_fits (keep i) (get_or counts i 0)) (counts_fit keep counts (i + 1) n) e) j (omega arith) (omega arith))
    (eq-or-lt_of_le {n = i} {m = j} h)

all_fit : (keep : ℕ → Bool) (counts : List ℕ) (i n : ℕ) → ((j : ℕ) → i ≤ j → j < i + n → count_fits (keep j) (get_or counts j 0) ≡ true) → counts_fit keep counts i n ≡ true
unfolding counts_fit
all_fit keep counts i zero each = refl
all_fit keep counts i (suc n) each =
    rw (each i (omega arith) (omega arith)) (all_fit keep counts (i + 1) n (λ j h l. each j (omega arith) (omega arith)))

-- a test that holds exactly where the count of each cell kept fits
pub fits_is : (ks : List Bool) (counts : List ℕ) (r : Bool) → length ks ≡ 36
    → IsTrue r ↔ EachIndex ks (λ i. IsTrue (count_fits (get_or ks i false) (get_or counts i 0))) → r ≡ kept_good ks counts
fits_is ks counts true many w = sym (all_fit (kept_by ks) counts 0 36 (λ j h l. w.0 refl j (omega arith)))
fits_is ks counts false many w = by (kept_good ks counts) refl
  where
    by : (b : Bool) → kept_good ks counts ≡ b → false ≡ b
    by true e = w.1 (λ i h. each_fits (kept_by ks) counts 0 36 e i (omega arith) (omega arith))
    by false e = refl

none_fit : (counts : List ℕ) (i n : ℕ) → counts_fit (kept_by (replicate 36 false)) counts i n ≡ true
unfolding counts_fit
none_fit counts i zero = refl
none_fit counts i (suc n) = rw (← not_kept (kept_by (replicate 36 false) i) (get_or counts i 0) (none_there 36 i)) (none_fit counts (i + 1) n)
  where
    none_there : (m j : ℕ) → get_or (replicate m false) j false ≡ false
    none_there zero j = refl
    none_there (suc m) zero = refl
    none_there (suc m) (suc j) = none_there m j

-- ---- the check
module _ (ramp : Ramp) (asked : Float) (ks : List Bool) (was : Held) where
  pub bad_check : kept_good ks was.counts ≡ false → relist_check ramp asked ks was ≡ checked.Refused (on_fine (held_check ramp was) bad_record (λ n. n))
  unfolding relist_check
  bad_check h = rw h (go (held_check ramp was))
    where
      go : (c : Checked) → and_then c (checked.Refused bad_record) ≡ checked.Refused (on_fine c bad_record (λ n. n))
      go checked.Fine = refl
      go (checked.Refused k) = refl

  pub refused_check : (k : ℕ) → held_check ramp was ≡ checked.Refused k → relist_check ramp asked ks was ≡ checked.Refused k
  unfolding relist_check
  refused_check k e = rw e

  pub fine_check : held_check ramp was ≡ checked.Fine → kept_good ks was.counts ≡ true → relist_check ramp asked ks was ≡ checked.Fine
  unfolding relist_check
  fine_check e h = rw (e, h)

pub none_check : (ramp : Ramp) (asked : Float) (was : Held) → relist_check ramp asked (replicate 36 false) was ≡ held_check ramp was
unfolding relist_check
none_check ramp asked was = rw (none_fit was.counts 0 36) (go (held_check ramp was))
  where
    go : (c : Checked) → and_then c checked.Fine ≡ c
    go checked.Fine = refl
    go (checked.Refused k) = refl

-- ---- the record may be thinned
module _ (ramp : Ramp) (asked : Float) (ks : List Bool) (was is : Held) (fine : held_check ramp was ≡ checked.Fine) (good : kept_good ks was.counts ≡ true) where
  count_within : (i : ℕ) → i < 36 → (1 ≤ anew_count (colour_of ramp) (far_of asked) (kept_by ks) (min_of ramp) (max_of ramp) was.counts i)
      × (anew_count (colour_of ramp) (far_of asked) (kept_by ks) (min_of ramp) (max_of ramp) was.counts i ≤ 128)
  unfolding anew_count count_fits
  count_within i l = pick (kept_by ks i) (each_fits (kept_by ks) was.counts 0 36 good i (omega arith) (omega arith))
    where
      n : ℕ
      n = get_or was.counts i 0

      fits : (leb 1 n && leb n 128) ≡ true → (1 ≤ n) × (n ≤ 128)
      fits e = (leb-true 1 n (both_l (leb 1 n) (leb n 128) e), leb-true n 128 (both_r (leb 1 n) (leb n 128) e))

      pick : (b : Bool) → cond b (leb 1 n && leb n 128) true ≡ true
          → (1 ≤ cond b n (cell_count (colour_of ramp) (far_of asked) (min_of ramp) (max_of ramp) i)) × (cond b n (cell_count (colour_of ramp) (far_of asked) (min_of ramp) (max_of ramp) i) ≤ 128)
      pick true e = fits e
      pick false e = (cell_count_some (colour_of ramp) (far_of asked) (min_of ramp) (max_of ramp) i, cell_count_most (colour_of ramp) (far_of asked) (min_of ramp) (max_of ramp) i)

  pub resampled_ready : is ≡ resampled ramp asked ks was → Ready is.rows is.counts
  unfolding resampled anew_rows anew_counts
  resampled_ready e =
      let l = record_lengths ramp (length was.rows) (length was.counts) (length was.marks) fine in
      let g = colour_of ramp in
      let far = far_of asked in
      let lo = min_of ramp in
      let hi = max_of ramp in
      rw e (record {
        long = length-joined (anew_row g far (kept_by ks) lo hi was.rows) 128 36 (anew_length g far (kept_by ks) lo hi was.rows was.counts l.long l.many) 36 (omega arith);
        many = length-joined (λ i. anew_count g far (kept_by ks) lo hi was.counts i ∷ []) 1 36 (λ j h. refl) 36 (omega arith);
        some = λ i h. rw (single (anew_count g far (kept_by ks) lo hi was.counts) 36 i h) (count_within i h).0;
        most = λ i h. rw (single (anew_count g far (kept_by ks) lo hi was.counts) 36 i h) (count_within i h).1;
      })

-- ---- how many evaluations
pub again_bound : (ramp : Ramp) (asked : Float) (ks : List Bool) (n : ℕ) → n ≡ resampled_evaluations ramp asked ks → n ≤ 13716
again_bound ramp asked ks n e = omega (arith, resampling_bound ramp asked ks)

pub made_bound : (ramp : Ramp) (far : Far) (hi : Float) (rows : List Float) (counts : List ℕ) (out : Change Output) {made : Listed} → Ready rows counts
    → ListMade (colour_of ramp) far (room out.entry) (list_of rows counts hi) out.entry.positions out.exit.positions out.entry.channels out.exit.channels made → evaluations_of_listed made ≤ 32146
made_bound ramp far hi rows counts out ok w =
    omega (arith, ap evaluations_of_listed w.answer, answer_bound (colour_of ramp) far (list_of rows counts hi) (omega (arith, list_some rows counts hi ok)) (list_most rows counts hi ok) (room out.entry))

-- ---- the answers
module _ (ramp : Ramp) (asked : Float) (ks : List Bool) where
  pub relist_bad : (was : Held) (out : Output) (c : Checked) (r : Listed) → kept_good ks was.counts ≡ false → c ≡ held_check ramp was
      → r ≡ listed.Refused (on_fine c bad_record (λ n. n)) → Relists ramp asked ks (change was was) (change out out) r
  unfolding relist_held relist_output
  relist_bad was out c r h q f =
      let e = bad_check ramp asked ks was h in
      record { told = tells _ _ _ _ _ (f ∙ rw (e, q)); left = rw e; output = rw e }

  module _ (held : Change Held) where
    pub relist_refused : (out : Output) (k : ℕ) (r : Sampled) → r ≡ sampled.Refused k → Resamples ramp asked ks held r
        → Relists ramp asked ks held (change out out) (listed.Refused k)
    unfolding relist_held relist_output resample_held
    relist_refused out k r h w =
        let d = resampling_refused ramp asked ks held k r h w in
        let e = refused_check ramp asked ks held.entry k d in
        record { told = tells _ _ _ _ _ (rw e); left = w.left ∙ rw (d, e); output = rw e }

    pub relist_done : (far : Far) (hi : Float) (n : ℕ) (out : Change Output) (made r : Listed) → Again ramp asked ks held n → kept_good ks held.entry.counts ≡ true
        → far ≡ far_of asked → hi ≡ max_of ramp → Lists ramp far hi held.exit out made → r ≡ with_sampling n made
        → Relists ramp asked ks held out r
    unfolding relist_held relist_output list_answer
    relist_done far hi n out made r w good p h l f =
        let e = fine_check ramp asked ks held.entry w.fine good in
        let ts = relist_points ramp asked ks held.entry in
        let m : ListMade (colour_of ramp) (far_of asked) (room out.entry) ts out.entry.positions out.exit.positions out.entry.channels out.exit.channels made =
        rw (← w.left, ← p, ← h) l in
        record {
          told =
              tells _ _ _ _ _
              (f ∙ rw (m.answer, w.spent, e)
              (added (resampled_evaluations ramp asked ks) (refusal_of (colour_of ramp) (far_of asked) (room out.entry) ts) (length (kept_of (colour_of ramp) (far_of asked) ts)) (list_evaluations (colour_of ramp) (far_of asked) ts)));
          left = w.left ∙ rw e;
          output = both _ _ m.positions m.channels ∙ rw e;
        }

-- ---- with no cell kept it is a flattening
pub flatten_of : (ramp : Ramp) (asked : Float) (held : Change Held) (out : Change Output) (r : Listed) → Relists ramp asked (replicate 36 false) held out r → Flattens ramp asked held out r
unfolding relist_held relist_output flatten_evaluations flatten_output sample_held
flatten_of ramp asked held out r w =
    record {
      told =
          tells _ _ _ _ _
          (w.told.answer ∙ ap (λ (c : Checked). answer c again (resampled_evaluations ramp asked none)) check
          ∙ ap (λ (h : Held). answer (held_check ramp was) h (resampled_evaluations ramp asked none)) same ∙ ap (answer (held_check ramp was) (fresh ramp asked)) (none_evaluations ramp asked));
      left = w.left ∙ ap (λ (c : Checked). on_fine c again (λ n. was)) check ∙ ap (λ (h : Held). on_fine (held_check ramp was) h (λ n. was)) same;
      output = w.output ∙ ap (λ (c : Checked). outputs c again) check ∙ ap (outputs (held_check ramp was)) same;
    }
  where
    none : List Bool
    none = replicate 36 false

    was : Held
    was = held.entry

    again : Held
    again = resampled ramp asked none was

    same : again ≡ fresh ramp asked
    same = none_held ramp asked was

    check : relist_check ramp asked none was ≡ held_check ramp was
    check = none_check ramp asked was

    answer : Checked → Held → ℕ → Listed
    answer c h n =
        let ts = points_in ramp h in
        answer_by c (refusal_of (colour_of ramp) (far_of asked) (room out.entry) ts) (length (kept_of (colour_of ramp) (far_of asked) ts)) (n + list_evaluations (colour_of ramp) (far_of asked) ts)

    outputs : Checked → Held → Output
    outputs c h = on_fine c (written ramp asked (points_in ramp h) out.entry) (λ n. out.entry)
