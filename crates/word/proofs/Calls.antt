-- The theorems of the calls, of any results that their contracts allow: a list that is done, over any record at all, keeps its word; the judge says yes to a list that is done over a fresh record or a
-- refreshed one; and over a refreshed record it is the list over a fresh one. Assumes nothing.
use mathlib.Core.Path.{◌≡◌, refl, sym, ap, ◌∙◌, subst}
use mathlib.Core.Bool.{false}
use Prim.Native.Nat.{ℕ}
use lib.Dec.{T}
use lib.Ieee.{Float, binary32, fits}
use Rattle.refusals.specs.Refusals.{other_threshold}
use Rattle.stops.specs.Answers.{number_of_checked, on_fine}
use Rattle.stops.specs.Lent.{Ramp, Change, change}
use Rattle.stops.specs.declared.Checked.{Checked}
use Rattle.stops.specs.declared.Checked.TheVariants as checked
use Rattle.gradient.specs.Ramp.{is_gimp, check_of}
use Rattle.gradient.specs.Joined.{Joined}
use Rattle.sampling.specs.Constants.{threshold_of}
use Rattle.sampling.specs.Lent.{Held}
use Rattle.sampling.specs.Sampling.{number_of_sampled, evaluations_of_sampled, held_check, fresh, marks_of, sample_answer, sample_held, sample_evaluations}
use Rattle.sampling.specs.Promises.{Samples}
use Rattle.sampling.specs.declared.Sampled.{Sampled}
use Rattle.sampling.specs.declared.Sampled.TheVariants as sampled
use Rattle.sampling.proofs.Answers as Sampling
use Rattle.sampling.proofs.Checks.{ramp_fine, record_lengths}
use Rattle.sampling.proofs.Words.{same_threshold}
use Rattle.records.specs.Fitness.{thin_check}
use Rattle.records.proofs.Passing.{sample_fine, marks_own}
use Rattle.linearize.specs.Lent.{Output}
use Rattle.linearize.specs.Desk.{points_in, room}
use Rattle.linearize.specs.declared.Listed.{Listed}
use Rattle.linearize.specs.declared.Listed.TheVariants as listed
use Rattle.judge.specs.Lists.{Offer}
use Rattle.judge.specs.Verdicts.{ramp_check}
use Rattle.judge.specs.Conditions.{Stands}
use Rattle.judge.specs.Promises.{Judges}
use Rattle.judge.specs.declared.Verdict.{Verdict}
use Rattle.judge.specs.declared.Verdict.TheVariants.{Yes}
use Rattle.judge.proofs.Answering.{judge_done}
use Rattle.judge.proofs.Theorems.{stands_yes, one_answer}
use Rattle.refresh.specs.editing.Edited.{edited}
use Rattle.refresh.specs.editing.Rules.{edit_check}
use Rattle.refresh.specs.declared.editing.Edit.{Edit}
use Rattle.refresh.specs.RefreshDesk.{Refreshes}
use Rattle.refresh.specs.AfterEdit.{Shaped}
use Rattle.refresh.proofs.Theorem as theorem
use Rattle.refresh.proofs.Calls.{refresh_is_fresh}
use Rattle.ordinary.specs.Ordinary.{Singles}
use Rattle.within.specs.Lists.{hold_of, list_within, refusal_within, fresh_points}
use Rattle.within.specs.Promises.{ThinsWithin, FlattensWithin}
use Rattle.word.specs.Word.{KeepsWord, NeverFalling, list_in, OneListWithin}
use Rattle.word.proofs.Falling.{stops_rise, joined_rise}
use Rattle.word.proofs.Standing.{stands}
use Rattle.word.proofs.Keeping.{keeps_word}
use Rattle.word.proofs.Written.{Made, thinned, flattened}

-- a ramp that a sampling takes, the judge takes
pub taken_too : (ramp : Ramp) (was : Held) → held_check ramp was ≡ checked.Fine → ramp_check ramp ≡ checked.Fine
taken_too ramp was h = let l = record_lengths ramp _ _ _ h in rw (l.long, l.many, l.three) at h

-- the judge says yes to a list that stands, by whatever number its threshold is asked for
yes_in_force : (ramp : Ramp) (asked his : Float) (offer : Offer) → Stands ramp asked offer → threshold_of his ≡ threshold_of asked → (v : Verdict) → Judges ramp his offer v → v ≡ Yes
yes_in_force ramp asked his offer w one v judging =
    let own = judge_done ramp asked offer w.fine refl in
    one_answer ramp his asked offer offer v _ one (record { as_many = refl; as_long = refl; each = λ i l. refl }) judging own ∙ stands_yes ramp asked offer _ own w

-- ---- of any record that passes the check
module _ (ramp : Ramp) (asked hold : Float) (was : Held) (out out' : Output) (r : Listed) (n e : ℕ) (call : ThinsWithin ramp asked hold was (change out out') r) (done : r ≡ listed.Done n e)
    (singles : Singles ramp.positions) where
  list_made : Made ramp asked hold (thin_check ramp asked was) (points_in ramp was) out out' n
  list_made = thinned ramp asked hold out out' r n e done was call

  passes : check_of ramp ≡ checked.Fine
  passes = ramp_fine ramp _ _ _ (sample_fine ramp asked was list_made.fine)

  pub thin_within_keeps : NeverFalling ramp → KeepsWord ramp (list_in out' n) (hold_of asked hold)
  thin_within_keeps falling =
      subst (λ (o : Offer). KeepsWord ramp o (hold_of asked hold)) (sym list_made.list) (keeps_word ramp asked hold (room out) (points_in ramp was) passes singles list_made.none falling)

  -- of stops nothing more is asked
  pub thin_within_keeps_stops : is_gimp ramp.kind ≡ false → KeepsWord ramp (list_in out' n) (hold_of asked hold)
  thin_within_keeps_stops stops = thin_within_keeps (stops_rise ramp stops)

  -- of segments that are joined, as those of a file that is read are
  pub thin_within_keeps_joined : Joined ramp.positions → KeepsWord ramp (list_in out' n) (hold_of asked hold)
  thin_within_keeps_joined J = thin_within_keeps (joined_rise ramp passes J)

module _ (ramp : Ramp) (asked hold : Float) (was is : Held) (out out' : Output) (r : Listed) (n e : ℕ) (call : FlattensWithin ramp asked hold (change was is) (change out out') r) (done : r ≡ listed.Done n e)
    (singles : Singles ramp.positions) where
  whole_made : Made ramp asked hold (held_check ramp was) (fresh_points ramp asked hold) out out' n
  whole_made = flattened ramp asked hold out out' r n e done was is call

  pub flatten_within_keeps : NeverFalling ramp → KeepsWord ramp (list_in out' n) (hold_of asked hold)
  flatten_within_keeps falling =
      subst (λ (o : Offer). KeepsWord ramp o (hold_of asked hold)) (sym whole_made.list)
      (keeps_word ramp asked hold (room out) (fresh_points ramp asked hold) (ramp_fine ramp _ _ _ whole_made.fine) singles whole_made.none falling)

  -- ---- the judge says yes
  pub flatten_within_judged : (his : Float) → threshold_of his ≡ threshold_of asked → (v : Verdict) → Judges ramp his (list_in out' n) v → v ≡ Yes
  flatten_within_judged his =
      yes_in_force ramp asked his (list_in out' n)
      (subst (Stands ramp asked) (sym whole_made.list) (stands ramp asked hold (room out) (taken_too ramp was whole_made.fine) singles whole_made.none))

-- thinned with `mine` over what a sampling with `asked` left
module _ (ramp : Ramp) (asked mine hold : Float) (single : T (fits binary32 asked)) (single' : T (fits binary32 mine)) (is : Held) (out out' : Output) (r : Listed) (n e : ℕ)
    (call : ThinsWithin ramp mine hold is (change out out') r) (done : r ≡ listed.Done n e) (singles : Singles ramp.positions) where
  over : Made ramp mine hold (thin_check ramp mine is) (points_in ramp is) out out' n
  over = thinned ramp mine hold out out' r n e done is call

  module _ (left : is ≡ fresh ramp asked) where
    own_words : marks_of ramp asked ≡ marks_of ramp mine
    unfolding fresh
    own_words = sym (ap (λ (h : Held). h.marks) left) ∙ marks_own ramp mine is over.fine

    mine_too : is ≡ fresh ramp mine
    mine_too = left ∙ theorem.fresh_alike ramp asked mine (same_threshold ramp ramp asked mine single single' own_words)

    fresh_judged : (his : Float) → threshold_of his ≡ threshold_of mine → (v : Verdict) → Judges ramp his (list_in out' n) v → v ≡ Yes
    fresh_judged his =
        let none : refusal_within ramp mine hold (room out) (points_in ramp (fresh ramp mine)) ≡ 0 =
        subst (λ (h : Held). refusal_within ramp mine hold (room out) (points_in ramp h) ≡ 0) mine_too over.none in
        let list : list_in out' n ≡ list_within ramp mine hold (points_in ramp (fresh ramp mine)) = over.list ∙ ap (λ (h : Held). list_within ramp mine hold (points_in ramp h)) mine_too in
        yes_in_force ramp mine his (list_in out' n)
        (subst (Stands ramp mine) (sym list) (stands ramp mine hold (room out) (taken_too ramp is (sample_fine ramp mine is over.fine)) singles none))

  pub thin_within_judged : (was : Held) (k : ℕ) (s : Sampled) → s ≡ sampled.Done k → Samples ramp asked (change was is) s
      → (his : Float) → threshold_of his ≡ threshold_of mine → (v : Verdict) → Judges ramp his (list_in out' n) v → v ≡ Yes
  thin_within_judged was k s sampled_done sampling = fresh_judged (Sampling.fresh_is ramp asked (change was is) k s sampled_done sampling).left

-- ---- a record that was sampled, then refreshed after an edit
module _ (ramp : Ramp) (e : Edit) (edit : edit_check ramp e ≡ checked.Fine) (asked mine : Float) (single : T (fits binary32 asked)) (single' : T (fits binary32 mine))
    (held : Change Held) (n : ℕ) (s : Sampled) (done : s ≡ sampled.Done n) (sampling : Samples ramp asked held s)
    (after : Held) (q : Sampled) (refreshing : Refreshes ramp e mine (change held.exit after) q) (not : number_of_sampled q ≡ other_threshold → ⊥) where
  same_lists : (one other : Held) → one ≡ other → OneListWithin (edited ramp e) one other
  same_lists one other p third hold out out₁ out₂ r l v w =
      let u : ThinsWithin (edited ramp e) third hold other (change out out₁) r = rw (← p) v in
      record { same_answer = u.told.answer ∙ sym w.told.answer; same_output = u.output ∙ sym w.output }

  -- and one that was sampled afresh: thinned within a hold they give one list
  pub refreshed_within : (other : Change Held) → Shaped other.entry → (p : Sampled) → Samples (edited ramp e) mine other p → OneListWithin (edited ramp e) after other.exit
  refreshed_within other shaped p afresh =
      same_lists after other.exit (refresh_is_fresh ramp e edit asked mine single single' held n s done sampling after q refreshing not other shaped p afresh).same_record

  -- ---- the judge says yes to its list
  as_sampled : Samples (edited ramp e) mine (change held.entry (sample_held (edited ramp e) mine held.entry)) (sample_answer (edited ramp e) mine held.entry)
  unfolding sample_answer sample_evaluations
  as_sampled = record { answer = refl; number = told _ (held_check (edited ramp e) held.entry); evaluations = spent _ (held_check (edited ramp e) held.entry); left = refl }
    where
      told : (k : ℕ) (c : Checked) → number_of_sampled (on_fine c (sampled.Done k) sampled.Refused) ≡ number_of_checked c
      told k checked.Fine = refl
      told k (checked.Refused m) = refl

      spent : (k : ℕ) (c : Checked) → evaluations_of_sampled (on_fine c (sampled.Done k) sampled.Refused) ≡ on_fine c k (λ m. 0)
      spent k checked.Fine = refl
      spent k (checked.Refused m) = refl

  after-fresh : after ≡ fresh (edited ramp e) mine
  after-fresh =
      let l = record_lengths ramp _ _ _ (Sampling.fresh_is ramp asked held n s done sampling).fine in
      let w = refresh_is_fresh ramp e edit asked mine single single' held n s done sampling after q refreshing not _ (record { long = l.long; many = l.many; three = l.three }) _ as_sampled in
      w.same_record ∙ (Sampling.fresh_is (edited ramp e) mine _ _ _ w.sampled_too as_sampled).left

  pub refreshed_within_judged : (third hold : Float) → T (fits binary32 third) → (out out' : Output) (r : Listed) (m k : ℕ)
      → ThinsWithin (edited ramp e) third hold after (change out out') r → r ≡ listed.Done m k → Singles (edited ramp e).positions
      → (his : Float) → threshold_of his ≡ threshold_of third → (v : Verdict) → Judges (edited ramp e) his (list_in out' m) v → v ≡ Yes
  refreshed_within_judged third hold single'' out out' r m k call List_done singles =
      fresh_judged (edited ramp e) mine third hold single' single'' after out out' r m k call List_done singles after-fresh
