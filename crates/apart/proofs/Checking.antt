-- The refusals, test by test; and what a call that is not refused was lent. Assumes nothing.
use mathlib.Core.Path.{◌≡◌, refl, sym, ap, ◌∙◌}
use mathlib.Core.Bool.{Bool, true, false, not, cond, ◌&&◌, true≢false}
use mathlib.Core.List.{List}
use Prim.Native.Nat.{ℕ, ◌-◌, ◌≤◌, ◌<◌}
use native.Mathlib.Omega.{arith}
use borrow.Author.Tests.{not-true, lt-ltb, le-ltb, ltb-false}
use lib.Dec.{ltb}
use lib.ListN.{length}
use lib.Ieee.{Float, lt}
use lib.Ieee.Scale.{finite}
use Rattle.float.specs.F32.{f0}
use Rattle.float.proofs.Flags.{both_r}
use Rattle.refusals.specs.Refusals.{no_room, bad_list, bad_depths, bad_step}
use Rattle.stops.specs.Lent.{Ramp}
use Rattle.stops.specs.Stops.{pos_at}
use Rattle.stops.specs.declared.Checked.{Checked}
use Rattle.stops.specs.declared.Checked.TheVariants as checked
use Rattle.gradient.specs.Ramp.{min_of, max_of}
use Rattle.sampling.specs.Sampling.{and_then}
use Rattle.judge.specs.Lists.{Offer, first_failing}
use Rattle.judge.specs.Verdicts.{ramp_check, shape_verdict}
use Rattle.judge.specs.inner.Steps.{Sound}
use Rattle.judge.specs.declared.Verdict.{Verdict}
use Rattle.judge.specs.declared.Verdict.TheVariants.{Yes, WrongLength, BadStop, WrongFirst, WrongLast, TooFar, Refused}
use Rattle.judge.proofs.Failing.{from_start, all_pass}
use Rattle.judge.proofs.Shaping.{shape_sound}
use Rattle.apart.specs.Checks.{is_yes, good_list, good_depth, first_bad_depth, good_depths, good_step, asked_check, given_check, lent_check, apart_check}

-- ---- a depth
pub holds : (lo hi : Float) (ds : List Float) (i : ℕ) → finite (pos_at ds i) ≡ true → lt (pos_at ds i) lo ≡ false → lt hi (pos_at ds i) ≡ false → lt (pos_at ds i) (pos_at ds (i - 1)) ≡ false → true ≡ good_depth lo hi ds i
unfolding good_depth
holds lo hi ds i number low high h = simp (number, low, high, h)

pub begun : (lo hi : Float) (ds : List Float) → first_failing (good_depth lo hi ds) (length ds - 0) 0 ≡ first_bad_depth lo hi ds
unfolding first_bad_depth
begun lo hi ds = from_start (good_depth lo hi ds) (length ds)

-- ---- 23, then 24
module _ (lo hi : Float) (ds : List Float) (step : Float) where
  module _ (some : length ds ≡ 0 → ⊥) {k : ℕ} (e : k ≡ first_bad_depth lo hi ds) where
    module _ (past : length ds ≤ k) where
      good : good_depths lo hi ds ≡ true
      unfolding good_depths
      good = simp (lt-ltb 0 (length ds) (omega (arith, some)), ← e, le-ltb k (length ds) past)

      pub asked_fine : finite step ≡ true → lt step f0 ≡ false → checked.Fine ≡ asked_check lo hi ds step
      unfolding asked_check good_step
      asked_fine n h = simp (good, n, h)

-- ---- before them 22
not_yes : (v : Verdict) → (v ≡ Yes → ⊥) → is_yes v ≡ false
not_yes Yes never = absurd (never refl)
not_yes WrongLength never = refl
not_yes (BadStop stop) never = refl
not_yes WrongFirst never = refl
not_yes WrongLast never = refl
not_yes (TooFar row index t) never = refl
not_yes (Refused n) never = refl

is_yes_lem : (v : Verdict) → is_yes v ≡ true → v ≡ Yes
is_yes_lem Yes h = refl
is_yes_lem WrongLength h = absurd (true≢false (sym h))
is_yes_lem (BadStop stop) h = absurd (true≢false (sym h))
is_yes_lem WrongFirst h = absurd (true≢false (sym h))
is_yes_lem WrongLast h = absurd (true≢false (sym h))
is_yes_lem (TooFar row index t) h = absurd (true≢false (sym h))
is_yes_lem (Refused n) h = absurd (true≢false (sym h))

module _ (lo hi : Float) (offer : Offer) (ds : List Float) (step : Float) {v : Verdict} (e : v ≡ shape_verdict lo hi offer Yes) where
  pub bad_list_lem : (v ≡ Yes → ⊥) → checked.Refused bad_list ≡ given_check lo hi offer ds step
  unfolding given_check
  bad_list_lem never = simp (ap is_yes (sym e) ∙ not_yes v never)

  pub list_fine : v ≡ Yes → {r : Checked} → r ≡ asked_check lo hi ds step → r ≡ given_check lo hi offer ds step
  unfolding given_check
  list_fine y f = f ∙ simp (ap is_yes (sym e ∙ y))

-- ---- before all of them 1 to 4
module _ (ramp : Ramp) (offer : Offer) (ds : List Float) (step : Float) where
  pub ramp_refused : (n : ℕ) → ramp_check ramp ≡ checked.Refused n → checked.Refused n ≡ lent_check ramp offer ds step
  unfolding lent_check
  ramp_refused n h = simp h

  pub ramp_passed : ramp_check ramp ≡ checked.Fine → {lo hi : Float} → lo ≡ min_of ramp → hi ≡ max_of ramp → {r : Checked} → r ≡ given_check lo hi offer ds step → r ≡ lent_check ramp offer ds step
  unfolding lent_check
  ramp_passed h p q f = rw (p, q) at f ∙ simp h

  -- ---- and after them 7
  pub check_refused : (n room : ℕ) → lent_check ramp offer ds step ≡ checked.Refused n → apart_check ramp offer ds step room ≡ checked.Refused n
  unfolding apart_check
  check_refused n room h = simp h

  module _ (h : lent_check ramp offer ds step ≡ checked.Fine) (room : ℕ) where
    pub check_narrow : room < length ds → apart_check ramp offer ds step room ≡ checked.Refused no_room
    unfolding apart_check
    check_narrow l = simp (h, lt-ltb room (length ds) l)

    pub check_fine : length ds ≤ room → apart_check ramp offer ds step room ≡ checked.Fine
    unfolding apart_check
    check_fine l = simp (h, le-ltb room (length ds) l)

-- ---- where nothing is refused
first_fine : (a b : Checked) → and_then a b ≡ checked.Fine → a ≡ checked.Fine
first_fine checked.Fine b h = refl
first_fine (checked.Refused n) b h = h

second_fine : (a b : Checked) → and_then a b ≡ checked.Fine → b ≡ checked.Fine
second_fine checked.Fine b h = h
second_fine (checked.Refused n) b h = let z : ◌≡◌ {A = ℕ} 0 1 = cc in absurd (omega arith)

not_fine : (n : ℕ) → checked.Refused n ≡ checked.Fine → ⊥
not_fine n h = let z : ◌≡◌ {A = ℕ} 0 1 = cc in omega arith

chosen : (b : Bool) (x : Checked) (n : ℕ) → cond b x (checked.Refused n) ≡ checked.Fine → b ≡ true
chosen true x n h = refl
chosen false x n h = absurd (not_fine n h)

taken : (b : Bool) (x : Checked) (n : ℕ) → cond b x (checked.Refused n) ≡ checked.Fine → x ≡ checked.Fine
taken true x n h = h
taken false x n h = absurd (not_fine n h)

wide : (b : Bool) (n : ℕ) → cond b (checked.Refused n) checked.Fine ≡ checked.Fine → b ≡ false
wide true n h = absurd (not_fine n h)
wide false n h = refl

module _ (ramp : Ramp) (offer : Offer) (ds : List Float) (step : Float) where
  pub lent_ramp : lent_check ramp offer ds step ≡ checked.Fine → ramp_check ramp ≡ checked.Fine
  unfolding lent_check
  lent_ramp h = first_fine (ramp_check ramp) (given_check (min_of ramp) (max_of ramp) offer ds step) h

  pub lent_sound : lent_check ramp offer ds step ≡ checked.Fine → Sound offer
  unfolding lent_check given_check
  lent_sound h =
      let k = second_fine (ramp_check ramp) (cond (good_list (min_of ramp) (max_of ramp) offer) (asked_check (min_of ramp) (max_of ramp) ds step) (checked.Refused bad_list)) h in
      let b = chosen (good_list (min_of ramp) (max_of ramp) offer) (asked_check (min_of ramp) (max_of ramp) ds step) bad_list k in
      shape_sound (min_of ramp) (max_of ramp) offer refl (is_yes_lem (shape_verdict (min_of ramp) (max_of ramp) offer Yes) b)

  pub lent_depths : lent_check ramp offer ds step ≡ checked.Fine → (i : ℕ) → i < length ds → good_depth (min_of ramp) (max_of ramp) ds i ≡ true
  unfolding lent_check given_check asked_check good_depths first_bad_depth
  lent_depths h i l =
      let lo = min_of ramp in
      let hi = max_of ramp in
      let first = first_failing (good_depth lo hi ds) (length ds) 0 in
      let good : Bool = ltb 0 (length ds) && not (ltb first (length ds)) in
      let stepped : Checked = cond (good_step step) checked.Fine (checked.Refused bad_step) in
      let k = second_fine (ramp_check ramp) (cond (good_list lo hi offer) (cond good stepped (checked.Refused bad_depths)) (checked.Refused bad_list)) h in
      let d = chosen good stepped bad_depths (taken (good_list lo hi offer) (cond good stepped (checked.Refused bad_depths)) bad_list k) in
      let past = ltb-false first (length ds) (not-true (ltb first (length ds)) (both_r (ltb 0 (length ds)) (not (ltb first (length ds))) d)) in
      all_pass (good_depth lo hi ds) (length ds) 0 (omega (arith, past)) i (omega arith) (omega arith)

  module _ (room : ℕ) (h : apart_check ramp offer ds step room ≡ checked.Fine) where
    pub fine_lent : lent_check ramp offer ds step ≡ checked.Fine
    unfolding apart_check
    fine_lent = first_fine (lent_check ramp offer ds step) (cond (ltb room (length ds)) (checked.Refused no_room) checked.Fine) h

    pub fine_room : ltb room (length ds) ≡ false
    unfolding apart_check
    fine_room = wide (ltb room (length ds)) no_room (second_fine (lent_check ramp offer ds step) (cond (ltb room (length ds)) (checked.Refused no_room) checked.Fine) h)
