-- The theorems of the call: lists with the same stops get the same answer and bytes; what a byte of 4 says; when nothing is moved. Assumes nothing.
use mathlib.Core.Path.{◌≡◌, refl, sym, ap, ◌∙◌}
use mathlib.Core.Bool.{Bool, true, false, not, cond, ◌&&◌, true≢false}
use mathlib.Core.List.{List, [], ◌∷◌}
use mathlib.Core.Logic.{⊎_elim}
use Prim.Native.Nat.{ℕ, zero, suc, ◌+◌, ◌-◌, ◌%◌, ◌≤◌, ◌<◌}
use native.Mathlib.Omega.{arith}
use borrow.Author.Tests.{not-true, not-false}
use lib.Dec.{T, ltb}
use lib.ListN.{length, get_or, drop, replicate, get_or-append}
use lib.Ieee.{Float, lt, le}
use lib.Ieee.Bits.{is_true}
use lib.Ieee.Scale.{finite}
use Rattle.float.proofs.Flags.{both_l, both_r}
use Rattle.float.proofs.Order.{as_T}
use Rattle.slices.specs.Joined.{joined}
use Rattle.slices.proofs.Joined.{length-joined, single}
use Rattle.refusals.specs.Refusals.{bad_list}
use Rattle.stops.specs.Answers.{on_fine}
use Rattle.stops.specs.Lent.{Ramp}
use Rattle.stops.specs.Stops.{pos_at}
use Rattle.stops.specs.declared.Checked.{Checked}
use Rattle.stops.specs.declared.Checked.TheVariants as checked
use Rattle.gradient.specs.Ramp.{check_of, min_of, max_of, colour_of}
use Rattle.difference.specs.Difference.{distance_of, differs}
use Rattle.sampling.specs.Constants.{threshold_of}
use Rattle.sampling.specs.Midpoints.{Gradient}
use Rattle.sampling.specs.Sampling.{and_then}
use Rattle.sampling.proofs.Checks.{ramp_fine}
use Rattle.judge.specs.Lists.{Offer, sized, offered_ramp}
use Rattle.judge.specs.Verdicts.{ramp_check, close}
use Rattle.judge.specs.Conditions.{Near, SameStops}
use Rattle.judge.specs.declared.Verdict.TheVariants as verdict
use Rattle.judge.proofs.Shaping.{wrong_length}
use Rattle.judge.proofs.Stopwise.{same_or_unsized}
use Rattle.apart.specs.Checks.{is_yes, good_depth, given_check, lent_check, apart_check}
use Rattle.apart.specs.Faults.{flag, how_many, is_moved, is_close, is_merged, fault_of, faults_of}
use Rattle.apart.specs.Answers.{told_of, faults_over, apart_of, bytes_of}
use Rattle.apart.specs.Conditions.{Merged}
use Rattle.apart.specs.Promises.{TellsApart}
use Rattle.apart.specs.declared.told.Apart.{Apart}
use Rattle.apart.specs.declared.told.Apart.TheVariants.{Told, Refused}
use Rattle.apart.proofs.Counting.{flag_most, how_many_none, none_of}
use Rattle.apart.proofs.Checking.{lent_ramp, lent_depths, fine_lent, fine_room}
use Rattle.apart.proofs.Answering.{answer_told}

-- ---- one answer
-- a list of no length that a list may have: 1 to 4, or 22
abbrev unlisted : Ramp → Checked
unlisted ramp = and_then (ramp_check ramp) (checked.Refused bad_list)

module _ (ramp : Ramp) (step : Float) (offer : Offer) (ds : List Float) where
  lent_unsized : sized (length offer.positions) (length offer.channels) ≡ false → lent_check ramp offer ds step ≡ unlisted ramp
  unfolding lent_check given_check
  lent_unsized h = simp (ap is_yes (sym (wrong_length (min_of ramp) (max_of ramp) offer verdict.Yes h)))

never : {A : Type 0} (k : Checked) (x y : A) (f : ℕ → A) → on_fine (and_then k (checked.Refused bad_list)) x f ≡ on_fine (and_then k (checked.Refused bad_list)) y f
never checked.Fine x y f = refl
never (checked.Refused n) x y f = refl

never_after : {A : Type 0} (k c : Checked) (x y : A) (f : ℕ → A)
    → on_fine (and_then (and_then k (checked.Refused bad_list)) c) x f ≡ on_fine (and_then (and_then k (checked.Refused bad_list)) c) y f
never_after checked.Fine c x y f = refl
never_after (checked.Refused n) c x y f = refl

module _ (ramp : Ramp) (asked step : Float) (one other : Offer) (ds : List Float) (was : List ℕ)
    (n : sized (length one.positions) (length one.channels) ≡ false) (m : sized (length other.positions) (length other.channels) ≡ false) where
  unsized_told : apart_of ramp asked step one ds was ≡ apart_of ramp asked step other ds was
  unfolding apart_of apart_check
  unsized_told = rw (lent_unsized ramp step one ds n, lent_unsized ramp step other ds m) (never_after (ramp_check ramp) _ _ _ Refused)

  unsized_bytes : bytes_of ramp asked step one ds was ≡ bytes_of ramp asked step other ds was
  unfolding bytes_of
  unsized_bytes = rw (lent_unsized ramp step one ds n, lent_unsized ramp step other ds m) (never (ramp_check ramp) _ _ (λ k. was))

-- by the threshold in force
module _ (ramp : Ramp) (asked mine step : Float) (offer : Offer) (ds : List Float) (was : List ℕ) (e : threshold_of asked ≡ threshold_of mine) where
  in_force_told : apart_of ramp asked step offer ds was ≡ apart_of ramp mine step offer ds was
  unfolding apart_of
  in_force_told =
      ap (λ (x : Float). on_fine (apart_check ramp offer ds step (length was)) (told_of (colour_of ramp) (colour_of (offered_ramp offer)) x step ds) Refused) e

  in_force_bytes : bytes_of ramp asked step offer ds was ≡ bytes_of ramp mine step offer ds was
  unfolding bytes_of
  in_force_bytes =
      ap (λ (x : Float). on_fine (lent_check ramp offer ds step) (cond (ltb (length was) (length ds)) (replicate (length was) 0)
      (faults_over (colour_of ramp) (colour_of (offered_ramp offer)) x step ds was)) (λ n. was)) e

-- the answer and the bytes are functions of the ramp, the threshold in force, the step, the depths and the stops
module _ (ramp : Ramp) (asked mine step : Float) (one other : Offer) (ds : List Float) (was is is' : List ℕ) (r s : Apart)
    (e : threshold_of asked ≡ threshold_of mine) (w : SameStops one other)
    (p : TellsApart ramp asked step one ds was is r) (q : TellsApart ramp mine step other ds was is' s) where
  pub one_answer : r ≡ s
  one_answer =
      p.answer ∙ in_force_told ramp asked mine step one ds was e
      ∙ ⊎_elim (λ k. ap (λ (o : Offer). apart_of ramp mine step o ds was) k) (λ n. unsized_told ramp mine step one other ds was n.0 n.1) (same_or_unsized one other w)
      ∙ sym q.answer

  pub one_output : is ≡ is'
  one_output =
      p.bytes ∙ in_force_bytes ramp asked mine step one ds was e
      ∙ ⊎_elim (λ k. ap (λ (o : Offer). bytes_of ramp mine step o ds was) k) (λ n. unsized_bytes ramp mine step one other ds was n.0 n.1) (same_or_unsized one other w)
      ∙ sym q.bytes

-- ---- what is told of a depth
told_fine : (k : Checked) (x : Apart) {moved close merged first : ℕ} → on_fine k x Refused ≡ Told moved close merged first → k ≡ checked.Fine
told_fine checked.Fine x h = refl
told_fine (checked.Refused n) x h = let z : ◌≡◌ {A = ℕ} 0 1 = cc in absurd (omega arith)

abbrev moved_of : Apart → ℕ
moved_of (Told moved close merged first) = moved
moved_of (Refused n) = 0

four : (a b c : Bool) → 4 ≤ flag 1 a + flag 2 b + flag 4 c → c ≡ true
four a b true h = refl
four a b false h = absurd (omega (arith, flag_most 1 a, flag_most 2 b))

no_one : (b c : Bool) → (flag 1 false + flag 2 b + flag 4 c) % 2 ≡ 0
no_one true true = refl
no_one true false = refl
no_one false true = refl
no_one false false = refl

not_so : (b : Bool) → (T b → ⊥) → b ≡ false
not_so true n = absurd (n tt)
not_so false n = refl

module _ (ramp : Ramp) (asked step : Float) (offer : Offer) (ds : List Float) where
  abbrev g : Gradient
  g = colour_of ramp

  abbrev h : Gradient
  h = colour_of (offered_ramp offer)

  -- how far apart depth j and the one after are
  abbrev gap : Gradient → ℕ → Float
  gap f j = distance_of (f (pos_at ds j)) (f (pos_at ds (suc j)))

  merged_is : (i : ℕ) → is_merged g h (threshold_of asked) step ds i ≡ true → Merged ramp step offer ds i
  unfolding is_merged differs
  merged_is zero e = absurd (true≢false (sym e))
  merged_is (suc j) e =
      let k : suc j - 1 ≡ j = omega arith in
      let q = not-true (lt step (gap h j)) (both_r (lt step (gap g j)) (not (lt step (gap h j))) e) in
      record {
        later = omega arith;
        ramp_tells = rw k (as_T _ (both_l (lt step (gap g j)) (not (lt step (gap h j))) e));
        list_not = rw k (λ t. true≢false (sym (is_true (lt step (gap h j)) t) ∙ q));
      }

  is_merged_lem : (i : ℕ) → Merged ramp step offer ds i → is_merged g h (threshold_of asked) step ds i ≡ true
  unfolding is_merged differs
  is_merged_lem zero w = absurd (omega (arith, w.later))
  is_merged_lem (suc j) w =
      let k : suc j - 1 ≡ j = omega arith in
      let p : lt step (gap g j) ≡ true = is_true _ (rw k at w.ramp_tells) in
      let q : lt step (gap h j) ≡ false = not_so _ (rw k at w.list_not) in
      rw (p, q)

  fault_at : (was : List ℕ) (i : ℕ) → i < length ds → get_or (faults_over g h (threshold_of asked) step ds was) i 0 ≡ fault_of g h (threshold_of asked) step ds i
  unfolding faults_of
  fault_at was i l =
      get_or-append (joined each (length ds)) (drop (length ds) was) 0 i
      (omega (arith, length-joined each 1 (length ds) (λ j b. refl) (length ds) (omega arith)))
      ∙ single (fault_of g h (threshold_of asked) step ds) (length ds) i l
    where
      each : ℕ → List ℕ
      each j = fault_of g h (threshold_of asked) step ds j ∷ []

  module _ (was is : List ℕ) (r : Apart) (w : TellsApart ramp asked step offer ds was is r) {moved close merged first : ℕ} (told : r ≡ Told moved close merged first) where
    fine : apart_check ramp offer ds step (length was) ≡ checked.Fine
    unfolding apart_of
    fine = told_fine (apart_check ramp offer ds step (length was)) (told_of g h (threshold_of asked) step ds) (sym w.answer ∙ told)

    told_bytes : bytes_of ramp asked step offer ds was ≡ faults_over g h (threshold_of asked) step ds was
    unfolding bytes_of
    told_bytes = simp (fine_lent ramp offer ds step (length was) fine, fine_room ramp offer ds step (length was) fine)

    byte_at : (i : ℕ) → i < length ds → get_or is i 0 ≡ fault_of g h (threshold_of asked) step ds i
    byte_at i l = ap (λ (k : List ℕ). get_or k i 0) (w.bytes ∙ told_bytes) ∙ fault_at was i l

    moved_is : how_many (is_moved g h (threshold_of asked) step ds) (length ds) ≡ moved
    unfolding told_of
    moved_is = ap moved_of (answer_told ramp asked step offer ds was fine ∙ sym w.answer ∙ told)

    -- ---- a byte has 4 exactly where the ramp tells the two depths and the list does not
    pub four_merged : (i : ℕ) → i < length ds → 4 ≤ get_or is i 0 → Merged ramp step offer ds i
    unfolding fault_of
    four_merged i l m =
        let k = rw (byte_at i l) at m in
        merged_is i (four (is_moved g h (threshold_of asked) step ds i) (is_close g h (threshold_of asked) step ds i) (is_merged g h (threshold_of asked) step ds i) k)

    pub merged_four : (i : ℕ) → i < length ds → Merged ramp step offer ds i → 4 ≤ get_or is i 0
    unfolding fault_of
    merged_four i l m = rw (byte_at i l, is_merged_lem i m) (omega arith)

    -- ---- nothing is moved exactly where the list is near at every depth
    pub near_unmoved : ((i : ℕ) → i < length ds → Near ramp asked offer (pos_at ds i)) → moved ≡ 0
    unfolding is_moved close
    near_unmoved near = sym moved_is ∙ how_many_none (is_moved g h (threshold_of asked) step ds) (length ds)
        (λ i l. rw (is_true (le (distance_of (g (pos_at ds i)) (h (pos_at ds i))) (threshold_of asked)) (near i l)))

    pub unmoved_near : moved ≡ 0 → (i : ℕ) → i < length ds → Near ramp asked offer (pos_at ds i)
    unfolding is_moved close
    unmoved_near z i l =
        as_T _ (not-false (le (distance_of (g (pos_at ds i)) (h (pos_at ds i))) (threshold_of asked))
        (none_of (is_moved g h (threshold_of asked) step ds) (length ds) i (moved_is ∙ z) l))

    -- its byte has no 1 where it is near
    pub near_no_one : (i : ℕ) → i < length ds → Near ramp asked offer (pos_at ds i) → get_or is i 0 % 2 ≡ 0
    unfolding fault_of is_moved close
    near_no_one i l near =
        rw (byte_at i l, is_true (le (distance_of (g (pos_at ds i)) (h (pos_at ds i))) (threshold_of asked)) near)
        (no_one (is_close g h (threshold_of asked) step ds i) (is_merged g h (threshold_of asked) step ds i))

    -- ---- the ramp passed its check, and each depth is within the domain
    pub told_ramp : check_of ramp ≡ checked.Fine
    told_ramp = ramp_fine ramp _ _ _ (lent_ramp ramp offer ds step (fine_lent ramp offer ds step (length was) fine))

    depth_good : (i : ℕ) → i < length ds → good_depth (min_of ramp) (max_of ramp) ds i ≡ true
    depth_good = lent_depths ramp offer ds step (fine_lent ramp offer ds step (length was) fine)

    pub depth_inside : (i : ℕ) → i < length ds → (finite (pos_at ds i) ≡ true) × ((lt (pos_at ds i) (min_of ramp) ≡ false) × (lt (max_of ramp) (pos_at ds i) ≡ false))
    unfolding good_depth
    depth_inside i l =
        let d = pos_at ds i in
        let a = finite d in
        let b = not (lt d (min_of ramp)) in
        let c = not (lt (max_of ramp) d) in
        let e = both_l (a && b && c) (not (lt d (pos_at ds (i - 1)))) (depth_good i l) in
        let f = both_l (a && b) c e in
        (both_l a b f, (not-true _ (both_r a b f), not-true _ (both_r (a && b) c e)))
