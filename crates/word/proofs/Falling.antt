-- What a ramp's check says of its positions: finite, and those of stops never fall; those of segments that are joined, as a file's are, never do. Assumes nothing.
use mathlib.Core.Path.{◌≡◌, refl, sym, ◌∙◌, subst}
use mathlib.Core.Bool.{Bool, true, false, cond, ◌&&◌, true≢false}
use mathlib.Core.List.{List, [], ◌∷◌}
use Prim.Native.Nat.{ℕ, zero, suc, ◌+◌, ◌-◌, ◌*◌, ◌/◌, ◌%◌, ◌<◌}
use native.Mathlib.Omega.{arith}
use lib.Dec.{T}
use lib.ListN.{length, get_or}
use lib.Ieee.{Float, nan, of_bits, le, lt}
use lib.Ieee.Scale.{finite}
use Rattle.refusals.specs.Refusals.{misshapen, not_finite}
use Rattle.float.specs.F32.{f0, f1}
use Rattle.float.proofs.Flags.{both_l, both_r}
use Rattle.float.proofs.Order.{not_lt_from_le, ge_from_eq}
use Rattle.blend.specs.Finite.{all_finite}
use Rattle.stops.specs.Lent.{Ramp}
use Rattle.stops.specs.Stops.{pos_at}
use Rattle.stops.specs.Place.{Rising}
use Rattle.stops.specs.declared.Checked.{Checked}
use Rattle.stops.specs.declared.Checked.TheVariants.{Fine, Refused}
use Rattle.stops.proofs.Valid.{rises, finite_number}
use Rattle.gradient.specs.Gimp.{segments, left_at, middle_at, right_at, gimp_shaped, all_carried, gimp_check}
use Rattle.gradient.specs.Joined.{Joined}
use Rattle.gradient.specs.Ramp.{is_gimp, check_of, min_in, max_in, min_of, max_of}
use Rattle.gradient.proofs.Valid.{valid}
use Rattle.gradient.proofs.GimpLaws.{fine_shape}
use Rattle.word.specs.Word.{NeverFalling}

-- ---- finite
pub all_finite_at : (xs : List Float) → all_finite xs ≡ true → (i : ℕ) → i < length xs → finite (get_or xs i nan) ≡ true
unfolding all_finite
all_finite_at [] h i l = absurd (omega arith)
all_finite_at (x ∷ xs) h zero l = both_l (finite x) (all_finite xs) h
all_finite_at (x ∷ xs) h (suc i) l = all_finite_at xs (both_r (finite x) (all_finite xs) h) i (omega arith)

no_refusal : (n : ℕ) → Refused n ≡ Fine → ⊥
no_refusal n e = let z : ◌≡◌ {A = ℕ} 0 1 = cc in omega arith

taken : (b : Bool) (x : Checked) (n : ℕ) → cond b x (Refused n) ≡ Fine → (b ≡ true) × (x ≡ Fine)
taken true x n h = (refl, h)
taken false x n h = absurd (no_refusal n h)

module _ (ramp : Ramp) (passes : check_of ramp ≡ Fine) where
  pub segments_pass : is_gimp ramp.kind ≡ true → gimp_check ramp.kind ramp.positions ramp.channels ramp.codes ≡ Fine
  unfolding check_of
  segments_pass e = rw e at passes

  segments_finite : is_gimp ramp.kind ≡ true → all_finite ramp.positions ≡ true
  unfolding gimp_check
  segments_finite e =
      let ps = ramp.positions in
      let cs = ramp.channels in
      let ks = ramp.codes in
      let shape = gimp_shaped (segments ps) (length ps) (length cs) (length ks) && all_carried ramp.kind (segments ps) 0 ps ks in
      both_l (all_finite ps) (all_finite cs) (taken (all_finite ps && all_finite cs) Fine not_finite (taken shape _ misshapen (segments_pass e)).1).0

  pub position_finite : (i : ℕ) → i < length ramp.positions → finite (pos_at ramp.positions i) ≡ true
  position_finite i l = go (is_gimp ramp.kind) refl
    where
      go : (b : Bool) → is_gimp ramp.kind ≡ b → finite (pos_at ramp.positions i) ≡ true
      go true e = all_finite_at ramp.positions (segments_finite e) i l
      go false e = (valid ramp e passes).finite_at i l

  -- ---- never falling
  pub positions_rise : NeverFalling ramp → Rising ramp.positions
  positions_rise h = go (is_gimp ramp.kind) refl
    where
      go : (b : Bool) → is_gimp ramp.kind ≡ b → Rising ramp.positions
      go true e = h e
      go false e = (valid ramp e passes).rising

  pub ends_rise : T (le (min_of ramp) (max_of ramp))
  unfolding min_in max_in
  ends_rise = go (is_gimp ramp.kind) refl
    where
      zero_one : T (le f0 f1)
      zero_one = unfold le of_bits in tt

      go : (b : Bool) → is_gimp ramp.kind ≡ b → T (le (cond b f0 (pos_at ramp.positions 0)) (cond b f1 (pos_at ramp.positions (length ramp.positions - 1))))
      go true e = zero_one
      go false e =
          let v = valid ramp e passes in
          let n = v.sized.least in
          v.rising 0 (length ramp.positions - 1) (omega arith) (omega arith)

-- of stops nothing is asked
pub stops_rise : (ramp : Ramp) → is_gimp ramp.kind ≡ false → NeverFalling ramp
stops_rise ramp h e = absurd (true≢false (sym e ∙ h))

-- ---- joined segments: left, middle, right, then the next one's left, which is that right
module _ (ps : List Float) (J : Joined ps) (three : length ps ≡ 3 * segments ps) where
  next : (i r : ℕ) → r < 3 → suc (3 * i + r) < length ps → lt (pos_at ps (suc (3 * i + r))) (pos_at ps (3 * i + r)) ≡ false
  next i zero h l =
      let a : suc (3 * i + 0) ≡ 3 * i + 1 = omega arith in
      let b : 3 * i + 0 ≡ 3 * i = omega arith in
      rw (a, b) (not_lt_from_le (middle_at ps i) (left_at ps i) (J.middle_after i (omega (arith, three))))
  next i (suc zero) h l =
      let a : suc (3 * i + 1) ≡ 3 * i + 2 = omega arith in
      rw a (not_lt_from_le (right_at ps i) (middle_at ps i) (J.middle_before i (omega (arith, three))))
  next i (suc (suc zero)) h l =
      let a : suc (3 * i + 2) ≡ 3 * suc i = omega arith in
      rw a (not_lt_from_le (left_at ps (suc i)) (right_at ps i) (ge_from_eq (left_at ps (suc i)) (right_at ps i) (J.joint i (omega (arith, three)))))
  next i (suc (suc (suc r))) h l = absurd (omega arith)

  step : (j : ℕ) → suc j < length ps → lt (pos_at ps (suc j)) (pos_at ps j) ≡ false
  step j l =
      let e : 3 * (j / 3) + j % 3 ≡ j = omega arith in
      subst (λ (k : ℕ). lt (pos_at ps (suc k)) (pos_at ps k) ≡ false) e (next (j / 3) (j % 3) (omega arith) (omega arith))

pub joined_rise : (ramp : Ramp) → check_of ramp ≡ Fine → Joined ramp.positions → NeverFalling ramp
joined_rise ramp passes J e =
    let ps = ramp.positions in
    let s = fine_shape ramp.kind ps ramp.channels ramp.codes (segments_pass ramp passes e) in
    rises ps (λ i l. finite_number (pos_at ps i) (position_finite ramp passes i l)) (step ps J s.positions)
