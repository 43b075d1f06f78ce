-- A valid ramp stays valid where its stops are shared up to i and from j on, and what stands between is finite and does not fall. Assumes nothing.
use mathlib.Core.Path.{◌≡◌, ap, ◌∙◌}
use mathlib.Core.Bool.{true, false}
use mathlib.Core.List.{List}
use Prim.Native.Nat.{ℕ, suc, ◌+◌, ◌-◌, ◌≤◌, ◌<◌}
use native.Mathlib.Decide.{dec_le}
use native.Mathlib.Nat.{lt_of_not-le}
use native.Mathlib.Omega.{arith}
use lib.ListN.{length}
use lib.Ieee.{Float, lt}
use lib.Ieee.Scale.{finite}
use Rattle.float.proofs.Order.{not_lt_from_le}
use Rattle.stops.specs.Lent.{Ramp, ramp_of}
use Rattle.stops.specs.Stops.{pos_at, colour_at, finite_rgba}
use Rattle.stops.proofs.Checking.{Shape}
use Rattle.stops.proofs.Valid.{Valid, finite_number, rises}
use Rattle.refresh.proofs.editing.Shared.{Shared}

module _ (ramp : Ramp) (ok : Valid ramp) (qs ds : List Float) (i j j' : ℕ) (same : Shared ramp.positions ramp.channels qs ds i j j')
    (new : (h : ℕ) → i < h → h < j' → (finite (pos_at qs h) ≡ true) × (finite_rgba (colour_at ds h) ≡ true))
    (step : (h : ℕ) → i ≤ h → h < j' → lt (pos_at qs (suc h)) (pos_at qs h) ≡ false) where
  sound : (h : ℕ) → h < length qs → (finite (pos_at qs h) ≡ true) × (finite_rgba (colour_at ds h) ≡ true)
  sound h l = go (dec_le h i) (dec_le j' h)
    where
      go : Dec (h ≤ i) → Dec (j' ≤ h) → (finite (pos_at qs h) ≡ true) × (finite_rgba (colour_at ds h) ≡ true)
      go (yes a) d =
          let n : h < length ramp.positions = omega (arith, same.there, same.apart) in
          (ap finite (same.up_to h a).0 ∙ ok.finite_at h n, ap finite_rgba (same.up_to h a).1 ∙ ok.colour_finite h n)
      go (no a) (no b) = new h (lt_of_not-le a) (lt_of_not-le b)
      go (no a) (yes b) =
          let e : j' + (h - j') ≡ h = omega arith in
          let n : j + (h - j') < length ramp.positions = omega (arith, same.as_many) in
          let s = rw e at (same.from_on (h - j')) in
          (ap finite s.0 ∙ ok.finite_at (j + (h - j')) n, ap finite_rgba s.1 ∙ ok.colour_finite (j + (h - j')) n)

  never_falls : (h : ℕ) → suc h < length qs → lt (pos_at qs (suc h)) (pos_at qs h) ≡ false
  never_falls h l = go (dec_le (suc h) i) (dec_le j' h)
    where
      go : Dec (suc h ≤ i) → Dec (j' ≤ h) → lt (pos_at qs (suc h)) (pos_at qs h) ≡ false
      go (yes a) d =
          rw ((same.up_to (suc h) a).0, (same.up_to h (omega arith)).0)
          (not_lt_from_le (pos_at ramp.positions (suc h)) (pos_at ramp.positions h) (ok.rising h (suc h) (omega arith) (omega (arith, same.there, same.apart))))
      go (no a) (no b) = let c : i < suc h = lt_of_not-le a in let d : h < j' = lt_of_not-le b in step h (omega arith) (omega arith)
      go (no a) (yes b) =
          let e : j' + (h - j') ≡ h = omega arith in
          let f : j' + suc (h - j') ≡ suc h = omega arith in
          let g : j + suc (h - j') ≡ suc (j + (h - j')) = omega arith in
          rw ((rw e at (same.from_on (h - j'))).0, (rw (f, g) at (same.from_on (suc (h - j')))).0)
          (not_lt_from_le (pos_at ramp.positions (suc (j + (h - j')))) (pos_at ramp.positions (j + (h - j'))) (ok.rising (j + (h - j')) (suc (j + (h - j'))) (omega arith) (omega (arith, same.as_many))))

  pub still_valid : Shape ramp.kind (length qs) (length ds) (length ramp.codes) → Valid (ramp_of ramp.kind qs ds ramp.codes)
  still_valid sized =
      record {
        sized = sized;
        finite_at = λ h l. (sound h l).0;
        colour_finite = λ h l. (sound h l).1;
        rising = rises qs (λ h l. finite_number (pos_at qs h) (sound h l).0) never_falls;
      }
