-- The first fault among the points kept, with room for one stop or for many, and what is told of them. Assumes nothing.
use mathlib.Core.Path.{◌≡◌, refl, ap, ap₂, ◌∙◌}
use mathlib.Core.Bool.{Bool, true, false, cond, ◌&&◌}
use mathlib.Core.List.{List, [], ◌∷◌, ◌++◌}
use Prim.Native.Nat.{ℕ, zero, suc, ◌+◌, ◌≤◌, ◌<◌}
use native.Mathlib.Omega.{arith}
use borrow.Author.Tests.{lt-leb}
use lib.Dec.{leb}
use lib.ListN.{length, take, drop, get_or}
use lib.Seq.{sets, sets-eq, take_at}
use lib.Ieee.{Float, lt}
use lib.Ieee.Scale.{finite}
use Rattle.blend.specs.Channels.{channels_of, colours_of, positions_in, channels_in}
use Rattle.blend.specs.declared.Rgba.{Rgba}
use Rattle.stops.specs.Stops.{finite_rgba}
use Rattle.sampling.specs.Midpoints.{Gradient}
use Rattle.thinning.specs.Kept.{stop_refusal, first_refusal, refusal_from}
use Rattle.next_stop.specs.Step.{stop_with}
use Rattle.next_stop.specs.Chain.{told_stops, stops_at, faults_from}
use Rattle.next_stop.specs.declared.Told.{Told}
use Rattle.next_stop.specs.declared.Told.TheVariants as told
use Rattle.next_stop.proofs.Chaining.{told_from, fault_in}

-- ---- faults, with room for one stop or for many
module _ (g : Gradient) where
  -- a stop's refusal is 7, or its fault
  with_room : (room n : ℕ) (last t : Float) (c : Rgba) → stop_refusal room n last t c ≡ cond (leb room n) 7 (stop_refusal 1 0 last t c)
  unfolding stop_refusal
  with_room room n last t c = refl

  -- where the first refusal is not 7, it is the first fault
  pub same_fault : (room n : ℕ) (last : Float) (ks : List Float) → (refusal_from g room n last ks ≡ 7 → ⊥) → refusal_from g room n last ks ≡ fault_in g last ks
  unfolding refusal_from fault_in stop_refusal
  same_fault room n last [] nz = refl
  same_fault room n last (t ∷ ks) nz =
      by (leb room n) (stop_refusal 1 0 last t (g t)) (λ z. nz (ap (λ (k : ℕ). first_refusal k (refusal_from g room (n + 1) t ks)) (with_room room n last t (g t)) ∙ z)) (same_fault room (n + 1) t ks)
    where
      by : (b : Bool) (k : ℕ) → (first_refusal (cond b 7 k) (refusal_from g room (n + 1) t ks) ≡ 7 → ⊥)
          → ((refusal_from g room (n + 1) t ks ≡ 7 → ⊥) → refusal_from g room (n + 1) t ks ≡ fault_in g t ks)
          → first_refusal (cond b 7 k) (refusal_from g room (n + 1) t ks) ≡ first_refusal k (fault_in g t ks)
      by true k z ih = absurd (z refl)
      by false zero z ih = ih z
      by false (suc k) z ih = refl

  -- no fault is 7
  pub fault_not_seven : (last : Float) (ks : List Float) → fault_in g last ks ≡ 7 → ⊥
  unfolding fault_in stop_refusal
  fault_not_seven last [] z = absurd (omega arith)
  fault_not_seven last (t ∷ ks) z = by (finite t && finite_rgba (g t)) (lt t last) (fault_not_seven t ks) z
    where
      by : (b d : Bool) → (fault_in g t ks ≡ 7 → ⊥) → first_refusal (cond b (cond d 9 0) 8) (fault_in g t ks) ≡ 7 → ⊥
      by true true ih y = absurd (omega arith)
      by true false ih y = ih y
      by false d ih y = absurd (omega arith)

  -- with room for all of them there is no 7
  pub no_seven : (room n : ℕ) (last : Float) (ks : List Float) → n + length ks ≤ room → refusal_from g room n last ks ≡ fault_in g last ks
  unfolding refusal_from fault_in
  no_seven room n last [] h = refl
  no_seven room n last (t ∷ ks) h =
      let r : stop_refusal room n last t (g t) ≡ stop_refusal 1 0 last t (g t) = with_room room n last t (g t) ∙ rw (lt-leb room n (omega arith)) in
      ap₂ first_refusal r (no_seven room (n + 1) t ks (omega arith))

  -- ---- what is told of the points kept
  both_zero : (a b : ℕ) → first_refusal a b ≡ 0 → (a ≡ 0) × (b ≡ 0)
  both_zero zero b h = (refl, h)
  both_zero (suc a) b h = absurd (omega arith)

  pub all_told : (last : Float) (ks : List Float) → fault_in g last ks ≡ 0 → told_from g last ks ≡ told_stops (stops_at g ks)
  unfolding told_from fault_in
  all_told last [] z = refl
  all_told last (t ∷ ks) z =
      let b = both_zero (stop_refusal 1 0 last t (g t)) (fault_in g t ks) z in
      rw b.0 (ap (λ (l : List Told). told.Stop (stop_with t (g t)) ∷ l) (all_told t ks b.1))

  -- the stops before the first fault, and that
  pub record Faulty (k : ℕ) (last : Float) (ks : List Float) : Type 0 where
    pub before : ℕ
    pub there : before < length (stops_at g ks)
    pub none_before : (i : ℕ) → i < before → get_or (faults_from last (stops_at g ks)) i 0 ≡ 0
    pub faulty : get_or (faults_from last (stops_at g ks)) before 0 ≡ k
    pub told : told_from g last ks ≡ told_stops (take before (stops_at g ks)) ++ told.Refused k ∷ []

  pub some_told : (k : ℕ) (last : Float) (ks : List Float) → fault_in g last ks ≡ suc k → Faulty (suc k) last ks
  unfolding told_from fault_in faults_from
  some_told k last [] z = absurd (omega arith)
  some_told k last (t ∷ ks) z = by (stop_refusal 1 0 last t (g t)) refl (some_told k t ks)
    where
      by : (r : ℕ) → stop_refusal 1 0 last t (g t) ≡ r → (fault_in g t ks ≡ suc k → Faulty (suc k) t ks) → Faulty (suc k) last (t ∷ ks)
      by zero e ih =
          let f = ih (rw e at z) in
          record {
            before = suc f.before;
            there = omega (arith, f.there);
            none_before = each f.before f.none_before;
            faulty = f.faulty;
            told = rw e (ap (λ (l : List Told). told.Stop (stop_with t (g t)) ∷ l) f.told);
          }
        where
          each : (n : ℕ) → ((i : ℕ) → i < n → get_or (faults_from t (stops_at g ks)) i 0 ≡ 0) → (i : ℕ) → i < suc n → get_or (faults_from last (stops_at g (t ∷ ks))) i 0 ≡ 0
          each n h zero l = e
          each n h (suc i) l = h i (omega arith)
      by (suc r) e ih =
          let y : suc r ≡ suc k = rw e at z in
          record { before = 0; there = omega arith; none_before = λ i l. absurd (omega arith); faulty = e ∙ y; told = rw (e, y) }

  -- the list's positions and channels
  pub positions_are : (ks : List Float) → positions_in (stops_at g ks) ≡ ks
  unfolding positions_in
  positions_are [] = refl
  positions_are (t ∷ ks) = ap (λ (l : List Float). t ∷ l) (positions_are ks)

  pub channels_are : (ks : List Float) → channels_in (stops_at g ks) ≡ colours_of g ks
  unfolding channels_in colours_of
  channels_are [] = refl
  channels_are (t ∷ ks) = ap (λ (l : List Float). channels_of (g t) ++ l) (channels_are ks)

pub written_front : (vs l : List Float) → length vs ≤ length l → take (length vs) (sets l 0 vs) ≡ vs
written_front vs l h = rw (sets-eq vs l 0 (omega arith)) (take_at vs (drop (0 + length vs) l) (length vs) refl)
