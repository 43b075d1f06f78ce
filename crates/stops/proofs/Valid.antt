-- What a ramp of stops that passes the check is: its lengths agree, its numbers are finite, its positions rise. And the way back: such a ramp passes. Assumes nothing.
use mathlib.Core.Path.{◌≡◌, refl, sym, ◌∙◌, ap, subst}
use mathlib.Core.Bool.{Bool, true, false, not, cond, ◌&&◌, true≢false}
use mathlib.Core.List.{List, [], ◌∷◌}
use mathlib.Core.Logic.{◌⊎◌, inl, inr}
use Prim.Native.Nat.{ℕ, zero, suc, ◌+◌, ◌-◌, ◌≤◌, ◌<◌}
use native.Mathlib.Omega.{arith}
use lib.Dec.{T, ltb}
use lib.ListN.{length}
use lib.Ieee.{Float, nan, inf, fin, le, lt, is_nan}
use lib.Ieee.Scale.{finite}
use lib.Ieee.Bits.{is_true}
use borrow.Author.Tests.{ltb-true, ltb-false}
use Rattle.refusals.specs.Refusals.{misshapen, not_finite, falling}
use Rattle.float.proofs.Flags.{both_l, both_r}
use Rattle.float.proofs.Order.{le_refl, le_trans, le_from_not_lt, not_lt_from_le, lt_is, lt→le}
use Rattle.stops.specs.Lent.{Ramp}
use Rattle.stops.specs.Stops.{pos_at, colour_at, finite_rgba, shaped, each_stop, stops_check}
use Rattle.stops.specs.Place.{Rising, first_at, place_of}
use Rattle.stops.specs.declared.Checked.{Checked}
use Rattle.stops.specs.declared.Checked.TheVariants.{Fine, Refused}
use Rattle.stops.specs.declared.Place.TheVariants.{End, Nowhere, Between}
use Rattle.stops.proofs.Checking.{Shape, shape, from_shape, if_shaped}

no_refusal : (k : ℕ) → Refused k ≡ Fine → ⊥
no_refusal k h = let z : ◌≡◌ {A = ℕ} 0 1 = cc in omega arith

-- ---- one stop
picked : (b d : Bool) (x : Checked) → cond b (cond d (Refused falling) x) (Refused not_finite) ≡ Fine → (b ≡ true) × (d ≡ false) × (x ≡ Fine)
picked true true x h = absurd (no_refusal 3 h)
picked true false x h = (refl, refl, h)
picked false d x h = absurd (no_refusal 2 h)

head : (n i : ℕ) (prev : Float) (ps cs : List Float) → each_stop (suc n) i prev ps cs ≡ Fine
    → ((finite (pos_at ps i) && finite_rgba (colour_at cs i)) ≡ true) × (lt (pos_at ps i) prev ≡ false) × (each_stop n (suc i) (pos_at ps i) ps cs ≡ Fine)
unfolding each_stop
head n i prev ps cs h = picked (finite (pos_at ps i) && finite_rgba (colour_at cs i)) (lt (pos_at ps i) prev) (each_stop n (suc i) (pos_at ps i) ps cs) h

-- ---- every stop
either : (i j : ℕ) → i ≤ j → (i ≡ j) ⊎ (suc i ≤ j)
either i j h = go (ltb i j) refl
  where
    go : (b : Bool) → ltb i j ≡ b → (i ≡ j) ⊎ (suc i ≤ j)
    go true e = let k = ltb-true i j e in inr (omega arith)
    go false e = let k = ltb-false i j e in inl (omega arith)

each : (n i : ℕ) (prev : Float) (ps cs : List Float) → each_stop n i prev ps cs ≡ Fine → (j : ℕ) → i ≤ j → j < i + n → (finite (pos_at ps j) && finite_rgba (colour_at cs j)) ≡ true
each zero i prev ps cs h j a b = absurd (omega arith)
each (suc n) i prev ps cs h j a b =
    elim (either i j a) [
      | inl e ↦ subst (λ (k : ℕ). (finite (pos_at ps k) && finite_rgba (colour_at cs k)) ≡ true) e (head n i prev ps cs h).0
      | inr l ↦ each n (suc i) (pos_at ps i) ps cs (head n i prev ps cs h).2 j l (omega arith)
    ]

after : (n i : ℕ) (prev : Float) (ps cs : List Float) → each_stop n i prev ps cs ≡ Fine → (j : ℕ) → i ≤ j → suc j < i + n → lt (pos_at ps (suc j)) (pos_at ps j) ≡ false
after zero i prev ps cs h j a b = absurd (omega arith)
after (suc zero) i prev ps cs h j a b = absurd (omega arith)
after (suc (suc n)) i prev ps cs h j a b =
    let t = (head (suc n) i prev ps cs h).2 in
    elim (either i j a) [
      | inl e ↦ subst (λ (k : ℕ). lt (pos_at ps (suc k)) (pos_at ps k) ≡ false) e (head n (suc i) (pos_at ps i) ps cs t).1
      | inr l ↦ after (suc n) (suc i) (pos_at ps i) ps cs t j l (omega arith)
    ]

pub finite_number : (x : Float) → finite x ≡ true → is_nan x ≡ false
unfolding is_nan
finite_number nan h = absurd (true≢false (sym h))
finite_number (inf s) h = refl
finite_number (fin s m e) h = refl

-- ---- a ramp that passes
pub record Valid (ramp : Ramp) : Type 0 where
  pub sized : Shape ramp.kind (length ramp.positions) (length ramp.channels) (length ramp.codes)
  pub finite_at : (i : ℕ) → i < length ramp.positions → finite (pos_at ramp.positions i) ≡ true
  pub colour_finite : (i : ℕ) → i < length ramp.positions → finite_rgba (colour_at ramp.channels i) ≡ true
  pub rising : Rising ramp.positions

split_check : (b : Bool) (x : Checked) → cond b x (Refused misshapen) ≡ Fine → (b ≡ true) × (x ≡ Fine)
split_check true x h = (refl, h)
split_check false x h = absurd (no_refusal 1 h)

module _ (ps : List Float) (number : (i : ℕ) → i < length ps → is_nan (pos_at ps i) ≡ false) (next : (j : ℕ) → suc j < length ps → lt (pos_at ps (suc j)) (pos_at ps j) ≡ false) where
  far : (d i : ℕ) → i + d < length ps → T (le (pos_at ps i) (pos_at ps (i + d)))
  far zero i h = let e : i + 0 ≡ i = omega arith in subst (λ (k : ℕ). T (le (pos_at ps i) (pos_at ps k))) (sym e) (le_refl (pos_at ps i) (number i (omega arith)))
  far (suc d) i h =
      let e : suc (i + d) ≡ i + suc d = omega arith in
      subst (λ (k : ℕ). T (le (pos_at ps i) (pos_at ps k))) e
      (le_trans (pos_at ps i) (pos_at ps (i + d)) (pos_at ps (suc (i + d))) (far d i (omega arith))
      (le_from_not_lt (pos_at ps (suc (i + d))) (pos_at ps (i + d)) (number (suc (i + d)) (omega arith)) (number (i + d) (omega arith)) (next (i + d) (omega arith))))

  -- positions of which none is below the one before
  pub rises : Rising ps
  rises i j a b = let e : i + (j - i) ≡ j = omega arith in subst (λ (k : ℕ). T (le (pos_at ps i) (pos_at ps k))) e (far (j - i) i (omega arith))

pub valid_stops : (ramp : Ramp) → stops_check ramp ≡ Fine → Valid ramp
unfolding stops_check
valid_stops ramp h =
    let ps = ramp.positions in
    let cs = ramp.channels in
    let p = split_check (shaped ramp.kind (length ps) (length cs) (length ramp.codes)) (each_stop (length ps) 0 (inf true) ps cs) h in
    let both : (i : ℕ) → i < length ps → (finite (pos_at ps i) && finite_rgba (colour_at cs i)) ≡ true = λ i l. each (length ps) 0 (inf true) ps cs p.1 i (omega arith) (omega arith) in
    let fin_at : (i : ℕ) → i < length ps → finite (pos_at ps i) ≡ true = λ i l. both_l (finite (pos_at ps i)) (finite_rgba (colour_at cs i)) (both i l) in
    record {
      sized = shape ramp.kind (length ps) (length cs) (length ramp.codes) p.0;
      finite_at = fin_at;
      colour_finite = λ i l. both_r (finite (pos_at ps i)) (finite_rgba (colour_at cs i)) (both i l);
      rising = rises ps (λ i l. finite_number (pos_at ps i) (fin_at i l)) (λ j l. after (length ps) 0 (inf true) ps cs p.1 j (omega arith) (omega arith));
    }

-- ---- and back: a valid ramp passes
not_below_first : (x : Float) → lt x (inf true) ≡ false
unfolding lt
not_below_first nan = refl
not_below_first (inf true) = refl
not_below_first (inf false) = refl
not_below_first (fin s m e) = refl

each_fine : (n i : ℕ) (prev : Float) (ps cs : List Float)
    → ((j : ℕ) → i ≤ j → j < i + n → (finite (pos_at ps j) && finite_rgba (colour_at cs j)) ≡ true)
    → (0 < n → lt (pos_at ps i) prev ≡ false)
    → ((j : ℕ) → i ≤ j → suc j < i + n → lt (pos_at ps (suc j)) (pos_at ps j) ≡ false)
    → each_stop n i prev ps cs ≡ Fine
unfolding each_stop
each_fine zero i prev ps cs whole from next = refl
each_fine (suc n) i prev ps cs whole from next =
    simp (whole i (omega arith) (omega arith), from (omega arith))
    (each_fine n (suc i) (pos_at ps i) ps cs (λ j a b. whole j (omega arith) (omega arith)) (λ l. next i (omega arith) (omega arith)) (λ j a b. next j (omega arith) (omega arith)))

both : {p q : Bool} → p ≡ true → q ≡ true → (p && q) ≡ true
both p q = simp (p, q)

pub passes_stops : (ramp : Ramp) → Valid ramp → stops_check ramp ≡ Fine
passes_stops ramp ok =
    let ps = ramp.positions in
    let cs = ramp.channels in
    if_shaped ramp (from_shape ramp.kind (length ps) (length cs) (length ramp.codes) ok.sized)
    ∙ each_fine (length ps) 0 (inf true) ps cs
    (λ j a b. both (ok.finite_at j (omega arith)) (ok.colour_finite j (omega arith)))
    (λ l. not_below_first (pos_at ps 0))
    (λ j a b. not_lt_from_le (pos_at ps (suc j)) (pos_at ps j) (ok.rising j (suc j) (omega arith) (omega arith)))

-- ---- where a place lies
pub first_le : (t : Float) (ps : List Float) (j : ℕ) → j < length ps → le t (pos_at ps j) ≡ true → first_at t ps ≤ j
unfolding first_at
first_le t [] j l h = absurd (omega arith)
first_le t (p ∷ ps) zero l h = simp h (omega arith)
first_le t (p ∷ ps) (suc j) l h = go (le t p) (first_le t ps j (omega arith) h)
  where
    go : (b : Bool) → first_at t ps ≤ j → cond b zero (suc (first_at t ps)) ≤ suc j
    go true k = omega arith
    go false k = omega arith

pub first_pos : (t : Float) (ps : List Float) → 1 ≤ length ps → le t (pos_at ps 0) ≡ false → 1 ≤ first_at t ps
unfolding first_at
first_pos t [] l h = absurd (omega arith)
first_pos t (p ∷ ps) l h = simp h (omega arith)

-- t < x where neither is a NaN and x ≤ t is false
lt_of : (t x : Float) → is_nan t ≡ false → is_nan x ≡ false → le x t ≡ false → le t x ≡ true
lt_of t x p q h = is_true (le t x) (lt→le t x (subst T (sym (lt_is t x p q ∙ ap not h)) tt))

-- of two or more positions, none of them not-a-number
module _ (ps : List Float) (two : 2 ≤ length ps) (numbers : (i : ℕ) → i < length ps → is_nan (pos_at ps i) ≡ false) (t : Float) where
  between_cases : (k : ℕ) (a b n : Bool) → le t (pos_at ps 0) ≡ a → le (pos_at ps (length ps - 1)) t ≡ b → is_nan t ≡ n
      → cond a (End 0) (cond b (End (length ps - 1)) (cond n Nowhere (Between (first_at t ps)))) ≡ Between k → (1 ≤ k) × (k < length ps)
  between_cases k true b n A B N h = let z : ◌≡◌ {A = ℕ} 0 1 = cc in absurd (omega arith)
  between_cases k false true n A B N h = let z : ◌≡◌ {A = ℕ} 0 1 = cc in absurd (omega arith)
  between_cases k false false true A B N h = let z : ◌≡◌ {A = ℕ} 0 1 = cc in absurd (omega arith)
  between_cases k false false false A B N h =
      let e : first_at t ps ≡ k = cc in
      let last = length ps - 1 in
      let p : 1 ≤ first_at t ps = first_pos t ps (omega arith) A in
      let q : first_at t ps ≤ last = first_le t ps last (omega arith) (lt_of t (pos_at ps last) N (numbers last (omega arith)) B) in
      (omega arith, omega arith)

  pub pair_inside : (k : ℕ) → place_of ps t ≡ Between k → (1 ≤ k) × (k < length ps)
  unfolding place_of
  pair_inside k h = between_cases k (le t (pos_at ps 0)) (le (pos_at ps (length ps - 1)) t) (is_nan t) refl refl refl h
