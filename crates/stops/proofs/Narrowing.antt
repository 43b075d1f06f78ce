-- Narrowing, turn by turn; and where the positions rise, it finds the first index whose position is t or more. Assumes nothing.
use mathlib.Core.Path.{◌≡◌, refl, sym, ◌∙◌, ap, subst}
use mathlib.Core.Bool.{Bool, true, false, not, cond, true≢false}
use mathlib.Core.List.{List}
use Prim.Native.Nat.{ℕ, zero, suc, ◌+◌, ◌-◌, ◌*◌, ◌/◌, ◌≤◌, ◌<◌}
use native.Mathlib.Nat.{mul-le-mul_left}
use native.Mathlib.Omega.{arith}
use lib.Dec.{T, ltb}
use lib.ListN.{length}
use lib.Ieee.{Float, le, lt, is_nan}
use lib.Ieee.Bits.{is_true}
use borrow.Author.Tests.{ltb-true, ltb-false, lt-ltb, le-ltb}
use Rattle.float.proofs.Order.{lt_is, le_lt_trans, lt→le}
use Rattle.stops.specs.Stops.{pos_at}
use Rattle.stops.specs.Place.{Rising, first_at, is_below, narrow, narrowed_at}
use Rattle.stops.proofs.Choice.{rising_numbers, first-is}

-- at most two thirds are passed over
pub passed_over : (third r s : ℕ) → r ≤ 1 → s ≤ 1 → third * (r + s) ≤ third * 2
passed_over third r s h k = mul-le-mul_left third (omega arith)

module _ (ps : List Float) (t : Float) where
  -- the base after a turn, and at the end
  abbrev pub turned : ℕ → ℕ → ℕ
  turned base left = base + left / 3 * (is_below ps t (base + left / 3) + is_below ps t (base + left / 3 * 2))

  abbrev pub ended : ℕ → ℕ → ℕ
  ended base left = cond (ltb 1 left) (base + is_below ps t (base + 1)) base

  -- with enough turns, how many does not matter
  enough : (n m base left : ℕ) → left ≤ n → left ≤ m → narrow n ps t base left ≡ narrow m ps t base left
  unfolding narrow
  enough zero zero base left a b = refl
  enough zero (suc m) base left a b = sym (simp (le-ltb 2 left (omega arith), le-ltb 1 left (omega arith)))
  enough (suc n) zero base left a b = simp (le-ltb 2 left (omega arith), le-ltb 1 left (omega arith))
  enough (suc n) (suc m) base left a b = both (ltb 2 left) refl (λ h. enough n m (turned base left) (left - left / 3 * 2) (omega arith) (omega arith))
    where
      both : (c : Bool) → ltb 2 left ≡ c → (2 < left → narrow n ps t (turned base left) (left - left / 3 * 2) ≡ narrow m ps t (turned base left) (left - left / 3 * 2))
          → cond c (narrow n ps t (turned base left) (left - left / 3 * 2)) (ended base left) ≡ cond c (narrow m ps t (turned base left) (left - left / 3 * 2)) (ended base left)
      both true e u = u (ltb-true 2 left e)
      both false e u = refl

  pub turn : (base left : ℕ) → 2 < left → narrow left ps t base left ≡ narrow (left - left / 3 * 2) ps t (turned base left) (left - left / 3 * 2)
  unfolding narrow
  turn base left h =
      let e : left ≡ suc (left - 1) = omega arith in
      ap (λ (n : ℕ). narrow n ps t base left) e ∙ simp (lt-ltb 2 left h) (enough (left - 1) (left - left / 3 * 2) (turned base left) (left - left / 3 * 2) (omega arith) (omega arith))

  last_turn : (base left : ℕ) → left ≤ 2 → narrow left ps t base left ≡ ended base left
  unfolding narrow
  last_turn base zero h = refl
  last_turn base (suc left) h = simp (le-ltb 2 (suc left) h)

  pub begun : (left : ℕ) → left ≡ length ps - 1 → narrow left ps t 0 left ≡ narrow (length ps) ps t 0 (length ps - 1)
  begun left e = ap (λ (n : ℕ). narrow n ps t 0 n) e ∙ enough (length ps - 1) (length ps) 0 (length ps - 1) (omega arith) (omega arith)

  -- what is returned
  module _ (base left : ℕ) (e : narrow left ps t base left ≡ narrow (length ps) ps t 0 (length ps - 1)) where
    pub ends_two : left ≤ 2 → 1 < left → {b : ℕ} → b ≡ is_below ps t (base + 1) → base + b + 1 ≡ narrowed_at t ps
    unfolding narrowed_at
    ends_two h g p = ap (λ (n : ℕ). base + n + 1) p ∙ ap (λ (n : ℕ). n + 1) (sym (simp (lt-ltb 1 left g)) ∙ sym (last_turn base left h) ∙ e)

    pub ends-one : left ≤ 1 → base + 1 ≡ narrowed_at t ps
    unfolding narrowed_at
    ends-one h = ap (λ (n : ℕ). n + 1) (sym (simp (le-ltb 1 left h)) ∙ sym (last_turn base left (omega arith)) ∙ e)

-- ---- on positions that rise: the position at the base is below t, and the one past what is left is not
pub record Bracket (ps : List Float) (t : Float) (base left : ℕ) : Type 0 where
  pub some : 1 ≤ left
  pub inside : base + left < length ps
  pub below : lt (pos_at ps base) t ≡ true
  pub above : lt (pos_at ps (base + left)) t ≡ false

module _ (ps : List Float) (t : Float) (R : Rising ps) (number : is_nan t ≡ false) where
  abbrev pub low : ℕ → Bool
  low i = lt (pos_at ps i) t

  pub moved : {i j : ℕ} {b : Bool} → i ≡ j → low i ≡ b → low j ≡ b
  moved {b = b} e h = subst (λ (k : ℕ). low k ≡ b) e h

  -- what is not below t has nothing below t after it
  pub not-below : (i j : ℕ) → i ≤ j → j < length ps → low i ≡ false → low j ≡ false
  not-below i j a b h = go (low j) refl
    where
      go : (c : Bool) → low j ≡ c → c ≡ false
      go true e = sym (is_true (low i) (le_lt_trans (pos_at ps i) (pos_at ps j) t (R i j a b) (subst T (sym e) tt))) ∙ h
      go false e = refl

  pub bracket_start : 2 ≤ length ps → le t (pos_at ps 0) ≡ false → le (pos_at ps (length ps - 1)) t ≡ false → Bracket ps t 0 (length ps - 1)
  bracket_start n first last =
      record {
        some = omega arith;
        inside = omega arith;
        below = lt_is (pos_at ps 0) t (rising_numbers ps R 0 (omega arith)) number ∙ ap not first;
        above = let e : length ps - 1 ≡ 0 + (length ps - 1) = omega arith in moved e (go (low (length ps - 1)) refl);
      }
    where
      go : (c : Bool) → low (length ps - 1) ≡ c → low (length ps - 1) ≡ false
      go true h = absurd (true≢false (sym (is_true (le (pos_at ps (length ps - 1)) t) (lt→le (pos_at ps (length ps - 1)) t (subst T (sym h) tt))) ∙ last))
      go false h = h

  bracket_turn : (base left : ℕ) → 2 < left → Bracket ps t base left → Bracket ps t (turned ps t base left) (left - left / 3 * 2)
  bracket_turn base left h B = go (low (base + left / 3)) (low (base + left / 3 * 2)) refl refl
    where
      go : (c d : Bool) → low (base + left / 3) ≡ c → low (base + left / 3 * 2) ≡ d → Bracket ps t (base + left / 3 * (cond c 1 0 + cond d 1 0)) (left - left / 3 * 2)
      go true true p q =
          let u = B.inside in
          let s : base + left ≡ base + left / 3 * 2 + (left - left / 3 * 2) = omega arith in
          record { some = omega arith; inside = omega arith; below = q; above = moved s B.above }
      go true false p q =
          let u = B.inside in
          let r : base + left / 3 ≡ base + left / 3 * 1 = omega arith in
          record { some = omega arith; inside = omega arith; below = moved r p; above = not-below (base + left / 3 * 2) (base + left / 3 * 1 + (left - left / 3 * 2)) (omega arith) (omega arith) q }
      go false true p q = let u = B.inside in absurd (true≢false (sym q ∙ not-below (base + left / 3) (base + left / 3 * 2) (omega arith) (omega arith) p))
      go false false p q =
          let u = B.inside in
          let r : base ≡ base + left / 3 * 0 = omega arith in
          record { some = omega arith; inside = omega arith; below = moved r B.below; above = not-below (base + left / 3) (base + left / 3 * 0 + (left - left / 3 * 2)) (omega arith) (omega arith) p }

  -- i is below t and i + 1 is not
  found : (i : ℕ) → i + 1 < length ps → low i ≡ true → low (i + 1) ≡ false → i + 1 ≡ first_at t ps
  found i l a b =
      sym (first-is t ps (i + 1) number (rising_numbers ps R) (omega arith) (λ k m. is_true (low k) (le_lt_trans (pos_at ps k) (pos_at ps i) t (R k i (omega arith) (omega arith)) (subst T (sym a) tt))) (λ m. b))

  pub bracket_end : (base left : ℕ) → left ≤ 2 → Bracket ps t base left → ended ps t base left + 1 ≡ first_at t ps
  bracket_end base left h B = go (ltb 1 left) (low (base + 1)) refl refl
    where
      go : (c d : Bool) → ltb 1 left ≡ c → low (base + 1) ≡ d → cond c (base + cond d 1 0) base + 1 ≡ first_at t ps
      go true true p q = let u = B.inside in let l = ltb-true 1 left p in let e : base + left ≡ base + 1 + 1 = omega arith in found (base + 1) (omega arith) q (moved e B.above)
      go true false p q = let u = B.inside in let s = B.some in let e : base ≡ base + 0 = omega arith in ap (λ (n : ℕ). n + 1) (sym e) ∙ found base (omega arith) B.below q
      go false d p q = let u = B.inside in let s = B.some in let l = ltb-false 1 left p in let e : base + left ≡ base + 1 = omega arith in found base (omega arith) B.below (moved e B.above)

  finds : (n base left : ℕ) → left ≤ n → Bracket ps t base left → narrow n ps t base left + 1 ≡ first_at t ps
  unfolding narrow
  finds zero base left a B = let s = B.some in absurd (omega arith)
  finds (suc n) base left a B = go (ltb 2 left) refl (λ h. finds n (turned ps t base left) (left - left / 3 * 2) (omega arith) (bracket_turn base left h B))
    where
      go : (c : Bool) → ltb 2 left ≡ c → (2 < left → narrow n ps t (turned ps t base left) (left - left / 3 * 2) + 1 ≡ first_at t ps) → cond c (narrow n ps t (turned ps t base left) (left - left / 3 * 2)) (ended ps t base left) + 1 ≡ first_at t ps
      go true e u = u (ltb-true 2 left e)
      go false e u = bracket_end base left (ltb-false 2 left e) B

  pub narrowed_first : 2 ≤ length ps → le t (pos_at ps 0) ≡ false → le (pos_at ps (length ps - 1)) t ≡ false → narrowed_at t ps ≡ first_at t ps
  unfolding narrowed_at
  narrowed_first n first last = finds (length ps) 0 (length ps - 1) (omega arith) (bracket_start n first last)
