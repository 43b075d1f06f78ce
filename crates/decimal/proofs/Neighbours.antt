-- A fraction n / p lies between two numbers that are next to each other, w * 2 ^ k and (w + 1) * 2 ^ k, and q is the nearer of w and w + 1, at a tie the even one.
-- Then no number of units that an f32 can be is nearer than q * 2 ^ k (`nearer`); and another that is as near is v * 2 ^ k with v odd (`tie`). Assumes nothing.
use mathlib.Core.Path.{◌≡◌, sym, ap, ◌∙◌, subst}
use mathlib.Core.Logic.{◌⊎◌, inl, inr}
use Prim.Native.Nat.{ℕ, ◌+◌, ◌-◌, ◌*◌, ◌%◌, ◌^◌, ◌≤◌, ◌<◌}
use native.Mathlib.Nat.{le_trans, le_of_eq, le_of_lt, lt_of_not-le, mul_assoc, mul_comm, mul-le-mul_right, eq_of_mul-eq-mul_right}
use native.Mathlib.Decide.{dec_le}
use native.Mathlib.Omega.{arith}
use Rattle.float.proofs.Units.{Shape, Full, next}

-- ---- how far apart, over plain numbers: n is rest past low, and low + u is the next

abbrev pub apart : ℕ → ℕ → ℕ
apart a n = a - n + (n - a)

module _ (low rest u n y w : ℕ) (n_is : n ≡ low + rest) (less : rest < u) (out : (y ≤ low) ⊎ (low + u ≤ y)) where
  low_least : rest * 2 + w % 2 ≤ u → apart low n ≤ apart y n
  low_least h = elim out [ inl l ↦ omega arith | inr l ↦ omega arith ]

  high_least : u < rest * 2 + w % 2 → apart (low + u) n ≤ apart y n
  high_least h = elim out [ inl l ↦ omega arith | inr l ↦ omega arith ]

  -- another is as near only where n is half-way: then it is the other of the two
  low_tie : rest * 2 + w % 2 ≤ u → apart y n ≡ apart low n → (y ≡ low → ⊥) → (w % 2 ≡ 0) × (y ≡ low + u)
  low_tie h e f = elim out [ inl l ↦ absurd (f (omega arith)) | inr l ↦ (omega arith, omega arith) ]

  high_tie : u < rest * 2 + w % 2 → apart y n ≡ apart (low + u) n → (y ≡ low + u → ⊥) → ((w + 1) % 2 ≡ 0) × (y ≡ low)
  high_tie h e f = elim out [ inl l ↦ (omega arith, omega arith) | inr l ↦ absurd (f (omega arith)) ]

-- ---- n / p lies from w * 2 ^ k on and before (w + 1) * 2 ^ k, and q is the nearer of w and w + 1

pub record Between (n p q k : ℕ) : Type 0 where
  pub w : ℕ
  pub rest : ℕ
  pub long : n ≡ w * (p * 2 ^ k) + rest
  pub less : rest < p * 2 ^ k
  pub full : Full w k
  pub few : w < 2 ^ 24
  pub picks : ((q ≡ w) × (rest * 2 + w % 2 ≤ p * 2 ^ k)) ⊎ ((q ≡ w + 1) × (p * 2 ^ k < rest * 2 + w % 2))

-- v is odd, and an f32 can be v * 2 ^ k units
pub record Odd (v k : ℕ) : Type 0 where
  pub is : v % 2 ≡ 1
  pub full : Full v k
  pub few : v ≤ 2 ^ 24

pub full_next : {w k : ℕ} → Full w k → Full (w + 1) k
full_next (inl e) = inl e
full_next {w} (inr l) = inr (omega arith)

pub few_next : (w : ℕ) → w < 2 ^ 24 → w + 1 ≤ 2 ^ 24
few_next w h = omega arith

-- in units of 1 / p
scale : (v p k : ℕ) → v * 2 ^ k * p ≡ v * (p * 2 ^ k)
scale v p k = mul_assoc v (2 ^ k) p ∙ ap (λ (x : ℕ). v * x) (mul_comm (2 ^ k) p)

more : (w u : ℕ) → (w + 1) * u ≡ w * u + u
more w u = omega arith

module _ (n p q k c : ℕ) (P : 0 < p) (b : Between n p q k) (s : Shape c) where
  abbrev w : ℕ
  w = b.w

  abbrev u : ℕ
  u = p * 2 ^ k

  out : (c * p ≤ w * u) ⊎ (w * u + u ≤ c * p)
  out = go (dec_le c (w * 2 ^ k))
    where
      go : Dec (c ≤ w * 2 ^ k) → (c * p ≤ w * u) ⊎ (w * u + u ≤ c * p)
      go (yes l) = inl (le_trans (mul-le-mul_right p l) (le_of_eq (scale w p k)))
      go (no f) = inr (le_trans (le_of_eq (sym (scale (w + 1) p k ∙ more w u))) (mul-le-mul_right p (next w k c b.full s (lt_of_not-le f))))

  is_low : q ≡ w → q * 2 ^ k * p ≡ w * u
  is_low e = ap (λ (x : ℕ). x * 2 ^ k * p) e ∙ scale w p k

  is_high : q ≡ w + 1 → q * 2 ^ k * p ≡ w * u + u
  is_high e = ap (λ (x : ℕ). x * 2 ^ k * p) e ∙ scale (w + 1) p k ∙ more w u

  pub nearer : apart (q * 2 ^ k * p) n ≤ apart (c * p) n
  nearer =
      elim b.picks [
        | inl h ↦ subst (λ (x : ℕ). apart x n ≤ apart (c * p) n) (sym (is_low h.0)) (low_least (w * u) b.rest u n (c * p) w b.long b.less out h.1)
        | inr h ↦ subst (λ (x : ℕ). apart x n ≤ apart (c * p) n) (sym (is_high h.0)) (high_least (w * u) b.rest u n (c * p) w b.long b.less out h.1)
      ]

  -- c is v * 2 ^ k where c * p is v * (p * 2 ^ k)
  unscale : (v : ℕ) → c * p ≡ v * u → c ≡ v * 2 ^ k
  unscale v e = eq_of_mul-eq-mul_right p P c (v * 2 ^ k) (e ∙ sym (scale v p k))

  -- another as near: q is even, and the other is odd
  pub tie : apart (c * p) n ≡ apart (q * 2 ^ k * p) n → (c ≡ q * 2 ^ k → ⊥) → (q % 2 ≡ 0) × (v : ℕ) × (c ≡ v * 2 ^ k) × Odd v k
  tie e f = elim b.picks [ inl h ↦ low h | inr h ↦ high h ]
    where
      low : (q ≡ w) × (b.rest * 2 + w % 2 ≤ u) → (q % 2 ≡ 0) × (v : ℕ) × (c ≡ v * 2 ^ k) × Odd v k
      low h =
          let t = low_tie (w * u) b.rest u n (c * p) w b.long b.less out h.1 (e ∙ ap (λ (x : ℕ). apart x n) (is_low h.0))
          (λ (g : c * p ≡ w * u). f (unscale w g ∙ ap (λ (x : ℕ). x * 2 ^ k) (sym h.0))) in
          (ap (λ (x : ℕ). x % 2) h.0 ∙ t.0, w + 1, unscale (w + 1) (t.1 ∙ sym (more w u)), record { is = up_odd w t.0; full = full_next b.full; few = few_next w b.few })
        where
          up_odd : (x : ℕ) → x % 2 ≡ 0 → (x + 1) % 2 ≡ 1
          up_odd x h = omega arith

      high : (q ≡ w + 1) × (u < b.rest * 2 + w % 2) → (q % 2 ≡ 0) × (v : ℕ) × (c ≡ v * 2 ^ k) × Odd v k
      high h =
          let t = high_tie (w * u) b.rest u n (c * p) w b.long b.less out h.1 (e ∙ ap (λ (x : ℕ). apart x n) (is_high h.0))
          (λ (g : c * p ≡ w * u + u). f (unscale (w + 1) (g ∙ sym (more w u)) ∙ ap (λ (x : ℕ). x * 2 ^ k) (sym h.0))) in
          (ap (λ (x : ℕ). x % 2) h.0 ∙ t.0, w, unscale w t.1, record { is = down_odd w t.0; full = b.full; few = le_of_lt b.few })
        where
          down_odd : (x : ℕ) → (x + 1) % 2 ≡ 0 → x % 2 ≡ 1
          down_odd x h = omega arith
