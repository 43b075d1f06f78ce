-- The multiples of v = 2 ^ e units of 2 ^ -149 up to some 1e38 are f32, and so are their doubles; large f32 are such multiples. Assumes nothing.
use mathlib.Core.Path.{◌≡◌, refl, sym, ap, ◌∙◌, subst}
use mathlib.Core.Bool.{Bool, true, false}
use mathlib.Core.Logic.{◌⊎◌, inl, inr}
use Prim.Native.Nat.{ℕ, suc, ◌+◌, ◌-◌, ◌*◌, ◌^◌, ◌≤◌, ◌<◌, ◌/◌}
use native.Mathlib.Nat.{le_of_eq, le_trans as le_trans_ℕ, lt_of_lt_of_le, lt_of_not-le, mul_assoc, pow-suc, le_of_mul-le-mul_right, mul-le-mul_right, le-div_iff_mul-le, div-lt_iff_lt-mul}
use native.Mathlib.Decide.{dec_le}
use native.Mathlib.Omega.{arith}
use lib.Pow.{pow_pos, pow-add, shl_lt}
use lib.Ieee.{Float, binary32, size, round}
use lib.Ieee.Digits.{size-lt, size-le}
use Rattle.float.proofs.Units.{Shape, pow_under}
use Rattle.float.proofs.SignedRound.{plus, minus}
use Rattle.float.proofs.UnitSums.{Counted, held}

-- ---- points of the grid: j steps of v = 2 ^ e from -2 ^ 24 v
pub record Point (e j : ℕ) : Type 0 where
  pub y : Float
  pub p : ℕ
  pub n : ℕ
  pub is : Counted y p n
  pub place : p + 16777216 * 2 ^ e ≡ j * 2 ^ e + n
  pub w : Float
  pub twice : Counted w (2 * p) (2 * n)

few : (x q : ℕ) → x ≤ 9861785 * q → 0 < q → 2 * x < 33554432 * q
few x q h Q = omega arith

fewer : (x y : ℕ) → 2 * x < y → x < y
fewer x y h = omega arith

module _ (e m : ℕ) (small : m < 2 ^ 24) (near : m * 2 ^ e ≤ 9861785 * 2 ^ 252) where
  doubled : 2 * (m * 2 ^ e) < 2 ^ 277
  doubled = few (m * 2 ^ e) (2 ^ 252) near (pow_pos 252)

  next_power : m * 2 ^ suc e ≡ 2 * (m * 2 ^ e)
  next_power = rw pow-suc (omega arith)

  once : (s : Bool) → Counted (round binary32 s (m * 2 ^ e) (2 ^ 149)) (plus s (m * 2 ^ e)) (minus s (m * 2 ^ e))
  once s = held s m e small (fewer (m * 2 ^ e) (2 ^ 277) doubled)

  more : (s : Bool) → Counted (round binary32 s (m * 2 ^ suc e) (2 ^ 149)) (plus s (2 * (m * 2 ^ e))) (minus s (2 * (m * 2 ^ e)))
  more s =
      subst (λ (x : ℕ). Counted (round binary32 s (m * 2 ^ suc e) (2 ^ 149)) (plus s x) (minus s x)) next_power
      (held s m (suc e) small (subst (λ (x : ℕ). x < 2 ^ 277) (sym next_power) doubled))

right_of : (j v r : ℕ) → 16777216 ≤ j → j * v ≤ 16777216 * v + r → (j - 16777216) * v ≤ r
right_of j v r l h = let e : j ≡ j - 16777216 + 16777216 = omega arith in let k : (j - 16777216 + 16777216) * v ≤ 16777216 * v + r = subst (λ (x : ℕ). x * v ≤ 16777216 * v + r) e h in omega arith

left_of : (j v r : ℕ) → j ≤ 16777216 → 16777216 * v ≤ j * v + r → (16777216 - j) * v ≤ r
left_of j v r l h = let e : 16777216 - j + j ≡ 16777216 = omega arith in let k : (16777216 - j + j) * v ≡ 16777216 * v = ap (λ (x : ℕ). x * v) e in omega arith

right_place : (j v : ℕ) → 16777216 ≤ j → (j - 16777216) * v + 16777216 * v ≡ j * v + 0
right_place j v l = let e : j - 16777216 + 16777216 ≡ j = omega arith in let k : (j - 16777216 + 16777216) * v ≡ j * v = ap (λ (x : ℕ). x * v) e in omega arith

left_place : (j v : ℕ) → j ≤ 16777216 → 0 + 16777216 * v ≡ j * v + (16777216 - j) * v
left_place j v l = let e : 16777216 - j + j ≡ 16777216 = omega arith in let k : (16777216 - j + j) * v ≡ 16777216 * v = ap (λ (x : ℕ). x * v) e in omega arith

pub point : (e j : ℕ) → 0 < j → j < 33554432 → j * 2 ^ e ≤ 16777216 * 2 ^ e + 9861785 * 2 ^ 252 → 16777216 * 2 ^ e ≤ j * 2 ^ e + 9861785 * 2 ^ 252 → Point e j
point e j a b c d = go (dec_le 16777216 j)
  where
    go : Dec (16777216 ≤ j) → Point e j
    go (yes l) =
        let m = j - 16777216 in
        let near = right_of j (2 ^ e) (9861785 * 2 ^ 252) l c in
        let small : m < 2 ^ 24 = omega arith in
        record { y = _; p = m * 2 ^ e; n = 0; is = once e m small near false; place = right_place j (2 ^ e) l; w = _; twice = more e m small near false }
    go (no f) =
        let l : j < 16777216 = lt_of_not-le f in
        let m = 16777216 - j in
        let near = left_of j (2 ^ e) (9861785 * 2 ^ 252) (below j l) d in
        let small : m < 2 ^ 24 = omega arith in
        record { y = _; p = 0; n = m * 2 ^ e; is = once e m small near true; place = left_place j (2 ^ e) (below j l); w = _; twice = more e m small near true }
      where
        below : (j : ℕ) → j < 16777216 → j ≤ 16777216
        below j l = omega arith

-- ---- whole parts
pub div_below : (x v : ℕ) → 0 < v → x / v * v ≤ x
div_below x v h = (le-div_iff_mul-le h).0 (le_of_eq refl)

pub div_above : (x v : ℕ) → 0 < v → x < suc (x / v) * v
div_above x v h = (div-lt_iff_lt-mul {k = v} h).0 (next (x / v))
  where
    next : (n : ℕ) → n < suc n
    next n = omega arith

-- ---- how many digits
pub window : (d : ℕ) → 2 ^ 23 ≤ d → (k : ℕ) × (2 ^ 23 * 2 ^ k ≤ d) × (d < 2 ^ 24 * 2 ^ k)
window d h =
    let z = size d in
    let long : 23 < z = pow_under 23 z d h (size-lt d) in
    let k = z - 24 in
    let e : 24 + k ≡ z = omega arith in
    let high : d < 2 ^ 24 * 2 ^ k = lt_of_lt_of_le (size-lt d) (le_of_eq (ap (λ (x : ℕ). 2 ^ x) (sym e) ∙ pow-add 2 24 k)) in
    (k, go k e (dec_le (2 ^ 23 * 2 ^ k) d), high)
  where
    go : (k : ℕ) → 24 + k ≡ size d → Dec (2 ^ 23 * 2 ^ k ≤ d) → 2 ^ 23 * 2 ^ k ≤ d
    go k e (yes l) = l
    go k e (no f) = let s : size d ≤ 23 + k = size-le d (23 + k) (lt_of_lt_of_le (lt_of_not-le f) (le_of_eq (sym (pow-add 2 23 k)))) in absurd (omega arith)

-- an f32 of 2 ^ 23 times 2 ^ k units or more is a multiple of that
grid : (k c : ℕ) → Shape c → (c ≡ 0) ⊎ (2 ^ 23 * 2 ^ k ≤ c) → (t : ℕ) × (c ≡ t * 2 ^ k)
grid k c s (inl z) = (0, z ∙ sym (none (2 ^ k)))
  where
    none : (x : ℕ) → 0 * x ≡ 0
    none x = omega arith
grid k c s (inr h) =
    let m = s.m in
    let g = s.g in
    let b : 23 + k < 24 + g = pow_under (23 + k) (24 + g) (m * 2 ^ g) (le_trans_ℕ (le_of_eq (pow-add 2 23 k)) (le_trans_ℕ h (le_of_eq s.is))) (shl_lt 24 g s.small) in
    let e : g - k + k ≡ g = omega arith in
    (m * 2 ^ (g - k), s.is ∙ ap (λ (x : ℕ). m * x) (ap (λ (x : ℕ). 2 ^ x) (sym e) ∙ pow-add 2 (g - k) k) ∙ sym (mul_assoc m (2 ^ (g - k)) (2 ^ k)))

-- where max is far off, the numbers of units of both ends are none, or large
pub record Large (v x : ℕ) : Type 0 where
  pub is : (x ≡ 0) ⊎ (4194304 * v ≤ x)

pub far_off : (ph nh pl nl d v : ℕ) → 0 < v → (ph ≡ 0) ⊎ (nh ≡ 0) → (pl ≡ 0) ⊎ (nl ≡ 0) → pl + nh + d ≡ ph + nl → d < 8388608 * v → (16776900 * v < ph) ⊎ (16776900 * v < nh)
    → Large v ph × Large v nh × Large v pl × Large v nl
far_off ph nh pl nl d v P (inl a) b e l (inl h) = absurd (omega arith)
far_off ph nh pl nl d v P (inr a) (inl b) e l (inl h) = absurd (omega arith)
far_off ph nh pl nl d v P (inr a) (inr b) e l (inl h) = (record { is = inr (omega arith) }, record { is = inl a }, record { is = inr (omega arith) }, record { is = inl b })
far_off ph nh pl nl d v P (inr a) b e l (inr h) = absurd (omega arith)
far_off ph nh pl nl d v P (inl a) (inr b) e l (inr h) = absurd (omega arith)
far_off ph nh pl nl d v P (inl a) (inl b) e l (inr h) = (record { is = inl a }, record { is = inr (omega arith) }, record { is = inl b }, record { is = inr (omega arith) })

pub large_grid : (k x : ℕ) → Shape x → Large (2 * 2 ^ k) x → (t : ℕ) × (x ≡ t * 2 ^ k)
large_grid k x s h = grid k x s (by h.is)
  where
    by : (x ≡ 0) ⊎ (4194304 * (2 * 2 ^ k) ≤ x) → (x ≡ 0) ⊎ (2 ^ 23 * 2 ^ k ≤ x)
    by (inl z) = inl z
    by (inr l) = inr (same (2 ^ k) l)
      where
        same : (u : ℕ) → 4194304 * (2 * u) ≤ x → 8388608 * u ≤ x
        same u l = omega arith

pub multiple : (ph nh pl nl d u : ℕ) → 0 < u → pl + nh + d ≡ ph + nl → (t : ℕ) × (ph ≡ t * u) → (t : ℕ) × (nh ≡ t * u) → (t : ℕ) × (pl ≡ t * u) → (t : ℕ) × (nl ≡ t * u) → (t : ℕ) × (d ≡ t * u)
multiple ph nh pl nl d u U e a b c f =
    let i = c.0 + b.0 in
    let j = a.0 + f.0 in
    let ei : i * u ≡ pl + nh = omega (arith, c.1, b.1) in
    let ej : j * u ≡ ph + nl = omega (arith, a.1, f.1) in
    let l : i ≤ j = le_of_mul-le-mul_right {k = u} (omega arith) U in
    let k : (j - i + i) * u ≡ j * u = ap (λ (x : ℕ). x * u) (back i j l) in
    (j - i, omega arith)
  where
    back : (i j : ℕ) → i ≤ j → j - i + i ≡ j
    back i j l = omega arith

-- ---- with x, of p - n units and 2 ^ 24 v, from h v to below (h + 1) v, the points from h - 254 to h + 2 are not too large
pub room_right : (i h v x p n q : ℕ) → i ≤ h + 2 → h * v ≤ x → x + n ≡ p + 16777216 * v → p ≤ 9860761 * q → v ≤ 4 * q → i * v ≤ 16777216 * v + 9861785 * q
room_right i h v x p n q l a b c d = let m : i * v ≤ (h + 2) * v = mul-le-mul_right v l in omega arith

pub room_left : (i h v x p n q : ℕ) → h + 2 ≤ i + 256 → x < suc h * v → x + n ≡ p + 16777216 * v → n ≤ 9860761 * q → v ≤ 4 * q → 16777216 * v ≤ i * v + 9861785 * q
room_left i h v x p n q l a b c d = let m : (h + 2) * v ≤ (i + 256) * v = mul-le-mul_right v l in omega arith
