-- `root_of x` is the f32 nearest to the root of x, for every finite x with the sign clear (`root_of_is_root`): the significand has 24 digits, and no f32 lies between it and the next. Assumes nothing.
use mathlib.Core.Path.{◌≡◌, refl, sym, ap, ◌∙◌, subst}
use mathlib.Core.Logic.{inr}
use Prim.Native.Nat.{ℕ, zero, suc, ◌+◌, ◌-◌, ◌*◌, ◌^◌, ◌≤◌, ◌<◌}
use native.Mathlib.Nat.{le_trans, le_of_eq, le_of_lt, lt_of_lt_of_le, lt_of_le_of_lt, lt_of_not-le, not-le_of_lt, mul_assoc, mul-le-mul_right, mul-lt-mul_of_pos_right, mul-pos, mul_right_comm, mul-mul-mul_comm}
use native.Mathlib.Decide.{dec_le}
use native.Mathlib.Omega.{arith}
use mathlib.Core.Bool.{true, false}
use lib.Dec.{T, lit≤}
use lib.IntN.{ℤ}
use lib.Pow.{pow_pos, pow_mono, pow-add, shl_lt}
use lib.Ieee.{Float, nan, inf, fin, up, down, binary32, units, fits}
use lib.Ieee.Fits.{odd-fits}
use lib.Ieee.Exact.{HasValue, units_val}
use Rattle.float.specs.Units.{count, plain}
use Rattle.float.proofs.Units.{Shape, parts, pow_under, zero_units, factor, some_units, few_units, count_of, counted, plain_of, shape, next}
use Rattle.sqrt.specs.Root.{nearest_root, root_of}
use Rattle.sqrt.specs.Nearest.{IsRoot}
use Rattle.wholeroot.specs.WholeRoot.{nearest_whole}
use Rattle.wholeroot.proofs.Whole.{sq_mono}
use Rattle.wholeroot.proofs.Near.{Near, order, whole_near}
use Rattle.sqrt.proofs.Cut.{nearest_root_at, four_pow}
use Rattle.sqrt.proofs.Shift.{zeros, scaled, moved, scaled_low, scaled_high, regroup, dropped}
use Rattle.sqrt.proofs.Values.{units_is}

-- ---- the root of m * 2 ^ g units is q * 2 ^ k units, with q nearest to the root of n

pub record Rooted (a : ℕ) (r : Float) : Type 0 where
  pub n : ℕ
  pub q : ℕ
  pub k : ℕ
  pub four : a * 2 ^ 149 ≡ n * 4 ^ k
  pub least : 2 ^ 46 ≤ n
  pub near : Near n q
  pub low : 2 ^ 23 ≤ q
  pub high : q < 2 ^ 24
  pub room : q * 2 ^ k < 2 ^ 277
  pub is : r ≡ units binary32 false q k

rooted : (m g : ℕ) → 0 < m → m < 2 ^ 24 → m * 2 ^ g < 2 ^ 277 → Rooted (m * 2 ^ g) (nearest_root (m * 2 ^ g * 2 ^ 149))
rooted m g p h l =
    let f = g + 1 in
    let z = zeros m in
    let c = f + 127 - z in
    let few : z ≤ 23 = (moved m p h).few in
    let low' : 2 ^ 23 ≤ m * 2 ^ z = (moved m p h).low in
    let n = scaled m c in
    let k = dropped m f in
    let lo : 2 ^ 46 ≤ n = scaled_low m c p h in
    let hi : n ≤ (2 ^ 24 - 1) * 2 ^ 24 = scaled_high m c p h in
    let pos_n : 0 < n = omega arith in
    let n_lt : n < 2 ^ 48 = omega arith in
    let q = nearest_whole n in
    let near : Near n q = whole_near n pos_n in
    let q_hi : q ≤ 2 ^ 24 - 1 = order n (2 ^ 24 - 1) q (omega arith) near.0 in
    let q_lo : 2 ^ 23 ≤ q = order n q (2 ^ 23) near.1 (omega arith) in
    let q_lt : q < 2 ^ 24 = omega arith in
    let ef : f - 1 ≡ g = omega arith in
    let e : m * 2 ^ g * 2 ^ 149 ≡ n * 4 ^ k = ap (λ (x : ℕ). m * 2 ^ x * 2 ^ 149) (sym ef) ∙ regroup m f p h (omega arith) in
    let up23 : 23 + g < 277 + z = pow_under (23 + g) (277 + z) (m * 2 ^ z * 2 ^ g)
    (le_trans (le_of_eq (pow-add 2 23 g)) (mul-le-mul_right (2 ^ g) low'))
    (lt_of_le_of_lt (le_of_eq (mul_right_comm m (2 ^ z) (2 ^ g))) (shl_lt 277 z l)) in
    let k_lt : k < 200 = omega arith in
    record {
      n = n;
      q = q;
      k = k;
      four = e;
      least = lo;
      near = near;
      low = q_lo;
      high = q_lt;
      room = lt_of_lt_of_le (shl_lt 24 k q_lt) (pow_mono {i = 24 + k} {j = 277} (omega arith));
      is = ap nearest_root e ∙ nearest_root_at n k q lo n_lt near;
    }

-- of every f32 above zero
pub rooted_of : (m : ℕ) (e : ℤ) → T (fits binary32 (fin false (suc m) e)) → Rooted (count (fin false (suc m) e)) (nearest_root (count (fin false (suc m) e) * 2 ^ 149))
rooted_of m e t =
    let x = fin false (suc m) e in
    let z = counted x t tt in
    let s = shape z in
    let some : 0 < s.m = factor s.m (2 ^ s.g) (subst (λ (c : ℕ). 0 < c) s.is (some_units false m e z.is)) in
    let room : s.m * 2 ^ s.g < 2 ^ 277 = subst (λ (c : ℕ). c < 2 ^ 277) s.is (few_units (suc m * up e) (down e) (count x) 128 z.is.1 (parts false m e t).2) in
    subst (λ (c : ℕ). Rooted c (nearest_root (c * 2 ^ 149))) (sym s.is) (rooted s.m s.g some s.small room)

-- ---- the root is on its side of half-way to any other

-- 4 * (n * p * p), for p = 2 ^ k
times_four : (n k : ℕ) → 4 * (n * 4 ^ k) ≡ 4 * n * (2 ^ k * 2 ^ k)
times_four n k = ap (λ (x : ℕ). 4 * (n * x)) (four_pow k) ∙ sym (mul_assoc 4 n (2 ^ k * 2 ^ k))

under_at : (n q k Y : ℕ) → Near n q → 2 ^ 23 ≤ q → Shape Y → q * 2 ^ k < Y → 4 * (n * 4 ^ k) < (Y + q * 2 ^ k) * (Y + q * 2 ^ k)
under_at n q k Y near lo s h =
    let p = 2 ^ k in
    let P : 0 < p = pow_pos k in
    let a : (q + 1) * p ≤ Y = next q k Y (inr lo) s h in
    let b : (2 * q + 1) * p ≤ Y + q * p = omega arith in
    let c : 4 * n < (2 * q + 1) * (2 * q + 1) = let h1 = near.1 in omega arith in
    lt_of_le_of_lt (le_of_eq (times_four n k)) (lt_of_lt_of_le (mul-lt-mul_of_pos_right c (mul-pos P P)) (le_trans (le_of_eq (mul-mul-mul_comm (2 * q + 1) (2 * q + 1) p p)) (sq_mono b)))

over_at : (n q k Y : ℕ) → Near n q → 2 ^ 46 ≤ n → 2 ^ 23 ≤ q → Shape Y → Y < q * 2 ^ k → (Y + q * 2 ^ k) * (Y + q * 2 ^ k) < 4 * (n * 4 ^ k)
over_at n q k Y near ln lo s h = subst (λ (x : ℕ). (Y + q * 2 ^ k) * (Y + q * 2 ^ k) < x) (sym (times_four n k)) (either (dec_le (q * q) n))
  where
    sq_lt : (a b : ℕ) → a < b → a * a < b * b
    sq_lt a b l = let d = native.Mathlib.Nat.le_dest l in subst (λ (x : ℕ). a * a < x * x) d.1 (omega arith)

    -- the root is q or above
    above : q * q ≤ n → (Y + q * 2 ^ k) * (Y + q * 2 ^ k) < 4 * n * (2 ^ k * 2 ^ k)
    above g =
        let p = 2 ^ k in
        let a : Y + q * p < 2 * q * p = omega arith in
        let b : 2 * q * (2 * q) ≤ 4 * n = omega arith in
        lt_of_lt_of_le (sq_lt (Y + q * p) (2 * q * p) a) (le_trans (le_of_eq (sym (mul-mul-mul_comm (2 * q) (2 * q) p p))) (mul-le-mul_right (p * p) b))

    -- the root is below q, so q is above 2 ^ 23: the next f32 below is q - 1 times 2 ^ k units
    r : ℕ
    r = q - 1

    high : n < q * q → 2 ^ 23 ≤ r
    high g = go (dec_le (2 ^ 23 + 1) q)
      where
        go : Dec (2 ^ 23 + 1 ≤ q) → 2 ^ 23 ≤ q - 1
        go (yes e) = omega arith
        go (no f) = absurd (let e : q ≤ 2 ^ 23 = (let l = lt_of_not-le f in omega arith) in not-le_of_lt g (le_trans (sq_mono e) ln))

    stays : 2 ^ 23 ≤ r → Y ≤ r * 2 ^ k
    stays g = go (dec_le Y (r * 2 ^ k))
      where
        go : Dec (Y ≤ r * 2 ^ k) → Y ≤ r * 2 ^ k
        go (yes e) = e
        go (no f) =
            let a : (r + 1) * 2 ^ k ≤ Y = next r k Y (inr g) s (lt_of_not-le f) in
            let e : r + 1 ≡ q = omega arith in
            absurd (not-le_of_lt h (subst (λ (x : ℕ). x * 2 ^ k ≤ Y) e a))

    below : n < q * q → (Y + q * 2 ^ k) * (Y + q * 2 ^ k) < 4 * n * (2 ^ k * 2 ^ k)
    below g =
        let p = 2 ^ k in
        let hi : 2 ^ 23 ≤ r = high g in
        let st : Y ≤ r * p = stays hi in
        let a : Y + q * p ≤ (r + q) * p = omega arith in
        let n0 : q * q < n + q = near.0 in
        let e : q ≡ r + 1 = omega arith in
        let b : (r + q) * (r + q) < 4 * n = subst (λ (x : ℕ). (r + x) * (r + x) < 4 * n) (sym e) (let n1 : (r + 1) * (r + 1) < n + (r + 1) = subst (λ (x : ℕ). x * x < n + x) e n0 in omega arith) in
        lt_of_le_of_lt (sq_mono a) (lt_of_le_of_lt (le_of_eq (sym (mul-mul-mul_comm (r + q) (r + q) p p))) (mul-lt-mul_of_pos_right b (mul-pos (pow_pos k) (pow_pos k))))

    either : Dec (q * q ≤ n) → (Y + q * 2 ^ k) * (Y + q * 2 ^ k) < 4 * n * (2 ^ k * 2 ^ k)
    either (yes g) = above g
    either (no f) = below (lt_of_not-le f)

-- ---- so the root is the nearest f32

units-fits : (q k : ℕ) → q < 2 ^ 24 → q * 2 ^ k < 2 ^ 277 → T (fits binary32 (units binary32 false q k))
units-fits q k h l = subst (λ (x : Float). T (fits binary32 x)) (sym (units_is q k l)) (odd-fits binary32 25 false q k (lt_of_lt_of_le h (lit≤ tt)) (le_of_lt h) l)

is_root_at : (x r : Float) → T (fits binary32 x) → T (plain x) → Rooted (count x) r → IsRoot x r
is_root_at x r t p d =
    let q = d.q in
    let k = d.k in
    let val : HasValue r false (q * 2 ^ k) (2 ^ 149) = subst (λ (y : Float). HasValue y false (q * 2 ^ k) (2 ^ 149)) (sym d.is) (units_val binary32 false q k d.room) in
    let e : count r ≡ q * 2 ^ k = count_of r false (q * 2 ^ k) val in
    record {
      of = (t, p);
      is = (subst (λ (y : Float). T (fits binary32 y)) (sym d.is) (units-fits q k d.high d.room), plain_of r (q * 2 ^ k) (2 ^ 149) val);
      over = λ y ty py h.
          subst (λ (c : ℕ). (count y + c) * (count y + c) < 4 * (count x * 2 ^ 149)) (sym e)
          (subst (λ (v : ℕ). (count y + q * 2 ^ k) * (count y + q * 2 ^ k) < 4 * v) (sym d.four)
          (over_at d.n q k (count y) d.near d.least d.low (shape (counted y ty py)) (lt_of_lt_of_le h (le_of_eq e))));
      under = λ y ty py h.
          subst (λ (c : ℕ). 4 * (count x * 2 ^ 149) < (count y + c) * (count y + c)) (sym e)
          (subst (λ (v : ℕ). 4 * v < (count y + q * 2 ^ k) * (count y + q * 2 ^ k)) (sym d.four)
          (under_at d.n q k (count y) d.near d.low (shape (counted y ty py)) (lt_of_le_of_lt (le_of_eq (sym e)) h)));
    }

is_root_zero : (x : Float) → T (fits binary32 x) → T (plain x) → count x ≡ 0 → IsRoot x x
is_root_zero x t p e = record {
  of = (t, p);
  is = (t, p);
  over = λ y ty py h. absurd (none (count y) (count x) e h);
  under = λ y ty py h. some (count y) (count x) e h;
}
  where
    none : (a c : ℕ) → c ≡ 0 → a < c → ⊥
    none a c e h = omega arith

    some : (a c : ℕ) → c ≡ 0 → c < a → 4 * (c * 2 ^ 149) < (a + c) * (a + c)
    some zero c e h = absurd (omega arith)
    some (suc a) c e h = subst (λ (z : ℕ). 4 * (z * 2 ^ 149) < (suc a + z) * (suc a + z)) (sym e) (omega arith)

pub root_of_is_root : (x : Float) → T (fits binary32 x) → T (plain x) → IsRoot x (root_of x)
unfolding root_of
root_of_is_root nan t p = absurd p
root_of_is_root (inf s) t p = absurd p
root_of_is_root (fin true m e) t p = absurd p
root_of_is_root (fin false zero e) t p = is_root_zero (fin false zero e) t p (count_of (fin false zero e) false 0 (refl, zero_units e))
root_of_is_root (fin false (suc m) e) t p = is_root_at (fin false (suc m) e) _ t p (rooted_of m e t)
