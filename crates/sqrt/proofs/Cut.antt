-- `nearest_root` of n * 4 ^ k, for an n of 47 or 48 digits, is q * 2 ^ k units, with q the whole number nearest to the root of n. Assumes nothing.
use mathlib.Core.Path.{◌≡◌, refl, sym, ap, ◌∙◌, subst}
use Prim.Native.Nat.{ℕ, zero, suc, ◌+◌, ◌-◌, ◌*◌, ◌/◌, ◌^◌, ◌≤◌, ◌<◌, compare, Ordering}
use native.Mathlib.Nat.{le_trans, lt_of_lt_of_le, lt_of_le_of_lt, lt_of_not-le, not-le_of_lt, le_of_eq, le_of_mul-le-mul_right, lt_of_mul-lt-mul_right, div-mul-le_self, div-lt_iff_lt-mul, mul-pos, lt-suc_self, mul-lt-mul_of_pos_right, mul-le-mul_right, mul_assoc, mul-mul-mul_comm, pow-succ'}
use native.Mathlib.Decide.{dec_le}
use native.Mathlib.Omega.{arith}
use mathlib.Core.Bool.{false, not}
use lib.Dec.{T, is_le, compare_is_eq, leb→le, nleb→lt, eqb→eq, eqb, eqb_refl}
use lib.Arith.{lt_of_le-ne}
use lib.Pow.{pow_pos, pow-add}
use lib.Ieee.{binary32, size, nearest, units}
use Rattle.float.proofs.Fraction.{size_is}
use Rattle.wholeroot.specs.WholeRoot.{whole_root}
use Rattle.wholeroot.proofs.Whole.{IsWhole, whole_root_is, sq_mono}
use Rattle.wholeroot.proofs.Near.{Near, near_unique}
use Rattle.sqrt.specs.Root.{nearest_root}

-- ---- from the whole part of the root, by one comparison

abbrev Cmp : Ordering → ℕ → ℕ → Type 0
Cmp Ordering.lt a b = a < b
Cmp Ordering.eq a b = a ≡ b
Cmp Ordering.gt a b = b < a

cmp : (a b : ℕ) → Cmp (compare a b) a b
cmp a b = go (compare a b) (leb→le a b) (nleb→lt a b) (eqb→eq a b) (λ (e : a ≡ b). subst (λ (x : ℕ). T (eqb a x)) e (eqb_refl a))
  where
    go : (o : Ordering) → (T (is_le o) → a ≤ b) → (T (not (is_le o)) → b < a) → (T (compare_is_eq o) → a ≡ b) → (a ≡ b → T (compare_is_eq o)) → Cmp o a b
    go Ordering.lt h k e n = lt_of_le-ne (h tt) n
    go Ordering.eq h k e n = e tt
    go Ordering.gt h k e n = k tt

-- the comparison is of 4 * n with the square of 2 * r + 1, each times c. They are never equal: one is even and one is odd
rounded : (n r c : ℕ) (o : Ordering) → 0 < n → 0 < c → IsWhole n r → Cmp o (4 * (n * c)) ((2 * r + 1) * (2 * r + 1) * c) → Near n (nearest r o)
rounded n r c Ordering.lt p C i h =
    let l : 4 * n < (2 * r + 1) * (2 * r + 1) = lt_of_mul-lt-mul_right c (subst (λ (x : ℕ). x < (2 * r + 1) * (2 * r + 1) * c) (sym (mul_assoc 4 n c)) h) in
    (below r i.0, omega arith)
  where
    below : (r : ℕ) → r * r ≤ n → r * r < n + r
    below zero h = omega arith
    below (suc r) h = omega arith
rounded n r c Ordering.eq p C i h =
    let l : 4 * n ≤ (2 * r + 1) * (2 * r + 1) = le_of_mul-le-mul_right (le_of_eq (mul_assoc 4 n c ∙ h)) C in
    let g : (2 * r + 1) * (2 * r + 1) ≤ 4 * n = le_of_mul-le-mul_right (le_of_eq (sym (mul_assoc 4 n c ∙ h))) C in
    absurd (omega arith)
rounded n r c Ordering.gt p C i h =
    let l : (2 * r + 1) * (2 * r + 1) < 4 * n = lt_of_mul-lt-mul_right c (subst (λ (x : ℕ). (2 * r + 1) * (2 * r + 1) * c < x) (sym (mul_assoc 4 n c)) h) in
    (omega arith, omega arith)

-- ---- the root of n * (p * p), cut to a multiple of p

cut : (n p w : ℕ) → 0 < p → IsWhole (n * (p * p)) w → IsWhole n (w / p)
cut n p w P i =
    let d = w / p in
    let lo : d * p ≤ w = div-mul-le_self w p in
    let hi : w < suc d * p = (div-lt_iff_lt-mul P).0 (lt-suc_self d) in
    let hi' : w + 1 ≤ (d + 1) * p = omega arith in
    (le_of_mul-le-mul_right (le_trans (le_of_eq (sym (mul-mul-mul_comm d p d p))) (le_trans (sq_mono lo) i.0)) (mul-pos P P), lt_of_mul-lt-mul_right (p * p) (lt_of_lt_of_le i.1 (le_trans (sq_mono hi') (le_of_eq (mul-mul-mul_comm (d + 1) p (d + 1) p)))))

-- 4 ^ k is the square of 2 ^ k
pub four_pow : (k : ℕ) → 4 ^ k ≡ 2 ^ k * 2 ^ k
four_pow zero = refl
four_pow (suc k) = let h : 4 ^ k ≡ 2 ^ k * 2 ^ k = four_pow k in simp pow-succ' (omega arith)

-- ---- how many digits it has

sq_lt : (a b : ℕ) → a * a < b * b → a < b
sq_lt a b h = go (dec_le b a)
  where
    go : Dec (b ≤ a) → a < b
    go (yes e) = absurd (not-le_of_lt h (sq_mono e))
    go (no f) = lt_of_not-le f

root_digits : (n k : ℕ) → 2 ^ 46 ≤ n → n < 2 ^ 48 → size (whole_root (n * 4 ^ k)) ≡ 24 + k
root_digits n k lo hi =
    let w = whole_root (n * 4 ^ k) in
    let i : IsWhole (n * 4 ^ k) w = whole_root_is (n * 4 ^ k) in
    let p = 2 ^ k in
    let e : n * 4 ^ k ≡ n * (p * p) = ap (λ (x : ℕ). n * x) (four_pow k) in
    let c : 0 < p * p = mul-pos (pow_pos k) (pow_pos k) in
    let a : 2 ^ 23 * p < w + 1 = sq_lt (2 ^ 23 * p) (w + 1) (lt_of_le_of_lt (le_trans (le_of_eq (mul-mul-mul_comm (2 ^ 23) p (2 ^ 23) p)) (le_trans (mul-le-mul_right (p * p) lo) (le_of_eq (sym e)))) i.1) in
    let b : w < 2 ^ 24 * p = sq_lt w (2 ^ 24 * p) (lt_of_le_of_lt i.0 (lt_of_le_of_lt (le_of_eq e) (lt_of_lt_of_le (mul-lt-mul_of_pos_right hi c) (le_of_eq (mul-mul-mul_comm (2 ^ 24) (2 ^ 24) p p))))) in
    let e24 : 23 + k + 1 ≡ 24 + k = omega arith in
    size_is w (23 + k) (subst (λ (x : ℕ). x ≤ w) (sym (pow-add 2 23 k)) (omega arith)) (subst (λ (x : ℕ). w < x) (sym (ap (λ (x : ℕ). 2 ^ x) e24 ∙ pow-add 2 24 k)) b) ∙ e24

-- ---- `nearest_root` of n * 4 ^ k

pub nearest_root_at : (n k q : ℕ) → 2 ^ 46 ≤ n → n < 2 ^ 48 → Near n q → nearest_root (n * 4 ^ k) ≡ units binary32 false q k
unfolding nearest_root
nearest_root_at n k q lo hi near =
    let v = n * 4 ^ k in
    let w = whole_root v in
    let ek : size w - 24 ≡ k = ap (λ (x : ℕ). x - 24) (root_digits n k lo hi) ∙ take24 k in
    let r = w / 2 ^ k in
    let whole : IsWhole n r = cut n (2 ^ k) w (pow_pos k) (subst (λ (x : ℕ). IsWhole (n * x) w) (four_pow k) (whole_root_is v)) in
    let o = compare (4 * v) ((2 * r + 1) * (2 * r + 1) * 4 ^ k) in
    let near' : Near n (nearest r o) = rounded n r (4 ^ k) o (lt_of_lt_of_le (pow_pos 46) lo) (four_pos k) whole (cmp (4 * v) ((2 * r + 1) * (2 * r + 1) * 4 ^ k)) in
    ap (λ (j : ℕ). units binary32 false (nearest (w / 2 ^ j) (compare (4 * v) ((2 * (w / 2 ^ j) + 1) * (2 * (w / 2 ^ j) + 1) * 4 ^ j))) j) ek
    ∙ ap (λ (x : ℕ). units binary32 false x k) (near_unique n (nearest r o) q near' near)
  where
    take24 : (k : ℕ) → 24 + k - 24 ≡ k
    take24 k = omega arith

    four_pos : (k : ℕ) → 0 < 4 ^ k
    four_pos k = subst (λ (x : ℕ). 0 < x) (sym (four_pow k)) (mul-pos (pow_pos k) (pow_pos k))
