-- How far off rounding may be: by half a unit of 2 ^ -149, or by one part in 2 ^ 24 (`rounds_off`). Assumes nothing.
use mathlib.Core.Path.{◌≡◌, sym, ap, ◌∙◌, subst}
use mathlib.Core.Bool.{Bool, true, false, cond}
use mathlib.Core.Logic.{◌⊎◌, inl, inr}
use Prim.Native.Nat.{ℕ, zero, suc, ◌+◌, ◌-◌, ◌*◌, ◌/◌, ◌%◌, ◌^◌, ◌≤◌, ◌<◌}
use native.Mathlib.Nat.{le_trans, le_of_eq, lt_of_not-le, mul-pos, mul-le-mul_right, le_of_mul-le-mul_right, div-add-mod', mod-lt, le-div_iff_mul-le}
use native.Mathlib.Decide.{dec_le}
use native.Mathlib.Omega.{arith}
use lib.Dec.{T, ltb, ltb→lt}
use lib.Pow.{pow-add, pow_pos}
use lib.Ieee.{Float, inf, binary32, size, odd, units, round}
use lib.Ieee.Digits.{size_reaches}
use lib.Ieee.Fits.{round_is}
use lib.Ieee.Exact.{units_val}
use lib.Ieee.Nearest.{closest}
use lib.Ieee.Order.{drop, kept}
use lib.Ieee.Scale.{finite}
use Rattle.float.specs.Units.{count}
use Rattle.float.proofs.Units.{count_of}
use Rattle.float.proofs.Nearest.{stays, moves}
use Rattle.float.proofs.SignedRound.{Rounds, plus, minus}

-- ---- r for n / c: off by a half at most, or by one part in 2 ^ 24 at most
abbrev pub HalfOff : ℕ → ℕ → ℕ → Type 0
HalfOff r n c = (2 * (r * c) ≤ 2 * n + c) × (2 * n ≤ 2 * (r * c) + c)

abbrev pub PartOff : ℕ → ℕ → ℕ → Type 0
PartOff r n c = (2 ^ 24 * (r * c) ≤ 2 ^ 24 * n + n) × (2 ^ 24 * n ≤ 2 ^ 24 * (r * c) + n)

abbrev pub Off : ℕ → ℕ → ℕ → Type 0
Off r n c = HalfOff r n c ⊎ PartOff r n c

-- the same of n * k / (c * k)
spread : (r n c k : ℕ) → Off r n c → Off r (n * k) (c * k)
spread r n c k (inl h) = inl (let a = mul-le-mul_right k h.0 in omega (arith, a), let b = mul-le-mul_right k h.1 in omega (arith, b))
spread r n c k (inr h) = inr (let a = mul-le-mul_right k h.0 in omega (arith, a), let b = mul-le-mul_right k h.1 in omega (arith, b))

cut : (r n c k : ℕ) → 0 < k → Off r (n * k) (c * k) → Off r n c
cut r n c k K (inl h) = inl (le_of_mul-le-mul_right {k = k} (omega (arith, h.0)) K, le_of_mul-le-mul_right {k = k} (omega (arith, h.1)) K)
cut r n c k K (inr h) = inr (le_of_mul-le-mul_right {k = k} (omega (arith, h.0)) K, le_of_mul-le-mul_right {k = k} (omega (arith, h.1)) K)

-- n / c is m / d
pub same_off : (r n c m d : ℕ) → 0 < c → n * d ≡ m * c → Off r n c → Off r m d
same_off r n c m d C e h =
    cut r m d c C (subst (λ (x : ℕ). Off r x (d * c)) e (subst (λ (x : ℕ). Off r (n * d) x) (swap c d) (spread r n c d h)))
  where
    swap : (x y : ℕ) → x * y ≡ y * x
    swap x y = omega arith

-- either way, by both
pub off_high : (r n c : ℕ) → Off r n c → 2 ^ 24 * (r * c) ≤ 2 ^ 24 * n + n + 2 ^ 24 * c
off_high r n c (inl h) = let a = h.0 in omega arith
off_high r n c (inr h) = let a = h.0 in omega arith

pub off_low : (r n c : ℕ) → Off r n c → 2 ^ 24 * n ≤ 2 ^ 24 * (r * c) + n + 2 ^ 24 * c
off_low r n c (inl h) = let a = h.1 in omega arith
off_low r n c (inr h) = let a = h.1 in omega arith

-- of a whole number it is one part in 2 ^ 24
abbrev pub Part : ℕ → ℕ → Type 0
Part r n = (2 ^ 24 * r ≤ 2 ^ 24 * n + n) × (2 ^ 24 * n ≤ 2 ^ 24 * r + n)

pub whole_off : (r n : ℕ) → Off r n 1 → Part r n
whole_off r n (inl h) = let a = h.0 in let b = h.1 in (omega arith, omega arith)
whole_off r n (inr h) = let a = h.0 in let b = h.1 in (omega arith, omega arith)

-- ---- the nearest whole number is off by a half at most
down_off : (m t b a : ℕ) → m * b + t ≡ a → t * 2 ≤ b → HalfOff m a b
down_off m t b a e h = (omega arith, omega arith)

up_off : (m t b a : ℕ) → m * b + t ≡ a → t < b → b ≤ t * 2 → HalfOff (m + 1) a b
up_off m t b a e l h = (omega arith, omega arith)

less : (t m b : ℕ) → t + m % 2 ≤ b → t ≤ b
less t m b h = omega arith

more : (t m b : ℕ) → b < t + m % 2 → b ≤ t
more t m b h = omega arith

closest_off : (a b : ℕ) → 0 < b → HalfOff (closest a b) a b
closest_off a b B = go (dec_le (a % b * 2 + a / b % 2) b)
  where
    go : Dec (a % b * 2 + a / b % 2 ≤ b) → HalfOff (closest a b) a b
    go (yes h) = subst (λ (x : ℕ). HalfOff x a b) (stays (a / b) (a % b * 2) b h) (down_off (a / b) (a % b) b a (div-add-mod' a b) (less (a % b * 2) (a / b) b h))
    go (no f) =
        let h = lt_of_not-le f in
        subst (λ (x : ℕ). HalfOff x a b) (moves (a / b) (a % b * 2) b h) (up_off (a / b) (a % b) b a (div-add-mod' a b) (mod-lt a B) (more (a % b * 2) (a / b) b h))

-- ---- what is dropped is at most one part in 2 ^ 23 of the number
none_off : (q c n : ℕ) → HalfOff q n (c * 1) → HalfOff (q * 1) n c
none_off q c n h = let a = h.0 in let b = h.1 in (omega arith, omega arith)

some_off : (q p c n : ℕ) → 2 ^ 23 * p * c ≤ n → HalfOff q n (c * p) → PartOff (q * p) n c
some_off q p c n l h = let a = h.0 in let b = h.1 in (omega arith, omega arith)

kept_off : (n c k : ℕ) → 0 < c → (0 < k → 2 ^ 23 * 2 ^ k * c ≤ n) → Off (closest n (c * 2 ^ k) * 2 ^ k) n c
kept_off n c zero C h = inl (none_off (closest n (c * 2 ^ 0)) c n (closest_off n (c * 2 ^ 0) (mul-pos C (pow_pos 0))))
kept_off n c (suc k) C h = inr (some_off (closest n (c * 2 ^ suc k)) (2 ^ suc k) c n (h (omega arith)) (closest_off n (c * 2 ^ suc k) (mul-pos C (pow_pos (suc k)))))

in_use : (z : ℕ) → 0 < z - 24 → 23 + (z - 24) < z
in_use z h = omega arith

large : (n c : ℕ) → 0 < c → 0 < drop 24 n c → 2 ^ 23 * 2 ^ drop 24 n c * c ≤ n
large n c C h =
    (le-div_iff_mul-le C).0
    (le_trans (le_of_eq (sym (pow-add 2 23 (drop 24 n c)))) (size_reaches (n / c) (23 + drop 24 n c) (in_use (size (n / c)) h)))

-- ---- a fraction, rounded
units_small : (s : Bool) (q k : ℕ) → T (finite (units binary32 s q k)) → q * 2 ^ k < 2 ^ 277
unfolding units
units_small s q k f = go (ltb (q * 2 ^ k) (2 ^ 277)) (ltb→lt (q * 2 ^ k) (2 ^ 277)) f
  where
    go : (b : Bool) → (T b → q * 2 ^ k < 2 ^ 277) → T (finite (cond b (odd 25 s q k 149) (inf s))) → q * 2 ^ k < 2 ^ 277
    go true h f = h tt
    go false h f = absurd f

pub round_off : (s : Bool) (a c : ℕ) → 0 < c → T (finite (round binary32 s a c)) → Off (count (round binary32 s a c)) (a * 2 ^ 149) c
round_off s a c C f =
    let n = a * 2 ^ 149 in
    let q = kept 24 n c in
    let k = drop 24 n c in
    let is : round binary32 s a c ≡ units binary32 s q k = round_is binary32 s a c in
    let v = units_val binary32 s q k (units_small s q k (subst (λ (x : Float). T (finite x)) is f)) in
    let e : count (round binary32 s a c) ≡ q * 2 ^ k = ap count is ∙ count_of (units binary32 s q k) s (q * 2 ^ k) v in
    subst (λ (x : ℕ). Off x n c) (sym e) (kept_off n c k C (large n c C))

-- ---- of either sign: p - n, or n - p
abbrev pub gap : ℕ → ℕ → ℕ
gap p n = (p - n) + (n - p)

size_gap : (s : Bool) (w p n : ℕ) → plus s w + n ≡ p + minus s w → w ≡ gap p n
size_gap true w p n e = omega arith
size_gap false w p n e = omega arith

pub rounds_off : (x : Float) (p n c : ℕ) → Rounds x p n c → 0 < c → T (finite x) → Off (count x) (gap p n * 2 ^ 149) c
rounds_off x p n c r C f =
    let s = r.sign in
    let w = r.size in
    subst (λ (y : ℕ). Off (count x) (y * 2 ^ 149) c) (size_gap s w p n r.value)
    (subst (λ (y : Float). Off (count y) (w * 2 ^ 149) c) (sym r.is) (round_off s w c C (subst (λ (y : Float). T (finite y)) r.is f)))
