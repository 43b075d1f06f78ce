-- The square of the root is off by one part in 2 ^ 23 at most, in units of 2 ^ -298 (`root_squared`). Assumes nothing.
use mathlib.Core.Path.{◌≡◌, refl, sym, ap, ◌∙◌, subst}
use mathlib.Core.Bool.{Bool, true, false}
use Prim.Native.Nat.{ℕ, zero, suc, ◌+◌, ◌*◌, ◌^◌, ◌≤◌, ◌<◌}
use native.Mathlib.Nat.{le_of_lt, lt_irrefl, zero-lt-suc, mul-pos, mul-le-mul_right, zero-mul}
use native.Mathlib.Omega.{arith}
use lib.Dec.{T}
use lib.IntN.{ℤ}
use lib.Ieee.{Float, nan, inf, fin, binary32, fits, le}
use lib.Ieee.Exact.{units_val}
use lib.Ieee.Fits.{up_pos}
use lib.Ieee.Scale.{finite}
use Rattle.float.specs.F32.{f0}
use Rattle.float.specs.Units.{count}
use Rattle.float.proofs.Units.{zero_units, count_of}
use Rattle.float.proofs.Rounding.{no_con}
use Rattle.wholeroot.proofs.Near.{Near}
use Rattle.sqrt.specs.Root.{root_of}
use Rattle.sqrt.proofs.Cut.{four_pow}
use Rattle.sqrt.proofs.Nearest.{Rooted, rooted_of, root_of_is_root as root_is}

-- r squared for n
abbrev pub Squared : ℕ → ℕ → Type 0
Squared r n = (2 ^ 23 * (r * r) ≤ 2 ^ 23 * n + r * r) × (2 ^ 23 * n ≤ 2 ^ 23 * (r * r) + r * r)

near_squared : (n q p : ℕ) → Near n q → 2 ^ 23 ≤ q → Squared (q * p) (n * (p * p))
near_squared n q p near low =
    let a = mul-le-mul_right (p * p) (le_of_lt near.0) in
    let b = mul-le-mul_right (p * p) near.1 in
    let c = mul-le-mul_right (q * (p * p)) low in
    (omega (arith, a, c), omega (arith, b, c))

rooted_squared : (a : ℕ) (r : Float) → Rooted a r → Squared (count r) (a * 2 ^ 149)
rooted_squared a r d =
    let q = d.q in
    let k = d.k in
    let e : count r ≡ q * 2 ^ k = ap count d.is ∙ count_of _ false (q * 2 ^ k) (units_val binary32 false q k d.room) in
    let f : a * 2 ^ 149 ≡ d.n * (2 ^ k * 2 ^ k) = d.four ∙ ap (λ (x : ℕ). d.n * x) (four_pow k) in
    subst (λ (x : ℕ). Squared x (a * 2 ^ 149)) (sym e) (subst (Squared (q * 2 ^ k)) (sym f) (near_squared d.n q (2 ^ k) d.near d.low))

none_squared : (r c u : ℕ) → r ≡ 0 → c ≡ 0 → Squared r (c * u)
none_squared r c u e f = rw (e, f, zero-mul u) (omega arith, omega arith)

zero_squared : (s : Bool) (e : ℤ) → Squared (count (fin s zero e)) (count (fin s zero e) * 2 ^ 149)
zero_squared s e = let z = count_of (fin s zero e) s 0 (refl, zero_units e) in none_squared (count (fin s zero e)) (count (fin s zero e)) (2 ^ 149) z z

-- of every f32 from 0 on, of -0 too
nothing_below : (m : ℕ) (e : ℤ) → T (le f0 (fin true (suc m) e)) → ⊥
nothing_below m e h = lt_irrefl 0 (subst (λ (x : ℕ). 0 < x) (no_con (fin true (suc m) e) tt h) (mul-pos (zero-lt-suc m) (up_pos e)))

pub root_single : (x : Float) → T (fits binary32 x) → T (finite x) → T (le f0 x) → T (fits binary32 (root_of x))
unfolding root_of
root_single nan t f h = absurd f
root_single (inf s) t f h = absurd f
root_single (fin true zero e) t f h = t
root_single (fin true (suc m) e) t f h = absurd (nothing_below m e h)
root_single (fin false zero e) t f h = t
root_single (fin false (suc m) e) t f h = (root_is (fin false (suc m) e) t tt).is.0

pub root_squared : (x : Float) → T (fits binary32 x) → T (finite x) → T (le f0 x) → Squared (count (root_of x)) (count x * 2 ^ 149)
unfolding root_of
root_squared nan t f h = absurd f
root_squared (inf s) t f h = absurd f
root_squared (fin true zero e) t f h = zero_squared true e
root_squared (fin true (suc m) e) t f h = absurd (nothing_below m e h)
root_squared (fin false zero e) t f h = zero_squared false e
root_squared (fin false (suc m) e) t f h = rooted_squared (count (fin false (suc m) e)) _ (rooted_of m e t)
