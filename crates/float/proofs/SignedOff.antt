-- How far off a difference and a sum of f32 of either sign, and a quotient, may be, in units of 2 ^ -149 (`count`). Assumes nothing.
use mathlib.Core.Path.{◌≡◌, refl, sym, ap, ap₂, ◌∙◌, subst}
use Prim.Native.Nat.{ℕ, ◌+◌, ◌*◌, ◌^◌, ◌≤◌, ◌<◌}
use native.Mathlib.Nat.{mul-pos, lt_of_not-le, lt_of_lt_of_le, le_of_eq, lt_irrefl, zero-mul}
use native.Mathlib.Decide.{dec_le}
use native.Mathlib.Omega.{arith}
use lib.Dec.{T}
use lib.Ieee.{Float, nan, inf, fin, binary32, fits, neg, le, of_bits}
use lib.Ieee.Fits.{neg-fits}
use lib.Ieee.Positive.{den, den_pos}
use lib.Ieee.Scale.{finite}
use Rattle.float.specs.F32.{◌⊕◌, ◌⊖◌, ◌⊘◌, f0}
use Rattle.float.specs.Units.{count}
use Rattle.float.proofs.Order.{le_trans}
use Rattle.float.proofs.UnitSums.{Counted, opposite}
use Rattle.float.proofs.SignedRound.{pro, con, neg-le, add_rounds}
use Rattle.float.proofs.Rounding.{dens_pos, neg-finite}
use Rattle.float.proofs.Spans.{sub_rounds, div_rounds}
use Rattle.float.proofs.RoundOff.{Part, Off, same_off, gap, rounds_off}
use Rattle.float.proofs.Beside.{neg-neg}
use Rattle.float.proofs.OperationsOff.{gap_times, in_units, crossed, counted_up}

-- ---- an f32 that is not above 0
count-neg : (x : Float) → count (neg x) ≡ count x
unfolding count neg
count-neg nan = refl
count-neg (inf s) = refl
count-neg (fin s m e) = refl

zero-neg : T (le f0 (neg f0))
unfolding of_bits neg le
zero-neg = tt

pub counted_down : (x : Float) → T (fits binary32 x) → T (finite x) → T (le x f0) → Counted x 0 (count x)
counted_down x t f h =
    let c = opposite (neg x) (count (neg x)) 0 (counted_up (neg x) (neg-fits binary32 x t) (neg-finite x f) (le_trans f0 (neg f0) (neg x) zero-neg (neg-le x f0 h))) in
    subst (λ (y : Float). Counted y 0 (count x)) (neg-neg x) (subst (λ (k : ℕ). Counted (neg (neg x)) 0 k) (count-neg x) c)

-- ---- differences and sums
module _ (x y : Float) (p n q m : ℕ) (h : Counted x p n) (k : Counted y q m) where
  pub sub_signed_off : T (finite (x ⊖ y)) → Part (count (x ⊖ y)) (gap (p + m) (n + q))
  sub_signed_off f =
      in_units (count (x ⊖ y)) _ _ (den x * den y) (p + m) (n + q) (2 ^ 149) (dens_pos x y)
      (crossed (pro x) (con y) (den x) (den y) p m (2 ^ 149) h.up k.down) (crossed (con x) (pro y) (den x) (den y) n q (2 ^ 149) h.down k.up)
      (rounds_off (x ⊖ y) _ _ (den x * den y) (sub_rounds x y h.whole k.whole) (dens_pos x y) f)

  pub add_signed_off : T (finite (x ⊕ y)) → Part (count (x ⊕ y)) (gap (p + q) (n + m))
  add_signed_off f =
      in_units (count (x ⊕ y)) _ _ (den x * den y) (p + q) (n + m) (2 ^ 149) (dens_pos x y)
      (crossed (pro x) (pro y) (den x) (den y) p q (2 ^ 149) h.up k.up) (crossed (con x) (con y) (den x) (den y) n m (2 ^ 149) h.down k.down)
      (rounds_off (x ⊕ y) _ _ (den x * den y) (add_rounds x y h.whole k.whole) (dens_pos x y) f)

-- ---- quotients of what is not negative
quotient : (a b e c f p q u : ℕ) → a * u ≡ p * c → b * u ≡ 0 * c → e * u ≡ q * f → gap (a * f) (b * f) * u * q ≡ p * u * (e * c)
quotient a b e c f p q u ha hb he =
    let l : a * f * u ≡ p * c * f = omega (arith, ap (λ (x : ℕ). x * f) ha) in
    let r : b * f * u ≡ 0 = omega (arith, ap (λ (x : ℕ). x * f) hb) in
    let one : gap (a * f) (b * f) * u ≡ p * c * f = gap_times (a * f) (b * f) u ∙ ap₂ gap l r ∙ alone (p * c * f) in
    ap (λ (x : ℕ). x * q) one ∙ swapped (ap (λ (x : ℕ). p * c * x) he)
  where
    alone : (n : ℕ) → gap n 0 ≡ n
    alone n = omega arith

    swapped : p * c * (e * u) ≡ p * c * (q * f) → p * c * f * q ≡ p * u * (e * c)
    swapped h = omega (arith, h)

pub some_up : (y : Float) (q : ℕ) → pro y * 2 ^ 149 ≡ q * den y → 0 < q → 0 < pro y
some_up y q h Q = go (dec_le (pro y) 0)
  where
    none : (a u b : ℕ) → a ≤ 0 → a * u ≡ b → b ≡ 0
    none a u b l e = let z : a ≡ 0 = omega arith in sym e ∙ ap (λ (x : ℕ). x * u) z ∙ zero-mul u

    go : Dec (pro y ≤ 0) → 0 < pro y
    go (no f) = lt_of_not-le f
    go (yes l) = absurd (lt_irrefl 0 (lt_of_lt_of_le (mul-pos Q (den_pos y)) (le_of_eq (none (pro y) (2 ^ 149) (q * den y) l h))))

pub div_off : (x y : Float) (p q : ℕ) → Counted x p 0 → Counted y q 0 → 0 < q → T (finite (x ⊘ y)) → Off (count (x ⊘ y)) (p * 2 ^ 149) q
div_off x y p q h k Q f =
    let some = some_up y q k.up Q in
    let C = mul-pos some (den_pos x) in
    same_off (count (x ⊘ y)) (gap (pro x * den y) (con x * den y) * 2 ^ 149) (pro y * den x) (p * 2 ^ 149) q C
    (quotient (pro x) (con x) (pro y) (den x) (den y) p q (2 ^ 149) h.up h.down k.up)
    (rounds_off (x ⊘ y) _ _ (pro y * den x) (div_rounds x y h.whole k.whole some) C f)
