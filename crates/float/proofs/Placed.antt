-- Where an f32 lies: how many units of 2 ^ -149 above a point that is below all of them. So positions of either sign are compared and subtracted as whole numbers. Assumes nothing.
use mathlib.Core.Path.{◌≡◌, sym, ◌∙◌, subst}
use Prim.Native.Nat.{ℕ, zero, suc, ◌+◌, ◌-◌, ◌*◌, ◌^◌, ◌≤◌, ◌<◌}
use native.Mathlib.Nat.{le_of_eq, lt_of_le_of_lt, mul-pos, zero-mul}
use native.Mathlib.Omega.{arith}
use mathlib.Core.Bool.{Bool, true, false}
use lib.Dec.{T}
use lib.IntN.{ℤ}
use lib.Pow.{pow_pos}
use lib.Ieee.{Float, nan, inf, fin, up, down, binary32, fits, le}
use lib.Ieee.Fits.{down_pos}
use lib.Ieee.Scale.{finite}
use Rattle.float.specs.F32.{◌⊖◌}
use Rattle.float.specs.Units.{count}
use Rattle.float.proofs.Units.{parts, sized, few_units}
use Rattle.float.proofs.UnitSums.{Counted, units_le, le_units}
use Rattle.float.proofs.RoundOff.{Part, gap}
use Rattle.float.proofs.SignedOff.{sub_signed_off}

-- x lies `place` units above the point that is m units below 0
pub record Placed (m : ℕ) (x : Float) (place : ℕ) : Type 0 where
  pub p : ℕ
  pub n : ℕ
  pub is : Counted x p n
  pub there : place + n ≡ m + p

-- ---- every finite f32 has a place
size_small : (s : Bool) (k : ℕ) (e : ℤ) → T (fits binary32 (fin s k e)) → k * up e < 2 ^ 128 * down e
size_small s zero e t = lt_of_le_of_lt (le_of_eq (zero-mul (up e))) (mul-pos (pow_pos 128) (down_pos e))
size_small s (suc k) e t = (parts s k e t).2

abbrev least : ℕ
least = 2 ^ 277

nothing : (e : ℤ) → 0 * 2 ^ 149 ≡ 0 * down e
nothing e = zero-mul (2 ^ 149) ∙ sym (zero-mul (down e))

pub placed : (x : Float) → T (fits binary32 x) → T (finite x) → (place : ℕ) × Placed least x place
placed nan t f = absurd f
placed (inf s) t f = absurd f
placed (fin false k e) t f =
    let z = sized false k e t in
    (least + z.0, record { p = z.0; n = 0; is = record { whole = f; single = t; up = z.1.is.1; down = nothing e }; there = none (least + z.0) })
  where
    none : (a : ℕ) → a + 0 ≡ a
    none a = omega arith
placed (fin true k e) t f =
    let z = sized true k e t in
    let small = few_units (k * up e) (down e) z.0 128 z.1.is.1 (size_small true k e t) in
    (least - z.0, record { p = 0; n = z.0; is = record { whole = f; single = t; up = nothing e; down = z.1.is.1 }; there = back least z.0 small })
  where
    back : (m n : ℕ) → n < m → m - n + n ≡ m + 0
    back m n h = omega arith

-- ---- their order, and their differences
module _ (m : ℕ) (x y : Float) (a b : ℕ) (v : Placed m x a) (w : Placed m y b) where
  pub place_le : T (le x y) → a ≤ b
  place_le h = into v.p v.n w.p w.n v.there w.there (le_units x y _ _ _ _ v.is w.is h)
    where
      into : (p n q k : ℕ) → a + n ≡ m + p → b + k ≡ m + q → p + k ≤ q + n → a ≤ b
      into p n q k e f h = omega arith

  pub le_place : a ≤ b → T (le x y)
  le_place h = units_le x y _ _ _ _ v.is w.is (from v.p v.n w.p w.n v.there w.there)
    where
      from : (p n q k : ℕ) → a + n ≡ m + p → b + k ≡ m + q → p + k ≤ q + n
      from p n q k e f = omega arith

  pub place_sub : T (finite (x ⊖ y)) → Part (count (x ⊖ y)) (gap a b)
  place_sub f = subst (Part (count (x ⊖ y))) (same v.p v.n w.p w.n v.there w.there) (sub_signed_off x y _ _ _ _ v.is w.is f)
    where
      same : (p n q k : ℕ) → a + n ≡ m + p → b + k ≡ m + q → gap (p + k) (n + q) ≡ gap a b
      same p n q k e f = omega arith
