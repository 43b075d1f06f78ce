-- `decimal::near::first_forty` meets its contract: each arm passes one test, which is computed. Assumes nothing.
use mathlib.Core.Path.{◌≡◌, sym, subst}
use mathlib.Core.Bool.{Bool, ◌&&◌}
use Prim.Native.Nat.{ℕ, ◌+◌, ◌*◌, ◌^◌}
use native.Mathlib.Omega.{arith}
use lib.Dec.{T, leb, ltb, leb→le}
use lib.Ieee.Fits.{and_l, and_r}
use Rattle.decimal.specs.inner.Near.{twos_of, FirstForty}
use Rattle.decimal.proofs.near.first_forty.Goals as goal

abbrev is_first : ℕ → ℕ → Bool
is_first n p = leb (p * 2 ^ twos_of n) (5 ^ n * 2 ^ 39) && (leb (5 ^ n * 2 ^ 39) ((p + 1) * 2 ^ twos_of n) && (leb (2 ^ 39) p && ltb p (2 ^ 40)))

forty : (n p : ℕ) → T (is_first n p) → FirstForty n p
forty n p t =
    let a = leb (p * 2 ^ twos_of n) (5 ^ n * 2 ^ 39) in
    let b = leb (5 ^ n * 2 ^ 39) ((p + 1) * 2 ^ twos_of n) in
    let l = leb (2 ^ 39) p in
    let h = ltb p (2 ^ 40) in
    record {
      under = leb→le _ _ (and_l a (b && (l && h)) t);
      over = leb→le _ _ (and_l b (l && h) (and_r a (b && (l && h)) t));
      lo = leb→le _ _ (and_l l h (and_r b (l && h) (and_r a (b && (l && h)) t)));
      hi = leb→le _ _ (and_r l h (and_r b (l && h) (and_r a (b && (l && h)) t)));
    }

at : {n k p : ℕ} → n ≡ k → T (is_first k p) → FirstForty n p
at {n} {k} {p} e t = subst (λ (x : ℕ). FirstForty x p) (sym e) (forty k p t)

pub returns-in-18 : goal.returns-in-18
returns-in-18 c = at c.in-18.is tt

pub returns-in-19 : goal.returns-in-19
returns-in-19 c = at c.in-19.is tt

pub returns-in-20 : goal.returns-in-20
returns-in-20 c = at c.in-20.is tt

pub returns-in-21 : goal.returns-in-21
returns-in-21 c = at c.in-21.is tt

pub returns-in-22 : goal.returns-in-22
returns-in-22 c = at c.in-22.is tt

pub returns-in-23 : goal.returns-in-23
returns-in-23 c = at c.in-23.is tt

pub returns-in-24 : goal.returns-in-24
returns-in-24 c = at c.in-24.is tt

pub returns-in-25 : goal.returns-in-25
returns-in-25 c = at c.in-25.is tt

pub returns-in-26 : goal.returns-in-26
returns-in-26 c = at c.in-26.is tt

pub returns-in-27 : goal.returns-in-27
returns-in-27 c = at c.in-27.is tt

pub returns-in-28 : goal.returns-in-28
returns-in-28 c = at c.in-28.is tt

pub returns-in-29 : goal.returns-in-29
returns-in-29 c = at c.in-29.is tt

pub returns-in-30 : goal.returns-in-30
returns-in-30 c = at c.in-30.is tt

pub returns-in-31 : goal.returns-in-31
returns-in-31 c = at c.in-31.is tt

pub returns-in-32 : goal.returns-in-32
returns-in-32 c = at c.in-32.is tt

pub returns-in-33 : goal.returns-in-33
returns-in-33 c = at c.in-33.is tt

pub returns-in-34 : goal.returns-in-34
returns-in-34 c = at c.in-34.is tt

pub returns-in-35 : goal.returns-in-35
returns-in-35 c = at c.in-35.is tt

pub returns-in-36 : goal.returns-in-36
returns-in-36 c = at c.in-36.is tt

pub returns-in-37 : goal.returns-in-37
returns-in-37 c = at c.in-37.is tt

pub returns-in-38 : goal.returns-in-38
returns-in-38 c = at c.in-38.is tt

pub returns-in-39 : goal.returns-in-39
returns-in-39 c = at c.in-39.is tt

pub returns-in-40 : goal.returns-in-40
returns-in-40 c = at c.in-40.is tt

pub returns-in-41 : goal.returns-in-41
returns-in-41 c = at c.in-41.is tt

pub returns-in-42 : goal.returns-in-42
returns-in-42 c = at c.in-42.is tt

pub returns-in-43 : goal.returns-in-43
returns-in-43 c = at c.in-43.is tt

pub returns-in-44 : goal.returns-in-44
returns-in-44 c = at c.in-44.is tt

pub returns-in-45 : goal.returns-in-45
returns-in-45 c = at c.in-45.is tt

pub returns-in-46 : goal.returns-in-46
returns-in-46 c = at c.in-46.is tt

pub returns-in-47 : goal.returns-in-47
returns-in-47 c = at c.in-47.is tt

pub returns-in-48 : goal.returns-in-48
returns-in-48 c = at c.in-48.is tt

pub returns-in-49 : goal.returns-in-49
returns-in-49 c = at c.in-49.is tt

pub returns-in-50 : goal.returns-in-50
returns-in-50 c = at c.in-50.is tt

pub returns-in-51 : goal.returns-in-51
returns-in-51 c = at c.in-51.is tt

pub returns-in-52 : goal.returns-in-52
returns-in-52 c = at c.in-52.is tt

pub returns-in-53 : goal.returns-in-53
returns-in-53 c = at c.in-53.is tt

pub returns-in-54 : goal.returns-in-54
returns-in-54 c = at c.in-54.is tt

pub returns-in-55 : goal.returns-in-55
returns-in-55 c = at c.in-55.is tt

pub returns-in_default : goal.returns-in_default
returns-in_default c = let h : c.args.n ≡ 56 = omega arith in at h tt
