-- The depth lies from above zero on, and never grows as the number does: within a power of two by its part, and from one to the next since the part is at most 1. Assumes nothing.
use mathlib.Core.Path.{◌≡◌, refl, sym, subst}
use mathlib.Core.Logic.{inl, inr}
use Prim.Native.Nat.{ℕ, suc, ◌+◌, ◌-◌, ◌/◌, ◌%◌, ◌^◌, ◌≤◌, ◌<◌}
use native.Mathlib.Nat.{lt_of_not-le, eq-or-lt_of_le}
use native.Mathlib.Decide.{dec_le}
use native.Mathlib.Omega.{arith}
use lib.Dec.{T}
use lib.Ieee.{Float, binary32, of_bits, to_bits, le, add, sub, mul, div}
use lib.Ieee.Fits.{mul-fits}
use lib.Ieee.Scale.{finite}
use borrow.Author.Tests.{lt-ltb, le-ltb}
use Rattle.float.specs.F32.{◌⊕◌, ◌⊗◌, f0, f1}
use Rattle.float.specs.Number.{count_of}
use Rattle.float.proofs.Order.{le_trans, finite_between}
use Rattle.float.proofs.PatternOrder.{at, pattern_mono}
use Rattle.float.proofs.Rounding.{add_mono}
use Rattle.float.proofs.Wholes.{count_held, count_mono, count_sum}
use Rattle.float.proofs.Chains.{Chain, first_finite, second_finite}
use Rattle.curve.specs.Depth.{lift, series_of, part_of, level_of, depth_of}
use Rattle.curve.proofs.Closed.{zero-finite, zero_count, one_count}
use Rattle.curve.proofs.Sums.{first, last, least, part_falls}
use Rattle.curve.proofs.Inside.{Inside, inside_mono, lifted_row, lifted_plain, lifted_field}

-- ---- k whole halvings, and the part that the digits t tell
abbrev sunk : ℕ → ℕ → Float
sunk k t = count_of k ⊕ part_of (at (first + t))

least_alone : f0 ⊕ least ≡ least
unfolding part_of series_of of_bits sub add mul div
least_alone = refl

module _ (k t : ℕ) (few : k ≤ 150) (digits : t < 2 ^ 23) where
  bits : Chain least (part_of (at (first + t))) f1
  bits = part_falls (first + t) last (omega arith) (omega arith) (omega arith)

  whole_finite : T (finite (count_of k))
  whole_finite = (count_held k (omega arith)).bounded

  zero_whole : T (le f0 (count_of k))
  zero_whole = subst (λ (x : Float). T (le x (count_of k))) zero_count (count_mono 0 k (omega arith))

  whole_whole : T (le (count_of k) (count_of k))
  whole_whole = count_mono k k (omega arith)

  sunk_least : T (le least (sunk k t))
  sunk_least = subst (λ (x : Float). T (le x (sunk k t))) least_alone (add_mono f0 least (count_of k) (part_of (at (first + t))) zero-finite (first_finite bits) whole_finite (second_finite bits) zero_whole bits.mid)

  sunk_low : T (le (count_of k) (sunk k t))
  sunk_low =
      let e : k + 0 ≡ k = omega arith in
      let p = le_trans f0 least (part_of (at (first + t))) bits.low bits.mid in
      le_trans (count_of k) (count_of k ⊕ f0) (sunk k t)
      (subst (λ (x : Float). T (le (count_of k) (count_of k ⊕ x))) zero_count (subst (λ (n : ℕ). T (le (count_of n) (count_of k ⊕ count_of 0))) e (count_sum k 0 (omega arith) (omega arith)).1))
      (add_mono (count_of k) f0 (count_of k) (part_of (at (first + t))) whole_finite zero-finite whole_finite (second_finite bits) whole_whole p)

  sunk_high : T (le (sunk k t) (count_of (suc k)))
  sunk_high =
      let e : k + 1 ≡ suc k = omega arith in
      le_trans (sunk k t) (count_of k ⊕ f1) (count_of (suc k))
      (add_mono (count_of k) (part_of (at (first + t))) (count_of k) f1 whole_finite (second_finite bits) whole_finite bits.bounded whole_whole bits.high)
      (subst (λ (x : Float). T (le (count_of k ⊕ x) (count_of (suc k)))) one_count (subst (λ (n : ℕ). T (le (count_of k ⊕ count_of 1) (count_of n))) e (count_sum k 1 (omega arith) (omega arith)).0))

  sunk_finite : T (finite (sunk k t))
  sunk_finite = finite_between (count_of k) (sunk k t) (count_of (suc k)) whole_finite (count_held (suc k) (omega arith)).bounded sunk_low sunk_high

  -- within one
  sunk_same : (s : ℕ) → s ≤ t → T (le (sunk k t) (sunk k s))
  sunk_same s h =
      let c = part_falls (first + s) (first + t) (omega arith) (omega arith) (omega arith) in
      add_mono (count_of k) (part_of (at (first + t))) (count_of k) (part_of (at (first + s))) whole_finite (first_finite c) whole_finite (second_finite c) whole_whole c.mid

-- from one power of two to the next
sunk_deeper : (k t n s : ℕ) → t < 2 ^ 23 → n ≤ 150 → s < 2 ^ 23 → k < n → T (le (sunk k t) (sunk n s))
sunk_deeper k t n s d m l h =
    le_trans (sunk k t) (count_of (suc k)) (sunk n s) (sunk_high k t (omega arith) d)
    (le_trans (count_of (suc k)) (count_of n) (sunk n s) (count_mono (suc k) n h) (sunk_low n s m l))

-- ---- by patterns
module _ (b most : ℕ) (few : most ≤ 150) where
  level_least : T (le least (level_of b most)) × T (finite (level_of b most))
  unfolding level_of
  level_least = (sunk_least (most - b / 2 ^ 23) (b % 2 ^ 23) (omega arith) (omega arith), sunk_finite (most - b / 2 ^ 23) (b % 2 ^ 23) (omega arith) (omega arith))

  level_falls : (c : ℕ) → b ≤ c → c / 2 ^ 23 ≤ most → T (le (level_of c most) (level_of b most))
  unfolding level_of
  level_falls c h l =
      let f : b / 2 ^ 23 ≤ c / 2 ^ 23 = omega arith in
      elim (eq-or-lt_of_le f) [
        | inl e ↦
            subst (λ (q : ℕ). T (le (sunk (most - c / 2 ^ 23) (c % 2 ^ 23)) (sunk (most - q) (b % 2 ^ 23)))) (sym e)
            (sunk_same (most - c / 2 ^ 23) (c % 2 ^ 23) (omega arith) (omega arith) (b % 2 ^ 23) (omega arith))
        | inr g ↦ sunk_deeper (most - c / 2 ^ 23) (c % 2 ^ 23) (most - b / 2 ^ 23) (b % 2 ^ 23) (omega arith) (omega arith) (omega arith) (omega arith)
      ]

-- a field of at most 24 under 150, beside one of at least 1 under 126
level_across : (b c : ℕ) → b / 2 ^ 23 ≤ 24 → 2 ^ 23 ≤ c → c ≤ last → T (le (level_of c 126) (level_of b 150))
unfolding level_of
level_across b c h k l =
    sunk_deeper (126 - c / 2 ^ 23) (c % 2 ^ 23) (150 - b / 2 ^ 23) (b % 2 ^ 23) (omega arith) (omega arith) (omega arith) (omega arith)

-- ---- of numbers
module _ (x : Float) where
  pub depth_small : to_bits binary32 x < 2 ^ 23 → level_of (to_bits binary32 (x ⊗ lift)) 150 ≡ depth_of x
  unfolding depth_of
  depth_small h = rw (lt-ltb (to_bits binary32 x) (2 ^ 23) h)

  pub depth_other : 2 ^ 23 ≤ to_bits binary32 x → level_of (to_bits binary32 x) 126 ≡ depth_of x
  unfolding depth_of
  depth_other h = rw (le-ltb (to_bits binary32 x) (2 ^ 23) h)

pub depth_least : (x : Float) → Inside x → T (le least (depth_of x)) × T (finite (depth_of x))
depth_least x i = go (dec_le (2 ^ 23) (to_bits binary32 x))
  where
    go : Dec (2 ^ 23 ≤ to_bits binary32 x) → T (le least (depth_of x)) × T (finite (depth_of x))
    go (yes h) = subst (λ (z : Float). T (le least z) × T (finite z)) (depth_other x h) (level_least (to_bits binary32 x) 126 (omega arith))
    go (no g) = subst (λ (z : Float). T (le least z) × T (finite z)) (depth_small x (lt_of_not-le g)) (level_least (to_bits binary32 (x ⊗ lift)) 150 (omega arith))

pub depth_falls : (x y : Float) → Inside x → Inside y → T (le x y) → T (le (depth_of y) (depth_of x))
depth_falls x y i j h = go (dec_le (2 ^ 23) (to_bits binary32 x)) (dec_le (2 ^ 23) (to_bits binary32 y))
  where
    go : Dec (2 ^ 23 ≤ to_bits binary32 x) → Dec (2 ^ 23 ≤ to_bits binary32 y) → T (le (depth_of y) (depth_of x))
    go (yes p) (yes q) =
        subst (λ (z : Float). T (le z (depth_of x))) (depth_other y q)
        (subst (λ (z : Float). T (le (level_of (to_bits binary32 y) 126) z)) (depth_other x p)
        (level_falls (to_bits binary32 x) 126 (omega arith) (to_bits binary32 y) (inside_mono x y i j h) (let k = j.high in omega arith)))
    go (yes p) (no g) = let m = inside_mono x y i j h in let l = lt_of_not-le g in absurd (omega arith)
    go (no f) (yes q) =
        subst (λ (z : Float). T (le z (depth_of x))) (depth_other y q)
        (subst (λ (z : Float). T (le (level_of (to_bits binary32 y) 126) z)) (depth_small x (lt_of_not-le f))
        (level_across (to_bits binary32 (x ⊗ lift)) (to_bits binary32 y) (lifted_field x i (lt_of_not-le f)) q j.high))
    go (no f) (no g) =
        let u = lifted_row x y i j h (lt_of_not-le g) in
        let m = pattern_mono (x ⊗ lift) (y ⊗ lift) (mul-fits binary32 x lift) (lifted_plain x i (lt_of_not-le f)) (mul-fits binary32 y lift) (lifted_plain y j (lt_of_not-le g)) u.mid in
        subst (λ (z : Float). T (le z (depth_of x))) (depth_small y (lt_of_not-le g))
        (subst (λ (z : Float). T (le (level_of (to_bits binary32 (y ⊗ lift)) 150) z)) (depth_small x (lt_of_not-le f))
        (level_falls (to_bits binary32 (x ⊗ lift)) 150 (omega arith) (to_bits binary32 (y ⊗ lift)) m (let l = lifted_field y j (lt_of_not-le g) in omega arith)))
