-- What is bent lies from 0 to 1, and never falls as the factor rises; a NaN stays one. Assumes nothing.
use mathlib.Core.Path.{◌≡◌, refl, sym, ap, ◌∙◌, subst}
use mathlib.Core.Bool.{false}
use mathlib.Core.Logic.{inl, inr}
use Prim.Native.Nat.{ℕ, suc, ◌≤◌, ◌<◌}
use native.Mathlib.Nat.{eq-or-lt_of_le, le_dest}
use native.Mathlib.Omega.{arith}
use lib.Dec.{T}
use lib.IntN.{pos}
use lib.Ieee.{Float, nan, is_nan, of_bits, of_int, le, lt, add, sub, mul, to_signed}
use lib.Ieee.Scale.{finite}
use borrow.Author.Tests.{eq-eqb, ne_eqb}
use Rattle.float.specs.F32.{◌⊖◌, ◌⊗◌, f0, f1}
use Rattle.float.specs.Number.{clamp_of, whole_of, count_of}
use Rattle.float.proofs.Order.{le_trans, no_nan_l, no_nan_r, finite_between}
use Rattle.float.proofs.Clamped.{clamp_low, clamp_high, clamp_mono}
use Rattle.float.proofs.Rounding.{mul_mono, sub_mono}
use Rattle.float.proofs.Wholes.{count_held, count_mono, whole_is, whole_mono, left_least, left_most}
use Rattle.sine.specs.Table.{table, entry}
use Rattle.sine.specs.Wave.{steps, indexed, index_of, line_of, wave_at, wave_of}
use Rattle.sine.proofs.Ruled.{entry_most}
use Rattle.sine.proofs.Lines.{level, level_mono, level_low, level_high, entry_mono, line_low, line_high, line_mono}

pub wave_nan : wave_of nan ≡ nan
unfolding wave_of wave_at line_of clamp_of indexed to_signed lt add sub mul of_bits of_int table
wave_nan = refl

-- ---- closed facts
zero-finite : T (finite f0)
unfolding of_bits
zero-finite = tt

one_finite : T (finite f1)
unfolding of_bits
one_finite = tt

zero-zero : T (le f0 f0)
unfolding of_bits le
zero-zero = tt

zero_one : T (le f0 f1)
unfolding of_bits le
zero_one = tt

one_one : T (le f1 f1)
unfolding of_bits le
one_one = tt

steps-finite : T (finite steps)
unfolding of_bits
steps-finite = tt

steps_low : T (le f0 steps)
unfolding of_bits le
steps_low = tt

steps_same : T (le steps steps)
unfolding of_bits le
steps_same = tt

steps_whole : whole_of steps ≡ pos 1024
unfolding of_bits to_signed
steps_whole = refl

full : f1 ⊗ steps ≡ steps
unfolding of_bits mul
full = refl

empty : f0 ⊗ steps ≡ f0
unfolding of_bits mul
empty = refl

-- ---- a point from 0 to 1,024 of the table
pub record Along (x : Float) : Type 0 where
  bounded : T (finite x)
  low : T (le f0 x)
  high : T (le x steps)

-- its whole part is its index
placed : (x : Float) → Along x → (whole_of x ≡ pos (index_of x)) × (index_of x ≤ 1024)
unfolding indexed
placed x a =
    let w = whole_is x a.bounded a.low in
    let l = whole_mono x steps w.0 1024 a.bounded steps-finite a.low a.high w.1 steps_whole (omega arith) in
    let e : index_of x ≡ w.0 = ap indexed w.1 ∙ least w.0 l in
    (w.1 ∙ ap pos (sym e), omega arith)
  where
    least : (n : ℕ) → n ≤ 1024 → indexed (pos n) ≡ n
    least n h = omega arith

module _ (x : Float) (a : Along x) where
  topmost : index_of x ≡ 1024 → wave_at x ≡ f1
  unfolding wave_at
  topmost e = simp (eq-eqb (index_of x) 1024 e)

  between : index_of x < 1024 → wave_at x ≡ line_of (index_of x) (x ⊖ count_of (index_of x))
  unfolding wave_at
  between l = simp (ne_eqb (index_of x) 1024 (λ e. absurd (omega arith)))

  module _ (l : index_of x < 1024) where
    rest_low : T (le f0 (x ⊖ count_of (index_of x)))
    rest_low = left_least x (index_of x) a.bounded a.low (placed x a).0 (omega arith)

    rest_high : T (le (x ⊖ count_of (index_of x)) (count_of 1))
    rest_high = left_most x (index_of x) a.bounded a.low (placed x a).0 (omega arith)

    rest_finite : T (finite (x ⊖ count_of (index_of x)))
    rest_finite = finite_between f0 (x ⊖ count_of (index_of x)) (count_of 1) zero-finite (count_held 1 (omega arith)).bounded rest_low rest_high

    above_own : T (le (level (entry (index_of x))) (wave_at x))
    above_own = subst (λ (z : Float). T (le (level (entry (index_of x))) z)) (sym (between l)) (line_low (index_of x) l (x ⊖ count_of (index_of x)) rest_finite rest_low rest_high)

    below_next : T (le (wave_at x) (level (entry (suc (index_of x)))))
    below_next = subst (λ (z : Float). T (le z (level (entry (suc (index_of x)))))) (sym (between l)) (line_high (index_of x) l (x ⊖ count_of (index_of x)) rest_finite rest_low rest_high)

  within : T (le f0 (wave_at x)) × T (le (wave_at x) f1)
  within = elim (eq-or-lt_of_le (placed x a).1) [
    | inl e ↦ subst (λ (z : Float). T (le f0 z) × T (le z f1)) (sym (topmost e)) (zero_one, one_one)
    | inr l ↦ (
      le_trans f0 (level (entry (index_of x))) (wave_at x) (level_low (entry (index_of x)) (entry_most (index_of x) (placed x a).1)) (above_own l),
      le_trans (wave_at x) (level (entry (suc (index_of x)))) f1 (below_next l) (level_high (entry (suc (index_of x))) (entry_most (suc (index_of x)) l)),
    )
  ]

module _ (x y : Float) (a : Along x) (b : Along y) (h : T (le x y)) where
  index_mono : index_of x ≤ index_of y
  index_mono =
      let q = placed y b in
      whole_mono x y (index_of x) (index_of y) a.bounded b.bounded a.low h (placed x a).0 q.0 (let l = q.1 in omega arith)

  apart : index_of x < index_of y → index_of y < 1024 → T (le (wave_at x) (wave_at y))
  apart l m =
      let i = suc (index_of x) in
      let k = index_of y in
      let d = le_dest l in
      let e : entry i ≤ entry k = subst (λ (n : ℕ). entry i ≤ entry n) d.1 (entry_mono i d.0 (let z = d.1 in omega arith)) in
      le_trans (wave_at x) (level (entry i)) (wave_at y) (below_next x a (omega arith))
      (le_trans (level (entry i)) (level (entry k)) (wave_at y) (level_mono (entry i) (entry k) e (entry_most k (omega arith))) (above_own y b m))

  together : (i : ℕ) → index_of x ≡ i → index_of y ≡ i → i < 1024 → T (le (wave_at x) (wave_at y))
  together i p q l =
      let f = (count_held i (omega arith)).bounded in
      subst (λ (z : Float). T (le z (wave_at y))) (sym (between x a (omega arith) ∙ ap (λ (n : ℕ). line_of n (x ⊖ count_of n)) p))
      (subst (λ (z : Float). T (le (line_of i (x ⊖ count_of i)) z)) (sym (between y b (omega arith) ∙ ap (λ (n : ℕ). line_of n (y ⊖ count_of n)) q))
      (line_mono i l (x ⊖ count_of i) (y ⊖ count_of i)
      (subst (λ (n : ℕ). T (finite (x ⊖ count_of n))) p (rest_finite x a (omega arith)))
      (subst (λ (n : ℕ). T (finite (y ⊖ count_of n))) q (rest_finite y b (omega arith)))
      (subst (λ (n : ℕ). T (le f0 (x ⊖ count_of n))) p (rest_low x a (omega arith)))
      (sub_mono x (count_of i) y (count_of i) a.bounded f b.bounded f h (count_mono i i (omega arith)))
      (subst (λ (n : ℕ). T (le (y ⊖ count_of n) (count_of 1))) q (rest_high y b (omega arith)))))

  along_mono : T (le (wave_at x) (wave_at y))
  along_mono = elim (eq-or-lt_of_le (placed y b).1) [
    | inl e ↦ subst (λ (z : Float). T (le (wave_at x) z)) (sym (topmost y b e)) (within x a).1
    | inr m ↦ elim (eq-or-lt_of_le index_mono) [ inl e ↦ together (index_of y) e refl m | inr l ↦ apart l m ]
  ]

-- ---- a factor
along : (f : Float) → is_nan f ≡ false → Along (clamp_of f ⊗ steps)
along f n =
    let c = clamp_of f in
    let lo = clamp_low f n in
    let hi = clamp_high f n in
    let g = finite_between f0 c f1 zero-finite one_finite lo hi in
    let l = subst (λ (z : Float). T (le z (c ⊗ steps))) empty (mul_mono f0 steps c steps zero-finite steps-finite g steps-finite zero-zero steps_low lo steps_same) in
    let h = subst (λ (z : Float). T (le (c ⊗ steps) z)) full (mul_mono c steps f1 steps g steps-finite one_finite steps-finite lo steps_low hi steps_same) in
    record { bounded = finite_between f0 (c ⊗ steps) steps zero-finite steps-finite l h; low = l; high = h }

-- the value lies within 0..1
pub wave_within : (f : Float) → is_nan f ≡ false → T (le f0 (wave_of f)) × T (le (wave_of f) f1)
unfolding wave_of
wave_within f n = within (clamp_of f ⊗ steps) (along f n)

-- and never falls as the factor rises
pub wave_rising : (f g : Float) → T (le f g) → T (le (wave_of f) (wave_of g))
unfolding wave_of
wave_rising f g h =
    let nf = no_nan_l f g h in
    let ng = no_nan_r f g h in
    let cf = finite_between f0 (clamp_of f) f1 zero-finite one_finite (clamp_low f nf) (clamp_high f nf) in
    let cg = finite_between f0 (clamp_of g) f1 zero-finite one_finite (clamp_low g ng) (clamp_high g ng) in
    along_mono (clamp_of f ⊗ steps) (clamp_of g ⊗ steps) (along f nf) (along g ng)
    (mul_mono (clamp_of f) steps (clamp_of g) steps cf steps-finite cg steps-finite (clamp_low f nf) steps_low (clamp_mono f g h) steps_same)
