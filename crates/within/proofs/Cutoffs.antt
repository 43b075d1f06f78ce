-- With the cutoffs of the threshold and of the hold one comparison says the same: a difference that is not a number fails both. Assumes nothing.
use mathlib.Core.Path.{◌≡◌, refl, sym, ap, ◌∙◌, subst, fun_ext}
use mathlib.Core.Bool.{Bool, true, false, not, cond}
use mathlib.Core.Logic.{◌⊎◌, inl, inr}
use Prim.Native.Nat.{◌+◌, ◌*◌}
use native.Mathlib.Nat.{mul-pos, zero-mul}
use native.Mathlib.Omega.{arith}
use lib.Dec.{T, eqb}
use lib.Ieee.{Float, nan, inf, fin, binary32, up, down, fits, of_bits, add, mul, div, le, is_nan}
use lib.Ieee.Fits.{down_pos, add-fits}
use lib.Ieee.Scale.{finite}
use Rattle.float.specs.F32.{◌⊕◌, ◌⊖◌, ◌⊘◌, f0, f2}
use Rattle.float.proofs.Order.{le_refl, no_nan_l, no_nan_r}
use Rattle.float.proofs.Rounding.{dens_pos, no_con}
use Rattle.float.proofs.SignedRound.{rounds_le, round_rounds, zero_rounds, add_rounds, half_rounds, con}
use lib.Ieee.Positive.{den}
use Rattle.sqrt.specs.Root.{root_of}
use Rattle.sqrt.specs.Cutoff.{IsCutoff}
use Rattle.sqrt.proofs.Theorems.{root_keeps_order}
use Rattle.blend.specs.declared.Rgba.{Rgba}
use Rattle.difference.specs.Difference.{square, clamped_of, squares_of}
use Rattle.stops.proofs.Choice.{le_is}
use Rattle.weighed.specs.Points.{sampled_mark}
use Rattle.within.specs.Shown.{near_within, near_below}

-- not-a-number, or not below zero
abbrev Above : Float → Type 0
Above x = (x ≡ nan) ⊎ T (le f0 x)

zero_infinity : T (le f0 (inf false))
unfolding le of_bits
zero_infinity = tt

square_above : (x : Float) → Above (square x)
unfolding mul
square_above nan = inl refl
square_above (inf true) = inr zero_infinity
square_above (inf false) = inr zero_infinity
square_above (fin true m e) = inr (rounds_le zero_rounds (round_rounds false (m * up e * (m * up e)) (down e * down e)) (omega arith) (mul-pos (down_pos e) (down_pos e)) (omega arith))
square_above (fin false m e) = inr (rounds_le zero_rounds (round_rounds false (m * up e * (m * up e)) (down e * down e)) (omega arith) (mul-pos (down_pos e) (down_pos e)) (omega arith))

sum_above : (x y : Float) → T (finite x) → T (finite y) → T (le f0 x) → T (le f0 y) → T (le f0 (x ⊕ y))
sum_above x y fx fy hx hy =
    let p = no_con x fx hx in
    let q = no_con y fy hy in
    let z : con x * den y + con y * den x ≡ 0 = rw (p, q, zero-mul (den y), zero-mul (den x)) in
    rounds_le zero_rounds (add_rounds x y fx fy) (omega arith) (dens_pos x y) (omega arith)

plus_above : (x y : Float) → Above x → Above y → Above (x ⊕ y)
unfolding add le of_bits
plus_above nan y a b = inl refl
plus_above (inf s) nan a b = inl refl
plus_above (inf true) (inf t) (inl e) b = inl (ap (λ (z : Float). add binary32 z (inf t)) e)
plus_above (inf true) (inf t) (inr h) b = absurd h
plus_above (inf true) (fin t n d) (inl e) b = inl (ap (λ (z : Float). add binary32 z (fin t n d)) e)
plus_above (inf true) (fin t n d) (inr h) b = absurd h
plus_above (inf false) (inf true) a (inl e) = inl refl
plus_above (inf false) (inf true) a (inr h) = absurd h
plus_above (inf false) (inf false) a b = inr tt
plus_above (inf false) (fin t n d) a b = inr tt
plus_above (fin s m e) nan a b = inl refl
plus_above (fin s m e) (inf true) a (inl z) = inl (ap (λ (y : Float). add binary32 (fin s m e) y) z)
plus_above (fin s m e) (inf true) a (inr h) = absurd h
plus_above (fin s m e) (inf false) a b = inr tt
plus_above (fin s m e) (fin t n d) (inl z) b = inl (ap (λ (x : Float). add binary32 x (fin t n d)) z)
plus_above (fin s m e) (fin t n d) (inr h) (inl z) = inl (ap (λ (y : Float). add binary32 (fin s m e) y) z)
plus_above (fin s m e) (fin t n d) (inr h) (inr k) = inr (sum_above (fin s m e) (fin t n d) tt tt h k)

squares_above : (x y : Rgba) → Above (squares_of x y)
unfolding squares_of
squares_above x y =
    plus_above _ _ (plus_above _ _ (plus_above _ _ (square_above (x.r ⊖ y.r)) (square_above (x.g ⊖ y.g))) (square_above (x.b ⊖ y.b))) (square_above (x.a ⊖ y.a))

squares_fit : (x y : Rgba) → T (fits binary32 (squares_of x y))
unfolding squares_of
squares_fit x y = add-fits binary32 _ _

-- ---- half a root is a number
half_number : (x : Float) → is_nan x ≡ false → is_nan (x ⊘ f2) ≡ false
unfolding div is_nan of_bits
half_number nan h = h
half_number (inf s) h = refl
half_number (fin s m e) h = no_nan_l (fin s m e ⊘ f2) (fin s m e ⊘ f2) (rounds_le (half_rounds (fin s m e) tt) (half_rounds (fin s m e) tt) (mul-pos (omega arith) (down_pos e)) (mul-pos (omega arith) (down_pos e)) (omega arith))

abbrev half_root : Float → Float
half_root s = root_of s ⊘ f2

root_number : (s : Float) → T (fits binary32 s) → T (le f0 s) → is_nan s ≡ false → is_nan (half_root s) ≡ false
root_number s f h n = half_number (root_of s) (no_nan_l (root_of s) (root_of s) (root_keeps_order s s f f h (le_refl s n)))

nan_nan : (c t : Float) → le nan c ≡ le (half_root nan) t
unfolding le root_of div
nan_nan c t = refl

module _ (threshold cutoff : Float) (w : IsCutoff threshold cutoff) (number : is_nan threshold ≡ false) where
  at_number : (s : Float) → T (fits binary32 s) → T (le f0 s) → is_nan s ≡ false → le s cutoff ≡ le (half_root s) threshold
  at_number s f h n =
      le_is s cutoff n w.number ∙ ap not (sym (w.cuts s f)) ∙ sym (le_is (half_root s) threshold (root_number s f h n) number)

  pub by_cutoff : (s : Float) → T (fits binary32 s) → Above s → le s cutoff ≡ le (half_root s) threshold
  by_cutoff s f (inl e) = subst (λ (x : Float). le x cutoff ≡ le (half_root x) threshold) (sym e) (nan_nan cutoff threshold)
  by_cutoff s f (inr h) = at_number s f h (go (is_nan s) refl)
    where
      go : (b : Bool) → is_nan s ≡ b → is_nan s ≡ false
      go b e = no_nan_r f0 s h

-- ---- both tests
module _ (threshold hold c h : Float) (v : IsCutoff threshold c) (w : IsCutoff hold h) (nt : is_nan threshold ≡ false) (nh : is_nan hold ≡ false) where
  pub same_near : near_below c h ≡ near_within threshold hold
  unfolding near_below near_within
  same_near = fun_ext (λ m. fun_ext (λ x. fun_ext (λ y. go (eqb m sampled_mark) (squares_of (clamped_of x) (clamped_of y)) (squares_fit (clamped_of x) (clamped_of y)) (squares_above (clamped_of x) (clamped_of y)))))
    where
      go : (b : Bool) (s : Float) → T (fits binary32 s) → Above s → le s (cond b c h) ≡ le (half_root s) (cond b threshold hold)
      go true s f a = by_cutoff threshold c v nt s f a
      go false s f a = by_cutoff hold h w nh s f a
