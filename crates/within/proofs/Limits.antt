-- The hold lies between the least threshold and the threshold in force; and a finite colour is near itself. Assumes nothing.
use mathlib.Core.Path.{◌≡◌, refl, sym}
use mathlib.Core.Bool.{Bool, true, false, cond, true≢false}
use Prim.Native.Nat.{◌-◌, ◌*◌}
use native.Mathlib.Nat.{mul-pos}
use native.Mathlib.Omega.{arith}
use borrow.Author.Tests.{le-ltb}
use lib.Dec.{T}
use lib.Ieee.{Float, nan, inf, fin, up, down, of_bits, add, sub, mul, div, sum, le, lt, is_nan, neg}
use lib.Ieee.Bits.{is_true}
use lib.Ieee.Fits.{down_pos}
use lib.Ieee.Scale.{finite}
use Rattle.float.specs.F32.{◌⊕◌, ◌⊖◌, ◌⊗◌, ◌⊘◌, f0, f1, f2}
use Rattle.float.specs.Number.{clamp_of}
use Rattle.float.proofs.Finite.{round-zero}
use Rattle.float.proofs.Flags.{parts4}
use Rattle.float.proofs.Order.{le_trans, not_lt_from_le, le_from_not_lt, lt_irrefl, no_nan_r, finite_between}
use Rattle.sqrt.specs.Root.{root_of}
use Rattle.blend.specs.declared.Rgba.{Rgba}
use Rattle.difference.specs.Difference.{clamped_of, squares_of, distance_of}
use Rattle.stops.specs.Stops.{finite_rgba}
use Rattle.stops.proofs.Valid.{finite_number}
use Rattle.sampling.specs.Constants.{least_threshold, most_threshold, default_threshold, threshold_of}
use Rattle.within.specs.Lists.{hold_of}

pick : (P : Float → Type 0) (b : Bool) (x y : Float) → (b ≡ true → P x) → (b ≡ false → P y) → P (cond b x y)
pick P true x y p q = p refl
pick P false x y p q = q refl

-- ---- the constants
least_number : is_nan least_threshold ≡ false
unfolding is_nan of_bits
least_number = refl

most_number : is_nan most_threshold ≡ false
unfolding is_nan of_bits
most_number = refl

least_least : T (le least_threshold least_threshold)
unfolding le of_bits
least_least = tt

least_most : T (le least_threshold most_threshold)
unfolding le of_bits
least_most = tt

least_default : T (le least_threshold default_threshold)
unfolding le of_bits
least_default = tt

zero_least : T (le f0 least_threshold)
unfolding le of_bits
zero_least = tt

-- ---- the threshold in force, and the hold
pub threshold_least : (asked : Float) → T (le least_threshold (threshold_of asked))
unfolding threshold_of
threshold_least x =
    pick (λ y. T (le least_threshold y)) (finite x) _ _
    (λ f. pick (λ y. T (le least_threshold y)) (lt x least_threshold) _ _ (λ e. least_least)
    (λ e. pick (λ y. T (le least_threshold y)) (lt most_threshold x) _ _ (λ d. least_most) (λ d. le_from_not_lt x least_threshold (finite_number x f) least_number e)))
    (λ f. least_default)

pub threshold_number : (asked : Float) → is_nan (threshold_of asked) ≡ false
unfolding threshold_of
threshold_number x =
    pick (λ y. is_nan y ≡ false) (finite x) _ _
    (λ f. pick (λ y. is_nan y ≡ false) (lt x least_threshold) _ _ (λ e. least_number)
    (λ e. pick (λ y. is_nan y ≡ false) (lt most_threshold x) _ _ (λ d. most_number) (λ d. finite_number x f)))
    (λ f. default_number)
  where
    default_number : is_nan default_threshold ≡ false
    default_number = unfold is_nan of_bits in refl

pub hold_least : (asked hold : Float) → T (le least_threshold (hold_of asked hold))
unfolding hold_of
hold_least asked hold =
    pick (λ y. T (le least_threshold y)) (finite hold) _ _
    (λ f. pick (λ y. T (le least_threshold y)) (lt hold least_threshold) _ _ (λ e. least_least)
    (λ e. pick (λ y. T (le least_threshold y)) (lt (threshold_of asked) hold) _ _ (λ d. threshold_least asked) (λ d. le_from_not_lt hold least_threshold (finite_number hold f) least_number e)))
    (λ f. least_least)

pub hold_most : (asked hold : Float) → T (le (hold_of asked hold) (threshold_of asked))
unfolding hold_of
hold_most asked hold =
    pick (λ y. T (le y (threshold_of asked))) (finite hold) _ _
    (λ f. pick (λ y. T (le y (threshold_of asked))) (lt hold least_threshold) _ _ (λ e. threshold_least asked)
    (λ e. pick (λ y. T (le y (threshold_of asked))) (lt (threshold_of asked) hold) _ _ (λ d. same) (λ d. le_from_not_lt (threshold_of asked) hold (threshold_number asked) (finite_number hold f) d)))
    (λ f. threshold_least asked)
  where
    same : T (le (threshold_of asked) (threshold_of asked))
    same = le_from_not_lt (threshold_of asked) (threshold_of asked) (threshold_number asked) (threshold_number asked) (lt_irrefl (threshold_of asked))

-- ---- the hold is a threshold in force
pub threshold_most : (asked : Float) → T (le (threshold_of asked) most_threshold)
unfolding threshold_of
threshold_most x =
    pick (λ y. T (le y most_threshold)) (finite x) _ _
    (λ f. pick (λ y. T (le y most_threshold)) (lt x least_threshold) _ _ (λ e. least_most)
    (λ e. pick (λ y. T (le y most_threshold)) (lt most_threshold x) _ _ (λ d. most_most) (λ d. le_from_not_lt most_threshold x most_number (finite_number x f) d)))
    (λ f. default_most)
  where
    most_most : T (le most_threshold most_threshold)
    most_most = unfold le of_bits in tt

    default_most : T (le default_threshold most_threshold)
    default_most = unfold le of_bits in tt

least_finite : T (finite least_threshold)
unfolding of_bits
least_finite = tt

most_finite : T (finite most_threshold)
unfolding of_bits
most_finite = tt

pub hold_number : (asked hold : Float) → is_nan (hold_of asked hold) ≡ false
hold_number asked hold = no_nan_r least_threshold (hold_of asked hold) (hold_least asked hold)

in_force : (x : Float) → T (le least_threshold x) → T (le x most_threshold) → threshold_of x ≡ x
unfolding threshold_of
in_force x a b =
    let f : finite x ≡ true = is_true _ (finite_between least_threshold x most_threshold least_finite most_finite a b) in
    simp (f, not_lt_from_le x least_threshold a, not_lt_from_le most_threshold x b)

pub hold_in_force : (asked hold : Float) → threshold_of (hold_of asked hold) ≡ hold_of asked hold
hold_in_force asked hold = in_force (hold_of asked hold) (hold_least asked hold) (le_trans (hold_of asked hold) (threshold_of asked) most_threshold (hold_most asked hold) (threshold_most asked))

-- ---- a colour and itself
sub_self : (x : Float) → finite x ≡ true → x ⊖ x ≡ f0
unfolding sub add neg sum of_bits
sub_self nan h = absurd (true≢false (sym h))
sub_self (inf s) h = absurd (true≢false (sym h))
sub_self (fin true m e) h =
    let a = m * up e * down e in
    simp (le-ltb a a (omega arith)) (round-zero false (a - a) (down e * down e) (omega arith) (mul-pos (down_pos e) (down_pos e)))
sub_self (fin false m e) h =
    let a = m * up e * down e in
    simp (le-ltb a a (omega arith)) (round-zero false (a - a) (down e * down e) (omega arith) (mul-pos (down_pos e) (down_pos e)))

clamp_finite : (x : Float) → finite x ≡ true → finite (clamp_of x) ≡ true
unfolding clamp_of
clamp_finite x h = pick (λ y. finite y ≡ true) (lt x f0) _ _ (λ e. zero) (λ e. pick (λ y. finite y ≡ true) (lt f1 x) _ _ (λ d. one) (λ d. h))
  where
    zero : finite f0 ≡ true
    zero = unfold of_bits in refl

    one : finite f1 ≡ true
    one = unfold of_bits in refl

nothing : root_of (f0 ⊗ f0 ⊕ f0 ⊗ f0 ⊕ f0 ⊗ f0 ⊕ f0 ⊗ f0) ⊘ f2 ≡ f0
unfolding root_of add mul div of_bits
nothing = refl

pub self_distance : (c : Rgba) → finite_rgba c ≡ true → distance_of c c ≡ f0
unfolding squares_of clamped_of
self_distance c h =
    let p = parts4 (finite c.r) (finite c.g) (finite c.b) (finite c.a) h in
    simp (sub_self (clamp_of c.r) (clamp_finite c.r p.0), sub_self (clamp_of c.g) (clamp_finite c.g p.1), sub_self (clamp_of c.b) (clamp_finite c.b p.2), sub_self (clamp_of c.a) (clamp_finite c.a p.3)) nothing

pub self_near : (asked hold : Float) (c : Rgba) → finite_rgba c ≡ true → T (le (distance_of c c) (hold_of asked hold))
self_near asked hold c h = rw (self_distance c h) (le_trans f0 least_threshold (hold_of asked hold) zero_least (hold_least asked hold))
