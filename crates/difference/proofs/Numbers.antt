-- Where the difference of two colours is a number, so are their channels: not-a-number stays through every operation. Assumes nothing.
use mathlib.Core.Path.{◌≡◌, refl}
use mathlib.Core.Bool.{false, true≢false}
use lib.Ieee.{Float, nan, inf, fin, of_bits, neg, add, sub, mul, div, lt, is_nan}
use Rattle.float.specs.F32.{◌⊕◌, ◌⊖◌, ◌⊗◌, ◌⊘◌, f2}
use Rattle.float.specs.Number.{clamp_of}
use Rattle.sqrt.specs.Root.{root_of}
use Rattle.blend.specs.declared.Rgba.{Rgba}
use Rattle.difference.specs.Difference.{clamped_of, squares_of, distance_of}

abbrev pub Number : Float → Type 0
Number x = is_nan x ≡ false

pub record Numbers (c : Rgba) : Type 0 where
  pub red : Number c.r
  pub green : Number c.g
  pub blue : Number c.b
  pub alpha : Number c.a

-- ---- of a result that is a number each operand is one
sum_left : (x y : Float) → Number (x ⊕ y) → Number x
unfolding add is_nan
sum_left nan y h = h
sum_left (inf s) y h = refl
sum_left (fin s m e) y h = refl

sum_right : (x y : Float) → Number (x ⊕ y) → Number y
unfolding add is_nan
sum_right nan y h = absurd (true≢false h)
sum_right (inf s) nan h = h
sum_right (inf s) (inf t) h = refl
sum_right (inf s) (fin t n d) h = refl
sum_right (fin s m e) nan h = h
sum_right (fin s m e) (inf t) h = refl
sum_right (fin s m e) (fin t n d) h = refl

of_neg : (x : Float) → Number (neg x) → Number x
unfolding neg is_nan
of_neg nan h = h
of_neg (inf s) h = refl
of_neg (fin s m e) h = refl

difference_left : (x y : Float) → Number (x ⊖ y) → Number x
unfolding sub
difference_left x y h = sum_left x (neg y) h

difference_right : (x y : Float) → Number (x ⊖ y) → Number y
unfolding sub
difference_right x y h = of_neg y (sum_right x (neg y) h)

of_square : (x : Float) → Number (x ⊗ x) → Number x
unfolding mul is_nan
of_square nan h = h
of_square (inf s) h = refl
of_square (fin s m e) h = refl

of_root : (x : Float) → Number (root_of x) → Number x
unfolding root_of is_nan
of_root nan h = h
of_root (inf s) h = refl
of_root (fin s m e) h = refl

of_half : (x : Float) → Number (x ⊘ f2) → Number x
unfolding div is_nan
of_half nan h = h
of_half (inf s) h = refl
of_half (fin s m e) h = refl

of_clamp : (x : Float) → Number (clamp_of x) → Number x
unfolding clamp_of lt is_nan of_bits
of_clamp nan h = h
of_clamp (inf s) h = refl
of_clamp (fin s m e) h = refl

-- ---- of colours
module _ (x y : Rgba) (h : Number (squares_of x y)) where
  fourth : Number (x.a ⊖ y.a)
  unfolding squares_of
  fourth = of_square (x.a ⊖ y.a) (sum_right _ _ h)

  third : Number (x.b ⊖ y.b)
  unfolding squares_of
  third = of_square (x.b ⊖ y.b) (sum_right _ _ (sum_left _ _ h))

  second : Number (x.g ⊖ y.g)
  unfolding squares_of
  second = of_square (x.g ⊖ y.g) (sum_right _ _ (sum_left _ _ (sum_left _ _ h)))

  first : Number (x.r ⊖ y.r)
  unfolding squares_of
  first = of_square (x.r ⊖ y.r) (sum_left _ _ (sum_left _ _ (sum_left _ _ h)))

  left : Numbers x
  left = record { red = difference_left _ _ first; green = difference_left _ _ second; blue = difference_left _ _ third; alpha = difference_left _ _ fourth }

  right : Numbers y
  right = record { red = difference_right _ _ first; green = difference_right _ _ second; blue = difference_right _ _ third; alpha = difference_right _ _ fourth }

clamped_numbers : (x : Rgba) → Numbers (clamped_of x) → Numbers x
unfolding clamped_of
clamped_numbers x w = record { red = of_clamp _ w.red; green = of_clamp _ w.green; blue = of_clamp _ w.blue; alpha = of_clamp _ w.alpha }

pub numbers : (x y : Rgba) → Number (distance_of x y) → Numbers x × Numbers y
numbers x y h =
    let s = of_root _ (of_half _ h) in
    (clamped_numbers x (left (clamped_of x) (clamped_of y) s), clamped_numbers y (right (clamped_of x) (clamped_of y) s))
