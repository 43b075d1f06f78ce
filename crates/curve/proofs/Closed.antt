-- Facts on 0 and 1, computed. Assumes nothing.
use mathlib.Core.Path.{◌≡◌, refl}
use mathlib.Core.Bool.{false}
use lib.Dec.{T}
use lib.Ieee.{is_nan, of_bits, of_int, le}
use lib.Ieee.Scale.{finite}
use Rattle.float.specs.F32.{f0, f1}
use Rattle.float.specs.Number.{count_of}

pub zero-finite : T (finite f0)
unfolding of_bits
zero-finite = tt

pub one_finite : T (finite f1)
unfolding of_bits
one_finite = tt

pub zero-zero : T (le f0 f0)
unfolding of_bits le
zero-zero = tt

pub zero_one : T (le f0 f1)
unfolding of_bits le
zero_one = tt

pub one_one : T (le f1 f1)
unfolding of_bits le
one_one = tt

pub one_over : le f1 f0 ≡ false
unfolding of_bits le
one_over = refl

pub zero_number : is_nan f0 ≡ false
unfolding of_bits is_nan
zero_number = refl

pub one_number : is_nan f1 ≡ false
unfolding of_bits is_nan
one_number = refl

pub zero_count : count_of 0 ≡ f0
unfolding of_int of_bits
zero_count = refl

pub one_count : count_of 1 ≡ f1
unfolding of_int of_bits
one_count = refl
