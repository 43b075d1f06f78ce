-- `decimal::near::near_magnitude` meets its contract: where it tells bits, the rest is far from nothing and from a half. Assumes nothing.
use mathlib.Core.Path.{◌≡◌, sym, subst}
use mathlib.Core.Logic.{inl, inr}
use Prim.Native.Nat.{ℕ, ◌+◌, ◌-◌, ◌*◌, ◌/◌, ◌%◌, ◌^◌, ◌≤◌, ◌<◌, compare}
use native.Mathlib.Nat.{div-add-mod', mod-lt, le_trans, le_of_eq, le-div_iff_mul-le, div-lt_iff_lt-mul}
use native.Mathlib.Omega.{arith}
use lib.Count.{count_leading_zeros}
use lib.Ieee.Fits.{nearest-le}
use Rattle.std.specs.Prelude.{Some, None}
use Rattle.decimal.specs.inner.Near.{NearOf}
use Rattle.decimal.specs.inner.Steps.{BitsOf}
use Rattle.float.proofs.Counted.{Shifted, shifted}
use Rattle.decimal.proofs.NearDivision.{near_bits}
use Rattle.decimal.proofs.near.near_magnitude.Goals as goal
use Rattle.decimal.proofs.near.near_magnitude.Goals.{then-den-rest+else-rest-den, else-den-rest}
use Rattle.decimal.proofs.near.near_magnitude.Lts
use Rattle.decimal.proofs.near.near_magnitude.Tie
use Rattle.decimal.proofs.near.near_magnitude.Reads

abbrev At-Start : Type 0
At-Start = Lts.Start Tie.the-claims Reads.Pre Reads.Post

abbrev At-After-fitted-by : Type 0
At-After-fitted-by = Lts.After-fitted Tie.the-claims Reads.Pre Reads.Post

abbrev At-After-rounded-q : Type 0
At-After-rounded-q = Lts.After-rounded Tie.the-claims Reads.Pre Reads.Post

unsure : (d p : ℕ) → NearOf d p None
unsure d p b e = cc

told : (d p r : ℕ) → BitsOf d p r → NearOf d p (Some r)
told d p r h b e = let same : r ≡ b = cc in subst (BitsOf d p) same h

-- d moved up by its leading zeros
up_to_top : (c : At-Start) → Shifted c.args.d (c.args.d * 2 ^ count_leading_zeros 64 c.args.d % 2 ^ 64) (count_leading_zeros 64 c.args.d)
up_to_top c = shifted c.args.d c.requires.0 (omega arith)

-- the quotient has 24 digits
module _ (c : At-After-fitted-by) where
  abbrev num : ℕ
  num = c.args.d * 2 ^ count_leading_zeros 64 c.args.d % 2 ^ 64

  abbrev den : ℕ
  den = c.fitted-by.result.den

  goes : 8388608 * den ≤ num
  goes = c.fitted-by.ensures.under (up_to_top c.before.before.before.before).full c.first_forty.ensures.hi

  den_pos : 0 < den
  den_pos = let h = c.fitted-by.ensures.above in omega arith

  den_few : den < 2 ^ 42
  den_few = let h = (up_to_top c.before.before.before.before).less in let l = goes in omega arith

  long : num ≡ num / den * den + num % den
  long = sym (div-add-mod' _ _)

  less : num % den < den
  less = mod-lt _ den_pos

  lo : 8388608 ≤ num / den
  lo = (le-div_iff_mul-le den_pos).1 goes

  hi : num / den < 16777216
  hi = (div-lt_iff_lt-mul den_pos).1 c.fitted-by.ensures.above

-- the rounded quotient has 24 digits, or is the one number of 25 that rounding up can make
tops : (c : At-After-rounded-q) → c.rounded-q.result ≤ 16777216
tops c = let a = c.before.before.before in le_trans (le_of_eq c.rounded-q.ensures) (le_trans (nearest-le (num a / den a) (compare (num a % den a * 2) (den a))) (hi a))

clear : (rest den m : ℕ) → den ≤ rest * 2 → 4 * m + 2 < rest * 2 - den → den + 2 + 4 * m < rest * 2
clear rest den m h l = omega arith

pub overflow_cast-taken : goal.overflow_cast-taken
overflow_cast-taken c = let h = up_to_top c in omega arith

pub overflow_add-taken : goal.overflow_add-taken
overflow_add-taken c = let h = up_to_top c in omega arith

pub overflow_add-taken-2 : goal.overflow_add-taken-2
overflow_add-taken-2 c = let h = up_to_top c in omega arith

pub overflow_cast-num : goal.overflow_cast-num
overflow_cast-num c = let h = up_to_top c.before.before in omega arith

pub overflow_shl-num : goal.overflow_shl-num
overflow_shl-num c = (up_to_top c.before.before).few

-- past 5 ^ 56 the number is below the normal ones
pub first_forty-requires : goal.first_forty-requires
first_forty-requires c = (c.if-down-lt18.false, omega arith)

pub fitted-by-requires : goal.fitted-by-requires
fitted-by-requires c = let f = c.first_forty.ensures in (f.lo, omega (arith, f.hi))

pub nonzero_div-m : goal.nonzero_div-m
nonzero_div-m c = let h = den_pos c in omega arith

pub nonzero_rem-rest : goal.nonzero_rem-rest
nonzero_rem-rest c = let h = den_pos c in omega arith

pub overflow_mul-m : goal.overflow_mul-m
overflow_mul-m c = let h = hi c in record { fits = omega arith }

-- twice the rest fits a word
pub overflow_mul-rest : goal.overflow_mul-rest
overflow_mul-rest c = let h = less c.before in let d = den_few c.before in record { fits = omega arith }

pub overflow_mul-rest-then-den-rest : goal.overflow_mul-rest-then-den-rest
overflow_mul-rest-then-den-rest c = let h = less c.before.before in let d = den_few c.before.before in record { fits = omega arith }

pub overflow_mul-m-then-den-rest : goal.overflow_mul-m-then-den-rest
overflow_mul-m-then-den-rest c = let h = hi c.before.before in record { fits = omega arith }

pub overflow_add-m : goal.overflow_add-m
overflow_add-m c = let h = hi c.before.before in record { fits = omega arith }

pub rounded-q-requires : goal.rounded-q-requires
rounded-q-requires c = let a = c.before.before in let d = den_few a in (hi a, (less a, omega arith))

pub overflow_sub-result : goal.overflow_sub-result
overflow_sub-result c = omega arith

pub overflow_mul-result : goal.overflow_mul-result
overflow_mul-result c = let o = c.fitted-by.ensures.once in record { fits = omega arith }

pub overflow_add-result-2 : goal.overflow_add-result-2
overflow_add-result-2 c = let o = c.fitted-by.ensures.once in let h = tops c.before in record { fits = omega arith }

pub overflow_cast-result : goal.overflow_cast-result
overflow_cast-result c = let o = c.fitted-by.ensures.once in let h = tops c.before in record { fits = omega arith }

pub returns-then-taken-gt188 : goal.returns-then-taken-gt188
returns-then-taken-gt188 c = unsure _ _

pub returns-then-down-lt18 : goal.returns-then-down-lt18
returns-then-down-lt18 c = unsure _ _

pub returns-then-rest-m : goal.returns-then-rest-m
returns-then-rest-m c = unsure _ _

pub returns-then-rest-den : goal.returns-then-rest-den
returns-then-rest-den c = unsure _ _

pub returns : goal.returns
returns c =
    let a = c.before.before.before.before in
    let s = a.before.before.before.before in
    let z = count_leading_zeros 64 s.args.d in
    let up = a.fitted-by.result.up in
    let n = s.args.down in
    let o = a.fitted-by.ensures.once in
    told _ _ _
    (near_bits s.args.d n z _ (num a) (den a) up (num a / den a) (num a % den a) (up_to_top s).is a.first_forty.ensures a.fitted-by.ensures (long a) (less a) c.if-rest-m.false
    (elim c.if-den-rest.branch [
      | then-den-rest+else-rest-den w ↦ inr (clear _ _ _ w.if-den-rest.true w.if-rest-den.false)
      | else-den-rest w ↦ inl w.if-den-rest.false
    ])
    (188 + up - (z + n + n * 4755 / 2048)) (omega arith) (lo a) (hi a) (omega arith) _ c.rounded-q.ensures)
