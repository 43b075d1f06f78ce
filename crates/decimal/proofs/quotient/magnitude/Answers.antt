-- `decimal::quotient::magnitude` meets its contract: the division's parts are the bits' fields. Assumes nothing.
use mathlib.Core.Path.{◌≡◌, sym, ap, ◌∙◌}
use mathlib.Core.Bool.{cond}
use Prim.Native.Nat.{ℕ, ◌+◌, ◌-◌, ◌*◌, ◌%◌, ◌^◌, ◌≤◌, compare}
use native.Mathlib.Nat.{add-zero, add_assoc, le_trans, le_of_eq}
use native.Mathlib.Omega.{arith}
use lib.Ieee.{binary32, round, to_bits}
use lib.Ieee.Fits.{nearest-le}
use lib.Count.{count_leading_zeros}
use Rattle.decimal.proofs.Division.{moved_long}
use Rattle.float.proofs.Fraction.{bits_are, bits_zero}
use Rattle.float.proofs.Counted.{Shifted, shifted}
use Rattle.decimal.proofs.Scale.{five_le, ten_le, unit_is}
use Rattle.decimal.proofs.quotient.magnitude.Goals as goal
use Rattle.decimal.proofs.quotient.magnitude.Lts
use Rattle.decimal.proofs.quotient.magnitude.Tie
use Rattle.decimal.proofs.quotient.magnitude.Reads

abbrev At-Else-d-eq0 : Type 0
At-Else-d-eq0 = Lts.Else1 Tie.the-claims Reads.Pre Reads.Post

abbrev At-After-rounded-q : Type 0
At-After-rounded-q = Lts.After-rounded Tie.the-claims Reads.Pre Reads.Post

-- d moved up by its leading zeros
up_to_top : (c : At-Else-d-eq0) → Shifted c.args.d (c.args.d * 2 ^ count_leading_zeros 64 c.args.d % 2 ^ 64) (count_leading_zeros 64 c.args.d)
up_to_top c = shifted c.args.d (omega arith) (omega arith)

-- the rounded quotient has 24 digits, or is the one number of 25 that rounding up can make
tops : (c : At-After-rounded-q) → c.rounded-q.result ≤ 16777216
tops c = le_trans (le_of_eq c.rounded-q.ensures) (le_trans (nearest-le c.divided-f.result.m (compare (c.divided-f.result.rest * 2) c.scaled-by.result.den)) c.divided-f.ensures.hi)

pub returns-then-d-eq0 : goal.returns-then-d-eq0
returns-then-d-eq0 c =
    let p = 10 ^ c.args.places in
    record { small = omega arith; signed = λ s. add-zero _ ∙ sym (bits_zero s p (ten_le 0 c.args.places (omega arith))) ∙ ap (λ (d : ℕ). to_bits binary32 (round binary32 s d p)) (sym c.if-d-eq0.true) }

pub overflow_cast-num : goal.overflow_cast-num
overflow_cast-num c = let h = up_to_top c in omega arith

pub overflow_shl-num : goal.overflow_shl-num
overflow_shl-num c = (up_to_top c).few

pub scaled-by-requires : goal.scaled-by-requires
scaled-by-requires c =
    let k = c.args.places in
    let e : c.args.five ≡ 5 ^ k = c.requires.1 in
    let l : 5 ^ k ≤ 5 ^ 27 = five_le k 27 (omega arith) in
    let m : 1 ≤ 5 ^ k = five_le 0 k (omega arith) in
    (omega arith, omega arith)

pub divided-f-requires : goal.divided-f-requires
divided-f-requires c = let h = up_to_top c.before in (h.full, (c.scaled-by.ensures.bound, c.scaled-by.ensures.above))

pub overflow_cast-down : goal.overflow_cast-down
overflow_cast-down c = let h = up_to_top c.before.before in omega arith

pub overflow_add-down : goal.overflow_add-down
overflow_add-down c = let h = up_to_top c.before.before.before in omega arith

pub overflow_add-down-2 : goal.overflow_add-down-2
overflow_add-down-2 c = let h = up_to_top c.before.before.before in omega arith

pub overflow_sub-result : goal.overflow_sub-result
overflow_sub-result c = let h = up_to_top c.before.before.before.before in omega arith

pub overflow_add-result-2 : goal.overflow_add-result-2
overflow_add-result-2 c = omega (arith, tops c)

pub overflow_cast-result : goal.overflow_cast-result
overflow_cast-result c = omega (arith, tops c)

pub returns : goal.returns
returns c =
    let a = c.args in
    let g = c.scaled-by in
    let f = c.divided-f in
    let h = up_to_top c.before.before.before.before in
    let z = count_leading_zeros 64 a.d in
    let k = 149 + g.result.up - (z + f.result.down + a.places) in
    let e : a.places + (k + (z + f.result.down)) ≡ 149 + g.result.up = omega arith in
    record {
      small = omega (arith, tops c);
      signed = λ s.
          sym (add_assoc (cond s (2 ^ 31) 0) (k * 8388608) c.rounded-q.result)
          ∙ ap (λ (x : ℕ). cond s (2 ^ 31) 0 + k * 8388608 + x) c.rounded-q.ensures
          ∙ sym (bits_are s a.d (10 ^ a.places) f.result.m f.result.rest g.result.den (z + f.result.down) k
          (ten_le 0 a.places (omega arith)) (moved_long a.d _ z g.result.den f.result.m f.result.rest f.result.down h.is f.ensures.long) f.ensures.less
          (unit_is a.places g.result.den g.result.up (k + (z + f.result.down)) (g.ensures.is ∙ ap (λ (x : ℕ). x * 2 ^ g.result.up) c.requires.1) e) f.ensures.lo f.ensures.hi (omega arith));
    }
