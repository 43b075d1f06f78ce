-- `decimal::wide::times` meets its contract: each word is k times, with what the one below it is over. Assumes nothing.
use Prim.Native.Nat.{ℕ, ◌+◌, ◌*◌, ◌/◌, ◌^◌, ◌≤◌, ◌<◌}
use native.Mathlib.Nat.{mul-le-mul_left}
use native.Mathlib.Omega.{arith}
use Rattle.decimal.proofs.Words.{times_is}
use Rattle.decimal.proofs.wide.times.Goals as goal

-- a word is at most 5 times
five : (x k : ℕ) → k ≤ 5 → x * k ≤ x * 5
five x k h = mul-le-mul_left x h

-- what a word is over, and the first word with it
over : (x y : ℕ) → x ≤ 5 * 1152921504606846976 → y ≤ 6 → (x + y) / 1152921504606846976 ≤ 6
over x y h g = omega arith

first : (x y : ℕ) → x ≤ 10 * 1152921504606846976 → y ≤ 6 → x + y < 2 ^ 64
first x y h g = omega arith

pub overflow_mul-lo : goal.overflow_mul-lo
overflow_mul-lo c = let a = c.args in let h = five a.w.lo a.k (omega arith) in record { fits = omega arith }

pub overflow_mul-mid : goal.overflow_mul-mid
overflow_mul-mid c = let a = c.args in let h = five a.w.mid a.k (omega arith) in record { fits = omega arith }

pub overflow_add-mid : goal.overflow_add-mid
overflow_add-mid c =
    let a = c.args in
    let h = five a.w.mid a.k (omega arith) in
    let g = five a.w.lo a.k (omega arith) in
    record { fits = omega arith }

pub overflow_mul-hi : goal.overflow_mul-hi
overflow_mul-hi c = let a = c.args in let h = five a.w.hi a.k (omega arith) in record { fits = omega arith }

pub overflow_add-hi : goal.overflow_add-hi
overflow_add-hi c =
    let a = c.args in
    let h = five a.w.hi a.k (omega arith) in
    let g = five a.w.mid a.k (omega arith) in
    let f = five a.w.lo a.k (omega arith) in
    record { fits = first (a.w.hi * a.k) _ (omega arith) (over (a.w.mid * a.k) _ (omega arith) (omega arith)) }

pub returns : goal.returns
returns c = times_is c.args.w.hi c.args.w.mid c.args.w.lo c.args.k
