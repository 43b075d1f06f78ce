-- `decimal::digits` meets its contract. The loop's invariant: the digits so far make value, which is less than 10 for each byte so far. Assumes nothing.
use mathlib.Core.Path.{sym}
use Prim.Native.Nat.{◌-◌, ◌^◌, ◌≤◌}
use native.Mathlib.Omega.{arith}
use Rattle.decimal.specs.Decimal.{most_digits}
use Rattle.decimal.proofs.Place.{held_start, held_next, held_stop, held_end}
use Rattle.decimal.proofs.Scale.{five_le, ten_le}
use Rattle.decimal.proofs.digits.Goals as goal
use Rattle.decimal.proofs.digits.Goals.{Else-not-is_ascii_digit}

-- at most as many digits as a token may have came before one that is read
room : (c : Else-not-is_ascii_digit) → 10 ^ c.loop-i.i ≤ 10 ^ most_digits
room c = ten_le c.loop-i.i most_digits (omega arith)

pub loop-i-init : goal.loop-i-init
loop-i-init c = held_start _ _ _ c.requires.1.1

pub returns-then-not-is_ascii_digit : goal.returns-then-not-is_ascii_digit
returns-then-not-is_ascii_digit c = held_stop _ _ _ _ _ _ c.loop-i.invariant c.loop-i-test.true (sym c.if-not-is_ascii_digit.ensures.value)

pub overflow_mul-value : goal.overflow_mul-value
overflow_mul-value c = omega (arith, room c)

pub overflow_add-value : goal.overflow_add-value
overflow_add-value c = omega (arith, room c)

pub overflow_mul-five : goal.overflow_mul-five
overflow_mul-five c = omega (arith, c.loop-i.invariant.fives, five_le (c.loop-i.i - c.args.from) most_digits (omega arith))

pub loop-i-preserved : goal.loop-i-preserved
loop-i-preserved c = let b = c.if-not-is_ascii_digit.ensures.cases in held_next _ _ _ _ _ _ c.loop-i.invariant c.loop-i.auto.i c.loop-i-test.true b.0 b.1

pub returns : goal.returns
returns c = held_end _ _ _ _ _ _ c.loop-i.invariant (omega arith)
