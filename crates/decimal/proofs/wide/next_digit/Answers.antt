-- `decimal::wide::next_digit` meets its contract: the digit is 1 where den goes into twice the rest. Assumes nothing.
use mathlib.Core.Bool.{true, false}
use mathlib.Core.Path.{sym, ◌∙◌}
use native.Mathlib.Nat.{le_of_lt}
use native.Mathlib.Omega.{arith}
use Rattle.decimal.proofs.WideTurns.{digit_zero, digit_one}
use Rattle.decimal.proofs.Words.{hi_le, twice_hi, is_less}
use Rattle.decimal.proofs.wide.next_digit.Goals as goal

-- the rest is less than den, and so is its first word
pub times-two-requires : goal.times-two-requires
times-two-requires c = let h = hi_le c.args.rest c.args.den (le_of_lt c.requires.0) in (omega arith, omega arith)

pub returns-then-lt : goal.returns-then-lt
returns-then-lt c = digit_zero _ _ _ _ c.requires.1.1 c.times-two.ensures (is_less c.times-two.result c.args.den true (sym c.if-lt.true ∙ c.lt.ensures))

pub without-requires : goal.without-requires
without-requires c =
    let r = c.args.rest in
    let d = c.args.den in
    let t = c.times-two.result in
    let h = hi_le r d (le_of_lt c.requires.0) in
    let g = twice_hi r t c.times-two.ensures in
    record { hi_bound = omega arith; b_bound = is_less t d false (sym c.if-lt.false ∙ c.lt.ensures) }

pub returns : goal.returns
returns c = digit_one _ _ _ _ _ c.requires.1.1 c.requires.0 c.times-two.ensures c.without.ensures
