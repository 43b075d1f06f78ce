-- `decimal::wide::long_divided` meets its contract. The loop's invariant: num * 2 ^ down is m times den and the rest. Assumes nothing.
use mathlib.Core.Path.{◌≡◌, ◌∙◌}
use mathlib.Core.Logic.{inl, inr}
use Prim.Native.Nat.{ℕ, ◌+◌, ◌*◌, ◌≤◌}
use native.Mathlib.Nat.{le_of_lt}
use native.Mathlib.Omega.{arith}
use Rattle.decimal.proofs.Division.{flat}
use Rattle.decimal.proofs.Words.{hi_le}
use Rattle.decimal.proofs.wide.long_divided.Goals as goal
use Rattle.decimal.proofs.wide.long_divided.Goals.{At-loop-m}

none : (n d : ℕ) → n * 1 ≡ 0 * d + n
none n d = omega arith

-- the rest is less than den, and so is its first word
first : (c : At-loop-m) → c.loop-m.rest.hi ≤ c.args.den.hi
first c = hi_le c.loop-m.rest c.args.den (le_of_lt c.loop-m.invariant.less)

pub loop-m-init : goal.loop-m-init
loop-m-init c = record { long = none _ _; less = c.requires.0; hi = omega arith; few = omega arith }

pub returns-then-down-most : goal.returns-then-down-most
returns-then-down-most c =
    let i = c.loop-m.invariant in
    let h = first c.before.before in
    record { hi_bound = omega arith; long_divides = record { long = i.long; less = i.less; hi = i.hi; few = i.few; full = inl c.if-down-most.true } }

pub next_digit-next-requires : goal.next_digit-next-requires
next_digit-next-requires c = (c.loop-m.invariant.less, (omega arith, omega arith))

pub loop-m-preserved : goal.loop-m-preserved
loop-m-preserved c =
    let i = c.loop-m.invariant in
    let o = c.next_digit-next.ensures in
    record { long = flat _ _ _ _ _ i.long ∙ o.is; less = o.less; hi = o.hi; few = omega arith }

pub returns : goal.returns
returns c =
    let i = c.loop-m.invariant in
    let h = first c.before in
    record { hi_bound = omega arith; long_divides = record { long = i.long; less = i.less; hi = i.hi; few = i.few; full = inr (omega arith) } }
