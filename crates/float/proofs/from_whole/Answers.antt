-- `float::from_whole` meets its contract: its pattern is the one of the number that n rounds to. Assumes nothing.
use mathlib.Core.Path.{ap, ◌∙◌}
use Prim.Native.Nat.{ℕ, ◌+◌, ◌-◌, ◌*◌, ◌%◌, ◌^◌, ◌≤◌}
use native.Mathlib.Omega.{arith}
use lib.Count.{count_leading_zeros}
use lib.Ieee.{binary32, of_bits}
use Rattle.float.proofs.Patterns.{number_pattern}
use Rattle.float.proofs.Counted.{count_small, Shifted, shifted, count_back, leading_few}
use Rattle.float.proofs.from_whole.Goals as goal
use Rattle.float.proofs.from_whole.Lts
use Rattle.float.proofs.from_whole.Tie
use Rattle.float.proofs.from_whole.Reads

abbrev At-Else-n-lt8388608 : Type 0
At-Else-n-lt8388608 = Lts.Else1 Tie.the-claims Reads.Pre Reads.Post

abbrev At-After-leading-digits : Type 0
At-After-leading-digits = Lts.After-leading Tie.the-claims Reads.Pre Reads.Post

-- n moved up by its leading zeros
up_to_top : (c : At-Else-n-lt8388608) → Shifted c.args.n (c.args.n * 2 ^ count_leading_zeros 64 c.args.n % 2 ^ 64) (count_leading_zeros 64 c.args.n)
up_to_top c = shifted c.args.n (omega arith) (omega arith)

-- 24 digits, or the one number of 25 that rounding up can make
tops : (c : At-After-leading-digits) → c.leading-digits.result ≤ 16777216
tops c = leading_few _ _ c.leading-digits.ensures (up_to_top c.before).less

pub float_from_bits-result : goal.float_from_bits-result
float_from_bits-result c = number_pattern _ (omega arith)

pub returns-then-n-lt8388608 : goal.returns-then-n-lt8388608
returns-then-n-lt8388608 c = count_small c.args.n c.if-n-lt8388608.true

pub float_from_bits-result-else-n-lt8388608 : goal.float_from_bits-result-else-n-lt8388608
float_from_bits-result-else-n-lt8388608 c = number_pattern _ (omega (arith, tops c))

pub returns-else-n-lt8388608 : goal.returns-else-n-lt8388608
returns-else-n-lt8388608 c =
    ap (λ (x : ℕ). of_bits binary32 ((189 - count_leading_zeros 64 c.args.n) * 8388608 + x)) c.leading-digits.ensures
    ∙ count_back c.args.n _ _ (up_to_top c.before)
