-- `decimal::signed` meets its contract: the bits are no NaN's. Assumes nothing.
use mathlib.Core.Path.{◌≡◌, sym, ap, ◌∙◌}
use mathlib.Core.Bool.{Bool, cond, true, false}
use Prim.Native.Nat.{ℕ, ◌+◌, ◌^◌}
use native.Mathlib.Nat.{zero-add}
use native.Mathlib.Omega.{arith}
use lib.Ieee.{of_bits, binary32}
use Rattle.float.proofs.Patterns.{number_pattern}
use Rattle.decimal.proofs.signed.Goals as goal

at_sign : (s t : Bool) (b : ℕ) → s ≡ t → of_bits binary32 (cond t (2 ^ 31) 0 + b) ≡ of_bits binary32 (cond s (2 ^ 31) 0 + b)
at_sign s t b e = ap (λ (x : Bool). of_bits binary32 (cond x (2 ^ 31) 0 + b)) (sym e)

pub float_from_bits-result : goal.float_from_bits-result
float_from_bits-result c = number_pattern _ (omega arith)

pub float_from_bits-result-else-neg : goal.float_from_bits-result-else-neg
float_from_bits-result-else-neg c = number_pattern _ (omega arith)

pub returns-then-neg : goal.returns-then-neg
returns-then-neg c = at_sign _ true _ c.if-neg.true

pub returns-else-neg : goal.returns-else-neg
returns-else-neg c = ap (of_bits binary32) (sym (zero-add _)) ∙ at_sign _ false _ c.if-neg.false
