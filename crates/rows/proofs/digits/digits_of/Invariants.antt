-- `digits_of` meets its contract: all so far are digits, and what is left makes the same number after theirs. Assumes nothing.
use mathlib.Core.Path.{◌≡◌}
use Prim.Native.Nat.{◌^◌, ◌<◌}
use lib.ListN.{drop}
use Rattle.decimal.specs.Decimal.{is_digit, value_after}
use Rattle.text.specs.Text.{every}
use Rattle.rows.proofs.digits.digits_of.Given as goal

abbrev pub invariant-loop-b : goal.invariant-loop-b
invariant-loop-b l = record { fits : l.v < 2 ^ 64; digits : every is_digit l.l ≡ every is_digit (drop l.b-index l.l); value : value_after l.v (drop l.b-index l.l) ≡ value_after 0 l.l }
