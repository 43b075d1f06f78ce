-- `decimal::shift::nearest_long` meets its contract: what is in both powers goes off, and the bits are those of the rounded value. Assumes nothing.
use mathlib.Core.Path.{◌≡◌, ◌∙◌}
use Prim.Native.Nat.{ℕ, ◌+◌, ◌-◌}
use native.Mathlib.Omega.{arith}
use Rattle.decimal.proofs.Moves.{same_place}
use Rattle.decimal.proofs.Rounds.{bits_value}
use Rattle.decimal.proofs.shift.nearest_long.Goals as goal

level : (a b up down : ℕ) → up ≡ a - b → down ≡ b - a → up + b ≡ a + down
level a b up down e f = omega arith

pub returns : goal.returns
returns c =
    let a = c.args in
    let l = c.cancelled-by in
    c.signed.ensures ∙ bits_value _ _ _ _ c.tens_magnitude.ensures
    ∙ same_place a.neg a.d l.result.up l.result.down a.up a.down (level a.up a.down l.result.up l.result.down l.ensures.up_is l.ensures.down_is)
