-- `decimal::nearest` meets its contract: a short quotient is rounded by the division; else the bits are those of the rounded value. Assumes nothing.
use mathlib.Core.Path.{ap, ◌∙◌}
use Prim.Native.Nat.{◌^◌, ◌≤◌}
use native.Mathlib.Omega.{arith}
use lib.Ieee.{round, binary32}
use Rattle.decimal.proofs.Rounds.{bits_value}
use Rattle.decimal.proofs.Scale.{ten_le, ten_shifted}
use Rattle.decimal.proofs.nearest.Goals as goal

pub short-requires : goal.short-requires
short-requires c =
    let k = c.args.places in
    let e = ten_shifted k _ c.requires.1 c.if-places-le7.true in
    let l : 10 ^ k ≤ 10 ^ 7 = ten_le k 7 c.if-places-le7.true in
    let m : 1 ≤ 10 ^ k = ten_le 0 k (omega arith) in
    (omega arith, (omega arith, omega arith))

pub returns-then-places-le7 : goal.returns-then-places-le7
returns-then-places-le7 c =
    let a = c.args in
    c.short.ensures ∙ ap (round binary32 a.neg a.d) (ten_shifted a.places _ c.requires.1 c.if-places-le7.true)

pub signed-requires : goal.signed-requires
signed-requires c = c.magnitude.ensures.small

pub returns : goal.returns
returns c = c.signed.ensures ∙ bits_value _ _ _ _ c.magnitude.ensures
