-- `remainder::remainder` meets its contract: x itself, the NaN, or what is left of its magnitude with its sign. Assumes nothing.
use mathlib.Core.Path.{◌≡◌, sym, ap, ◌∙◌, subst}
use Prim.Native.Nat.{ℕ, ◌-◌, ◌%◌, ◌≤◌}
use native.Mathlib.Omega.{arith}
use lib.Dec.{T}
use lib.Ieee.{Float, binary32, fits, lt, neg, rem, of_bits, to_bits}
use lib.Ieee.Bits.{of_bits-to_bits}
use Rattle.float.specs.Number.{count_of}
use Rattle.float.proofs.Signs.{magnitude_minus}
use Rattle.hsv.proofs.Remainders.{whole_value, kept, no_number, nothing_left, minus_left, from_one}
use Rattle.hsv.proofs.remainder.remainder.Goals as goal

pub returns-then-magnitude-y : goal.returns-then-magnitude-y
returns-then-magnitude-y c =
    let t : T (fits binary32 c.args.x) = subst T (sym c.well_formed.0.1) tt in
    kept c.args.x (count_of c.args.y) c.args.y t c.requires.0 (whole_value c.args.y (omega arith)) (ap (λ (w : Float). lt w (count_of c.args.y)) (sym c.magnitude.ensures) ∙ c.if-magnitude-y.true)

pub returns-then-bits-ge-INFINITY : goal.returns-then-bits-ge-INFINITY
returns-then-bits-ge-INFINITY c =
    let t : T (fits binary32 c.args.x) = subst T (sym c.well_formed.0.1) tt in
    no_number ∙ nothing_left c.args.x (count_of c.args.y) t (subst (λ (b : ℕ). 2139095040 ≤ b % 2147483648) c.to_bits-bits.ensures c.if-bits-ge-INFINITY.true)

pub left-requires : goal.left-requires
left-requires c =
    let t : T (fits binary32 c.args.x) = subst T (sym c.well_formed.0.1) tt in
    let l = from_one c.args.x c.args.y t c.requires.0 (ap (λ (w : Float). lt w (count_of c.args.y)) (sym c.magnitude.ensures) ∙ c.if-magnitude-y.false) in
    let e : c.to_bits-bits.result ≡ to_bits binary32 c.args.x = c.to_bits-bits.ensures in
    (omega arith, omega arith, c.requires.0, c.requires.1)

pub returns-then-bits-lt-SIGN : goal.returns-then-bits-lt-SIGN
returns-then-bits-lt-SIGN c =
    let t : T (fits binary32 c.args.x) = subst T (sym c.well_formed.0.1) tt in
    c.left.ensures ∙ ap (λ (w : Float). rem binary32 w (count_of c.args.y)) (ap (of_bits binary32) c.to_bits-bits.ensures ∙ of_bits-to_bits binary32 c.args.x t)

pub left-requires-else-bits-lt-SIGN : goal.left-requires-else-bits-lt-SIGN
left-requires-else-bits-lt-SIGN c =
    let t : T (fits binary32 c.args.x) = subst T (sym c.well_formed.0.1) tt in
    let l = from_one c.args.x c.args.y t c.requires.0 (ap (λ (w : Float). lt w (count_of c.args.y)) (sym c.magnitude.ensures) ∙ c.if-magnitude-y.false) in
    let e : c.to_bits-bits.result ≡ to_bits binary32 c.args.x = c.to_bits-bits.ensures in
    (omega arith, omega arith, c.requires.0, c.requires.1)

pub returns-else-bits-lt-SIGN : goal.returns-else-bits-lt-SIGN
returns-else-bits-lt-SIGN c =
    let t : T (fits binary32 c.args.x) = subst T (sym c.well_formed.0.1) tt in
    let h : 2147483648 ≤ to_bits binary32 c.args.x = subst (λ (b : ℕ). 2147483648 ≤ b) c.to_bits-bits.ensures c.if-bits-lt-SIGN.false in
    ap neg (c.left-else-bits-lt-SIGN.ensures ∙ ap (λ (w : Float). rem binary32 w (count_of c.args.y)) (ap (λ (b : ℕ). of_bits binary32 (b - 2147483648)) c.to_bits-bits.ensures ∙ magnitude_minus c.args.x t h))
    ∙ minus_left c.args.x (count_of c.args.y) c.args.y t c.requires.0 (whole_value c.args.y (omega arith)) h
