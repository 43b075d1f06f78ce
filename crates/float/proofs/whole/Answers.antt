-- `float::whole` meets its contract: the magnitude's whole part with the sign, cut to what an i64 holds. Assumes nothing.
use mathlib.Core.Path.{◌≡◌, sym, ap, ◌∙◌, subst}
use Prim.Native.Nat.{ℕ, ◌^◌, ◌≤◌, ◌<◌}
use lib.Dec.{T}
use lib.IntN.{pos, neg_ℤ}
use lib.Ieee.{binary32, fits, to_unsigned}
use mir.Syntax.{w64}
use mir.Facts.{to_z_pos, to_z-of_z}
use Rattle.float.specs.Number.{magnitude_of}
use Rattle.float.proofs.Patterns.{is_number, is_nan_lem}
use Rattle.float.proofs.Signs.{magnitude_back, magnitude_below}
use Rattle.float.proofs.WholePart.{whole_nan, whole_plus, whole_last, whole_minus, whole_first, minus_is, minus_fits}
use Rattle.float.proofs.whole.Goals as goal
use Rattle.float.proofs.whole.Lts
use Rattle.float.proofs.whole.Tie
use Rattle.float.proofs.whole.Reads

abbrev At-Start : Type 0
At-Start = Lts.Start Tie.the-claims Reads.Pre Reads.Post

abbrev At-After-whole_part-n : Type 0
At-After-whole_part-n = Lts.After-whole_part Tie.the-claims Reads.Pre Reads.Post

held : (c : At-Start) → T (fits binary32 c.args.x)
held c = subst T (sym c.well_formed.0.1) tt

-- what `whole_part` gave
size_is : (c : At-After-whole_part-n) → c.whole_part-n.result ≡ to_unsigned 64 (magnitude_of c.args.x)
size_is c = c.whole_part-n.ensures ∙ ap (to_unsigned 64) (magnitude_back c.args.x (held c.before.before))

small : (c : At-After-whole_part-n) → c.whole_part-n.result < 2 ^ 63 → to_unsigned 64 (magnitude_of c.args.x) < 2 ^ 63
small c h = subst (λ (n : ℕ). n < 2 ^ 63) (size_is c) h

large : (c : At-After-whole_part-n) → 2 ^ 63 ≤ c.whole_part-n.result → 2 ^ 63 ≤ to_unsigned 64 (magnitude_of c.args.x)
large c h = subst (λ (n : ℕ). 2 ^ 63 ≤ n) (size_is c) h

pub returns-then-x : goal.returns-then-x
returns-then-x c = sym (whole_nan _ (is_nan_lem _ c.if-x.true))

pub float_to_bits-b : goal.float_to_bits-b
float_to_bits-b c = is_number _ c.if-x.false

pub whole_part-n-requires : goal.whole_part-n-requires
whole_part-n-requires c = magnitude_below _ (held c.before) (is_number _ c.if-x.false)

pub returns-then-n-lt9223372036854775808 : goal.returns-then-n-lt9223372036854775808
returns-then-n-lt9223372036854775808 c =
    let a = c.before.before in
    to_z_pos w64 c.if-n-lt9223372036854775808.true ∙ ap pos (size_is a) ∙ whole_plus _ a.if-x.false c.if-b-lt-SIGN.true (small a c.if-n-lt9223372036854775808.true)

pub returns-else-n-lt9223372036854775808 : goal.returns-else-n-lt9223372036854775808
returns-else-n-lt9223372036854775808 c =
    let a = c.before.before in
    whole_last _ a.if-x.false c.if-b-lt-SIGN.true (large a c.if-n-lt9223372036854775808.false)

pub returns-then-n-lt9223372036854775808-2 : goal.returns-then-n-lt9223372036854775808-2
returns-then-n-lt9223372036854775808-2 c =
    let a = c.before.before in
    to_z-of_z (minus_fits _ c.if-n-lt9223372036854775808-2.true) ∙ minus_is _ c.if-n-lt9223372036854775808-2.true ∙ ap (λ (n : ℕ). neg_ℤ (pos n)) (size_is a)
    ∙ whole_minus _ a.if-x.false (held a.before.before) c.if-b-lt-SIGN.false (small a c.if-n-lt9223372036854775808-2.true)

pub returns-else-n-lt9223372036854775808-2 : goal.returns-else-n-lt9223372036854775808-2
returns-else-n-lt9223372036854775808-2 c =
    let a = c.before.before in
    whole_first _ a.if-x.false (held a.before.before) c.if-b-lt-SIGN.false (large a c.if-n-lt9223372036854775808-2.false)
