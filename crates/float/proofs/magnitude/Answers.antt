-- `float::magnitude` meets its contract: the pattern without the sign's bit is the magnitude's. Assumes nothing.
use mathlib.Core.Path.{◌≡◌, refl, sym, ap, ◌∙◌, subst}
use mathlib.Core.Bool.{not}
use Prim.Native.Nat.{ℕ}
use lib.Dec.{T}
use lib.Ieee.{Float, nan, binary32, fits, div, nan_bits}
use Rattle.float.specs.Number.{magnitude_of}
use Rattle.float.proofs.Patterns.{is_number, is_nan_lem}
use Rattle.float.proofs.Signs.{set, magnitude_plus, magnitude_minus, magnitude_pattern}
use Rattle.float.proofs.magnitude.Goals as goal
use Rattle.float.proofs.magnitude.Lts
use Rattle.float.proofs.magnitude.Reads

abbrev At-Start : Type 0
At-Start = Lts.Start Reads.Pre Reads.Post

held : (c : At-Start) → T (fits binary32 c.args.x)
held c = subst T (sym c.well_formed.0.1) tt

nan_gives : div binary32 nan nan ≡ magnitude_of nan
unfolding div magnitude_of
nan_gives = refl

pub returns-then-x : goal.returns-then-x
returns-then-x c = let e = is_nan_lem c.args.x c.if-x.true in ap (λ (y : Float). div binary32 y y) e ∙ nan_gives ∙ ap magnitude_of (sym e)

pub float_to_bits-bits : goal.float_to_bits-bits
float_to_bits-bits c = is_number c.args.x c.if-x.false

pub returns-then-bits-lt-SIGN : goal.returns-then-bits-lt-SIGN
returns-then-bits-lt-SIGN c = magnitude_plus _ (held c.before.before) c.if-bits-lt-SIGN.true

pub float_from_bits-result : goal.float_from_bits-result
float_from_bits-result c =
    let f = held c.before.before in
    subst (λ (b : ℕ). T (not (nan_bits binary32 b))) (sym (set _ f c.if-bits-lt-SIGN.false)) (magnitude_pattern _ f (is_number _ c.if-x.false))

pub returns-else-bits-lt-SIGN : goal.returns-else-bits-lt-SIGN
returns-else-bits-lt-SIGN c = magnitude_minus _ (held c.before.before) c.if-bits-lt-SIGN.false
