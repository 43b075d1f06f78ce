-- `sqrt::root` meets its contract: at each return, what `proofs/Cases.antt` says of the pattern. Assumes nothing.
use native.Mathlib.Omega.{arith}
use mathlib.Core.Path.{◌≡◌, refl, sym, ap, ◌∙◌, subst}
use mathlib.Core.Bool.{not}
use Prim.Native.Nat.{ℕ}
use lib.Dec.{T}
use lib.Ieee.{Float, nan, binary32, fits, is_nan, to_bits, of_bits}
use lib.Ieee.Bits.{of_bits-to_bits, to_bits-lt}
use Rattle.sqrt.specs.Root.{root_of}
use lib.Ieee.Compare.{differs_from_itself}
use Rattle.float.proofs.Patterns.{is_number}
use Rattle.sqrt.proofs.Cases.{at_zero, at_itself, at_below}
use Rattle.sqrt.proofs.root.Goals as goal
use Rattle.sqrt.proofs.root.Lts
use Rattle.sqrt.proofs.root.Tie
use Rattle.sqrt.proofs.root.Reads
use Rattle.sqrt.proofs.root.Goals.{else-b-gt0-via-then-b-gt0+else-b-lt-INFINITY, else-b-gt0-via-else-b-gt0}

abbrev At-Start : Type 0
At-Start = Lts.Start Tie.the-claims Reads.Pre Reads.Post

held : (c : At-Start) → T (fits binary32 c.args.x)
held c = subst T (sym c.well_formed.0.1) tt

-- x is read back from its pattern
back : (c : At-Start) → of_bits binary32 (to_bits binary32 c.args.x) ≡ c.args.x
back c = of_bits-to_bits binary32 c.args.x (held c)

-- what is known of the root at x's pattern is known of the root of x
by_pattern : (c : At-Start) (r : Float) → root_of (of_bits binary32 (to_bits binary32 c.args.x)) ≡ r → r ≡ root_of c.args.x
by_pattern c r h = sym (ap root_of (sym (back c)) ∙ h)

itself : (c : At-Start) → root_of (of_bits binary32 (to_bits binary32 c.args.x)) ≡ of_bits binary32 (to_bits binary32 c.args.x) → c.args.x ≡ root_of c.args.x
itself c h = by_pattern c c.args.x (h ∙ back c)

nan_gives : nan ≡ root_of nan
unfolding root_of
nan_gives = refl

no_number : of_bits binary32 2143289344 ≡ nan
unfolding of_bits
no_number = refl

pub returns-then-x : goal.returns-then-x
returns-then-x c = let e = differs_from_itself c.args.x (subst T (sym c.if-x.true) tt) in e ∙ nan_gives ∙ ap root_of (sym e)

pub float_to_bits-b : goal.float_to_bits-b
float_to_bits-b c = is_number c.args.x c.if-x.false

pub returns-then-b-lt-INFINITY : goal.returns-then-b-lt-INFINITY
returns-then-b-lt-INFINITY c = by_pattern c.before.before.before.before.before c.root_of.result (sym (c.root_of.ensures ∙ c.read-a.ensures.is))

pub returns-then-b-le-SIGN : goal.returns-then-b-le-SIGN
returns-then-b-le-SIGN c =
    let s = c.before.before.before in
    let b = to_bits binary32 s.args.x in
    itself s
    (elim c.else-b-gt0.branch [
      | else-b-gt0-via-then-b-gt0+else-b-lt-INFINITY w ↦ at_itself b w.if-b-lt-INFINITY.false c.if-b-le-SIGN.true (subst (λ (x : Float). T (not (is_nan x))) (sym (back s)) (is_number s.args.x c.if-x.false))
      | else-b-gt0-via-else-b-gt0 w ↦ let h = w.if-b-gt0.false in let e : b ≡ 0 = omega arith in subst (λ (n : ℕ). root_of (of_bits binary32 n) ≡ of_bits binary32 n) (sym e) at_zero
    ])

pub returns-else-b-le-SIGN : goal.returns-else-b-le-SIGN
returns-else-b-le-SIGN c = let s = c.before.before.before in by_pattern s (of_bits binary32 2143289344) (at_below (to_bits binary32 s.args.x) c.if-b-le-SIGN.false (to_bits-lt binary32 s.args.x (held s)) ∙ sym no_number)
