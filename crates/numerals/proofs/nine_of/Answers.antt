-- `nine_of` meets its contract. The loop's invariant: a / den is m * 10 ^ k / 2 ^ shift. Assumes nothing.
use mathlib.Core.Path.{subst}
use Prim.Native.Nat.{ℕ, ◌*◌, ◌/◌, ◌%◌, ◌^◌, ◌≤◌, ◌<◌}
use native.Mathlib.Nat.{mod-lt}
use native.Mathlib.Omega.{arith}
use Rattle.float.proofs.Nearest.{stays, moves}
use Rattle.numerals.proofs.Scale.{Scaling, scale_start, den_pos, before_last, not_last, a_small, den_small, ten_small, scale_turn, nines, q_small, one_up}
use Rattle.numerals.proofs.nine_of.Goals as goal
use Rattle.numerals.proofs.nine_of.Lts
use Rattle.numerals.proofs.nine_of.Reads

abbrev At-In-loop-a : Type 0
At-In-loop-a = Lts.In-loop Reads.Pre Reads.Post goal.the-invariant-loop-a goal.the-decreases-loop-a

abbrev At-After-loop-a : Type 0
At-After-loop-a = Lts.After-loop Reads.Pre Reads.Post goal.the-invariant-loop-a goal.the-decreases-loop-a

-- a turn has room
rooms : (c : At-In-loop-a) → c.loop-a.k < 15
rooms c = before_last _ _ _ _ _ _ c.loop-a.invariant c.loop-a-test.true c.requires.reach

-- twice the rest, and one
twice_small : (c : At-After-loop-a) → c.loop-a.a % c.loop-a.den * 2 ≤ 2 ^ 44
twice_small c =
    let l = c.loop-a in
    omega (arith, mod-lt l.a (den_pos _ _ _ _ _ _ l.invariant), den_small _ _ _ _ _ _ l.invariant c.requires.high)

pub overflow_shl-den : goal.overflow_shl-den
overflow_shl-den c = omega arith

pub loop-a-init : goal.loop-a-init
loop-a-init c = subst (λ (x : ℕ). Scaling c.args.m c.args.shift c.args.m x 0 1) (one_up c.args.shift (omega arith)) (scale_start c.args.m c.args.shift)

pub overflow_mul-a : goal.overflow_mul-a
overflow_mul-a c = omega (arith, a_small _ _ _ _ _ _ c.loop-a.invariant 15 c.loop-a.invariant.few c.requires.hi)

pub overflow_add-k : goal.overflow_add-k
overflow_add-k c = omega (arith, rooms c)

pub overflow_mul-ten : goal.overflow_mul-ten
overflow_mul-ten c = omega (arith, ten_small _ _ _ _ _ _ c.loop-a.invariant (rooms c))

pub loop-a-smaller : goal.loop-a-smaller
loop-a-smaller c = omega (arith, rooms c)

pub loop-a-preserved : goal.loop-a-preserved
loop-a-preserved c =
    let l = c.loop-a.invariant in
    scale_turn _ _ _ _ _ _ l c.loop-a-test.true (rooms c) (not_last _ _ _ _ _ _ l c.loop-a-test.true (omega arith) (omega arith))

pub nonzero_div-q : goal.nonzero_div-q
nonzero_div-q c = den_pos _ _ _ _ _ _ c.loop-a.invariant

pub overflow_mul-a-2 : goal.overflow_mul-a-2
overflow_mul-a-2 c = omega (arith, twice_small c)

pub overflow_add-a : goal.overflow_add-a
overflow_add-a c = omega (arith, twice_small c)

pub returns-then-a-den : goal.returns-then-a-den
returns-then-a-den c =
    let l = c.loop-a in
    nines _ _ _ _ _ _ l.invariant _ c.loop-a-test.false (stays (l.a / l.den) (l.a % l.den * 2) l.den c.if-a-den.true)

pub overflow_add-result : goal.overflow_add-result
overflow_add-result c = omega (arith, q_small _ _ _ _ _ _ c.loop-a.invariant c.requires.hi)

pub returns : goal.returns
returns c =
    let l = c.loop-a in
    nines _ _ _ _ _ _ l.invariant _ c.loop-a-test.false (moves (l.a / l.den) (l.a % l.den * 2) l.den c.if-a-den.false)
