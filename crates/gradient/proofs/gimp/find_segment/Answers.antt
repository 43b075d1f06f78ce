-- `gimp::find_segment` meets its contract. The loop's invariant: the search of the remaining range is the whole search. Assumes nothing.
use borrow.Author.Rules.{scaled_Fits}
use mathlib.Core.Path.{sym, ◌∙◌}
use mathlib.Core.List.{List}
use Prim.Native.Nat.{◌+◌, ◌*◌, ◌/◌, ◌<◌}
use native.Mathlib.Omega.{arith}
use lib.ListN.{length}
use lib.Ieee.{Float}
use Rattle.gradient.proofs.GimpSearch.{up, down, hit, met, begun}
use Rattle.gradient.proofs.gimp.find_segment.Goals as goal
use Rattle.gradient.proofs.gimp.find_segment.Lts
use Rattle.gradient.proofs.gimp.find_segment.Reads

abbrev At-In-loop-low : Type 0
At-In-loop-low = Lts.In-loop Reads.Pre Reads.Post goal.the-invariant-loop-low goal.the-decreases-loop-low

-- the positions, and the right end of the middle segment among them
abbrev ps : At-In-loop-low → List Float
ps c = c.args.positions.now

in_range : (c : At-In-loop-low) → 3 * ((c.loop-low.low + c.loop-low.high) / 2) + 2 < length (ps c)
in_range c = omega arith

pub loop-low-init : goal.loop-low-init
loop-low-init c = (omega arith, omega arith, begun c.args.positions.now c.args.t)

pub overflow_add-mid : goal.overflow_add-mid
overflow_add-mid c = omega arith

pub overflow_mul-left : goal.overflow_mul-left
overflow_mul-left c = omega arith

pub overflow_add-right : goal.overflow_add-right
overflow_add-right c = omega arith

pub offset_bounds-positions-right : goal.offset_bounds-positions-right
offset_bounds-positions-right c = scaled_Fits _ (length (ps c.before)) 4 (in_range c.before) c.well_formed.0.1

pub bounds-positions-right : goal.bounds-positions-right
bounds-positions-right c = omega arith

pub overflow_add-low : goal.overflow_add-low
overflow_add-low c = omega arith

pub loop-low-smaller-then-t-positions : goal.loop-low-smaller-then-t-positions
loop-low-smaller-then-t-positions c = omega arith

pub loop-low-preserved-then-t-positions : goal.loop-low-preserved-then-t-positions
loop-low-preserved-then-t-positions c =
    let b = c.before.before.before in
    (omega arith, omega arith, sym (up (ps b) b.args.t b.loop-low.tried b.loop-low.low b.loop-low.high b.loop-low-test.true c.if-t-positions.true) ∙ b.loop-low.invariant.2)

pub offset_bounds-positions-left : goal.offset_bounds-positions-left
offset_bounds-positions-left c = let b = c.before.before.before in let h = in_range b in scaled_Fits _ (length (ps b)) 4 (omega arith) b.well_formed.0.1

pub bounds-positions-left : goal.bounds-positions-left
bounds-positions-left c = omega arith

pub loop-low-smaller : goal.loop-low-smaller
loop-low-smaller c = omega arith

pub loop-low-preserved : goal.loop-low-preserved
loop-low-preserved c =
    let b = c.before.before.before.before.before in
    (omega arith, omega arith, sym (down (ps b) b.args.t b.loop-low.tried b.loop-low.low b.loop-low.high b.loop-low-test.true c.if-t-positions.false c.if-t-positions-2.true) ∙ b.loop-low.invariant.2)

pub returns-else-t-positions-2 : goal.returns-else-t-positions-2
returns-else-t-positions-2 c =
    let b = c.before.before.before.before.before in
    sym (hit (ps b) b.args.t b.loop-low.tried b.loop-low.low b.loop-low.high b.loop-low-test.true c.if-t-positions.false c.if-t-positions-2.false) ∙ b.loop-low.invariant.2

pub returns : goal.returns
returns c =
    sym (met c.args.positions.now c.args.t c.loop-low.tried c.loop-low.low c.loop-low.high c.loop-low-test.false) ∙ c.loop-low.invariant.2
