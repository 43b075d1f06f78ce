-- `pairs::search` meets its contract. The invariant: the position at the base is below t, the one past the size is not, and the size is a power of two. Assumes nothing.
use borrow.Author.Rules.{scaled_Fits}
use mathlib.Core.Path.{refl}
use Prim.Native.Nat.{◌-◌, ◌/◌}
use native.Mathlib.Nat.{mul-le-mul_left}
use native.Mathlib.Omega.{arith}
use lib.ListN.{length}
use Rattle.paint.proofs.gimp.Guessing.{passed_over}
use Rattle.paint.proofs.Searching.{started, turned, ended_two, ended_one}
use Rattle.paint.proofs.pairs.search.Goals as goal

pub overflow_sub-low : goal.overflow_sub-low
overflow_sub-low c = let i = c.requires.spans.inside in omega arith

pub overflow_sub-low-2 : goal.overflow_sub-low-2
overflow_sub-low-2 c = let i = c.requires.spans.inside in omega arith

pub offset_bounds-positions-low : goal.offset_bounds-positions-low
offset_bounds-positions-low c = let i = c.requires.spans.inside in scaled_Fits _ (length c.args.positions.now) 4 (omega arith) c.well_formed.0.1

pub bounds-positions-low : goal.bounds-positions-low
bounds-positions-low c = let i = c.requires.spans.inside in omega arith

pub overflow_mul-base : goal.overflow_mul-base
overflow_mul-base c = let i = c.requires.spans.inside in omega (arith, mul-le-mul_left (length c.args.positions.now - 1 - c.args.span) c.below.ensures.1)

pub loop-size-init : goal.loop-size-init
loop-size-init c = let a = started c.args.positions.now c.args.t c.args.span c.requires refl c.below.ensures.0 in (a.bracket.inside, a)

pub overflow_add-base : goal.overflow_add-base
overflow_add-base c = omega arith

pub offset_bounds-positions-base : goal.offset_bounds-positions-base
offset_bounds-positions-base c = scaled_Fits _ (length c.args.positions.now) 4 (omega arith) c.well_formed.0.1

pub bounds-positions-base : goal.bounds-positions-base
bounds-positions-base c = omega arith

pub overflow_mul-size : goal.overflow_mul-size
overflow_mul-size c = omega arith

pub overflow_add-base-in-loop-size : goal.overflow_add-base-in-loop-size
overflow_add-base-in-loop-size c = omega arith

pub offset_bounds-positions-base-in-loop-size : goal.offset_bounds-positions-base-in-loop-size
offset_bounds-positions-base-in-loop-size c = scaled_Fits _ (length c.args.positions.now) 4 (omega arith) c.well_formed.0.1

pub bounds-positions-base-in-loop-size : goal.bounds-positions-base-in-loop-size
bounds-positions-base-in-loop-size c = omega arith

pub overflow_add-base-in-loop-size-2 : goal.overflow_add-base-in-loop-size-2
overflow_add-base-in-loop-size-2 c = omega (arith, c.below-in-loop-size.ensures.1, c.below-in-loop-size-2.ensures.1)

pub overflow_mul-size-in-loop-size : goal.overflow_mul-size-in-loop-size
overflow_mul-size-in-loop-size c = omega arith

pub overflow_add-base-in-loop-size-3 : goal.overflow_add-base-in-loop-size-3
overflow_add-base-in-loop-size-3 c = omega arith

pub offset_bounds-positions-base-in-loop-size-2 : goal.offset_bounds-positions-base-in-loop-size-2
offset_bounds-positions-base-in-loop-size-2 c = scaled_Fits _ (length c.args.positions.now) 4 (omega arith) c.well_formed.0.1

pub bounds-positions-base-in-loop-size-2 : goal.bounds-positions-base-in-loop-size-2
bounds-positions-base-in-loop-size-2 c = omega arith

pub overflow_add-base-in-loop-size-4 : goal.overflow_add-base-in-loop-size-4
overflow_add-base-in-loop-size-4 c = omega (arith, c.below-in-loop-size.ensures.1, c.below-in-loop-size-2.ensures.1, c.below-in-loop-size-3.ensures.1)

pub overflow_mul-base-in-loop-size : goal.overflow_mul-base-in-loop-size
overflow_mul-base-in-loop-size c = omega (arith, passed_over (c.loop-size.size / 4) _ _ _ c.below-in-loop-size.ensures.1 c.below-in-loop-size-2.ensures.1 c.below-in-loop-size-3.ensures.1)

pub overflow_add-base-in-loop-size-5 : goal.overflow_add-base-in-loop-size-5
overflow_add-base-in-loop-size-5 c = omega (arith, passed_over (c.loop-size.size / 4) _ _ _ c.below-in-loop-size.ensures.1 c.below-in-loop-size-2.ensures.1 c.below-in-loop-size-3.ensures.1)

pub loop-size-smaller : goal.loop-size-smaller
loop-size-smaller c = omega arith

pub loop-size-preserved : goal.loop-size-preserved
loop-size-preserved c =
    let a = turned c.args.positions.now c.args.t c.args.span c.requires c.loop-size.base c.loop-size.size c.loop-size.invariant.1 c.loop-size-test.true c.below-in-loop-size.ensures.0 c.below-in-loop-size-2.ensures.0 c.below-in-loop-size-3.ensures.0 in (a.bracket.inside, a)

pub overflow_add-base-then-size-gt1 : goal.overflow_add-base-then-size-gt1
overflow_add-base-then-size-gt1 c = omega arith

pub offset_bounds-positions-base-then-size-gt1 : goal.offset_bounds-positions-base-then-size-gt1
offset_bounds-positions-base-then-size-gt1 c = scaled_Fits _ (length c.args.positions.now) 4 (omega arith) c.well_formed.0.1

pub bounds-positions-base-then-size-gt1 : goal.bounds-positions-base-then-size-gt1
bounds-positions-base-then-size-gt1 c = omega arith

pub overflow_add-result : goal.overflow_add-result
overflow_add-result c = omega (arith, c.below-then-size-gt1.ensures.1)

pub overflow_add-result-then-size-gt1 : goal.overflow_add-result-then-size-gt1
overflow_add-result-then-size-gt1 c = omega (arith, c.below-then-size-gt1.ensures.1)

pub returns-then-size-gt1 : goal.returns-then-size-gt1
returns-then-size-gt1 c =
    ended_two c.args.positions.now c.args.t c.args.span c.requires c.loop-size.base c.loop-size.size c.loop-size.invariant.1 c.loop-size-test.false c.if-size-gt1.true c.below-then-size-gt1.ensures.0

pub overflow_add-result-else-size-gt1 : goal.overflow_add-result-else-size-gt1
overflow_add-result-else-size-gt1 c = omega arith

pub returns-else-size-gt1 : goal.returns-else-size-gt1
returns-else-size-gt1 c =
    ended_one c.args.positions.now c.args.t c.args.span c.requires c.loop-size.base c.loop-size.size c.loop-size.invariant.1 c.if-size-gt1.false
