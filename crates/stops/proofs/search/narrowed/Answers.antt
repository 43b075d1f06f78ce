-- `stops::narrowed` meets its contract. The invariant: narrowing from here on gives the answer. The measure is what is left. Assumes nothing.
use Rattle.stops.proofs.Narrowing.{passed_over, turn, begun, ends_two, ends-one}
use Rattle.stops.specs.Place.{is_below}
use borrow.Author.Rules.{scaled_Fits}
use mathlib.Core.Path.{sym, ◌∙◌, ap}
use Prim.Native.Nat.{ℕ, ◌+◌, ◌-◌, ◌*◌, ◌/◌}
use native.Mathlib.Omega.{arith}
use lib.ListN.{length}
use Rattle.stops.specs.Place.{narrow}
use Rattle.stops.proofs.search.narrowed.Goals as goal

pub loop-left-init : goal.loop-left-init
loop-left-init c = let e = c.less-left.ensures in (omega arith, begun c.args.positions.now c.args.t c.less-left.result c.less-left.ensures)

pub overflow_mul-two : goal.overflow_mul-two
overflow_mul-two c = omega arith

pub overflow_add-base : goal.overflow_add-base
overflow_add-base c = omega arith

pub offset_bounds-positions-base : goal.offset_bounds-positions-base
offset_bounds-positions-base c = scaled_Fits _ (length c.args.positions.now) 4 (omega arith) c.well_formed.0.1

pub bounds-positions-base : goal.bounds-positions-base
bounds-positions-base c = omega arith

pub overflow_add-base-in-loop-left : goal.overflow_add-base-in-loop-left
overflow_add-base-in-loop-left c = omega arith

pub offset_bounds-positions-base-in-loop-left : goal.offset_bounds-positions-base-in-loop-left
offset_bounds-positions-base-in-loop-left c = scaled_Fits _ (length c.args.positions.now) 4 (omega arith) c.well_formed.0.1

pub bounds-positions-base-in-loop-left : goal.bounds-positions-base-in-loop-left
bounds-positions-base-in-loop-left c = omega arith

pub overflow_add-base-in-loop-left-2 : goal.overflow_add-base-in-loop-left-2
overflow_add-base-in-loop-left-2 c = omega (arith, c.below.ensures.1, c.below-in-loop-left.ensures.1)

pub overflow_mul-base : goal.overflow_mul-base
overflow_mul-base c = omega (arith, passed_over (c.loop-left.left / 3) _ _ c.below.ensures.1 c.below-in-loop-left.ensures.1)

pub overflow_add-base-in-loop-left-3 : goal.overflow_add-base-in-loop-left-3
overflow_add-base-in-loop-left-3 c = omega (arith, passed_over (c.loop-left.left / 3) _ _ c.below.ensures.1 c.below-in-loop-left.ensures.1)

pub overflow_sub-left : goal.overflow_sub-left
overflow_sub-left c = omega arith

pub loop-left-smaller : goal.loop-left-smaller
loop-left-smaller c = omega arith

pub loop-left-preserved : goal.loop-left-preserved
loop-left-preserved c =
    let third = c.loop-left.left / 3 in
    let w = passed_over third c.below.result c.below-in-loop-left.result c.below.ensures.1 c.below-in-loop-left.ensures.1 in (
      omega arith,
      ap (λ (r : ℕ). narrow (c.loop-left.left - third * 2) c.args.positions.now c.args.t (c.loop-left.base + third * (r + c.below-in-loop-left.result)) (c.loop-left.left - third * 2)) c.below.ensures.0
          ∙ ap (λ (r : ℕ). narrow (c.loop-left.left - third * 2) c.args.positions.now c.args.t (c.loop-left.base + third * (is_below c.args.positions.now c.args.t (c.loop-left.base + third) + r)) (c.loop-left.left - third * 2)) c.below-in-loop-left.ensures.0
          ∙ sym (turn c.args.positions.now c.args.t c.loop-left.base c.loop-left.left c.loop-left-test.true)
          ∙ c.loop-left.invariant.1,
    )

pub overflow_add-base-then-left-gt1 : goal.overflow_add-base-then-left-gt1
overflow_add-base-then-left-gt1 c = omega arith

pub offset_bounds-positions-base-then-left-gt1 : goal.offset_bounds-positions-base-then-left-gt1
offset_bounds-positions-base-then-left-gt1 c = scaled_Fits _ (length c.args.positions.now) 4 (omega arith) c.well_formed.0.1

pub bounds-positions-base-then-left-gt1 : goal.bounds-positions-base-then-left-gt1
bounds-positions-base-then-left-gt1 c = omega arith

pub overflow_add-result : goal.overflow_add-result
overflow_add-result c = omega (arith, c.below-then-left-gt1.ensures.1)

pub overflow_add-result-then-left-gt1 : goal.overflow_add-result-then-left-gt1
overflow_add-result-then-left-gt1 c = omega (arith, c.below-then-left-gt1.ensures.1)

pub returns-then-left-gt1 : goal.returns-then-left-gt1
returns-then-left-gt1 c =
    ends_two c.args.positions.now c.args.t c.loop-left.base c.loop-left.left c.loop-left.invariant.1 c.loop-left-test.false c.if-left-gt1.true c.below-then-left-gt1.ensures.0

pub overflow_add-result-2 : goal.overflow_add-result-2
overflow_add-result-2 c = omega arith

pub returns : goal.returns
returns c =
    ends-one c.args.positions.now c.args.t c.loop-left.base c.loop-left.left c.loop-left.invariant.1 c.if-left-gt1.false
