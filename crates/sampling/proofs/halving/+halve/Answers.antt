-- `halve` meets its contract: the left half's points, the midpoint and the right half's are stored one after the other. Assumes nothing.
use Prim.Native.Nat.{◌+◌, ◌-◌, ◌^◌, ◌≤◌}
use native.Mathlib.Omega.{arith}
use borrow.Author.Rules.{scaled_Fits}
use lib.ListN.{length, length-set}
use Rattle.sampling.proofs.Nearness.{near_point}
use Rattle.sampling.specs.Midpoints.{mid_of}
use Rattle.sampling.proofs.Halves.{keeps_is, not_halved, none_kept, middle_fits, right_fits, tries_fit, both_halves, pow_left}
use Rattle.sampling.proofs.halving.+halve.Goals as goal

pub returns-then-left-eq0 : goal.returns-then-left-eq0
returns-then-left-eq0 t c = not_halved _ _ _ _ _ _ _ c.if-left-eq0.true

pub returns-then-not-stands_out : goal.returns-then-not-stands_out
unfolding mid_of
returns-then-not-stands_out t c =
    let w = c.requires.between in
    let m = near_point _ w.fine _ _ _ c.evaluate-m.ensures in
    none_kept _ _ _ _ _ _ _ c.if-left-eq0.false (keeps_is _ _ w.left w.right m.0 m.1 c.interpolate_linear-foretold.ensures c.stands_out.ensures c.if-not-stands_out.true)

pub halve-a-requires : goal.halve-a-requires
halve-a-requires t c =
    let w = c.requires.between in
    let m = near_point _ w.fine _ _ _ c.evaluate-m.ensures in
    (omega arith, (omega (arith, pow_left c.args.left c.if-left-eq0.false), record { fine = w.fine; left = w.left; right = m.1 }))

pub offset_bounds-row-k : goal.offset_bounds-row-k
offset_bounds-row-k t c =
    scaled_Fits _ (length c.args.row.now) 4 (middle_fits _ _ _ _ _ c.args.q.t _ c.if-left-eq0.false c.requires.left_in_bounds _ _ _ c.halve-a.ensures) c.well_formed.1.1.0.1

pub bounds-row-k : goal.bounds-row-k
bounds-row-k t c =
    omega (arith, middle_fits _ _ _ _ _ c.args.q.t _ c.if-left-eq0.false c.requires.left_in_bounds _ _ _ c.halve-a.ensures)

pub overflow_add-k : goal.overflow_add-k
overflow_add-k t c =
    omega (arith, middle_fits _ _ _ _ _ c.args.q.t _ c.if-left-eq0.false c.requires.left_in_bounds _ _ _ c.halve-a.ensures)

pub halve-b-requires : goal.halve-b-requires
halve-b-requires t c =
    let w = c.requires.between in
    let m = near_point _ w.fine _ _ _ c.evaluate-m.ensures in
    let fits : c.halve-a.result.at + 1 + 2 ^ (c.args.left - 1) ≤ length c.halve-a.new.row + 1 =
    omega (arith, right_fits _ _ _ _ _ c.args.q.t _ c.if-left-eq0.false c.requires.left_in_bounds _ _ _ c.halve-a.ensures) in
    (omega arith, (simp length-set fits, record { fine = w.fine; left = m.1; right = w.right }))

pub overflow_add-result : goal.overflow_add-result
overflow_add-result t c =
    omega (arith, tries_fit _ _ _ _ _ _ _ c.if-left-eq0.false c.requires.left_in_bounds _ _ _ c.halve-a.ensures _ _ c.halve-b.ensures)

pub overflow_add-result-2 : goal.overflow_add-result-2
overflow_add-result-2 t c =
    omega (arith, tries_fit _ _ _ _ _ _ _ c.if-left-eq0.false c.requires.left_in_bounds _ _ _ c.halve-a.ensures _ _ c.halve-b.ensures)

pub returns : goal.returns
unfolding mid_of
returns t c =
    let w = c.requires.between in
    let m = near_point _ w.fine _ _ _ c.evaluate-m.ensures in
    let yes = keeps_is _ _ w.left w.right m.0 m.1 c.interpolate_linear-foretold.ensures c.stands_out.ensures c.if-not-stands_out.false in
    both_halves _ _ _ _ _ _ _ c.if-left-eq0.false c.requires.left_in_bounds _ _ _ c.halve-a.ensures _ _ c.halve-b.ensures m.0 yes
