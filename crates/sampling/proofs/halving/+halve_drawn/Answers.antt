-- `halve_drawn` meets its contract: as `halve`, the midpoint's colour by the segment of its pair. Assumes nothing.
use Prim.Native.Nat.{◌+◌, ◌-◌, ◌^◌, ◌≤◌}
use mathlib.Core.Path.{refl}
use native.Mathlib.Omega.{arith}
use borrow.Author.Rules.{scaled_Fits}
use lib.ListN.{length, length-set}
use Rattle.sampling.specs.Midpoints.{mid_of}
use Rattle.sampling.proofs.Along.{own_drawn, own_colour, left_half, right_half}
use Rattle.sampling.proofs.Halves.{keeps_is, not_halved, none_kept, middle_fits, right_fits, tries_fit, both_halves, pow_left}
use Rattle.sampling.proofs.halving.+halve_drawn.Goals as goal

pub returns-then-left-eq0 : goal.returns-then-left-eq0
returns-then-left-eq0 t c = not_halved _ _ _ _ _ _ _ c.if-left-eq0.true

pub returns-then-not-stands_out : goal.returns-then-not-stands_out
unfolding mid_of
returns-then-not-stands_out t c =
    let w = c.requires.drawn_between in
    let bent = c.requires.left_in_bounds.1 in
    let m = own_colour _ w.between.fine bent _ _ _ _ (w.left_drawn bent) (w.right_drawn bent) c.redraw-own.ensures _ c.find_place-place.ensures c.pair_or-pair.ensures c.curve_of.ensures c.segment_colour-colour.ensures in
    none_kept _ _ _ _ _ _ _ c.if-left-eq0.false (keeps_is _ _ w.between.left w.between.right refl m c.interpolate_linear-foretold.ensures c.stands_out.ensures c.if-not-stands_out.true)

pub halve_drawn-a-requires : goal.halve_drawn-a-requires
halve_drawn-a-requires t c =
    let w = c.requires.drawn_between in
    let bent = c.requires.left_in_bounds.1 in
    let m = own_colour _ w.between.fine bent _ _ _ _ (w.left_drawn bent) (w.right_drawn bent) c.redraw-own.ensures _ c.find_place-place.ensures c.pair_or-pair.ensures c.curve_of.ensures c.segment_colour-colour.ensures in
    (omega arith, ((omega (arith, pow_left c.args.left c.if-left-eq0.false), bent), left_half _ _ _ _ _ w _ m (λ b. own_drawn _ w.between.fine bent _ _ _ _ (w.left_drawn bent) (w.right_drawn bent) c.redraw-own.ensures)))

pub offset_bounds-row-k : goal.offset_bounds-row-k
offset_bounds-row-k t c =
    scaled_Fits _ (length c.args.row.now) 4 (middle_fits _ _ _ _ _ c.args.q.t _ c.if-left-eq0.false c.requires.left_in_bounds.0 _ _ _ c.halve_drawn-a.ensures) c.well_formed.1.1.0.1

pub bounds-row-k : goal.bounds-row-k
bounds-row-k t c =
    omega (arith, middle_fits _ _ _ _ _ c.args.q.t _ c.if-left-eq0.false c.requires.left_in_bounds.0 _ _ _ c.halve_drawn-a.ensures)

pub overflow_add-k : goal.overflow_add-k
overflow_add-k t c =
    omega (arith, middle_fits _ _ _ _ _ c.args.q.t _ c.if-left-eq0.false c.requires.left_in_bounds.0 _ _ _ c.halve_drawn-a.ensures)

pub halve_drawn-b-requires : goal.halve_drawn-b-requires
halve_drawn-b-requires t c =
    let w = c.requires.drawn_between in
    let bent = c.requires.left_in_bounds.1 in
    let m = own_colour _ w.between.fine bent _ _ _ _ (w.left_drawn bent) (w.right_drawn bent) c.redraw-own.ensures _ c.find_place-place.ensures c.pair_or-pair.ensures c.curve_of.ensures c.segment_colour-colour.ensures in
    let fits : c.halve_drawn-a.result.at + 1 + 2 ^ (c.args.left - 1) ≤ length c.halve_drawn-a.new.row + 1 =
    omega (arith, right_fits _ _ _ _ _ c.args.q.t _ c.if-left-eq0.false c.requires.left_in_bounds.0 _ _ _ c.halve_drawn-a.ensures) in
    (omega arith, ((simp length-set fits, bent), right_half _ _ _ _ _ w _ m (λ b. own_drawn _ w.between.fine bent _ _ _ _ (w.left_drawn bent) (w.right_drawn bent) c.redraw-own.ensures)))

pub overflow_add-result : goal.overflow_add-result
overflow_add-result t c =
    omega (arith, tries_fit _ _ _ _ _ _ _ c.if-left-eq0.false c.requires.left_in_bounds.0 _ _ _ c.halve_drawn-a.ensures _ _ c.halve_drawn-b.ensures)

pub overflow_add-result-2 : goal.overflow_add-result-2
overflow_add-result-2 t c =
    omega (arith, tries_fit _ _ _ _ _ _ _ c.if-left-eq0.false c.requires.left_in_bounds.0 _ _ _ c.halve_drawn-a.ensures _ _ c.halve_drawn-b.ensures)

pub returns : goal.returns
unfolding mid_of
returns t c =
    let w = c.requires.drawn_between in
    let bent = c.requires.left_in_bounds.1 in
    let m = own_colour _ w.between.fine bent _ _ _ _ (w.left_drawn bent) (w.right_drawn bent) c.redraw-own.ensures _ c.find_place-place.ensures c.pair_or-pair.ensures c.curve_of.ensures c.segment_colour-colour.ensures in
    let yes = keeps_is _ _ w.between.left w.between.right refl m c.interpolate_linear-foretold.ensures c.stands_out.ensures c.if-not-stands_out.false in
    both_halves _ _ _ _ _ _ _ c.if-left-eq0.false c.requires.left_in_bounds.0 _ _ _ c.halve_drawn-a.ensures _ _ c.halve_drawn-b.ensures refl yes
