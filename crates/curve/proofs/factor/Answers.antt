-- `factor` meets its contract: a case for each test, and between them the quotient of two depths. Assumes nothing.
use mathlib.Core.Path.{sym, ap, ap₂, ◌∙◌, subst}
use lib.Dec.{T}
use lib.Ieee.{Float, le}
use Rattle.float.specs.F32.{◌⊘◌, f0}
use Rattle.float.proofs.Order.{ne_self}
use Rattle.float.proofs.Patterns.{is_nan_lem}
use Rattle.curve.specs.Factor.{fall_of}
use Rattle.curve.proofs.Inside.{Inside}
use Rattle.curve.proofs.Tested.{number, over_zero, under_one, between, ratio_low, place_nan, place_low, place_high, middle_nan, middle_low, middle_high, middle_inside}
use Rattle.curve.proofs.factor.Goals as goal

pub returns-then-place : goal.returns-then-place
returns-then-place c = let p = c.args.place in is_nan_lem p c.if-place.true ∙ place_nan p _ (sym (ne_self p) ∙ c.if-place.true)

pub returns-then-place-2 : goal.returns-then-place-2
returns-then-place-2 c = let p = c.args.place in place_low p _ (number p c.if-place.false) c.if-place-2.true

pub returns-then-place-3 : goal.returns-then-place-3
returns-then-place-3 c = let p = c.args.place in place_high p _ (number p c.if-place.false) c.if-place-2.false c.if-place-3.true

pub returns-then-middle : goal.returns-then-middle
returns-then-middle c =
    let p = c.args.place in
    let m = c.args.middle in
    is_nan_lem m c.if-middle.true ∙ middle_nan p m (number p c.if-place.false) c.if-place-2.false c.if-place-3.false (sym (ne_self m) ∙ c.if-middle.true)

pub returns-then-middle-2 : goal.returns-then-middle-2
returns-then-middle-2 c =
    let p = c.args.place in
    let m = c.args.middle in
    middle_low p m (number p c.if-place.false) c.if-place-2.false c.if-place-3.false (number m c.if-middle.false) c.if-middle-2.true

pub returns-then-middle-3 : goal.returns-then-middle-3
returns-then-middle-3 c =
    let p = c.args.place in
    let m = c.args.middle in
    middle_high p m (number p c.if-place.false) c.if-place-2.false c.if-place-3.false (number m c.if-middle.false) c.if-middle-2.false c.if-middle-3.true

pub depth-requires : goal.depth-requires
depth-requires c =
    let p = c.args.place in
    let n = number p c.if-place.false in
    (over_zero p n c.if-place-2.false c.if-place-3.false, under_one p n c.if-place-2.false c.if-place-3.false)

pub depth-requires-2 : goal.depth-requires-2
depth-requires-2 c =
    let m = c.args.middle in
    let n = number m c.if-middle.false in
    (over_zero m n c.if-middle-2.false c.if-middle-3.false, under_one m n c.if-middle-2.false c.if-middle-3.false)

pub fall-requires : goal.fall-requires
fall-requires c =
    let p = c.args.place in
    let m = c.args.middle in
    let i : Inside p = between p (number p c.if-place.false) c.if-place-2.false c.if-place-3.false (subst T (sym c.well_formed.0.1) tt) in
    let j : Inside m = between m (number m c.if-middle.false) c.if-middle-2.false c.if-middle-3.false (subst T (sym c.well_formed.1.0.1) tt) in
    subst (λ (r : Float). T (le f0 r)) (sym (ap₂ ◌⊘◌ c.depth.ensures c.depth-2.ensures)) (ratio_low p m i j)

pub returns : goal.returns
returns c =
    let p = c.args.place in
    let m = c.args.middle in
    c.fall.ensures ∙ ap fall_of (ap₂ ◌⊘◌ c.depth.ensures c.depth-2.ensures)
    ∙ middle_inside p m (number p c.if-place.false) c.if-place-2.false c.if-place-3.false (number m c.if-middle.false) c.if-middle-2.false c.if-middle-3.false
