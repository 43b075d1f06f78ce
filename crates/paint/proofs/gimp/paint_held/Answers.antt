-- `paint_held` meets its contract. The invariant: where it goes on, point i lies in the segment and its place is known; and an output that had the colours up to the start now has those up to i. Assumes nothing.
use mathlib.Core.Path.{refl, ◌∙◌, ap}
use mathlib.Core.Bool.{true≢false}
use mathlib.Core.List.{List}
use Prim.Native.Nat.{◌+◌, ◌*◌}
use native.Mathlib.Omega.{arith}
use lib.ListN.{length}
use lib.Seq.{sets, length-sets}
use lib.Ieee.{Float}
use Rattle.gradient.specs.Gimp.{along, gimp_colour}
use Rattle.blend.specs.Channels.{channels_of}
use Rattle.paint.proofs.gimp.Filling.{colours_next}
use Rattle.paint.proofs.gimp.Hits.{found_here, shaded, costly_so, before_end, lies_on}
use Rattle.paint.proofs.gimp.paint_held.Goals as goal

pub hold-g-requires : goal.hold-g-requires
hold-g-requires g c = (c.requires.fits.cut, found_here c.args.positions.now _ c.requires.fits.cut.least c.requires.starts.0.found)

pub bounds-ts-start : goal.bounds-ts-start
bounds-ts-start g c = omega (arith, c.requires.starts.0.inside, c.requires.starts.0.some)

pub loop-on-init : goal.loop-on-init
loop-on-init g c = (
  omega (arith, c.requires.starts.0.inside, c.requires.starts.0.some),
  refl,
  λ e. record { there = omega (arith, c.requires.starts.0.inside, c.requires.starts.0.some); found = c.requires.starts.0.found; on = c.requires.starts.0.on },
  λ e. omega arith,
  λ e. c.place_along-place.ensures,
  λ e. absurd (true≢false e),
  λ o room e. e,
)

pub point_or-t-requires : goal.point_or-t-requires
point_or-t-requires g c =
    c.requires.starts.0.inside

pub shade_by-c-requires : goal.shade_by-c-requires
shade_by-c-requires g c =
    (costly_so c.args.positions.now c.args.channels.now c.args.codes.now c.args.s c.hold-g.ensures c.requires.starts.1, refl)

pub overflow_mul-i : goal.overflow_mul-i
overflow_mul-i g c =
    omega (arith, c.well_formed.1.1.1.0.1, c.loop-on.invariant.0)

pub put_colour-requires : goal.put_colour-requires
put_colour-requires g c =
    let h = (c.loop-on.invariant.2 c.loop-on-test.true).there in
    omega (arith, c.loop-on.invariant.1, c.requires.fits.room)

pub overflow_add-i-in-loop-on : goal.overflow_add-i-in-loop-on
overflow_add-i-in-loop-on g c =
    omega (arith, c.well_formed.1.1.1.0.1, c.loop-on.invariant.0)

pub loop-on-smaller : goal.loop-on-smaller
loop-on-smaller g c = let h = (c.loop-on.invariant.2 c.loop-on-test.true).there in omega arith

pub loop-on-preserved : goal.loop-on-preserved
loop-on-preserved g c =
    let ps = c.args.positions.now in
    let cs = c.args.channels.now in
    let ks = c.args.codes.now in
    let ts = c.args.ts.now in
    let i = c.loop-on.i in
    let inv = c.loop-on.invariant in
    let lies = inv.2 c.loop-on-test.true in
    let here = lies.there in
    let from = inv.3 c.loop-on-test.true in
    let inner = before_end ps cs ks c.args.s c.hold-g.ensures ts (i + 1) c.args.end c.point_or-t.ensures c.is_strictly_inside-on.ensures in (
      omega arith,
      ap length c.put_colour.ensures ∙ simp length-sets inv.1,
      λ e. lies_on ps cs ks c.args.s c.hold-g.ensures ts (i + 1) c.args.end c.point_or-t.ensures c.is_strictly_inside-on.ensures e (λ b. c.requires.starts.0.ordered (omega arith)) (found_here ps _ c.requires.fits.cut.least c.requires.starts.0.found) c.requires.starts.0.inside,
      λ e. omega arith,
      λ e. c.place_along-ahead.ensures ∙ ap (λ (x : Float). along c.hold-g.result.left c.hold-g.result.right x) (c.point_or-t.ensures.here (inner e)),
      λ e. omega arith,
      λ o room e.
          c.put_colour.ensures
          ∙ ap (λ (r : List Float). sets r (4 * i) (channels_of c.shade_by-c.result)) (inv.6 o room e)
          ∙ colours_next (gimp_colour ps cs ks) ts o room i here (shaded ps cs ks c.args.s c.hold-g.ensures ts i lies c.place_along-pivot.ensures (inv.4 c.loop-on-test.true) c.shade_by-c.ensures),
    )

pub shape_of-out : goal.shape_of-out
shape_of-out g c = c.loop-on.invariant.1

pub returns : goal.returns
returns g c = let l = c.loop-on in record { on = l.invariant.5 c.loop-on-test.false; within = l.invariant.0; sized = l.invariant.1; is = l.invariant.6 }
