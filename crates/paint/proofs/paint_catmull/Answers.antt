-- `paint_catmull` meets its contract. The invariant: the colours of the first i points, the rest as it was, and the segment of the pair. Assumes nothing.
use mathlib.Core.Path.{refl, ◌∙◌, ap}
use mathlib.Core.List.{List}
use Prim.Native.Nat.{◌*◌}
use native.Mathlib.Omega.{arith}
use lib.ListN.{length}
use lib.Seq.{sets, length-sets}
use lib.Ieee.{Float}
use Rattle.paint.proofs.gimp.Filling.{colours_next, colours_done}
use Rattle.stops.specs.declared.Kind.TheVariants.{CatmullRom}
use Rattle.blend.specs.Channels.{channels_of, colours_of}
use Rattle.paint.specs.inner.Steps.{stop_colour}
use Rattle.stops.proofs.Nearby.{kept_colour}
use Rattle.paint.proofs.paint_catmull.Goals as goal

pub loop-i-init : goal.loop-i-init
unfolding colours_of
loop-i-init c = (omega arith, refl, refl, c.segment_for-s.ensures)

pub renewed-fresh-requires : goal.renewed-fresh-requires
renewed-fresh-requires c = record { s_value = c.loop-i.invariant.3; segments = c.requires.segments }

pub loop-i-preserved : goal.loop-i-preserved
loop-i-preserved c =
    let i = c.loop-i.i in (
      omega arith,
      ap length c.put_colour.ensures ∙ simp length-sets c.loop-i.invariant.1,
      c.put_colour.ensures
          ∙ ap (λ (r : List Float). sets r (4 * i) (channels_of c.segment_colour-c.result)) c.loop-i.invariant.2
          ∙ colours_next (stop_colour CatmullRom c.args.positions.now c.args.channels.now) c.args.ts.now c.args.out.now c.requires.paintable.room i (omega arith) (kept_colour c.args.positions.now c.args.channels.now c.requires.paintable.two c.requires.paintable.rising _ c.loop-i.k c.find_place-place.ensures c.loop-i.k c.pair_or-j.ensures c.renewed-fresh.ensures c.segment_colour-c.ensures),
      c.renewed-fresh.ensures,
    )

pub shape_of-out : goal.shape_of-out
shape_of-out c = c.loop-i.invariant.1

pub returns : goal.returns
returns c = c.loop-i.invariant.2 ∙ colours_done (stop_colour CatmullRom c.args.positions.now c.args.channels.now) c.args.ts.now c.args.out.now c.requires.paintable.room c.loop-i.i (omega arith) (omega arith)
