-- `paint_stops` meets its contract. The invariant: the colours of the first i points, and the rest as it was. Any pair may be tried first. Assumes nothing.
use mathlib.Core.Path.{refl, ◌∙◌, ap}
use mathlib.Core.List.{List}
use Prim.Native.Nat.{◌*◌}
use native.Mathlib.Omega.{arith}
use lib.ListN.{length}
use lib.Seq.{sets, length-sets}
use lib.Ieee.{Float}
use Rattle.paint.proofs.gimp.Filling.{colours_next, colours_done}
use Rattle.blend.specs.Channels.{channels_of, colours_of}
use Rattle.paint.specs.inner.Steps.{stop_colour}
use Rattle.paint.proofs.paint_stops.Goals as goal

pub span_of-span-requires : goal.span_of-span-requires
span_of-span-requires c = c.requires.two

pub loop-i-init : goal.loop-i-init
unfolding colours_of
loop-i-init c = (omega arith, refl, refl)

pub find_place-place-requires : goal.find_place-place-requires
find_place-place-requires c = record { rising = c.requires.rising; span = c.span_of-span.ensures }

pub colour_in-c-requires : goal.colour_in-c-requires
colour_in-c-requires c = let p = c.requires in record { two = p.two; rising = p.rising; four = p.four; found = c.find_place-place.ensures }

pub loop-i-preserved : goal.loop-i-preserved
loop-i-preserved c =
    let i = c.loop-i.i in (
      omega arith,
      ap length c.put_colour.ensures ∙ simp length-sets c.loop-i.invariant.1,
      c.put_colour.ensures
          ∙ ap (λ (r : List Float). sets r (4 * i) (channels_of c.colour_in-c.result)) c.loop-i.invariant.2
          ∙ colours_next (stop_colour c.args.kind c.args.positions.now c.args.channels.now) c.args.ts.now c.args.out.now c.requires.room i (omega arith) c.colour_in-c.ensures,
    )

pub shape_of-out : goal.shape_of-out
shape_of-out c = c.loop-i.invariant.1

pub returns : goal.returns
returns c = c.loop-i.invariant.2 ∙ colours_done (stop_colour c.args.kind c.args.positions.now c.args.channels.now) c.args.ts.now c.args.out.now c.requires.room c.loop-i.i (omega arith) (omega arith)
