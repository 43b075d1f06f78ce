-- `paint` meets its contract. The invariant: the colours of the first i points, and the rest as it was. Assumes nothing.
use mathlib.Core.Path.{refl, sym, ◌∙◌}
use native.Mathlib.Omega.{arith}
use Rattle.gradient.specs.Gimp.{gimp_colour}
use Rattle.blend.specs.Channels.{colours_of}
use Rattle.paint.proofs.gimp.Filling.{colours_done}
use Rattle.paint.proofs.gimp.Orders.{in_order}
use Rattle.paint.proofs.gimp.paint.Goals as goal

pub loop-i-init : goal.loop-i-init
unfolding colours_of
loop-i-init c = (omega arith, refl, refl)

pub paint_on-i-requires : goal.paint_on-i-requires
paint_on-i-requires c =
    record {
      fits = record { cut = c.requires.cut; room = omega (arith, c.loop-i.invariant.1, c.requires.room) };
      orderly = (λ e. in_order _ (sym c.is_orderly-orderly.ensures ∙ e), c.loop-i-test.true);
    }

pub loop-i-smaller : goal.loop-i-smaller
loop-i-smaller c = let w = c.paint_on-i.ensures in let h = w.on in let k = w.within in omega arith

pub loop-i-preserved : goal.loop-i-preserved
loop-i-preserved c =
    let w = c.paint_on-i.ensures in
    (w.within, w.sized ∙ c.loop-i.invariant.1, w.is c.args.out.now c.requires.room c.loop-i.invariant.2)

pub shape_of-out : goal.shape_of-out
shape_of-out c = c.loop-i.invariant.1

pub returns : goal.returns
returns c =
    c.loop-i.invariant.2 ∙ colours_done (gimp_colour c.args.positions.now c.args.channels.now c.args.codes.now) c.args.ts.now c.args.out.now c.requires.room c.loop-i.i (omega arith) (omega arith)
