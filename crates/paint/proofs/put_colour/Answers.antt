-- `put_colour` meets its contract: four stores in a row. Assumes nothing.
use mathlib.Core.Path.{refl}
use lib.ListN.{length-set}
use Rattle.stops.proofs.Colours.{four_stores}
use borrow.Author.Rules.{rules}
use Rattle.paint.proofs.put_colour.Goals as goal

pub bounds-out-k-2 : goal.bounds-out-k-2
bounds-out-k-2 c = simp length-set (search rules)

pub bounds-out-k-3 : goal.bounds-out-k-3
bounds-out-k-3 c = simp length-set (search rules)

pub bounds-out-k-4 : goal.bounds-out-k-4
bounds-out-k-4 c = simp length-set (search rules)

pub returns : goal.returns
returns c = four_stores c.args.out.now _ _ _ _ c.args.k c.args.c refl refl refl refl
