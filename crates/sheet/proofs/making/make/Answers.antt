-- `make` meets its contract: edit by edit. Assumes nothing.
use mathlib.Core.Path.{refl}
use native.Mathlib.Omega.{arith}
use Rattle.sheet.proofs.Rooms.{colour_there, may_insert, may_remove, make_colour, make_move, make_add, make_remove}
use Rattle.sheet.proofs.making.make.Goals as goal

pub overflow_mul-stop : goal.overflow_mul-stop
overflow_mul-stop c =
    omega (arith, colour_there _ _ _ _ c.requires _ _ c.in-Colour.is)

pub insert-requires : goal.insert-requires
insert-requires c =
    may_insert _ _ _ _ c.requires _ _ _ c.in-Add.is

pub remove-requires : goal.remove-requires
remove-requires c =
    may_remove _ _ _ _ c.requires _ c.in-Remove.is

pub overflow_sub-result : goal.overflow_sub-result
overflow_sub-result c =
    omega (arith, (may_remove _ _ _ _ c.requires _ c.in-Remove.is).0)

pub returns-in-Colour : goal.returns-in-Colour
returns-in-Colour c =
    make_colour _ _ _ _ c.requires _ _ c.in-Colour.is _ c.put_colour.ensures

pub returns-in-Move : goal.returns-in-Move
returns-in-Move c =
    make_move _ _ _ _ c.requires _ _ c.in-Move.is _ c.put.ensures

pub returns-in-Add : goal.returns-in-Add
returns-in-Add c =
    make_add _ _ _ _ c.requires _ _ _ c.in-Add.is _ _ _ c.insert.ensures.positions_value c.insert.ensures.channels_value refl

pub returns-in-Remove : goal.returns-in-Remove
returns-in-Remove c =
    make_remove _ _ _ _ c.requires _ c.in-Remove.is _ _ _ c.remove.ensures.positions_value c.remove.ensures.channels_value refl
