-- `paint` meets its contract: the check once, then the room, then the colours. Assumes nothing.
use mathlib.Core.Path.{sym, ◌∙◌}
use Rattle.gradient.specs.Lent.{lent_ramp}
use Rattle.paint.proofs.Painting.{paint_refused, no_room_lem, done}
use borrow.Author.Rules.{rules}
use Rattle.paint.proofs.paint.Goals as goal

pub returns-then-out-ts : goal.returns-then-out-ts
returns-then-out-ts c =
    no_room_lem (lent_ramp c.args.ramp.now) (sym c.check.ensures.answer ∙ c.in-Fine.is) c.args.ts.now c.args.out.now c.if-out-ts.true c.zero_from.ensures

pub paint_all-requires : goal.paint_all-requires
paint_all-requires c = record { codes_value = sym c.check.ensures.answer ∙ c.in-Fine.is; ts_in_bounds = search rules }

pub returns-in-Refused : goal.returns-in-Refused
returns-in-Refused c =
    paint_refused (lent_ramp c.args.ramp.now) (sym c.check.ensures.answer ∙ c.in-Refused.is) c.args.ts.now c.args.out.now

pub returns-else-out-ts : goal.returns-else-out-ts
returns-else-out-ts c =
    done (lent_ramp c.args.ramp.now) (sym c.check.ensures.answer ∙ c.in-Fine.is) c.args.ts.now c.args.out.now c.if-out-ts.false c.paint_all.ensures
