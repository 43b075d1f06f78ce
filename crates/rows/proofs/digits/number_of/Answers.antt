-- `number_of` meets its contract: a plus is left out, once, and only where it is allowed. Assumes nothing.
use mathlib.Core.Logic.{inl, inr}
use mathlib.Core.Path.{ap, ◌∙◌}
use Rattle.rows.specs.Digits.{digits_of}
use Rattle.rows.proofs.Signs.{number_plain, number_plus}
use Rattle.rows.proofs.digits.number_of.Goals as goal
use Rattle.rows.proofs.digits.number_of.Goals.{in_default-via-in-Some+else-plus, in_default-via-in_default}

pub returns-in-Some : goal.returns-in-Some
returns-in-Some c =
    let w = c.in-Some.ensures.cases in
    c.digits_of.ensures ∙ ap digits_of w.1 ∙ number_plus c.args.plus c.args.l.now c.if-plus.true w.0

pub returns-in_default : goal.returns-in_default
returns-in_default c =
    c.digits_of-in_default.ensures
    ∙ number_plain c.args.plus c.args.l.now
    (elim c.in_default.branch [ in_default-via-in-Some+else-plus w ↦ inl w.if-plus.false | in_default-via-in_default w ↦ inr w.in_default.ensures.cases ])
