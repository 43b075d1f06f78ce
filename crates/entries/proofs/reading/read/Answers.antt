-- `read` meets its contract: each part goes on where the one before it ends. Assumes nothing.
use borrow.Author.Rules.{rules}
use mathlib.Core.Path.{◌≡◌}
use Rattle.std.specs.Prelude.{Err}
use Rattle.entries.proofs.Stored.{many_bytes, no_bytes, no_kind, whole_unread, whole_ready}
use Rattle.entries.proofs.reading.read.Goals as goal

pub returns-then-s-gt-MOST_BYTES : goal.returns-then-s-gt-MOST_BYTES
returns-then-s-gt-MOST_BYTES c = many_bytes c.args.s.now c.if-s-gt-MOST_BYTES.true

pub returns-then-s-eq0 : goal.returns-then-s-eq0
returns-then-s-eq0 c = no_bytes c.args.s.now c.if-s-eq0.true

pub returns-in_default : goal.returns-in_default
returns-in_default c = no_kind c.args.s.now (search rules) (search rules) c.step_at-step.ensures c.in_default.not-Ramp

pub stops_at-block-requires : goal.stops_at-block-requires
stops_at-block-requires c = (c.start_at-start.ensures.within, search rules)

pub returns-in_err-edited : goal.returns-in_err-edited
returns-in_err-edited c =
    let e : c.from_residual.result ≡ Err c.in_err-edited.field-0.0 = search rules in
    rw e (whole_unread c.args.s.now (search rules) (search rules) c.step_at-step.ensures c.in-Ramp.is c.start_at-start.ensures c.stops_at-block.ensures c.ending_at.ensures c.in_err-edited.was)

pub returns : goal.returns
returns c = whole_ready c.args.s.now (search rules) (search rules) c.step_at-step.ensures c.in-Ramp.is c.start_at-start.ensures c.stops_at-block.ensures c.ending_at.ensures c.in_ok-edited.was
