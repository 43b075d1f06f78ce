-- `next_own` meets its contract: no lent position is left, or the neighbour is less, or the lent position comes first. Assumes nothing.
use Rattle.weighed.proofs.Neighbouring.{no_lent, beside_next, lent_next, NotBefore, none_before}
use Rattle.weighed.proofs.neighbours.next_own.Goals as goal
use Rattle.weighed.proofs.neighbours.next_own.Goals.{in-Some+else-y-p, in_default}

pub returns-then-positions-l : goal.returns-then-positions-l
returns-then-positions-l c = no_lent _ _ _ c.next_beside-x.ensures c.if-positions-l.true

pub returns-then-y-p : goal.returns-then-y-p
returns-then-y-p c = beside_next c.args.positions.now c.args.at c.if-positions-l.false _ _ c.in-Some.is c.next_beside-x.ensures c.if-y-p.true

pub returns : goal.returns
returns c =
    let a = c.args in
    let l = c.if-positions-l.false in
    let kept : NotBefore a.positions.now a.at l c.next_beside-x.result =
    elim c.match-x.branch [ in-Some+else-y-p w ↦ rw w.in-Some.is w.if-y-p.false | in_default w ↦ none_before a.positions.now a.at l _ w.in_default.not-Some ] in
    lent_next a.positions.now a.at l _ c.next_beside-x.ensures kept
