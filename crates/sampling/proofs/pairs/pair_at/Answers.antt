-- `pair_at` meets its contract: the pair that was read, mixed by its kind. Assumes nothing.
use lib.ListN.{length}
use Rattle.stops.specs.Pair.{pair_of, colour_in}
use Rattle.stops.specs.declared.Kind.TheVariants.{Linear, Smoothstep}
use Rattle.stops.proofs.Pairs.{by_kind, by_sharp, by_basis, by_pair}
use Rattle.sampling.proofs.pairs.pair_at.Goals as goal

pub returns-in-Linear : goal.returns-in-Linear
unfolding pair_of
returns-in-Linear c =
    let a = c.args in
    by_pair a.kind a.positions.now a.channels.now a.t a.k c.less-lower.ensures c.stop-p.ensures c.stop-q.ensures (by_kind a.channels.now (length a.positions.now) a.k _ _ a.t Linear c.in-Linear.is c.pair_colour.ensures)

pub returns-in-Smoothstep : goal.returns-in-Smoothstep
unfolding pair_of
returns-in-Smoothstep c =
    let a = c.args in
    by_pair a.kind a.positions.now a.channels.now a.t a.k c.less-lower.ensures c.stop-p.ensures c.stop-q.ensures (by_kind a.channels.now (length a.positions.now) a.k _ _ a.t Smoothstep c.in-Smoothstep.is c.pair_colour-in-Smoothstep.ensures)

pub returns-in-Sharp : goal.returns-in-Sharp
returns-in-Sharp c =
    let a = c.args in
    by_pair a.kind a.positions.now a.channels.now a.t a.k c.less-lower.ensures c.stop-p.ensures c.stop-q.ensures (by_sharp a.channels.now (length a.positions.now) a.k _ _ a.t c.in-Sharp.is c.less-lower.ensures c.pair_colour-in-Sharp.ensures)

pub returns-in-Basis : goal.returns-in-Basis
returns-in-Basis c =
    let a = c.args in
    by_pair a.kind a.positions.now a.channels.now a.t a.k c.less-lower.ensures c.stop-p.ensures c.stop-q.ensures (by_basis a.channels.now (length a.positions.now) a.k _ _ a.t c.left_of.ensures c.right_of.ensures c.in-Basis.is c.pair_colour-in-Basis.ensures)

pub returns-in-CatmullRom : goal.returns-in-CatmullRom
unfolding colour_in
returns-in-CatmullRom c = c.any_pair.ensures
