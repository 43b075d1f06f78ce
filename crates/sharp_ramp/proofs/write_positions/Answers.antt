-- `sharp::write_positions` meets its contract. The loop's invariant: the stops before j are stored, and what lies past them is as it was. Assumes nothing.
use Prim.Native.Nat.{◌*◌}
use native.Mathlib.Omega.{arith}
use lib.ListN.{drop}
use Rattle.sharp_ramp.specs.Sharp.{band_at}
use Rattle.sharp_ramp.proofs.Filling.{fill_start, fill_step, fill_end}
use Rattle.sharp_ramp.proofs.Laws.{positions_are}
use Rattle.sharp_ramp.proofs.write_positions.Goals as goal

pub loop-j-init : goal.loop-j-init
loop-j-init c = let a = c.args in fill_start (band_at a.min a.max c.inset_of-inset.result a.n) a.positions.now

pub loop-j-preserved : goal.loop-j-preserved
loop-j-preserved c =
    let a = c.args in
    fill_step (band_at a.min a.max c.inset_of-inset.result a.n) a.positions.now c.loop-j.j (omega arith) c.loop-j.invariant c.band.ensures

pub returns : goal.returns
returns c =
    let a = c.args in
    positions_are a.min a.max a.s a.n (drop (2 * a.n) a.positions.now) c.inset_of-inset.ensures
    (fill_end (band_at a.min a.max c.inset_of-inset.result a.n) a.positions.now c.loop-j.j (2 * a.n) (omega arith) c.loop-j-test.false c.loop-j.invariant)
