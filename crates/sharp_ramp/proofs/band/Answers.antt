-- `sharp::band` meets its contract: each branch of the code is a branch of the definition. Assumes nothing.
use Rattle.sharp_ramp.proofs.Laws.{band_left, band_first, band_right, band_last}
use Rattle.sharp_ramp.proofs.band.Goals as goal

pub returns-then-j-gt0 : goal.returns-then-j-gt0
returns-then-j-gt0 c = let a = c.args in band_left a.min a.max a.inset a.n a.j c.if-j-eq0.true c.linspace-left.ensures c.if-j-gt0.true

pub returns-else-j-gt0 : goal.returns-else-j-gt0
returns-else-j-gt0 c = let a = c.args in band_first a.min a.max a.inset a.n a.j c.if-j-eq0.true c.linspace-left.ensures c.if-j-gt0.false

pub returns-then-j-n : goal.returns-then-j-n
returns-then-j-n c = let a = c.args in band_right a.min a.max a.inset a.n a.j c.if-j-eq0.false c.linspace-right.ensures c.if-j-n.true

pub returns-else-j-n : goal.returns-else-j-n
returns-else-j-n c = let a = c.args in band_last a.min a.max a.inset a.n a.j c.if-j-eq0.false c.linspace-right.ensures c.if-j-n.false
