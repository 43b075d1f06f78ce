-- `to_rgb::channel_at` meets its contract: each branch of the code is a branch of the definition. Assumes nothing.
use Rattle.hsv.specs.Back.{channel_at}
use Rattle.hsv.proofs.to_rgb.channel_at.Goals as goal

pub returns-then-x : goal.returns-then-x
unfolding channel_at
returns-then-x c = simp c.if-x.true

pub returns-then-x-2 : goal.returns-then-x-2
unfolding channel_at
returns-then-x-2 c = simp (c.if-x.false, c.if-x-2.true)

pub returns-then-x-3 : goal.returns-then-x-3
unfolding channel_at
returns-then-x-3 c = simp (c.if-x.false, c.if-x-2.false, c.if-x-3.true)

pub returns : goal.returns
unfolding channel_at
returns c = simp (c.if-x.false, c.if-x-2.false, c.if-x-3.false)
