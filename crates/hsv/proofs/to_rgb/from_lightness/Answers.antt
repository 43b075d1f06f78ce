-- `to_rgb::from_lightness` meets its contract: a grey, or three channels from the one least and greatest. Assumes nothing.
use Rattle.hsv.proofs.Steps.{light_grey, light_hued}
use Rattle.hsv.proofs.to_rgb.from_lightness.Goals as goal

pub returns-then-s : goal.returns-then-s
returns-then-s c = let a = c.args in light_grey a.h a.s a.l a.a c.if-s.true

pub returns : goal.returns
returns c = let a = c.args in light_hued a.h a.s a.l a.a c.if-s.false c.upper-most.ensures c.channel.ensures c.channel-2.ensures c.channel-3.ensures
