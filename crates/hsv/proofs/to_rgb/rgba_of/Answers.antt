-- `to_rgb::rgba_of` meets its contract: what the calls ensure, put together. Assumes nothing.
use Rattle.hsv.proofs.Steps.{rgba_is}
use Rattle.hsv.proofs.to_rgb.rgba_of.Goals as goal

pub returns : goal.returns
returns c = rgba_is c.args.c c.clamp-s.ensures c.clamp-v.ensures c.lightness-l.ensures c.angle.ensures c.saturation.ensures c.clamp.ensures c.from_lightness.ensures
