-- `to_rgb::channel` meets its contract: what the calls ensure, put together. Assumes nothing.
use Rattle.hsv.proofs.Steps.{channel_is}
use Rattle.hsv.proofs.to_rgb.channel.Goals as goal

pub returns : goal.returns
returns c = let a = c.args in channel_is a.least a.most a.x c.into_six.ensures c.channel_at.ensures c.clamp.ensures
