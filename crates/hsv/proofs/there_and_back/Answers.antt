-- `there_and_back` meets its contract: what the two calls ensure, put together. Assumes nothing.
use mathlib.Core.Path.{ap, ◌∙◌}
use Rattle.hsv.specs.Back.{rgba_of}
use Rattle.hsv.specs.Mix.{there_and_back}
use Rattle.hsv.proofs.there_and_back.Goals as goal

pub returns : goal.returns
unfolding there_and_back
returns c = c.rgba_of.ensures ∙ ap rgba_of c.hsva_of.ensures
