-- `cutoff_of` meets its contract: the cutoff of the sampler's threshold. Assumes nothing.
use mathlib.Core.Path.{subst}
use lib.Ieee.{Float}
use Rattle.sqrt.specs.Cutoff.{IsCutoff}
use Rattle.sampling.proofs.cutoff_of.Goals as goal

pub returns : goal.returns
returns c = subst (λ (t : Float). IsCutoff t c.cutoff.result) c.new-sampler.ensures c.cutoff.ensures
