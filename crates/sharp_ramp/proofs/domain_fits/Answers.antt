-- `sharp::domain_fits` meets its contract: the tests decide the definition's comparisons. Assumes nothing.
use Rattle.std.proofs.Common.{rules}
use Rattle.sharp_ramp.specs.Sharp.{domain_fits}
use Rattle.sharp_ramp.proofs.domain_fits.Goals as goal

pub returns-then-is_finite-2 : goal.returns-then-is_finite-2
unfolding domain_fits
returns-then-is_finite-2 c = search rules

pub returns-else-is_finite-2 : goal.returns-else-is_finite-2
unfolding domain_fits
returns-else-is_finite-2 c = search rules
