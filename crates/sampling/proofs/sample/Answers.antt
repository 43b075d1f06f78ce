-- `sample` meets its contract: a resampling with no cell kept. Assumes nothing.
use Rattle.sampling.proofs.Answers.{sample_of}
use Rattle.sampling.proofs.sample.Goals as goal

pub returns : goal.returns
returns c = sample_of _ _ _ _ c.resample.ensures
