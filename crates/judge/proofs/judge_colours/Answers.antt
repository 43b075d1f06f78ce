-- `judge_colours` meets its contract: the record is that of a fresh sampling. Assumes nothing.
use mathlib.Core.Path.{refl}
use Rattle.judge.proofs.Sampled.{sampled_fresh, fresh_readable}
use Rattle.judge.proofs.Answering.{colours_judged}
use Rattle.judge.proofs.judge_colours.Goals as goal

pub judge_points-requires : goal.judge_points-requires
judge_points-requires c =
    fresh_readable _ _ _ (sampled_fresh _ _ _ _ _ c.requires.codes_value c.sample.ensures refl refl refl)

pub returns : goal.returns
returns c =
    colours_judged _ _ _ _ _ _ c.requires.codes_value c.requires.sound
    (sampled_fresh _ _ _ _ _ c.requires.codes_value c.sample.ensures refl refl refl)
    c.new-sampler.ensures c.max.ensures c.judge_points.ensures
