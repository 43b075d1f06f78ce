-- `basis::spline` meets its contract: channel by channel, with the weights that were worked out once. Assumes nothing.
use mathlib.Core.Path.{◌≡◌, ◌∙◌, ap}
use lib.Ieee.{Float}
use Rattle.blend.specs.Basis.{weights_of, weighted_sum, basis}
use Rattle.blend.specs.declared.basis.Weights.{Weights}
use Rattle.blend.proofs.Channels.{same_rgba}
use Rattle.blend.proofs.basis.spline.Goals as goal

pub returns : goal.returns
unfolding basis
returns c =
    let weigh_by : (v0 v1 v2 v3 x : Float) → x ≡ weighted_sum c.weights_at-w.result v0 v1 v2 v3 → x ≡ weighted_sum (weights_of c.args.t) v0 v1 v2 v3 = λ v0 v1 v2 v3 x e. e ∙ ap (λ (w : Weights). weighted_sum w v0 v1 v2 v3) c.weights_at-w.ensures in
    same_rgba (weigh_by _ _ _ _ _ c.weigh.ensures) (weigh_by _ _ _ _ _ c.weigh-2.ensures) (weigh_by _ _ _ _ _ c.weigh-3.ensures) (weigh_by _ _ _ _ _ c.weigh-4.ensures)
