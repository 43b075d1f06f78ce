-- `to_rgb::into_six` meets its contract: by what the calls ensure. Assumes nothing.
use mathlib.Core.Path.{ap, ◌∙◌}
use lib.Ieee.{Float, binary32, rem}
use Rattle.float.specs.F32.{◌⊕◌, f6}
use Rattle.hsv.specs.Back.{into_six}
use Rattle.hsv.proofs.Remainders.{six_is}
use Rattle.hsv.proofs.to_rgb.into_six.Goals as goal

pub returns : goal.returns
unfolding into_six
returns c =
    c.remainder-2.ensures ∙ ap (rem binary32 (c.remainder.result ⊕ f6)) six_is
    ∙ ap (λ (w : Float). rem binary32 (w ⊕ f6) f6) (c.remainder.ensures ∙ ap (rem binary32 c.args.x) six_is)
