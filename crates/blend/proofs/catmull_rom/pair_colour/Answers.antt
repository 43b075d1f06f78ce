-- `catmull_rom::pair_colour` meets its contract: the segment at the share. Assumes nothing.
use Rattle.blend.specs.Pair.{share_of}
use mathlib.Core.Path.{◌∙◌, ap}
use mathlib.Core.List.{List}
use lib.Ieee.{Float}
use Rattle.blend.specs.CatmullRom.{segment_at}
use Rattle.blend.specs.Pair.{catmull_pair}
use Rattle.blend.proofs.catmull_rom.pair_colour.Goals as goal

pub returns : goal.returns
unfolding catmull_pair
returns c =
    c.segment_at.ensures
    ∙ ap (λ (x : Float). segment_at c.segment.result x) c.share.ensures
    ∙ ap (λ (g : List (List Float)). segment_at g (share_of c.args.p c.args.q c.args.t)) c.segment.ensures
