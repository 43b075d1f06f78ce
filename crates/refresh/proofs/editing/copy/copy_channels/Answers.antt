-- `copy_channels` meets its contract: four channels in the place of four are a change of colour. Assumes nothing.
use mathlib.Core.Path.{ap, ◌∙◌}
use mathlib.Core.List.{List}
use lib.ListN.{length}
use lib.Seq.{sets}
use lib.Ieee.{Float}
use Rattle.refresh.proofs.editing.Copying.{channels_as, channels_by}
use Rattle.refresh.proofs.editing.Splices.{changed_splice}
use Rattle.refresh.proofs.editing.copy.copy_channels.Goals as goal

pub returns-in-Colour : goal.returns-in-Colour
returns-in-Colour c =
    let told = c.in-Colour.is in
    let done = c.splice_colour in
    let cs = c.args.channels.now in
    channels_by told done.new.to c.args.to.now cs
    (done.ensures ∙ ap (λ (l : List Float). sets c.args.to.now 0 l) (changed_splice cs _ _ (channels_as told (length cs) c.requires.0)))
