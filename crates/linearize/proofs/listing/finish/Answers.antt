-- `finish` meets its contract: a refusal clears both outputs. Assumes nothing.
use Rattle.linearize.proofs.Lists.{refused_answer, done_answer, zeroed, left}
use Rattle.linearize.proofs.listing.finish.Goals as goal

pub returns-then-refusal-ne0 : goal.returns-then-refusal-ne0
returns-then-refusal-ne0 c =
    let a = c.args in
    let bad = c.if-refusal-ne0.true in
    record { value = refused_answer _ _ _ bad; places_value = zeroed _ a.places.now _ bad c.zero_from.ensures; colours_value = zeroed _ a.colours.now _ bad c.zero_from-then-refusal-ne0.ensures }

pub returns : goal.returns
returns c =
    let a = c.args in
    let good = c.if-refusal-ne0.false in
    record { value = done_answer _ _ _ good; places_value = left _ a.places.now good; colours_value = left _ a.colours.now good }
