-- `gimp::colour_at` meets its contract: off the domain at once; else the colour of the segment found, which is one of those that there are. Assumes nothing.
use Rattle.gradient.proofs.GimpSearch.{found_within}
use Rattle.gradient.proofs.GimpLaws.{beyond, inside}
use Rattle.gradient.proofs.gimp.colour_at.Goals as goal

pub returns-then-is_off_domain : goal.returns-then-is_off_domain
returns-then-is_off_domain c = let a = c.args in beyond a.positions.now a.channels.now a.codes.now a.t c.is_off_domain.ensures c.if-is_off_domain.true

pub segment_at-g-requires : goal.segment_at-g-requires
segment_at-g-requires c = let a = c.args in rw c.find_segment.ensures (found_within a.positions.now a.t)

pub returns : goal.returns
returns c =
    let a = c.args in
    inside a.positions.now a.channels.now a.codes.now a.t c.is_off_domain.ensures c.if-is_off_domain.false c.find_segment.ensures c.segment_at-g.ensures c.segment_colour.ensures
