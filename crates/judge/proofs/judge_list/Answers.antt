-- `judge_list` meets its contract: the shape, then the colours. Assumes nothing.
use Rattle.judge.proofs.Shaping.{shape_sound}
use Rattle.judge.proofs.Answering.{list_coloured, list_misshapen}
use Rattle.judge.proofs.judge_list.Goals as goal

pub judge_colours-requires : goal.judge_colours-requires
judge_colours-requires c = record {
  codes_value = c.requires;
  sound = shape_sound _ _ _ c.check_list-shape.ensures c.in-Yes.is;
}

pub returns-in-Yes : goal.returns-in-Yes
returns-in-Yes c =
    list_coloured _ _ _ c.min-min.ensures c.max-max.ensures c.check_list-shape.ensures c.in-Yes.is c.judge_colours.ensures

pub returns-in_default : goal.returns-in_default
returns-in_default c =
    list_misshapen _ _ _ c.min-min.ensures c.max-max.ensures c.check_list-shape.ensures c.in_default.not-Yes
