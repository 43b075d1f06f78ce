-- `name_by` meets its contract: the part of line 2 where the file is read, and nothing where it is not. Assumes nothing.
use mathlib.Core.Path.{◌∙◌}
use Rattle.ggr.specs.File.{segment_room}
use Rattle.ggr.proofs.Finish.{name_none, name_read}
use Rattle.ggr.proofs.name_by.Goals as goal

pub returns-in-Refused : goal.returns-in-Refused
unfolding segment_room
returns-in-Refused c =
    name_none c.args.rules c.args.text.now c.read_by-r.result c.read_by-r.ensures.answer _ _ c.in-Refused.is

pub returns-in-Read : goal.returns-in-Read
unfolding segment_room
returns-in-Read c =
    c.name_part.ensures ∙ name_read c.args.rules c.args.text.now c.read_by-r.result c.read_by-r.ensures.answer _ c.in-Read.is
