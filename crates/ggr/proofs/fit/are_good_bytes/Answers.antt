-- `are_good_bytes` meets its contract: a case for each set of rules. Assumes nothing.
use mathlib.Core.Path.{ap, ◌∙◌}
use Rattle.text.specs.Text.{every, ascii}
use Rattle.text.proofs.Bytes.{part_tail}
use Rattle.ggr.proofs.fit.are_good_bytes.Goals as goal

pub returns-in-Published : goal.returns-in-Published
returns-in-Published c = let s = c.args.s.now in
    rw c.in-Published.is (c.is_ascii.ensures ∙ ap (every ascii) (part_tail s c.marks.result ∙ c.marks.ensures.1))

pub returns-in-Saved : goal.returns-in-Saved
returns-in-Saved c = rw c.in-Saved.is c.is_saved_head.ensures
