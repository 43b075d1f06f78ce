-- `name_part` meets its contract: line 2 without its first five bytes, trimmed. Assumes nothing.
use Prim.Native.Nat.{◌-◌}
use native.Mathlib.Omega.{arith}
use mathlib.Core.Path.{ap, ◌∙◌}
use lib.ListN.{take, drop}
use Rattle.text.specs.Text.{trim}
use Rattle.text.proofs.Bytes.{part_tail}
use Rattle.header.proofs.Named.{name_read, name_short}
use Rattle.header.proofs.name_part.Goals as goal

pub slice_bounds-line-end : goal.slice_bounds-line-end
slice_bounds-line-end c = omega (arith, c.line_at-second.ensures.within (c.line_at-first.ensures.beyond c.marks.ensures.0))

pub returns-then-line-lt5 : goal.returns-then-line-lt5
returns-then-line-lt5 c =
    name_short c.args.s.now c.marks.ensures.1 c.line_at-first.ensures c.line_at-second.ensures c.if-line-lt5.true

pub returns-else-line-lt5 : goal.returns-else-line-lt5
returns-else-line-lt5 c =
    let s = c.args.s.now in
    let at = c.line_at-first.result.next in
    let line = take (c.line_at-second.result.end - at) (drop at s) in
    c.trimmed.ensures ∙ ap trim (part_tail line 5) ∙ name_read s c.marks.ensures.1 c.line_at-first.ensures c.line_at-second.ensures
