-- `trimmed` meets its contract: the run of white space at the front is left out, then that at the end. Assumes nothing.
use native.Mathlib.Omega.{arith}
use mathlib.Core.Path.{ap, ◌∙◌}
use Rattle.text.specs.declared.Class.TheVariants.{White}
use Rattle.text.specs.Text.{trim_end, trim}
use Rattle.text.specs.Places.{in_class}
use Rattle.text.proofs.Bytes.{part_tail, span-le, trim_from}
use Rattle.text.proofs.trimmed.Goals as goal

pub slice_bounds-t-count : goal.slice_bounds-t-count
slice_bounds-t-count c = omega (arith, span-le (in_class White) c.args.s.now)

pub slice_bounds-t-start : goal.slice_bounds-t-start
slice_bounds-t-start c = omega (arith, span-le (in_class White) c.args.s.now)

pub returns : goal.returns
unfolding trim
returns c = let s = c.args.s.now in
    c.trim_end-e.ensures.1 ∙ ap trim_end (part_tail s c.span_end-a.result ∙ trim_from s c.span_end-a.result c.span_end-a.ensures)
