-- `is_saved_head` meets its contract: a test for each of the three lines. Assumes nothing.
use native.Mathlib.Omega.{arith}
use mathlib.Core.Bool.{true≢false}
use mathlib.Core.Path.{sym, ◌∙◌}
use Rattle.header.proofs.Named.{head_one, head_two, head_three}
use Rattle.header.proofs.is_saved_head.Goals as goal
use Rattle.header.proofs.is_saved_head.Goals.{then-is_ascii, else-is_ascii}

pub slice_bounds-is_ascii-end : goal.slice_bounds-is_ascii-end
slice_bounds-is_ascii-end c = omega (arith, c.line_at-title.ensures.within c.marks-at.ensures.0)

pub slice_bounds-is_utf8-end : goal.slice_bounds-is_utf8-end
slice_bounds-is_utf8-end c = omega (arith, c.line_at-name.ensures.within (c.line_at-title.ensures.beyond c.marks-at.ensures.0))

pub slice_bounds-is_ascii-end-then-is_utf8 : goal.slice_bounds-is_ascii-end-then-is_utf8
slice_bounds-is_ascii-end-then-is_utf8 c = omega (arith, c.line_at-count.ensures.within (c.line_at-name.ensures.beyond (c.line_at-title.ensures.beyond c.marks-at.ensures.0)))

pub returns-then-is_utf8 : goal.returns-then-is_utf8
returns-then-is_utf8 c =
    elim c.if-is_ascii.branch [
      | then-is_ascii w ↦
          head_three c.args.s.now c.marks-at.ensures.1 c.line_at-title.ensures c.line_at-name.ensures c.is_ascii.ensures w.is_utf8.ensures
          w.if-is_ascii.true (sym w.value-is ∙ c.if-is_utf8.true) c.line_at-count.ensures c.is_ascii-then-is_utf8.ensures
      | else-is_ascii w ↦ absurd (true≢false (sym c.if-is_utf8.true ∙ w.value-is ∙ w.if-is_ascii.false))
    ]

pub returns-else-is_utf8 : goal.returns-else-is_utf8
returns-else-is_utf8 c =
    c.if-is_utf8.false
    ∙ elim c.if-is_ascii.branch [
      | then-is_ascii w ↦
          head_two c.args.s.now c.marks-at.ensures.1 c.line_at-title.ensures c.line_at-name.ensures c.is_ascii.ensures w.is_utf8.ensures
          w.if-is_ascii.true (sym w.value-is ∙ c.if-is_utf8.false)
      | else-is_ascii w ↦ head_one c.args.s.now c.marks-at.ensures.1 c.line_at-title.ensures c.line_at-name.ensures c.is_ascii.ensures w.if-is_ascii.false
    ]
