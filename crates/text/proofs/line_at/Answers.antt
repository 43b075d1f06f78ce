-- `line_at` meets its contract: the run of bytes that are no LF ends at the LF, or at the end. Assumes nothing.
use native.Mathlib.Omega.{arith}
use Rattle.text.proofs.Lines.{line_end, line_plain, line_cr}
use Rattle.text.proofs.line_at.Goals as goal
use Rattle.text.proofs.line_at.Goals.{then-at-n+then-s-n-eq-CR, else-at-n, else-at-n-via-then-at-n+else-s-n-eq-CR, else-at-n-via-else-at-n}

pub returns-then-s-n : goal.returns-then-s-n
returns-then-s-n c = let a = c.args in
    line_end a.s.now a.at c.span_end-n.result c.span_end-n.ensures c.if-s-n.true

pub returns : goal.returns
returns c = let a = c.args in
    elim c.if-at-n.branch [
      | then-at-n+then-s-n-eq-CR w ↦ rw w.end-is (line_cr a.s.now a.at c.span_end-n.result c.span_end-n.ensures c.if-s-n.false w.if-at-n.true w.if-s-n-eq-CR.true)
      | else-at-n w ↦ rw w.end-is (line_plain a.s.now a.at c.span_end-n.result c.span_end-n.ensures c.if-s-n.false (elim w.else-at-n.branch [ else-at-n-via-then-at-n+else-s-n-eq-CR v ↦ (λ h t. v.if-s-n-eq-CR.false t) | else-at-n-via-else-at-n v ↦ (λ h t. omega arith) ]))
    ]
