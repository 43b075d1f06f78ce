-- `word_at` meets its contract: a run of blanks, then a run of bytes that are no white space. Assumes nothing.
use borrow.Author.Rules.{rules}
use Rattle.rows.proofs.Words.{word_found, word_line, word_end}
use Rattle.rows.proofs.word_at.Goals as goal

pub returns-then-at-end : goal.returns-then-at-end
returns-then-at-end c = let a = c.args in
    word_found a.s.now a.from _ _ c.span_end-at.ensures c.span_end-end.ensures c.if-at-end.true

pub returns-then-at-s : goal.returns-then-at-s
returns-then-at-s c = let a = c.args in
    word_line a.s.now a.from _ _ c.span_end-at.ensures c.span_end-end.ensures (search rules) (search rules)

pub returns : goal.returns
returns c = let a = c.args in
    word_end a.s.now a.from _ _ c.span_end-at.ensures c.span_end-end.ensures (search rules) (search rules)
