-- `nine_text` meets its contract: by the sign. Assumes nothing.
use Rattle.numerals.proofs.Put.{minus_put, plus_put}
use Rattle.numerals.proofs.nine_text.Goals as goal

pub returns-then-neg : goal.returns-then-neg
returns-then-neg c = let s = c.settled-d in minus_put _ _ _ _ _ _ c.if-neg.true s.ensures.text_is s.ensures.few c.put_plain-n.ensures.0 c.put_plain-n.ensures.1

pub returns : goal.returns
returns c = let s = c.settled-d in plus_put _ _ _ _ _ _ c.if-neg.false s.ensures.text_is s.ensures.few c.put_plain-n-2.ensures.0 c.put_plain-n-2.ensures.1
