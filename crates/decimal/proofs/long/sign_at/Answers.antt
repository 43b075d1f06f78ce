-- `decimal::long::sign_at` meets its contract: by the byte there. Assumes nothing.
use native.Mathlib.Omega.{arith}
use Rattle.decimal.proofs.LongPlace.{sign_end, sign_minus, sign_plus, sign_plain}
use Rattle.decimal.proofs.long.sign_at.Goals as goal

pub returns-then-at-s : goal.returns-then-at-s
returns-then-at-s c = sign_end _ _ (omega arith) c.if-at-s.true

pub returns-then-b-eq45 : goal.returns-then-b-eq45
returns-then-b-eq45 c = sign_minus _ _ (omega arith) c.if-b-eq45.true

pub returns-then-b-eq43 : goal.returns-then-b-eq43
returns-then-b-eq43 c = sign_plus _ _ (omega arith) c.if-b-eq45.false c.if-b-eq43.true

pub returns : goal.returns
returns c = sign_plain _ _ (omega arith) c.if-b-eq45.false c.if-b-eq43.false
