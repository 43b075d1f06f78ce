-- `judge`: what is said of a list made elsewhere, of its shape alone too, and how it is told.
use contract.Lifetimes.{Lfts}
use Rattle.promises.specs.Law.{Coincide, coincide, answer}
use Rattle.judge.proofs.check_list.Reads as of_check_list
use Rattle.judge.proofs.judge.Reads as of_judge

pub check_list : (κs : Lfts 2) (a : _) → Coincide (of_check_list.Learnt κs a) answer
check_list κs a = coincide (λ r e w. w)

pub judge : (κs : Lfts 4) (a : _) → Coincide (of_judge.Learnt κs a) answer
judge κs a = coincide (λ r e w. w.answer)
