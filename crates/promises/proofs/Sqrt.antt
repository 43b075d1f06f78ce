-- `sqrt`: the root by its definition; a cutoff, which is only described, is the only one.
use contract.Lifetimes.{Lfts}
use Rattle.sqrt.proofs.Theorems.{cutoff_unique}
use Rattle.promises.specs.Law.{Coincide, coincide, answer}
use Rattle.sqrt.proofs.root.Reads as of_root
use Rattle.sqrt.proofs.half_root.cutoff.Reads as of_cutoff

pub root : (κs : Lfts 0) (a : _) → Coincide (of_root.Learnt κs a) answer
root κs a = coincide (λ r e w. w)

pub cutoff : (κs : Lfts 0) (a : _) → Coincide (of_cutoff.Learnt κs a) answer
cutoff κs a = λ r s e f. cutoff_unique a.0 r s
