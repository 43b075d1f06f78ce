-- `rows`: a whole number in digits, and a row of numbers.
use contract.Lifetimes.{Lfts}
use Rattle.promises.specs.Law.{Coincide, coincide, answer, ◌with◌, both}
use Rattle.rows.proofs.digits.number_of.Reads as of_number_of
use Rattle.rows.proofs.row_at.Reads as of_row_at

pub number_of : (κs : Lfts 1) (a : _) → Coincide (of_number_of.Learnt κs a) answer
number_of κs a = coincide (λ r e w. w)

-- the numbers, how many, and where what follows them starts
pub row_at : (κs : Lfts 1) (a : _) → Coincide (of_row_at.Learnt κs a) (λ r e. r.d with r.n with r.next)
row_at κs a = coincide (λ r e w. both w.values (both w.count w.goes_on))
