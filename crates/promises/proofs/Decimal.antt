-- `decimal`: a token is read by its definition.
use contract.Lifetimes.{Lfts}
use Rattle.promises.specs.Law.{Coincide, coincide, answer}
use Rattle.decimal.specs.Means.{Means, Short, Long}
use Rattle.decimal.proofs.Theorems.{read_means, read_long_means}
use Rattle.decimal.proofs.read.Reads as of_read
use Rattle.decimal.proofs.long.read_long.Reads as of_long

pub read : (κs : Lfts 1) (a : _) → Coincide (of_read.Learnt κs a) answer
read κs a = coincide (λ r e w. w)

-- and is the nearest f32 to what the bytes say, where they have the form of a number, and no number where they have not
pub read_means_it : (κs : Lfts 1) (a : _) (r : _) (e : _) → of_read.Learnt κs a r e → Means (Short a.0.now) r
read_means_it κs a r e w = read_means _ r w

-- the same of a long token, by its own rule
pub read_long : (κs : Lfts 1) (a : _) → Coincide (of_long.Learnt κs a) answer
read_long κs a = coincide (λ r e w. w)

pub read_long_means_it : (κs : Lfts 1) (a : _) (r : _) (e : _) → of_long.Learnt κs a r e → Means (Long a.0.now) r
read_long_means_it κs a r e w = read_long_means _ r w
