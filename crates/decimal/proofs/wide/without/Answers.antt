-- `decimal::wide::without` meets its contract: word by word, with what is lent and given back. Assumes nothing.
use Rattle.decimal.proofs.Words.{hi_le, room, taken_off}
use Rattle.decimal.proofs.wide.without.Goals as goal

pub overflow_sub-hi : goal.overflow_sub-hi
overflow_sub-hi c = hi_le c.args.b c.args.a c.requires.b_bound

pub overflow_sub-hi-3 : goal.overflow_sub-hi-3
overflow_sub-hi-3 c = room c.args.a c.args.b c.requires.b_bound

pub returns : goal.returns
returns c = taken_off c.args.a c.args.b c.requires.b_bound
