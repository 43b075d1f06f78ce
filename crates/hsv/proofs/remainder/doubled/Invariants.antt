-- `remainder::doubled`: so many doublings have been made. Assumes nothing.
use Rattle.std.proofs.Common.{◌≡◌, ◌*◌, ◌^◌, ◌%◌}
use Rattle.hsv.proofs.remainder.doubled.Given as goal

abbrev pub invariant-loop-i : goal.invariant-loop-i
invariant-loop-i l = l.left ≡ l.r * 2 ^ l._i % l.y
