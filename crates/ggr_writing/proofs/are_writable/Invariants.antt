-- `are_writable` meets its contract: what is left can be written as the whole can. Assumes nothing.
use mathlib.Core.Path.{◌≡◌}
use Prim.Native.Nat.{◌-◌, ◌≤◌}
use Rattle.ggr_writing.specs.File.{writable_from}
use Rattle.ggr_writing.proofs.are_writable.Given as goal

abbrev pub invariant-loop-i : goal.invariant-loop-i
invariant-loop-i l = (l.i ≤ l.n) × (writable_from (l.n - l.i) l.i l.positions l.channels ≡ writable_from l.n 0 l.positions l.channels)
