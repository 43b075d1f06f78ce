-- `are_writable` meets its contract: what is left can be written as the whole can. Assumes nothing.
use borrow.Author.Rules.{rules}
use Rattle.float.proofs.Flags.{failed, passed}
use native.Mathlib.Omega.{arith}
use mathlib.Core.Path.{◌≡◌, ap, ◌∙◌}
use mathlib.Core.Bool.{Bool}
use mathlib.Core.List.{List}
use lib.Ieee.{Float}
use Prim.Native.Nat.{ℕ, ◌+◌}
use Rattle.blend.specs.declared.Stop.{Stop}
use Rattle.stops.specs.Stops.{stop_at}
use Rattle.ggr_writing.specs.File.{segment_between, writable_segment}
use Rattle.ggr_writing.proofs.Checks.{from_start, from_fails, from_next, from_done}
use Rattle.ggr_writing.proofs.are_writable.Goals as goal

-- the segment that was asked about
asked : {a b : Stop} {t : Bool} (ps cs : List Float) (i : ℕ) → a ≡ stop_at ps cs i → b ≡ stop_at ps cs (i + 1) → t ≡ writable_segment (segment_between a b) → t ≡ writable_segment (segment_between (stop_at ps cs i) (stop_at ps cs (i + 1)))
asked {a} {b} ps cs i e f h = h ∙ ap (λ (x : Stop). writable_segment (segment_between x b)) e ∙ ap (λ (x : Stop). writable_segment (segment_between (stop_at ps cs i) x)) f

pub loop-i-init : goal.loop-i-init
loop-i-init c = let a = c.args in (omega arith, from_start a.n 0 a.positions.now a.channels.now)

pub returns-then-not-is_writable_pair : goal.returns-then-not-is_writable_pair
returns-then-not-is_writable_pair c = let a = c.args in from_fails a.n c.loop-i.i a.positions.now a.channels.now (search rules) c.loop-i.invariant.1 (failed c.if-not-is_writable_pair.true (asked a.positions.now a.channels.now c.loop-i.i c.stop-a.ensures c.stop-b.ensures c.is_writable_pair.ensures))

pub loop-i-preserved : goal.loop-i-preserved
loop-i-preserved c = let a = c.args in (omega arith, from_next a.n c.loop-i.i a.positions.now a.channels.now (search rules) c.loop-i.invariant.1 (passed c.if-not-is_writable_pair.false (asked a.positions.now a.channels.now c.loop-i.i c.stop-a.ensures c.stop-b.ensures c.is_writable_pair.ensures)))

pub returns : goal.returns
returns c = let a = c.args in from_done a.n c.loop-i.i a.positions.now a.channels.now (search rules) c.loop-i.invariant.1
