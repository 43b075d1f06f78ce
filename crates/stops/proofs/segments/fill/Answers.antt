-- `fill` meets its contract: after i turns the first i segments are there, and the next pair is handed its chords. Assumes nothing.
use mathlib.Core.Path.{◌≡◌, ◌∙◌, ap}
use Prim.Native.Nat.{ℕ, ◌-◌, ◌<◌, min}
use lib.ListN.{length}
use native.Mathlib.Omega.{arith}
use Rattle.stops.proofs.Chording.{chords_first, chords_further}
use Rattle.stops.proofs.Tables.{tabled_start, tabled_next, tabled}
use Rattle.stops.proofs.segments.fill.Goals as goal

pub loop-i-init : goal.loop-i-init
loop-i-init c = (tabled_start _ _ _ _, λ h. chords_first _ _ c.less.ensures c.chords_within-last.ensures c.chords_within-within.ensures)

pub segment_next-requires : goal.segment_next-requires
segment_next-requires c =
    (c.loop-i.invariant.1 (omega arith), c.chords_after-after.ensures)

pub loop-i-preserved : goal.loop-i-preserved
loop-i-preserved c =
    let l = c.loop-i in
    let cs = c.args.channels.now in
    let n = c.args.n in
    let base = c.args.base in
    let here : l.i < n - base = omega arith in (
      tabled_next cs n base c.args.table.now l.i l.table c.segment_next.result (omega arith) here c.segment_next.ensures l.invariant.0,
      λ more. chords_further cs n base l.i (l.invariant.1 here) c.chords_after-after.ensures more,
    )

pub returns : goal.returns
returns c =
    let l = c.loop-i in
    let full : l.i ≡ c.min-count.result = omega arith in
    rw (← full) (tabled _ _ _ _ l.i l.table l.invariant.0 (full ∙ c.min-count.ensures ∙ ap (λ (pairs : ℕ). min pairs (length c.args.table.now)) c.saturating_sub.ensures))
