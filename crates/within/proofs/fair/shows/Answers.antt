-- `shows` meets its contract: each of the points is shown, or not. Assumes nothing.
use Rattle.std.proofs.Common.{rules, ◌↔◌, ◌≤◌, ◌<◌, ℕ}
use Rattle.std.specs.Prelude.{IsTrue}
use Rattle.std.proofs.iter.runs.Sources.{ranges}
use Rattle.within.specs.inner.Weighing.{near_by, block_fair}
use Rattle.within.proofs.Arrays.{all_is}
use Rattle.within.proofs.fair.shows.Goals as goal

pub returns : goal.returns
returns c =
    let a = c.args in
    let each : IsTrue c.all.result ↔ ((i : ℕ) → a.from ≤ i → i < a.to → IsTrue (block_fair (near_by a.offs) a.a a.b a.ts.now a.marks.now a.block.now a.base i)) = search (rules, ranges) in
    all_is _ a.from a.to _ each
