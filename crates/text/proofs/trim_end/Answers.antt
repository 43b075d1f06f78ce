-- `trim_end` meets its contract: white space at the end makes no difference. Assumes nothing.
use Prim.Native.Nat.{ℕ, ◌+◌, ◌≤◌, ◌<◌}
use native.Mathlib.Omega.{arith}
use mathlib.Core.Path.{◌≡◌}
use mathlib.Core.Bool.{true, false}
use lib.ListN.{length, get_or}
use Rattle.std.proofs.lemmas.Grind.{common_steps}
use Rattle.text.specs.Text.{white}
use Rattle.text.proofs.Bytes.{trim_at}
use Rattle.text.proofs.trim_end.Goals as goal

pub returns : goal.returns
returns c =
    let s = c.args.s.now in
    let r = c.map_or.result in
    let within : r ≤ length s = grind (arith, common_steps) in
    let last : (n : ℕ) → r ≡ n + 1 → white (get_or s n 0) ≡ false = λ n e. grind (arith, common_steps) in
    let after : (k : ℕ) → r ≤ k → k < length s → white (get_or s k 0) ≡ true = λ k i j. grind (arith, common_steps) in
    (within, trim_at s r within last after)
