-- `decimal::wide::long_rounded` meets its contract: by how twice the rest compares with den. Assumes nothing.
use mathlib.Core.Path.{◌≡◌, ◌∙◌}
use Prim.Native.Nat.{ℕ, ◌+◌, ◌*◌, ◌%◌, ◌≤◌, ◌<◌, compare}
use native.Mathlib.Nat.{lt_of_not-le}
use native.Mathlib.Decide.{dec_le}
use native.Mathlib.Omega.{arith}
use lib.Ieee.{nearest}
use Rattle.std.specs.declared.cmp.Ordering.TheVariants.{Less, Equal, Greater}
use Rattle.float.proofs.Nearest.{stays, moves}
use Rattle.decimal.proofs.Words.{ordered}
use Rattle.decimal.proofs.wide.long_rounded.Goals as goal

-- two is twice the rest
less : (m two r den : ℕ) → two ≡ r * 2 → two < den → m ≡ nearest m (compare (r * 2) den)
less m two r den e h = stays m (r * 2) den (omega arith)

more : (m two r den : ℕ) → two ≡ r * 2 → den < two → m + 1 ≡ nearest m (compare (r * 2) den)
more m two r den e h = moves m (r * 2) den (omega arith)

tied : (m two r den : ℕ) → two ≡ r * 2 → two ≡ den → m + m % 2 ≡ nearest m (compare (r * 2) den)
tied m two r den e h = go (dec_le (m % 2) 0)
  where
    go : Dec (m % 2 ≤ 0) → m + m % 2 ≡ nearest m (compare (r * 2) den)
    go (yes g) = let x : m + m % 2 ≡ m = omega arith in x ∙ stays m (r * 2) den (omega arith)
    go (no f) = let x : m + m % 2 ≡ m + 1 = omega arith in x ∙ moves m (r * 2) den (omega (arith, lt_of_not-le f))

pub returns-in-Less : goal.returns-in-Less
returns-in-Less c = less _ _ _ _ c.times.ensures (ordered c.times.result c.args.den Less c.in-Less.ensures)

pub returns-in-Equal : goal.returns-in-Equal
returns-in-Equal c = tied _ _ _ _ c.times.ensures (ordered c.times.result c.args.den Equal c.in-Equal.ensures)

pub returns-in-Greater : goal.returns-in-Greater
returns-in-Greater c = more _ _ _ _ c.times.ensures (ordered c.times.result c.args.den Greater c.in-Greater.ensures)
