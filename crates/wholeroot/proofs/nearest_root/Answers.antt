-- `wholeroot::nearest_root` meets its contract: the test it makes says that the guess is the nearest. Assumes nothing.
use Rattle.std.proofs.Common.{◌≡◌, ℕ, ◌+◌, ◌-◌, ◌*◌, ◌%◌, ◌^◌, ◌<◌, arith}
use Rattle.wholeroot.specs.WholeRoot.{nearest_whole}
use Rattle.wholeroot.proofs.Near.{square_fits, own_square, near_whole}
use Rattle.wholeroot.proofs.nearest_root.Goals as goal

-- the difference is q * q + q less n; where that is below zero it has wrapped, and is above 2 * q
near : (n q : ℕ) → n < 2 ^ 64 → q < 2 ^ 32 → (q * q + q + (2 ^ 64 - n)) % 2 ^ 64 < 2 * q → q ≡ nearest_whole n
near n q h k t = let s = square_fits q k in let o = own_square q in near_whole n q (omega arith, omega arith)

pub returns-then-q-n : goal.returns-then-q-n
returns-then-q-n c = near _ _ (omega arith) c.guess-q.ensures c.if-q-n.true
