-- Segments in order: the test that painting makes, and what it makes sure of. Assumes nothing.
use mathlib.Core.Path.{◌≡◌, refl}
use mathlib.Core.Bool.{true, false, not, ◌&&◌}
use mathlib.Core.List.{List}
use Prim.Native.Nat.{◌-◌}
use native.Mathlib.Omega.{arith}
use lib.Dec.{leb}
use lib.ListN.{length}
use lib.Ieee.{Float, inf, lt, is_nan, of_bits}
use borrow.Author.Tests.{leb-true, not-true}
use Rattle.float.specs.F32.{f0, f1}
use Rattle.float.proofs.Flags.{both_l, both_r}
use Rattle.float.proofs.Order.{no_nan_l, le_from_not_lt}
use Rattle.stops.specs.Stops.{pos_at, steady}
use Rattle.stops.proofs.Steady.{steady_rising}
use Rattle.paint.specs.inner.Segments.{segments_in_order, Orderly}

zero_is : is_nan f0 ≡ false
unfolding is_nan of_bits
zero_is = refl

one_is : is_nan f1 ≡ false
unfolding is_nan of_bits
one_is = refl

module _ (ps : List Float) where
  abbrev last : Float
  last = pos_at ps (length ps - 1)

  pub in_order : segments_in_order ps ≡ true → Orderly ps
  unfolding segments_in_order
  in_order h =
      let few = leb 3 (length ps) in
      let low = not (lt (pos_at ps 0) f0) in
      let high = not (lt f1 last) in
      let steps = steady last (inf true) ps in
      let three = leb-true 3 (length ps) (both_l few (low && (high && steps)) h) in
      let rest = both_r few (low && (high && steps)) h in
      let ends = both_r low (high && steps) rest in
      let rises = steady_rising last (inf true) ps (both_r high steps ends) in
      record {
        rising = rises;
        low = le_from_not_lt (pos_at ps 0) f0 (no_nan_l (pos_at ps 0) (pos_at ps 0) (rises 0 0 (omega arith) (omega arith))) zero_is (not-true _ (both_l low (high && steps) rest));
        high = le_from_not_lt f1 last one_is (no_nan_l last last (rises (length ps - 1) (length ps - 1) (omega arith) (omega arith))) (not-true _ (both_l high steps ends));
      }
