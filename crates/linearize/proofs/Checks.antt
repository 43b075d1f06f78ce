-- A record that passes the check of a thinning may be thinned. Assumes nothing.
use mathlib.Core.Path.{◌≡◌, sym}
use Prim.Native.Nat.{ℕ}
use native.Mathlib.Omega.{arith}
use mathlib.Core.List.{List}
use lib.ListN.{length}
use lib.Ieee.{Float}
use Rattle.places.specs.Places.{Ready}
use Rattle.stops.specs.declared.Checked.TheVariants as checked
use Rattle.stops.specs.Lent.{Ramp}
use Rattle.sampling.specs.Lent.{Held}
use Rattle.sampling.proofs.Checks.{record_lengths}
use Rattle.records.specs.Fitness.{counts_check, thin_check}
use Rattle.records.proofs.Counting.{each_good, all_good, counts_pass}
use Rattle.records.proofs.Passing.{sample_fine, counts_fine}

pub ready : (ramp : Ramp) (asked : Float) (was : Held) → thin_check ramp asked was ≡ checked.Fine → Ready was.rows was.counts
ready ramp asked was h =
    let l = record_lengths ramp (length was.rows) (length was.counts) (length was.marks) (sample_fine ramp asked was h) in
    let good = counts_fine ramp asked was h in
    record {
      long = l.long;
      many = l.many;
      some = λ i k. (each_good was.counts good i (omega (arith, l.many))).0;
      most = λ i k. (each_good was.counts good i (omega (arith, l.many))).1;
    }

-- and what the test of the counts asks of a record, one that may be thinned has
pub ready_counts : (rows : List Float) (counts : List ℕ) → Ready rows counts → counts_check counts ≡ checked.Fine
ready_counts rows counts r = sym (counts_pass counts (all_good counts (λ i h. (r.some i (omega (arith, r.many)), r.most i (omega (arith, r.many))))))
