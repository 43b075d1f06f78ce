-- Laws of the refusals 1 to 5. Assumes nothing.
use mathlib.Core.Path.{◌≡◌, refl, ◌∙◌}
use mathlib.Core.Bool.{Bool, true, false, cond, ◌&&◌, ◌||◌}
use Prim.Native.Nat.{ℕ}
use native.Mathlib.Omega.{arith}
use borrow.Author.Tests.{eq-eqb, eqb-true}
use lib.Dec.{eqb}
use lib.Ieee.{Float}
use Rattle.refusals.specs.Refusals.{far_domain, bad_record}
use Rattle.float.proofs.Flags.{both_l, both_r}
use Rattle.stops.specs.declared.Checked.{Checked}
use Rattle.stops.specs.declared.Checked.TheVariants as checked
use Rattle.stops.specs.Lent.{Ramp}
use Rattle.gradient.specs.Ramp.{check_of, min_of, max_of}
use Rattle.sampling.specs.Sampling.{beyond_of, and_then, shape_check, sample_check}

module _ (lo hi : Float) (n m k : ℕ) where
  module _ (l : beyond_of lo ≡ false) where
    module _ (h : beyond_of hi ≡ false) where
      pub shape_fine : n ≡ 4608 → m ≡ 36 → k ≡ 3 → checked.Fine ≡ shape_check lo hi n m k
      unfolding shape_check
      shape_fine a b c = simp (l, h, eq-eqb n 4608 a, eq-eqb m 36 b, eq-eqb k 3 c)

module _ (ramp : Ramp) (n m k : ℕ) where
  pub first_refuses : (j : ℕ) → check_of ramp ≡ checked.Refused j → checked.Refused j ≡ sample_check ramp n m k
  unfolding sample_check
  first_refuses j e = simp e

  pub first_passes : (r : Checked) (lo hi : Float) → check_of ramp ≡ checked.Fine → lo ≡ min_of ramp → hi ≡ max_of ramp → r ≡ shape_check lo hi n m k
      → r ≡ sample_check ramp n m k
  unfolding sample_check
  first_passes r lo hi e p q h = h ∙ rw (p, q, e)

pub passes_both : (a b : Checked) → and_then a b ≡ checked.Fine → (a ≡ checked.Fine) × (b ≡ checked.Fine)
passes_both checked.Fine b e = (refl, e)
passes_both (checked.Refused k) b e = let z : ◌≡◌ {A = ℕ} 0 1 = cc in absurd (omega arith)

tested : (a b : Bool) → cond a (checked.Refused far_domain) (cond b checked.Fine (checked.Refused bad_record)) ≡ checked.Fine → b ≡ true
tested true b h = let z : ◌≡◌ {A = ℕ} 0 1 = cc in absurd (omega arith)
tested false true h = refl
tested false false h = let z : ◌≡◌ {A = ℕ} 0 1 = cc in absurd (omega arith)

-- the lengths of a record's parts
pub record Lengths (n m k : ℕ) : Type 0 where
  pub long : n ≡ 4608
  pub many : m ≡ 36
  pub three : k ≡ 3

shape_lengths : (lo hi : Float) (n m k : ℕ) → shape_check lo hi n m k ≡ checked.Fine → Lengths n m k
unfolding shape_check
shape_lengths lo hi n m k h =
    let b = tested (beyond_of lo || beyond_of hi) (eqb n 4608 && (eqb m 36 && eqb k 3)) h in
    let c = both_r (eqb n 4608) (eqb m 36 && eqb k 3) b in
    record {
      long = eqb-true n 4608 (both_l (eqb n 4608) (eqb m 36 && eqb k 3) b);
      many = eqb-true m 36 (both_l (eqb m 36) (eqb k 3) c);
      three = eqb-true k 3 (both_r (eqb m 36) (eqb k 3) c);
    }

-- what a check that is passed tells
module _ (ramp : Ramp) (n m k : ℕ) (h : sample_check ramp n m k ≡ checked.Fine) where
  pub ramp_fine : check_of ramp ≡ checked.Fine
  unfolding sample_check
  ramp_fine = (passes_both (check_of ramp) (shape_check (min_of ramp) (max_of ramp) n m k) h).0

  pub record_lengths : Lengths n m k
  unfolding sample_check
  record_lengths = shape_lengths (min_of ramp) (max_of ramp) n m k (passes_both (check_of ramp) (shape_check (min_of ramp) (max_of ramp) n m k) h).1
