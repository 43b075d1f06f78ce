-- Laws of refusal 5 of a count. Assumes nothing.
use mathlib.Core.Path.{◌≡◌, refl, sym}
use mathlib.Core.Bool.{Bool, true, false, cond, ◌&&◌}
use mathlib.Core.List.{List, [], ◌∷◌}
use Prim.Native.Nat.{ℕ, zero, suc, ◌≤◌, ◌<◌}
use native.Mathlib.Omega.{arith}
use borrow.Author.Tests.{le-leb, leb-true}
use lib.Dec.{leb}
use lib.ListN.{length, get_or}
use Rattle.std.specs.Prelude.{◌↔◌, IsTrue, EachIndex}
use Rattle.refusals.specs.Refusals.{bad_record}
use Rattle.float.proofs.Flags.{both_l, both_r}
use Rattle.stops.specs.declared.Checked.TheVariants as checked
use Rattle.records.specs.Fitness.{counts_good, counts_check}

-- each count is 1 to 128
abbrev pub EachFits : List ℕ → Type 0
EachFits l = EachIndex l (λ i. (1 ≤ get_or l i 0) × (get_or l i 0 ≤ 128))

module _ (l : List ℕ) where
  pub counts_fail : counts_good l ≡ false → checked.Refused bad_record ≡ counts_check l
  unfolding counts_check
  counts_fail h = simp h

  pub counts_pass : counts_good l ≡ true → checked.Fine ≡ counts_check l
  unfolding counts_check
  counts_pass h = simp h

  good_by : (b : Bool) → cond b checked.Fine (checked.Refused bad_record) ≡ checked.Fine → b ≡ true
  good_by true h = refl
  good_by false h = let z : ◌≡◌ {A = ℕ} 0 1 = cc in absurd (omega arith)

  pub counts_good_lem : counts_check l ≡ checked.Fine → counts_good l ≡ true
  unfolding counts_check
  counts_good_lem h = good_by (counts_good l) h

pub each_good : (l : List ℕ) → counts_good l ≡ true → (i : ℕ) → i < length l → (1 ≤ get_or l i 0) × (get_or l i 0 ≤ 128)
unfolding counts_good
each_good [] e i h = absurd (omega arith)
each_good (n ∷ l) e zero h =
    let r = both_r (leb 1 n) (leb n 128 && counts_good l) e in
    (leb-true 1 n (both_l (leb 1 n) (leb n 128 && counts_good l) e), leb-true n 128 (both_l (leb n 128) (counts_good l) r))
each_good (n ∷ l) e (suc i) h =
    each_good l (both_r (leb n 128) (counts_good l) (both_r (leb 1 n) (leb n 128 && counts_good l) e)) i (omega arith)

pub all_good : (l : List ℕ) → ((i : ℕ) → i < length l → (1 ≤ get_or l i 0) × (get_or l i 0 ≤ 128)) → counts_good l ≡ true
unfolding counts_good
all_good [] each = refl
all_good (n ∷ l) each =
    let a = each 0 (omega arith) in
    rw (le-leb 1 n a.0, le-leb n 128 a.1) (all_good l (λ i h. each (suc i) (omega arith)))

-- a test that holds exactly where each count is 1 to 128
pub good_is : (l : List ℕ) (r : Bool) → IsTrue r ↔ EachFits l → r ≡ counts_good l
good_is l true w = sym (all_good l (w.0 refl))
good_is l false w = by (counts_good l) refl
  where
    by : (b : Bool) → counts_good l ≡ b → false ≡ b
    by true e = w.1 (each_good l e)
    by false e = refl
