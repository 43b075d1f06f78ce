-- The counts, depth by depth. Assumes nothing.
use mathlib.Core.Path.{◌≡◌, refl, sym, ◌∙◌}
use mathlib.Core.Bool.{Bool, true, false, not, cond}
use Prim.Native.Nat.{ℕ, zero, suc, ◌+◌, ◌≤◌, ◌<◌}
use mathlib.Core.Logic.{⊎_elim}
use native.Mathlib.Nat.{eq-or-lt_of_le}
use native.Mathlib.Numerals.{add-one}
use native.Mathlib.Omega.{arith}
use borrow.Author.Tests.{lt-ltb, le-ltb}
use lib.Dec.{ltb}
use Rattle.slices.specs.Joined.{summed}
use Rattle.slices.proofs.Joined.{summed_next}
use Rattle.judge.specs.Lists.{first_failing}
use Rattle.apart.specs.Faults.{flag, how_many}
use Rattle.apart.specs.inner.Steps.{first_next, tally_next}
use Rattle.apart.specs.declared.told.Tally.{Tally}

-- ---- one flag
pub flag_most : (n : ℕ) (b : Bool) → flag n b ≤ n
flag_most n true = omega arith
flag_most n false = omega arith

-- ---- how many
pub how_many_most : (test : ℕ → Bool) (n : ℕ) → how_many test n ≤ n
unfolding summed
how_many_most test zero = omega arith
how_many_most test (suc n) = omega (arith, how_many_most test n, flag_most 1 (test n))

pub how_many_none : (test : ℕ → Bool) (n : ℕ) → ((i : ℕ) → i < n → test i ≡ false) → how_many test n ≡ 0
unfolding summed
how_many_none test zero h = refl
how_many_none test (suc n) h = rw (h n (omega arith)) (omega (arith, how_many_none test n (λ i l. h i (omega arith))))

zero_flag : (b : Bool) → flag 1 b ≡ 0 → b ≡ false
zero_flag true e = absurd (omega arith)
zero_flag false e = refl

pub none_of : (test : ℕ → Bool) (n i : ℕ) → how_many test n ≡ 0 → i < n → test i ≡ false
unfolding summed
none_of test zero i e l = absurd (omega arith)
none_of test (suc n) i e l =
    ⊎_elim
    (λ q. rw q (zero_flag (test n) (omega arith)))
    (λ b. none_of test n i (omega arith) b)
    (eq-or-lt_of_le {n = i} {m = n} (omega arith))

-- ---- the first
-- with one number more at the end
first_more : (test : ℕ → Bool) (n i : ℕ)
    → first_failing test (suc n) i ≡ cond (ltb (first_failing test n i) (i + n)) (first_failing test n i) (cond (test (i + n)) (suc (i + n)) (i + n))
unfolding first_failing
first_more test zero i = let e : i + 0 ≡ i = omega arith in rw (e, le-ltb i i (omega arith))
first_more test (suc n) i = go (test i) refl (first_more test n (suc i))
  where
    F : ℕ
    F = first_failing test n (suc i)

    go : (b : Bool) → test i ≡ b
        → first_failing test (suc n) (suc i) ≡ cond (ltb F (suc i + n)) F (cond (test (suc i + n)) (suc (suc i + n)) (suc i + n))
        → cond b (first_failing test (suc n) (suc i)) i
        ≡ cond (ltb (cond b F i) (i + suc n)) (cond b F i) (cond (test (i + suc n)) (suc (i + suc n)) (i + suc n))
    go true e ih = let k : i + suc n ≡ suc i + n = omega arith in rw k ih
    go false e ih = rw (lt-ltb i (i + suc n) (omega arith))

-- ---- a turn
pub counts_same : {a b c d a' b' c' d' : ℕ} → a ≡ a' → b ≡ b' → c ≡ c' → d ≡ d'
    → ◌≡◌ {A = Tally} (record { moved = a; close = b; merged = c; first = d }) (record { moved = a'; close = b'; merged = c'; first = d' })
counts_same p q r s = rw (p, q, r, s)

module _ (moved close merged : ℕ → Bool) where
  -- of the first n
  abbrev counts_of : ℕ → Tally
  counts_of n = record { moved = how_many moved n; close = how_many close n; merged = how_many merged n; first = first_failing (λ i. not (merged i)) n 0 }

  first_next_lem : (i : ℕ) → first_next (first_failing (λ j. not (merged j)) i 0) i (merged i) ≡ first_failing (λ j. not (merged j)) (i + 1) 0
  unfolding first_next
  first_next_lem i =
      go (merged i)
      ∙ sym (rw add-one (first_more (λ j. not (merged j)) i 0 ∙ at_zero))
    where
      first : ℕ
      first = first_failing (λ j. not (merged j)) i 0

      at_zero : cond (ltb first (0 + i)) first (cond (not (merged (0 + i))) (suc (0 + i)) (0 + i)) ≡ cond (ltb first i) first (cond (not (merged i)) (suc i) i)
      at_zero = let e : 0 + i ≡ i = omega arith in rw e

      go : (b : Bool) → cond (ltb first i) first (cond b i (i + 1)) ≡ cond (ltb first i) first (cond (not b) (suc i) i)
      go true = refl
      go false = rw add-one

  pub counts_next : (i : ℕ) → tally_next (counts_of i) i (record { moved = moved i; close = close i; merged = merged i }) ≡ counts_of (i + 1)
  counts_next i =
      counts_same (summed_next (λ j. flag 1 (moved j)) i) (summed_next (λ j. flag 1 (close j)) i) (summed_next (λ j. flag 1 (merged j)) i) (first_next_lem i)
