-- The first number that fails a test. Assumes nothing.
use mathlib.Core.Path.{◌≡◌, refl, sym, ap, ◌∙◌, subst}
use mathlib.Core.Bool.{Bool, true, false, cond}
use mathlib.Core.Logic.{⊎_elim}
use Prim.Native.Nat.{ℕ, zero, suc, ◌+◌, ◌-◌, ◌≤◌, ◌<◌}
use native.Mathlib.Nat.{eq-or-lt_of_le}
use native.Mathlib.Numerals.{add-one}
use native.Mathlib.Omega.{arith}
use Rattle.judge.specs.Lists.{first_failing}

module _ (test : ℕ → Bool) where
  -- ---- as a loop up to n goes
  step : (n i : ℕ) → i < n → first_failing test (n - i) i ≡ cond (test i) (first_failing test (n - (i + 1)) (i + 1)) i
  unfolding first_failing
  step n i h = let e : n - i ≡ suc (n - (i + 1)) = omega arith in ap (λ (k : ℕ). first_failing test k i) e ∙ simp add-one

  pub fails_here : (n i : ℕ) → i < n → test i ≡ false → first_failing test (n - i) i ≡ i
  fails_here n i h e = step n i h ∙ simp e

  pub goes_on : (n i : ℕ) → i < n → test i ≡ true → first_failing test (n - (i + 1)) (i + 1) ≡ first_failing test (n - i) i
  goes_on n i h e = sym (step n i h ∙ simp e)

  pub none_left : (n i : ℕ) → n ≤ i → first_failing test (n - i) i ≡ i
  unfolding first_failing
  none_left n i h = let e : n - i ≡ 0 = omega arith in ap (λ (k : ℕ). first_failing test k i) e

  pub from_start : (n : ℕ) → first_failing test (n - 0) 0 ≡ first_failing test n 0
  from_start n = let e : n - 0 ≡ n = omega arith in ap (λ (k : ℕ). first_failing test k 0) e

  -- ---- it is one of them, or the one after
  pub not_after : (left i : ℕ) → first_failing test left i ≤ i + left
  unfolding first_failing
  not_after zero i = omega arith
  not_after (suc left) i = go (test i) (not_after left (suc i))
    where
      go : (t : Bool) → first_failing test left (suc i) ≤ suc i + left → cond t (first_failing test left (suc i)) i ≤ i + suc left
      go true h = omega arith
      go false h = omega arith

  -- ---- where it is the one after, all pass; and the way back
  pub all_pass : (left i : ℕ) → i + left ≤ first_failing test left i → (j : ℕ) → i ≤ j → j < i + left → test j ≡ true
  unfolding first_failing
  all_pass zero i h j a b = absurd (omega arith)
  all_pass (suc left) i h j a b = go (test i) refl (all_pass left (suc i)) h
    where
      go : (t : Bool) → test i ≡ t → (suc i + left ≤ first_failing test left (suc i) → (j : ℕ) → suc i ≤ j → j < suc i + left → test j ≡ true)
          → i + suc left ≤ cond t (first_failing test left (suc i)) i → test j ≡ true
      go true e ih l =
          ⊎_elim
          (λ q. subst (λ (k : ℕ). test k ≡ true) q e)
          (λ q. ih (omega arith) j (omega arith) (omega arith))
          (eq-or-lt_of_le {n = i} {m = j} a)
      go false e ih l = absurd (omega arith)

  pub passes_all : (left i : ℕ) → ((j : ℕ) → i ≤ j → j < i + left → test j ≡ true) → first_failing test left i ≡ i + left
  unfolding first_failing
  passes_all zero i h = omega arith
  passes_all (suc left) i h =
      simp (h i (omega arith) (omega arith))
      (passes_all left (suc i) (λ j a b. h j (omega arith) (omega arith)) ∙ omega arith)

-- ---- two tests that agree
pub same_failing : (f g : ℕ → Bool) (left i : ℕ) → ((j : ℕ) → i ≤ j → j < i + left → f j ≡ g j) → first_failing f left i ≡ first_failing g left i
unfolding first_failing
same_failing f g zero i h = refl
same_failing f g (suc left) i h =
    rw (h i (omega arith) (omega arith))
    (ap (λ (k : ℕ). cond (g i) k i) (same_failing f g left (suc i) (λ j a b. h j (omega arith) (omega arith))))
