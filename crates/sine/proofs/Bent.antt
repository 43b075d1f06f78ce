-- An entry, a line between two and the factor bent, by the tests that the code makes. Assumes nothing.
use mathlib.Core.Path.{◌≡◌, sym, ap, ap₂, ◌∙◌, subst}
use mathlib.Core.Bool.{cond}
use mathlib.Core.Logic.{inl, inr}
use Prim.Native.Nat.{ℕ, suc, ◌+◌, ◌-◌, ◌≤◌, ◌<◌}
use native.Mathlib.Numerals.{add-one}
use native.Mathlib.Nat.{lt_of_not-le, eq-or-lt_of_le}
use native.Mathlib.Decide.{dec_le}
use native.Mathlib.Omega.{arith}
use lib.Ieee.{Float}
use borrow.Author.Tests.{le-leb, lt-leb, eq-eqb, ne_eqb}
use Rattle.float.specs.F32.{◌⊕◌, ◌⊖◌, ◌⊗◌, f1}
use Rattle.float.specs.Number.{clamp_of, whole_of, count_of}
use Rattle.sine.specs.Table.{entry}
use Rattle.sine.specs.inner.Sum.{nearer, sum, lower, upper, by_half}
use Rattle.sine.specs.Wave.{steps, unit, index_of, line_of, wave_at, wave_of}
use Rattle.sine.proofs.Ruled.{rule}
use Rattle.sine.proofs.Summed.{told_entry}
use Rattle.sine.proofs.Indexed.{index_few}

pub near_most : (i : ℕ) {j : ℕ} → i ≤ 1024 → j ≡ nearer i → j ≤ 512
near_most i h e = subst (λ (j : ℕ). j ≤ 512) (sym e) (go (dec_le i 512))
  where
    go : Dec (i ≤ 512) → nearer i ≤ 512
    go (yes k) = rw (le-leb i 512 k) k
    go (no f) = let l = lt_of_not-le f in rw (lt-leb i 512 l) (omega arith)

module _ (i : ℕ) (few : i ≤ 1024) {j h : ℕ} (ej : j ≡ nearer i) (eh : h ≡ sum j) (clear : lower h ≡ upper h) where
  both : by_half i (lower h) ≡ entry i
  both = let e = eh ∙ ap sum ej in told_entry i (lower h) (upper h) few (ap lower e) (ap upper e) clear

  pub told_low : i ≤ 512 → lower h ≡ entry i
  told_low k = sym (ap (λ b. cond b (lower h) (16777216 - lower h)) (le-leb i 512 k)) ∙ both

  pub told_high : 512 < i → 16777216 - lower h ≡ entry i
  told_high k = sym (ap (λ b. cond b (lower h) (16777216 - lower h)) (lt-leb i 512 k)) ∙ both

module _ (i : ℕ) (few : i < 1024) {a b : ℕ} (ea : a ≡ entry i) (eb : b ≡ entry (i + 1)) where
  next : b ≡ entry (suc i)
  next = eb ∙ ap entry (add-one i)

  pub rises : a ≤ b
  rises = let r = rule.never_falls i few in let n = next in omega arith

  pub on_line : {r l : Float} (fraction : Float) → r ≡ count_of (b - a) → l ≡ count_of a → (l ⊕ r ⊗ fraction) ⊗ unit ≡ line_of i fraction
  unfolding line_of
  on_line fraction er el = ap₂ (λ (x y : Float). (x ⊕ y ⊗ fraction) ⊗ unit) (el ∙ ap count_of ea) (er ∙ ap₂ (λ (x y : ℕ). count_of (x - y)) next ea)

module _ (f : Float) {c : Float} {i : ℕ} (ec : c ≡ clamp_of f) (ei : i ≡ index_of (c ⊗ steps)) where
  pub at_top : i ≡ 1024 → f1 ≡ wave_of f
  unfolding wave_of wave_at
  at_top e = rw (sym ec) (simp (eq-eqb (index_of (c ⊗ steps)) 1024 (sym ei ∙ e)))

  pub below_top : (i ≡ 1024 → ⊥) → i < 1024
  below_top n = let l = index_few (whole_of (c ⊗ steps)) in let k : i ≤ 1024 = omega arith in elim (eq-or-lt_of_le k) [ inl e ↦ absurd (n e) | inr m ↦ m ]

  pub beside : (i ≡ 1024 → ⊥) → {k z : Float} → k ≡ count_of i → z ≡ line_of i (c ⊗ steps ⊖ k) → z ≡ wave_of f
  unfolding wave_of wave_at
  beside n ek ez =
      rw (sym ec)
      (ez ∙ ap (λ (w : Float). line_of i (c ⊗ steps ⊖ w)) ek ∙ ap (λ (n : ℕ). line_of n (c ⊗ steps ⊖ count_of n)) ei
      ∙ simp (ne_eqb (index_of (c ⊗ steps)) 1024 (λ e. n (ei ∙ e))))
