-- Where the segments run from 0 to 1, each joined to the next, every point of the domain lies in the segment that the search finds. Assumes nothing.
use mathlib.Core.Path.{◌≡◌, refl, sym, subst, ◌∙◌}
use mathlib.Core.Bool.{Bool, true, false, cond}
use mathlib.Core.List.{List}
use Prim.Native.Nat.{ℕ, zero, suc, ◌+◌, ◌-◌, ◌/◌, ◌≤◌, ◌<◌}
use native.Mathlib.Omega.{arith}
use native.Mathlib.Nat.{lt_of_not-le}
use native.Mathlib.Decide.{dec_le}
use lib.Dec.{T, ltb}
use lib.Ieee.{Float, le, lt}
use lib.Ieee.Bits.{is_true}
use borrow.Author.Tests.{ltb-true, ltb-false}
use Rattle.float.proofs.Order.{le_trans, lt→le, not_lt_from_le, as_T, le_from_eq, ge_from_eq}
use Rattle.float.specs.F32.{f0, f1}
use Rattle.gradient.specs.Gimp.{segments, left_at, right_at, search, segment_found}
use Rattle.gradient.specs.Joined.{Joined, Inside}

-- not both before and after
apart : (x t : Float) → T (lt x t) → T (le t x) → ⊥
apart x t h k = let e : ◌≡◌ {A = Bool} true false = sym (is_true (lt x t) h) ∙ not_lt_from_le x t k in false_is_not e
  where
    false_is_not : ◌≡◌ {A = Bool} true false → ⊥
    false_is_not e = subst (λ (b : Bool). T b) e tt

module _ (ps : List Float) (J : Joined ps) (t : Float) (above : T (le f0 t)) (under : T (le t f1)) where
  -- what is still searched has segments that end before t below it, and such as start after t above it
  module _ (low high : ℕ) where
    abbrev Passed : Type 0
    Passed = (m : ℕ) → suc m ≡ low → T (lt (right_at ps m) t)

    abbrev Ahead : Type 0
    Ahead = high < segments ps → T (lt t (left_at ps high))

  -- so it is never empty
  never_empty : (low : ℕ) → low ≤ segments ps → Passed low low → Ahead low low → ⊥
  never_empty zero h p a =
      apart t (left_at ps 0) (a J.some) (le_trans (left_at ps 0) f0 t (le_from_eq (left_at ps 0) f0 J.from_zero) above)
  never_empty (suc m) h p a = go (dec_le (segments ps) (suc m))
    where
      go : Dec (segments ps ≤ suc m) → ⊥
      go (yes q) =
          let e : segments ps - 1 ≡ m = omega arith in
          apart (right_at ps m) t (p m refl) (le_trans t f1 (right_at ps m) under (subst (λ (i : ℕ). T (le f1 (right_at ps i))) e (ge_from_eq (right_at ps (segments ps - 1)) f1 J.to_one)))
      go (no q) =
          let l = lt_of_not-le q in
          apart (right_at ps m) t (p m refl) (le_trans t (left_at ps (suc m)) (right_at ps m) (lt→le t (left_at ps (suc m)) (a l)) (le_from_eq (left_at ps (suc m)) (right_at ps m) (J.joint m l)))

  closes : (n tried low high : ℕ) → high - low ≤ n → low ≤ high → high ≤ segments ps → Passed low high → Ahead low high → Inside ps t (search n ps t tried low high)
  unfolding search
  closes zero tried low high a b c p q =
      let e : low ≡ high = omega arith in
      absurd (never_empty high c (subst (λ (l : ℕ). Passed l high) e p) q)
  closes (suc n) tried low high a b c p q =
      let mid = (low + high) / 2 in
      each mid (ltb low high) (lt (right_at ps mid) t) (lt t (left_at ps mid)) refl refl refl (λ h. omega arith)
      (λ h e. closes n mid (mid + 1) high (omega arith) (omega arith) c
      (λ m k. let z : mid ≡ m = omega arith in subst (λ (i : ℕ). T (lt (right_at ps i) t)) z (as_T (lt (right_at ps mid) t) e)) q)
      (λ h e. closes n mid low mid (omega arith) (omega arith) (omega arith) p (λ l. as_T (lt t (left_at ps mid)) e))
    where
      each : (mid : ℕ) (more past before : Bool) {u d : ℕ} → ltb low high ≡ more → lt (right_at ps mid) t ≡ past → lt t (left_at ps mid) ≡ before
          → (low < high → mid < segments ps)
          → (low < high → lt (right_at ps mid) t ≡ true → Inside ps t u) → (low < high → lt t (left_at ps mid) ≡ true → Inside ps t d)
          → Inside ps t (cond more (cond past u (cond before d mid)) tried)
      each mid true true before e f g m up down = up (ltb-true low high e) f
      each mid true false true e f g m up down = down (ltb-true low high e) g
      each mid true false false e f g m up down = record { there = m (ltb-true low high e); after_left = g; before_right = f }
      each mid false past before e f g m up down =
          let h = ltb-false low high e in
          let z : low ≡ high = omega arith in
          absurd (never_empty high c (subst (λ (l : ℕ). Passed l high) z p) q)

  -- there is no gap
  pub no_gap : Inside ps t (segment_found ps t)
  unfolding segment_found
  no_gap = closes (segments ps) 0 0 (segments ps) (omega arith) (omega arith) (omega arith) (λ m k. absurd (omega arith)) (λ h. absurd (omega arith))
