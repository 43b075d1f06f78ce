-- The verdict on rows of points: row by row as a loop goes, the same of rows that have the same points, and when it is yes. Assumes nothing.
use mathlib.Core.Path.{◌≡◌, refl, sym, ap, ◌∙◌}
use mathlib.Core.Bool.{Bool, true, false, cond}
use Prim.Native.Nat.{ℕ, zero, suc, ◌+◌, ◌-◌, ◌≤◌, ◌<◌}
use mathlib.Core.Logic.{⊎_elim}
use native.Mathlib.Nat.{eq-or-lt_of_le}
use native.Mathlib.Numerals.{add-one}
use native.Mathlib.Omega.{arith}
use borrow.Author.Tests.{lt-ltb, le-ltb, ltb-true, ltb-false}
use lib.Dec.{ltb}
use lib.Ieee.{Float}
use Rattle.judge.specs.Lists.{first_failing}
use Rattle.judge.specs.Verdicts.{number_of_verdict, far_in, row_verdict, rows_verdict, all_verdict}
use Rattle.judge.specs.declared.Verdict.{Verdict}
use Rattle.judge.specs.declared.Verdict.TheVariants.{Yes, TooFar}
use Rattle.judge.proofs.Failing.{all_pass, passes_all, same_failing}

-- too far is not yes
not_yes : {row index : ℕ} {t : Float} → TooFar row index t ≡ Yes → ⊥
not_yes e = let z : ◌≡◌ {A = ℕ} 0 1 = cc in omega arith

pub pick_number : (b : Bool) (x y : Verdict) → number_of_verdict x ≡ 0 → number_of_verdict y ≡ 0 → number_of_verdict (cond b x y) ≡ 0
pick_number true x y h k = h
pick_number false x y h k = k

module _ (near : Float → Bool) (count : ℕ → ℕ) (point : ℕ → ℕ → Float) where
  -- ---- a row
  pub row_far : (i j : ℕ) (after : Verdict) → j ≡ far_in near count point i → j < count i → row_verdict near count point i after ≡ TooFar i j (point i j)
  unfolding row_verdict
  row_far i j after e h = rw (← e, lt-ltb j (count i) h)

  pub row_near : (i j : ℕ) (after : Verdict) → j ≡ far_in near count point i → count i ≤ j → row_verdict near count point i after ≡ after
  unfolding row_verdict
  row_near i j after e h = rw (← e, le-ltb j (count i) h)

  -- ---- as the loop goes
  module _ (i : ℕ) (after : Verdict) where
    turn : i < 36 → rows_verdict near count point (36 - i) i after ≡ row_verdict near count point i (rows_verdict near count point (36 - (i + 1)) (i + 1) after)
    unfolding rows_verdict
    turn h = let e : 36 - i ≡ suc (36 - (i + 1)) = omega arith in ap (λ (k : ℕ). rows_verdict near count point k i after) e ∙ simp add-one

    pub stops_at : (j : ℕ) → i < 36 → j ≡ far_in near count point i → j < count i → rows_verdict near count point (36 - i) i after ≡ TooFar i j (point i j)
    stops_at j h e l = turn h ∙ row_far i j _ e l

    pub goes_past : (j : ℕ) → i < 36 → j ≡ far_in near count point i → count i ≤ j
        → rows_verdict near count point (36 - (i + 1)) (i + 1) after ≡ rows_verdict near count point (36 - i) i after
    goes_past j h e l = sym (turn h ∙ row_near i j _ e l)

    pub all_past : 36 ≤ i → rows_verdict near count point (36 - i) i after ≡ after
    unfolding rows_verdict
    all_past h = let e : 36 - i ≡ 0 = omega arith in ap (λ (k : ℕ). rows_verdict near count point k i after) e

  pub begun : (max : Float) → rows_verdict near count point (36 - 0) 0 (cond (near max) Yes (TooFar 36 0 max)) ≡ all_verdict near count point max
  unfolding all_verdict
  begun max = refl

  -- ---- it is no refusal
  row_number : (i : ℕ) (after : Verdict) → number_of_verdict after ≡ 0 → number_of_verdict (row_verdict near count point i after) ≡ 0
  unfolding row_verdict
  row_number i after h = pick_number (ltb (far_in near count point i) (count i)) (TooFar i (far_in near count point i) (point i (far_in near count point i))) after refl h

  rows_number : (left i : ℕ) (after : Verdict) → number_of_verdict after ≡ 0 → number_of_verdict (rows_verdict near count point left i after) ≡ 0
  unfolding rows_verdict
  rows_number zero i after h = h
  rows_number (suc left) i after h = row_number i (rows_verdict near count point left (suc i) after) (rows_number left (suc i) after h)

  pub all_number : (max : Float) → number_of_verdict (all_verdict near count point max) ≡ 0
  unfolding all_verdict
  all_number max = rows_number 36 0 _ (pick_number (near max) Yes (TooFar 36 0 max) refl refl)

  -- ---- when it is yes
  row_yes : (i : ℕ) (after : Verdict) → row_verdict near count point i after ≡ Yes → ((j : ℕ) → j < count i → near (point i j) ≡ true) × (after ≡ Yes)
  unfolding row_verdict far_in
  row_yes i after h = go (ltb (first_failing (λ j. near (point i j)) (count i) 0) (count i)) refl h
    where
      far : ℕ
      far = first_failing (λ j. near (point i j)) (count i) 0

      go : (b : Bool) → ltb far (count i) ≡ b → cond b (TooFar i far (point i far)) after ≡ Yes → ((j : ℕ) → j < count i → near (point i j) ≡ true) × (after ≡ Yes)
      go true e k = absurd (not_yes k)
      go false e k =
          let l = ltb-false far (count i) e in
          (λ j b. all_pass (λ j. near (point i j)) (count i) 0 (omega arith) j (omega arith) (omega arith), k)

  none_far : (i : ℕ) → ((j : ℕ) → j < count i → near (point i j) ≡ true) → far_in near count point i ≡ count i
  unfolding far_in
  none_far i h = passes_all (λ j. near (point i j)) (count i) 0 (λ j a b. h j (omega arith)) ∙ omega arith

  yes_row : (i : ℕ) (after : Verdict) → ((j : ℕ) → j < count i → near (point i j) ≡ true) → row_verdict near count point i after ≡ after
  yes_row i after h = row_near i (count i) after (sym (none_far i h)) (omega arith)

  rows_yes : (left i : ℕ) (after : Verdict) → rows_verdict near count point left i after ≡ Yes
      → ((r j : ℕ) → i ≤ r → r < i + left → j < count r → near (point r j) ≡ true) × (after ≡ Yes)
  unfolding rows_verdict
  rows_yes zero i after h = (λ r j a b l. absurd (omega arith), h)
  rows_yes (suc left) i after h =
      let here = row_yes i (rows_verdict near count point left (suc i) after) h in
      let rest = rows_yes left (suc i) after here.1 in (
        λ r j a b l.
            ⊎_elim
            (λ q. let k : j < count i = rw q l in rw (← q) (here.0 j k))
            (λ q. rest.0 r j (omega arith) (omega arith) l)
            (eq-or-lt_of_le {n = i} {m = r} a),
        rest.1,
      )

  yes_rows : (left i : ℕ) (after : Verdict) → ((r j : ℕ) → i ≤ r → r < i + left → j < count r → near (point r j) ≡ true) → rows_verdict near count point left i after ≡ after
  unfolding rows_verdict
  yes_rows zero i after h = refl
  yes_rows (suc left) i after h =
      yes_row i (rows_verdict near count point left (suc i) after) (λ j l. h i j (omega arith) (omega arith) l)
      ∙ yes_rows left (suc i) after (λ r j a b l. h r j (omega arith) (omega arith) l)

  max_near : (b : Bool) (max : Float) → cond b Yes (TooFar 36 0 max) ≡ Yes → b ≡ true
  max_near true max h = refl
  max_near false max h = absurd (not_yes h)

  pub record AllNear (max : Float) : Type 0 where
    pub rows : (i j : ℕ) → i < 36 → j < count i → near (point i j) ≡ true
    pub end : near max ≡ true

  pub all_yes : (max : Float) → all_verdict near count point max ≡ Yes → AllNear max
  unfolding all_verdict
  all_yes max h =
      let w = rows_yes 36 0 (cond (near max) Yes (TooFar 36 0 max)) h in
      record { rows = λ i j a l. w.0 i j (omega arith) (omega arith) l; end = max_near (near max) max w.1 }

  pub yes_all : (max : Float) → AllNear max → all_verdict near count point max ≡ Yes
  unfolding all_verdict
  yes_all max w = yes_rows 36 0 (cond (near max) Yes (TooFar 36 0 max)) (λ r j a b l. w.rows r j (omega arith) l) ∙ rw w.end

-- ---- rows that have the same points
module _ (near : Float → Bool) (count count' : ℕ → ℕ) (point point' : ℕ → ℕ → Float) where
  -- row i has
  pub record SameRow (i : ℕ) : Type 0 where
    pub many : count i ≡ count' i
    pub each : (j : ℕ) → j < count i → point i j ≡ point' i j

  same_far : (i : ℕ) → SameRow i → far_in near count point i ≡ far_in near count' point' i
  unfolding far_in
  same_far i w =
      same_failing (λ j. near (point i j)) (λ j. near (point' i j)) (count i) 0 (λ j a b. ap near (w.each j (omega arith)))
      ∙ ap (λ (n : ℕ). first_failing (λ j. near (point' i j)) n 0) w.many

  same_row : (i : ℕ) (after after' : Verdict) → SameRow i → after ≡ after' → row_verdict near count point i after ≡ row_verdict near count' point' i after'
  same_row i after after' w e = go (ltb far (count i)) refl
    where
      far : ℕ
      far = far_in near count point i

      go : (b : Bool) → ltb far (count i) ≡ b → row_verdict near count point i after ≡ row_verdict near count' point' i after'
      go true h =
          let l = ltb-true far (count i) h in
          row_far near count point i far after refl l ∙ ap (TooFar i far) (w.each far l)
          ∙ sym (row_far near count' point' i far after' (same_far i w) (omega (arith, w.many)))
      go false h =
          let l = ltb-false far (count i) h in
          row_near near count point i far after refl l ∙ e ∙ sym (row_near near count' point' i far after' (same_far i w) (omega (arith, w.many)))

  same_rows : (left i : ℕ) (after : Verdict) → ((r : ℕ) → i ≤ r → r < i + left → SameRow r) → rows_verdict near count point left i after ≡ rows_verdict near count' point' left i after
  unfolding rows_verdict
  same_rows zero i after h = refl
  same_rows (suc left) i after h =
      same_row i _ _ (h i (omega arith) (omega arith)) (same_rows left (suc i) after (λ r a b. h r (omega arith) (omega arith)))

  pub same_all : (max : Float) → ((r : ℕ) → r < 36 → SameRow r) → all_verdict near count point max ≡ all_verdict near count' point' max
  unfolding all_verdict
  same_all max h = same_rows 36 0 _ (λ r a b. h r (omega arith))
