-- The points in two arrays, as a list; and a test of numbers one after the other. Assumes nothing.
use mathlib.Core.Path.{◌≡◌, refl, sym, ap, ap₂, ◌∙◌}
use mathlib.Core.Logic.{⊎_elim}
use mathlib.Core.Bool.{Bool, true, false, ◌&&◌}
use mathlib.Core.List.{List, [], ◌∷◌, ◌++◌}
use Prim.Native.Nat.{ℕ, zero, suc, ◌+◌, ◌-◌, ◌≤◌, ◌<◌, min}
use native.Mathlib.Nat.{eq-or-lt_of_le}
use native.Mathlib.Omega.{arith}
use Rattle.std.specs.Prelude.{◌↔◌, IsTrue}
use Rattle.float.proofs.Flags.{both_l, both_r}
use lib.ListN.{length, get_or, take, drop}
use lib.Seq.{sets, sets-eq}
use lib.Ieee.{Float, nan}
use Rattle.sampling.specs.Midpoints.{Gradient}
use Rattle.weighed.specs.Points.{Site}
use Rattle.weighed.specs.Gathered.{times_of, marks_of}
use Rattle.weighed.proofs.Gathering.{times_length, marks_length}
use Rattle.within.specs.Shown.{Near, shows, fairly}
use Rattle.within.specs.inner.Weighing.{site_at, sites_from, all_from, fair_from}

module _ (ts : List Float) (ms : List ℕ) where
  pub sites_length : (i k : ℕ) → length (sites_from ts ms i k) ≡ k
  unfolding sites_from
  sites_length i zero = refl
  sites_length i (suc k) = ap suc (sites_length (suc i) k)

  pub sites_drop : (r i k j n : ℕ) → j ≡ i + r → n ≡ k - r → drop r (sites_from ts ms i k) ≡ sites_from ts ms j n
  unfolding sites_from
  sites_drop zero i k j n a b = let p : j ≡ i = omega arith in let q : n ≡ k = omega arith in rw (p, q)
  sites_drop (suc r) i zero j n a b = let q : n ≡ 0 = omega arith in rw q
  sites_drop (suc r) i (suc k) j n a b = sites_drop r (suc i) k j n (omega arith) (omega arith)

  pub sites_get : (i k j m : ℕ) (d : Site) → j < k → m ≡ i + j → get_or (sites_from ts ms i k) j d ≡ site_at ts ms m
  unfolding sites_from
  sites_get i zero j m d h e = absurd (omega arith)
  sites_get i (suc k) zero m d h e = let p : m ≡ i = omega arith in rw p
  sites_get i (suc k) (suc j) m d h e = sites_get (suc i) k j m d (omega arith) (omega arith)

  -- what two points show of the first r
  pub shows_all : (g : Gradient) (near : Near) (a b : Float) (r i k n : ℕ) → n ≡ min r k → shows g near a b (take r (sites_from ts ms i k)) ≡ all_from (fair_from g near a b ts ms) i n
  unfolding sites_from shows all_from
  shows_all g near a b zero i k n e = let p : n ≡ 0 = omega arith in rw p
  shows_all g near a b (suc r) i zero n e = let p : n ≡ 0 = omega arith in rw p
  shows_all g near a b (suc r) i (suc k) zero e = absurd (omega arith)
  shows_all g near a b (suc r) i (suc k) (suc n) e = ap (λ (x : Bool). fairly g near a b (site_at ts ms i) && x) (shows_all g near a b r (suc i) k n (omega arith))

-- ---- the arrays that hold a list
head_of : {A : Type 0} (d : A) (l : List A) (i : ℕ) (x : A) (xs : List A) → drop i l ≡ x ∷ xs → (get_or l i d ≡ x) × (drop (suc i) l ≡ xs)
head_of d [] zero x xs e = let n = ap length e in absurd (omega arith)
head_of d [] (suc i) x xs e = let n = ap length e in absurd (omega arith)
head_of d (y ∷ l) zero x xs e = (ap (λ (m : List _). get_or m 0 d) e, ap (drop 1) e)
head_of d (y ∷ l) (suc i) x xs e = head_of d l i x xs e

held_from : (ts : List Float) (ms : List ℕ) (ss : List Site) (i : ℕ) (xs : List Float) (ys : List ℕ) → drop i ts ≡ times_of ss ++ xs → drop i ms ≡ marks_of ss ++ ys → sites_from ts ms i (length ss) ≡ ss
unfolding sites_from times_of marks_of
held_from ts ms [] i xs ys a b = refl
held_from ts ms (s ∷ ss) i xs ys a b =
    let p = head_of nan ts i s.t (times_of ss ++ xs) a in
    let q = head_of 0 ms i s.mark (marks_of ss ++ ys) b in
    rw (p.0, q.0, held_from ts ms ss (suc i) xs ys p.1 q.1)

pub sites_held : (ts : List Float) (ms : List ℕ) (ss : List Site) → length ss ≤ length ts → length ss ≤ length ms
    → sites_from (sets ts 0 (times_of ss)) (sets ms 0 (marks_of ss)) 0 (length ss) ≡ ss
sites_held ts ms ss a b =
    held_from (sets ts 0 (times_of ss)) (sets ms 0 (marks_of ss)) ss 0 (drop (0 + length (times_of ss)) ts) (drop (0 + length (marks_of ss)) ms)
    (sets-eq (times_of ss) ts 0 (omega (arith, times_length ss)))
    (sets-eq (marks_of ss) ms 0 (omega (arith, marks_length ss)))

-- ---- a test
and_assoc : (a b c : Bool) → (a && (b && c)) ≡ (a && b && c)
and_assoc true b c = refl
and_assoc false b c = refl

module _ (f : ℕ → Bool) where
  split : (i m n j k : ℕ) → k ≡ m + n → j ≡ i + m → all_from f i k ≡ (all_from f i m && all_from f j n)
  unfolding all_from
  split i zero n j k e d = let p : k ≡ n = omega arith in let q : j ≡ i = omega arith in rw (p, q)
  split i (suc m) n j zero e d = absurd (omega arith)
  split i (suc m) n j (suc k) e d = ap (λ (x : Bool). f i && x) (split (suc i) m n j k (omega arith) (omega arith)) ∙ and_assoc (f i) (all_from f (suc i) m) (all_from f j n)

  pub first_no : (i m n k : ℕ) → k ≡ m + n → all_from f i m ≡ false → all_from f i k ≡ false
  first_no i m n k e h = split i m n (i + m) k e refl ∙ rw h

  pub first_yes : (i m n j k : ℕ) → k ≡ m + n → j ≡ i + m → all_from f i m ≡ true → all_from f i k ≡ all_from f j n
  first_yes i m n j k e d h = split i m n j k e d ∙ rw h

  pub none_asked : (i : ℕ) → all_from f i 0 ≡ true
  unfolding all_from
  none_asked i = refl

  pub none_left : (i to : ℕ) → to ≤ i → all_from f i (to - i) ≡ true
  none_left i to h = let n : to - i ≡ 0 = omega arith in rw n (none_asked i)

-- a test of all is the one of each
module _ (f : ℕ → Bool) where
  each_from : (i k : ℕ) → all_from f i k ≡ true → (j : ℕ) → i ≤ j → j < i + k → f j ≡ true
  unfolding all_from
  each_from i zero e j h l = absurd (omega arith)
  each_from i (suc k) e j h l =
      ⊎_elim
      (λ q. rw (← q) (both_l (f i) (all_from f (suc i) k) e))
      (λ q. each_from (suc i) k (both_r (f i) (all_from f (suc i) k) e) j (omega arith) (omega arith))
      (eq-or-lt_of_le {n = i} {m = j} h)

  all_each : (i k : ℕ) → ((j : ℕ) → i ≤ j → j < i + k → f j ≡ true) → all_from f i k ≡ true
  unfolding all_from
  all_each i zero each = refl
  all_each i (suc k) each = rw (each i (omega arith) (omega arith)) (all_each (suc i) k (λ j h l. each j (omega arith) (omega arith)))

  pub all_is : (from to : ℕ) (r : Bool) → IsTrue r ↔ ((i : ℕ) → from ≤ i → i < to → IsTrue (f i)) → r ≡ all_from f from (to - from)
  all_is from to true w = sym (all_each from (to - from) (λ j h l. w.0 refl j h (omega arith)))
  all_is from to false w = by (all_from f from (to - from)) refl
    where
      by : (b : Bool) → all_from f from (to - from) ≡ b → false ≡ b
      by true e = w.1 (λ i h l. each_from from (to - from) e i h (omega arith))
      by false e = refl

pub same_test : (f g : ℕ → Bool) (i k : ℕ) → ((j : ℕ) → i ≤ j → j < i + k → f j ≡ g j) → all_from f i k ≡ all_from g i k
unfolding all_from
same_test f g i zero h = refl
same_test f g i (suc k) h = ap₂ (λ (x y : Bool). x && y) (h i (omega arith) (omega arith)) (same_test f g (suc i) k (λ j a b. h j (omega arith) (omega arith)))
