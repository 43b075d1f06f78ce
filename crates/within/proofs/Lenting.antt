-- The scan for a lent position. Assumes nothing.
use mathlib.Core.Path.{◌≡◌, refl, sym, ap, ◌∙◌}
use mathlib.Core.Bool.{Bool, true, false, cond, ◌&&◌}
use mathlib.Core.List.{List, [], ◌∷◌}
use Prim.Native.Nat.{ℕ, zero, suc, ◌+◌, ◌-◌, ◌≤◌, ◌<◌}
use native.Mathlib.Omega.{arith}
use borrow.Author.Tests.{le-leb, lt-leb, leb-true, leb-false, eqb-true, eqb-false}
use lib.Dec.{leb, eqb}
use lib.ListN.{get_or}
use Rattle.float.proofs.Flags.{both_l, both_r}
use Rattle.weighed.specs.Points.{Site, lent_mark}
use Rattle.within.specs.Shown.{lent_left, to_lent}
use Rattle.within.specs.inner.Weighing.{site_at, sites_from, points_to}
use Rattle.within.proofs.Reaching.{lent_on}

abbrev lent_to : List Site → ℕ → ℕ
lent_to = points_to true

-- one point further, and n points further; 0 stays
abbrev onward : ℕ → ℕ
onward zero = 0
onward (suc n) = suc (suc n)

abbrev shifted : ℕ → ℕ → ℕ
shifted n zero = 0
shifted n (suc k) = n + suc k

onward_some : (n : ℕ) → 1 ≤ n → suc n ≡ onward n
onward_some zero h = absurd (omega arith)
onward_some (suc n) h = refl

shift_on : (n m k : ℕ) → m ≡ n + 1 → shifted n (onward k) ≡ shifted m k
shift_on n m zero e = refl
shift_on n m (suc k) e = omega arith

shift_none : (n k : ℕ) → n ≡ 0 → k ≡ shifted n k
shift_none n zero e = refl
shift_none n (suc k) e = omega arith

-- ---- the next point is a lent position, or not
module _ (s : Site) (ss : List Site) where
  by_lent : (q : ℕ) → 1 ≤ q → eqb s.mark lent_mark ≡ true → lent_to (s ∷ ss) (suc q) ≡ onward (lent_to ss q)
  unfolding points_to lent_left to_lent
  by_lent q h e = rw e (go (leb q (lent_left ss)) refl)
    where
      go : (b : Bool) → leb q (lent_left ss) ≡ b → cond (leb (suc q) (suc (lent_left ss))) (suc (to_lent q ss)) 0 ≡ onward (cond b (to_lent q ss) 0)
      go true l = let k = leb-true q (lent_left ss) l in rw (le-leb (suc q) (suc (lent_left ss)) (omega (arith, k))) (onward_some (to_lent q ss) (lent_on q ss h))
      go false l = let k = leb-false q (lent_left ss) l in rw (lt-leb (suc q) (suc (lent_left ss)) (omega (arith, k)))

  by_other : (q : ℕ) → eqb s.mark lent_mark ≡ false → lent_to (s ∷ ss) (suc q) ≡ onward (lent_to ss (suc q))
  unfolding points_to lent_left to_lent
  by_other q e = rw e (go (leb (suc q) (lent_left ss)))
    where
      go : (b : Bool) → cond b (suc (to_lent (suc q) ss)) 0 ≡ onward (cond b (to_lent (suc q) ss) 0)
      go true = onward_some (to_lent (suc q) ss) (lent_on (suc q) ss (omega arith))
      go false = refl

  here : eqb s.mark lent_mark ≡ true → lent_to (s ∷ ss) 1 ≡ 1
  unfolding points_to lent_left to_lent
  here e = rw (e, le-leb 1 (suc (lent_left ss)) (omega arith))

  further : (r r' : ℕ) → 1 ≤ r → (eqb s.mark lent_mark && eqb r 1) ≡ false → r' ≡ cond (eqb s.mark lent_mark) (r - 1) r → (1 ≤ r') × (lent_to (s ∷ ss) r ≡ onward (lent_to ss r'))
  further zero r' h a e = absurd (omega arith)
  further (suc q) r' h a e = go (eqb s.mark lent_mark) refl
    where
      go : (b : Bool) → eqb s.mark lent_mark ≡ b → (1 ≤ r') × (lent_to (s ∷ ss) (suc q) ≡ onward (lent_to ss r'))
      go true k =
          let n = eqb-false (suc q) 1 (rw k at a) in
          let d : r' ≡ q = e ∙ rw k (omega arith) in
          let some : 1 ≤ q = omega (arith, n) in
          (omega (arith, d, some), rw d (by_lent q some k))
      go false k = let d : r' ≡ suc q = e ∙ rw k in (omega (arith, d), rw d (by_other q k))

none_at_all : (ss : List Site) → 0 ≡ lent_to ss 0
unfolding points_to to_lent
none_at_all ss = go (leb 0 (lent_left ss))
  where
    go : (b : Bool) → ◌≡◌ {A = ℕ} 0 (cond b 0 0)
    go true = refl
    go false = refl

at-end : lent_to [] 1 ≡ 1
unfolding points_to lent_left to_lent
at-end = refl

past_end : (r : ℕ) → 1 < r → lent_to [] r ≡ 0
unfolding points_to lent_left
past_end r h = rw (lt-leb r 1 h)

-- ---- the loop: what is sought from the start is what is left to seek, so many points further
module _ (ms : List ℕ) (from count : ℕ) where
  abbrev sought : ℕ → ℕ → ℕ
  sought i r = lent_to (sites_from [] ms i (count - i)) r

  pub record Scanning (r i left : ℕ) : Type 0 where
    pub begun : from ≤ i
    pub within : i ≤ count
    pub some : 1 ≤ left
    pub same : sought from r ≡ shifted (i - from) (sought i left)

  pub scan_none : (r : ℕ) → r ≡ 0 → 0 ≡ sought from r
  scan_none r e = rw e (none_at_all (sites_from [] ms from (count - from)))

  pub scan_start : (r : ℕ) → from ≤ count → (r ≡ 0 → ⊥) → Scanning r from r
  scan_start r h n = record { begun = omega arith; within = h; some = omega (arith, n); same = shift_none (from - from) (sought from r) (omega arith) }

  module _ (r i left : ℕ) (w : Scanning r i left) where
    module _ (h : i < count) where
      head : sites_from [] ms i (count - i) ≡ site_at [] ms i ∷ sites_from [] ms (i + 1) (count - (i + 1))
      unfolding sites_from
      head = let e : count - i ≡ suc (count - (i + 1)) = omega (arith, h) in let d : i + 1 ≡ suc i = omega arith in rw (e, d)

      pub scan_found : (eqb (get_or ms i 0) lent_mark && eqb left 1) ≡ true → i - from + 1 ≡ sought from r
      scan_found a =
          let one : left ≡ 1 = eqb-true left 1 (both_r (eqb (get_or ms i 0) lent_mark) (eqb left 1) a) in
          let e : sought i left ≡ 1 = rw (head, one) (here (site_at [] ms i) (sites_from [] ms (i + 1) (count - (i + 1))) (both_l (eqb (get_or ms i 0) lent_mark) (eqb left 1) a)) in
          sym (w.same ∙ rw e)

      pub scan_next : (left' : ℕ) → (eqb (get_or ms i 0) lent_mark && eqb left 1) ≡ false → left' ≡ cond (eqb (get_or ms i 0) lent_mark) (left - 1) left → Scanning r (i + 1) left'
      scan_next left' a e =
          let f = further (site_at [] ms i) (sites_from [] ms (i + 1) (count - (i + 1))) left left' w.some a e in
          let b = w.begun in
          record {
            begun = omega (arith, b);
            within = omega (arith, h);
            some = f.0;
            same = w.same ∙ ap (λ (l : List Site). shifted (i - from) (lent_to l left)) head ∙ ap (shifted (i - from)) f.1 ∙ shift_on (i - from) (i + 1 - from) (sought (i + 1) left') (omega (arith, b));
          }

    module _ (h : count ≤ i) where
      gone : sites_from [] ms i (count - i) ≡ []
      unfolding sites_from
      gone = let e : count - i ≡ 0 = omega (arith, h) in rw e

      pub scan_max : left ≡ 1 → count - from + 1 ≡ sought from r
      scan_max one =
          let e : sought i left ≡ 1 = rw (gone, one) at-end in
          let n : count - from ≡ i - from = omega (arith, h, w.within) in
          sym (w.same ∙ rw (e, n))

      pub scan_past : (left ≡ 1 → ⊥) → 0 ≡ sought from r
      scan_past n =
          let e : sought i left ≡ 0 = rw gone (past_end left (omega (arith, n, w.some))) in
          sym (w.same ∙ rw e)
