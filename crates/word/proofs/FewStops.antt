-- How many points are kept: two for each lent position that is left at most, and one more, where from a point that is no lent position the next lent one is shown or few are kept. Assumes nothing.
use mathlib.Core.Path.{◌≡◌, refl, ap, subst}
use mathlib.Core.Bool.{Bool, true, false, cond}
use mathlib.Core.List.{List, [], ◌∷◌}
use mathlib.Core.Logic.{◌⊎◌, inl, inr}
use Prim.Native.Nat.{ℕ, zero, suc, ◌+◌, ◌-◌, ◌*◌, ◌≤◌, ◌<◌}
use native.Mathlib.Omega.{arith}
use borrow.Author.Tests.{leb-true}
use lib.Dec.{leb, eqb}
use lib.ListN.{length, drop, get_or}
use lib.Ieee.{Float, lt}
use Rattle.float.specs.Number.{above_of, below_of}
use Rattle.float.proofs.Flags.{both_l}
use Rattle.sampling.specs.Midpoints.{Gradient}
use Rattle.weighed.specs.Points.{Site, site, sampled_mark, beside_mark, lent_mark, sites_by, before, joined_with, own_of, inside, merged}
use Rattle.within.specs.Shown.{Near, point_after, shown_to, lent_left, to_lent, reach_of}
use Rattle.within.specs.Kept.{Kept, lent_shown, any_shown, step_from, kept_from}
use Rattle.within.proofs.Reaching.{reached, lent_on}

abbrev pub is_lent : Site → Bool
is_lent s = eqb s.mark lent_mark

-- ---- how many lent positions are left
pub left_some : (ss : List Site) → 1 ≤ lent_left ss
unfolding lent_left
left_some [] = omega arith
left_some (s ∷ ss) = go (is_lent s) (left_some ss)
  where
    go : (b : Bool) → 1 ≤ lent_left ss → 1 ≤ cond b (suc (lent_left ss)) (lent_left ss)
    go true h = omega arith
    go false h = h

left_tail : (s : Site) (ss : List Site) → lent_left ss ≤ lent_left (s ∷ ss)
unfolding lent_left
left_tail s ss = go (is_lent s)
  where
    go : (b : Bool) → lent_left ss ≤ cond b (suc (lent_left ss)) (lent_left ss)
    go true = omega arith
    go false = omega arith

left_drop : (r : ℕ) (ss : List Site) → lent_left (drop r ss) ≤ lent_left ss
left_drop zero ss = omega arith
left_drop (suc r) [] = omega arith
left_drop (suc r) (s ∷ ss) = omega (arith, left_drop r ss, left_tail s ss)

-- past a lent one there is one less
left_past : (r : ℕ) (ss : List Site) (d : Site) → r < length ss → is_lent (get_or ss r d) ≡ true → suc (lent_left (drop (suc r) ss)) ≤ lent_left ss
left_past r [] d l e = absurd (omega arith)
left_past zero (s ∷ ss) d l e = unfold lent_left in rw e (omega arith)
left_past (suc r) (s ∷ ss) d l e = omega (arith, left_past r ss d (omega arith) e, left_tail s ss)

-- past the r-th lent one there are r less
left_to : (r : ℕ) (ss : List Site) → to_lent r ss ≤ length ss → lent_left (drop (to_lent r ss) ss) + r ≤ lent_left ss
unfolding to_lent
left_to zero ss h = omega arith
left_to (suc r) [] h = absurd (omega arith)
left_to (suc r) (s ∷ ss) h = go (is_lent s) refl h (left_to r ss) (left_to (suc r) ss)
  where
    go : (b : Bool) → is_lent s ≡ b → suc (cond b (to_lent r ss) (to_lent (suc r) ss)) ≤ suc (length ss) → (to_lent r ss ≤ length ss → lent_left (drop (to_lent r ss) ss) + r ≤ lent_left ss)
        → (to_lent (suc r) ss ≤ length ss → lent_left (drop (to_lent (suc r) ss) ss) + suc r ≤ lent_left ss) → lent_left (drop (cond b (to_lent r ss) (to_lent (suc r) ss)) ss) + suc r ≤ lent_left (s ∷ ss)
    go true e k f g = unfold lent_left in rw e (omega (arith, f (omega arith)))
    go false e k f g = unfold lent_left in rw e (g (omega arith))

-- ---- among the points of a ramp and a record there are no more than among the lent ones, and among these one for each position
pick : (P : List Site → Type 0) (b : Bool) (x y : List Site) → P x → P y → P (cond b x y)
pick P true x y p q = p
pick P false x y p q = q

left_both : (o : Site) (xs ys : List Site) → lent_left xs ≤ lent_left ys → lent_left (o ∷ xs) ≤ lent_left (o ∷ ys)
unfolding lent_left
left_both o xs ys h = go (is_lent o)
  where
    go : (b : Bool) → cond b (suc (lent_left xs)) (lent_left xs) ≤ cond b (suc (lent_left ys)) (lent_left ys)
    go true = omega arith
    go false = h

left_sampled : (t : Float) (xs : List Site) (k : ℕ) → lent_left xs ≤ k → lent_left (site t sampled_mark ∷ xs) ≤ k
unfolding lent_left
left_sampled t xs k h = h

left_more : (o : Site) (xs os : List Site) → lent_left xs ≤ lent_left os → lent_left xs ≤ lent_left (o ∷ os)
left_more o xs os h = omega (arith, h, left_tail o os)

pub left_merged : (max : Float) (n : ℕ) (last : Float) (ts : List Float) (os : List Site) → lent_left (merged max n last ts os) ≤ lent_left os
unfolding merged
left_merged max zero last ts os = unfold lent_left in left_some os
left_merged max (suc n) last [] [] = omega arith
left_merged max (suc n) last (t ∷ ts) [] = pick (λ l. lent_left l ≤ lent_left []) (inside max last t) _ _ (left_sampled t _ _ (left_merged max n t ts [])) (left_merged max n last ts [])
left_merged max (suc n) last [] (o ∷ os) =
    pick (λ l. lent_left l ≤ lent_left (o ∷ os)) (inside max last o.t) _ _ (left_both o _ os (left_merged max n o.t [] os)) (left_more o _ os (left_merged max n last [] os))
left_merged max (suc n) last (t ∷ ts) (o ∷ os) =
    pick (λ l. lent_left l ≤ lent_left (o ∷ os)) (inside max last t) _ _
    (pick (λ l. lent_left l ≤ lent_left (o ∷ os)) (inside max last o.t) _ _
    (pick (λ l. lent_left l ≤ lent_left (o ∷ os)) (lt t o.t) _ _ (left_sampled t _ _ (left_merged max n t ts (o ∷ os))) (left_both o _ os (left_merged max n o.t (t ∷ ts) os)))
    (left_more o _ os (left_merged max n last (t ∷ ts) os)))
    (left_merged max n last ts (o ∷ os))

-- of two lists made one
left_cons : (o : Site) (xs : List Site) (k : ℕ) → lent_left xs + 1 ≤ k → lent_left (o ∷ xs) + 1 ≤ cond (is_lent o) (suc k) k
unfolding lent_left
left_cons o xs k h = go (is_lent o)
  where
    go : (b : Bool) → cond b (suc (lent_left xs)) (lent_left xs) + 1 ≤ cond b (suc k) k
    go true = omega arith
    go false = h

left_is : (o : Site) (xs : List Site) (k : ℕ) → cond (is_lent o) (suc (lent_left xs + k)) (lent_left xs + k) ≡ lent_left (o ∷ xs) + k
unfolding lent_left
left_is o xs k = go (is_lent o)
  where
    go : (b : Bool) → cond b (suc (lent_left xs + k)) (lent_left xs + k) ≡ cond b (suc (lent_left xs)) (lent_left xs) + k
    go true = omega arith
    go false = refl

left_before : (x : Site) (xs : List Site) (f : List Site → List Site) → ((ys : List Site) → lent_left (f ys) + 1 ≤ lent_left xs + lent_left ys) → (ys : List Site) → lent_left (before x f ys) + 1 ≤ lent_left (x ∷ xs) + lent_left ys
unfolding before
left_before x xs f h [] = subst (λ (k : ℕ). lent_left (x ∷ f []) + 1 ≤ k) (left_is x xs (lent_left [])) (left_cons x (f []) _ (h []))
left_before x xs f h (y ∷ ys) =
    pick (λ l. lent_left l + 1 ≤ lent_left (x ∷ xs) + lent_left (y ∷ ys)) (lt x.t y.t) (x ∷ f (y ∷ ys)) (y ∷ before x f ys)
    (subst (λ (k : ℕ). lent_left (x ∷ f (y ∷ ys)) + 1 ≤ k) (left_is x xs (lent_left (y ∷ ys))) (left_cons x (f (y ∷ ys)) _ (h (y ∷ ys))))
    (turned (lent_left (y ∷ ys)) (lent_left (x ∷ xs)) (subst (λ (k : ℕ). lent_left (y ∷ before x f ys) + 1 ≤ k) (left_is y ys (lent_left (x ∷ xs))) (left_cons y (before x f ys) _ (turned (lent_left (x ∷ xs)) (lent_left ys) (left_before x xs f h ys)))))
  where
    turned : (a b : ℕ) {k : ℕ} → k ≤ a + b → k ≤ b + a
    turned a b h = omega arith

left_joined : (xs ys : List Site) → lent_left (joined_with xs ys) + 1 ≤ lent_left xs + lent_left ys
unfolding joined_with lent_left
left_joined [] ys = omega arith
left_joined (x ∷ xs) ys = left_before x xs (joined_with xs) (left_joined xs) ys

left_beside : (f : Float → Float) (ps : List Float) → lent_left (sites_by f beside_mark ps) ≡ 1
unfolding lent_left sites_by
left_beside f [] = refl
left_beside f (p ∷ ps) = left_beside f ps

left_lent : (ps : List Float) → lent_left (sites_by (λ p. p) lent_mark ps) ≡ suc (length ps)
unfolding lent_left sites_by
left_lent [] = refl
left_lent (p ∷ ps) = ap suc (left_lent ps)

pub left_own : (ps : List Float) → lent_left (own_of ps) ≤ suc (length ps)
unfolding own_of
left_own ps =
    let beside = joined_with (sites_by below_of beside_mark ps) (sites_by above_of beside_mark ps) in
    let lents = sites_by (λ p. p) lent_mark ps in
    omega (arith, left_joined beside lents, left_joined (sites_by below_of beside_mark ps) (sites_by above_of beside_mark ps), left_beside below_of ps, left_beside above_of ps, left_lent ps)

-- ---- the kept points
module _ (g : Gradient) (near : Near) (max : Float) (State Free : Float → List Site → Type 0) (straight : (a : Float) (rest : List Site) → Free a rest → (lent_shown g near max a rest 1 ≡ true) ⊎ ((n : ℕ) → suc (length (kept_from g near max n a rest)) ≤ 2 * lent_left rest + 1))
    (on : (a : Float) (rest : List Site) → State a rest → (r : ℕ) → r < length rest → State (point_after max rest (suc r)) (drop (suc r) rest))
    (free : (a : Float) (rest : List Site) → State a rest → (r : ℕ) → r < length rest → is_lent (get_or rest r (site max lent_mark)) ≡ false → Free (point_after max rest (suc r)) (drop (suc r) rest))
    (whole : (a : Float) (rest : List Site) → Free a rest → State a rest) where
  abbrev kept : ℕ → Float → List Site → List Kept
  kept n a rest = kept_from g near max n a rest

  abbrev after : ℕ → ℕ → List Site → List Kept
  after n r rest = cond (leb r (length rest)) (kept n (point_after max rest r) (drop r rest)) []

  abbrev Few : ℕ → Type 0
  Few n = (a : Float) (rest : List Site) → State a rest → length (kept n a rest) ≤ 2 * lent_left rest + 1

  abbrev Fewer : ℕ → Type 0
  Fewer n = (a : Float) (rest : List Site) → Free a rest → suc (length (kept n a rest)) ≤ 2 * lent_left rest + 1

  -- to the r-th lent position
  module _ (n : ℕ) (few : Few n) (a : Float) (rest : List Site) (w : State a rest) where
    to_lent_lem : (r : ℕ) → 1 ≤ r → r ≤ lent_left rest → suc (suc (length (after n (to_lent r rest) rest))) ≤ 2 * lent_left rest + 1
    to_lent_lem r one most = go (leb (to_lent r rest) (length rest)) refl
      where
        back : (k : ℕ) → 1 ≤ k → suc (k - 1) ≡ k
        back k h = omega arith

        go : (b : Bool) → leb (to_lent r rest) (length rest) ≡ b → suc (suc (length (cond b (kept n (point_after max rest (to_lent r rest)) (drop (to_lent r rest) rest)) []))) ≤ 2 * lent_left rest + 1
        go true e =
            let l = leb-true (to_lent r rest) (length rest) e in
            let k = back (to_lent r rest) (lent_on r rest one) in
            let next : State (point_after max rest (to_lent r rest)) (drop (to_lent r rest) rest) = subst (λ (i : ℕ). State (point_after max rest i) (drop i rest)) k (on a rest w (to_lent r rest - 1) (omega (arith, k, l))) in
            omega (arith, few _ _ next, left_to r rest l, one)
        go false e = omega (arith, most, one)

    -- to any point
    to_any : Fewer n → (r : ℕ) → 1 ≤ r → suc (length (after n r rest)) ≤ 2 * lent_left rest + 1
    to_any fewer r one = go (leb r (length rest)) refl
      where
        k : suc (r - 1) ≡ r
        k = omega arith

        go : (b : Bool) → leb r (length rest) ≡ b → suc (length (cond b (kept n (point_after max rest r) (drop r rest)) [])) ≤ 2 * lent_left rest + 1
        go true e = by (is_lent (get_or rest (r - 1) (site max lent_mark))) refl
          where
            l : r - 1 < length rest
            l = let h = leb-true r (length rest) e in omega (arith, h, one)

            by : (c : Bool) → is_lent (get_or rest (r - 1) (site max lent_mark)) ≡ c → suc (length (kept n (point_after max rest r) (drop r rest))) ≤ 2 * lent_left rest + 1
            by true i =
                let next : State (point_after max rest r) (drop r rest) = subst (λ (j : ℕ). State (point_after max rest j) (drop j rest)) k (on a rest w (r - 1) l) in
                let less : suc (lent_left (drop r rest)) ≤ lent_left rest = subst (λ (j : ℕ). suc (lent_left (drop j rest)) ≤ lent_left rest) k (left_past (r - 1) rest (site max lent_mark) l i) in
                omega (arith, few _ _ next, less)
            by false i =
                let next : Free (point_after max rest r) (drop r rest) = subst (λ (j : ℕ). Free (point_after max rest j) (drop j rest)) k (free a rest w (r - 1) l i) in
                omega (arith, fewer _ _ next, left_drop r rest)
        go false e = omega (arith, left_some rest)

    lent_step : lent_shown g near max a rest 1 ≡ true → suc (suc (length (after n (to_lent (reach_of (lent_shown g near max a rest)) rest) rest))) ≤ 2 * lent_left rest + 1
    lent_step e = to_lent_lem (reach_of (lent_shown g near max a rest)) (reached (lent_shown g near max a rest)).least most
      where
        asked : (r : ℕ) → lent_shown g near max a rest r ≡ true → r ≤ lent_left rest
        asked r h = unfold lent_shown in leb-true r (lent_left rest) (both_l (leb r (lent_left rest)) (shown_to g near max a rest (to_lent r rest)) h)

        most : reach_of (lent_shown g near max a rest) ≤ lent_left rest
        most = elim (reached (lent_shown g near max a rest)).asked [ inl o ↦ omega (arith, o, left_some rest) | inr y ↦ asked _ y ]

  both : (n : ℕ) → Few n × Fewer n
  unfolding kept_from step_from
  both zero = (λ a rest w. omega arith, λ a rest w. omega (arith, left_some rest))
  both (suc n) =
      let f = both n in (
        λ a rest w.
            by (lent_shown g near max a rest 1) refl (to n a rest) (λ e. omega (arith, lent_step n f.0 a rest w e)) (to_any n f.0 a rest w f.1 (reach_of (any_shown g near max a rest)) (reached (any_shown g near max a rest)).least),
        λ a rest w. elim (straight a rest w) [ inl e ↦ rw e (lent_step n f.0 a rest (whole a rest w) e) | inr h ↦ h (suc n) ],
      )
    where
      to : (n : ℕ) (a : Float) (rest : List Site) → ℕ → Type 0
      to n a rest r = suc (length (after n r rest)) ≤ 2 * lent_left rest + 1

      by : (b : Bool) {c : Bool} {x y : ℕ} → c ≡ b → (P : ℕ → Type 0) → (c ≡ true → P x) → P y → P (cond c x y)
      by true e P p q = rw e (p e)
      by false e P p q = rw e q

  pub few_kept : (n : ℕ) (a : Float) (rest : List Site) → State a rest → length (kept_from g near max n a rest) ≤ 2 * lent_left rest + 1
  few_kept n = (both n).0
