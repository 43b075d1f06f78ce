-- The next of the lent positions and their neighbours, and those left after it. Assumes nothing.
use mathlib.Core.Path.{◌≡◌, refl, sym, ap, ap₂, ◌∙◌}
use mathlib.Core.Bool.{true, false}
use mathlib.Core.List.{List, [], ◌∷◌}
use Prim.Native.Nat.{ℕ, zero, suc, ◌+◌, ◌≤◌, ◌<◌}
use native.Mathlib.Numerals.{add-one}
use native.Mathlib.Omega.{arith}
use lib.ListN.{length, get_or, drop, drop_of_length-le}
use lib.Ieee.{Float, nan, lt}
use Rattle.std.specs.Prelude.{Option, None, Some}
use Rattle.std.specs.Option.{IfSome}
use Rattle.float.specs.Number.{above_of, below_of}
use Rattle.weighed.specs.Points.{Site, site, beside_mark, lent_mark, sites_by, before, joined_with}
use Rattle.weighed.specs.inner.Joining.{belows, aboves, lents, beside_left, own_left, next_of, next_below, next_above, handed, NextBeside}
use Rattle.weighed.specs.declared.neighbours.Taken.{Taken}
use Rattle.weighed.specs.declared.neighbours.Next.{Next}
use Rattle.weighed.proofs.Counting.{by_length}

pub next_same : {t t' : Float} (m : ℕ) (w : Taken) → t ≡ t' → next_of t m w ≡ next_of t' m w
next_same m w e = ap (λ (t : Float). next_of t m w) e

-- ---- one of the three lists, from an index on
module _ (f : Float → Float) (m : ℕ) where
  drop-suc : (ps : List Float) (i : ℕ) → i < length ps → drop i (sites_by f m ps) ≡ site (f (get_or ps i nan)) m ∷ drop (suc i) (sites_by f m ps)
  unfolding sites_by
  drop-suc [] i h = absurd (omega arith)
  drop-suc (p ∷ ps) zero h = refl
  drop-suc (p ∷ ps) (suc i) h = drop-suc ps i (omega arith)

  some_by : (ps : List Float) (i : ℕ) → i < length ps → drop i (sites_by f m ps) ≡ site (f (get_or ps i nan)) m ∷ drop (i + 1) (sites_by f m ps)
  some_by ps i h = drop-suc ps i h ∙ rw add-one

  none_by : (ps : List Float) (i : ℕ) → length ps ≤ i → drop i (sites_by f m ps) ≡ []
  none_by ps i h = drop_of_length-le (sites_by f m ps) {i = i} (omega (arith, by_length f m ps))

-- ---- two lists made one
pub joined_nil : (xs : List Site) → joined_with xs [] ≡ xs
unfolding joined_with before
joined_nil [] = refl
joined_nil (x ∷ xs) = ap (λ (l : List Site). x ∷ l) (joined_nil xs)

first_joined : (x y : Site) (xs ys : List Site) → lt x.t y.t ≡ true → joined_with (x ∷ xs) (y ∷ ys) ≡ x ∷ joined_with xs (y ∷ ys)
unfolding joined_with before
first_joined x y xs ys h = rw h

second_joined : (x y : Site) (xs ys : List Site) → lt x.t y.t ≡ false → joined_with (x ∷ xs) (y ∷ ys) ≡ y ∷ joined_with (x ∷ xs) ys
unfolding joined_with before
second_joined x y xs ys h = rw h

no_first : (ys : List Site) → joined_with [] ys ≡ ys
unfolding joined_with
no_first ys = refl

-- ---- the next neighbour
module _ (ps : List Float) (at : Taken) where
  abbrev lower : List Site
  lower = drop at.below (belows ps)

  abbrev upper : List Site
  upper = drop at.above (aboves ps)

  pub beside_none : length ps ≤ at.below → length ps ≤ at.above → NextBeside ps at None
  unfolding beside_left
  beside_none a b = record { left = ap₂ joined_with (none_by below_of beside_mark ps at.below a) (none_by above_of beside_mark ps at.above b) ∙ no_first []; lent = tt }

  pub beside_above : (r : Next) → length ps ≤ at.below → at.above < length ps → r ≡ next_above ps at → NextBeside ps at (Some r)
  unfolding beside_left joined_with
  beside_above r a b e =
      let none = none_by below_of beside_mark ps at.below a in
      rw e (record { left = ap₂ joined_with none (some_by above_of beside_mark ps at.above b) ∙ no_first _ ∙ sym (ap (λ (l : List Site). site (above_of (get_or ps at.above nan)) beside_mark ∷ joined_with l (drop (at.above + 1) (aboves ps))) none); lent = refl })

  pub beside_below : (r : Next) → at.below < length ps → length ps ≤ at.above → r ≡ next_below ps at → NextBeside ps at (Some r)
  unfolding beside_left
  beside_below r a b e =
      let none = none_by above_of beside_mark ps at.above b in
      let x = site (below_of (get_or ps at.below nan)) beside_mark in
      let left' : joined_with lower upper ≡ x ∷ joined_with (drop (at.below + 1) (belows ps)) upper =
      ap (joined_with lower) none ∙ joined_nil lower ∙ some_by below_of beside_mark ps at.below a
      ∙ ap (λ (l : List Site). x ∷ l) (sym (ap (joined_with (drop (at.below + 1) (belows ps))) none ∙ joined_nil (drop (at.below + 1) (belows ps)))) in
      rw e (record { left = left'; lent = refl })

  module _ (a : at.below < length ps) (b : at.above < length ps) where
    pub beside_first : (x y : Next) → x ≡ next_below ps at → y ≡ next_above ps at → lt x.t y.t ≡ true → NextBeside ps at (Some x)
    unfolding beside_left
    beside_first x y e d h =
        let k : lt (below_of (get_or ps at.below nan)) (above_of (get_or ps at.above nan)) ≡ true = rw (e, d) at h in
        let u = some_by above_of beside_mark ps at.above b in
        let l : joined_with lower upper ≡ site (below_of (get_or ps at.below nan)) beside_mark ∷ joined_with (drop (at.below + 1) (belows ps)) upper =
        ap₂ joined_with (some_by below_of beside_mark ps at.below a) u
        ∙ first_joined (site (below_of (get_or ps at.below nan)) beside_mark) (site (above_of (get_or ps at.above nan)) beside_mark) (drop (at.below + 1) (belows ps)) (drop (at.above + 1) (aboves ps)) k
        ∙ ap (λ (l : List Site). site (below_of (get_or ps at.below nan)) beside_mark ∷ joined_with (drop (at.below + 1) (belows ps)) l) (sym u) in
        rw e (record { left = l; lent = refl })

    pub beside_second : (x y : Next) → x ≡ next_below ps at → y ≡ next_above ps at → lt x.t y.t ≡ false → NextBeside ps at (Some y)
    unfolding beside_left
    beside_second x y e d h =
        let k : lt (below_of (get_or ps at.below nan)) (above_of (get_or ps at.above nan)) ≡ false = rw (e, d) at h in
        let v = some_by below_of beside_mark ps at.below a in
        let l : joined_with lower upper ≡ site (above_of (get_or ps at.above nan)) beside_mark ∷ joined_with lower (drop (at.above + 1) (aboves ps)) =
        ap₂ joined_with v (some_by above_of beside_mark ps at.above b)
        ∙ second_joined (site (below_of (get_or ps at.below nan)) beside_mark) (site (above_of (get_or ps at.above nan)) beside_mark) (drop (at.below + 1) (belows ps)) (drop (at.above + 1) (aboves ps)) k
        ∙ ap (λ (l : List Site). site (above_of (get_or ps at.above nan)) beside_mark ∷ joined_with l (drop (at.above + 1) (aboves ps))) (sym v) in
        rw d (record { left = l; lent = refl })

-- ---- the next of all, of the next neighbour x
module _ (ps : List Float) (at : Taken) where
  abbrev lents_left : List Site
  lents_left = drop at.lent (lents ps)

  -- x is the next of all, if what is left of all begins with it
  as_next : (x : Next) → NextBeside ps at (Some x) → own_left ps at ≡ site x.t x.mark ∷ joined_with (beside_left ps x.with) lents_left → own_left ps at ≡ handed (own_left ps) (Some x)
  unfolding own_left beside_left
  as_next x w e = rw w.lent e

  pub no_lent : (x : Option Next) → NextBeside ps at x → length ps ≤ at.lent → own_left ps at ≡ handed (own_left ps) x
  no_lent x w h = go x w
    where
      none : lents_left ≡ []
      none = none_by (λ p. p) lent_mark ps at.lent h

      alone : own_left ps at ≡ beside_left ps at
      alone = unfold own_left in ap (joined_with (beside_left ps at)) none ∙ joined_nil (beside_left ps at)

      go : (y : Option Next) → NextBeside ps at y → own_left ps at ≡ handed (own_left ps) y
      go (Some y) v = as_next y v (alone ∙ v.left ∙ ap (λ (l : List Site). site y.t y.mark ∷ l) (sym (ap (joined_with (beside_left ps y.with)) none ∙ joined_nil (beside_left ps y.with))))
      go None v = alone ∙ v.left

  module _ (l : at.lent < length ps) where
    abbrev p : Site
    p = site (get_or ps at.lent nan) lent_mark

    abbrev rest : List Site
    rest = drop (at.lent + 1) (lents ps)

    here : lents_left ≡ p ∷ rest
    here = some_by (λ p. p) lent_mark ps at.lent l

    pub beside_next : (x : Option Next) (n : Next) → x ≡ Some n → NextBeside ps at x → lt n.t (get_or ps at.lent nan) ≡ true → own_left ps at ≡ handed (own_left ps) (Some n)
    beside_next x n e v h =
        let w : NextBeside ps at (Some n) = rw e at v in
        as_next n w
        (unfold own_left in ap₂ joined_with w.left here ∙ first_joined (site n.t n.mark) p (beside_left ps n.with) rest h
        ∙ ap (λ (l : List Site). site n.t n.mark ∷ joined_with (beside_left ps n.with) l) (sym here))

    -- the lent position, before a neighbour that is not less
    abbrev pub NotBefore : Option Next → Type 0
    NotBefore x = IfSome x (λ n. lt n.t (get_or ps at.lent nan) ≡ false)

    pub none_before : (x : Option Next) → ((n : Next) → x ≡ Some n → ⊥) → NotBefore x
    none_before None h = tt
    none_before (Some n) h = absurd (h n refl)

    pub lent_next : (x : Option Next) → NextBeside ps at x → NotBefore x
        → own_left ps at ≡ handed (own_left ps) (Some (next_of (get_or ps at.lent nan) lent_mark (record { below = at.below; lent = at.lent + 1; above = at.above })))
    unfolding own_left beside_left
    lent_next None w h = ap₂ joined_with w.left here ∙ no_first (p ∷ rest) ∙ ap (λ (l : List Site). p ∷ l) (sym (ap (λ (l : List Site). joined_with l rest) w.left ∙ no_first rest))
    lent_next (Some x) w h =
        ap₂ joined_with w.left here ∙ second_joined (site x.t x.mark) p (beside_left ps x.with) rest h
        ∙ ap (λ (l : List Site). p ∷ joined_with l rest) (sym w.left)
