-- The colour between two stops and at a place, from what the calls gave. Assumes nothing.
use mathlib.Core.Path.{◌≡◌, sym, ◌∙◌, ap}
use mathlib.Core.List.{List}
use Prim.Native.Nat.{ℕ, ◌+◌, ◌-◌, ◌<◌, ◌≤◌}
use native.Mathlib.Omega.{arith}
use lib.ListN.{length}
use lib.Ieee.{Float}
use borrow.Author.Tests.{lt-ltb, le-ltb}
use Rattle.blend.specs.Pair.{sharp_pair, basis_pair, catmull_pair}
use Rattle.blend.specs.declared.Rgba.{Rgba}
use Rattle.blend.specs.declared.Stop.{Stop}
use Rattle.stops.specs.Stops.{colour_at, stop_at}
use Rattle.stops.specs.Pair.{beyond, left_of, right_of, pair_of, between, colour_in}
use Rattle.stops.specs.declared.Kind.{Kind}
use Rattle.stops.specs.declared.Kind.TheVariants.{Sharp, Basis, CatmullRom}
use Rattle.stops.specs.declared.Place.{Place}

-- ---- the colours beside a pair
module _ (cs : List Float) (k : ℕ) (p q : Rgba) {z : Rgba} where
  pub left_inner : 1 < k → z ≡ colour_at cs (k - 2) → z ≡ left_of cs k p q
  unfolding left_of
  left_inner h e = e ∙ simp (lt-ltb 1 k h)

  pub left_outer : k ≤ 1 → z ≡ beyond p q → z ≡ left_of cs k p q
  unfolding left_of
  left_outer h e = e ∙ simp (le-ltb 1 k h)

  -- the code tests k against n - 1, which cannot wrap
  pub right_inner : (n : ℕ) {m : ℕ} → m ≡ n - 1 → k < m → z ≡ colour_at cs (k + 1) → z ≡ right_of cs n k p q
  unfolding right_of
  right_inner n l h e = e ∙ simp (lt-ltb (k + 1) n (omega arith))

  pub right_outer : (n : ℕ) {m : ℕ} → m ≡ n - 1 → m ≤ k → z ≡ beyond q p → z ≡ right_of cs n k p q
  unfolding right_of
  right_outer n l h e = e ∙ simp (le-ltb (k + 1) n (omega arith))

-- ---- the pair, by kind
module _ (cs : List Float) (n k : ℕ) (p q : Stop) (t : Float) {kind : Kind} {z : Rgba} where
  pub by_kind : (w : Kind) → kind ≡ w → z ≡ pair_of w cs n k p q t → z ≡ pair_of kind cs n k p q t
  by_kind w h e = e ∙ ap (λ (u : Kind). pair_of u cs n k p q t) (sym h)

  pub by_sharp : {lower : ℕ} → kind ≡ Sharp → lower ≡ k - 1 → z ≡ sharp_pair lower p q t → z ≡ pair_of kind cs n k p q t
  unfolding pair_of
  by_sharp h l e = by_kind Sharp h (e ∙ ap (λ (i : ℕ). sharp_pair i p q t) l)

  module _ {l r : Rgba} (left : l ≡ left_of cs k p.colour q.colour) (right : r ≡ right_of cs n k p.colour q.colour) where
    pub by_basis : kind ≡ Basis → z ≡ basis_pair l p q r t → z ≡ pair_of kind cs n k p q t
    unfolding pair_of
    by_basis h e = by_kind Basis h (e ∙ ap (λ (u : Rgba). basis_pair u p q r t) left ∙ ap (λ (u : Rgba). basis_pair (left_of cs k p.colour q.colour) p q u t) right)

    pub by_catmull : kind ≡ CatmullRom → z ≡ catmull_pair l p q r t → z ≡ pair_of kind cs n k p q t
    unfolding pair_of
    by_catmull h e = by_kind CatmullRom h (e ∙ ap (λ (u : Rgba). catmull_pair u p q r t) left ∙ ap (λ (u : Rgba). catmull_pair (left_of cs k p.colour q.colour) p q u t) right)

-- ---- the pair that was read, and the place
module _ (kind : Kind) (ps cs : List Float) (t : Float) {z : Rgba} where
  pub by_pair : (k : ℕ) {i : ℕ} {p q : Stop} → i ≡ k - 1 → p ≡ stop_at ps cs i → q ≡ stop_at ps cs k → z ≡ pair_of kind cs (length ps) k p q t → z ≡ between kind ps cs k t
  unfolding between
  by_pair k {i} {p} {q} l a b e =
      e
      ∙ ap (λ (u : Stop). pair_of kind cs (length ps) k u q t) (a ∙ ap (λ (j : ℕ). stop_at ps cs j) l)
      ∙ ap (λ (u : Stop). pair_of kind cs (length ps) k (stop_at ps cs (k - 1)) u t) b

  pub by_place : {w : Place} (v : Place) → w ≡ v → z ≡ colour_in kind ps cs t v → z ≡ colour_in kind ps cs t w
  by_place v h e = e ∙ ap (λ (u : Place). colour_in kind ps cs t u) (sym h)
