-- Outside the stretch of a change of the colour of stop k the place of t does not read stop k. It is said over the reach, so it holds of every kind of stops. Assumes nothing.
use mathlib.Core.Path.{◌≡◌, refl, sym, ◌∙◌, subst}
use mathlib.Core.Bool.{Bool, true, false, cond, ◌||◌, true≢false}
use mathlib.Core.List.{List}
use mathlib.Core.Logic.{◌⊎◌, inl, inr}
use Prim.Native.Nat.{ℕ, suc, ◌+◌, ◌-◌, ◌≤◌, ◌<◌}
use native.Mathlib.Decide.{dec_le}
use native.Mathlib.Nat.{lt_of_not-le}
use native.Mathlib.Omega.{arith}
use borrow.Author.Tests.{not-true}
use lib.Dec.{T, leb, ltb, leb→le, ltb→lt}
use lib.ListN.{length}
use lib.Ieee.{Float, nan, inf, le, lt, is_nan}
use lib.Ieee.Fits.{and_l, and_r}
use lib.Ieee.Bits.{is_true}
use Rattle.float.proofs.Order as order
use Rattle.stops.proofs.Choice.{first_reaches}
use Rattle.stops.proofs.Reading.{past_end}
use Rattle.stops.proofs.Valid.{first_le}
use Rattle.stops.specs.Stops.{pos_at}
use Rattle.stops.specs.Place.{Rising, first_at, place_of}
use Rattle.stops.specs.declared.Kind.{Kind}
use Rattle.stops.specs.declared.Kind.TheVariants.{Linear, Smoothstep, Sharp, Basis, CatmullRom, Gimp, GimpSaved}
use Rattle.stops.specs.declared.Place.{Place}
use Rattle.stops.specs.declared.Place.TheVariants.{End, Nowhere, Between}
use Rattle.refresh.specs.reach.Stretch.{reach_of, left_end, own_end, colour_stretch, before_of, after_of, outside_of}

-- ---- the stops that a place does not read, at a reach of so many pairs
abbrev pub Unread : ℕ → ℕ → Place → Type 0
Unread reach k (End i) = i ≡ k → ⊥
Unread reach k Nowhere = Unit
Unread reach k (Between j) = (k + reach < j) ⊎ (j + reach ≤ k)

pub reach_some : (kind : Kind) → 1 ≤ reach_of kind
reach_some Linear = omega arith
reach_some Smoothstep = omega arith
reach_some Sharp = omega arith
reach_some Basis = omega arith
reach_some CatmullRom = omega arith
reach_some Gimp = omega arith
reach_some GimpSaved = omega arith

-- ---- where t is found
pub past_all : (t : Float) (ps : List Float) (j : ℕ) → j ≤ length ps → ((i : ℕ) → i < j → le t (pos_at ps i) ≡ false) → j ≤ first_at t ps
past_all t ps j l h = go (dec_le j (first_at t ps))
  where
    go : Dec (j ≤ first_at t ps) → j ≤ first_at t ps
    go (yes e) = e
    go (no f) =
        let g : first_at t ps < j = lt_of_not-le f in
        absurd (true≢false (sym (first_reaches t ps (omega arith)) ∙ h (first_at t ps) g))

module _ (ps : List Float) (t : Float) where
  place_by : (P : Place → Type 0) → (T (le t (pos_at ps 0)) → P (End 0)) → (T (le (pos_at ps (length ps - 1)) t) → P (End (length ps - 1))) → P Nowhere → P (Between (first_at t ps)) → P (place_of ps t)
  unfolding place_of
  place_by P first last none pair = go (le t (pos_at ps 0)) (le (pos_at ps (length ps - 1)) t) (is_nan t) first last
    where
      go : (a b c : Bool) → (T a → P (End 0)) → (T b → P (End (length ps - 1))) → P (cond a (End 0) (cond b (End (length ps - 1)) (cond c Nowhere (Between (first_at t ps)))))
      go true b c first last = first tt
      go false true c first last = last tt
      go false false true first last = none
      go false false false first last = pair

pub lt_not_le : (x y : Float) → T (lt x y) → le y x ≡ false
lt_not_le x y h =
    let l = order.lt→le x y h in
    not-true (le y x) (sym (order.lt_is x y (order.no_nan_l x y l) (order.no_nan_r x y l)) ∙ is_true (lt x y) h)

never : (x : Float) → T (lt x x) → ⊥
never x h = subst T (order.lt_irrefl x) h

pub or_split : (a b : Bool) → (a || b) ≡ true → T a ⊎ T b
or_split true b e = inl tt
or_split false b e = inr (subst T (sym e) tt)

-- nothing is at most not-a-number
le-none : (t : Float) → T (le t nan) → ⊥
le-none t h = true≢false (sym (is_true (is_nan nan) nan_is) ∙ order.no_nan_r t nan h)
  where
    nan_is : T (is_nan nan)
    nan_is = unfold is_nan in tt

lt_none : (t : Float) → T (lt nan t) → ⊥
lt_none t h = true≢false (sym (is_true (is_nan nan) nan_is) ∙ order.no_nan_l nan t (order.lt→le nan t h))
  where
    nan_is : T (is_nan nan)
    nan_is = unfold is_nan in tt

left_there : (reach : ℕ) (ps : List Float) (k : ℕ) (t : Float) → T (le t (left_end reach ps k)) → (reach ≤ k) × T (le t (pos_at ps (k - reach)))
unfolding left_end
left_there reach ps k t h = go (leb reach k) refl h
  where
    go : (b : Bool) → leb reach k ≡ b → T (le t (cond b (pos_at ps (k - reach)) nan)) → (reach ≤ k) × T (le t (pos_at ps (k - reach)))
    go true e l = (leb→le reach k (subst T (sym e) tt), l)
    go false e l = absurd (le-none t l)

own_there : (ps : List Float) (k : ℕ) (t : Float) → T (lt t (own_end ps k)) → (k + 1 < length ps) ⊎ T (lt t (pos_at ps k))
unfolding own_end
own_there ps k t h = go (ltb (k + 1) (length ps)) refl h
  where
    go : (b : Bool) → ltb (k + 1) (length ps) ≡ b → T (lt t (cond b (inf false) (pos_at ps k))) → (k + 1 < length ps) ⊎ T (lt t (pos_at ps k))
    go true e l = inl (ltb→lt (k + 1) (length ps) (subst T (sym e) tt))
    go false e l = inr l

-- outside the stretch the place of t does not read stop k
module _ (reach : ℕ) (some : 1 ≤ reach) (ps : List Float) (rising : Rising ps) (k : ℕ) (within : k < length ps) (t : Float) where
  before_unread : T (before_of (colour_stretch reach ps k) t) → Unread reach k (place_of ps t)
  unfolding before_of colour_stretch
  before_unread h =
      let a = le t (left_end reach ps k) in
      let b = lt t (own_end ps k) in
      let left = left_there reach ps k t (and_l a b h) in
      let far : reach ≤ k = left.0 in
      place_by ps t (Unread reach k)
      (λ z e. omega arith)
      (λ z e. at_last (length ps - 1) e (omega arith) z (own_there ps k t (and_r a b h)))
      tt
      (inr (omega (arith, first_le t ps (k - reach) (omega arith) (is_true (le t (pos_at ps (k - reach))) left.1))))
    where
      at_last : (l : ℕ) → l ≡ k → length ps ≡ l + 1 → T (le (pos_at ps l) t) → (k + 1 < length ps) ⊎ T (lt t (pos_at ps k)) → ⊥
      at_last l e n z (inl s) = omega arith
      at_last l e n z (inr s) = never (pos_at ps k) (order.le_lt_trans (pos_at ps k) t (pos_at ps k) (subst (λ (i : ℕ). T (le (pos_at ps i) t)) e z) s)

  after_unread : T (after_of (colour_stretch reach ps k) t) → Unread reach k (place_of ps t)
  unfolding after_of colour_stretch
  after_unread h = go (dec_le (length ps) (k + reach))
    where
      q : Float
      q = pos_at ps (k + reach)

      go : Dec (length ps ≤ k + reach) → Unread reach k (place_of ps t)
      go (yes n) = absurd (lt_none t (subst (λ (p : Float). T (lt p t)) (sym (past_end ps (k + reach) n)) h))
      go (no n) =
          let near : k + reach < length ps = lt_of_not-le n in
          place_by ps t (Unread reach k)
          (λ z e. never q (order.lt-le_trans q t q h (order.le_trans t (pos_at ps 0) q z (rising 0 (k + reach) (omega arith) near))))
          (λ z e. omega arith)
          tt
          (inl (past_all t ps (suc (k + reach)) near (λ i l. lt_not_le (pos_at ps i) t (order.le_lt_trans (pos_at ps i) q t (rising i (k + reach) (omega arith) near) h))))

  pub outside_unread : outside_of (colour_stretch reach ps k) t ≡ true → Unread reach k (place_of ps t)
  unfolding outside_of
  outside_unread h =
      let s = colour_stretch reach ps k in
      elim (or_split (before_of s t) (after_of s t) h) [ inl b ↦ before_unread b | inr a ↦ after_unread a ]
