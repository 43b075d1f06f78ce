-- Drawn pairs: with its neighbours in hand a pair is drawn as it is alone. Assumes nothing.
use mathlib.Core.Path.{◌≡◌, refl, sym, ap, ap₂, ◌∙◌, subst}
use mathlib.Core.Bool.{Bool, true, false, true≢false, cond}
use mathlib.Core.List.{List}
use Prim.Native.Nat.{ℕ, ◌+◌, ◌-◌, ◌≤◌, ◌<◌}
use native.Mathlib.Omega.{arith}
use borrow.Author.Tests.{ltb-true, lt-ltb, eqb-true, ne_eqb}
use lib.Dec.{ltb, eqb}
use lib.Ieee.{Float}
use Rattle.blend.specs.Chords.{chords_of, segment_drawn}
use Rattle.blend.specs.declared.Rgba.{Rgba}
use Rattle.blend.proofs.Curves.{drawn_by_own}
use Rattle.stops.specs.Near.{segment_for}
use Rattle.stops.specs.Pair.{left_of, right_of}
use Rattle.stops.specs.Stops.{colour_at}
use Rattle.sampling.specs.Segments.{Drawn, drawn_of, curve_of, chords_at, drawn_for, follows, drawn_between, redrawn}

-- ---- what the functions give
pub between_is : (cs : List Float) (n i : ℕ) (s : Drawn) (j : ℕ) (u : Drawn) (k : ℕ) {behind ahead : Bool} {m : ℕ} {p q left right before within after : Rgba} {curve r : List (List Float)}
    → behind ≡ follows n i k
    → ahead ≡ follows n k j
    → m ≡ k - 1
    → p ≡ colour_at cs m
    → q ≡ colour_at cs k
    → left ≡ left_of cs k p q
    → right ≡ right_of cs n k p q
    → before ≡ cond behind (chords_at s 5) (chords_of left p)
    → within ≡ cond behind (chords_at s 6) (cond ahead (chords_at u 4) (chords_of p q))
    → after ≡ cond ahead (chords_at u 5) (chords_of q right)
    → curve ≡ segment_drawn left p q right before within after
    → r ≡ drawn_of curve before within after
    → r ≡ drawn_between cs n i s j u k
unfolding drawn_between
between_is cs n i s j u k b_is a_is m_is p_is q_is left_is right_is before_is within_is after_is curve_is r_is =
    rw (r_is, curve_is, after_is, within_is, before_is, right_is, left_is, q_is, p_is, m_is, a_is, b_is)

-- a segment is four rows, and its chords leave it whole
whole : (p0 p1 p2 p3 before within after : Rgba) → curve_of (drawn_of (segment_drawn p0 p1 p2 p3 before within after) before within after) ≡ segment_drawn p0 p1 p2 p3 before within after
unfolding segment_drawn
whole p0 p1 p2 p3 before within after = refl

-- ---- with the neighbours' own chords
-- what following means
follows_is : (n i k : ℕ) → follows n i k ≡ true → (1 ≤ i) × ((k ≡ i + 1) × (k < n))
unfolding follows
follows_is n i k h = go (ltb 0 i) (ltb k n) refl refl h
  where
    go : (a b : Bool) → ltb 0 i ≡ a → ltb k n ≡ b → cond a (cond b (eqb (k - i) 1) false) false ≡ true → (1 ≤ i) × ((k ≡ i + 1) × (k < n))
    go true true d e f =
        let one : k - i ≡ 1 = eqb-true (k - i) 1 f in
        let some : 0 < i = ltb-true 0 i d in
        (omega arith, (omega arith, ltb-true k n e))
    go true false d e f = absurd (true≢false (sym f))
    go false b d e f = absurd (true≢false (sym f))

module _ (cs : List Float) (n : ℕ) where
  -- s is pair k, drawn, where there is such a pair
  abbrev Has : ℕ → Drawn → Type 0
  Has k s = 1 ≤ k → s ≡ drawn_for cs n k

  left_next : (i : ℕ) (p q : Rgba) → 1 ≤ i → left_of cs (i + 1) p q ≡ colour_at cs (i - 1)
  unfolding left_of
  left_next i p q some =
      let two : i + 1 - 2 ≡ i - 1 = omega arith in
      simp (lt-ltb 1 (i + 1) (omega arith), two)

  right_next : (i : ℕ) (p q : Rgba) → i + 1 < n → right_of cs n i p q ≡ colour_at cs (i + 1)
  unfolding right_of
  right_next i p q inside = simp (lt-ltb (i + 1) n inside)

  -- the chords of a drawn pair
  drawn_before : (k : ℕ) → chords_at (drawn_for cs n k) 4 ≡ chords_of (left_of cs k (colour_at cs (k - 1)) (colour_at cs k)) (colour_at cs (k - 1))
  unfolding drawn_for
  drawn_before k = refl

  drawn_within : (k : ℕ) → chords_at (drawn_for cs n k) 5 ≡ chords_of (colour_at cs (k - 1)) (colour_at cs k)
  unfolding drawn_for
  drawn_within k = refl

  drawn_after : (k : ℕ) → chords_at (drawn_for cs n k) 6 ≡ chords_of (colour_at cs k) (right_of cs n k (colour_at cs (k - 1)) (colour_at cs k))
  unfolding drawn_for
  drawn_after k = refl

  -- the pair i and the one after it share the chords between them
  module _ (i : ℕ) (some : 1 ≤ i) (p q : Rgba) where
    shared_behind : chords_of (colour_at cs (i - 1)) (colour_at cs i) ≡ chords_of (left_of cs (i + 1) p q) (colour_at cs (i + 1 - 1))
    shared_behind =
        let back : i + 1 - 1 ≡ i = omega arith in
        ap₂ chords_of (sym (left_next i p q some)) (ap (colour_at cs) (sym back))

    shared_ahead : i + 1 < n → chords_of (colour_at cs i) (right_of cs n i p q) ≡ chords_of (colour_at cs (i + 1 - 1)) (colour_at cs (i + 1))
    shared_ahead inside =
        let back : i + 1 - 1 ≡ i = omega arith in
        ap₂ chords_of (ap (colour_at cs) (sym back)) (right_next i p q inside)

  module _ (i : ℕ) (s : Drawn) (j : ℕ) (u : Drawn) (k : ℕ) (some : 1 ≤ k) (Has_left : Has i s) (Has_right : Has j u) where
    abbrev p : Rgba
    p = colour_at cs (k - 1)

    abbrev q : Rgba
    q = colour_at cs k

    abbrev left : Rgba
    left = left_of cs k p q

    abbrev right : Rgba
    right = right_of cs n k p q

    behind_before : follows n i k ≡ true → chords_at s 5 ≡ chords_of left p
    behind_before h =
        let f = follows_is n i k h in
        ap (λ (x : Drawn). chords_at x 5) (Has_left f.0)
        ∙ drawn_within i
        ∙ shared_behind i f.0 p q
        ∙ ap (λ (x : ℕ). chords_of (left_of cs x p q) (colour_at cs (x - 1))) (sym f.1.0)

    behind_within : follows n i k ≡ true → chords_at s 6 ≡ chords_of p q
    behind_within h =
        let f = follows_is n i k h in
        let inside : i + 1 < n = omega (arith, f.1.0, f.1.1) in
        ap (λ (x : Drawn). chords_at x 6) (Has_left f.0)
        ∙ drawn_after i
        ∙ shared_ahead i f.0 (colour_at cs (i - 1)) (colour_at cs i) inside
        ∙ ap (λ (x : ℕ). chords_of (colour_at cs (x - 1)) (colour_at cs x)) (sym f.1.0)

    ahead_within : follows n k j ≡ true → chords_at u 4 ≡ chords_of p q
    ahead_within h =
        let f = follows_is n k j h in
        ap (λ (x : Drawn). chords_at x 4) (Has_right (omega (arith, f.1.0)) ∙ ap (drawn_for cs n) f.1.0)
        ∙ drawn_before (k + 1)
        ∙ sym (shared_behind k some (colour_at cs (k + 1 - 1)) (colour_at cs (k + 1)))

    ahead_after : follows n k j ≡ true → chords_at u 5 ≡ chords_of q right
    ahead_after h =
        let f = follows_is n k j h in
        ap (λ (x : Drawn). chords_at x 5) (Has_right (omega (arith, f.1.0)) ∙ ap (drawn_for cs n) f.1.0)
        ∙ drawn_within (k + 1)
        ∙ sym (shared_ahead k some p q (omega (arith, f.1.0, f.1.1)))

    either : (b : Bool) {x y : Rgba} → (b ≡ true → x ≡ y) → cond b x y ≡ y
    either true h = h refl
    either false h = refl

    within_own : (a b : Bool) {x y z : Rgba} → (a ≡ true → x ≡ z) → (b ≡ true → y ≡ z) → cond a x (cond b y z) ≡ z
    within_own true b h g = h refl
    within_own false b h g = either b g

    between_own : drawn_between cs n i s j u k ≡ drawn_for cs n k
    unfolding drawn_between drawn_for
    between_own =
        rw (
          either (follows n i k) behind_before,
          within_own (follows n i k) (follows n k j) behind_within ahead_within,
          either (follows n k j) ahead_after,
        )

  pub redrawn_own : (i : ℕ) (s : Drawn) (j : ℕ) (u : Drawn) (k : ℕ) → Has i s → Has j u → Has k (redrawn cs n i s j u k)
  unfolding redrawn
  redrawn_own i s j u k Has_left Has_right some =
      simp (ne_eqb k 0 (λ z. omega (arith, some, z))) (go (eqb k i) (eqb k j) refl refl)
    where
      go : (a b : Bool) → eqb k i ≡ a → eqb k j ≡ b → cond a s (cond b u (drawn_between cs n i s j u k)) ≡ drawn_for cs n k
      go true b d e =
          let h = eqb-true k i d in
          Has_left (subst (λ (x : ℕ). 1 ≤ x) h some) ∙ ap (drawn_for cs n) (sym h)
      go false true d e =
          let h = eqb-true k j e in
          Has_right (subst (λ (x : ℕ). 1 ≤ x) h some) ∙ ap (drawn_for cs n) (sym h)
      go false false d e = between_own i s j u k some Has_left Has_right

  -- ---- the segment of a drawn pair is its pair's
  pub curve_own : (k : ℕ) → curve_of (drawn_for cs n k) ≡ segment_for cs n k
  unfolding drawn_for segment_for
  curve_own k =
      let p = colour_at cs (k - 1) in
      let q = colour_at cs k in
      let left = left_of cs k p q in
      let right = right_of cs n k p q in
      whole left p q right (chords_of left p) (chords_of p q) (chords_of q right) ∙ drawn_by_own left p q right refl refl refl
