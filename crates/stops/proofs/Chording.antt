-- Filling a table of Catmull-Rom segments, each pair handing its chords to the next. Assumes nothing.
use mathlib.Core.Path.{◌≡◌, sym, ap, ap₂, ◌∙◌}
use mathlib.Core.Bool.{cond}
use mathlib.Core.List.{List}
use Prim.Native.Nat.{ℕ, ◌+◌, ◌-◌, ◌≤◌, ◌<◌}
use native.Mathlib.Decide.{dec_le}
use native.Mathlib.Nat.{lt_of_not-le}
use native.Mathlib.Omega.{arith}
use borrow.Author.Tests.{lt-ltb, le-ltb}
use lib.Dec.{ltb}
use lib.Ieee.{Float}
use Rattle.blend.specs.CatmullRom.{segment_of}
use Rattle.blend.specs.Chords.{chords_of, segment_drawn}
use Rattle.blend.specs.declared.Rgba.{Rgba}
use Rattle.blend.proofs.Curves.{drawn_by_own}
use Rattle.stops.specs.Stops.{colour_at}
use Rattle.stops.specs.Pair.{left_of, right_of}
use Rattle.stops.specs.Segments.{chords_after, Chords}

module _ (cs : List Float) where
  -- the first pair of a table, whose pairs are counted from `base` on
  pub chords_first : (base : ℕ) {j : ℕ} {x y : Rgba} → j ≡ base - 1 → x ≡ chords_of (colour_at cs (j - 1)) (colour_at cs j) → y ≡ chords_of (colour_at cs (base - 1)) (colour_at cs base) → Chords cs (base + 0) x y
  chords_first base {j} e x y =
      let none : base + 0 ≡ base = omega arith in
      let two : j - 1 ≡ base - 2 = omega arith in
      rw none (record { behind = λ h. x ∙ rw (two, e); own = y })

  -- the chords after a pair are the next one's own, where there is a next one
  chords_next : (n k : ℕ) {last within after : Rgba} → Chords cs k last within → after ≡ chords_after cs n k → k + 1 < n → Chords cs (k + 1) within after
  unfolding chords_after right_of
  chords_next n k {last} {within} {after} h a l =
      let same : k + 1 - 1 ≡ k = omega arith in
      record {
        behind = λ b. let two : k + 1 - 2 ≡ k - 1 = omega arith in rw (two, same) h.own;
        own = rw same (a ∙ simp (lt-ltb (k + 1) n l));
      }

  -- the same of the pairs from `base` on
  pub chords_further : (n base i : ℕ) {last within after : Rgba} → Chords cs (base + i) last within → after ≡ chords_after cs n (base + i) → i + 1 < n - base → Chords cs (base + (i + 1)) within after
  chords_further n base i h a l =
      let e : base + (i + 1) ≡ base + i + 1 = omega arith in
      rw e (chords_next n (base + i) h a (omega (arith, l)))

  -- the chords before a pair
  pub chords_left : (k : ℕ) (q : Rgba) {i : ℕ} {p l b last within : Rgba} → i ≡ k - 1 → p ≡ colour_at cs i → l ≡ left_of cs k p q → b ≡ cond (ltb 1 k) last (chords_of l p) → Chords cs k last within → b ≡ chords_of l p
  unfolding left_of
  chords_left k q {i} {p} {l} {b} {last} e p_is l_is b_is h = go (dec_le k 1)
    where
      go : Dec (k ≤ 1) → b ≡ chords_of l p
      go (yes few) = b_is ∙ simp (le-ltb 1 k few)
      go (no more) =
          let some : 1 < k = lt_of_not-le more in
          let left : l ≡ colour_at cs (k - 2) = l_is ∙ simp (lt-ltb 1 k some) in
          let own : p ≡ colour_at cs (k - 1) = p_is ∙ ap (colour_at cs) e in
          let here : b ≡ last = b_is ∙ simp (lt-ltb 1 k some) in
          here ∙ h.behind some ∙ ap₂ chords_of (sym left) (sym own)

  -- the chords after a pair, part by part
  pub chords_right : (n k : ℕ) {i : ℕ} {p q r z : Rgba} → i ≡ k - 1 → p ≡ colour_at cs i → q ≡ colour_at cs k → r ≡ right_of cs n k p q → z ≡ chords_of q r → z ≡ chords_after cs n k
  unfolding chords_after
  chords_right n k e p_is q_is r_is z =
      z ∙ ap₂ chords_of q_is (r_is ∙ ap₂ (right_of cs n k) (p_is ∙ ap (colour_at cs) e) q_is)

  -- a segment drawn with what its pair was handed
  pub drawn_next : (n k : ℕ) {i : ℕ} {p q l r b last within after : Rgba} {s : List (List Float)}
      → i ≡ k - 1
      → p ≡ colour_at cs i
      → q ≡ colour_at cs k
      → l ≡ left_of cs k p q
      → r ≡ right_of cs n k p q
      → b ≡ cond (ltb 1 k) last (chords_of l p)
      → Chords cs k last within
      → after ≡ chords_after cs n k
      → s ≡ segment_drawn l p q r b within after
      → s ≡ segment_of l p q r
  unfolding chords_after
  drawn_next n k {i} {p} {q} {l} {r} e p_is q_is l_is r_is b_is h a s =
      let own : p ≡ colour_at cs (k - 1) = p_is ∙ ap (colour_at cs) e in
      let right : r ≡ right_of cs n k (colour_at cs (k - 1)) (colour_at cs k) = r_is ∙ ap₂ (right_of cs n k) own q_is in
      s
      ∙ drawn_by_own l p q r (chords_left k q e p_is l_is b_is h) (h.own ∙ ap₂ chords_of (sym own) (sym q_is)) (a ∙ ap₂ chords_of (sym q_is) (sym right))
