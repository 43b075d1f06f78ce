-- Laws of the midpoints kept and the stretches tried. Assumes nothing.
use mathlib.Core.Path.{◌≡◌, refl, sym, ap, ◌∙◌}
use mathlib.Core.Bool.{Bool, true, false, cond}
use mathlib.Core.List.{List, [], ◌∷◌, ◌++◌}
use Prim.Native.Nat.{ℕ, zero, suc, ◌+◌, ◌-◌, ◌^◌, ◌≤◌, ◌<◌}
use native.Mathlib.Nat.{two-pow-succ}
use native.Mathlib.Numerals.{add-one, sub-one}
use native.Mathlib.Omega.{arith}
use lib.ListN.{length, set, length-append}
use lib.Seq.{sets}
use lib.Ieee.{Float}
use Rattle.float.specs.F32.{half}
use Rattle.blend.specs.Blend.{linear}
use Rattle.blend.specs.declared.Rgba.{Rgba}
use Rattle.sampling.specs.inner.Steps.{HalvesTo}
use Rattle.sampling.specs.declared.Halved.{Halved}
use Rattle.sampling.specs.Midpoints.{Gradient, Far, mid_of, keeps, halves, tries}
use Rattle.slices.proofs.Stores.{sets-append}

-- the test on the colours in hand, of the ends and of the midpoint t, is the definition's
pub keeps_is : (g : Gradient) (far : Far) {t0 t1 t : Float} {a b c foretold : Rgba} {r yes : Bool} → a ≡ g t0 → b ≡ g t1 → t ≡ mid_of t0 t1 → c ≡ g t
    → foretold ≡ linear a b half → r ≡ far c foretold → r ≡ yes → keeps g far t0 t1 ≡ yes
unfolding keeps
keeps_is g far left right middle own e f h = rw (← left, ← right, ← middle, ← own, ← e, ← f) h

module _ (g : Gradient) (far : Far) (t0 t1 : Float) where
  -- the midpoint m is kept
  pub halves_yes : (n : ℕ) (m : Float) → (n ≡ 0 → ⊥) → m ≡ mid_of t0 t1 → keeps g far t0 t1 ≡ true
      → halves g far n t0 t1 ≡ halves g far (n - 1) t0 m ++ m ∷ halves g far (n - 1) m t1
  unfolding halves
  halves_yes zero m ne e k = absurd (ne refl)
  halves_yes (suc n) m ne e k = rw e (simp (k, sub-one))

  pub halves_no : (n : ℕ) → keeps g far t0 t1 ≡ false → halves g far n t0 t1 ≡ []
  unfolding halves
  halves_no zero k = refl
  halves_no (suc n) k = simp k

  pub tries_yes : (n : ℕ) (m : Float) → (n ≡ 0 → ⊥) → m ≡ mid_of t0 t1 → keeps g far t0 t1 ≡ true
      → tries g far n t0 t1 ≡ tries g far (n - 1) t0 m + tries g far (n - 1) m t1 + 1
  unfolding tries
  tries_yes zero m ne e k = absurd (ne refl)
  tries_yes (suc n) m ne e k = rw e (simp (k, sub-one) (omega arith))

  pub tries_no : (n : ℕ) → (n ≡ 0 → ⊥) → keeps g far t0 t1 ≡ false → tries g far n t0 t1 ≡ 1
  unfolding tries
  tries_no zero ne k = absurd (ne refl)
  tries_no (suc n) ne k = simp k

short_if : (b : Bool) (xs ys : List Float) (m : Float) (n : ℕ) → length xs + 1 ≤ 2 ^ n → length ys + 1 ≤ 2 ^ n
    → length (cond b (xs ++ m ∷ ys) []) + 1 ≤ 2 ^ suc n
short_if true xs ys m n p q = omega (arith, two-pow-succ n, length-append xs (m ∷ ys))
short_if false xs ys m n p q = omega (arith, two-pow-succ n)

-- at most 2 ^ n - 1 midpoints
pub short : (g : Gradient) (far : Far) (n : ℕ) (t0 t1 : Float) → length (halves g far n t0 t1) + 1 ≤ 2 ^ n
unfolding halves
short g far zero t0 t1 = omega arith
short g far (suc n) t0 t1 =
    short_if (keeps g far t0 t1) (halves g far n t0 (mid_of t0 t1)) (halves g far n (mid_of t0 t1) t1) (mid_of t0 t1) n (short g far n t0 (mid_of t0 t1)) (short g far n (mid_of t0 t1) t1)

few_if : (b : Bool) (x y n : ℕ) → x + 1 ≤ 2 ^ n → y + 1 ≤ 2 ^ n → 1 + cond b (x + y) 0 + 1 ≤ 2 ^ suc n
few_if true x y n p q = omega (arith, two-pow-succ n)
few_if false x y n p q = omega (arith, two-pow-succ n)

-- and at most as many tries
pub few : (g : Gradient) (far : Far) (n : ℕ) (t0 t1 : Float) → tries g far n t0 t1 + 1 ≤ 2 ^ n
unfolding tries
few g far zero t0 t1 = omega arith
few g far (suc n) t0 t1 =
    few_if (keeps g far t0 t1) _ _ n (few g far n t0 (mid_of t0 t1)) (few g far n (mid_of t0 t1) t1)

-- the left half's points, the midpoint and the right half's points, stored one after the other
pub written : (l r1 r2 xs ys all : List Float) (at k : ℕ) (m : Float)
    → k ≡ at + length xs → r1 ≡ sets l at xs → r2 ≡ sets (set r1 k m) (k + 1) ys → all ≡ xs ++ m ∷ ys
    → r2 ≡ sets l at all
written l r1 r2 xs ys all at k m p q r e = r ∙ rw (q, p, add-one, e, sets-append)

pub pow_left : (n : ℕ) → (n ≡ 0 → ⊥) → 2 ^ n ≡ 2 ^ (n - 1) + 2 ^ (n - 1)
pow_left zero ne = absurd (ne refl)
pow_left (suc n) ne = rw sub-one (two-pow-succ n)

-- ---- a stretch as it is halved
module _ (g : Gradient) (far : Far) (n at : ℕ) (t0 t1 : Float) (row : List Float) where
  pub not_halved : n ≡ 0 → HalvesTo g far n t0 t1 at row row (record { at = at; tries = 0 })
  unfolding halves tries
  not_halved e = record { next = rw e (omega arith); tried = rw e; written = rw e }

  module _ (ne : n ≡ 0 → ⊥) where
    pub none_kept : keeps g far t0 t1 ≡ false → HalvesTo g far n t0 t1 at row row (record { at = at; tries = 1 })
    none_kept k =
        let e = halves_no g far t0 t1 n k in
        record { next = rw e (omega arith); tried = sym (tries_no g far t0 t1 n ne k); written = rw e }

    -- the left half is done: there is room for the midpoint m and for the right half
    module _ (room : at + 2 ^ n ≤ length row + 1) (m : Float) (row1 : List Float) (a : Halved) (w : HalvesTo g far (n - 1) t0 m at row row1 a) where
      pub middle_fits : a.at < length row
      middle_fits = omega (arith, w.next, short g far (n - 1) t0 m, pow_left n ne, room)

      pub right_fits : a.at + 1 + 2 ^ (n - 1) ≤ length row + 1
      right_fits = omega (arith, w.next, short g far (n - 1) t0 m, pow_left n ne, room)

      -- and the right half
      module _ (row2 : List Float) (b : Halved) (v : HalvesTo g far (n - 1) m t1 (a.at + 1) (set row1 a.at m) row2 b) where
        pub tries_fit : a.tries + b.tries + 1 ≤ length row
        tries_fit = omega (arith, w.tried, v.tried, few g far (n - 1) t0 m, few g far (n - 1) m t1, pow_left n ne, room)

        pub both_halves : m ≡ mid_of t0 t1 → keeps g far t0 t1 ≡ true
            → HalvesTo g far n t0 t1 at row row2 (record { at = b.at; tries = a.tries + b.tries + 1 })
        both_halves e k =
            let xs = halves g far (n - 1) t0 m in
            let ys = halves g far (n - 1) m t1 in
            let all = halves_yes g far t0 t1 n m ne e k in
            record {
              next = omega (arith, w.next, v.next, ap length all, length-append xs (m ∷ ys));
              tried = omega (arith, w.tried, v.tried, tries_yes g far t0 t1 n m ne e k);
              written = written row row1 row2 xs ys (halves g far n t0 t1) at a.at m w.next w.written v.written all;
            }
