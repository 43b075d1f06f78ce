-- Items moved within a list, and items left out and put in there, in place. Assumes nothing.
use mathlib.Core.Path.{◌≡◌, refl, sym, ap, ◌∙◌}
use mathlib.Core.List.{List, [], ◌∷◌, ◌++◌}
use Prim.Native.Nat.{ℕ, zero, suc, ◌+◌, ◌-◌, ◌*◌, ◌≤◌, ◌<◌}
use native.Mathlib.Omega.{arith}
use lib.ListN.{length, set, take, drop, take-append-drop, length-drop}
use lib.Seq.{sets, sets-eq, length-sets, set_comm, set-set, drop-set-lt, take-add, take-take, length-take-le}
use lib.Ieee.{Float}
use Rattle.blend.specs.declared.Rgba.{Rgba}
use Rattle.blend.specs.Channels.{channels_of}
use Rattle.std.specs.List.{copy_within}
use Rattle.slices.proofs.Stores.{sets-append}
use Rattle.refresh.specs.editing.Edited.{changed, spliced}
use Rattle.refresh.proofs.editing.Splices.{changed_splice}

-- ---- stores that do not meet
set-sets : (l : List Float) (i j : ℕ) (x : Float) (ys : List Float) → i < j → sets (set l i x) j ys ≡ set (sets l j ys) i x
set-sets l i j x [] h = refl
set-sets l i j x (y ∷ ys) h = ap (λ (k : List Float). sets k (suc j) ys) (set_comm l i j x y (λ e. absurd (omega arith))) ∙ set-sets (set l j y) i (suc j) x ys (omega arith)

sets_comm : (l : List Float) (i j : ℕ) (xs ys : List Float) → i + length xs ≤ j → sets (sets l i xs) j ys ≡ sets (sets l j ys) i xs
sets_comm l i j [] ys h = refl
sets_comm l i j (x ∷ xs) ys h = sets_comm (set l i x) (suc i) j xs ys (omega arith) ∙ ap (λ (k : List Float). sets k (suc i) xs) (set-sets l i j x ys (omega arith))

drop-sets : (m : ℕ) (l : List Float) (i : ℕ) (xs : List Float) → i + length xs ≤ m → drop m (sets l i xs) ≡ drop m l
drop-sets m l i [] h = refl
drop-sets m l i (x ∷ xs) h = drop-sets m (set l i x) (suc i) xs (omega arith) ∙ drop-set-lt m l i x (omega arith)

-- the same stores twice
pub sets_twice : (l : List Float) (i : ℕ) (xs : List Float) → sets (sets l i xs) i xs ≡ sets l i xs
sets_twice l i [] = refl
sets_twice l i (x ∷ xs) =
    ap (λ (k : List Float). sets k (suc i) xs) (sym (set-sets (set l i x) i (suc i) x xs (omega arith)) ∙ ap (λ (k : List Float). sets k (suc i) xs) (set-set l i x x))
    ∙ sets_twice (set l i x) (suc i) xs

-- what stands at a place already
own : (l : List Float) (i m : ℕ) → i + m ≤ length l → sets l i (take m (drop i l)) ≡ l
own l i m h =
    let e : length (take m (drop i l)) ≡ m = length-take-le m (drop i l) (omega (arith, length-drop i l)) in
    sets-eq (take m (drop i l)) l i (omega (arith, e)) ∙ rw (e, ← take-add i m l) (take-append-drop (i + m) l)

drop-take : (m n : ℕ) (l : List Float) → drop m (take n l) ≡ take (n - m) (drop m l)
drop-take zero n l = let e : n - 0 ≡ n = omega arith in rw e
drop-take (suc m) zero l = let e : 0 - suc m ≡ 0 = omega arith in rw e
drop-take (suc m) (suc n) [] = nothing (suc n - suc m)
  where
    nothing : (k : ℕ) → ◌≡◌ {A = List Float} [] (take k [])
    nothing zero = refl
    nothing (suc k) = refl
drop-take (suc m) (suc n) (x ∷ l) = let e : suc n - suc m ≡ n - m = omega arith in rw e (drop-take m n l)

-- ---- items moved within a list are stores of those that stood there
pub moved : {r : List Float} (l : List Float) (i j at : ℕ) → i ≤ j → j ≤ length l → at + (j - i) ≤ length l → r ≡ copy_within l i j at → r ≡ sets l at (take (j - i) (drop i l))
moved l i j at h k room e =
    let n : length (take (j - i) (drop i l)) ≡ j - i = length-take-le (j - i) (drop i l) (omega (arith, length-drop i l)) in
    e ∙ sym (sets-eq (take (j - i) (drop i l)) l at (omega (arith, n)) ∙ rw n)

-- ---- the first n items of a list, with some left out at a place and others put in
module _ (l : List Float) (n at gone : ℕ) (items : List Float) (there : at + gone ≤ n) (long : n ≤ length l) where
  abbrev rest : List Float
  rest = take (n - (at + gone)) (drop (at + gone) l)

  sets-spliced : sets l 0 (spliced (take n l) at gone items) ≡ sets (sets l at items) (at + length items) rest
  unfolding spliced
  sets-spliced =
      let f : take at (take n l) ≡ take at l = take-take at n l (omega arith) in
      let e : 0 + length (take at l) ≡ at = omega (arith, length-take-le at l (omega arith)) in
      rw (f, drop-take (at + gone) n l)
      (sets-append l 0 (take at l) (items ++ rest) ∙ rw (own l 0 at (omega arith), e) (sets-append l at items rest))

  -- as many put in as left out
  pub replaced : length items ≡ gone → sets l at items ≡ sets l 0 (spliced (take n l) at gone items)
  replaced many =
      let new = sets l at items in
      let d : drop (at + gone) l ≡ drop (at + gone) new = sym (drop-sets (at + gone) l at items (omega arith)) in
      sym (sets-spliced ∙ rw (many, d) (own new (at + gone) (n - (at + gone)) (omega (arith, length-sets l at items))))

-- some put in: what comes after is moved on first
inserted : (l : List Float) (n at : ℕ) (items : List Float) → at ≤ n → n ≤ length l
    → sets (sets l (at + length items) (take (n - at) (drop at l))) at items ≡ sets l 0 (spliced (take n l) at 0 items)
inserted l n at items h k =
    let z : at + 0 ≡ at = omega arith in
    sym (sets-spliced l n at 0 items (omega arith) k ∙ rw z (sets_comm l at (at + length items) items (take (n - at) (drop at l)) (omega arith)))

pub put_in : (l moved is : List Float) (n at : ℕ) (items : List Float) → at ≤ n → n ≤ length l
    → moved ≡ sets l (at + length items) (take (n - at) (drop at l)) → is ≡ sets moved at items → is ≡ sets l 0 (spliced (take n l) at 0 items)
put_in l moved is n at items h k p q = q ∙ ap (λ (x : List Float). sets x at items) p ∙ inserted l n at items h k

-- some left out
pub removed : (l : List Float) (n at gone : ℕ) → at + gone ≤ n → n ≤ length l → sets l at (take (n - (at + gone)) (drop (at + gone) l)) ≡ sets l 0 (spliced (take n l) at gone [])
removed l n at gone h k = let z : at + 0 ≡ at = omega arith in sym (sets-spliced l n at gone [] h k ∙ rw z)

-- a colour changed, and nothing changed
pub recoloured : (l : List Float) (n k : ℕ) (c : Rgba) → 4 * k + 4 ≤ n → n ≤ length l → sets l (4 * k) (channels_of c) ≡ sets l 0 (changed (take n l) k c)
recoloured l n k c h long =
    replaced l n (4 * k) 4 (channels_of c) h long refl ∙ ap (sets l 0) (changed_splice (take n l) k c (omega (arith, length-take-le n l long)))

pub unchanged : (l : List Float) (n : ℕ) → n ≤ length l → l ≡ sets l 0 (take n l)
unchanged l n h = sym (own l 0 n (omega arith))
