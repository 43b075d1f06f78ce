-- How many points there are: no more than the record has and three for each position. Assumes nothing.
use mathlib.Core.Path.{◌≡◌, refl, ap}
use mathlib.Core.Bool.{Bool, true, false, cond}
use mathlib.Core.List.{List, [], ◌∷◌}
use Prim.Native.Nat.{ℕ, zero, suc, ◌+◌, ◌*◌, ◌≤◌}
use native.Mathlib.Omega.{arith}
use lib.ListN.{length}
use lib.Ieee.{Float, lt}
use Rattle.float.specs.Number.{above_of, below_of}
use Rattle.weighed.specs.Points.{Site, beside_mark, lent_mark, sites_by, before, joined_with, own_of, inside, merged}

pick : (P : List Site → Type 0) (b : Bool) (x y : List Site) → P x → P y → P (cond b x y)
pick P true x y p q = p
pick P false x y p q = q

pub by_length : (f : Float → Float) (m : ℕ) (ps : List Float) → length (sites_by f m ps) ≡ length ps
unfolding sites_by
by_length f m [] = refl
by_length f m (p ∷ ps) = ap suc (by_length f m ps)

before-length : (x : Site) (f : List Site → List Site) (k : ℕ) → ((ys : List Site) → length (f ys) ≡ k + length ys) → (ys : List Site) → length (before x f ys) ≡ suc k + length ys
unfolding before
before-length x f k h [] = omega (arith, h [])
before-length x f k h (y ∷ ys) =
    pick (λ l. length l ≡ suc k + suc (length ys)) (lt x.t y.t) (x ∷ f (y ∷ ys)) (y ∷ before x f ys) (omega (arith, h (y ∷ ys))) (omega (arith, before-length x f k h ys))

joined_length : (xs ys : List Site) → length (joined_with xs ys) ≡ length xs + length ys
unfolding joined_with
joined_length [] ys = omega arith
joined_length (x ∷ xs) ys = before-length x (joined_with xs) (length xs) (joined_length xs) ys

pub own_length : (ps : List Float) → length (own_of ps) ≡ 3 * length ps
unfolding own_of
own_length ps =
    let b = sites_by below_of beside_mark ps in
    let a = sites_by above_of beside_mark ps in
    let l = sites_by (λ p. p) lent_mark ps in
    omega (arith, joined_length (joined_with b a) l, joined_length b a, by_length below_of beside_mark ps, by_length above_of beside_mark ps, by_length (λ p. p) lent_mark ps)

pub merged-length : (max : Float) (n : ℕ) (last : Float) (ts : List Float) (os : List Site) → length (merged max n last ts os) ≤ n
unfolding merged
merged-length max zero last ts os = omega arith
merged-length max (suc n) last [] [] = omega arith
merged-length max (suc n) last (t ∷ ts) [] =
    pick (λ l. length l ≤ suc n) (inside max last t) _ _ (omega (arith, merged-length max n t ts [])) (omega (arith, merged-length max n last ts []))
merged-length max (suc n) last [] (o ∷ os) =
    pick (λ l. length l ≤ suc n) (inside max last o.t) _ _ (omega (arith, merged-length max n o.t [] os)) (omega (arith, merged-length max n last [] os))
merged-length max (suc n) last (t ∷ ts) (o ∷ os) =
    pick (λ l. length l ≤ suc n) (inside max last t) _ _
    (pick (λ l. length l ≤ suc n) (inside max last o.t) _ _
    (pick (λ l. length l ≤ suc n) (lt t o.t) _ _ (omega (arith, merged-length max n t ts (o ∷ os))) (omega (arith, merged-length max n o.t (t ∷ ts) os)))
    (omega (arith, merged-length max n last (t ∷ ts) os)))
    (omega (arith, merged-length max n last ts (o ∷ os)))
