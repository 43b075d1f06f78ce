-- A sign may be changed before or after a sum, but for one that is exactly zero, which is +0 both ways; and a sum may be taken in either order. Assumes nothing.
use mathlib.Core.Path.{◌≡◌, refl, sym, ◌∙◌, ap}
use mathlib.Core.Bool.{Bool, true, false, not, cond, ◌&&◌}
use mathlib.Core.Logic.{◌⊎◌, inl, inr}
use Prim.Native.Nat.{ℕ, ◌+◌, ◌-◌, ◌*◌, ◌<◌}
use native.Mathlib.Omega.{arith}
use native.Mathlib.Nat.{add_comm, mul_comm, mul-pos}
use lib.Dec.{ltb}
use lib.IntN.{ℤ, pos}
use lib.Ieee.Fits.{down_pos}
use lib.Ieee.{Float, nan, inf, fin, binary32, up, down, round, sum, add, sub, neg, lt, below}
use borrow.Author.Tests.{ltb-true, ltb-false}
use Rattle.float.specs.F32.{◌⊕◌, ◌⊖◌}
use Rattle.float.proofs.SignedRound.{round-neg}
use Rattle.float.proofs.Finite.{round-zero}

-- ---- signs
pub neg-neg : (x : Float) → neg (neg x) ≡ x
unfolding neg
neg-neg nan = refl
neg-neg (inf true) = refl
neg-neg (inf false) = refl
neg-neg (fin true m e) = refl
neg-neg (fin false m e) = refl

below-neg : (s : Bool) (a : ℕ) (t : Bool) (b : ℕ) → below (not s) a (not t) b ≡ below t b s a
below-neg false a false b = refl
below-neg false a true b = ap (ltb 0) (add_comm a b)
below-neg true a false b = refl
below-neg true a true b = refl

pub lt-neg : (x y : Float) → lt (neg x) (neg y) ≡ lt y x
unfolding lt neg
lt-neg nan nan = refl
lt-neg nan (inf t) = refl
lt-neg nan (fin t n d) = refl
lt-neg (inf s) nan = refl
lt-neg (inf true) (inf true) = refl
lt-neg (inf true) (inf false) = refl
lt-neg (inf false) (inf true) = refl
lt-neg (inf false) (inf false) = refl
lt-neg (inf true) (fin t n d) = refl
lt-neg (inf false) (fin t n d) = refl
lt-neg (fin s m e) nan = refl
lt-neg (fin s m e) (inf true) = refl
lt-neg (fin s m e) (inf false) = refl
lt-neg (fin s m e) (fin t n d) = below-neg s (m * up e * down d) t (n * up d * down e)

-- ---- sums
abbrev pub o : Float
o = fin false 0 (pos 0)

round_flip : (s : Bool) (a c : ℕ) → round binary32 (not s) a c ≡ neg (round binary32 s a c)
round_flip false a c = round-neg binary32 a c
round_flip true a c = sym (neg-neg (round binary32 false a c)) ∙ ap neg (sym (round-neg binary32 a c))

-- x is the mirror of y: negated, or both are +0
abbrev pub Mirror : Float → Float → Type 0
Mirror x y = (x ≡ neg y) ⊎ ((x ≡ o) × (y ≡ o))

abbrev by_order : (s : Bool) (a b c : ℕ) → Bool → Bool → Float
by_order s a b c p q = cond p (round binary32 (not s) (b - a) c) (round binary32 (s && q) (a - b) c)

unlike : (s : Bool) (a b c : ℕ) → 0 < c → Mirror (by_order (not s) a b c (ltb a b) (ltb b a)) (by_order s a b c (ltb a b) (ltb b a))
unlike s a b c C = go (ltb a b) refl (ltb b a) refl s
  where
    go : (p : Bool) → ltb a b ≡ p → (q : Bool) → ltb b a ≡ q → (s : Bool) → Mirror (by_order (not s) a b c p q) (by_order s a b c p q)
    go true e q f s = inl (round_flip (not s) (b - a) c)
    go false e true f false = inl (round_flip false (a - b) c)
    go false e true f true = inl (round_flip true (a - b) c)
    go false e false f s =
        let z : a - b ≡ 0 = let u = ltb-false a b e in let w = ltb-false b a f in omega arith in
        inr (none (not s) z, none s z)
      where
        none : (s : Bool) → a - b ≡ 0 → round binary32 (s && false) (a - b) c ≡ o
        none true z = round-zero false (a - b) c z C
        none false z = round-zero false (a - b) c z C

pub dens : (e d : ℤ) → 0 < down e * down d
dens e d = mul-pos (down_pos e) (down_pos d)

sum_mirror : (s : Bool) (a : ℕ) (t : Bool) (b c : ℕ) → 0 < c → Mirror (sum binary32 (not s) a (not t) b c) (sum binary32 s a t b c)
unfolding sum
sum_mirror true a true b c C = inl (round_flip true (a + b) c)
sum_mirror false a false b c C = inl (round_flip false (a + b) c)
sum_mirror true a false b c C = unlike true a b c C
sum_mirror false a true b c C = unlike false a b c C

pub add_mirror : (x y : Float) → Mirror (neg x ⊕ neg y) (x ⊕ y)
unfolding add neg
add_mirror nan y = inl refl
add_mirror (inf s) nan = inl refl
add_mirror (inf true) (inf true) = inl refl
add_mirror (inf true) (inf false) = inl refl
add_mirror (inf false) (inf true) = inl refl
add_mirror (inf false) (inf false) = inl refl
add_mirror (inf s) (fin t n d) = inl refl
add_mirror (fin s m e) nan = inl refl
add_mirror (fin s m e) (inf t) = inl refl
add_mirror (fin s m e) (fin t n d) = sum_mirror s (m * up e * down d) t (n * up d * down e) (down e * down d) (dens e d)

same_order : (s : Bool) (a b c : ℕ) → by_order s a b c (ltb a b) (ltb b a) ≡ by_order (not s) b a c (ltb b a) (ltb a b)
same_order s a b c = go (ltb a b) refl (ltb b a) refl s
  where
    go : (p : Bool) → ltb a b ≡ p → (q : Bool) → ltb b a ≡ q → (s : Bool) → by_order s a b c p q ≡ by_order (not s) b a c q p
    go true e true f s = absurd (let u = ltb-true a b e in let w = ltb-true b a f in omega arith)
    go true e false f true = refl
    go true e false f false = refl
    go false e true f true = refl
    go false e true f false = refl
    go false e false f s =
        let z : a - b ≡ b - a = let u = ltb-false a b e in let w = ltb-false b a f in omega arith in
        level s z
      where
        level : (s : Bool) → a - b ≡ b - a → round binary32 (s && false) (a - b) c ≡ round binary32 (not s && false) (b - a) c
        level true z = ap (λ (n : ℕ). round binary32 false n c) z
        level false z = ap (λ (n : ℕ). round binary32 false n c) z

sum_swap : (s : Bool) (a : ℕ) (t : Bool) (b c : ℕ) → sum binary32 s a t b c ≡ sum binary32 t b s a c
unfolding sum
sum_swap true a true b c = ap (λ (n : ℕ). round binary32 true n c) (add_comm a b)
sum_swap false a false b c = ap (λ (n : ℕ). round binary32 false n c) (add_comm a b)
sum_swap true a false b c = same_order true a b c
sum_swap false a true b c = same_order false a b c

pub add_swap : (x y : Float) → x ⊕ y ≡ y ⊕ x
unfolding add
add_swap nan nan = refl
add_swap nan (inf t) = refl
add_swap nan (fin t n d) = refl
add_swap (inf s) nan = refl
add_swap (inf true) (inf true) = refl
add_swap (inf true) (inf false) = refl
add_swap (inf false) (inf true) = refl
add_swap (inf false) (inf false) = refl
add_swap (inf s) (fin t n d) = refl
add_swap (fin s m e) nan = refl
add_swap (fin s m e) (inf t) = refl
add_swap (fin s m e) (fin t n d) =
    sum_swap s (m * up e * down d) t (n * up d * down e) (down e * down d)
    ∙ ap (sum binary32 t (n * up d * down e) s (m * up e * down d)) (mul_comm (down e) (down d))

pub sub_mirror : (x y : Float) → neg x ⊖ neg y ≡ y ⊖ x
unfolding sub
sub_mirror x y = ap (add binary32 (neg x)) (neg-neg y) ∙ add_swap (neg x) y
