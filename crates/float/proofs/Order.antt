-- The order of IEEE 754's values: `le` is transitive on all values, an infinity and a NaN among them, and of two that are no NaN `lt` is `le` the other way round, denied.
-- The mixed laws follow from the two. Of two finite values the order is that of signed fractions (`SignedOrder`).
-- Assumes nothing.
use mathlib.Core.Path.{◌≡◌, refl, sym, ap, ◌∙◌, subst}
use mathlib.Core.Logic.{◌⊎◌, inl, inr}
use Prim.Native.Nat.{ℕ, ◌+◌, ◌*◌, ◌≤◌, ◌<◌}
use native.Mathlib.Nat.{eq-zero-or-pos}
use native.Mathlib.Omega.{arith}
use mathlib.Core.Bool.{Bool, true, false, not, ◌&&◌, ◌||◌}
use lib.Dec.{T, ltb, eqb, eqb→eq, T_not, not_T}
use lib.Ieee.{Float, nan, inf, fin, up, down, below, level, lt, eq, le, ne, is_nan}
use lib.Ieee.Fits.{down_pos, and_l, and_r, and_i, eq→eqb}
use lib.Ieee.Bits.{is_true}
use lib.Ieee.Scale.{finite}
use borrow.Author.Tests.{lt-ltb, le-ltb, eq-eqb, ne_eqb, ltb-true, ltb-false, eqb-true, eqb-false, not-false}
use Rattle.float.proofs.SignedOrder.{P_from_le, le_from_P, P_trans, split, or_split, or_l, or_r, same}

-- ---- `le` is transitive
pub le_trans : (x y z : Float) → T (le x y) → T (le y z) → T (le x z)
unfolding le
le_trans nan y z h k = absurd h
le_trans (inf s) nan z h k = absurd (none_or s h)
  where
    none_or : (s : Bool) → T (false || false) → ⊥
    none_or s t = t
le_trans (inf true) (inf t) nan h k = absurd k
le_trans (inf true) (inf t) (inf true) h k = tt
le_trans (inf true) (inf t) (inf false) h k = tt
le_trans (inf true) (inf t) (fin u o f) h k = tt
le_trans (inf true) (fin t n d) nan h k = absurd k
le_trans (inf true) (fin t n d) (inf true) h k = tt
le_trans (inf true) (fin t n d) (inf false) h k = tt
le_trans (inf true) (fin t n d) (fin u o f) h k = tt
le_trans (inf false) (inf true) z h k = absurd h
le_trans (inf false) (inf false) z h k = k
le_trans (inf false) (fin t n d) z h k = absurd h
le_trans (fin s m e) nan z h k = absurd h
le_trans (fin s m e) (inf true) z h k = absurd h
le_trans (fin s m e) (inf false) nan h k = absurd k
le_trans (fin s m e) (inf false) (inf true) h k = absurd k
le_trans (fin s m e) (inf false) (inf false) h k = tt
le_trans (fin s m e) (inf false) (fin u o f) h k = absurd k
le_trans (fin s m e) (fin t n d) nan h k = absurd k
le_trans (fin s m e) (fin t n d) (inf true) h k = absurd k
le_trans (fin s m e) (fin t n d) (inf false) h k = tt
le_trans (fin s m e) (fin t n d) (fin u o f) h k =
    le_from_P s (m * up e * down f) u (o * up f * down e)
    (P_trans s t u (m * up e) (down e) (n * up d) (down d) (o * up f) (down f) (down_pos e) (down_pos d) (down_pos f)
    (P_from_le s (m * up e * down d) t (n * up d * down e) h)
    (P_from_le t (n * up d * down f) u (o * up f * down d) k))

-- ---- of two that are no NaN, `lt` one way is `le` the other way, denied
flip : (a b : ℕ) → ltb a b ≡ not (ltb b a || (eqb b a && true))
flip a b = go (ltb a b) refl
  where
    go : (t : Bool) → ltb a b ≡ t → t ≡ not (ltb b a || (eqb b a && true))
    go true e = let h : a < b = ltb-true a b e in simp (le-ltb b a (omega arith), ne_eqb b a (λ k. omega arith))
    go false e = let h : b ≤ a = ltb-false a b e in elim (split b a h) [ inl u ↦ simp (lt-ltb b a u) | inr u ↦ simp (le-ltb b a (omega arith), eq-eqb b a u) ]

eqb_comm : (a b : ℕ) → eqb a b ≡ eqb b a
eqb_comm a b = go (eqb a b) refl
  where
    go : (t : Bool) → eqb a b ≡ t → t ≡ eqb b a
    go true e = sym (eq-eqb b a (sym (eqb-true a b e)))
    go false e = sym (ne_eqb b a (λ k. eqb-false a b e (sym k)))

apart : (s : Bool) (a : ℕ) (t : Bool) (b : ℕ) → below s a t b ≡ not (below t b s a || level t b s a)
apart false a false b = flip a b
apart false a true b = elim (eq-zero-or-pos (b + a)) [ inl z ↦ simp (le-ltb 0 (b + a) (omega arith), eq-eqb b a (omega arith), eq-eqb b 0 (omega arith)) | inr p ↦ simp (lt-ltb 0 (b + a) p) ]
apart true a false b = go (eqb b a && eqb b 0) refl
  where
    go : (t : Bool) → (eqb b a && eqb b 0) ≡ t → ltb 0 (a + b) ≡ not t
    go true e =
        let w : T (eqb b a && eqb b 0) = subst T (sym e) tt in
        let x : b ≡ a = eqb→eq b a (and_l (eqb b a) (eqb b 0) w) in
        let y : b ≡ 0 = eqb→eq b 0 (and_r (eqb b a) (eqb b 0) w) in
        le-ltb 0 (a + b) (omega arith)
    go false e = elim (eq-zero-or-pos (a + b)) [ inl z ↦ absurd (subst T e (and_i (eqb b a) (eqb b 0) (same b a (omega arith)) (same b 0 (omega arith)))) | inr p ↦ lt-ltb 0 (a + b) p ]
apart true a true b = flip b a ∙ ap (λ (t : Bool). not (ltb a b || (t && true))) (eqb_comm a b)

pub lt_is : (x y : Float) → is_nan x ≡ false → is_nan y ≡ false → lt x y ≡ not (le y x)
unfolding lt le is_nan
lt_is nan y p q = absurd (subst T p tt)
lt_is (inf s) nan p q = absurd (subst T q tt)
lt_is (inf true) (inf true) p q = refl
lt_is (inf true) (inf false) p q = refl
lt_is (inf false) (inf true) p q = refl
lt_is (inf false) (inf false) p q = refl
lt_is (inf true) (fin t n d) p q = refl
lt_is (inf false) (fin t n d) p q = refl
lt_is (fin s m e) nan p q = absurd (subst T q tt)
lt_is (fin s m e) (inf true) p q = refl
lt_is (fin s m e) (inf false) p q = refl
lt_is (fin s m e) (fin t n d) p q = apart s (m * up e * down d) t (n * up d * down e)

-- ---- what follows
pub as_T : (b : Bool) → b ≡ true → T b
as_T b e = subst T (sym e) tt

pub no_nan_l : (x y : Float) → T (le x y) → is_nan x ≡ false
unfolding le is_nan
no_nan_l nan y h = absurd h
no_nan_l (inf s) y h = refl
no_nan_l (fin s m e) y h = refl

pub no_nan_r : (x y : Float) → T (le x y) → is_nan y ≡ false
unfolding le is_nan
no_nan_r nan y h = absurd h
no_nan_r (inf s) nan h = absurd h
no_nan_r (fin s m e) nan h = absurd h
no_nan_r (inf s) (inf t) h = refl
no_nan_r (inf s) (fin t n d) h = refl
no_nan_r (fin s m e) (inf t) h = refl
no_nan_r (fin s m e) (fin t n d) h = refl

pub lt→le : (x y : Float) → T (lt x y) → T (le x y)
unfolding le
lt→le x y h = or_l (lt x y) (eq x y) h

-- x ≤ y < z
pub le_lt_trans : (x y z : Float) → T (le x y) → T (lt y z) → T (lt x z)
le_lt_trans x y z h k =
    let nx = no_nan_l x y h in
    let ny = no_nan_r x y h in
    let nz = no_nan_r y z (lt→le y z k) in
    let yz : T (not (le z y)) = subst T (lt_is y z ny nz) k in
    subst T (sym (lt_is x z nx nz)) (not_T (le z x) (λ w. T_not (le z y) yz (le_trans z x y w h)))

-- x < y ≤ z
pub lt-le_trans : (x y z : Float) → T (lt x y) → T (le y z) → T (lt x z)
lt-le_trans x y z h k =
    let nx = no_nan_l x y (lt→le x y h) in
    let ny = no_nan_l y z k in
    let nz = no_nan_r y z k in
    let xy : T (not (le y x)) = subst T (lt_is x y nx ny) h in
    subst T (sym (lt_is x z nx nz)) (not_T (le z x) (λ w. T_not (le y x) xy (le_trans y z x k w)))

-- not x < y: then y ≤ x
pub le_from_not_lt : (x y : Float) → is_nan x ≡ false → is_nan y ≡ false → lt x y ≡ false → T (le y x)
le_from_not_lt x y p q h = as_T (le y x) (not-false (le y x) (sym (lt_is x y p q) ∙ h))

pub not_lt_from_le : (x y : Float) → T (le y x) → lt x y ≡ false
not_lt_from_le x y h = lt_is x y (no_nan_r y x h) (no_nan_l y x h) ∙ ap not (is_true (le y x) h)

pub lt_irrefl : (x : Float) → lt x x ≡ false
unfolding lt
lt_irrefl nan = refl
lt_irrefl (inf true) = refl
lt_irrefl (inf false) = refl
lt_irrefl (fin true m e) = le-ltb (m * up e * down e) (m * up e * down e) (omega arith)
lt_irrefl (fin false m e) = le-ltb (m * up e * down e) (m * up e * down e) (omega arith)

pub le_refl : (x : Float) → is_nan x ≡ false → T (le x x)
le_refl x p = le_from_not_lt x x p p (lt_irrefl x)

-- of two that are no NaN, one is no more than the other
pub le_total : (x y : Float) → is_nan x ≡ false → is_nan y ≡ false → T (le x y) ⊎ T (le y x)
le_total x y p q = go (lt x y) refl
  where
    go : (b : Bool) → lt x y ≡ b → T (le x y) ⊎ T (le y x)
    go true e = inl (lt→le x y (as_T (lt x y) e))
    go false e = inr (le_from_not_lt x y p q e)

-- x ≤ y ≤ x only where the two are equal, as -0 and +0 are
pub le_antisym : (x y : Float) → T (le x y) → T (le y x) → T (eq x y)
unfolding le
le_antisym x y h k = elim (or_split (lt x y) (eq x y) h) [ inl u ↦ absurd (T_not (le y x) (subst T (lt_is x y (no_nan_l x y h) (no_nan_r x y h)) u) k) | inr e ↦ e ]

-- equal values are each no more than the other
pub le_from_eq : (x y : Float) → T (eq x y) → T (le x y)
unfolding le
le_from_eq x y h = or_r (lt x y) (eq x y) h

pub eq_sym : (x y : Float) → T (eq x y) → T (eq y x)
unfolding eq
eq_sym nan y h = absurd h
eq_sym (inf s) nan h = absurd h
eq_sym (inf true) (inf true) h = tt
eq_sym (inf true) (inf false) h = absurd h
eq_sym (inf false) (inf true) h = absurd h
eq_sym (inf false) (inf false) h = tt
eq_sym (inf s) (fin t n d) h = absurd h
eq_sym (fin s m e) nan h = absurd h
eq_sym (fin s m e) (inf t) h = absurd h
eq_sym (fin s m e) (fin t n d) h = level_sym s (m * up e * down d) t (n * up d * down e) h
  where
    level_sym : (s : Bool) (a : ℕ) (t : Bool) (b : ℕ) → T (level s a t b) → T (level t b s a)
    level_sym true a true b h = and_i (eqb b a) true (eq→eqb (sym (eqb→eq a b (and_l (eqb a b) true h)))) tt
    level_sym false a false b h = and_i (eqb b a) true (eq→eqb (sym (eqb→eq a b (and_l (eqb a b) true h)))) tt
    level_sym true a false b h =
        let e : a ≡ b = eqb→eq a b (and_l (eqb a b) (eqb a 0) h) in
        let z : a ≡ 0 = eqb→eq a 0 (and_r (eqb a b) (eqb a 0) h) in
        and_i (eqb b a) (eqb b 0) (eq→eqb (sym e)) (eq→eqb (sym e ∙ z))
    level_sym false a true b h =
        let e : a ≡ b = eqb→eq a b (and_l (eqb a b) (eqb a 0) h) in
        let z : a ≡ 0 = eqb→eq a 0 (and_r (eqb a b) (eqb a 0) h) in
        and_i (eqb b a) (eqb b 0) (eq→eqb (sym e)) (eq→eqb (sym e ∙ z))

pub ge_from_eq : (x y : Float) → T (eq x y) → T (le y x)
ge_from_eq x y h = le_from_eq y x (eq_sym x y h)

-- `x != x` tests for a NaN
pub ne_self : (x : Float) → ne x x ≡ is_nan x
unfolding ne is_nan
ne_self nan = refl
ne_self (inf true) = refl
ne_self (inf false) = refl
ne_self (fin true m e) = simp (eq-eqb (m * up e * down e) (m * up e * down e) refl)
ne_self (fin false m e) = simp (eq-eqb (m * up e * down e) (m * up e * down e) refl)

-- between two finite values there are finite values only
pub finite_between : (x y z : Float) → T (finite x) → T (finite z) → T (le x y) → T (le y z) → T (finite y)
unfolding le
finite_between nan y z p q h k = absurd p
finite_between (inf s) y z p q h k = absurd p
finite_between (fin s m e) nan z p q h k = absurd h
finite_between (fin s m e) (inf true) z p q h k = absurd h
finite_between (fin s m e) (inf false) nan p q h k = absurd q
finite_between (fin s m e) (inf false) (inf u) p q h k = absurd q
finite_between (fin s m e) (inf false) (fin u o g) p q h k = absurd k
finite_between (fin s m e) (fin t n d) z p q h k = tt
