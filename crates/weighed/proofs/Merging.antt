-- The points rise; and of lists that never fall, whatever lies strictly between min and max is among them. Assumes nothing.
use mathlib.Core.Path.{◌≡◌, refl, sym, ◌∙◌, subst}
use mathlib.Core.Bool.{Bool, true, false, cond}
use mathlib.Core.List.{List, [], ◌∷◌}
use mathlib.Core.Logic.{◌⊎◌, inl, inr}
use Prim.Native.Nat.{ℕ, zero, suc, ◌+◌, ◌≤◌}
use native.Mathlib.Omega.{arith}
use lib.Dec.{T, eqb}
use lib.ListN.{length}
use lib.Ieee.{Float, lt, le, eq, is_nan}
use lib.Ieee.Bits.{is_true}
use Rattle.float.proofs.Flags.{both_l, both_r}
use Rattle.float.proofs.Order.{as_T, lt→le, lt-le_trans, le_trans, le_antisym, le_refl, le_from_not_lt, no_nan_l, no_nan_r}
use Rattle.weighed.specs.Points.{Site, site, sampled_mark, before, joined_with, inside, merged}

-- the points after a rise up to max
abbrev pub Rises : Float → Float → List Site → Type 0
Rises max a [] = T (lt a max)
Rises max a (s ∷ ss) = T (lt a s.t) × Rises max s.t ss

-- s is in a list, and what comes before it there is no more
abbrev pub Led : Site → List Site → Type 0
Led s [] = ⊥
Led s (x ∷ xs) = (x ≡ s) ⊎ (T (le x.t s.t) × Led s xs)

-- the same of numbers
abbrev pub LedBy : Float → List Float → Type 0
LedBy t [] = ⊥
LedBy t (x ∷ xs) = (x ≡ t) ⊎ (T (le x t) × LedBy t xs)

led_by_at : (t x : Float) (xs : List Float) → is_nan t ≡ false → LedBy t (x ∷ xs) → T (le x t)
led_by_at t x xs n (inl e) = subst (λ (y : Float). T (le y t)) (sym e) (le_refl t n)
led_by_at t x xs n (inr w) = w.0

-- of every one
abbrev pub Each : (Site → Type 0) → List Site → Type 0
Each P [] = Unit {0}
Each P (x ∷ xs) = P x × Each P xs

abbrev pub Number : Site → Type 0
Number s = is_nan s.t ≡ false

led_at : (s x : Site) (xs : List Site) → is_nan s.t ≡ false → Led s (x ∷ xs) → T (le x.t s.t)
led_at s x xs n (inl e) = subst (λ (y : Site). T (le y.t s.t)) (sym e) (le_refl s.t n)
led_at s x xs n (inr w) = w.0

pick : (P : List Site → Type 0) (b : Bool) (x y : List Site) → (b ≡ true → P x) → (b ≡ false → P y) → P (cond b x y)
pick P true x y p q = p refl
pick P false x y p q = q refl

-- ---- two lists made one
module _ (s : Site) (number : Number s) where
  before_second : (x : Site) (f : List Site → List Site) → ((ys : List Site) → Led s ys → Led s (f ys)) → (ys : List Site) → Led s ys → Led s (before x f ys)
  unfolding before
  before_second x f h [] w = absurd w
  before_second x f h (y ∷ ys) w =
      pick (Led s) (lt x.t y.t) (x ∷ f (y ∷ ys)) (y ∷ before x f ys)
      (λ e. inr (le_trans x.t y.t s.t (lt→le x.t y.t (as_T _ e)) (led_at s y ys number w), h (y ∷ ys) w))
      (λ e. elim w [ inl u ↦ inl u | inr v ↦ inr (v.0, before_second x f h ys v.1) ])

  pub led_second : (xs ys : List Site) → Led s ys → Led s (joined_with xs ys)
  unfolding joined_with
  led_second [] ys w = w
  led_second (x ∷ xs) ys w = before_second x (joined_with xs) (led_second xs) ys w

  before_first : (x : Site) (f : List Site → List Site) → Number x → T (le x.t s.t) → ((ys : List Site) → Each Number ys → Led s (x ∷ f ys)) → (ys : List Site) → Each Number ys → Led s (before x f ys)
  unfolding before
  before_first x f n a k [] w = k [] w
  before_first x f n a k (y ∷ ys) w =
      pick (Led s) (lt x.t y.t) (x ∷ f (y ∷ ys)) (y ∷ before x f ys)
      (λ e. k (y ∷ ys) w)
      (λ e. inr (le_trans y.t x.t s.t (le_from_not_lt x.t y.t n w.0 e) a, before_first x f n a k ys w.1))

  pub led_first : (xs ys : List Site) → Each Number xs → Each Number ys → Led s xs → Led s (joined_with xs ys)
  unfolding joined_with
  led_first [] ys m n w = absurd w
  led_first (x ∷ xs) ys m n w =
      before_first x (joined_with xs) m.0 (led_at s x xs number w)
      (λ zs o. elim w [ inl u ↦ inl u | inr v ↦ inr (v.0, led_first xs zs m.1 o v.1) ]) ys n

-- what holds of each of two lists holds of each of one
module _ (P : Site → Type 0) where
  before_each : (x : Site) (f : List Site → List Site) → P x → ((ys : List Site) → Each P ys → Each P (f ys)) → (ys : List Site) → Each P ys → Each P (before x f ys)
  unfolding before
  before_each x f p h [] w = (p, h [] w)
  before_each x f p h (y ∷ ys) w =
      pick (Each P) (lt x.t y.t) (x ∷ f (y ∷ ys)) (y ∷ before x f ys) (λ e. (p, h (y ∷ ys) w)) (λ e. (w.0, before_each x f p h ys w.1))

  pub each_joined : (xs ys : List Site) → Each P xs → Each P ys → Each P (joined_with xs ys)
  unfolding joined_with
  each_joined [] ys v w = w
  each_joined (x ∷ xs) ys v w = before_each x (joined_with xs) v.0 (λ zs u. each_joined xs zs v.1 u) ys w

-- ---- the points
-- a point that is not the record's
abbrev pub Marked : Site → Type 0
Marked s = eqb s.mark sampled_mark ≡ false

-- a point where s lies, by value, and that is held
abbrev pub Found : Site → List Site → Type 0
Found s [] = ⊥
Found s (x ∷ xs) = (T (eq x.t s.t) × Marked x) ⊎ Found s xs

-- a point of the same value
abbrev pub FoundAt : Float → List Site → Type 0
FoundAt t [] = ⊥
FoundAt t (x ∷ xs) = T (eq x.t t) ⊎ FoundAt t xs

eq_refl : (x : Float) → is_nan x ≡ false → T (eq x x)
eq_refl x n = le_antisym x x (le_refl x n) (le_refl x n)

module _ (max : Float) where
  in_l : (last t : Float) → inside max last t ≡ true → T (lt last t)
  unfolding inside
  in_l last t e = as_T _ (both_l (lt last t) (lt t max) e)

  in_r : (last t : Float) → inside max last t ≡ true → T (lt t max)
  unfolding inside
  in_r last t e = as_T _ (both_r (lt last t) (lt t max) e)

  in_both : (last t : Float) → T (lt last t) → T (lt t max) → inside max last t ≡ true
  unfolding inside
  in_both last t a b = simp (is_true (lt last t) a, is_true (lt t max) b)

  through : (last t : Float) → inside max last t ≡ true → T (lt last max)
  through last t e = lt-le_trans last t max (in_l last t e) (lt→le t max (in_r last t e))

  -- they rise
  pub rises : (n : ℕ) (last : Float) (ts : List Float) (os : List Site) → T (lt last max) → Rises max last (merged max n last ts os)
  unfolding merged
  rises zero last ts os h = h
  rises (suc n) last [] [] h = h
  rises (suc n) last (t ∷ ts) [] h =
      pick (Rises max last) (inside max last t) _ _ (λ e. (in_l last t e, rises n t ts [] (in_r last t e))) (λ e. rises n last ts [] h)
  rises (suc n) last [] (o ∷ os) h =
      pick (Rises max last) (inside max last o.t) _ _ (λ e. (in_l last o.t e, rises n o.t [] os (in_r last o.t e))) (λ e. rises n last [] os h)
  rises (suc n) last (t ∷ ts) (o ∷ os) h =
      pick (Rises max last) (inside max last t) _ _
      (λ e. pick (Rises max last) (inside max last o.t) _ _
      (λ d. pick (Rises max last) (lt t o.t) _ _
      (λ c. (in_l last t e, rises n t ts (o ∷ os) (in_r last t e)))
      (λ c. (in_l last o.t d, rises n o.t (t ∷ ts) os (in_r last o.t d))))
      (λ d. rises n last (t ∷ ts) os h))
      (λ e. rises n last ts (o ∷ os) h)

  -- without room between the ends there are none
  pub none : (n : ℕ) (last : Float) (ts : List Float) (os : List Site) → (T (lt last max) → ⊥) → merged max n last ts os ≡ []
  unfolding merged
  none zero last ts os h = refl
  none (suc n) last [] [] h = refl
  none (suc n) last (t ∷ ts) [] h = pick (λ l. l ≡ []) (inside max last t) _ _ (λ e. absurd (h (through last t e))) (λ e. none n last ts [] h)
  none (suc n) last [] (o ∷ os) h = pick (λ l. l ≡ []) (inside max last o.t) _ _ (λ e. absurd (h (through last o.t e))) (λ e. none n last [] os h)
  none (suc n) last (t ∷ ts) (o ∷ os) h = pick (λ l. l ≡ []) (inside max last t) _ _ (λ e. absurd (h (through last t e))) (λ e. none n last ts (o ∷ os) h)

  -- ---- a point of the lent ones
  module _ (s : Site) (number : Number s) (under : T (lt s.t max)) where
    -- the next of them is taken
    own_taken : (o : Site) (os rest : List Site) → Led s (o ∷ os) → Marked o → (Led s os → T (lt o.t s.t) → Found s rest) → Found s (o ∷ rest)
    own_taken o os rest (inl e) m k = inl (subst (λ (x : Site). T (eq x.t s.t)) (sym e) (eq_refl s.t number), m)
    own_taken o os rest (inr v) m k = go (lt o.t s.t) refl
      where
        go : (b : Bool) → lt o.t s.t ≡ b → Found s (o ∷ rest)
        go true e = inr (k v.1 (as_T _ e))
        go false e = inl (le_antisym o.t s.t v.0 (le_from_not_lt o.t s.t (no_nan_l o.t s.t v.0) number e), m)

    -- it is passed over
    own_passed : (last : Float) (o : Site) (os : List Site) → T (lt last s.t) → Led s (o ∷ os) → inside max last o.t ≡ false → Led s os
    own_passed last o os h (inl e) d =
        let z : ◌≡◌ {A = Bool} true false = sym (subst (λ (x : Site). inside max last x.t ≡ true) (sym e) (in_both last s.t h under)) ∙ d in
        absurd (subst T z tt)
    own_passed last o os h (inr v) d = v.1

    pub own_found : (n : ℕ) (last : Float) (ts : List Float) (os : List Site) → length ts + length os ≤ n → Each Marked os → T (lt last s.t) → Led s os → Found s (merged max n last ts os)
    unfolding merged
    own_found zero last ts [] few m h w = absurd w
    own_found zero last ts (o ∷ os) few m h w = absurd (omega arith)
    own_found (suc n) last [] [] few m h w = absurd w
    own_found (suc n) last (t ∷ ts) [] few m h w = absurd w
    own_found (suc n) last [] (o ∷ os) few m h w =
        pick (Found s) (inside max last o.t) _ _
        (λ e. own_taken o os (merged max n o.t [] os) w m.0 (λ v k. own_found n o.t [] os (omega arith) m.1 k v))
        (λ e. own_found n last [] os (omega arith) m.1 h (own_passed last o os h w e))
    own_found (suc n) last (t ∷ ts) (o ∷ os) few m h w =
        pick (Found s) (inside max last t) _ _
        (λ e. pick (Found s) (inside max last o.t) _ _
        (λ d. pick (Found s) (lt t o.t) _ _
        (λ c. inr (own_found n t ts (o ∷ os) (omega arith) m (lt-le_trans t o.t s.t (as_T _ c) (led_at s o os number w)) w))
        (λ c. own_taken o os (merged max n o.t (t ∷ ts) os) w m.0 (λ v k. own_found n o.t (t ∷ ts) os (omega arith) m.1 k v)))
        (λ d. own_found n last (t ∷ ts) os (omega arith) m.1 h (own_passed last o os h w d)))
        (λ e. own_found n last ts (o ∷ os) (omega arith) m h w)

  -- ---- a point of the record: t is in a list, and what comes before it there is no more
  module _ (t : Float) (number : is_nan t ≡ false) (under : T (lt t max)) where
    -- a point that is no more than t is taken: it is t, or t is still to come
    no_more : (x : Site) (rest : List Site) → T (le x.t t) → (T (lt x.t t) → FoundAt t rest) → FoundAt t (x ∷ rest)
    no_more x rest h k = go (lt x.t t) refl
      where
        go : (b : Bool) → lt x.t t ≡ b → FoundAt t (x ∷ rest)
        go true e = inr (k (as_T _ e))
        go false e = inl (le_antisym x.t t h (le_from_not_lt x.t t (no_nan_l x.t t h) number e))

    sampled_taken : (x : Float) (xs : List Float) (m : ℕ) (rest : List Site) → LedBy t (x ∷ xs) → (LedBy t xs → T (lt x t) → FoundAt t rest) → FoundAt t (site x m ∷ rest)
    sampled_taken x xs m rest (inl e) k = inl (subst (λ (y : Float). T (eq y t)) (sym e) (eq_refl t number))
    sampled_taken x xs m rest (inr v) k = no_more (site x m) rest v.0 (k v.1)

    passed_at : (last x : Float) (xs : List Float) → T (lt last t) → LedBy t (x ∷ xs) → inside max last x ≡ false → LedBy t xs
    passed_at last x xs h (inl e) d =
        let z : ◌≡◌ {A = Bool} true false = sym (subst (λ (y : Float). inside max last y ≡ true) (sym e) (in_both last t h under)) ∙ d in
        absurd (subst T z tt)
    passed_at last x xs h (inr v) d = v.1

    pub sampled_found : (n : ℕ) (last : Float) (ts : List Float) (os : List Site) → length ts + length os ≤ n → T (lt last t) → LedBy t ts → FoundAt t (merged max n last ts os)
    unfolding merged
    sampled_found zero last [] os few h w = absurd w
    sampled_found zero last (x ∷ ts) os few h w = absurd (omega arith)
    sampled_found (suc n) last [] [] few h w = absurd w
    sampled_found (suc n) last [] (o ∷ os) few h w = absurd w
    sampled_found (suc n) last (x ∷ ts) [] few h w =
        pick (FoundAt t) (inside max last x) _ _
        (λ e. sampled_taken x ts sampled_mark (merged max n x ts []) w (λ v k. sampled_found n x ts [] (omega arith) k v))
        (λ e. sampled_found n last ts [] (omega arith) h (passed_at last x ts h w e))
    sampled_found (suc n) last (x ∷ ts) (o ∷ os) few h w =
        pick (FoundAt t) (inside max last x) _ _
        (λ e. pick (FoundAt t) (inside max last o.t) _ _
        (λ d. pick (FoundAt t) (lt x o.t) _ _
        (λ c. sampled_taken x ts sampled_mark (merged max n x ts (o ∷ os)) w (λ v k. sampled_found n x ts (o ∷ os) (omega arith) k v))
        (λ c. no_more o (merged max n o.t (x ∷ ts) os)
        (le_trans o.t x t (le_from_not_lt x o.t (no_nan_r last x (lt→le last x (in_l last x e))) (no_nan_r last o.t (lt→le last o.t (in_l last o.t d))) c) (led_by_at t x ts number w))
        (λ k. sampled_found n o.t (x ∷ ts) os (omega arith) k w)))
        (λ d. sampled_found n last (x ∷ ts) os (omega arith) h w))
        (λ e. sampled_found n last ts (o ∷ os) (omega arith) h (passed_at last x ts h w e))
