-- Near at a point is near at every f32 of its value, where neither is -0 of segments; so near at a point inside, at min and at max is near everywhere. Assumes nothing.
use mathlib.Core.Path.{◌≡◌, refl, ◌∙◌, subst}
use mathlib.Core.Bool.{Bool, true, false, cond}
use Prim.Native.Nat.{◌-◌}
use native.Mathlib.Omega.{arith}
use lib.Dec.{T}
use lib.ListN.{length}
use lib.Ieee.{Float, binary32, of_bits, le, lt, eq, is_nan}
use lib.Ieee.Bits.{of_bits-fits}
use Rattle.float.specs.F32.{f0, f1}
use Rattle.float.proofs.Order.{as_T, le_from_eq, lt-le_trans, le_antisym, ge_from_eq, le_from_not_lt, no_nan_l, no_nan_r}
use Rattle.float.proofs.UnitsOrder.{same_value}
use Rattle.blend.specs.declared.Rgba.{Rgba}
use Rattle.difference.specs.Difference.{distance_of}
use Rattle.stops.specs.Lent.{Ramp}
use Rattle.stops.specs.Stops.{pos_at}
use Rattle.stops.specs.declared.Checked.TheVariants.{Fine}
use Rattle.gradient.specs.Ramp.{is_gimp, check_of, min_in, max_in, min_of, max_of, colour_of}
use Rattle.gradient.proofs.Valid.{valid}
use Rattle.judge.specs.Lists.{Offer, offered_ramp}
use Rattle.ordinary.specs.Ordinary.{Singles}
use Rattle.word.specs.Word.{NearBy}
use Rattle.word.proofs.Equal.{same_colour}
use Rattle.word.proofs.Singles.{Single}
use Rattle.word.proofs.FreshPoints.{Plus}

-- ---- no -0
pub plus_not : (x : Float) → Plus x → x ≡ of_bits binary32 2147483648 → ⊥
unfolding of_bits
plus_not x p e = subst Plus e p

above_not : (x : Float) → T (lt f0 x) → x ≡ of_bits binary32 2147483648 → ⊥
unfolding lt of_bits
above_not x h e = subst (λ (y : Float). T (lt f0 y)) e h

above_one : (x y : Float) → Single x → Single y → T (eq x y) → T (lt f0 x) → x ≡ y
above_one x y t u e h = same_value x y t u (above_not x h) (above_not y (lt-le_trans f0 x y h (le_from_eq x y e))) e

zero_plus : Plus f0
unfolding of_bits
zero_plus = tt

-- ---- the ends of a ramp's domain
module _ (ramp : Ramp) where
  pub min-zero : is_gimp ramp.kind ≡ true → min_of ramp ≡ f0
  unfolding min_in
  min-zero e = rw e

  pub max_one : is_gimp ramp.kind ≡ true → max_of ramp ≡ f1
  unfolding max_in
  max_one e = rw e

  module _ (passes : check_of ramp ≡ Fine) (singles : Singles ramp.positions) where
    pub min_single : Single (min_of ramp)
    unfolding min_in
    min_single = go (is_gimp ramp.kind) refl
      where
        go : (b : Bool) → is_gimp ramp.kind ≡ b → Single (cond b f0 (pos_at ramp.positions 0))
        go true e = of_bits-fits binary32 0
        go false e = let n = (valid ramp e passes).sized.least in singles 0 (omega arith)

    pub max_single : Single (max_of ramp)
    unfolding max_in
    max_single = go (is_gimp ramp.kind) refl
      where
        go : (b : Bool) → is_gimp ramp.kind ≡ b → Single (cond b f1 (pos_at ramp.positions (length ramp.positions - 1)))
        go true e = of_bits-fits binary32 _
        go false e = let n = (valid ramp e passes).sized.least in singles (length ramp.positions - 1) (omega arith)

-- ---- near at x, and at y of its value
module _ (ramp : Ramp) (offer : Offer) (off : Float) where
  pub moves : (x y : Float) → Single x → Single y → T (eq x y) → (is_gimp ramp.kind ≡ true → x ≡ y) → NearBy ramp offer off x → NearBy ramp offer off y
  moves x y t u e one w = go (is_gimp ramp.kind) refl
    where
      go : (b : Bool) → is_gimp ramp.kind ≡ b → NearBy ramp offer off y
      go true k = subst (NearBy ramp offer off) (one k) w
      go false k =
          subst (λ (c : Rgba). T (le (distance_of c (colour_of (offered_ramp offer) y)) off)) (same_colour ramp k x y t u e)
          (subst (λ (c : Rgba). T (le (distance_of (colour_of ramp x) c) off)) (same_colour (offered_ramp offer) refl x y t u e) w)

  -- a point inside, of the value of t, at which the list is near
  pub record Inner (t : Float) : Type 0 where
    pub x : Float
    pub single : Single x
    pub same : T (eq x t)
    pub above : T (lt (min_of ramp) x)
    pub near : NearBy ramp offer off x

  module _ (passes : check_of ramp ≡ Fine) (singles : Singles ramp.positions) (t : Float) (single : Single t)
      (lower : T (le (min_of ramp) t)) (upper : T (le t (max_of ramp))) (plus : is_gimp ramp.kind ≡ true → T (eq t f0) → Plus t) where
    abbrev lo : Float
    lo = min_of ramp

    abbrev hi : Float
    hi = max_of ramp

    from_zero : (x : Float) → is_gimp ramp.kind ≡ true → T (lt lo x) → T (lt f0 x)
    from_zero x e h = subst (λ (y : Float). T (lt y x)) (min-zero ramp e) h

    pub everywhere : (T (lt lo t) → T (lt t hi) → Inner t) → NearBy ramp offer off lo → (T (lt lo hi) → NearBy ramp offer off hi) → NearBy ramp offer off t
    everywhere inner first last = go (lt lo t) (lt t hi) refl refl
      where
        number : is_nan t ≡ false
        number = no_nan_r lo t lower

        at_first : lt lo t ≡ false → NearBy ramp offer off t
        at_first d =
            let e = le_antisym lo t lower (le_from_not_lt lo t (no_nan_l lo t lower) number d) in
            moves lo t (min_single ramp passes singles) single e
            (λ k. let z = min-zero ramp k in
            let f : T (eq f0 t) = rw z at e in
            z ∙ same_value f0 t (of_bits-fits binary32 0) single (plus_not f0 zero_plus) (plus_not t (plus k (le_antisym t f0 (ge_from_eq f0 t f) (le_from_eq f0 t f)))) f)
            first

        go : (a b : Bool) → lt lo t ≡ a → lt t hi ≡ b → NearBy ramp offer off t
        go true true d e =
            let r = inner (as_T _ d) (as_T _ e) in
            moves r.x t r.single single r.same (λ k. above_one r.x t r.single single r.same (from_zero r.x k r.above)) r.near
        go true false d e =
            let h = as_T (lt lo t) d in
            let wide = lt-le_trans lo t hi h upper in
            let s = le_antisym hi t (le_from_not_lt t hi number (no_nan_r t hi upper) e) upper in
            moves hi t (max_single ramp passes singles) single s (λ k. above_one hi t (max_single ramp passes singles) single s (from_zero hi k wide)) (last wide)
        go false b d e = at_first d
