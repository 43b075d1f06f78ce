-- No f32 lies between a number and the one just above it, or just below it (`above_next`, `below_next`); and these do lie above it, and below it. Assumes nothing.
use mathlib.Core.Path.{◌≡◌, refl, sym, ap, ◌∙◌, subst}
use mathlib.Core.Bool.{Bool, true, false, true≢false}
use Prim.Native.Nat.{◌+◌, ◌-◌, ◌≤◌, ◌<◌}
use native.Mathlib.Nat.{lt_of_not-le}
use native.Mathlib.Decide.{dec_le}
use native.Mathlib.Omega.{arith}
use lib.Dec.{T}
use lib.Ieee.{Float, nan, inf, fin, of_bits, neg, lt, le, eq, is_nan}
use lib.Ieee.Bits.{is_true}
use Rattle.float.specs.F32.{f0}
use Rattle.float.specs.Number.{magnitude_of, above_of, below_of}
use Rattle.float.proofs.Order.{as_T, le_trans, lt→le, le_lt_trans, not_lt_from_le, le_from_not_lt, le_from_eq, ge_from_eq}
use Rattle.float.proofs.PatternOrder.{at, pattern_le, pattern_lt, number_at}
use Rattle.float.proofs.SignedRound.{neg-le}
use Rattle.float.proofs.Adjacent.{One, M, neg_side, pos_side, back, under, under_zero, zero-zero, no_more, stepped, one_neg}

-- ---- no f32 lies between
strictly : (x y : Float) → One x → One y → T (lt (magnitude_of x) (magnitude_of y)) → M x < M y
strictly x y v w h = go (dec_le (M y) (M x))
  where
    go : Dec (M y ≤ M x) → M x < M y
    go (no f) = lt_of_not-le f
    go (yes l) =
        let u = under x v in
        let k : T (le (magnitude_of y) (magnitude_of x)) = rw (back y w, back x v) at (pattern_le (M y) (M x) l (omega arith)) in
        absurd (true≢false (sym (is_true _ h) ∙ not_lt_from_le (magnitude_of x) (magnitude_of y) k))

pub neg-neg : (x : Float) → neg (neg x) ≡ x
unfolding neg
neg-neg nan = refl
neg-neg (inf true) = refl
neg-neg (inf false) = refl
neg-neg (fin true m e) = refl
neg-neg (fin false m e) = refl

nan_neg : (x : Float) → is_nan (neg x) ≡ is_nan x
unfolding is_nan neg
nan_neg nan = refl
nan_neg (inf s) = refl
nan_neg (fin s m e) = refl

number : (x : Float) → One x → is_nan x ≡ false
unfolding is_nan
number nan w = absurd (true≢false (sym w.1))
number (inf s) w = refl
number (fin s m e) w = refl

neg-lt : (x y : Float) → One x → One y → T (lt x y) → T (lt (neg y) (neg x))
neg-lt x y v w h = go (lt (neg y) (neg x)) refl
  where
    go : (b : Bool) → lt (neg y) (neg x) ≡ b → T (lt (neg y) (neg x))
    go true e = as_T _ e
    go false e =
        let k = neg-le (neg x) (neg y) (le_from_not_lt (neg y) (neg x) (number (neg y) (one_neg y w)) (number (neg x) (one_neg x v)) e) in
        let l : T (le y x) = rw (neg-neg x, neg-neg y) at k in
        absurd (true≢false (sym (is_true _ h) ∙ not_lt_from_le x y l))

pub above_next : (p t : Float) → One p → One t → T (lt p t) → T (le (above_of p) t)
unfolding above_of
above_next p t v w h = go (eq p f0) (lt p f0) (eq t f0) (lt t f0) refl refl refl refl
  where
    up : M p < 2139095040
    up = under p v

    ut : M t < 2139095040
    ut = under t w

    above_none : lt t f0 ≡ false → eq t f0 ≡ false → 0 < M t
    above_none d e = go (dec_le (M t) 0)
      where
        go : Dec (M t ≤ 0) → 0 < M t
        go (no f) = lt_of_not-le f
        go (yes l) =
            let z : M t ≡ 0 = omega arith in
            let is : f0 ≡ t = ap at (sym z) ∙ back t w ∙ pos_side t w.1 d e in
            absurd (true≢false (sym (subst (λ (x : Float). eq x f0 ≡ true) is zero_is) ∙ e))
          where
            zero_is : eq f0 f0 ≡ true
            zero_is = unfold of_bits eq in refl

    go : (a b c d : Bool) → eq p f0 ≡ a → lt p f0 ≡ b → eq t f0 ≡ c → lt t f0 ≡ d → T (le (stepped a b p) t)
    go true b true d ea eb ec ed = absurd (true≢false (sym (is_true _ h) ∙ not_lt_from_le p t (le_trans t f0 p (le_from_eq t f0 (as_T _ ec)) (ge_from_eq p f0 (as_T _ ea)))))
    go true b false true ea eb ec ed = absurd (true≢false (sym (is_true _ h) ∙ not_lt_from_le p t (le_trans t f0 p (lt→le t f0 (as_T _ ed)) (ge_from_eq p f0 (as_T _ ea)))))
    go true b false false ea eb ec ed =
        subst (λ (x : Float). T (le (at 1) x)) (back t w ∙ pos_side t w.1 ed ec) (pattern_le 1 (M t) (above_none ed ec) (omega (arith, ut)))
    go false true c true ea eb ec ed =
        let k : T (lt (magnitude_of t) (magnitude_of p)) = rw (neg_side t w.1 ed, neg_side p v.1 eb) (neg-lt p t v w h) in
        let l = strictly t p w v k in
        let m = neg-le (at (M t)) (at (M p - 1)) (pattern_le (M t) (M p - 1) (omega (arith, up, ut)) (omega (arith, up, ut))) in
        subst (λ (x : Float). T (le (neg (at (M p - 1))) x)) (ap neg (back t w ∙ neg_side t w.1 ed) ∙ neg-neg t) m
    go false true c false ea eb ec ed =
        le_trans (neg (at (M p - 1))) (neg f0) t (under_zero (M p - 1) (omega (arith, up)))
        (le_trans (neg f0) f0 t zero-zero (le_from_not_lt t f0 (number t w) (number_at 0 (omega arith)) ed))
    go false false true d ea eb ec ed = absurd (no_more p eb ea (le_trans p t f0 (lt→le p t h) (le_from_eq t f0 (as_T _ ec))))
    go false false false true ea eb ec ed = absurd (no_more p eb ea (le_trans p t f0 (lt→le p t h) (lt→le t f0 (as_T _ ed))))
    go false false false false ea eb ec ed =
        let k : T (lt (magnitude_of p) (magnitude_of t)) = rw (pos_side p v.1 eb ea, pos_side t w.1 ed ec) h in
        let l = strictly p t v w k in
        subst (λ (x : Float). T (le (at (M p + 1)) x)) (back t w ∙ pos_side t w.1 ed ec) (pattern_le (M p + 1) (M t) (omega (arith, up, ut)) (omega (arith, up, ut)))

pub below_next : (t q : Float) → One t → One q → T (lt t q) → T (le t (below_of q))
unfolding below_of
below_next t q w v h =
    subst (λ (x : Float). T (le x (neg (above_of (neg q))))) (neg-neg t) (neg-le (above_of (neg q)) (neg t) (above_next (neg q) (neg t) (one_neg q v) (one_neg t w) (neg-lt t q w v h)))

-- ---- and they do lie above it, and below it
pub above_above : (p : Float) → One p → T (lt p (above_of p))
unfolding above_of
above_above p v = go (eq p f0) (lt p f0) refl refl
  where
    up : M p < 2139095040
    up = under p v

    go : (a b : Bool) → eq p f0 ≡ a → lt p f0 ≡ b → T (lt p (stepped a b p))
    go true b ea eb = le_lt_trans p f0 (at 1) (le_from_eq p f0 (as_T _ ea)) (pattern_lt 0 1 (omega arith) (omega arith))
    go false true ea eb = turned (lt p (neg (at (M p - 1)))) refl
      where
        some : 0 < M p
        some = go' (dec_le (M p) 0)
          where
            go' : Dec (M p ≤ 0) → 0 < M p
            go' (no f) = lt_of_not-le f
            go' (yes l) =
                let z : M p ≡ 0 = omega arith in
                let is : f0 ≡ neg p = ap at (sym z) ∙ back p v ∙ neg_side p v.1 eb in
                let k : T (le f0 p) = le_trans f0 (neg f0) p (unfold of_bits neg le in tt) (subst (λ (x : Float). T (le (neg f0) x)) (ap neg is ∙ neg-neg p) (unfold of_bits neg le in tt)) in
                absurd (true≢false (sym eb ∙ not_lt_from_le p f0 k))

        turned : (b : Bool) → lt p (neg (at (M p - 1))) ≡ b → T (lt p (neg (at (M p - 1))))
        turned true e = as_T _ e
        turned false e =
            let is : neg p ≡ at (M p) = sym (back p v ∙ neg_side p v.1 eb) in
            let k = neg-le (neg (at (M p - 1))) p (le_from_not_lt p (neg (at (M p - 1))) (number p v) (nan_neg (at (M p - 1)) ∙ number_at (M p - 1) (omega (arith, up))) e) in
            let l : T (le (at (M p)) (at (M p - 1))) = rw (neg-neg (at (M p - 1)), is) at k in
            absurd (true≢false (sym (is_true _ (pattern_lt (M p - 1) (M p) (omega (arith, some)) (omega (arith, up)))) ∙ not_lt_from_le (at (M p - 1)) (at (M p)) l))
    go false false ea eb = subst (λ (x : Float). T (lt x (at (M p + 1)))) (back p v ∙ pos_side p v.1 eb ea) (pattern_lt (M p) (M p + 1) (omega arith) (omega (arith, up)))

pub below_below : (q : Float) → One q → One (below_of q) → T (lt (below_of q) q)
unfolding below_of
below_below q v w =
    let n : One (above_of (neg q)) = subst One (neg-neg (above_of (neg q))) (one_neg (neg (above_of (neg q))) w) in
    subst (λ (x : Float). T (lt (neg (above_of (neg q))) x)) (neg-neg q) (neg-lt (neg q) (above_of (neg q)) (one_neg q v) n (above_above (neg q) (one_neg q v)))
