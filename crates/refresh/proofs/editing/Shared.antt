-- Two ramps that have the same stops up to stop i, and from stop j on, which is stop j' of the other: up to the position of i and above that of j they have one colour, for linear and
-- smoothstep ramps. So moving, adding and removing a stop are one case. Assumes nothing.
use mathlib.Core.Path.{◌≡◌, refl, sym, ap, ◌∙◌, subst}
use mathlib.Core.Bool.{Bool, true, false, true≢false}
use mathlib.Core.List.{List}
use mathlib.Core.Logic.{◌⊎◌, inl, inr}
use Prim.Native.Nat.{ℕ, suc, ◌+◌, ◌-◌, ◌≤◌, ◌<◌}
use native.Mathlib.Decide.{dec_le}
use native.Mathlib.Nat.{lt_of_not-le}
use native.Mathlib.Omega.{arith}
use lib.Dec.{T}
use lib.ListN.{length}
use lib.Ieee.{Float, le, lt, is_nan, inf}
use lib.Ieee.Fits.{and_l}
use lib.Ieee.Bits.{is_true}
use Rattle.float.proofs.Order as order
use Rattle.blend.specs.declared.Stop.{Stop}
use Rattle.stops.specs.Stops.{pos_at, colour_at, stop_at}
use Rattle.stops.specs.Place.{Rising, first_at, place_of}
use Rattle.stops.specs.Pair.{pair_of, between, colour_in}
use Rattle.stops.specs.declared.Kind.{Kind}
use Rattle.stops.specs.declared.Kind.TheVariants.{Linear, Smoothstep, Sharp, Basis, CatmullRom, Gimp, GimpSaved}
use Rattle.stops.proofs.Choice.{rising_numbers, first_reaches, before_first, place_first, place_last, place_nan, place_between}
use Rattle.stops.proofs.Valid.{first_le, pair_inside}
use Rattle.refresh.specs.reach.Stretch.{stretch_between, before_of, after_of, outside_of}
use Rattle.refresh.proofs.reach.Unread.{past_all, lt_not_le, or_split}
use Rattle.refresh.specs.editing.Rules.{movable}

pub record Shared (ps cs qs ds : List Float) (i j j' : ℕ) : Type 0 where
  pub up_to : (h : ℕ) → h ≤ i → (pos_at qs h ≡ pos_at ps h) × (colour_at ds h ≡ colour_at cs h)
  pub from_on : (h : ℕ) → (pos_at qs (j' + h) ≡ pos_at ps (j + h)) × (colour_at ds (j' + h) ≡ colour_at cs (j + h))
  pub as_many : length qs + j ≡ length ps + j'
  pub there : j < length ps
  pub apart : (i < j) × (i < j')

-- the first index whose position is t or more
first_at_lem : (t : Float) (ps : List Float) (r : ℕ) → r < length ps → le t (pos_at ps r) ≡ true → ((k : ℕ) → k < r → le t (pos_at ps k) ≡ false) → first_at t ps ≡ r
first_at_lem t ps r l at before = omega (arith, first_le t ps r l at, past_all t ps r (omega arith) before)

-- a pair of a linear or a smoothstep ramp is its two stops and no more
pair_same : (kind : Kind) → movable kind ≡ true → (cs ds : List Float) (n m k k' : ℕ) (p q p' q' : Stop) (t : Float) → p ≡ p' → q ≡ q' → pair_of kind cs n k p q t ≡ pair_of kind ds m k' p' q' t
unfolding pair_of
pair_same Linear h cs ds n m k k' p q p' q' t e f = rw (e, f)
pair_same Smoothstep h cs ds n m k k' p q p' q' t e f = rw (e, f)
pair_same Sharp h cs ds n m k k' p q p' q' t e f = absurd (true≢false (sym h))
pair_same Basis h cs ds n m k k' p q p' q' t e f = absurd (true≢false (sym h))
pair_same CatmullRom h cs ds n m k k' p q p' q' t e f = absurd (true≢false (sym h))
pair_same Gimp h cs ds n m k k' p q p' q' t e f = absurd (true≢false (sym h))
pair_same GimpSaved h cs ds n m k k' p q p' q' t e f = absurd (true≢false (sym h))

stop_same : (ps cs qs ds : List Float) (k k' : ℕ) → (pos_at qs k' ≡ pos_at ps k) × (colour_at ds k' ≡ colour_at cs k) → stop_at ps cs k ≡ stop_at qs ds k'
stop_same ps cs qs ds k k' e = rw (e.0, e.1)

module _ (ps cs qs ds : List Float) (i j j' : ℕ) (same : Shared ps cs qs ds i j j') where
  -- the ends
  pub first_same : (pos_at qs 0 ≡ pos_at ps 0) × (colour_at ds 0 ≡ colour_at cs 0)
  first_same = same.up_to 0 (omega arith)

  pub last_same : (pos_at qs (length qs - 1) ≡ pos_at ps (length ps - 1)) × (colour_at ds (length qs - 1) ≡ colour_at cs (length ps - 1))
  last_same =
      let d = length ps - 1 - j in
      let e : j' + d ≡ length qs - 1 = omega (arith, same.as_many, same.there) in
      let f : j + d ≡ length ps - 1 = omega (arith, same.there) in
      rw (e, f) at (same.from_on d)

  module _ (kind : Kind) (straight : movable kind ≡ true) (rising : Rising ps) (rising' : Rising qs) (t : Float) where
    pair : (k k' : ℕ) → stop_at ps cs (k - 1) ≡ stop_at qs ds (k' - 1) → stop_at ps cs k ≡ stop_at qs ds k' → between kind ps cs k t ≡ between kind qs ds k' t
    unfolding between
    pair k k' e f = pair_same kind straight cs ds (length ps) (length qs) k k' (stop_at ps cs (k - 1)) (stop_at ps cs k) (stop_at qs ds (k' - 1)) (stop_at qs ds k') t e f

    -- the pair of t, where it is one of the first
    pair_before : T (le t (pos_at ps i)) → between kind ps cs (first_at t ps) t ≡ between kind qs ds (first_at t qs) t
    pair_before h =
        let k = first_at t ps in
        let n = same.there in
        let a = same.apart in
        let near : k ≤ i = first_le t ps i (omega arith) (is_true (le t (pos_at ps i)) h) in
        let at = ap (le t) (same.up_to k near).0 ∙ first_reaches t ps (omega arith) in
        let before : (h : ℕ) → h < k → le t (pos_at qs h) ≡ false = λ h l. ap (le t) (same.up_to h (omega arith)).0 ∙ before_first t ps h l in
        let e : first_at t qs ≡ k = first_at_lem t qs k (omega (arith, same.as_many)) at before in
        rw e (pair k k (stop_same ps cs qs ds (k - 1) (k - 1) (same.up_to (k - 1) (omega arith))) (stop_same ps cs qs ds k k (same.up_to k near)))

    -- and where it is one of the last
    pair_after : T (lt (pos_at ps j) t) → first_at t ps < length ps → between kind ps cs (first_at t ps) t ≡ between kind qs ds (first_at t qs) t
    pair_after h inside =
        let k = first_at t ps in
        let n = same.there in
        let far : suc j ≤ k = past_all t ps (suc j) n (λ h' l. lt_not_le (pos_at ps h') t (order.le_lt_trans (pos_at ps h') (pos_at ps j) t (rising h' j (omega arith) n) h)) in
        let d = k - suc j in
        let e : j + suc d ≡ k = omega arith in
        let e₁ : j + d ≡ k - 1 = omega arith in
        let f : j' + suc d ≡ k + j' - j = omega arith in
        let f₁ : j' + d ≡ k + j' - j - 1 = omega arith in
        let stop = rw (e, f) at (same.from_on (suc d)) in
        let lower = rw (e₁, f₁) at (same.from_on d) in
        let at = ap (le t) stop.0 ∙ first_reaches t ps inside in
        let is : first_at t qs ≡ k + j' - j = first_at_lem t qs (k + j' - j) (omega (arith, same.as_many)) at (λ h' l. below h' (omega arith)) in
        rw is (pair k (k + j' - j) (stop_same ps cs qs ds (k - 1) (k + j' - j - 1) lower) (stop_same ps cs qs ds k (k + j' - j) stop))
      where
        low : T (lt (pos_at qs j') t)
        low =
            let a : j + 0 ≡ j = omega arith in
            let b : j' + 0 ≡ j' = omega arith in
            subst (λ (p : Float). T (lt p t)) (sym (rw (a, b) at (same.from_on 0)).0) h

        below : (h' : ℕ) → h' + j < first_at t ps + j' → le t (pos_at qs h') ≡ false
        below h' l = go (dec_le h' j')
          where
            go : Dec (h' ≤ j') → le t (pos_at qs h') ≡ false
            go (yes a) =
                lt_not_le (pos_at qs h') t (order.le_lt_trans (pos_at qs h') (pos_at qs j') t (rising' h' j' a (omega (arith, same.as_many, same.there))) low)
            go (no a) =
                let b : j' < h' = lt_of_not-le a in
                let c : j' + (h' - j') ≡ h' = omega arith in
                ap (le t) (rw c at (same.from_on (h' - j'))).0 ∙ before_first t ps (j + (h' - j')) (omega arith)

    -- t is at most the position of i, or above that of j
    outer : outside_of (stretch_between ps i j) t ≡ true → T (le t (pos_at ps i)) ⊎ T (lt (pos_at ps j) t)
    unfolding outside_of before_of after_of stretch_between
    outer h = elim (or_split (before_of (stretch_between ps i j) t) (after_of (stretch_between ps i j) t) h) [ inl b ↦ inl (and_l (le t (pos_at ps i)) (lt t (inf false)) b) | inr a ↦ inr a ]

    -- the colour is the same
    pub same_colour : outside_of (stretch_between ps i j) t ≡ true → colour_in kind ps cs t (place_of ps t) ≡ colour_in kind qs ds t (place_of qs t)
    unfolding colour_in
    same_colour out = go (le t (pos_at ps 0)) (le (pos_at ps (length ps - 1)) t) (is_nan t) refl refl refl
      where
        go : (a b c : Bool) → le t (pos_at ps 0) ≡ a → le (pos_at ps (length ps - 1)) t ≡ b → is_nan t ≡ c → colour_in kind ps cs t (place_of ps t) ≡ colour_in kind qs ds t (place_of qs t)
        go true b c A B C = rw (place_first ps t A, place_first qs t (ap (le t) first_same.0 ∙ A)) (sym first_same.1)
        go false true c A B C =
            rw (place_last ps t A B, place_last qs t (ap (le t) first_same.0 ∙ A) (ap (λ (p : Float). le p t) last_same.0 ∙ B)) (sym last_same.1)
        go false false true A B C =
            rw (place_nan ps t A B C, place_nan qs t (ap (le t) first_same.0 ∙ A) (ap (λ (p : Float). le p t) last_same.0 ∙ B) C)
        go false false false A B C =
            let there = place_between ps t A B C in
            let inside = pair_inside ps (omega (arith, same.there, same.apart)) (rising_numbers ps rising) t (first_at t ps) there in
            rw (there, place_between qs t (ap (le t) first_same.0 ∙ A) (ap (λ (p : Float). le p t) last_same.0 ∙ B) C)
            (elim (outer out) [ inl b ↦ pair_before b | inr a ↦ pair_after a inside.1 ])
