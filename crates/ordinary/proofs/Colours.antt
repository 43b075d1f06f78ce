-- The colour of a ramp of stops at any t: that of a stop, black, or between two stops that t lies between. Assumes nothing.
use mathlib.Core.Path.{◌≡◌, refl, sym, ◌∙◌, subst}
use mathlib.Core.Bool.{Bool, true, false, cond, true≢false}
use mathlib.Core.List.{List}
use mathlib.Core.Logic.{inl, inr}
use Prim.Native.Nat.{ℕ, ◌-◌, ◌≤◌, ◌<◌}
use native.Mathlib.Omega.{arith}
use lib.Dec.{T}
use lib.ListN.{length}
use lib.Ieee.{Float, binary32, of_bits, fits, le, is_nan}
use lib.Ieee.Bits.{is_true}
use lib.Ieee.Scale.{finite}
use Rattle.float.specs.F32.{◌⊖◌, ◌⊘◌, f0, f1}
use Rattle.float.proofs.Order as order
use Rattle.float.proofs.Rounding.{sub_mono, sub_rising}
use Rattle.blend.specs.Blend.{black}
use Rattle.blend.specs.Pair.{share_of}
use Rattle.blend.specs.declared.Rgba.{Rgba}
use Rattle.stops.specs.Lent.{Ramp}
use Rattle.stops.specs.Stops.{pos_at, colour_at, stop_at}
use Rattle.stops.specs.Place.{first_at, place_of}
use Rattle.stops.specs.Pair.{between, colour_in}
use Rattle.stops.specs.declared.Place.TheVariants.{End, Nowhere, Between}
use Rattle.stops.proofs.Valid.{Valid, finite_number, first_le, first_pos}
use Rattle.stops.proofs.Choice.{first_reaches, before_first}
use Rattle.gradient.specs.Ramp.{is_gimp, colour_of}
use Rattle.float.proofs.Spans.{quotient_low, quotient_high, difference_above}

-- t lies past stop k - 1 and not past stop k
pub record Past (ps : List Float) (k : ℕ) (t : Float) : Type 0 where
  pub some : 1 ≤ k
  pub there : k < length ps
  pub reached : le t (pos_at ps k) ≡ true
  pub past : le t (pos_at ps (k - 1)) ≡ false

-- from 0 to 1
pub record Share (s : Float) : Type 0 where
  pub whole : T (finite s)
  pub low : T (le f0 s)
  pub high : T (le s f1)

other : (t x : Float) → is_nan t ≡ false → is_nan x ≡ false → le x t ≡ false → le t x ≡ true
other t x p q h = elim (order.le_total t x p q) [ inl l ↦ is_true (le t x) l | inr l ↦ absurd (true≢false (sym (is_true (le x t) l) ∙ h)) ]

module _ (ramp : Ramp) (of_stops : is_gimp ramp.kind ≡ false) (ok : Valid ramp) where
  abbrev ps : List Float
  ps = ramp.positions

  abbrev cs : List Float
  cs = ramp.channels

  number : (i : ℕ) → i < length ps → is_nan (pos_at ps i) ≡ false
  number i l = finite_number (pos_at ps i) (ok.finite_at i l)

  -- what holds of the stops, of black and between two stops holds of the colour at any t
  module _ (P : Rgba → Type 0) (stop : (i : ℕ) → i < length ps → P (colour_at cs i)) (none : P black) (inside : (k : ℕ) (t : Float) → Past ps k t → P (between ramp.kind ps cs k t)) (t : Float) where
    past_first : le t (pos_at ps 0) ≡ false → le (pos_at ps (length ps - 1)) t ≡ false → is_nan t ≡ false → Past ps (first_at t ps) t
    past_first a b n =
        let two = ok.sized.least in
        let low = first_pos t ps (omega arith) a in
        let high = first_le t ps (length ps - 1) (omega arith) (other t (pos_at ps (length ps - 1)) n (number (length ps - 1) (omega arith)) b) in
        record { some = low; there = omega arith; reached = first_reaches t ps (omega arith); past = before_first t ps (first_at t ps - 1) (omega arith) }

    at_place : (a b n : Bool) → le t (pos_at ps 0) ≡ a → le (pos_at ps (length ps - 1)) t ≡ b → is_nan t ≡ n
        → P (colour_in ramp.kind ps cs t (cond a (End 0) (cond b (End (length ps - 1)) (cond n Nowhere (Between (first_at t ps))))))
    unfolding colour_in
    at_place true b n ea eb en = let two = ok.sized.least in stop 0 (omega arith)
    at_place false true n ea eb en = let two = ok.sized.least in stop (length ps - 1) (omega arith)
    at_place false false true ea eb en = none
    at_place false false false ea eb en = inside (first_at t ps) t (past_first ea eb en)

    pub everywhere : P (colour_of ramp t)
    unfolding colour_of place_of
    everywhere = rw of_stops (at_place (le t (pos_at ps 0)) (le (pos_at ps (length ps - 1)) t) (is_nan t) refl refl refl)

  -- ---- how far t has come from stop k - 1 to stop k, where the ends of the ramp have a finite difference
  module _ (single : (i : ℕ) → i < length ps → T (fits binary32 (pos_at ps i))) (span : T (finite (pos_at ps (length ps - 1) ⊖ pos_at ps 0))) (k : ℕ) (t : Float) (at : Past ps k t) where
    abbrev p : Float
    p = pos_at ps (k - 1)

    abbrev q : Float
    q = pos_at ps k

    fin_at : (i : ℕ) → i < length ps → T (finite (pos_at ps i))
    fin_at i l = subst T (sym (ok.finite_at i l)) tt

    fp : T (finite p)
    fp = let l = at.there in fin_at (k - 1) (omega arith)

    fq : T (finite q)
    fq = fin_at k at.there

    tq : T (le t q)
    tq = subst T (sym at.reached) tt

    pt : T (le p t)
    pt = let l = at.there in subst T (sym (other p t (number (k - 1) (omega arith)) (order.no_nan_l t q tq) at.past)) tt

    ft : T (finite t)
    ft = order.finite_between p t q fp fq pt tq

    one_number : T (finite f0) × T (finite f1)
    unfolding of_bits
    one_number = (tt, tt)

    whole : T (finite (q ⊖ p))
    whole =
        let l = at.there in
        let s = at.some in
        order.finite_between f0 (q ⊖ p) (pos_at ps (length ps - 1) ⊖ pos_at ps 0) one_number.0 span (sub_rising p q fp fq (order.le_trans p t q pt tq))
        (sub_mono q p (pos_at ps (length ps - 1)) (pos_at ps 0) fq fp (fin_at (length ps - 1) (omega arith)) (fin_at 0 (omega arith)) (ok.rising k (length ps - 1) (omega arith) (omega arith)) (ok.rising 0 (k - 1) (omega arith) (omega arith)))

    apart : le q p ≡ false
    apart = go (le q p) refl
      where
        go : (b : Bool) → le q p ≡ b → b ≡ false
        go true e = absurd (true≢false (sym (is_true (le t p) (order.le_trans t q p tq (subst T (sym e) tt))) ∙ at.past))
        go false e = refl

    pub share_is : Share (share_of (stop_at ps cs (k - 1)) (stop_at ps cs k) t)
    share_is =
        let l = at.there in
        let x = t ⊖ p in
        let some = difference_above p q (single (k - 1) (omega arith)) (single k l) fp fq apart whole in
        let low = sub_rising p t fp ft pt in
        let high = sub_mono t p q p ft fp fq fp tq (order.le_refl p (number (k - 1) (omega arith))) in
        let fx : T (finite x) = order.finite_between f0 x (q ⊖ p) one_number.0 whole low high in
        let a = quotient_low x (q ⊖ p) fx whole some low in
        let b = quotient_high x (q ⊖ p) fx whole some low high in
        record { whole = order.finite_between f0 (x ⊘ (q ⊖ p)) f1 one_number.0 one_number.1 a b; low = a; high = b }
