-- A linear ramp between two neighbouring stops: its colour there is the mix of theirs (`on_pair`), each channel is little off a line (`colour_mixed`), and lies from 0 to 1 where theirs do (`mixed_clear`). Assumes nothing.
use mathlib.Core.Path.{◌≡◌, ap, ◌∙◌}
use mathlib.Core.Bool.{false}
use mathlib.Core.List.{List}
use Prim.Native.Nat.{ℕ, suc, ◌+◌, ◌-◌, ◌^◌, ◌≤◌, ◌<◌}
use native.Mathlib.Omega.{arith}
use lib.Dec.{T}
use lib.ListN.{length}
use lib.Ieee.{Float, binary32, of_bits, fits, le, lt, is_nan}
use lib.Ieee.Bits.{is_true}
use lib.Ieee.Fits.{add-fits}
use lib.Ieee.Scale.{finite}
use Rattle.float.specs.F32.{◌⊖◌, ◌⊘◌, f0, f1}
use Rattle.float.proofs.Order.{lt→le, le_lt_trans, lt-le_trans, not_lt_from_le, le_refl, no_nan_l, finite_between}
use Rattle.float.proofs.Rounding.{sub_mono, sub_rising}
use Rattle.float.proofs.SignedRound.{pro}
use Rattle.float.proofs.Spans.{quotient_low, quotient_high, difference_above}
use Rattle.float.proofs.Placed.{Placed}
use Rattle.blend.specs.Blend.{linear, linear1}
use Rattle.blend.specs.Pair.{linear_pair}
use Rattle.blend.specs.declared.Rgba.{Rgba}
use Rattle.blend.proofs.Clear.{Clear, clear_finite}
use Rattle.blend.proofs.MixOff.{mix_off}
use Rattle.difference.proofs.Measuring.{ClearColour}
use Rattle.stops.specs.Lent.{Ramp}
use Rattle.stops.specs.Stops.{pos_at, colour_at}
use Rattle.stops.specs.Place.{Rising, place_of}
use Rattle.stops.specs.Pair.{pair_of, between, colour_in}
use Rattle.stops.specs.declared.Kind.TheVariants.{Linear}
use Rattle.stops.specs.declared.Place.TheVariants.{Between}
use Rattle.stops.proofs.Choice.{rising_numbers, first-is, place_between}
use Rattle.gradient.specs.Ramp.{colour_of}
use Rattle.ordinary.proofs.UnitBlend.{blend_low, blend_high}
use Rattle.word.proofs.Weighed.{not-le}
use Rattle.word.proofs.TwoLines.{MixedFour}
use Rattle.word.proofs.ClearDistance.{units_of}

unit-finite : T (finite f0) × T (finite f1)
unfolding of_bits
unit-finite = (tt, tt)

abbrev pub mixed_colour : Float → Float → Rgba → Rgba → Float → Rgba
mixed_colour p q c e x = linear c e ((x ⊖ p) ⊘ (q ⊖ p))

module _ (ramp : Ramp) (of_kind : ramp.kind ≡ Linear) (rising : Rising ramp.positions) where
  abbrev ps : List Float
  ps = ramp.positions

  module _ (j : ℕ) (inside : suc j < length ps) (x : Float) (from : T (lt (pos_at ps j) x)) (to : T (le x (pos_at ps (suc j)))) (before : T (lt x (pos_at ps (length ps - 1)))) where
    number : is_nan x ≡ false
    number = no_nan_l x (pos_at ps (suc j)) to

    past : (k : ℕ) → k ≤ j → T (lt (pos_at ps k) x)
    past k l = le_lt_trans (pos_at ps k) (pos_at ps j) x (rising k j l (omega arith)) from

    placed : place_of ps x ≡ Between (suc j)
    placed =
        place_between ps x (not-le (pos_at ps 0) x (past 0 (omega arith))) (not-le x (pos_at ps (length ps - 1)) before) number
        ∙ ap Between (first-is x ps (suc j) number (rising_numbers ps rising) (omega arith) (λ k l. is_true _ (past k (omega arith))) (λ l. not_lt_from_le (pos_at ps (suc j)) x to))

    pub on_pair : colour_of ramp x ≡ mixed_colour (pos_at ps j) (pos_at ps (suc j)) (colour_at ramp.channels j) (colour_at ramp.channels (suc j)) x
    unfolding colour_of colour_in between pair_of linear_pair
    on_pair = let e : suc j - 1 ≡ j = omega arith in rw (of_kind, placed, e)

-- ---- four channels, each off its line
module _ (p q x : Float) (m P Q X τ σ : ℕ) (at_p : Placed m p P) (at_q : Placed m q Q) (at_x : Placed m x X) (come : P + τ ≡ X) (left : X + σ ≡ Q) (wide : 0 < τ + σ) (from : T (le p x)) (to : T (le x q)) (whole : T (finite (q ⊖ p))) where
  come_finite : T (finite (x ⊖ p))
  come_finite =
      let fp = at_p.is.whole in
      let fx = at_x.is.whole in
      let fq = at_q.is.whole in
      finite_between f0 (x ⊖ p) (q ⊖ p) unit-finite.0 whole (sub_rising p x fp fx from) (sub_mono x p q p fx fp fq fp to (le_refl p (no_nan_l p x from)))

  pub colour_mixed : (c e : Rgba) → ClearColour c → ClearColour e → MixedFour (2 ^ 149) τ σ (units_of c) (units_of e) (units_of (mixed_colour p q c e x))
  unfolding linear
  colour_mixed c e wc we =
      let law = mix_off p q x m P Q X τ σ at_p at_q at_x come left wide from to come_finite whole in
      (law c.r e.r wc.red we.red, law c.g e.g wc.green we.green, law c.b e.b wc.blue we.blue, law c.a e.a wc.alpha we.alpha)

-- ---- and from 0 to 1
module _ (p q x : Float) (sp : T (fits binary32 p)) (sq : T (fits binary32 q)) (fp : T (finite p)) (fq : T (finite q)) (from : T (lt p x)) (to : T (le x q)) (whole : T (finite (q ⊖ p))) where
  fx : T (finite x)
  fx = finite_between p x q fp fq (lt→le p x from) to

  come_low : T (le f0 (x ⊖ p))
  come_low = sub_rising p x fp fx (lt→le p x from)

  come_high : T (le (x ⊖ p) (q ⊖ p))
  come_high = sub_mono x p q p fx fp fq fp to (le_refl p (no_nan_l p x (lt→le p x from)))

  come_whole : T (finite (x ⊖ p))
  come_whole = finite_between f0 (x ⊖ p) (q ⊖ p) unit-finite.0 whole come_low come_high

  some : 0 < pro (q ⊖ p)
  some = difference_above p q sp sq fp fq (not-le p q (lt-le_trans p x q from to)) whole

  pub mixed_clear : (c e : Rgba) → ClearColour c → ClearColour e → ClearColour (mixed_colour p q c e x)
  unfolding linear
  mixed_clear c e wc we = record { red = one wc.red we.red; green = one wc.green we.green; blue = one wc.blue we.blue; alpha = one wc.alpha we.alpha }
    where
      share : Float
      share = (x ⊖ p) ⊘ (q ⊖ p)

      low : T (le f0 share)
      low = quotient_low (x ⊖ p) (q ⊖ p) come_whole whole some come_low

      high : T (le share f1)
      high = quotient_high (x ⊖ p) (q ⊖ p) come_whole whole some come_low come_high

      one : {a b : Float} → Clear a → Clear b → Clear (linear1 a b share)
      one {a} {b} wa wb =
          let fs = finite_between f0 share f1 unit-finite.0 unit-finite.1 low high in
          record {
            single = add-fits binary32 _ _;
            low = blend_low a b share wa.single (clear_finite a wa) (clear_finite b wb) fs wa.low wa.high wb.low wb.high low high;
            high = blend_high a b share wa.single (clear_finite a wa) (clear_finite b wb) fs wa.low wa.high wb.low wb.high low high;
          }
