-- Linear stops that never fall, and a pair of neighbours among them: how far off its line the colour between the two is (`pair_mixed`), that it is clear (`pair_clear`), which pair t lies in (`found`), and that where the stops are clear the colour is throughout (`clear_at`). Assumes nothing.
use mathlib.Core.Path.{◌≡◌, refl, sym, ◌∙◌, subst}
use mathlib.Core.Bool.{Bool, true, false, true≢false}
use mathlib.Core.List.{List}
use Prim.Native.Nat.{ℕ, suc, ◌+◌, ◌-◌, ◌^◌, ◌≤◌, ◌<◌}
use native.Mathlib.Nat.{lt_of_not-le}
use native.Mathlib.Omega.{arith}
use lib.Dec.{T}
use lib.ListN.{length}
use lib.Ieee.{Float, of_bits, le, lt, is_nan}
use lib.Ieee.Bits.{is_true}
use lib.Ieee.Scale.{finite}
use Rattle.float.specs.F32.{◌⊖◌, f0}
use Rattle.float.proofs.Order.{as_T, lt_is, lt→le, not_lt_from_le, no_nan_l, finite_between}
use Rattle.float.proofs.Rounding.{sub_mono, sub_rising}
use Rattle.float.proofs.Placed.{Placed, placed, le_place}
use Rattle.blend.specs.declared.Rgba.{Rgba}
use Rattle.difference.proofs.Measuring.{ClearColour}
use Rattle.stops.specs.Lent.{Ramp}
use Rattle.stops.specs.Stops.{pos_at, colour_at}
use Rattle.stops.specs.Place.{Rising, first_at}
use Rattle.stops.specs.Pair.{colour_in}
use Rattle.stops.specs.declared.Kind.TheVariants.{Linear}
use Rattle.stops.proofs.Valid.{first_le, first_pos}
use Rattle.stops.proofs.Choice.{first_reaches, before_first, place_first, place_last}
use Rattle.gradient.specs.Ramp.{colour_of}
use Rattle.word.proofs.Singles.{Single}
use Rattle.word.proofs.Weighed.{not-le}
use Rattle.word.proofs.TwoLines.{MixedFour}
use Rattle.word.proofs.ClearDistance.{units_of}
use Rattle.word.proofs.LinearPairs.{mixed_colour, on_pair, colour_mixed, mixed_clear}

-- ---- stops that never fall, f32 and finite, whose ends are a finite way apart
pub record Ladder (xs : List Float) : Type 0 where
  pub rising : Rising xs
  pub singles : (i : ℕ) → i < length xs → Single (pos_at xs i)
  pub whole : (i : ℕ) → i < length xs → T (finite (pos_at xs i))
  pub span : T (finite (pos_at xs (length xs - 1) ⊖ pos_at xs 0))

zero-finite : T (finite f0)
unfolding of_bits
zero-finite = tt

step_finite : (xs : List Float) → Ladder xs → (j : ℕ) → suc j < length xs → T (finite (pos_at xs (suc j) ⊖ pos_at xs j))
step_finite xs s j l =
    let fj = s.whole j (omega arith) in
    let fk = s.whole (suc j) l in
    finite_between f0 (pos_at xs (suc j) ⊖ pos_at xs j) (pos_at xs (length xs - 1) ⊖ pos_at xs 0) zero-finite s.span (sub_rising (pos_at xs j) (pos_at xs (suc j)) fj fk (s.rising j (suc j) (omega arith) l))
    (sub_mono (pos_at xs (suc j)) (pos_at xs j) (pos_at xs (length xs - 1)) (pos_at xs 0) fk fj (s.whole (length xs - 1) (omega arith)) (s.whole 0 (omega arith)) (s.rising (suc j) (length xs - 1) (omega arith) (omega arith)) (s.rising 0 j (omega arith) (omega arith)))

-- a place above another
pub place_lt : (m : ℕ) (x y : Float) (X Y : ℕ) → Placed m x X → Placed m y Y → T (lt x y) → X < Y
place_lt m x y X Y v w h = lt_of_not-le (λ k. true≢false (sym (is_true _ h) ∙ not_lt_from_le x y (le_place m y x Y X w v k)))

-- ---- a pair of stops of a linear ramp, and what its colours are off their line
module _ (ramp : Ramp) (of_kind : ramp.kind ≡ Linear) (s : Ladder ramp.positions) (j : ℕ) (inside : suc j < length ramp.positions) (c e : Rgba) (is_c : colour_at ramp.channels j ≡ c) (is_e : colour_at ramp.channels (suc j) ≡ e)
    (wc : ClearColour c) (we : ClearColour e) (m P Q : ℕ) (at_p : Placed m (pos_at ramp.positions j) P) (at_q : Placed m (pos_at ramp.positions (suc j)) Q) where
  abbrev ps : List Float
  ps = ramp.positions

  pair_is : (x : Float) → T (lt (pos_at ps j) x) → T (le x (pos_at ps (suc j))) → T (lt x (pos_at ps (length ps - 1))) → colour_of ramp x ≡ mixed_colour (pos_at ps j) (pos_at ps (suc j)) c e x
  pair_is x from to before = on_pair ramp of_kind s.rising j inside x from to before ∙ rw (is_c, is_e)

  pub pair_mixed : (x : Float) (X : ℕ) → Placed m x X → T (lt (pos_at ps j) x) → T (le x (pos_at ps (suc j))) → T (lt x (pos_at ps (length ps - 1))) → (τ σ : ℕ) → P + τ ≡ X → X + σ ≡ Q
      → MixedFour (2 ^ 149) τ σ (units_of c) (units_of e) (units_of (colour_of ramp x))
  pair_mixed x X at_x from to before τ σ come left =
      subst (λ (k : Rgba). MixedFour (2 ^ 149) τ σ (units_of c) (units_of e) (units_of k)) (sym (pair_is x from to before))
      (colour_mixed (pos_at ps j) (pos_at ps (suc j)) x m P Q X τ σ at_p at_q at_x come left (some P X τ σ (place_lt m (pos_at ps j) x P X at_p at_x from) come) (lt→le (pos_at ps j) x from) to (step_finite ps s j inside) c e wc we)
    where
      some : (p x τ σ : ℕ) → p < x → p + τ ≡ x → 0 < τ + σ
      some p x τ σ h e = omega arith

  pub pair_clear : (x : Float) → T (lt (pos_at ps j) x) → T (le x (pos_at ps (suc j))) → T (lt x (pos_at ps (length ps - 1))) → ClearColour (colour_of ramp x)
  pair_clear x from to before =
      subst ClearColour (sym (pair_is x from to before))
      (mixed_clear (pos_at ps j) (pos_at ps (suc j)) x (s.singles j (omega arith)) (s.singles (suc j) inside) (s.whole j (omega arith)) (s.whole (suc j) inside) from to (step_finite ps s j inside) c e wc we)

-- ---- the pair that t lies in
pub record LiesIn (xs : List Float) (t : Float) : Type 0 where
  pub j : ℕ
  pub inside : suc j < length xs
  pub from : T (lt (pos_at xs j) t)
  pub to : T (le t (pos_at xs (suc j)))

below : (x t : Float) → is_nan x ≡ false → is_nan t ≡ false → le t x ≡ false → T (lt x t)
below x t n k h = subst T (sym (lt_is x t n k)) (rw h tt)

pub found : (xs : List Float) → Ladder xs → 2 ≤ length xs → (t : Float) → T (lt (pos_at xs 0) t) → T (lt t (pos_at xs (length xs - 1))) → LiesIn xs t
found xs w two t low high =
    let k = first_at t xs in
    let a = first_pos t xs (omega arith) (not-le (pos_at xs 0) t low) in
    let b = first_le t xs (length xs - 1) (omega arith) (is_true _ (lt→le t (pos_at xs (length xs - 1)) high)) in
    let e : suc (k - 1) ≡ k = omega arith in
    record {
      j = k - 1;
      inside = omega arith;
      from = below (pos_at xs (k - 1)) t (no_nan_l _ _ (w.rising (k - 1) (k - 1) (omega arith) (omega arith))) (no_nan_l t _ (lt→le t (pos_at xs (length xs - 1)) high)) (before_first t xs (k - 1) (omega arith));
      to = subst (λ (n : ℕ). T (le t (pos_at xs n))) (sym e) (as_T _ (first_reaches t xs (omega arith)));
    }

-- ---- where the stops are clear, the colour is clear throughout
module _ (ramp : Ramp) (of_kind : ramp.kind ≡ Linear) (s : Ladder ramp.positions) (two : 2 ≤ length ramp.positions) (stop_clear : (i : ℕ) → i < length ramp.positions → ClearColour (colour_at ramp.channels i)) where
  abbrev xs : List Float
  xs = ramp.positions

  number_at : (i : ℕ) → i < length xs → is_nan (pos_at xs i) ≡ false
  number_at i l = no_nan_l _ _ (s.rising i i (omega arith) l)

  at_first : (t : Float) → le t (pos_at xs 0) ≡ true → colour_of ramp t ≡ colour_at ramp.channels 0
  unfolding colour_of colour_in
  at_first t d = rw (of_kind, place_first xs t d)

  at_last : (t : Float) → le t (pos_at xs 0) ≡ false → le (pos_at xs (length xs - 1)) t ≡ true → colour_of ramp t ≡ colour_at ramp.channels (length xs - 1)
  unfolding colour_of colour_in
  at_last t d k = rw (of_kind, place_last xs t d k)

  pub clear_at : (t : Float) → is_nan t ≡ false → ClearColour (colour_of ramp t)
  clear_at t n = go (le t (pos_at xs 0)) (le (pos_at xs (length xs - 1)) t) refl refl
    where
      go : (a b : Bool) → le t (pos_at xs 0) ≡ a → le (pos_at xs (length xs - 1)) t ≡ b → ClearColour (colour_of ramp t)
      go true b d k = subst ClearColour (sym (at_first t d)) (stop_clear 0 (omega arith))
      go false true d k = subst ClearColour (sym (at_last t d k)) (stop_clear (length xs - 1) (omega arith))
      go false false d k =
          let high = below t (pos_at xs (length xs - 1)) n (number_at (length xs - 1) (omega arith)) k in
          let w = found xs s two t (below (pos_at xs 0) t (number_at 0 (omega arith)) n d) high in
          let l = w.inside in
          let j = w.j in
          let p = placed (pos_at xs j) (s.singles j (omega arith)) (s.whole j (omega arith)) in
          let q = placed (pos_at xs (suc j)) (s.singles (suc j) l) (s.whole (suc j) l) in
          pair_clear ramp of_kind s j l _ _ refl refl (stop_clear j (omega arith)) (stop_clear (suc j) l) _ _ _ p.1 q.1 t w.from w.to high
