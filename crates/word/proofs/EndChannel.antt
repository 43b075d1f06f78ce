-- The mix of two numbers within ±16,382 at its right end, clamped, is near the clamped right one, wherever that lies. Assumes nothing.
use mathlib.Core.Path.{◌≡◌, refl, subst}
use mathlib.Core.Bool.{Bool, true, false}
use lib.Dec.{T}
use lib.Ieee.{Float, binary32, up, of_bits, neg, le, lt, is_nan}
use lib.Ieee.Bits.{of_bits-fits}
use lib.Ieee.Fits.{sub-fits, cond-fits}
use lib.Ieee.Scale.{finite}
use Rattle.float.specs.F32.{◌⊖◌, ◌⊗◌, f0, f1}
use Rattle.float.specs.Number.{clamp_of}
use Rattle.float.proofs.Order as order
use Rattle.float.proofs.Rounding.{add_mono, sub_mono}
use Rattle.float.proofs.Clamped.{clamp_low, clamp_high, clamp_mono}
use Rattle.word.specs.Word.{tame, Tame}
use Rattle.word.proofs.EndSums.{slack, finite-tame}
use Rattle.word.proofs.RightEnd.{end_mix, once_above, once_below, zl, zh, zl_q, q_zh, off_high, off_low, clamped_high, clamped_low}

-- ---- the mix rises with its right end
pub tame_finite : (x : Float) → Tame x → T (finite x)
tame_finite x w = order.finite_between (neg tame) x tame finite-tame.1 finite-tame.0 w.least w.most

module _ (p : Float) (tp : Tame p) where
  gap_finite : (q : Float) → Tame q → T (finite (q ⊖ p))
  gap_finite q tq =
      order.finite_between (neg tame ⊖ tame) (q ⊖ p) (tame ⊖ neg tame) finite-tame.3 finite-tame.2
      (sub_mono (neg tame) tame q p finite-tame.1 finite-tame.0 (tame_finite q tq) (tame_finite p tp) tq.least tp.most)
      (sub_mono q p tame (neg tame) (tame_finite q tq) (tame_finite p tp) finite-tame.0 finite-tame.1 tq.most tp.least)

  same_p : T (le p p)
  same_p = order.le_refl p (order.no_nan_r (neg tame) p tp.least)

  rises : (a b : Float) → Tame a → Tame b → T (le a b) → T (le (end_mix p a) (end_mix p b))
  rises a b ta tb h =
      let fa = gap_finite a ta in
      let fb = gap_finite b tb in
      let fp = tame_finite p tp in
      let up = sub_mono a p b p (tame_finite a ta) fp (tame_finite b tb) fp h same_p in
      let na = order.le_refl (a ⊖ p) (order.no_nan_l (a ⊖ p) (b ⊖ p) up) in
      let nb = order.le_refl (b ⊖ p) (order.no_nan_r (a ⊖ p) (b ⊖ p) up) in
      let va = once_below (a ⊖ p) (a ⊖ p) (b ⊖ p) (sub-fits binary32 a p) fa fb na up in
      let vb = once_above (b ⊖ p) (b ⊖ p) (b ⊖ p) (sub-fits binary32 b p) fb fb nb nb in
      let low = once_above (a ⊖ p) (a ⊖ p) (b ⊖ p) (sub-fits binary32 a p) fa fb na up in
      let high = once_below (b ⊖ p) (b ⊖ p) (b ⊖ p) (sub-fits binary32 b p) fb fb nb nb in
      let v = order.le_trans (f1 ⊗ (a ⊖ p)) (b ⊖ p) (f1 ⊗ (b ⊖ p)) va vb in
      add_mono p (f1 ⊗ (a ⊖ p)) p (f1 ⊗ (b ⊖ p)) fp (order.finite_between (a ⊖ p) (f1 ⊗ (a ⊖ p)) (b ⊖ p) fa fb low va) fp
      (order.finite_between (b ⊖ p) (f1 ⊗ (b ⊖ p)) (b ⊖ p) fb fb vb high) same_p v

-- ---- any right end
units : T (finite f0) × T (finite f1) × T (le (neg tame) f0) × T (le f1 tame) × T (le f0 f1)
unfolding of_bits neg le
units = (tt, tt, tt, tt, tt)

module _ (p q : Float) (tp : Tame p) (tq : Tame q) where
  number_q : is_nan q ≡ false
  number_q = order.no_nan_r (neg tame) q tq.least

  abbrev c : Float
  c = clamp_of q

  c_low : T (le f0 c)
  c_low = clamp_low q number_q

  c_high : T (le c f1)
  c_high = clamp_high q number_q

  c_finite : T (finite c)
  c_finite = order.finite_between f0 c f1 units.0 units.1 c_low c_high

  c_tame : Tame c
  unfolding clamp_of
  c_tame =
      record {
        single = cond-fits binary32 (lt q f0) f0 _ (of_bits-fits binary32 _) (cond-fits binary32 (lt f1 q) f1 q (of_bits-fits binary32 _) tq.single);
        least = order.le_trans (neg tame) f0 c units.2 c_low;
        most = order.le_trans c f1 tame c_high units.3;
      }

  fp : T (finite p)
  fp = tame_finite p tp

  abbrev low : Float
  low = zl p tp.single fp tp.least tp.most c c_tame.single c_finite c_low c_high

  abbrev high : Float
  high = zh p tp.single fp tp.least tp.most c c_tame.single c_finite c_low c_high

  c_mix_low : T (le low (clamp_of (end_mix p c)))
  c_mix_low = clamped_low p tp.single fp tp.least tp.most c c_tame.single c_finite c_low c_high

  c_mix_high : T (le (clamp_of (end_mix p c)) high)
  c_mix_high = clamped_high p tp.single fp tp.least tp.most c c_tame.single c_finite c_low c_high

  abbrev y : Float
  y = clamp_of (end_mix p q)

  mix_number : is_nan (end_mix p q) ≡ false
  mix_number = order.no_nan_l (end_mix p q) (end_mix p q) (rises p tp q q tq tq (order.le_refl q number_q))

  both : T (le low y) × T (le y high)
  both = go (lt q f0) (lt f1 q) refl refl
    where
      go : (a b : Bool) → lt q f0 ≡ a → lt f1 q ≡ b → T (le low y) × T (le y high)
      go true b d e =
          let is : c ≡ f0 = unfold clamp_of in rw d in
          let under : T (le q c) = rw is (order.lt→le q f0 (order.as_T _ d)) in (
            order.le_trans low c y (zl_q p tp.single fp tp.least tp.most c c_tame.single c_finite c_low c_high) (rw is (clamp_low (end_mix p q) mix_number)),
            order.le_trans y (clamp_of (end_mix p c)) high (clamp_mono (end_mix p q) (end_mix p c) (rises p tp q c tq c_tame under)) c_mix_high,
          )
      go false true d e =
          let is : c ≡ f1 = unfold clamp_of in rw (d, e) in
          let over : T (le c q) = rw is (order.lt→le f1 q (order.as_T _ e)) in (
            order.le_trans low (clamp_of (end_mix p c)) y c_mix_low (clamp_mono (end_mix p c) (end_mix p q) (rises p tp c q c_tame tq over)),
            order.le_trans y c high (rw is (clamp_high (end_mix p q) mix_number)) (q_zh p tp.single fp tp.least tp.most c c_tame.single c_finite c_low c_high),
          )
      go false false d e =
          let is : c ≡ q = unfold clamp_of in rw (d, e) in
          (subst (λ (x : Float). T (le low (clamp_of (end_mix p x)))) is c_mix_low, subst (λ (x : Float). T (le (clamp_of (end_mix p x)) high)) is c_mix_high)

  y_finite : T (finite y)
  y_finite = order.finite_between f0 y f1 units.0 units.1 (clamp_low (end_mix p q) mix_number) (clamp_high (end_mix p q) mix_number)

  pub channel_high : T (le (clamp_of q ⊖ clamp_of (end_mix p q)) slack)
  channel_high = off_high p tp.single fp tp.least tp.most c c_tame.single c_finite c_low c_high y y_finite both.0

  pub channel_low : T (le (neg slack) (clamp_of q ⊖ clamp_of (end_mix p q)))
  channel_low = off_low p tp.single fp tp.least tp.most c c_tame.single c_finite c_low c_high y y_finite both.1
