-- Two colours within 0 to 1 and what is mixed straight between them: two points on the way show what lies between them within the least threshold. Assumes nothing.
use mathlib.Core.Path.{◌≡◌, subst}
use Prim.Native.Nat.{ℕ, ◌+◌, ◌*◌, ◌^◌, ◌≤◌, ◌<◌}
use native.Mathlib.Nat.{le_dest, lt_of_not-le}
use native.Mathlib.Omega.{arith}
use lib.Dec.{T, lit≤}
use lib.Ieee.{Float, binary32, neg, sub, le, lt}
use lib.Ieee.Fits.{add-fits}
use Rattle.float.specs.F32.{◌⊖◌, ◌⊘◌}
use Rattle.float.specs.Number.{clamp_of}
use Rattle.float.specs.Units.{count}
use Rattle.float.proofs.Order as order
use Rattle.float.proofs.UnitSums.{opposite, sum_under}
use Rattle.blend.specs.Blend.{linear}
use Rattle.blend.specs.declared.Rgba.{Rgba}
use Rattle.difference.specs.Difference.{distance_of}
use Rattle.difference.proofs.Sizes.{Small}
use Rattle.blend.proofs.Clear.{Clear, clear_finite, clear_counted}
use Rattle.difference.proofs.Measuring.{ClearColour}
use Rattle.sampling.specs.Constants.{least_threshold}
use Rattle.ordinary.proofs.UnitBlend.{blend_low, blend_high}
use Rattle.word.proofs.EndSums.{clamp_id, slack, slack_units, sum_over}
use Rattle.word.proofs.EndDistance.{slack_near}
use Rattle.word.proofs.ThreePoints.{Line}
use Rattle.word.proofs.MixLine.{counts_le, le_counts, share_clear}
use Rattle.word.proofs.Straight.{mix_at, as_straight}

-- ---- a mix lies from 0 to 1
module _ (p q t : Float) (wp : Clear p) (wq : Clear q) (wt : Clear t) (pt : T (le p t)) (tq : T (le t q)) (some : count p < count q) where
  share : Clear ((t ⊖ p) ⊘ (q ⊖ p))
  share =
      let x = le_dest (counts_le p t wp wt pt) in
      let y = le_dest (counts_le t q wt wq tq) in
      share_clear p q t p p wp wq wt wp wp pt tq x.0 y.0 x.1 y.1 (left (count p) (count t) (count q) x.0 y.0 x.1 y.1 some)
    where
      left : (m n o s r : ℕ) → m + s ≡ n → n + r ≡ o → m < o → 0 < s + r
      left m n o s r e f h = omega arith

  pub mix_clear : (b c : Float) → Clear b → Clear c → Clear (mix_at p q b c t)
  mix_clear b c wb wc =
      let s = (t ⊖ p) ⊘ (q ⊖ p) in
      let fb = clear_finite b wb in
      let fc = clear_finite c wc in
      let fs = clear_finite s share in
      record {
        single = add-fits binary32 b _;
        low = blend_low b c s wb.single fb fc fs wb.low wb.high wc.low wc.high share.low share.high;
        high = blend_high b c s wb.single fb fc fs wb.low wb.high wc.low wc.high share.low share.high;
      }

  pub colour_clear : (b c : Rgba) → ClearColour b → ClearColour c → ClearColour (linear b c ((t ⊖ p) ⊘ (q ⊖ p)))
  unfolding linear
  colour_clear b c v w =
      record { red = mix_clear _ _ v.red w.red; green = mix_clear _ _ v.green w.green; blue = mix_clear _ _ v.blue w.blue; alpha = mix_clear _ _ v.alpha w.alpha }

-- ---- two numbers that are 3 * 2 ^ -16 apart at most
close : (x y : Float) → Clear x → Clear y → 2 ^ 16 * count x ≤ 2 ^ 16 * count y + 3 * 2 ^ 149 → 2 ^ 16 * count y ≤ 2 ^ 16 * count x + 3 * 2 ^ 149 → Small (clamp_of x ⊖ clamp_of y) slack
close x y wx wy h k =
    rw (clamp_id x wx.low wx.high, clamp_id y wy.low wy.high)
    (unfold sub in
    record {
      least = sum_over x (neg y) (neg slack) (count x) 0 0 (count y) 0 (8194 * 2 ^ 126) (clear_counted x wx) (opposite y (count y) 0 (clear_counted y wy)) (opposite slack (8194 * 2 ^ 126) 0 slack_units)
          (under (count y) (count x) (2 ^ 149) (8194 * 2 ^ 126) k (lit≤ tt));
      most = sum_under x (neg y) slack (count x) 0 0 (count y) (8194 * 2 ^ 126) 0 (clear_counted x wx) (opposite y (count y) 0 (clear_counted y wy)) slack_units (over (count x) (count y) (2 ^ 149) (8194 * 2 ^ 126) h (lit≤ tt));
    })
  where
    over : (x y u z : ℕ) → 2 ^ 16 * x ≤ 2 ^ 16 * y + 3 * u → 3 * u ≤ 2 ^ 16 * z → x + 0 + 0 ≤ z + 0 + y
    over x y u z h k = omega arith

    under : (y x u z : ℕ) → 2 ^ 16 * y ≤ 2 ^ 16 * x + 3 * u → 3 * u ≤ 2 ^ 16 * z → 0 + 0 + y ≤ x + 0 + z
    under y x u z h k = omega arith

-- ---- the pair of a point on the way and of another, where k stands
pub record Stands (b c k : Rgba) (l d : ℕ) : Type 0 where
  pub red : Line (count k.r) (count b.r) (count c.r) l d (2 ^ 149)
  pub green : Line (count k.g) (count b.g) (count c.g) l d (2 ^ 149)
  pub blue : Line (count k.b) (count b.b) (count c.b) l d (2 ^ 149)
  pub alpha : Line (count k.a) (count b.a) (count c.a) l d (2 ^ 149)

module _ (p q a t e : Float) (b c k : Rgba) (wp : Clear p) (wq : Clear q) (wa : Clear a) (wt : Clear t) (we : Clear e) (wb : ClearColour b) (wc : ClearColour c) (wk : ClearColour k)
    (pa : T (le p a)) (at : T (le a t)) (te : T (le t e)) (eq : T (le e q)) (some : T (lt a e)) (stands : (l d : ℕ) → count p + l ≡ count e → count e + d ≡ count q → Stands b c k l d) where
  ae : count a < count e
  ae = lt_of_not-le (λ h. subst T (order.not_lt_from_le a e (le_counts e a we wa h)) some)

  pq : count p < count q
  pq = let h = counts_le p a wp wa pa in let k = ae in let l = counts_le e q we wq eq in omega arith

  channel : (x y z : Float) → Clear x → Clear y → Clear z → ((l d : ℕ) → count p + l ≡ count e → count e + d ≡ count q → Line (count z) (count x) (count y) l d (2 ^ 149))
      → Small (clamp_of (mix_at p q x y t) ⊖ clamp_of (mix_at a e (mix_at p q x y a) z t)) slack
  channel x y z wx wy wz there =
      let tq = order.le_trans t e q te eq in
      let ua = mix_clear p q a wp wq wa pa (order.le_trans a t q at tq) pq x y wx wy in
      let ut = mix_clear p q t wp wq wt (order.le_trans p a t pa at) tq pq x y wx wy in
      let um = mix_clear a e t wa we wt at te ae (mix_at p q x y a) z ua wz in
      let w = as_straight p q a t e x y z wp wq wa wt we wx wy wz pa at te eq ae ua there in
      close _ _ ut um w.0 w.1

  pub pair_near : T (le (distance_of (linear b c ((t ⊖ p) ⊘ (q ⊖ p))) (linear (linear b c ((a ⊖ p) ⊘ (q ⊖ p))) k ((t ⊖ a) ⊘ (e ⊖ a)))) least_threshold)
  unfolding linear
  pair_near =
      slack_near _ _ (channel _ _ _ wb.red wc.red wk.red (λ l d e f. (stands l d e f).red)) (channel _ _ _ wb.green wc.green wk.green (λ l d e f. (stands l d e f).green))
      (channel _ _ _ wb.blue wc.blue wk.blue (λ l d e f. (stands l d e f).blue)) (channel _ _ _ wb.alpha wc.alpha wk.alpha (λ l d e f. (stands l d e f).alpha))
