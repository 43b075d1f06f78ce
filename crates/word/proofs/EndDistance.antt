-- Two colours within ±16,382, mixed at the right end: what comes out is within the least threshold of the right one. Assumes nothing.
use mathlib.Core.Path.{◌≡◌, refl, ◌∙◌}
use mathlib.Core.Bool.{true, false}
use Prim.Native.Nat.{ℕ, zero, suc, ◌*◌, ◌<◌}
use native.Mathlib.Nat.{mul-pos, zero-lt-suc, lt_irrefl}
use native.Mathlib.Omega.{arith}
use borrow.Author.Tests.{ne_eqb}
use lib.Dec.{T, lit<}
use lib.IntN.{ℤ}
use lib.Ieee.{Float, nan, inf, fin, binary32, up, down, fits, of_bits, round, add, mul, div, sum, le}
use lib.Ieee.Fits.{add-fits, up_pos, down_pos}
use lib.Ieee.Scale.{finite, round_same}
use Rattle.float.specs.F32.{◌⊕◌, ◌⊖◌, ◌⊗◌, ◌⊘◌, f1, f2}
use Rattle.float.specs.Number.{clamp_of}
use Rattle.float.proofs.Order as order
use Rattle.float.proofs.SignedRound.{pro}
use Rattle.float.proofs.Spans.{difference_above}
use Rattle.sqrt.specs.Root.{root_of}
use Rattle.blend.specs.Blend.{linear}
use Rattle.blend.specs.declared.Rgba.{Rgba}
use Rattle.difference.specs.Difference.{clamped_of, squares_of, distance_of}
use Rattle.difference.proofs.Sizes.{Room, Small, most4, squares_small, half_root}
use Rattle.sampling.specs.Constants.{least_threshold}
use Rattle.word.specs.Word.{Tame, TameColour}
use Rattle.word.proofs.EndSums.{slack}
use Rattle.word.proofs.EndChannel.{channel_low, channel_high}

-- ---- a number over itself
one_is : round binary32 false 1 1 ≡ f1
unfolding round of_bits
one_is = refl

over_itself : (m : ℕ) (e : ℤ) → fin false (suc m) e ⊘ fin false (suc m) e ≡ round binary32 false (suc m * up e * down e) (suc m * up e * down e)
unfolding div
over_itself m e = rw (ne_eqb (suc m) 0 (λ z. absurd (omega arith)))

nothing : (u : ℕ) → 0 < 0 * u → ⊥
nothing u h = omega arith

self_over : (x : Float) → 0 < pro x → x ⊘ x ≡ f1
self_over nan h = absurd (lt_irrefl 0 h)
self_over (inf s) h = absurd (lt_irrefl 0 h)
self_over (fin true m e) h = absurd (lt_irrefl 0 h)
self_over (fin false zero e) h = absurd (nothing (up e) h)
self_over (fin false (suc m) e) h =
    let a = suc m * up e * down e in
    over_itself m e ∙ round_same binary32 false a a 1 1 (mul-pos (mul-pos (zero-lt-suc m) (up_pos e)) (down_pos e)) (lit< tt) (omega arith) ∙ one_is

pub share_one : (a b : Float) → T (fits binary32 a) → T (fits binary32 b) → T (finite a) → T (finite b) → le b a ≡ false → T (finite (b ⊖ a)) → (b ⊖ a) ⊘ (b ⊖ a) ≡ f1
share_one a b ta tb fa fb apart whole = self_over (b ⊖ a) (difference_above a b ta tb fa fb apart whole)

-- ---- colours whose clamped channels are that near
room_slack : Room slack
unfolding of_bits mul add sum round
room_slack = record { whole = tt; one = tt; two = tt; three = tt; four = tt }

root_slack : T (finite (root_of (most4 slack))) × T (le (root_of (most4 slack) ⊘ f2) least_threshold)
unfolding root_of of_bits mul add sum div round le
root_slack = (tt, tt)

abbrev NearChannel : Float → Float → Type 0
NearChannel x y = Small (clamp_of x ⊖ clamp_of y) slack

pub slack_near : (x y : Rgba) → NearChannel x.r y.r → NearChannel x.g y.g → NearChannel x.b y.b → NearChannel x.a y.a → T (le (distance_of x y) least_threshold)
unfolding clamped_of
slack_near x y r g b a =
    let s = squares_of (clamped_of x) (clamped_of y) in
    order.le_trans (root_of s ⊘ f2) (root_of (most4 slack) ⊘ f2) least_threshold
    (half_root s (most4 slack) single (add-fits binary32 _ _) (squares_small slack room_slack (clamped_of x) (clamped_of y) r g b a) root_slack.0) root_slack.1
  where
    single : T (fits binary32 (squares_of (clamped_of x) (clamped_of y)))
    single = unfold squares_of in add-fits binary32 _ _

-- ---- the colour that comes out at the right end
module _ (p q : Rgba) (tp : TameColour p) (tq : TameColour q) where
  channel : (a b : Float) → Tame a → Tame b → NearChannel b (a ⊕ f1 ⊗ (b ⊖ a))
  channel a b ta tb = record { least = channel_low a b ta tb; most = channel_high a b ta tb }

  pub end_near : T (le (distance_of q (linear p q f1)) least_threshold)
  unfolding linear
  end_near =
      slack_near q _ (channel p.r q.r tp.red tq.red) (channel p.g q.g tp.green tq.green) (channel p.b q.b tp.blue tq.blue) (channel p.a q.a tp.alpha tq.alpha)
