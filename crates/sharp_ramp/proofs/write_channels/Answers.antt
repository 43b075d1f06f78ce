-- `sharp::write_channels` meets its contract. The loop's invariant: the channels of the bands before i are stored, and what lies past them is as it was. Assumes nothing.
use mathlib.Core.Path.{◌≡◌, sym, ap, ◌∙◌}
use mathlib.Core.List.{List, ◌++◌, append_assoc}
use Prim.Native.Nat.{ℕ, ◌+◌, ◌-◌, ◌*◌, ◌≤◌, ◌<◌}
use native.Mathlib.Omega.{arith}
use lib.ListN.{length, get_or, take, drop, length-take, length-drop}
use lib.Seq.{sets, sets-eq, drop-drop}
use lib.Ieee.{Float, nan}
use borrow.Rule.Slice.PartMut.{put_mid}
use Rattle.std.proofs.lemmas.List.{get_or-take, get_or-drop}
use Rattle.sharp_ramp.specs.Sharp.{band_channel, listed}
use Rattle.sharp_ramp.proofs.Filling.{fill_start, fill_length, fill_part, fill_end}
use Rattle.sharp_ramp.proofs.Laws.{channels_are}
use Rattle.sharp_ramp.proofs.write_channels.Goals as goal

-- a copy into a part stores its numbers one after the other
as_sets : (a k : ℕ) (l v : List Float) → length v ≡ k → a + k ≤ length l → put_mid a k l v ≡ sets l a v
as_sets a k l v e h =
    sym (sets-eq v l a (omega arith) ∙ append_assoc (take a l) v (drop (a + length v) l)
    ∙ ap (λ (r : List Float). take a l ++ (v ++ r)) (ap (λ (n : ℕ). drop (a + n) l) e ∙ sym (drop-drop k a l)))

-- k more of them
stored : (f : ℕ → Float) (old : List Float) (j k : ℕ) (l v : List Float) → length v ≡ k → j + k ≤ length old → l ≡ listed f j ++ drop j old → ((t : ℕ) → t < length v → get_or v t nan ≡ f (j + t))
    → put_mid j k l v ≡ listed f (j + k) ++ drop (j + k) old
stored f old j k l v e h is each =
    as_sets j k l v e (omega (arith, ap length is, fill_length f old j (omega arith)))
    ∙ fill_part f old v j (omega arith) is each
    ∙ ap (λ (n : ℕ). listed f (j + n) ++ drop (j + n) old) e

-- the channels of colour i, and where they go
module _ (colours : List Float) (i : ℕ) (h : 4 * i + 4 ≤ length colours) where
  abbrev colour : List Float
  colour = take (4 * i + 4 - 4 * i) (drop (4 * i) colours)

  four : length colour ≡ 4
  four = omega (arith, length-take (4 * i + 4 - 4 * i) (drop (4 * i) colours), length-drop (4 * i) colours)

  channel : (t : ℕ) → t < 4 → get_or colour t nan ≡ get_or colours (4 * i + t) nan
  channel t l = get_or-take (4 * i + 4 - 4 * i) (drop (4 * i) colours) t nan (omega arith) ∙ get_or-drop (4 * i) colours t nan

  first : (t : ℕ) → t < 4 → get_or colour t nan ≡ band_channel colours (8 * i + t)
  first t l = channel t l ∙ ap (λ (k : ℕ). get_or colours k nan) (omega arith)

  second : (t : ℕ) → t < 4 → get_or colour t nan ≡ band_channel colours (8 * i + 4 + t)
  second t l = channel t l ∙ ap (λ (k : ℕ). get_or colours k nan) (omega arith)

  both : (old l v w : List Float) → v ≡ colour → w ≡ colour → 8 * i + 8 ≤ length old → l ≡ listed (band_channel colours) (8 * i) ++ drop (8 * i) old
      → put_mid (8 * i + 4) (8 * i + 8 - (8 * i + 4)) (put_mid (8 * i) (8 * i + 4 - 8 * i) l v) w ≡ listed (band_channel colours) (8 * (i + 1)) ++ drop (8 * (i + 1)) old
  both old l v w p q room is =
      let f = band_channel colours in
      let long : length v ≡ 4 = ap length p ∙ four in
      let wide : length w ≡ 4 = ap length q ∙ four in
      let half : put_mid (8 * i) (8 * i + 4 - 8 * i) l v ≡ listed f (8 * i + 4) ++ drop (8 * i + 4) old =
      stored f old (8 * i) (8 * i + 4 - 8 * i) l v (omega arith) (omega arith) is (λ t k. ap (λ (xs : List Float). get_or xs t nan) p ∙ first t (omega arith))
      ∙ ap (λ (k : ℕ). listed f k ++ drop k old) (omega arith) in
      stored f old (8 * i + 4) (8 * i + 8 - (8 * i + 4)) _ w (omega arith) (omega arith) half (λ t k. ap (λ (xs : List Float). get_or xs t nan) q ∙ second t (omega arith))
      ∙ ap (λ (k : ℕ). listed f k ++ drop k old) (omega arith)

pub loop-i-init : goal.loop-i-init
loop-i-init c = fill_start (band_channel c.args.colours.now) c.args.channels.now

pub loop-i-preserved : goal.loop-i-preserved
loop-i-preserved c =
    both c.args.colours.now c.loop-i.i (omega arith) c.args.channels.now c.loop-i.channels _ _ c.copy_from_slice.ensures.after c.copy_from_slice-in-loop-i.ensures.after (omega arith) c.loop-i.invariant

pub returns : goal.returns
returns c =
    let a = c.args in
    channels_are a.colours.now a.n (drop (8 * a.n) a.channels.now)
    (fill_end (band_channel a.colours.now) a.channels.now (8 * c.loop-i.i) (8 * a.n) (omega arith) (omega arith) c.loop-i.invariant)
