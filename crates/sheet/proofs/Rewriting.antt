-- A list that is written over itself: nothing changes. Assumes nothing.
use mathlib.Core.Path.{◌≡◌, ap, ◌∙◌}
use mathlib.Core.List.{List}
use Prim.Native.Nat.{ℕ, zero, suc}
use lib.ListN.{length, replicate, length-replicate}
use lib.Seq.{sets, length-sets}
use lib.Ieee.{Float}
use Rattle.float.specs.F32.{f0}
use Rattle.blend.specs.Channels.{colours_of}
use Rattle.stops.specs.Lent.{Ramp}
use Rattle.gradient.specs.Ramp.{colour_of}
use Rattle.sampling.specs.Sampling.{far_of}
use Rattle.thinning.specs.Kept.{kept_of, refusal_of, written_of, positions_written, channels_written}
use Rattle.linearize.specs.Lent.{Output, output_of}
use Rattle.linearize.specs.Desk.{room}
use Rattle.linearize.proofs.Answers.{both}
use Rattle.within.specs.Lists.{refusal_within, list_within}
use Rattle.sheet.specs.Lists.{written_by}
use Rattle.sheet.specs.declared.ListSort.{ListSort}
use Rattle.sheet.specs.declared.ListSort.TheVariants.{Thinned, Within}
use Rattle.sheet.proofs.Gaps.{sets_twice}

written_length : (k : ℕ) (l xs : List Float) → length (written_of k (sets l 0 xs)) ≡ length l
written_length zero l xs = length-sets l 0 xs
written_length (suc k) l xs = length-replicate (length (sets l 0 xs)) f0 ∙ length-sets l 0 xs

written_twice : (k : ℕ) (l xs : List Float) → written_of k (sets (written_of k (sets l 0 xs)) 0 xs) ≡ written_of k (sets l 0 xs)
written_twice zero l xs = sets_twice l 0 xs
written_twice (suc k) l xs = ap (λ (n : ℕ). replicate n f0) (length-sets (replicate (length (sets l 0 xs)) f0) 0 xs ∙ length-replicate (length (sets l 0 xs)) f0)

-- of any refusal by the room, places and colours
module _ (refusal : ℕ → ℕ) (xs ys : List Float) where
  abbrev write : Output → Output
  write out = output_of (written_of (refusal (room out)) (sets out.positions 0 xs)) (written_of (refusal (room out)) (sets out.channels 0 ys))

  same_room : (out : Output) → room (write out) ≡ room out
  same_room out = rw (written_length (refusal (room out)) out.positions xs, written_length (refusal (room out)) out.channels ys)

  write_twice : (out : Output) → write (write out) ≡ write out
  write_twice out =
      let k = refusal (room out) in
      ap (λ (m : ℕ). output_of (written_of (refusal m) (sets (write out).positions 0 xs)) (written_of (refusal m) (sets (write out).channels 0 ys))) (same_room out)
      ∙ both _ _ (written_twice k out.positions xs) (written_twice k out.channels ys)

module _ (ramp : Ramp) (asked : Float) (ts : List Float) (out : Output) where
  pub room_stays : (sort : ListSort) → room (written_by sort ramp asked ts out) ≡ room out
  unfolding positions_written channels_written
  room_stays Thinned = same_room (λ m. refusal_of (colour_of ramp) (far_of asked) m ts) (kept_of (colour_of ramp) (far_of asked) ts) (colours_of (colour_of ramp) (kept_of (colour_of ramp) (far_of asked) ts)) out
  room_stays (Within hold) = same_room (λ m. refusal_within ramp asked hold m ts) (list_within ramp asked hold ts).positions (list_within ramp asked hold ts).channels out

  pub list_stays : (sort : ListSort) → written_by sort ramp asked ts (written_by sort ramp asked ts out) ≡ written_by sort ramp asked ts out
  unfolding positions_written channels_written
  list_stays Thinned = write_twice (λ m. refusal_of (colour_of ramp) (far_of asked) m ts) (kept_of (colour_of ramp) (far_of asked) ts) (colours_of (colour_of ramp) (kept_of (colour_of ramp) (far_of asked) ts)) out
  list_stays (Within hold) = write_twice (λ m. refusal_within ramp asked hold m ts) (list_within ramp asked hold ts).positions (list_within ramp asked hold ts).channels out
