-- The answers of `open`, from what the functions within promise. Assumes nothing.
use mathlib.Core.Path.{◌≡◌, sym, ap, ◌∙◌}
use mathlib.Core.Bool.{true, false}
use Prim.Native.Nat.{ℕ}
use native.Mathlib.Omega.{arith}
use lib.ListN.{length, take}
use lib.Ieee.{Float}
use Rattle.refusals.specs.Refusals.{misshapen}
use Rattle.stops.specs.Lent.{Ramp, ramp_of, Change, change}
use Rattle.stops.specs.Answers.{on_fine}
use Rattle.stops.specs.declared.Checked.{Checked}
use Rattle.stops.specs.declared.Checked.TheVariants as checked
use Rattle.sampling.specs.Lent.{Held}
use Rattle.sampling.specs.Sampling.{held_check, fresh, fresh_evaluations, sample_answer, sample_held}
use Rattle.sampling.specs.Promises.{Samples}
use Rattle.sampling.specs.declared.Sampled.{Sampled}
use Rattle.sampling.specs.declared.Sampled.TheVariants as sampled
use Rattle.sampling.proofs.Answers.{Fresh, fresh_is, fresh_bound}
use Rattle.linearize.specs.Lent.{Output}
use Rattle.linearize.proofs.Records.{fresh_thins}
use Rattle.sheet.specs.Room.{positions_for, channels_for, stops_fit, first_of}
use Rattle.sheet.specs.Promises.{open_check, Opens}
use Rattle.sheet.specs.inner.Making.{ListsBy}
use Rattle.sheet.specs.declared.ListSort.{ListSort}
use Rattle.sheet.specs.declared.SheetAnswer.{SheetAnswer}
use Rattle.sheet.specs.declared.SheetAnswer.TheVariants.{Refused}
use Rattle.sheet.proofs.Lists.{listed_is, output_is}

module _ (room : Ramp) (n : ℕ) (asked : Float) (sort : ListSort) where
  pub open_misshapen : (was : Held) (out : Output) → stops_fit room.kind n (length room.positions) (length room.channels) ≡ false → Opens room n asked sort (change was was) (change out out) (Refused misshapen)
  unfolding open_check
  open_misshapen was out f = record { answer = rw f; left = rw f; output = rw f }

  module _ (fits : stops_fit room.kind n (length room.positions) (length room.channels) ≡ true) (held : Change Held) where
    sampled_refused : (c : Checked) (k m : ℕ) → sampled.Refused k ≡ on_fine c (sampled.Done m) sampled.Refused → c ≡ checked.Refused k
    sampled_refused checked.Fine k m h = let z : ◌≡◌ {A = ℕ} 0 1 = cc in absurd (omega arith)
    sampled_refused (checked.Refused j) k m h = let z : k ≡ j = cc in ap checked.Refused (sym z)

    first_refused : (out : Output) (k : ℕ) (s : Sampled) → s ≡ sampled.Refused k → Samples (first_of room n) asked held s → Opens room n asked sort held (change out out) (Refused k)
    unfolding open_check sample_answer sample_held
    first_refused out k s h w =
        let refused : held_check (first_of room n) held.entry ≡ checked.Refused k = sampled_refused (held_check (first_of room n) held.entry) k (fresh_evaluations (first_of room n) asked) (sym h ∙ w.answer) in
        record { answer = rw (fits, refused); left = w.left ∙ rw (fits, refused); output = rw (fits, refused) }

    first_done : (out : Change Output) (spent : ℕ) (s : Sampled) (r : SheetAnswer) → s ≡ sampled.Done spent → Samples (first_of room n) asked held s
        → ListsBy sort (first_of room n) asked held.exit out n spent r → Opens room n asked sort held out r
    unfolding open_check
    first_done out spent s r h w l =
        let f : Fresh (first_of room n) asked held spent = fresh_is (first_of room n) asked held spent s h w in
        let made : ListsBy sort (first_of room n) asked (fresh (first_of room n) asked) out n spent r = rw (← f.left) l in
        let thins = fresh_thins (first_of room n) asked held.entry f.fine in
        record {
          answer = listed_is (first_of room n) asked (fresh (first_of room n) asked) thins out sort n spent r made (fresh_bound (first_of room n) asked spent f.spent) ∙ rw (fits, f.fine, f.spent);
          left = f.left ∙ rw (fits, f.fine);
          output = output_is (first_of room n) asked (fresh (first_of room n) asked) thins out sort n spent r made ∙ rw (fits, f.fine);
        }

    -- with the lengths that the functions within gave
    module _ (p c : ℕ) (positions : p ≡ positions_for room.kind n) (channels : c ≡ channels_for room.kind n) where
      abbrev part : Ramp
      part = ramp_of room.kind (take p room.positions) (take c room.channels) room.codes

      part_is : part ≡ first_of room n
      part_is = rw (positions, channels)

      pub open_refused : (out : Output) (k : ℕ) (s : Sampled) → s ≡ sampled.Refused k → Samples part asked held s → Opens room n asked sort held (change out out) (Refused k)
      open_refused out k s h w = first_refused out k s h (rw (← part_is) w)

      pub open_done : (out : Change Output) (spent : ℕ) (s : Sampled) (r : SheetAnswer) → s ≡ sampled.Done spent → Samples part asked held s
          → ListsBy sort part asked held.exit out n spent r → Opens room n asked sort held out r
      open_done out spent s r h w l = first_done out spent s r h (rw (← part_is) w) (rw (← part_is) l)
