-- An ordinary ramp's colours are tame. And what tame colours leave of the calls' refusals: 7 alone. Assumes nothing.
use mathlib.Core.Path.{◌≡◌, ◌∙◌}
use mathlib.Core.Bool.{false}
use mathlib.Core.Logic.{◌⊎◌, inl, inr}
use Prim.Native.Nat.{ℕ}
use lib.Dec.{T}
use lib.Ieee.{Float, of_bits, neg, le}
use Rattle.refusals.specs.Refusals.{no_room}
use Rattle.float.specs.F32.{f0, f1}
use Rattle.float.proofs.Order.{le_trans}
use Rattle.stops.specs.Lent.{Ramp, Change}
use Rattle.stops.specs.declared.Checked.TheVariants as checked
use Rattle.gradient.specs.Ramp.{is_gimp, min_of, max_of, colour_of}
use Rattle.gradient.proofs.Valid.{valid}
use Rattle.sampling.specs.Lent.{Held}
use Rattle.sampling.specs.Sampling.{held_check, far_of, fresh}
use Rattle.sampling.proofs.Checks.{ramp_fine}
use Rattle.records.specs.Fitness.{thin_check}
use Rattle.records.proofs.Passing.{sample_fine}
use Rattle.linearize.specs.Lent.{Output}
use Rattle.linearize.specs.Desk.{number_of_listed, points_in, room}
use Rattle.linearize.specs.declared.Listed.{Listed}
use Rattle.refresh.proofs.reach.Domains.{checked_domain}
use Rattle.ordinary.specs.Ordinary.{Singles, Ordinary}
use Rattle.ordinary.proofs.Classes.{span, ordinary_moderate}
use Rattle.ordinary.proofs.Everywhere.{unit_everywhere}
use Rattle.within.specs.Lists.{refusal_within, fresh_points}
use Rattle.within.specs.Promises.{ThinsWithin, FlattensWithin}
use Rattle.word.specs.Word.{tame, Tame, TameOnDomain}
use Rattle.word.proofs.Singles.{every_of, Single}
use Rattle.word.proofs.SingleColours.{colour_single}
use Rattle.word.proofs.FreshPoints.{all_single}
use Rattle.word.proofs.Values.{min_single, max_single}
use Rattle.word.proofs.NeverNotShown.{points_single}
use Rattle.word.proofs.OnlyRoom.{only_room}

-- ---- an ordinary ramp
limits : T (le (neg tame) f0) × T (le f1 tame)
unfolding of_bits neg le
limits = (tt, tt)

pub unit_tame : (x : Float) → Single x → T (le f0 x) → T (le x f1) → Tame x
unit_tame x s a b = record { single = s; least = le_trans (neg tame) f0 x limits.0 a; most = le_trans x f1 tame b limits.1 }

pub ordinary_tame : (ramp : Ramp) → Ordinary ramp → TameOnDomain ramp
ordinary_tame ramp o t d =
    let of_stops : is_gimp ramp.kind ≡ false = rw o.linear in
    let ok = valid ramp of_stops o.passes in
    let s = colour_single ramp (every_of ramp.channels o.channels) t in
    let u = unit_everywhere ramp ok o.places (span ramp (ordinary_moderate ramp o)) o.linear o.within o.channels t in
    record {
      red = unit_tame _ s.red u.red.0 u.red.1;
      green = unit_tame _ s.green u.green.0 u.green.1;
      blue = unit_tame _ s.blue u.blue.0 u.blue.1;
      alpha = unit_tame _ s.alpha u.alpha.0 u.alpha.1;
    }

-- ---- the calls, where the check passes: done, or 7
module _ (ramp : Ramp) (asked hold : Float) (singles : Singles ramp.positions) (tamed : TameOnDomain ramp) where
  abbrev Only : Listed → Type 0
  Only r = (number_of_listed r ≡ 0) ⊎ (number_of_listed r ≡ no_room)

  told : (r : Listed) (k : ℕ) → number_of_listed r ≡ k → (k ≡ 0) ⊎ (k ≡ no_room) → Only r
  told r k e (inl h) = inl (e ∙ h)
  told r k e (inr h) = inr (e ∙ h)

  pub thin_within_only_room : (was : Held) (out : Change Output) (r : Listed) → ThinsWithin ramp asked hold was out r → Singles was.rows → thin_check ramp asked was ≡ checked.Fine → Only r
  thin_within_only_room was out r call rows fine =
      let sampled = sample_fine ramp asked was fine in
      let passes = ramp_fine ramp _ _ _ sampled in
      told r (refusal_within ramp asked hold (room out.entry) (points_in ramp was)) (call.told.number ∙ rw fine)
      (only_room ramp asked hold (checked_domain ramp _ _ _ sampled) passes singles tamed (points_in ramp was) (points_single ramp asked hold singles tamed was passes rows) (room out.entry))

  pub flatten_within_only_room : (held : Change Held) (out : Change Output) (r : Listed) → FlattensWithin ramp asked hold held out r → held_check ramp held.entry ≡ checked.Fine → Only r
  unfolding fresh
  flatten_within_only_room held out r call fine =
      let passes = ramp_fine ramp _ _ _ fine in
      let domain = checked_domain ramp _ _ _ fine in
      let points = all_single (colour_of ramp) (far_of asked) (min_of ramp) (max_of ramp) domain (min_single ramp passes singles) (max_single ramp passes singles) in
      told r (refusal_within ramp asked hold (room out.entry) (fresh_points ramp asked hold)) (call.told.number ∙ rw fine)
      (only_room ramp asked hold domain passes singles tamed (fresh_points ramp asked hold) points (room out.entry))
