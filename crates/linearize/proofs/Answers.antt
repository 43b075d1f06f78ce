-- The answers of the calls, from what the functions within promise. Assumes nothing.
use mathlib.Core.Path.{◌≡◌, refl, ap, ◌∙◌}
use mathlib.Core.List.{List}
use Prim.Native.Nat.{ℕ, zero, suc, ◌+◌}
use lib.Ieee.{Float}
use Rattle.stops.specs.declared.Checked.{Checked}
use Rattle.stops.specs.declared.Checked.TheVariants as checked
use Rattle.stops.specs.Lent.{Ramp, Change, change}
use Rattle.gradient.specs.Ramp.{max_of, colour_of}
use Rattle.sampling.specs.Lent.{Held}
use Rattle.linearize.specs.Lent.{Output, output_of}
use Rattle.sampling.specs.Midpoints.{Far}
use Rattle.places.specs.Places.{list_of}
use Rattle.linearize.specs.Desk.{listed_of, list_answer, answer_by, with_sampling, points_in, room, thin_output}
use Rattle.sampling.specs.Sampling.{far_of}
use Rattle.records.specs.Fitness.{thin_check}
use Rattle.linearize.specs.inner.Steps.{ListMade}
use Rattle.linearize.specs.Promises.{Tells, Thins}
use Rattle.linearize.specs.declared.Listed.{Listed}
use Rattle.linearize.specs.declared.Listed.TheVariants as listed

-- the list of a record's points
abbrev pub Lists : Ramp → Far → Float → Held → Change Output → Listed → Type 0
Lists ramp far hi was out r =
    ListMade (colour_of ramp) far (room out.entry) (list_of was.rows was.counts hi) out.entry.positions out.exit.positions out.entry.channels out.exit.channels r

-- ---- lists

told : (check : Checked) (k kept spent : ℕ) → Tells check k kept spent (answer_by check k kept spent)
told checked.Fine zero kept spent = record { answer = refl; number = refl; stops = refl; evaluations = refl }
told checked.Fine (suc k) kept spent = record { answer = refl; number = refl; stops = refl; evaluations = refl }
told (checked.Refused n) k kept spent = record { answer = refl; number = refl; stops = refl; evaluations = refl }

pub tells : (check : Checked) (k kept spent : ℕ) (r : Listed) → r ≡ answer_by check k kept spent → Tells check k kept spent r
tells check k kept spent r e = rw e (told check k kept spent)

pub added : (n k s e : ℕ) → with_sampling n (listed_of k s e) ≡ listed_of k s (n + e)
added n zero s e = refl
added n (suc k) s e = refl

pub both : (out out' : Output) → out.positions ≡ out'.positions → out.channels ≡ out'.channels → out ≡ out'
both out out' p q = ap (λ (l : List Float). output_of l out.channels) p ∙ ap (output_of _) q

module _ (ramp : Ramp) (asked : Float) (was : Held) where
  pub thin_refused : (out : Output) (k : ℕ) → thin_check ramp asked was ≡ checked.Refused k → Thins ramp asked was (change out out) (listed.Refused k)
  unfolding thin_output
  thin_refused out k e = record { told = tells _ _ _ _ _ (rw e); output = rw e }

  pub thin_done : (far : Far) (hi : Float) (out : Change Output) (r : Listed) → thin_check ramp asked was ≡ checked.Fine
      → far ≡ far_of asked → hi ≡ max_of ramp → Lists ramp far hi was out r → Thins ramp asked was out r
  unfolding thin_output list_answer
  thin_done far hi out r e p q w =
      let m : ListMade (colour_of ramp) (far_of asked) (room out.entry) (points_in ramp was) out.entry.positions out.exit.positions out.entry.channels out.exit.channels r = rw (← p, ← q) w in
      record { told = tells _ _ _ _ _ (m.answer ∙ rw e); output = both _ _ m.positions m.channels ∙ rw e }
