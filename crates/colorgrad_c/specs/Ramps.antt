-- The calls on ramps, for a kind given by its code.
use Rattle.std.specs.Prelude.{ℕ, ◌≡◌, List, Float}
use Rattle.refusals.specs.Refusals.{misshapen}
use Rattle.float.specs.F32.{f0}
use Rattle.stops.specs.Lent.{Change}
use Rattle.stops.specs.declared.Kind.{Kind}
use Rattle.stops.specs.declared.Checked.{Checked}
use Rattle.stops.specs.declared.Checked.TheVariants as checked
use Rattle.stops.specs.Answers.{Checks, number_of_checked}
use Rattle.gradient.specs.Ramp.{check_of, min_of, max_of}
use Rattle.paint.specs.Answers.{number_of_at, number_of_painted}
use Rattle.paint.specs.Promises.{AtIs, PaintIs}
use Rattle.paint.specs.declared.ColourAnswer.{ColourAnswer}
use Rattle.paint.specs.declared.ColourAnswer.TheVariants as answer
use Rattle.paint.specs.declared.Painted.{Painted}
use Rattle.paint.specs.declared.Painted.TheVariants as painted
use Rattle.sharp_ramp.specs.Sharp.{Builds, number_of_built}
use Rattle.sharp_ramp.specs.declared.Built.{Built}
use Rattle.linearize.specs.Lent.{Output}
use Rattle.colorgrad_c.specs.plain.Telling.{telling, Reply, after}
use Rattle.colorgrad_c.specs.plain.Kinds.{ShowsOf, Shows, CodedRamp, Tells}
use Rattle.colorgrad_c.specs.plain.Ramps.{ends_told, colour_told, built_told}

-- the number and the ends, which are worked out with the check
abbrev pub domain_by : Checked → Float → Float → ℕ × List Float
domain_by c lo hi = (number_of_checked c, ends_told c lo hi)

-- the calls on a ramp; a code that names no kind is 1 and changes nothing
module _ (by : CodedRamp) where
  abbrev pub CodedChecks : ℕ → Type 0
  CodedChecks = Shows by.code (λ (kind : Kind). Checks (check_of (by.ramp kind))) (λ (a : Checked). a ≡ checked.Refused misshapen) number_of_checked

  abbrev pub CodedDomain : Reply (List Float) → Type 0
  CodedDomain =
      Tells by.code
      (λ (kind : Kind) (a : ℕ × List Float). a ≡ domain_by (check_of (by.ramp kind)) (min_of (by.ramp kind)) (max_of (by.ramp kind)))
      (λ (a : ℕ × List Float). a ≡ domain_by (checked.Refused misshapen) f0 f0)
      (λ (a : ℕ × List Float). a.0)
      (λ (a : ℕ × List Float). a.1)

  abbrev pub CodedAt : Float → Reply (List Float) → Type 0
  CodedAt t = Tells by.code (λ (kind : Kind). AtIs (by.ramp kind) t) (λ (a : ColourAnswer). a ≡ answer.Refused misshapen) number_of_at colour_told

  abbrev pub CodedPaints : List Float → Change (List Float) → ℕ → Type 0
  CodedPaints ts out =
      Shows by.code (λ (kind : Kind). PaintIs (by.ramp kind) ts out.entry out.exit)
      (λ (a : Painted). (a ≡ painted.Refused misshapen) × (out.exit ≡ out.entry))
      number_of_painted

-- the promise of `build`, and its answer told
abbrev pub ShowsBuilt : List Float → Float → Float → Float → Change Output → Reply (List ℕ) → Type 0
ShowsBuilt colours min max softness out r =
    ShowsOf
    (Builds colours min max softness out.entry.positions out.exit.positions out.entry.channels out.exit.channels)
    (λ (a : Built). (number_of_built a, telling (built_told a) r.told.entry))
    (after r)
