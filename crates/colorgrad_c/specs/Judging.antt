-- A list judged, and the depths that became one in it, for a kind given by its code.
use Rattle.std.specs.Prelude.{◌≡◌, List, [], ◌∷◌, ℕ, Float}
use Rattle.refusals.specs.Refusals.{misshapen}
use Rattle.stops.specs.Lent.{LentMut}
use Rattle.stops.specs.declared.Kind.{Kind}
use Rattle.judge.specs.Lists.{Offer}
use Rattle.judge.specs.Promises.{Judges}
use Rattle.judge.specs.Verdicts.{number_of_verdict}
use Rattle.judge.specs.declared.Verdict.{Verdict}
use Rattle.judge.specs.declared.Verdict.TheVariants as verdict
use Rattle.apart.specs.Answers.{number_of_apart}
use Rattle.apart.specs.Promises.{TellsApart}
use Rattle.apart.specs.declared.told.Apart.{Apart}
use Rattle.apart.specs.declared.told.Apart.TheVariants as apart
use Rattle.colorgrad_c.specs.plain.Telling.{Reply}
use Rattle.colorgrad_c.specs.plain.Kinds.{CodedRamp, Tells, TellsBoth}
use Rattle.colorgrad_c.specs.plain.Verdicts.{verdict_told, point_of}

-- the promise of `judge`, of a ramp of any kind; a code that names no kind is 1
abbrev pub CodedJudges : CodedRamp → Float → Offer → Reply (List ℕ × List Float) → Type 0
CodedJudges by asked offer =
    TellsBoth by.code (λ (kind : Kind). Judges (by.ramp kind) asked offer)
    (λ (a : Verdict). a ≡ verdict.Refused misshapen)
    number_of_verdict verdict_told
    (λ (a : Verdict). point_of a ∷ [])

-- how many depths moved, are close, are merged, and the first merged one; 0 where the call is refused
abbrev pub apart_told : Apart → List ℕ
apart_told (apart.Told moved close merged first) = moved ∷ close ∷ merged ∷ first ∷ []
apart_told (apart.Refused n) = 0 ∷ 0 ∷ 0 ∷ 0 ∷ []

-- the promise of `apart`, of a ramp of any kind and lent bytes; a code that names no kind is 1 and changes nothing
abbrev pub CodedTellsApart : CodedRamp → Float → Float → Offer → List Float → LentMut ℕ → Reply (List ℕ) → Type 0
CodedTellsApart by asked step offer ds bytes =
    Tells by.code (λ (kind : Kind). TellsApart (by.ramp kind) asked step offer ds bytes.entry.now bytes.exit.now)
    (λ (a : Apart). (a ≡ apart.Refused misshapen) × (bytes.exit.now ≡ bytes.entry.now))
    number_of_apart apart_told
