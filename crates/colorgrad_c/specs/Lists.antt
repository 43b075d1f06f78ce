-- The calls on records and lists, for a kind given by its code.
use Rattle.std.specs.Prelude.{◌≡◌, List, ℕ, Float}
use Rattle.refusals.specs.Refusals.{misshapen}
use Rattle.stops.specs.Lent.{Lent, LentMut, Change, change}
use Rattle.stops.specs.declared.Kind.{Kind}
use Rattle.sampling.specs.Lent.{Held, lent_held, shared_held}
use Rattle.linearize.specs.Lent.{Output, lent_output}
use Rattle.sampling.specs.Promises.{Samples}
use Rattle.sampling.specs.Sampling.{number_of_sampled}
use Rattle.linearize.specs.Promises.{Thins, Flattens}
use Rattle.linearize.specs.Desk.{number_of_listed}
use Rattle.within.specs.Promises.{ThinsWithin, FlattensWithin}
use Rattle.sampling.specs.declared.Sampled.{Sampled}
use Rattle.sampling.specs.declared.Sampled.TheVariants as sampled
use Rattle.linearize.specs.declared.Listed.{Listed}
use Rattle.linearize.specs.declared.Listed.TheVariants as listed
use Rattle.colorgrad_c.specs.plain.Telling.{Reply}
use Rattle.colorgrad_c.specs.plain.Kinds.{CodedRamp, Tells}
use Rattle.colorgrad_c.specs.plain.Lists.{sampled_told, listed_told}

-- what is lent to a call that makes a list of a record: the record, the two outputs of the list, and what is told into
pub record Lendings : Type 0 where
  pub held : Change Held
  pub list : Change Output
  pub told : Change (List ℕ)

abbrev pub lent : LentMut Float → LentMut ℕ → LentMut ℕ → LentMut Float → LentMut Float → LentMut ℕ → Lendings
lent rows counts marks places colours told =
    record { held = lent_held rows counts marks; list = lent_output places colours; told = change told.entry.now told.exit.now }

-- where the record is only read
abbrev pub lent_beside : Lent Float → Lent ℕ → Lent ℕ → LentMut Float → LentMut Float → LentMut ℕ → Lendings
lent_beside rows counts marks places colours told =
    record { held = shared_held rows counts marks; list = lent_output places colours; told = change told.entry.now told.exit.now }

-- the promises of `linearize` and `within`, of a ramp of any kind; a code that names no kind is 1 and changes nothing
module _ (by : CodedRamp) (asked : Float) (held : Change Held) where
  abbrev pub CodedSamples : Reply (List ℕ) → Type 0
  CodedSamples =
      Tells by.code (λ (kind : Kind). Samples (by.ramp kind) asked held)
      (λ (a : Sampled). (a ≡ sampled.Refused misshapen) × (held.exit ≡ held.entry))
      number_of_sampled sampled_told

  -- the record is only read
  abbrev pub CodedThins : Change Output → Reply (List ℕ) → Type 0
  CodedThins out =
      Tells by.code (λ (kind : Kind). Thins (by.ramp kind) asked held.entry out)
      (λ (a : Listed). (a ≡ listed.Refused misshapen) × (out.exit ≡ out.entry))
      number_of_listed listed_told

  abbrev pub CodedFlattens : Change Output → Reply (List ℕ) → Type 0
  CodedFlattens out =
      Tells by.code (λ (kind : Kind). Flattens (by.ramp kind) asked held out)
      (λ (a : Listed). (a ≡ listed.Refused misshapen) × ((held.exit ≡ held.entry) × (out.exit ≡ out.entry)))
      number_of_listed listed_told

-- with a hold
module _ (by : CodedRamp) (asked hold : Float) (l : Lendings) where
  abbrev pub CodedThinsWithin : ℕ → Type 0
  CodedThinsWithin n =
      Tells by.code (λ (kind : Kind). ThinsWithin (by.ramp kind) asked hold l.held.entry l.list)
      (λ (a : Listed). (a ≡ listed.Refused misshapen) × (l.list.exit ≡ l.list.entry))
      number_of_listed listed_told
      (record { number = n; told = l.told })

  abbrev pub CodedFlattensWithin : ℕ → Type 0
  CodedFlattensWithin n =
      Tells by.code (λ (kind : Kind). FlattensWithin (by.ramp kind) asked hold l.held l.list)
      (λ (a : Listed). (a ≡ listed.Refused misshapen) × ((l.held.exit ≡ l.held.entry) × (l.list.exit ≡ l.list.entry)))
      number_of_listed listed_told
      (record { number = n; told = l.told })
