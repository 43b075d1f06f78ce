-- The calls that refresh a record, for a kind given by its code.
use Rattle.std.specs.Prelude.{◌≡◌, List, ℕ, Float}
use Rattle.refusals.specs.Refusals.{misshapen}
use Rattle.stops.specs.Lent.{Change}
use Rattle.stops.specs.declared.Kind.{Kind}
use Rattle.sampling.specs.Lent.{Held}
use Rattle.linearize.specs.Desk.{number_of_listed}
use Rattle.refresh.specs.declared.editing.Edit.{Edit}
use Rattle.refresh.specs.RefreshDesk.{Refreshes, RefreshLists}
use Rattle.sampling.specs.Sampling.{number_of_sampled}
use Rattle.sampling.specs.declared.Sampled.{Sampled}
use Rattle.sampling.specs.declared.Sampled.TheVariants as sampled
use Rattle.linearize.specs.declared.Listed.{Listed}
use Rattle.linearize.specs.declared.Listed.TheVariants as listed
use Rattle.colorgrad_c.specs.plain.Telling.{Reply}
use Rattle.colorgrad_c.specs.plain.Kinds.{CodedRamp, Tells}
use Rattle.colorgrad_c.specs.plain.Lists.{listed_told, sampled_told}
use Rattle.colorgrad_c.specs.Lists.{Lendings}

-- the promises of `refresh`, of a ramp of any kind and an edit; a code that names no kind is 1 and changes nothing
module _ (by : CodedRamp) (e : Edit) (asked : Float) where
  abbrev pub CodedRefreshes : Change Held → Reply (List ℕ) → Type 0
  CodedRefreshes held =
      Tells by.code (λ (kind : Kind). Refreshes (by.ramp kind) e asked held)
      (λ (a : Sampled). (a ≡ sampled.Refused misshapen) × (held.exit ≡ held.entry))
      number_of_sampled sampled_told

  abbrev pub CodedRelists : Lendings → ℕ → Type 0
  CodedRelists l n =
      Tells by.code (λ (kind : Kind). RefreshLists (by.ramp kind) e asked l.held l.list)
      (λ (a : Listed). (a ≡ listed.Refused misshapen) × ((l.held.exit ≡ l.held.entry) × (l.list.exit ≡ l.list.entry)))
      number_of_listed listed_told
      (record { number = n; told = l.told })
