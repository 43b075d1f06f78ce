-- One stop at a time, for a kind given by its code.
use Rattle.std.specs.Prelude.{◌≡◌, List, ℕ, Float}
use Rattle.refusals.specs.Refusals.{misshapen}
use Rattle.stops.specs.Lent.{Change}
use Rattle.stops.specs.declared.Kind.{Kind}
use Rattle.sampling.specs.Lent.{Held}
use Rattle.next_stop.specs.Step.{refused_at, HandsOut, number_of_told}
use Rattle.next_stop.specs.declared.Handed.{Handed}
use Rattle.colorgrad_c.specs.plain.Telling.{Reply}
use Rattle.colorgrad_c.specs.plain.Kinds.{CodedRamp, TellsBoth}
use Rattle.colorgrad_c.specs.plain.Steps.{place_from, stop_told, handed_told}

-- the promise of `next_stop`, of a ramp of any kind, a record that is only read and a place; a code that names no kind is 1, and the place stays
module _ (by : CodedRamp) (asked : Float) (held : Change Held) (state row index : ℕ) where
  abbrev pub CodedHandsOut : Reply (List ℕ × List Float) → Type 0
  CodedHandsOut =
      TellsBoth by.code (λ (kind : Kind). HandsOut (by.ramp kind) asked held.entry (place_from state row index))
      (λ (h : Handed). h ≡ refused_at (place_from state row index) misshapen)
      (λ (h : Handed). number_of_told h.told)
      handed_told
      (λ (h : Handed). stop_told h.told)
