-- What `check_and_copy` promises to the two calls that refresh.
use Rattle.std.specs.Prelude.{◌≡◌, ℕ, ◌*◌, ◌≤◌, length, take, Float}
use Rattle.refusals.specs.Limits.{most_stops}
use Rattle.stops.specs.Lent.{Ramp, Change, ramp_of}
use Rattle.stops.specs.declared.Checked.TheVariants as checked
use Rattle.sampling.specs.Lent.{Held}
use Rattle.linearize.specs.Lent.{Output}
use Rattle.refresh.specs.editing.Edited.{edited}
use Rattle.refresh.specs.RefreshDesk.{refresh_check}
use Rattle.refresh.specs.declared.editing.Edit.{Edit}
use Rattle.refresh.specs.declared.editing.copy.Copied.{Copied}
use Rattle.refresh.specs.declared.editing.copy.Copied.TheVariants as copied

module _ (ramp : Ramp) (e : Edit) (asked : Float) (held : Change Held) (copy : Change Output) where
  -- the refresh may be made, and the copy's first n stops, which are there, are the changed ramp
  pub record Prepared (n : ℕ) : Type 0 where
    pub fine : refresh_check ramp e asked held.entry ≡ checked.Fine
    pub few : n ≤ most_stops
    pub placed : n ≤ length copy.exit.positions
    pub coloured : 4 * n ≤ length copy.exit.channels
    pub same : ramp_of ramp.kind (take n copy.exit.positions) (take (4 * n) copy.exit.channels) ramp.codes ≡ edited ramp e

  pub record Prepares (r : Copied) : Type 0 where
    pub refused : (n : ℕ) → r ≡ copied.Refused n → refresh_check ramp e asked held.entry ≡ checked.Refused n
    pub prepared : (n : ℕ) → r ≡ copied.Stops n → Prepared n
