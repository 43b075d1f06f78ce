-- What 'refreshed is fresh' says of a ramp, an edit, the threshold of a sampling, that of a refresh, and a lent record, by the definitions alone: the record
-- that a fresh sampling of the old ramp leaves, refreshed, is the one that a fresh sampling of the changed ramp leaves, and the list made from either is the same.
use Rattle.std.specs.Prelude.{◌≡◌, Float}
use Rattle.stops.specs.Lent.{Ramp}
use Rattle.sampling.specs.Lent.{Held}
use Rattle.linearize.specs.Lent.{Output}
use Rattle.sampling.specs.Sampling.{sample_held}
use Rattle.linearize.specs.Desk.{flatten_output}
use Rattle.refresh.specs.editing.Edited.{edited}
use Rattle.refresh.specs.RefreshDesk.{refresh_held, refresh_output}
use Rattle.refresh.specs.declared.editing.Edit.{Edit}

pub record RefreshedIsFresh (ramp : Ramp) (e : Edit) (asked mine : Float) (was : Held) : Type 0 where
  pub same_record : refresh_held ramp e mine (sample_held ramp asked was) ≡ sample_held (edited ramp e) mine was
  pub same_output : (out : Output) → refresh_output ramp e mine (sample_held ramp asked was) out ≡ flatten_output (edited ramp e) mine was out
