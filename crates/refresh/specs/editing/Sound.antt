-- What is proved of an edit that passes (proofs/EditSound): the changed ramp is fine, has the ends that the ramp had, and outside the stretch its colours.
use Rattle.std.specs.Prelude.{◌≡◌, true, false, ◌*◌, length, Float}
use Rattle.stops.specs.Lent.{Ramp}
use Rattle.stops.specs.declared.Checked.TheVariants.{Fine}
use Rattle.gradient.specs.Ramp.{is_gimp, check_of, min_of, max_of, colour_of}
use Rattle.refresh.specs.editing.Edited.{stops_after, edited}
use Rattle.refresh.specs.editing.Reached.{away}
use Rattle.refresh.specs.declared.editing.Edit.{Edit}

pub record Sound (ramp : Ramp) (e : Edit) : Type 0 where
  pub stops : is_gimp ramp.kind ≡ false
  pub still_fine : check_of (edited ramp e) ≡ Fine
  pub same_min : min_of (edited ramp e) ≡ min_of ramp
  pub same_max : max_of (edited ramp e) ≡ max_of ramp
  pub agree : (t : Float) → away ramp e t ≡ true → colour_of ramp t ≡ colour_of (edited ramp e) t
  pub as_many : length (edited ramp e).positions ≡ stops_after (length ramp.positions) e
  pub four : length (edited ramp e).channels ≡ 4 * stops_after (length ramp.positions) e
