-- When the desk says no to an edit of a ramp that is fine: 6, then 1, then 3.
use Rattle.std.specs.Prelude.{Bool, true, false, cond, ◌&&◌, ◌||◌, List, ℕ, ◌+◌, ◌-◌, leb, ltb, length, Float}
use Rattle.std.specs.Float.Ieee.{lt}
use Rattle.std.specs.Float.Ieee.Scale.{finite}
use Rattle.refusals.specs.Refusals.{misshapen, falling, bad_edit}
use Rattle.refusals.specs.Limits.{most_stops}
use Rattle.stops.specs.Lent.{Ramp}
use Rattle.stops.specs.Stops.{pos_at, finite_rgba}
use Rattle.stops.specs.declared.Kind.{Kind}
use Rattle.stops.specs.declared.Kind.TheVariants.{Linear, Smoothstep, Sharp, Basis, CatmullRom, Gimp, GimpSaved}
use Rattle.stops.specs.declared.Checked.{Checked}
use Rattle.stops.specs.declared.Checked.TheVariants as checked
use Rattle.refresh.specs.declared.editing.Edit.{Edit}
use Rattle.refresh.specs.declared.editing.Edit.TheVariants.{Colour, Move, Add, Remove}

-- the kinds of which a stop's colour can be changed: all but sharp and GIMP
abbrev pub refreshable : Kind → Bool
refreshable Linear = true
refreshable Smoothstep = true
refreshable Sharp = false
refreshable Basis = true
refreshable CatmullRom = true
refreshable Gimp = false
refreshable GimpSaved = false

-- the kinds of which a stop can be moved, added or removed
abbrev pub movable : Kind → Bool
movable Linear = true
movable Smoothstep = true
movable Sharp = false
movable Basis = false
movable CatmullRom = false
movable Gimp = false
movable GimpSaved = false

-- stop k of n is neither the first nor the last; place k is between two stops
unfoldable pub is_inner : ℕ → ℕ → Bool
is_inner n k = leb 1 k && ltb (k + 1) n

unfoldable pub is_next : ℕ → ℕ → Bool
is_next n k = leb 1 k && ltb k n

-- 3: below the stop before, or above the one after. Equal positions do not break the order
unfoldable pub order_check : List Float → ℕ → ℕ → Float → Checked
order_check ps i j p = cond (lt p (pos_at ps i) || lt (pos_at ps j) p) (checked.Refused falling) checked.Fine

-- what follows 6
abbrev pub six_unless : Bool → Checked → Checked
six_unless allowed after = cond allowed after (checked.Refused bad_edit)

-- another kind of ramp, an end place or none, or a number that is not finite is 6; a stop beyond the most is 1; one that breaks the order is 3
unfoldable pub edit_allowed : Kind → List Float → Edit → Checked
edit_allowed kind ps (Colour k c) = six_unless (refreshable kind && (ltb k (length ps) && finite_rgba c)) checked.Fine
edit_allowed kind ps (Move k p) = six_unless (movable kind && (is_inner (length ps) k && finite p)) (order_check ps (k - 1) (k + 1) p)
edit_allowed kind ps (Add k p c) =
    six_unless (movable kind && (is_next (length ps) k && (finite p && finite_rgba c)))
    (cond (ltb (length ps) most_stops) (order_check ps (k - 1) k p) (checked.Refused misshapen))
edit_allowed kind ps (Remove k) = six_unless (movable kind && is_inner (length ps) k) checked.Fine

abbrev pub edit_check : Ramp → Edit → Checked
edit_check ramp e = edit_allowed ramp.kind ramp.positions e
