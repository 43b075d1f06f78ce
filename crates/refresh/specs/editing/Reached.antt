-- What an edit reaches: its stretch, by the ramp as it was, and the cells that it leaves as they are.
use Rattle.std.specs.Prelude.{Bool, List, ℕ, ◌+◌, ◌-◌, Float}
use Rattle.stops.specs.Lent.{Ramp}
use Rattle.stops.specs.declared.Kind.{Kind}
use Rattle.gradient.specs.Ramp.{min_in, max_in, min_of, max_of}
use Rattle.refresh.specs.reach.Stretch.{reach_of, colour_stretch, stretch_between, outside_of, cell_clear}
use Rattle.refresh.specs.reach.KeptCells.{kept_cells}
use Rattle.refresh.specs.declared.reach.stretch.Stretch.{Stretch}
use Rattle.refresh.specs.declared.editing.Edit.{Edit}
use Rattle.refresh.specs.declared.editing.Edit.TheVariants.{Colour, Move, Add, Remove}

-- of a colour by the reach of the kind; else from the neighbour before to the neighbour after
abbrev pub stretch_of : Kind → List Float → Edit → Stretch
stretch_of kind ps (Colour k c) = colour_stretch (reach_of kind) ps k
stretch_of kind ps (Move k p) = stretch_between ps (k - 1) (k + 1)
stretch_of kind ps (Add k p c) = stretch_between ps (k - 1) k
stretch_of kind ps (Remove k) = stretch_between ps (k - 1) (k + 1)

unfoldable pub cells_kept : Kind → List Float → Edit → List Bool
cells_kept kind ps e = kept_cells (min_in kind ps) (max_in kind ps) (stretch_of kind ps e)

module _ (ramp : Ramp) (e : Edit) where
  -- the points outside the stretch of the edit
  abbrev pub away : Float → Bool
  away = outside_of (stretch_of ramp.kind ramp.positions e)

  -- the cells that lie outside it
  abbrev pub clear_cell : ℕ → Bool
  clear_cell = cell_clear away (min_of ramp) (max_of ramp)
