-- The list of a sheet, of either sort: the one that thinning makes, or the one within a hold. Nothing is defined anew here.
use Rattle.std.specs.Prelude.{List, ℕ, ◌+◌, length, Float}
use Rattle.stops.specs.Lent.{Ramp, Change}
use Rattle.gradient.specs.Ramp.{colour_of}
use Rattle.sampling.specs.Lent.{Held}
use Rattle.sampling.specs.Sampling.{far_of}
use Rattle.thinning.specs.Kept.{kept_of, refusal_of, list_evaluations}
use Rattle.linearize.specs.Lent.{Output}
use Rattle.linearize.specs.Desk.{listed_of, room, written}
use Rattle.linearize.specs.Promises.{Thins, Flattens}
use Rattle.linearize.specs.declared.Listed.{Listed}
use Rattle.within.specs.Lists as within
use Rattle.within.specs.Promises.{ThinsWithin, FlattensWithin}
use Rattle.sheet.specs.declared.ListSort.{ListSort}
use Rattle.sheet.specs.declared.ListSort.TheVariants.{Thinned, Within}

-- of a record's points ts: the first refusal among the stops, how many stops there are, the evaluations, and what the outputs hold
abbrev pub refusal_by : ListSort → Ramp → Float → ℕ → List Float → ℕ
refusal_by Thinned ramp asked room ts = refusal_of (colour_of ramp) (far_of asked) room ts
refusal_by (Within hold) ramp asked room ts = within.refusal_within ramp asked hold room ts

abbrev pub stops_by : ListSort → Ramp → Float → List Float → ℕ
stops_by Thinned ramp asked ts = length (kept_of (colour_of ramp) (far_of asked) ts)
stops_by (Within hold) ramp asked ts = length (within.kept_of ramp asked hold ts)

abbrev pub evaluations_by : ListSort → Ramp → Float → List Float → ℕ
evaluations_by Thinned ramp asked ts = list_evaluations (colour_of ramp) (far_of asked) ts
evaluations_by (Within hold) ramp asked ts = within.evaluations_within ramp asked hold ts

abbrev pub written_by : ListSort → Ramp → Float → List Float → Output → Output
written_by Thinned ramp asked ts out = written ramp asked ts out
written_by (Within hold) ramp asked ts out = within.written_within ramp asked hold ts out

-- the answer of the list, to which the evaluations spent before it are added
abbrev pub listed_by : ListSort → Ramp → Float → List Float → Output → ℕ → Listed
listed_by sort ramp asked ts out spent = listed_of (refusal_by sort ramp asked (room out) ts) (stops_by sort ramp asked ts) (spent + evaluations_by sort ramp asked ts)

-- the promises of the calls that make one
abbrev pub ThinsBy : ListSort → Ramp → Float → Held → Change Output → Listed → Type 0
ThinsBy Thinned ramp asked was out r = Thins ramp asked was out r
ThinsBy (Within hold) ramp asked was out r = ThinsWithin ramp asked hold was out r

abbrev pub FlattensBy : ListSort → Ramp → Float → Change Held → Change Output → Listed → Type 0
FlattensBy Thinned ramp asked held out r = Flattens ramp asked held out r
FlattensBy (Within hold) ramp asked held out r = FlattensWithin ramp asked hold held out r
