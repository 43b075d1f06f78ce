-- What the functions within promise each other.
use Rattle.std.specs.Prelude.{◌≡◌, Bool, true, false, cond, ◌&&◌, List, [], ◌∷◌, ℕ, zero, suc, ◌+◌, ◌-◌, ◌*◌, ◌≤◌, ◌<◌, min, leb, ltb, length, get_or, Float}
use Rattle.std.proofs.lemmas.List.Edits.{sets}
use Rattle.std.specs.Float.{nan}
use Rattle.std.specs.Float.Ieee.{lt, le}
use Rattle.float.specs.F32.{◌⊖◌, ◌⊘◌}
use Rattle.blend.specs.Blend.{linear}
use Rattle.blend.specs.Channels.{channels_of, colours_of}
use Rattle.blend.specs.declared.Rgba.{Rgba}
use Rattle.stops.specs.Lent.{Ramp, Change}
use Rattle.stops.specs.Stops.{pos_at}
use Rattle.stops.specs.declared.Window.{Window}
use Rattle.stops.specs.declared.Checked.TheVariants.{Fine}
use Rattle.gradient.specs.Ramp.{max_of, check_of, colour_of}
use Rattle.places.specs.Places.{list_of}
use Rattle.sampling.specs.Midpoints.{Gradient}
use Rattle.sampling.specs.inner.Steps.{Coloured, PointAt}
use Rattle.sampling.specs.declared.Point.{Point}
use Rattle.thinning.specs.declared.Progress.{Progress}
use Rattle.linearize.specs.Lent.{Output}
use Rattle.linearize.specs.Desk.{listed_of, room}
use Rattle.linearize.specs.declared.Listed.{Listed}
use Rattle.weighed.specs.Points.{Site, site}
use Rattle.within.specs.Shown.{Near, near_below, fairly, point_after, shown_to, lent_left, to_lent, reach_from}
use Rattle.within.specs.Kept.{Kept, lent_shown, any_shown, step_from, kept_from, kept_all, positions_of, kept_refusals}
use Rattle.within.specs.Lists.{kept_of, refusal_within, evaluations_within, written_within}
use Rattle.within.specs.declared.fair.Allowed.{Allowed}
use Rattle.within.specs.declared.lent.Ahead.{Ahead}
use Rattle.within.specs.declared.asking.Answer.{Answer}
use Rattle.within.specs.declared.steps.Reach.{Reach}
use Rattle.within.specs.declared.steps.Step.{Step}

-- ---- the points in two arrays: k of them from i on
abbrev pub site_at : List Float → List ℕ → ℕ → Site
site_at ts ms i = site (get_or ts i nan) (get_or ms i 0)

unfoldable pub sites_from : List Float → List ℕ → ℕ → ℕ → List Site
sites_from ts ms i zero = []
sites_from ts ms i (suc k) = site_at ts ms i ∷ sites_from ts ms (suc i) k

-- a test is passed by k numbers from i on
unfoldable pub all_from : (ℕ → Bool) → ℕ → ℕ → Bool
all_from f i zero = true
all_from f i (suc k) = f i && all_from f (suc i) k

-- ---- the test
-- by the cutoffs of both
abbrev pub near_by : Allowed → Near
near_by offs = near_below offs.threshold offs.hold

-- whether the mix of two points is near enough to a third
unfoldable pub point_fair : Near → ℕ → Point → Point → Point → Bool
point_fair near m a b x = near m x.colour (linear a.colour b.colour ((x.t ⊖ a.t) ⊘ (b.t ⊖ a.t)))

-- an entry of a block, and the test of point i, whose colour is in a block that starts at the point `base`
abbrev pub entry_at : List (List Float) → ℕ → Rgba
entry_at block i = record { r = get_or (get_or block i []) 0 nan; g = get_or (get_or block i []) 1 nan; b = get_or (get_or block i []) 2 nan; a = get_or (get_or block i []) 3 nan }

abbrev pub block_fair : Near → Point → Point → List Float → List ℕ → List (List Float) → ℕ → ℕ → Bool
block_fair near a b ts ms block base i = point_fair near (get_or ms i 0) a b (record { colour = entry_at block (i - base); t = get_or ts i nan; pair = 0 })

-- ---- the colours in hand
-- t lies past stop k - 1 and up to stop k, and is not the last one's
unfoldable pub is_up_to : List Float → Float → ℕ → Bool
is_up_to ps t k = ltb 0 k && (ltb k (length ps) && (lt (pos_at ps (k - 1)) t && le t (pos_at ps k) && lt t (pos_at ps (length ps - 1))))

abbrev pub NearPair : List Float → Float → ℕ → Type 0
NearPair ps t k = (k ≡ 0 → ⊥) → is_up_to ps t k ≡ true

-- a block has the colours of the points from its base on
pub record ColoursInHand (g : Gradient) (ts : List Float) (w : Window) (block : List (List Float)) : Type 0 where
  pub long : length block ≡ 1024
  pub fits : w.count ≤ 1024
  pub within : w.base + w.count ≤ 10753
  pub each : (i : ℕ) → i < w.count → get_or block i [] ≡ channels_of (g (get_or ts (w.base + i) nan))

-- an answer that an index is in a window
abbrev pub HoldsAt : Window → ℕ → Bool → Type 0
HoldsAt w i r = r ≡ true → (w.base ≤ i) × (i < w.base + w.count)

-- as many as there is room for, from `base` on up to `to`
pub record Fills (ramp : Ramp) (ts : List Float) (base to : ℕ) (block' : List (List Float)) (w : Window) : Type 0 where
  pub place : w.base ≡ base
  pub many : w.count ≡ min (to - base) 1024
  pub hand : ColoursInHand (colour_of ramp) ts w block'

-- that of point i among them
pub record Covers (ramp : Ramp) (ts : List Float) (i : ℕ) (block' : List (List Float)) (w : Window) : Type 0 where
  pub from : w.base ≤ i
  pub to : i < w.base + w.count
  pub hand : ColoursInHand (colour_of ramp) ts w block'

-- the colours in hand, and max with its own
abbrev pub InHandWith : Ramp → List Float → Window → List (List Float) → Point → Type 0
InHandWith ramp ts w block end = ColoursInHand (colour_of ramp) ts w block × Coloured (colour_of ramp) end

-- the r-th point of those from one on, with its colour
abbrev pub AfterAt : Ramp → Point → List Float → List ℕ → ℕ → ℕ → ℕ → Point → Type 0
AfterAt ramp end ts ms from count r x = PointAt (colour_of ramp) (point_after end.t (sites_from ts ms from (count - from)) r) x

-- ---- the questions
-- all points from one on
abbrev pub ahead_of : ℕ → ℕ → Point → Ahead
ahead_of from count end = record { from = from; count = count; end = end; lent = false }

abbrev pub rest_of : List Float → List ℕ → Ahead → List Site
rest_of ts ms at = sites_from ts ms at.from (at.count - at.from)

-- the points up to the r-th asked for, 0 where there is none
unfoldable pub points_to : Bool → List Site → ℕ → ℕ
points_to lent rest r = cond lent (cond (leb r (lent_left rest)) (to_lent r rest) 0) (cond (leb r (suc (length rest))) r 0)

-- a checked ramp, a block in hand, two points with their colours, and the points up to `to` of so many
pub record MayShow (ramp : Ramp) (ts : List Float) (w : Window) (block : List (List Float)) (a b : Point) (from to count : ℕ) : Type 0 where
  pub fine : check_of ramp ≡ Fine
  pub hand : ColoursInHand (colour_of ramp) ts w block
  pub left : Coloured (colour_of ramp) a
  pub right : Coloured (colour_of ramp) b
  pub begun : from ≤ to
  pub some : to ≤ count
  pub few : count ≤ 10753

-- what they show of the arrays' points
abbrev pub fair_from : Gradient → Near → Float → Float → List Float → List ℕ → ℕ → Bool
fair_from g near a b ts ms i = fairly g near a b (site_at ts ms i)

pub record ShowsTo (ramp : Ramp) (offs : Allowed) (ts : List Float) (ms : List ℕ) (a b : Point) (from to : ℕ) (block' : List (List Float)) (r : Answer) : Type 0 where
  pub yes : r.yes ≡ all_from (fair_from (colour_of ramp) (near_by offs) a.t b.t ts ms) from (to - from)
  pub hand : ColoursInHand (colour_of ramp) ts r.w block'

-- a checked ramp, a point with its colour, and what lies ahead
pub record Asking (ramp : Ramp) (ts : List Float) (w : Window) (block : List (List Float)) (a : Point) (at : Ahead) : Type 0 where
  pub fine : check_of ramp ≡ Fine
  pub hand : ColoursInHand (colour_of ramp) ts w block
  pub known : Coloured (colour_of ramp) a
  pub last : Coloured (colour_of ramp) at.end
  pub begun : at.from ≤ at.count
  pub few : at.count ≤ 10752

-- the answer of a question, by the cutoffs
abbrev pub answered : Ramp → Allowed → List Float → List ℕ → Point → Ahead → ℕ → Bool
answered ramp offs ts ms a at =
    cond at.lent
    (lent_shown (colour_of ramp) (near_by offs) at.end.t a.t (rest_of ts ms at))
    (any_shown (colour_of ramp) (near_by offs) at.end.t a.t (rest_of ts ms at))

pub record Answers (ramp : Ramp) (offs : Allowed) (ts : List Float) (ms : List ℕ) (a : Point) (at : Ahead) (q : ℕ) (block' : List (List Float)) (r : Answer) : Type 0 where
  pub yes : r.yes ≡ answered ramp offs ts ms a at q
  pub hand : ColoursInHand (colour_of ramp) ts r.w block'

pub record Reaches (ramp : Ramp) (offs : Allowed) (ts : List Float) (ms : List ℕ) (a : Point) (at : Ahead) (k q : ℕ) (block' : List (List Float)) (r : Reach) : Type 0 where
  pub far : r.r ≡ reach_from (answered ramp offs ts ms a at) k q
  pub most : r.r ≤ 32768
  pub hand : ColoursInHand (colour_of ramp) ts r.w block'

pub record Steps (ramp : Ramp) (offs : Allowed) (max a : Float) (ts : List Float) (rest : List Site) (block' : List (List Float)) (r : Step) : Type 0 where
  pub points : r.points ≡ step_from (colour_of ramp) (near_by offs) max a rest
  pub shown : r.shown ≡ shown_to (colour_of ramp) (near_by offs) max a rest (step_from (colour_of ramp) (near_by offs) max a rest)
  pub hand : ColoursInHand (colour_of ramp) ts r.w block'

abbrev pub StepsFrom : Ramp → Allowed → Point → List Float → List ℕ → ℕ → ℕ → Point → List (List Float) → Step → Type 0
StepsFrom ramp offs a ts ms from count end block' r = Steps ramp offs end.t a.t ts (sites_from ts ms from (count - from)) block' r

-- ---- the stops
-- what it comes to when the points ks follow n stops that are written
pub record Ending : Type 0 where
  pub refusal : ℕ
  pub stops : ℕ
  pub places : List Float
  pub colours : List Float

unfoldable pub ending : Gradient → ℕ → ℕ → List Float → List Float → List Kept → Ending
ending g room n ps cs ks =
    record {
      refusal = kept_refusals g room n ks;
      stops = n + length ks;
      places = sets ps n (positions_of ks);
      colours = sets cs (4 * n) (colours_of g (positions_of ks));
    }

-- it has ended so: with the refusal, or with everything
pub record EndsWith (o : Ending) (s : Progress) (ps cs : List Float) : Type 0 where
  pub refused : s.refusal ≡ o.refusal
  pub same : s.refusal ≡ 0 → (s.stops ≡ o.stops) × ((ps ≡ o.places) × (cs ≡ o.colours))

-- of the stops after one that stands: from the outputs before to those after
abbrev pub StopsAfter : Ramp → Allowed → ℕ → Progress → ℕ → Point → List Float → List ℕ → Change Output → Progress → Type 0
StopsAfter ramp offs room s count end ts ms out r =
    EndsWith
    (ending (colour_of ramp) room s.stops out.entry.positions out.entry.channels (kept_from (colour_of ramp) (near_by offs) end.t (suc count) s.last.t (sites_from ts ms 0 count)))
    r out.exit.positions out.exit.channels

-- what all stops come to, and the promise of it
abbrev pub whole_ending : Ramp → Allowed → ℕ → ℕ → Float → Float → List Float → List ℕ → List Float → List Float → Ending
whole_ending ramp offs room count lo max ts ms ps cs = ending (colour_of ramp) room 0 ps cs (kept_all (colour_of ramp) (near_by offs) max lo (sites_from ts ms 0 count))

abbrev pub AllStops : Ramp → Allowed → ℕ → ℕ → Float → Float → List Float → List ℕ → Change Output → Progress → Type 0
AllStops ramp offs room count lo max ts ms out r =
    EndsWith (whole_ending ramp offs room count lo max ts ms out.entry.positions out.entry.channels) r out.exit.positions out.exit.channels

-- the list of the points ts is made: the answer and both outputs
pub record MakesWithin (ramp : Ramp) (asked hold : Float) (ts : List Float) (out : Change Output) (r : Listed) : Type 0 where
  pub answer : r ≡ listed_of (refusal_within ramp asked hold (room out.entry) ts) (length (kept_of ramp asked hold ts)) (evaluations_within ramp asked hold ts)
  pub output : out.exit ≡ written_within ramp asked hold ts out.entry

abbrev pub MakesOf : Ramp → Float → Float → List Float → List ℕ → Change Output → Listed → Type 0
MakesOf ramp asked hold rows counts out r = MakesWithin ramp asked hold (list_of rows counts (max_of ramp)) out r
