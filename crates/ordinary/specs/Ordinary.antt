-- Document 02, (xii): ordinary ramps and wider classes of ramps, and what is promised of flattening them: it is never refused. Of any results that the contracts allow.
use Rattle.std.specs.Prelude.{◌≡◌, Bool, true, false, List, ◌⊎◌, ℕ, ◌+◌, ◌≤◌, ◌<◌, T, length, get_or, Float}
use Rattle.std.specs.Float.{nan, binary32}
use Rattle.std.specs.Float.Ieee.{of_bits, neg, fits, le, eq}
use Rattle.std.specs.Float.Ieee.Scale.{finite}
use Rattle.float.specs.F32.{f0, f1}
use Rattle.blend.specs.declared.Rgba.{Rgba}
use Rattle.stops.specs.Lent.{Ramp}
use Rattle.stops.specs.Stops.{pos_at, colour_at, finite_rgba}
use Rattle.stops.specs.declared.Kind.{Kind}
use Rattle.stops.specs.declared.Kind.TheVariants.{Linear, Smoothstep, Sharp, Basis, CatmullRom, Gimp, GimpSaved}
use Rattle.stops.specs.declared.Checked.TheVariants.{Fine}
use Rattle.gradient.specs.Ramp.{check_of, min_of, max_of, colour_of}
use Rattle.sampling.specs.Constants.{depth}
use Rattle.sampling.specs.Cells.{edge_of}
use Rattle.refresh.specs.reach.Stretch.{before_of, after_of, outside_of, mids_outside}
use Rattle.refresh.specs.reach.KeptCells.{is_domain}
use Rattle.refresh.specs.declared.reach.stretch.Stretch.{Stretch}
use Rattle.linearize.specs.Lent.{Output}
use Rattle.linearize.specs.Desk.{stops_of_listed, evaluations_of_listed}
use Rattle.linearize.specs.declared.Listed.{Listed}
use Rattle.linearize.specs.declared.Listed.TheVariants as listed

-- ---- the ramps

-- every number of a list is an f32, as each that is lent is
abbrev pub Singles : List Float → Type 0
Singles l = (i : ℕ) → i < length l → T (fits binary32 (get_or l i nan))

-- every number of a list lies from `least` to `most`
abbrev pub AllFrom : Float → Float → List Float → Type 0
AllFrom least most l = (i : ℕ) → i < length l → T (le least (get_or l i nan)) × T (le (get_or l i nan) most)

-- 'a linear ramp whose positions run from exactly 0 to exactly 1 and whose channels are all within 0 to 1, which refusals 1 to 3 let pass'. By value: -0 is 0
pub record Ordinary (ramp : Ramp) : Type 0 where
  pub linear : ramp.kind ≡ Linear
  pub passes : check_of ramp ≡ Fine
  pub from_zero : T (eq (min_of ramp) f0)
  pub to_one : T (eq (max_of ramp) f1)
  pub within : AllFrom f0 f1 ramp.channels
  pub places : Singles ramp.positions
  pub channels : Singles ramp.channels

-- the kinds whose colour between two stops comes of these two alone
abbrev pub of_pairs : Kind → Bool
of_pairs Linear = true
of_pairs Smoothstep = true
of_pairs Sharp = true
of_pairs Basis = false
of_pairs CatmullRom = false
of_pairs Gimp = false
of_pairs GimpSaved = false

-- how large their channels may be: the last f32 below 2 ^ 127, so that the difference of two is finite; of smoothstep and sharp ramps a sixth of the largest f32, so that three times a difference is.
-- Of the next f32 after each there is a ramp that is refused (docs/EVIDENCE.md)
abbrev pub largest : Kind → Float
largest Linear = of_bits binary32 0x7eff_ffff
largest Smoothstep = of_bits binary32 0x7e2a_aaaa
largest Sharp = of_bits binary32 0x7e2a_aaaa
largest Basis = f0
largest CatmullRom = f0
largest Gimp = f0
largest GimpSaved = f0

-- a ramp of such a kind, which refusals 1 to 4 let pass, whose channels are no larger than that
pub record Moderate (ramp : Ramp) : Type 0 where
  pub only_pairs : of_pairs ramp.kind ≡ true
  pub passes : check_of ramp ≡ Fine
  pub near : is_domain (min_of ramp) (max_of ramp) ≡ true
  pub within : AllFrom (neg (largest ramp.kind)) (largest ramp.kind) ramp.channels
  pub places : Singles ramp.positions

-- the widest class: a ramp of any kind, which refusals 1 to 4 let pass, whose colours are finite at every f32 of its domain
pub record FiniteOnDomain (ramp : Ramp) : Type 0 where
  pub passes : check_of ramp ≡ Fine
  pub near : is_domain (min_of ramp) (max_of ramp) ≡ true
  pub finite_colours : (t : Float) → T (fits binary32 t) → T (le (min_of ramp) t) → T (le t (max_of ramp)) → finite_rgba (colour_of ramp t) ≡ true
  pub first_single : T (fits binary32 (min_of ramp))
  pub last_single : T (fits binary32 (max_of ramp))

-- ---- what is promised

-- the answer r is no refusal: there are 2 to 4,609 stops in the outputs, of no more than 32,146 evaluations; their positions never fall, and all is finite
pub record NeverRefused (out : Output) (r : Listed) : Type 0 where
  pub done : r ≡ listed.Done (stops_of_listed r) (evaluations_of_listed r)
  pub least : 2 ≤ stops_of_listed r
  pub most : stops_of_listed r ≤ 4609
  pub few : evaluations_of_listed r ≤ 32146
  pub rising : (i j : ℕ) → i ≤ j → j < stops_of_listed r → T (le (pos_at out.positions i) (pos_at out.positions j))
  pub finite_at : (i : ℕ) → i < stops_of_listed r → finite (pos_at out.positions i) ≡ true
  pub colour_finite : (i : ℕ) → i < stops_of_listed r → finite_rgba (colour_at out.channels i) ≡ true

-- the positions of a list of points never fall
abbrev pub NeverFalls : List Float → Type 0
NeverFalls ts = (i j : ℕ) → i ≤ j → j < length ts → T (le (pos_at ts i) (pos_at ts j))

-- a channel, and a colour, within 0 to 1
abbrev pub InUnit : Float → Type 0
InUnit x = T (le f0 x) × T (le x f1)

pub record UnitColour (c : Rgba) : Type 0 where
  pub red : InUnit c.r
  pub green : InUnit c.g
  pub blue : InUnit c.b
  pub alpha : InUnit c.a

-- each channel that was emitted is within 0 to 1
abbrev pub WithinUnit : Output → Listed → Type 0
WithinUnit out r = (i : ℕ) → i < stops_of_listed r → UnitColour (colour_at out.channels i)

-- ---- cells and the stretch of an edit

module _ (s : Stretch) (lo hi : Float) (i : ℕ) where
  -- the two ends of cell i are on one and the same outer side of a stretch
  abbrev pub OneOuterSide : Type 0
  OneOuterSide =
      ((before_of s (edge_of lo hi i) ≡ true) × (before_of s (edge_of lo hi (i + 1)) ≡ true))
      ⊎ ((after_of s (edge_of lo hi i) ≡ true) × (after_of s (edge_of lo hi (i + 1)) ≡ true))

  -- none of the 127 midpoints of its full halving is inside the stretch
  abbrev pub NoMidpointInside : Type 0
  NoMidpointInside = mids_outside (outside_of s) depth (edge_of lo hi i) (edge_of lo hi (i + 1)) ≡ true
