-- What a list within a hold promises: at the ramp's own positions and beside them it is within the hold, of any record at all; and what the calls promise beside their answers.
use Rattle.std.specs.Prelude.{◌≡◌, true, cond, ◌&&◌, List, ◌⊎◌, ℕ, suc, ◌+◌, ◌*◌, ◌%◌, ◌≤◌, ◌<◌, T, length, get_or, take, Float}
use Rattle.std.specs.Float.{binary32}
use Rattle.std.specs.Float.Ieee.{of_bits, fits, neg, le, lt, eq}
use Rattle.refusals.specs.Refusals.{list_falling}
use Rattle.float.specs.F32.{f0}
use Rattle.blend.specs.declared.Rgba.{Rgba}
use Rattle.difference.specs.Difference.{distance_of}
use Rattle.stops.specs.Lent.{Ramp, Change, change}
use Rattle.stops.specs.Stops.{pos_at}
use Rattle.stops.specs.Place.{Rising}
use Rattle.gradient.specs.Ramp.{is_gimp, min_of, max_of, colour_of}
use Rattle.sampling.specs.Lent.{Held}
use Rattle.sampling.specs.declared.Sampled.{Sampled}
use Rattle.sampling.specs.declared.Sampled.TheVariants as sampled
use Rattle.linearize.specs.Lent.{Output}
use Rattle.linearize.specs.Desk.{number_of_listed, evaluations_of_listed, with_sampling}
use Rattle.linearize.specs.declared.Listed.{Listed}
use Rattle.linearize.specs.declared.Listed.TheVariants as listed
use Rattle.judge.specs.Lists.{Offer, offer_of, offered_ramp}
use Rattle.apart.specs.declared.told.Apart.{Apart}
use Rattle.apart.specs.declared.told.Apart.TheVariants as apart
use Rattle.refresh.specs.AfterEdit.{SameList}
use Rattle.float.specs.Number.{above_of, below_of}
use Rattle.within.specs.Promises.{ThinsWithin}

-- the list's clamped colour differs from the ramp's by no more than `off` at t; with the threshold in force it is the judge's `Near`
abbrev pub NearBy : Ramp → Offer → Float → Float → Type 0
NearBy ramp offer off t = T (le (distance_of (colour_of ramp t) (colour_of (offered_ramp offer) t)) off)

pub record InDomain (ramp : Ramp) (t : Float) : Type 0 where
  pub lower : T (le (min_of ramp) t)
  pub upper : T (le t (max_of ramp))

-- where a ramp is asked: of segments -0 is asked as 0, which min is. Of stops both have one colour (proofs/Equal)
abbrev pub asked_at : Ramp → Float → Float
asked_at ramp t = cond (is_gimp ramp.kind && eq t f0) f0 t

abbrev pub HeldAt : Ramp → Offer → Float → Float → Type 0
HeldAt ramp offer hold t = InDomain ramp t → NearBy ramp offer hold (asked_at ramp t)

-- at every lent position in the domain, and at the f32 just below and just above it, where these lie there
pub record KeepsWord (ramp : Ramp) (offer : Offer) (hold : Float) : Type 0 where
  pub at_lent : (k : ℕ) → k < length ramp.positions → HeldAt ramp offer hold (pos_at ramp.positions k)
  pub just_below : (k : ℕ) → k < length ramp.positions → HeldAt ramp offer hold (below_of (pos_at ramp.positions k))
  pub just_above : (k : ℕ) → k < length ramp.positions → HeldAt ramp offer hold (above_of (pos_at ramp.positions k))

-- a depth that is asked at one of the ramp's own positions, or at the f32 just below or just above one
pub record OwnDepth (ramp : Ramp) (d : Float) : Type 0 where
  pub k : ℕ
  pub t : Float
  pub there : k < length ramp.positions
  pub beside : (t ≡ pos_at ramp.positions k) ⊎ ((t ≡ below_of (pos_at ramp.positions k)) ⊎ (t ≡ above_of (pos_at ramp.positions k)))
  pub asked : d ≡ asked_at ramp t

abbrev pub OwnDepths : Ramp → List Float → Type 0
OwnDepths ramp ds = (i : ℕ) → i < length ds → OwnDepth ramp (pos_at ds i)

-- of what `apart` told of depths nothing is moved: none is counted, and no byte has 1
pub record Unmoved (ds : List Float) (bytes : List ℕ) (moved : ℕ) : Type 0 where
  pub none : moved ≡ 0
  pub each : (i : ℕ) → i < length ds → get_or bytes i 0 % 2 ≡ 0

-- `apart` is not refused, and nothing is moved
pub record ToldUnmoved (ds : List Float) (bytes : List ℕ) (r : Apart) : Type 0 where
  pub moved : ℕ
  pub close : ℕ
  pub merged : ℕ
  pub first : ℕ
  pub told : r ≡ apart.Told moved close merged first
  pub unmoved : Unmoved ds bytes moved

-- positions that never fall: of stops the check asks it, of segments it is asked here; those of a file that is read never do (proofs/Falling)
abbrev pub NeverFalling : Ramp → Type 0
NeverFalling ramp = is_gimp ramp.kind ≡ true → Rising ramp.positions

-- the first n stops of the outputs, as a list that is offered
abbrev pub list_in : Output → ℕ → Offer
list_in out n = offer_of (take n out.positions) (take (4 * n) out.channels)

-- two records over which thinning a ramp within a hold, into like outputs, gives one answer (its refusals and evaluations included) and one pair of outputs
abbrev pub OneListWithin : Ramp → Held → Held → Type 0
OneListWithin ramp held other =
    (asked hold : Float) (out out₁ out₂ : Output) (r q : Listed)
    → ThinsWithin ramp asked hold held (change out out₁) r
    → ThinsWithin ramp asked hold other (change out out₂) q
    → SameList r q out₁ out₂

-- `flatten_within`, which left the record `all` and the outputs `out`, is `sample`, which left `held`, and then `thin_within` over that
abbrev pub list_after : Sampled → Listed → Listed
list_after (sampled.Done n) l = with_sampling n l
list_after (sampled.Refused n) l = listed.Refused n

abbrev pub output_after : Sampled → Change Output → Output
output_after (sampled.Done n) out = out.exit
output_after (sampled.Refused n) out = out.entry

pub record SampledThenThinned (held all : Held) (thinned : Change Output) (out : Output) (s : Sampled) (l r : Listed) : Type 0 where
  pub answer : r ≡ list_after s l
  pub same_record : all ≡ held
  pub output : out ≡ output_after s thinned

-- there is no 9, and there are no more evaluations than `most`
pub record Bounded (most : ℕ) (r : Listed) : Type 0 where
  pub no_falling : number_of_listed r ≡ list_falling → ⊥
  pub few : evaluations_of_listed r ≤ most

-- each stop lies above the one before
abbrev pub Rises : Offer → Type 0
Rises offer = (j : ℕ) → suc j < length offer.positions → T (lt (pos_at offer.positions j) (pos_at offer.positions (suc j)))

-- ---- colours with which 21 never comes
-- an f32 within ±16,382
abbrev pub tame : Float
tame = of_bits binary32 0x467f_f800

pub record Tame (x : Float) : Type 0 where
  pub single : T (fits binary32 x)
  pub least : T (le (neg tame) x)
  pub most : T (le x tame)

pub record TameColour (c : Rgba) : Type 0 where
  pub red : Tame c.r
  pub green : Tame c.g
  pub blue : Tame c.b
  pub alpha : Tame c.a

-- a ramp's colours, throughout its domain
abbrev pub TameOnDomain : Ramp → Type 0
TameOnDomain ramp = (t : Float) → InDomain ramp t → TameColour (colour_of ramp t)

-- ---- lists that are never refused
-- the answer is a list: two stops for each of the ramp's at most, and four more
pub record ListedFew (ramp : Ramp) (r : Listed) : Type 0 where
  pub stops : ℕ
  pub evaluations : ℕ
  pub done : r ≡ listed.Done stops evaluations
  pub few : stops ≤ 2 * length ramp.positions + 4
