-- Steps taken one after the other, each from the place that the one before it handed out: what they tell, and their evaluations; and what the theorems
-- on them say.
use Rattle.std.specs.Prelude.{◌≡◌, List, [], ◌∷◌, ◌++◌, map, ℕ, zero, suc, ◌+◌, ◌*◌, ◌≤◌, ◌<◌, length, take, get_or, replicate, Float}
use Rattle.blend.specs.Channels.{positions_in, channels_in}
use Rattle.blend.specs.declared.Stop.{Stop}
use Rattle.stops.specs.Lent.{Ramp}
use Rattle.sampling.specs.Lent.{Held}
use Rattle.sampling.specs.Midpoints.{Gradient}
use Rattle.thinning.specs.Kept.{stop_refusal}
use Rattle.linearize.specs.Lent.{Output}
use Rattle.next_stop.specs.Step.{stop_with, HandsOut}
use Rattle.next_stop.specs.declared.ListPlace.{ListPlace}
use Rattle.next_stop.specs.declared.Told.{Told}
use Rattle.next_stop.specs.declared.Told.TheVariants as told
use Rattle.next_stop.specs.declared.Handed.{Handed}

-- any results that the contract of `next_stop` allows, on the same lent memory
unfoldable pub Chained : Ramp → Float → Held → ListPlace → List Handed → Type 0
Chained ramp asked was p [] = Unit {0}
Chained ramp asked was p (h ∷ hs) = HandsOut ramp asked was p h × Chained ramp asked was h.place hs

abbrev pub told_by : List Handed → List Told
told_by = map (λ (h : Handed). h.told)

abbrev pub places_by : List Handed → List ListPlace
places_by = map (λ (h : Handed). h.place)

unfoldable pub spent_by : List Handed → ℕ
spent_by [] = 0
spent_by (h ∷ hs) = h.evaluations + spent_by hs

-- what n steps tell where these come first, and then nothing more, however often asked
unfoldable pub then_nothing : List Told → ℕ → List Told
then_nothing ts zero = []
then_nothing [] (suc n) = told.Ended ∷ then_nothing [] n
then_nothing (t ∷ ts) (suc n) = t ∷ then_nothing ts n

-- stops as they are told
abbrev pub told_stops : List Stop → List Told
told_stops = map told.Stop

-- the steps hs have told the n stops that `out` holds, as far as they went, and then nothing more; with all of them told they have spent e
pub record ListTold (n e : ℕ) (out : Output) (hs : List Handed) : Type 0 where
  pub stops : List Stop
  pub many : length stops ≡ n
  pub positions : positions_in stops ≡ take n out.positions
  pub channels : channels_in stops ≡ take (4 * n) out.channels
  pub told : told_by hs ≡ then_nothing (told_stops stops) (length hs)
  pub spent : n ≤ length hs → spent_by hs ≡ e

-- ---- a list that is refused among its stops

-- the stops at the points ts of a ramp
abbrev pub stops_at : Gradient → List Float → List Stop
stops_at g = map (λ (t : Float). stop_with t (g t))

-- the fault of each stop, 8, 9 or 0; the stop before them is at `last`
unfoldable pub faults_from : Float → List Stop → List ℕ
faults_from last [] = []
faults_from last (s ∷ ss) = stop_refusal 1 0 last s.position s.colour ∷ faults_from s.position ss

-- the first stop of a list is compared with itself
unfoldable pub faults_of : List Stop → List ℕ
faults_of [] = []
faults_of (s ∷ ss) = faults_from s.position (s ∷ ss)

-- of the stops of a list `before` have no fault, and the next has the fault k; the steps hs have told those, then the refusal k, and then nothing more
pub record Broken (k : ℕ) (all : List Stop) (hs : List Handed) : Type 0 where
  pub before : ℕ
  pub there : before < length all
  pub none_before : (i : ℕ) → i < before → get_or (faults_of all) i 0 ≡ 0
  pub faulty : get_or (faults_of all) before 0 ≡ k
  pub told : told_by hs ≡ then_nothing (told_stops (take before all) ++ told.Refused k ∷ []) (length hs)

-- ---- a check that refuses

-- each of the steps hs has told the refusal k, with no evaluations, and handed out the place p that it was lent
pub record Stays (k : ℕ) (p : ListPlace) (hs : List Handed) : Type 0 where
  pub told : told_by hs ≡ replicate (length hs) (told.Refused k)
  pub places : places_by hs ≡ replicate (length hs) p
  pub spent : spent_by hs ≡ 0
