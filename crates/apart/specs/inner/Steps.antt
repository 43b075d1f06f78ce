-- What the functions within promise each other.
use Rattle.std.specs.Prelude.{ℕ, zero, suc, ◌+◌, ◌≤◌, ◌<◌, ◌≡◌, Bool, false, not, cond, ◌&&◌, List, ltb, length, Float}
use Rattle.std.specs.Float.Ieee.{le}
use Rattle.stops.specs.Lent.{Ramp}
use Rattle.gradient.specs.Ramp.{any_colour}
use Rattle.difference.specs.Difference.{distance_of, differs}
use Rattle.sampling.specs.Midpoints.{Gradient}
use Rattle.judge.specs.Lists.{Offer, offered_ramp}
use Rattle.apart.specs.Faults.{flag, how_many, is_moved, is_close, is_merged, first_merged}
use Rattle.apart.specs.Answers.{faults_over}
use Rattle.apart.specs.declared.told.Seen.{Seen}
use Rattle.apart.specs.declared.told.Fault.{Fault}
use Rattle.apart.specs.declared.told.Tally.{Tally}

-- ---- one depth
abbrev pub seen_by : Gradient → Gradient → Float → Seen
seen_by g h t = record { ramp = g t; list = h t }

-- of any slices: where both were checked the colours are document 01's
abbrev pub any_seen : Ramp → Offer → Float → Seen
any_seen ramp offer t = seen_by (any_colour ramp) (any_colour (offered_ramp offer)) t

-- depth i, whose two colours are near, and which the ramp and the list tell from the one before
unfoldable pub fault_by : ℕ → Bool → Bool → Bool → Fault
fault_by zero near ramp list = record { moved = not near; close = false; merged = false }
fault_by (suc i) near ramp list = record { moved = not near; close = not ramp; merged = ramp && not list }

abbrev pub fault_from : Float → Float → ℕ → Seen → Seen → Fault
fault_from threshold step i before here =
    fault_by i (le (distance_of here.ramp here.list) threshold) (differs step before.ramp here.ramp) (differs step before.list here.list)

abbrev pub byte_of : Fault → ℕ
byte_of fault = flag 1 fault.moved + flag 2 fault.close + flag 4 fault.merged

-- ---- the counts
abbrev pub most_count : ℕ
most_count = 18446744073709551615

unfoldable pub first_next : ℕ → ℕ → Bool → ℕ
first_next first i merged = cond (ltb first i) first (cond merged i (i + 1))

abbrev pub tally_next : Tally → ℕ → Fault → Tally
tally_next tally i fault =
    record {
      moved = tally.moved + flag 1 fault.moved;
      close = tally.close + flag 1 fault.close;
      merged = tally.merged + flag 1 fault.merged;
      first = first_next tally.first i fault.merged;
    }

-- no sum wraps
pub record Countable (tally : Tally) (i : ℕ) : Type 0 where
  pub moved : tally.moved ≤ i
  pub close : tally.close ≤ i
  pub merged : tally.merged ≤ i
  pub most : i < most_count

module _ (g h : Gradient) (threshold step : Float) (ds : List Float) where
  abbrev pub fault_at : ℕ → Fault
  fault_at i = record { moved = is_moved g h threshold step ds i; close = is_close g h threshold step ds i; merged = is_merged g h threshold step ds i }

  -- of the first n depths
  abbrev pub tally_of : ℕ → Tally
  tally_of n =
      record {
        moved = how_many (is_moved g h threshold step ds) n;
        close = how_many (is_close g h threshold step ds) n;
        merged = how_many (is_merged g h threshold step ds) n;
        first = first_merged g h threshold step ds n;
      }

  -- of all of them, with the bytes
  pub record Tells (was is : List ℕ) (r : Tally) : Type 0 where
    pub counts : r ≡ tally_of (length ds)
    pub bytes : is ≡ faults_over g h threshold step ds was

abbrev pub AnyTells : Ramp → Float → Float → Offer → List Float → List ℕ → List ℕ → Tally → Type 0
AnyTells ramp threshold step offer ds was is r = Tells (any_colour ramp) (any_colour (offered_ramp offer)) threshold step ds was is r
