-- `segment`: a segment read from its line, and put in its lists.
use contract.Lifetimes.{Lfts}
use mathlib.Core.Path.{◌≡◌, ap}
use Rattle.promises.specs.Law.{Coincide, coincide, ◌with◌, both}
use Rattle.segment.specs.Store.{Store}
use Rattle.segment.proofs.segment_at.Reads as of_segment_at
use Rattle.segment.proofs.store.put_segment.Reads as of_put_segment

-- the lists of a store, from what a promise says of it whole
pub positions_of : {s t : Store} → s ≡ t → s.positions ≡ t.positions
positions_of e = ap (λ (x : Store). x.positions) e

pub channels_of : {s t : Store} → s ≡ t → s.channels ≡ t.channels
channels_of e = ap (λ (x : Store). x.channels) e

pub codes_of : {s t : Store} → s ≡ t → s.codes ≡ t.codes
codes_of e = ap (λ (x : Store). x.codes) e

-- what the line holds, and where what follows it starts
pub segment_at : (κs : Lfts 1) (a : _) → Coincide (of_segment_at.Learnt κs a) (λ r e. r.read with r.next)
segment_at κs a = coincide (λ r e w. both w.is w.goes_on)

-- all three lent lists
pub put_segment : (κs : Lfts 3) (a : _) → Coincide (of_put_segment.Learnt κs a) (λ r e. e.0.now with e.1.0.now with e.1.1.0.now)
put_segment κs a = coincide (λ r e w. both (positions_of w) (both (channels_of w) (codes_of w)))
