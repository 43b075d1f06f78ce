-- What the functions within promise each other.
use Rattle.std.specs.Prelude.{◌≡◌, Option, None, Some, List, [], ◌∷◌, ◌++◌, ℕ, suc, ◌+◌, ◌≤◌, ◌<◌, length, get_or, drop, Float}
use Rattle.std.proofs.lemmas.List.Edits.{sets}
use Rattle.std.specs.Option.{IfSome}
use Rattle.std.specs.Float.{nan}
use Rattle.float.specs.Number.{above_of, below_of}
use Rattle.places.specs.Places.{points_before, InRecord, Ready}
use Rattle.places.specs.declared.RowPlace.{RowPlace}
use Rattle.weighed.specs.Points.{Site, site, beside_mark, lent_mark, sites_by, joined_with, merged}
use Rattle.weighed.specs.Gathered.{points_of, times_of, marks_of}
use Rattle.weighed.specs.declared.neighbours.Taken.{Taken}
use Rattle.weighed.specs.declared.neighbours.Next.{Next}
use Rattle.weighed.specs.declared.Merge.{Merge}

-- ---- the lent positions and their neighbours
abbrev pub belows : List Float → List Site
belows = sites_by below_of beside_mark

abbrev pub aboves : List Float → List Site
aboves = sites_by above_of beside_mark

abbrev pub lents : List Float → List Site
lents = sites_by (λ p. p) lent_mark

-- the neighbours that are left, and with the lent positions
unfoldable pub beside_left : List Float → Taken → List Site
beside_left ps at = joined_with (drop at.below (belows ps)) (drop at.above (aboves ps))

unfoldable pub own_left : List Float → Taken → List Site
own_left ps at = joined_with (beside_left ps at) (drop at.lent (lents ps))

-- the next of each
abbrev pub next_of : Float → ℕ → Taken → Next
next_of t m with' = record { t = t; mark = m; with = with' }

abbrev pub next_below : List Float → Taken → Next
next_below ps at = next_of (below_of (get_or ps at.below nan)) beside_mark (record { below = at.below + 1; lent = at.lent; above = at.above })

abbrev pub next_above : List Float → Taken → Next
next_above ps at = next_of (above_of (get_or ps at.above nan)) beside_mark (record { below = at.below; lent = at.lent; above = at.above + 1 })

-- the next in hand, if there is one, and those left after it
abbrev pub handed : (Taken → List Site) → Option Next → List Site
handed left None = []
handed left (Some n) = site n.t n.mark ∷ left n.with

-- the next of the neighbours: no lent position is taken with it
pub record NextBeside (ps : List Float) (at : Taken) (r : Option Next) : Type 0 where
  pub left : beside_left ps at ≡ handed (beside_left ps) r
  pub lent : IfSome r (λ n. n.with.lent ≡ at.lent)

-- ---- the merge: a record and positions, and what is left of them
module _ (ps rows : List Float) (counts : List ℕ) (max : Float) where
  abbrev pub record_left : RowPlace → List Float
  record_left place = drop (points_before counts place) (points_of rows counts)

  abbrev pub steps_left : Merge → ℕ
  steps_left s = length (record_left s.place) + length (handed (own_left ps) s.next)

  -- the points that are still to come
  unfoldable pub to_come : Merge → List Site
  to_come s = merged max (steps_left s) s.last (record_left s.place) (handed (own_left ps) s.next)

  -- a step may be made, into two arrays of so many places
  pub record MayMerge (room : ℕ) (s : Merge) : Type 0 where
    pub ready : Ready rows counts
    pub placed : InRecord counts s.place
    pub some : 0 < steps_left s
    pub fits : s.count + steps_left s ≤ room

  -- one point is taken or passed over
  pub record MergesOn (ts : List Float) (ms : List ℕ) (s : Merge) (ts' : List Float) (ms' : List ℕ) (r : Merge) : Type 0 where
    pub taken : List Site
    pub same : taken ++ to_come r ≡ to_come s
    pub times : ts' ≡ sets ts s.count (times_of taken)
    pub marks : ms' ≡ sets ms s.count (marks_of taken)
    pub many : r.count ≡ s.count + length taken
    pub one : length taken ≤ 1
    pub less : suc (steps_left r) ≡ steps_left s
    pub placed : InRecord counts r.place
