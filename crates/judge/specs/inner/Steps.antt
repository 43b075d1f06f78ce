-- What the functions within promise each other.
use Rattle.std.specs.Prelude.{ℕ, ◌+◌, ◌*◌, ◌≤◌, ◌<◌, ◌≡◌, Bool, List, length, get_or, Float}
use Rattle.std.specs.Float.{nan}
use Rattle.stops.specs.Lent.{Ramp}
use Rattle.stops.specs.Place.{Rising}
use Rattle.gradient.specs.Ramp.{any_colour}
use Rattle.sampling.specs.Constants.{cells, row_length, record_length}
use Rattle.judge.specs.Lists.{Offer, first_failing, offered_ramp}
use Rattle.judge.specs.Verdicts.{close, all_verdict}
use Rattle.judge.specs.declared.Verdict.{Verdict}

-- a list whose colours are document 01's
pub record Sound (offer : Offer) : Type 0 where
  pub least : 2 ≤ length offer.positions
  pub rising : Rising offer.positions

-- a record whose points can be read
pub record Readable (rows : List Float) (counts : List ℕ) : Type 0 where
  pub long : length rows ≡ record_length
  pub many : length counts ≡ cells
  pub most : (i : ℕ) → i < cells → get_or counts i 0 ≤ row_length

-- of any slices: where both were checked it is `close_at` (proofs/Colours)
abbrev pub any_close : Ramp → Offer → Float → Float → Bool
any_close ramp offer threshold t = close (any_colour ramp) (any_colour (offered_ramp offer)) threshold t

-- the first of `count` points from `at` on that is not near
abbrev pub far_from : (Float → Bool) → List Float → ℕ → ℕ → ℕ
far_from near rows at count = first_failing (λ j. near (get_or rows (at + j) nan)) count 0

-- the verdict on a record's points
abbrev pub record_verdict : (Float → Bool) → List Float → List ℕ → Float → Verdict
record_verdict near rows counts max = all_verdict near (λ i. get_or counts i 0) (λ i j. get_or rows (i * row_length + j) nan) max
