-- What holds after an edit, said of the calls: of any results that the contracts of sampling, refreshing, thinning and flattening allow.
-- Demand 3, for a change of colour of linear, smoothstep, basis and Catmull-Rom ramps, and a stop moved, added or removed of the first two: after an edit the refreshed record and its list equal those made afresh, and rows clear of the change keep every byte. That the threshold is the
-- one the record was sampled with is nothing that a caller must see to: a refresh with another one is refused.
use Rattle.std.specs.Prelude.{◌≡◌, ℕ, ◌*◌, length, take, drop, get_or, Float}
use Rattle.stops.specs.Lent.{Ramp, Change, change}
use Rattle.refusals.specs.Refusals.{other_threshold}
use Rattle.sampling.specs.Constants.{cells, row_length, record_length, marks_length, threshold_of}
use Rattle.sampling.specs.Lent.{Held}
use Rattle.linearize.specs.Lent.{Output}
use Rattle.linearize.specs.Desk.{number_of_listed, stops_of_listed, with_sampling}
use Rattle.sampling.specs.Sampling.{fresh_evaluations}
use Rattle.linearize.specs.Promises.{Thins}
use Rattle.sampling.specs.declared.Sampled.{Sampled}
use Rattle.sampling.specs.declared.Sampled.TheVariants as sampled
use Rattle.linearize.specs.declared.Listed.{Listed}
use Rattle.linearize.specs.declared.Listed.TheVariants as listed
use Rattle.refresh.specs.editing.Edited.{edited}
use Rattle.refresh.specs.RefreshDesk.{new_evaluations}
use Rattle.refresh.specs.declared.editing.Edit.{Edit}

-- two answers with what their calls left in the outputs
pub record SameList (r q : Listed) (out out' : Output) : Type 0 where
  pub same_answer : r ≡ q
  pub same_output : out ≡ out'

-- a record of the right lengths, whatever it holds
pub record Shaped (held : Held) : Type 0 where
  pub long : length held.rows ≡ record_length
  pub many : length held.counts ≡ cells
  pub three : length held.marks ≡ marks_length

module _ (ramp : Ramp) (e : Edit) where
  -- the changed ramp, thinned over two records into like outputs by one threshold, gives one answer (7, 8, 9 and 20 included) and one pair of outputs
  abbrev pub OneList : Held → Held → Type 0
  OneList held other =
      (asked : Float) (out out₁ out₂ : Output) (r q : Listed)
      → Thins (edited ramp e) asked held (change out out₁) r
      → Thins (edited ramp e) asked other (change out out₂) q
      → SameList r q out₁ out₂

  -- a refresh with the threshold `mine` of a record that was sampled with `asked`: done where both are one in force; else 20, and nothing is changed
  pub record ByThreshold (asked mine : Float) (was after : Held) (r : Sampled) : Type 0 where
    pub same : threshold_of asked ≡ threshold_of mine → r ≡ sampled.Done (new_evaluations ramp e mine)
    pub other : (threshold_of asked ≡ threshold_of mine → ⊥) → (r ≡ sampled.Refused other_threshold) × (after ≡ was)

  -- a record that was refreshed, with the refresh's answer, and one that was sampled afresh, with the sampling's
  pub record Fresh (asked : Float) (held : Held) (r : Sampled) (other : Held) (s : Sampled) : Type 0 where
    pub not_refused : r ≡ sampled.Done (new_evaluations ramp e asked)
    pub sampled_too : s ≡ sampled.Done (fresh_evaluations (edited ramp e) asked)
    pub same_record : held ≡ other
    pub one_list : OneList held other

-- what `refresh_list` answers and leaves in the outputs, by the answer of `refresh` and what `thin` then gives
abbrev pub list_after : Sampled → Listed → Listed
list_after (sampled.Done n) l = with_sampling n l
list_after (sampled.Refused n) l = listed.Refused n

abbrev pub output_after : Sampled → Change Output → Output
output_after (sampled.Done n) out = out.exit
output_after (sampled.Refused n) out = out.entry

-- `refresh_list`, which left the record `all` and the outputs `out`, is `refresh`, which left `held`, and then `thin` of the changed ramp over that
pub record RefreshedThenThinned (held all : Held) (thinned : Change Output) (out : Output) (q : Sampled) (l r : Listed) : Type 0 where
  pub answer : r ≡ list_after q l
  pub same_record : all ≡ held
  pub output : out ≡ output_after q thinned

-- the list made by a refresh beside that of flattening the changed ramp: all but the evaluations
pub record FreshList (held other : Held) (out out' : Output) (r q : Listed) : Type 0 where
  pub same_number : number_of_listed r ≡ number_of_listed q
  pub same_stops : stops_of_listed r ≡ stops_of_listed q
  pub same_record : held ≡ other
  pub same_output : out ≡ out'

-- cell i of two records: its row, all 128 numbers, and its count
pub record SameCell (i : ℕ) (held other : Held) : Type 0 where
  pub same_row : take row_length (drop (i * row_length) held.rows) ≡ take row_length (drop (i * row_length) other.rows)
  pub same_count : get_or held.counts i 0 ≡ get_or other.counts i 0
