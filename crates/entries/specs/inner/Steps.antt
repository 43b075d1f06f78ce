-- What the functions within promise each other.
use Rattle.std.specs.Prelude.{ℕ, ◌≤◌, ◌≡◌, List, length, drop, Float, Option, Result, Ok, Err}
use Rattle.std.proofs.lemmas.List.Edits.{sets}
use Rattle.blend.specs.Channels.{positions_in, channels_in}
use Rattle.blend.specs.declared.Stop.{Stop}
use Rattle.stops.specs.Lent.{Change}
use Rattle.stops.specs.declared.Kind.{Kind}
use Rattle.linearize.specs.Lent.{Output}
use Rattle.text.specs.Text.{lines, first_of, rest_of}
use Rattle.entries.specs.Entries.{entry_of}
use Rattle.entries.specs.Input.{Input, unread, input, from_threshold, from_stops, from_edit, stops_of, after_stops, after_threshold}
use Rattle.entries.specs.declared.fields.Entry.{Entry}
use Rattle.entries.specs.declared.fields.Recolour.{Recolour}
use Rattle.entries.specs.declared.reading.Unread.{Unread}

-- what the line at `at` says, and where the lines after it start
pub record StepAt (s : List ℕ) (at : ℕ) (e : Entry) (next : ℕ) : Type 0 where
  pub within : next ≤ length s
  pub is : e ≡ entry_of (first_of (lines (drop at s)))
  pub rest : lines (drop next s) ≡ rest_of (lines (drop at s))

-- the threshold is read, and the line of this number starts at `next`
pub record StartAt (s : List ℕ) (at : ℕ) (x : Float) (next line : ℕ) : Type 0 where
  pub within : next ≤ length s
  pub few : line ≤ 3
  pub rest : lines (drop next s) ≡ after_threshold (lines (drop at s))
  pub is : (k : Kind) → from_threshold k (lines (drop at s)) ≡ from_stops k x line (lines (drop next s))

-- the stop lines from `from` on, n of them, are read; those that are kept are in what is lent
pub record BlockAt (s : List ℕ) (from n next : ℕ) (lent : Change Output) : Type 0 where
  pub within : next ≤ length s
  pub few : n ≤ length s
  pub count : n ≡ length (stops_of (lines (drop from s)))
  pub rest : lines (drop next s) ≡ after_stops (lines (drop from s))
  pub positions : lent.exit.positions ≡ sets lent.entry.positions 0 (positions_in (stops_of (lines (drop from s))))
  pub channels : lent.exit.channels ≡ sets lent.entry.channels 0 (channels_in (stops_of (lines (drop from s))))

-- what the end of the input makes of the stops before it
unfoldable pub ending_of : Kind → Float → List Stop → Result (Option Recolour) Unread → Input
ending_of k x stops (Err u) = unread u.line
ending_of k x stops (Ok e) = input k x stops e

pub record EndsAs (s : List ℕ) (at line : ℕ) (r : Result (Option Recolour) Unread) : Type 0 where
  pub is : (k : Kind) (x : Float) (stops : List Stop) → from_edit k x stops line (lines (drop at s)) ≡ ending_of k x stops r
