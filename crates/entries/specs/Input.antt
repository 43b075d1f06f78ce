-- The input as a whole. Document 01, 'Tools read standard input ..': in this order `kind`, optional `threshold`, `stop`s, optional `edit`.
use Rattle.std.specs.Prelude.{ℕ, ◌+◌, ◌≡◌, cond, List, [], ◌∷◌, length, leb, Float, Option, Some, None, Result, Ok, Err}
use Rattle.std.proofs.lemmas.List.Edits.{sets}
use Rattle.blend.specs.declared.Stop.{Stop}
use Rattle.stops.specs.Lent.{Change}
use Rattle.stops.specs.declared.Kind.{Kind}
use Rattle.text.specs.Text.{lines}
use Rattle.sampling.specs.Constants.{default_threshold}
use Rattle.blend.specs.Channels.{positions_in, channels_in}
use Rattle.linearize.specs.Lent.{Output}
use Rattle.entries.specs.declared.fields.Recolour.{Recolour}
use Rattle.entries.specs.Entries.{entry_of}
use Rattle.entries.specs.declared.fields.Entry.{Entry}
use Rattle.entries.specs.declared.fields.Entry.TheVariants as entry
use Rattle.entries.specs.declared.reading.Asked.{Asked}
use Rattle.entries.specs.declared.reading.Unread.{Unread}

-- at most this many bytes
abbrev pub most_bytes : ℕ
most_bytes = 16384

-- the stops that the tool keeps; those beyond are read all the same. It is no limit of ramps: those are in `refusals`.
abbrev pub most_kept : ℕ
most_kept = 512

-- a ramp with its stops and its edit; or the number of the first line that fits none of this
pub data Input : Type 0 where
  unread : ℕ → Input
  input : Kind → Float → List Stop → Option Recolour → Input

-- ---- an entry of one form, or any other
abbrev pub if_ramp : {A : Type 0} → Entry → (Kind → A) → A → A
if_ramp (entry.Ramp k) f z = f k
if_ramp (entry.Threshold x) f z = z
if_ramp (entry.Stop s) f z = z
if_ramp (entry.Change e) f z = z
if_ramp entry.Unread f z = z

abbrev pub if_threshold : {A : Type 0} → Entry → (Float → A) → A → A
if_threshold (entry.Ramp k) f z = z
if_threshold (entry.Threshold x) f z = f x
if_threshold (entry.Stop s) f z = z
if_threshold (entry.Change e) f z = z
if_threshold entry.Unread f z = z

abbrev pub if_stop : {A : Type 0} → Entry → (Stop → A) → A → A
if_stop (entry.Ramp k) f z = z
if_stop (entry.Threshold x) f z = z
if_stop (entry.Stop s) f z = f s
if_stop (entry.Change e) f z = z
if_stop entry.Unread f z = z

abbrev pub if_change : {A : Type 0} → Entry → (Recolour → A) → A → A
if_change (entry.Ramp k) f z = z
if_change (entry.Threshold x) f z = z
if_change (entry.Stop s) f z = z
if_change (entry.Change e) f z = f e
if_change entry.Unread f z = z

-- ---- line by line, from the last kind of line to the first

-- nothing after the edit
unfoldable pub from_end : Kind → Float → List Stop → Recolour → ℕ → List (List ℕ) → Input
from_end k x stops e line [] = input k x stops (Some e)
from_end k x stops e line (l ∷ ls) = unread line

-- the optional edit
unfoldable pub from_edit : Kind → Float → List Stop → ℕ → List (List ℕ) → Input
from_edit k x stops line [] = input k x stops None
from_edit k x stops line (l ∷ ls) = if_change (entry_of l) (λ e. from_end k x stops e (line + 1) ls) (unread line)

-- the stops at the front, and the lines after them
unfoldable pub stops_of : List (List ℕ) → List Stop
stops_of [] = []
stops_of (l ∷ ls) = if_stop (entry_of l) (λ s. s ∷ stops_of ls) []

unfoldable pub after_stops : List (List ℕ) → List (List ℕ)
after_stops [] = []
after_stops (l ∷ ls) = if_stop (entry_of l) (λ s. after_stops ls) (l ∷ ls)

unfoldable pub from_stops : Kind → Float → ℕ → List (List ℕ) → Input
from_stops k x line ls = from_edit k x (stops_of ls) (line + length (stops_of ls)) (after_stops ls)

-- the optional threshold
unfoldable pub from_threshold : Kind → List (List ℕ) → Input
from_threshold k [] = from_stops k default_threshold 2 []
from_threshold k (l ∷ ls) = if_threshold (entry_of l) (λ x. from_stops k x 3 ls) (from_stops k default_threshold 2 (l ∷ ls))

-- the kind
unfoldable pub from_kind : List (List ℕ) → Input
from_kind [] = unread 1
from_kind (l ∷ ls) = if_ramp (entry_of l) (λ k. from_threshold k ls) (unread 1)

-- ---- the input: 0 for too many bytes
unfoldable pub input_of : List ℕ → Input
input_of s = cond (leb (length s) most_bytes) (from_kind (lines s)) (unread 0)

-- ---- the promise

-- the lines after the optional threshold
unfoldable pub after_threshold : List (List ℕ) → List (List ℕ)
after_threshold [] = []
after_threshold (l ∷ ls) = if_threshold (entry_of l) (λ x. ls) (l ∷ ls)

-- the stops in their place, whether or not what follows them can be read: those of the input where it can (`Stored.stops_are`)
unfoldable pub stops_from : List (List ℕ) → List Stop
stops_from [] = []
stops_from (l ∷ ls) = if_ramp (entry_of l) (λ k. stops_of (after_threshold ls)) []

unfoldable pub stops_in : List ℕ → List Stop
stops_in s = cond (leb (length s) most_bytes) (stops_from (lines s)) []

-- the answer is the input but for its stops, of which it has the number
abbrev pub asked_of : Input → Result Asked Unread
asked_of (unread line) = Err (record { line = line })
asked_of (input k x stops e) = Ok (record { kind = k; threshold = x; stops = length stops; edited = e })

-- the stops go into what is lent, from its start and as far as it goes
pub record Reads (s : List ℕ) (lent : Change Output) (r : Result Asked Unread) : Type 0 where
  pub answer : r ≡ asked_of (input_of s)
  pub positions : lent.exit.positions ≡ sets lent.entry.positions 0 (positions_in (stops_in s))
  pub channels : lent.exit.channels ≡ sets lent.entry.channels 0 (channels_in (stops_in s))
