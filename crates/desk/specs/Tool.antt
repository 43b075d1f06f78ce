-- The tool as a whole: the calls that it makes, and what it prints of them. Document 01, 'Tools read standard input ..'.
use Rattle.std.specs.Prelude.{ℕ, ◌+◌, ◌≤◌, ◌≡◌, cond, List, [], ◌++◌, length, drop, replicate, leb, ltb, Float, Option, Some, None}
use Rattle.float.specs.F32.{f0}
use Rattle.refusals.specs.Refusals.{misshapen}
use Rattle.stops.specs.Lent.{Ramp, ramp_of}
use Rattle.stops.specs.declared.Checked.{Checked}
use Rattle.gradient.specs.Ramp.{colour_of}
use Rattle.sampling.specs.Constants.{cells, record_length, marks_length}
use Rattle.thinning.specs.Kept.{kept_of, refusal_of, list_evaluations}
use Rattle.blend.specs.Channels.{colours_of, positions_in, channels_in}
use Rattle.sampling.specs.Lent.{Held, held_of}
use Rattle.sampling.specs.Sampling.{far_of, held_check, fresh, sample_answer, sample_held}
use Rattle.linearize.specs.Desk.{answer_by, points_in, flatten_evaluations}
use Rattle.linearize.specs.declared.Listed.{Listed}
use Rattle.linearize.specs.declared.Listed.TheVariants as listed
use Rattle.sampling.specs.declared.Sampled.{Sampled}
use Rattle.sampling.specs.declared.Sampled.TheVariants as sampled
use Rattle.refresh.specs.editing.Edited.{edited}
use Rattle.refresh.specs.RefreshDesk.{refresh_check, renewed, new_evaluations}
use Rattle.entries.specs.Input.{Input, unread, input, most_kept, input_of}
use Rattle.writing.specs.Printed.{unread_text, refused_text, list_text}
use Rattle.refresh.specs.declared.editing.Edit.{Edit}
use Rattle.refresh.specs.declared.editing.Edit.TheVariants.{Colour}
use Rattle.entries.specs.declared.fields.Recolour.{Recolour}
use Rattle.desk.specs.declared.Desked.{Desked}
use Rattle.desk.specs.declared.Desked.TheVariants as desked

-- the stops that a list has room for
abbrev pub list_room : ℕ
list_room = 1000

-- a refusal prints only `refused` and its number
abbrev pub listed_text : Listed → List Float → List Float → List ℕ
listed_text (listed.Done n e) ps cs = list_text n e ps cs
listed_text (listed.Refused number) ps cs = refused_text number

-- what goes on after a sampling with so many evaluations, or its refusal
abbrev pub on_sampled : Sampled → (ℕ → List ℕ) → List ℕ
on_sampled (sampled.Done n) f = f n
on_sampled (sampled.Refused number) f = refused_text number

-- ---- the calls, on a ramp, a threshold as it was asked for, and a record

-- the list of a ramp's points ts, after a check and with so many evaluations in all: the points kept, and their colours
module _ (ramp : Ramp) (asked : Float) where
  abbrev pub kept_in : List Float → List Float
  kept_in ts = kept_of (colour_of ramp) (far_of asked) ts

  unfoldable pub made_text : Checked → List Float → ℕ → List ℕ
  made_text check ts spent =
      listed_text (answer_by check (refusal_of (colour_of ramp) (far_of asked) list_room ts) (length (kept_in ts)) spent)
      (kept_in ts)
      (colours_of (colour_of ramp) (kept_in ts))

  -- without an edit: flattening
  unfoldable pub fresh_text : Held → List ℕ
  fresh_text was = made_text (held_check ramp was) (points_in ramp (fresh ramp asked)) (flatten_evaluations ramp asked)

-- with an edit: sampling the ramp as it was; then refreshing, and thinning the changed ramp
module _ (ramp : Ramp) (e : Edit) (asked : Float) where
  abbrev pub new_points : Held → List Float
  new_points was = points_in (edited ramp e) (renewed ramp e asked was)

  unfoldable pub relist_text : Held → ℕ → List ℕ
  relist_text was spent =
      made_text (edited ramp e) asked (refresh_check ramp e asked was) (new_points was)
      (spent + (new_evaluations ramp e asked + list_evaluations (colour_of (edited ramp e)) (far_of asked) (new_points was)))

  unfoldable pub edit_text : Held → List ℕ
  edit_text was = on_sampled (sample_answer ramp asked was) (λ n. relist_text (sample_held ramp asked was) n)

-- ---- the tool

-- a record of zeros is lent
abbrev pub blank : Held
blank = held_of (replicate record_length f0) (replicate cells 0) (replicate marks_length 0)

abbrev pub ramp_text : Ramp → Float → Option Recolour → List ℕ
ramp_text ramp asked None = fresh_text ramp asked blank
ramp_text ramp asked (Some e) = edit_text ramp (Colour e.stop e.colour) asked blank

-- more stops than the tool keeps are refused, whatever the library allows
unfoldable pub input_text : Input → List ℕ
input_text (unread line) = unread_text line
input_text (input kind asked stops e) =
    cond (leb (length stops) most_kept) (ramp_text (ramp_of kind (positions_in stops) (channels_in stops) []) asked e) (refused_text misshapen)

-- what is printed for these bytes
unfoldable pub desk_of : List ℕ → List ℕ
desk_of s = input_text (input_of s)

-- ---- the promise: how many bytes, and what the output holds. What lies past them stays; one too short is zero throughout.
unfoldable pub desk_answer : ℕ → ℕ → Desked
desk_answer n room = cond (ltb room n) (desked.Short n) (desked.Printed n)

unfoldable pub desk_output : List ℕ → List ℕ → List ℕ
desk_output text out = cond (ltb (length out) (length text)) (replicate (length out) 0) (text ++ drop (length text) out)

pub record Desks (s out out' : List ℕ) (r : Desked) : Type 0 where
  pub answer : r ≡ desk_answer (length (desk_of s)) (length out)
  pub contents : out' ≡ desk_output (desk_of s) out

-- ---- no answer is longer: 1,000 lines of 50 bytes after a first line of at most 29
abbrev pub most_printed : ℕ
most_printed = 50029

-- an output of that length holds every answer; what lies past the bytes printed stays
pub record Prints (s out out' : List ℕ) (n : ℕ) : Type 0 where
  pub count : n ≡ length (desk_of s)
  pub fits : n ≤ most_printed
  pub contents : out' ≡ desk_of s ++ drop (length (desk_of s)) out
