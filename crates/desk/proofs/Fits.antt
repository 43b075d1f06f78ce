-- What the tool prints fits the output of its program, for every input: at most 1,000 stops, each on a line of 50 bytes, and numbers of few digits before them. Assumes nothing.
use Prim.Native.Nat.{ℕ, zero, suc, ◌≤◌}
use native.Mathlib.Omega.{arith}
use mathlib.Core.Path.{◌≡◌, refl, ap, ◌∙◌}
use mathlib.Core.Bool.{Bool, true, false, cond}
use mathlib.Core.List.{List, []}
use lib.ListN.{length, drop, length-append}
use lib.Dec.{leb}
use lib.Ieee.{Float}
use Rattle.blend.specs.Channels.{positions_in, channels_in}
use Rattle.refusals.specs.Refusals.{misshapen}
use Rattle.stops.specs.Lent.{Ramp, ramp_of}
use Rattle.stops.specs.Answers.{on_fine}
use Rattle.stops.specs.declared.Checked.{Checked}
use Rattle.stops.specs.declared.Checked.TheVariants as checked
use Rattle.gradient.specs.Ramp.{max_of, colour_of}
use Rattle.places.specs.Places.{list_of}
use Rattle.sampling.specs.Lent.{Held}
use Rattle.sampling.specs.Sampling.{far_of, held_check, sample_answer, fresh, fresh_evaluations}
use Rattle.linearize.specs.Desk.{answer_by, flatten_evaluations}
use Rattle.sampling.specs.declared.Sampled.TheVariants as sampled
use Rattle.linearize.proofs.Records.{fresh_ready}
use Rattle.sampling.proofs.Answers.{fresh_bound}
use Rattle.linearize.proofs.Bounds.{list_bound}
use Rattle.linearize.proofs.Calls.{kept_room}
use Rattle.places.proofs.Following.{list_some, list_most}
use Rattle.refresh.specs.editing.Edited.{edited}
use Rattle.refresh.specs.RefreshDesk.{refresh_check}
use Rattle.refresh.specs.declared.editing.Edit.{Edit}
use Rattle.refresh.specs.declared.editing.Edit.TheVariants.{Colour}
use Rattle.refresh.proofs.RefreshAnswers.{relist_most}
use Rattle.entries.specs.Input.{Input, unread, input, most_kept, input_of}
use Rattle.text.specs.Output.{Puts}
use Rattle.writing.specs.Printed.{refused_text, list_text}
use Rattle.desk.specs.Tool.{list_room, listed_text, made_text, on_sampled, fresh_text, relist_text, edit_text, blank, input_text, desk_of, most_printed, Prints}
use Rattle.std.specs.Prelude.{Some, None}
use Rattle.text.proofs.Putting.{few_digits}
use Rattle.writing.proofs.Lengths.{length_unread, length_refused, length_list}
use Rattle.desk.proofs.Making.{sets_front}

-- ---- the texts

-- at most 4 digits of stops, and 5 of evaluations
list_fits : (n e : ℕ) (ps cs : List Float) → n ≤ list_room → e ≤ 45862 → length (list_text n e ps cs) ≤ most_printed
list_fits n e ps cs h k = omega (arith, length_list n e 4 5 ps cs (few_digits 20 3 n (omega arith)) (few_digits 20 4 e (omega arith)))

refused_most : (number : ℕ) → length (refused_text number) ≤ most_printed
refused_most number = omega (arith, length_refused number)

answer_fits : (check : Checked) (refusal n e : ℕ) (ps cs : List Float) → (refusal ≡ 0 → n ≤ list_room) → (check ≡ checked.Fine → e ≤ 45862) → length (listed_text (answer_by check refusal n e) ps cs) ≤ most_printed
answer_fits (checked.Refused k) refusal n e ps cs h l = refused_most k
answer_fits checked.Fine (suc r) n e ps cs h l = refused_most (suc r)
answer_fits checked.Fine zero n e ps cs h l = list_fits n e ps cs (h refl) (l refl)

-- ---- the calls
module _ (ramp : Ramp) (asked : Float) where
  -- 13,716 to sample, 18,430 to thin
  flattening_few : flatten_evaluations ramp asked ≤ 32146
  unfolding flatten_evaluations
  flattening_few =
      let is = fresh ramp asked in
      let ok = fresh_ready ramp asked is refl in
      let hi = max_of ramp in
      omega (arith, fresh_bound ramp asked (fresh_evaluations ramp asked) refl, list_bound (colour_of ramp) (far_of asked) (list_of is.rows is.counts hi) (omega (arith, list_some is.rows is.counts hi ok)) (list_most is.rows is.counts hi ok))

  made_most : (check : Checked) (ts : List Float) (spent : ℕ) → (check ≡ checked.Fine → spent ≤ 45862) → length (made_text ramp asked check ts spent) ≤ most_printed
  unfolding made_text
  made_most check ts spent h = answer_fits check _ _ spent _ _ (kept_room (colour_of ramp) (far_of asked) list_room ts) h

  fresh_most : (was : Held) → length (fresh_text ramp asked was) ≤ most_printed
  unfolding fresh_text
  fresh_most was = made_most (held_check ramp was) _ _ (λ e. omega (arith, flattening_few))

-- what follows a call fits where it does for as many evaluations as the call may make
sampled_most : (check : Checked) (n : ℕ) (f : ℕ → List ℕ) → length (f n) ≤ most_printed → length (on_sampled (on_fine check (sampled.Done n) sampled.Refused) f) ≤ most_printed
sampled_most checked.Fine n f h = h
sampled_most (checked.Refused k) n f h = refused_most k

module _ (ramp : Ramp) (e : Edit) (asked : Float) where
  relisted_most : (was : Held) (spent : ℕ) → spent ≤ 13716 → length (relist_text ramp e asked was spent) ≤ most_printed
  unfolding relist_text
  relisted_most was spent h = made_most (edited ramp e) asked (refresh_check ramp e asked was) _ _ (λ f. omega (arith, relist_most ramp e asked was f))

  edit_most : (was : Held) → length (edit_text ramp e asked was) ≤ most_printed
  unfolding edit_text sample_answer
  edit_most was = sampled_most (held_check ramp was) (fresh_evaluations ramp asked) _ (relisted_most _ _ (fresh_bound ramp asked (fresh_evaluations ramp asked) refl))

-- ---- the tool
either_most : (t : Bool) (text : List ℕ) (number : ℕ) → length text ≤ most_printed → length (cond t text (refused_text number)) ≤ most_printed
either_most true text number h = h
either_most false text number h = refused_most number

input_most : (i : Input) → length (input_text i) ≤ most_printed
unfolding input_text
input_most (unread line) = omega (arith, length_unread line)
input_most (input kind asked stops None) = either_most (leb (length stops) most_kept) _ misshapen (fresh_most (ramp_of kind (positions_in stops) (channels_in stops) []) asked blank)
input_most (input kind asked stops (Some e)) = either_most (leb (length stops) most_kept) _ misshapen (edit_most (ramp_of kind (positions_in stops) (channels_in stops) []) (Colour e.stop e.colour) asked blank)

-- the theorem: no input prints more
pub desk_most : (s : List ℕ) → length (desk_of s) ≤ most_printed
unfolding desk_of
desk_most s = input_most (input_of s)

-- so an output of that length holds what is put into it
pub all_printed : (s : List ℕ) {out out' : List ℕ} {n : ℕ} → length out ≡ most_printed → Puts out out' 0 (desk_of s) n → Prints s out out' n
all_printed s {out} {out'} {n} l p =
    let c : n ≡ length (desk_of s) = omega (arith, p.next) in
    record { count = c; fits = omega (arith, desk_most s); contents = p.written ∙ sets_front (desk_of s) out (omega (arith, desk_most s)) }

pub printed_within : {s out out' : List ℕ} {n : ℕ} → Prints s out out' n → n ≤ length out'
printed_within {s} {out} w = omega (arith, w.count, ap length w.contents, length-append (desk_of s) (drop (length (desk_of s)) out))
