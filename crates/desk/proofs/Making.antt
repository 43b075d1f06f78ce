-- What the calls make, and what is printed of it. Assumes nothing.
use Prim.Native.Nat.{ℕ, zero, suc, ◌+◌, ◌/◌, ◌≤◌, ◌<◌, min}
use native.Mathlib.Omega.{arith}
use mathlib.Core.Path.{◌≡◌, refl, sym, ap, ap₂, ◌∙◌}
use mathlib.Core.Bool.{true, false}
use mathlib.Core.List.{List, [], ◌∷◌, ◌++◌}
use lib.ListN.{length, take, drop, replicate}
use lib.Seq.{sets, sets-eq, take_at}
use lib.Dec.{ltb}
use lib.Ieee.{Float}
use borrow.Author.Tests.{lt-ltb, le-ltb}
use Rattle.stops.specs.Lent.{Ramp, Change, change}
use Rattle.stops.specs.Stops.{stop_at}
use Rattle.stops.specs.Answers.{on_fine}
use Rattle.stops.specs.declared.Checked.{Checked}
use Rattle.stops.specs.declared.Checked.TheVariants as checked
use Rattle.gradient.specs.Ramp.{colour_of}
use Rattle.sampling.specs.Midpoints.{Gradient, Far}
use Rattle.thinning.specs.Kept.{kept_of, refusal_of, room_of, written_of, positions_written, channels_written, list_evaluations}
use Rattle.blend.specs.Channels.{colours_of}
use Rattle.blend.proofs.Channels.{length_colours}
use Rattle.sampling.specs.Lent.{Held}
use Rattle.linearize.specs.Lent.{Output, output_of}
use Rattle.sampling.specs.Sampling.{far_of, held_check, fresh, evaluations_of_sampled}
use Rattle.linearize.specs.Desk.{answer_by, points_in, flatten_evaluations, with_sampling, stops_of_listed, written, flatten_output}
use Rattle.sampling.specs.Promises.{Samples}
use Rattle.linearize.specs.Promises.{Flattens}
use Rattle.linearize.specs.declared.Listed.{Listed}
use Rattle.linearize.specs.declared.Listed.TheVariants as listed
use Rattle.sampling.specs.declared.Sampled.{Sampled}
use Rattle.sampling.specs.declared.Sampled.TheVariants as sampled
use Rattle.linearize.proofs.Calls.{kept_room}
use Rattle.sampling.proofs.Answers.{sample_most}
use Rattle.refresh.specs.editing.Edited.{edited}
use Rattle.refresh.specs.RefreshDesk.{refresh_check, new_evaluations, refresh_output, RefreshLists}
use Rattle.refresh.specs.declared.editing.Edit.{Edit}
use Rattle.refresh.specs.declared.editing.Edit.TheVariants.{Colour}
use Rattle.entries.specs.declared.fields.Recolour.{Recolour}
use Rattle.text.specs.Output.{count_text, Puts}
use Rattle.writing.specs.Printed.{stop_text, rows_text, stops_word, evaluations_word, list_text, reply_text}
use Rattle.writing.specs.declared.Reply.{Reply}
use Rattle.writing.specs.declared.Reply.TheVariants as reply
use Rattle.desk.specs.inner.Steps.{reply_of, Says, Room}
use Rattle.desk.specs.Tool.{list_room, listed_text, kept_in, made_text, fresh_text, new_points, relist_text, edit_text, blank, ramp_text, desk_of, desk_answer, desk_output, Desks}
use Rattle.std.specs.Prelude.{Option, Some, None}
use Rattle.desk.specs.declared.Desked.TheVariants as desked
use Rattle.text.proofs.Putting.{puts_size}

-- ---- stores from the start
pub sets_front : {A : Type 0} (vs l : List A) → length vs ≤ length l → sets l 0 vs ≡ vs ++ drop (length vs) l
sets_front vs l h =
    let m : 0 + length vs ≡ length vs = omega arith in
    sets-eq vs l 0 (omega arith) ∙ ap (λ (n : ℕ). vs ++ drop n l) m

pub take-front : {A : Type 0} (vs l : List A) (n : ℕ) → length vs ≡ n → n ≤ length l → take n (sets l 0 vs) ≡ vs
take-front vs l n e h = ap (take n) (sets_front vs l (omega arith)) ∙ take_at vs (drop (length vs) l) n e

-- ---- the list of an answer
rows_same : (g : Gradient) (ts a b : List Float) → rows_text (length ts) (ts ++ a) (colours_of g ts ++ b) ≡ rows_text (length ts) ts (colours_of g ts)
unfolding rows_text colours_of
rows_same g [] a b = refl
rows_same g (t ∷ ts) a b = ap (λ (x : List ℕ). stop_text (stop_at (t ∷ ts) (colours_of g (t ∷ ts)) 0) ++ x) (rows_same g ts a b)

list_same : (g : Gradient) (ts ps cs a b : List Float) (e : ℕ) → ps ≡ ts ++ a → cs ≡ colours_of g ts ++ b → list_text (length ts) e ps cs ≡ list_text (length ts) e ts (colours_of g ts)
unfolding list_text
list_same g ts ps cs a b e p c =
    ap (λ (x : List ℕ). stops_word ++ (count_text (length ts) ++ (evaluations_word ++ (count_text e ++ 10 ∷ x))))
    (ap₂ (rows_text (length ts)) p c ∙ rows_same g ts a b)

same_list : (check : Checked) (refusal e : ℕ) (g : Gradient) (kept : List Float) (out out' : Output) → (refusal ≡ 0 → length kept ≤ list_room) → Room out.positions out.channels
    → out' ≡ on_fine check (output_of (written_of refusal (sets out.positions 0 kept)) (written_of refusal (sets out.channels 0 (colours_of g kept)))) (λ n. out)
    → listed_text (answer_by check refusal (length kept) e) out'.positions out'.channels ≡ listed_text (answer_by check refusal (length kept) e) kept (colours_of g kept)
same_list (checked.Refused n) refusal e g kept out out' fits w p = refl
same_list checked.Fine (suc r) e g kept out out' fits w p = refl
same_list checked.Fine zero e g kept out out' fits w p =
    let h = fits refl in
    list_same g kept out'.positions out'.channels (drop (length kept) out.positions) (drop (length (colours_of g kept)) out.channels) e
    (ap (λ (o : Output). o.positions) p ∙ sets_front kept out.positions (omega (arith, w.positions)))
    (ap (λ (o : Output). o.channels) p ∙ sets_front (colours_of g kept) out.channels (omega (arith, length_colours g kept, w.channels)))

stops_few : (check : Checked) (refusal n most e : ℕ) → (refusal ≡ 0 → n ≤ most) → stops_of_listed (answer_by check refusal n e) ≤ most
stops_few (checked.Refused k) refusal n most e h = omega arith
stops_few checked.Fine (suc r) n most e h = omega arith
stops_few checked.Fine zero n most e h = h refl

with_answer : (check : Checked) (refusal n e s : ℕ) → with_sampling s (answer_by check refusal n e) ≡ answer_by check refusal n (s + e)
with_answer (checked.Refused k) refusal n e s = refl
with_answer checked.Fine (suc r) n e s = refl
with_answer checked.Fine zero n e s = refl

room_is : {ps cs : List Float} → Room ps cs → room_of ps cs ≡ list_room
room_is {ps} {cs} w = ap₂ (λ (n m : ℕ). min n (m / 4)) w.positions w.channels

-- ---- what is said of an answer
pub done_fits : {l : Listed} {n e : ℕ} → l ≡ listed.Done n e → stops_of_listed l ≤ list_room → n ≤ list_room
done_fits {l} {n} {e} i h = omega (arith, ap stops_of_listed i)

pub done_reply : {l : Listed} {n e : ℕ} → l ≡ listed.Done n e → reply.Made n e ≡ reply_of l
done_reply i = sym (ap reply_of i)

pub refused_reply : {l : Listed} {number : ℕ} → l ≡ listed.Refused number → reply.Refused number ≡ reply_of l
refused_reply i = sym (ap reply_of i)

listed_reply : (l : Listed) (ps cs : List Float) → reply_text (reply_of l) ps cs ≡ listed_text l ps cs
listed_reply (listed.Done n e) ps cs = refl
listed_reply (listed.Refused number) ps cs = refl

pub says_listed : (l : Listed) {ps cs : List Float} {r : Reply} {text : List ℕ} → r ≡ reply_of l → listed_text l ps cs ≡ text → Says text r ps cs
says_listed l {ps} {cs} e t = record { is = ap (λ (x : Reply). reply_text x ps cs) e ∙ listed_reply l ps cs ∙ t }

pub says_as : {ps cs : List Float} {r : Reply} {text other : List ℕ} → Says text r ps cs → text ≡ other → Says other r ps cs
says_as w e = record { is = w.is ∙ e }

-- ---- a list that was made
fits_in : (g : Gradient) (far : Far) {ops ocs : List Float} → Room ops ocs → (ts : List Float) → refusal_of g far (room_of ops ocs) ts ≡ 0 → length (kept_of g far ts) ≤ list_room
fits_in g far {ops} {ocs} v ts z = omega (arith, kept_room g far (room_of ops ocs) ts z, room_is v)

-- an answer of a ramp's points, in outputs with room for 1,000 stops
abbrev pub Answers : Ramp → Float → Checked → List Float → ℕ → Output → Listed → Type 0
Answers ramp asked check ts spent out r =
    r ≡ answer_by check (refusal_of (colour_of ramp) (far_of asked) (room_of out.positions out.channels) ts) (length (kept_in ramp asked ts)) spent

module _ (ramp : Ramp) (asked : Float) (check : Checked) (ts : List Float) (spent : ℕ) (out : Change Output) (r : Listed) (v : Room out.entry.positions out.entry.channels) (a : Answers ramp asked check ts spent out.entry r) where
  pub made_fits : stops_of_listed r ≤ list_room
  made_fits = rw a (stops_few check (refusal_of (colour_of ramp) (far_of asked) (room_of out.entry.positions out.entry.channels) ts) (length (kept_in ramp asked ts)) list_room spent (fits_in (colour_of ramp) (far_of asked) v ts))

  pub made_text_lem : out.exit ≡ on_fine check (written ramp asked ts out.entry) (λ n. out.entry) → listed_text r out.exit.positions out.exit.channels ≡ made_text ramp asked check ts spent
  unfolding made_text positions_written channels_written
  made_text_lem left =
      let c = colour_of ramp in
      let far = far_of asked in
      let was = out.entry in
      ap (λ (x : Listed). listed_text x out.exit.positions out.exit.channels) a
      ∙ same_list check (refusal_of c far (room_of was.positions was.channels) ts) spent c (kept_of c far ts) was out.exit (fits_in c far v ts) v left
      ∙ ap (λ (m : ℕ). listed_text (answer_by check (refusal_of c far m ts) (length (kept_of c far ts)) spent) (kept_of c far ts) (colours_of c (kept_of c far ts))) (room_is v)

-- ---- flattening
module _ {ramp : Ramp} {asked : Float} {held : Change Held} {out : Change Output} {r : Listed} (v : Room out.entry.positions out.entry.channels) (w : Flattens ramp asked held out r) where
  pub fresh_fits : stops_of_listed r ≤ list_room
  fresh_fits = made_fits ramp asked (held_check ramp held.entry) (points_in ramp (fresh ramp asked)) (flatten_evaluations ramp asked) out r v w.told.answer

  pub fresh_same : listed_text r out.exit.positions out.exit.channels ≡ fresh_text ramp asked held.entry
  unfolding fresh_text flatten_output
  fresh_same = made_text_lem ramp asked (held_check ramp held.entry) (points_in ramp (fresh ramp asked)) (flatten_evaluations ramp asked) out r v w.told.answer w.output

-- ---- sampling, and then the list after a refresh
module _ {ramp : Ramp} (e : Edit) {asked : Float} {held : Change Held} {r : Sampled} (w : Samples ramp asked held r) where
  pub sample_no : {ps cs : List Float} {number : ℕ} → r ≡ sampled.Refused number → Says (edit_text ramp e asked held.entry) (reply.Refused number) ps cs
  unfolding edit_text
  sample_no i = record { is = rw (sym w.answer ∙ i) }

  module _ {n : ℕ} (i : r ≡ sampled.Done n) where
    pub sample_few : n ≤ 13716
    sample_few = omega (arith, ap evaluations_of_sampled i, sample_most ramp asked held.entry held.exit r w)

    module _ {all : Held} {out : Change Output} {l made : Listed} (v : Room out.entry.positions out.entry.channels) (u : RefreshLists ramp e asked (change held.exit all) out l) (b : made ≡ with_sampling n l) where
      abbrev spent : ℕ
      spent = new_evaluations ramp e asked + list_evaluations (colour_of (edited ramp e)) (far_of asked) (new_points ramp e asked held.exit)

      answers : Answers (edited ramp e) asked (refresh_check ramp e asked held.exit) (new_points ramp e asked held.exit) (n + spent) out.entry made
      answers =
          b ∙ ap (with_sampling n) u.told.answer
          ∙ with_answer (refresh_check ramp e asked held.exit) (refusal_of (colour_of (edited ramp e)) (far_of asked) (room_of out.entry.positions out.entry.channels) (new_points ramp e asked held.exit))
          (length (kept_in (edited ramp e) asked (new_points ramp e asked held.exit))) spent n

      pub relist_fits : stops_of_listed made ≤ list_room
      relist_fits = made_fits (edited ramp e) asked (refresh_check ramp e asked held.exit) (new_points ramp e asked held.exit) (n + spent) out made v answers

      pub relist_same : listed_text made out.exit.positions out.exit.channels ≡ edit_text ramp e asked held.entry
      unfolding edit_text relist_text refresh_output
      relist_same =
          made_text_lem (edited ramp e) asked (refresh_check ramp e asked held.exit) (new_points ramp e asked held.exit) (n + spent) out made v answers u.output
          ∙ rw (sym w.answer ∙ i) (ap (λ (h : Held). relist_text ramp e asked h n) w.left)

-- ---- a ramp with or without an edit
module _ (ramp : Ramp) (asked : Float) {e : Option Recolour} where
  pub ramp_fresh : e ≡ None → fresh_text ramp asked blank ≡ ramp_text ramp asked e
  ramp_fresh i = sym (ap (ramp_text ramp asked) i)

  pub ramp_edited : {d : Recolour} → e ≡ Some d → edit_text ramp (Colour d.stop d.colour) asked blank ≡ ramp_text ramp asked e
  ramp_edited i = sym (ap (ramp_text ramp asked) i)

-- ---- the output
module _ (s : List ℕ) {out mid : List ℕ} {n : ℕ} (p : Puts out mid 0 (desk_of s) n) where
  size_is : length (desk_of s) ≡ n
  size_is = omega (arith, p.next)

  pub desk_short : {out' : List ℕ} → length mid < n → out' ≡ replicate (length mid) 0 → Desks s out out' (desked.Short n)
  unfolding desk_answer desk_output
  desk_short {out'} h e =
      let l : ltb (length out) (length (desk_of s)) ≡ true = lt-ltb (length out) (length (desk_of s)) (omega (arith, puts_size p, size_is)) in
      record { answer = rw (l) (ap desked.Short (sym size_is)); contents = rw l (e ∙ ap (λ (m : ℕ). replicate m 0) (puts_size p)) }

  pub desk_printed : n ≤ length mid → Desks s out mid (desked.Printed n)
  unfolding desk_answer desk_output
  desk_printed h =
      let l : ltb (length out) (length (desk_of s)) ≡ false = le-ltb (length out) (length (desk_of s)) (omega (arith, puts_size p, size_is)) in
      record { answer = rw l (ap desked.Printed (sym size_is)); contents = rw l (p.written ∙ sets_front (desk_of s) out (omega (arith, puts_size p, size_is))) }
