-- `colorgrad_c`: the calls for C and Rust. A kind is given by its code; an answer is a number, and what is told into lent slices.
use contract.Lifetimes.{Lfts}
use Prim.Native.Nat.{ℕ}
use mathlib.Core.Path.{sym, ◌∙◌, ap}
use Rattle.sqrt.proofs.Theorems.{cutoff_unique}
use Rattle.stops.specs.declared.Kind.{Kind}
use Rattle.stops.specs.declared.Kind.TheVariants.{Linear}
use Rattle.colorgrad_c.specs.plain.Kinds.{kind_of, on_kind, Shows, ShowsOf}
use Rattle.std.specs.Prelude.{Option, Some, None}
use Rattle.promises.proofs.Parts.{rows_of, counts_of, marks_of, positions_of, channels_of, ramp_positions, ramp_channels}
use Rattle.promises.proofs.Segment as stored
use Rattle.promises.specs.Law.{Coincide, coincide, answer, ◌with◌, both}
use Rattle.colorgrad_c.proofs.leaves.colorgrad_root.Reads as of_root
use Rattle.colorgrad_c.proofs.leaves.colorgrad_cutoff.Reads as of_cutoff
use Rattle.colorgrad_c.proofs.leaves.colorgrad_threshold.Reads as of_threshold
use Rattle.colorgrad_c.proofs.leaves.colorgrad_hold.Reads as of_hold
use Rattle.colorgrad_c.proofs.leaves.colorgrad_token_told.Reads as of_token
use Rattle.colorgrad_c.proofs.leaves.colorgrad_long_token_told.Reads as of_long_token
use Rattle.colorgrad_c.proofs.about.colorgrad_version.Reads as of_version
use Rattle.colorgrad_c.proofs.about.colorgrad_message_told.Reads as of_message
use Rattle.colorgrad_c.proofs.about.colorgrad_verdict_message_told.Reads as of_verdict_message
use Rattle.colorgrad_c.proofs.ramps.colorgrad_check.Reads as of_check
use Rattle.colorgrad_c.proofs.ramps.colorgrad_domain_told.Reads as of_domain
use Rattle.colorgrad_c.proofs.ramps.colorgrad_at_told.Reads as of_at
use Rattle.colorgrad_c.proofs.ramps.colorgrad_paint.Reads as of_paint
use Rattle.colorgrad_c.proofs.ramps.colorgrad_sharp_told.Reads as of_sharp
use Rattle.colorgrad_c.proofs.gimp.colorgrad_read_told.Reads as of_read
use Rattle.colorgrad_c.proofs.gimp.colorgrad_read_saved_told.Reads as of_read_saved
use Rattle.colorgrad_c.proofs.gimp.colorgrad_name.Reads as of_name
use Rattle.colorgrad_c.proofs.gimp.colorgrad_name_saved.Reads as of_name_saved
use Rattle.colorgrad_c.proofs.tool.colorgrad_desk.Reads as of_desk
use Rattle.colorgrad_c.proofs.lists.colorgrad_sample_told.Reads as of_sample
use Rattle.colorgrad_c.proofs.lists.colorgrad_thin_told.Reads as of_thin
use Rattle.colorgrad_c.proofs.lists.colorgrad_flatten_told.Reads as of_flatten
use Rattle.colorgrad_c.proofs.lists.colorgrad_thin_within_told.Reads as of_thin_within
use Rattle.colorgrad_c.proofs.lists.colorgrad_flatten_within_told.Reads as of_flatten_within
use Rattle.colorgrad_c.proofs.steps.colorgrad_next_stop_told.Reads as of_next_stop
use Rattle.colorgrad_c.proofs.judging.colorgrad_judge_told.Reads as of_judge
use Rattle.colorgrad_c.proofs.judging.colorgrad_apart_told.Reads as of_apart
use Rattle.colorgrad_c.proofs.edits.colorgrad_edit_told.Reads as of_edit
use Rattle.colorgrad_c.proofs.edits.colorgrad_edit_list_told.Reads as of_edit_list
use Rattle.colorgrad_c.proofs.sheets.colorgrad_sheet_open_told.Reads as of_sheet_open
use Rattle.colorgrad_c.proofs.sheets.colorgrad_sheet_edit_told.Reads as of_sheet_edit

pub root : (κs : Lfts 0) (a : _) → Coincide (of_root.Learnt κs a) answer
root κs a = coincide (λ r e w. w)

pub cutoff : (κs : Lfts 0) (a : _) → Coincide (of_cutoff.Learnt κs a) answer
cutoff κs a = λ r s e f. cutoff_unique a.0 r s

pub threshold : (κs : Lfts 0) (a : _) → Coincide (of_threshold.Learnt κs a) answer
threshold κs a = coincide (λ r e w. w)

pub hold : (κs : Lfts 0) (a : _) → Coincide (of_hold.Learnt κs a) answer
hold κs a = coincide (λ r e w. w)

pub version : (κs : Lfts 0) (a : _) → Coincide (of_version.Learnt κs a) answer
version κs a = coincide (λ r e w. w)

pub token : (κs : Lfts 2) (a : _) → Coincide (of_token.Learnt κs a) (λ r e. r with e.1.0.now)
token κs a = coincide (λ r e w. both w.0 w.1)

pub long_token : (κs : Lfts 2) (a : _) → Coincide (of_long_token.Learnt κs a) (λ r e. r with e.1.0.now)
long_token κs a = coincide (λ r e w. both w.0 w.1)

pub message : (κs : Lfts 1) (a : _) → Coincide (of_message.Learnt κs a) (λ r e. r with e.1.0.now)
message κs a = coincide (λ r e w. both w.0 w.1)

pub verdict_message : (κs : Lfts 1) (a : _) → Coincide (of_verdict_message.Learnt κs a) (λ r e. r with e.1.0.now)
verdict_message κs a = coincide (λ r e w. both w.0 w.1)

pub read : (κs : Lfts 5) (a : _) → Coincide (of_read.Learnt κs a) (λ r e. r with e.1.1.1.1.1.1.1.1.1.1.1.1.0.now with e.1.1.1.1.1.1.1.1.1.0.now with e.1.1.1.1.1.1.1.1.1.1.0.now with e.1.1.1.1.1.1.1.1.1.1.1.0.now)
read κs a = coincide (λ r e w. both w.number (both w.told (both (stored.positions_of w.left) (both (stored.channels_of w.left) (stored.codes_of w.left)))))

pub read_saved : (κs : Lfts 5) (a : _) → Coincide (of_read_saved.Learnt κs a) (λ r e. r with e.1.1.1.1.1.1.1.1.1.1.1.1.0.now with e.1.1.1.1.1.1.1.1.1.0.now with e.1.1.1.1.1.1.1.1.1.1.0.now with e.1.1.1.1.1.1.1.1.1.1.1.0.now)
read_saved κs a = coincide (λ r e w. both w.number (both w.told (both (stored.positions_of w.left) (both (stored.channels_of w.left) (stored.codes_of w.left)))))

pub name : (κs : Lfts 2) (a : _) → Coincide (of_name.Learnt κs a) (λ r e. r with e.1.0.now)
name κs a = coincide (λ r e w. both w.0 w.1)

pub name_saved : (κs : Lfts 2) (a : _) → Coincide (of_name_saved.Learnt κs a) (λ r e. r with e.1.0.now)
name_saved κs a = coincide (λ r e w. both w.0 w.1)

pub desk : (κs : Lfts 2) (a : _) → Coincide (of_desk.Learnt κs a) (λ r e. r with e.1.0.now)
desk κs a = coincide (λ r e w. both w.0 w.1)

-- ---- an answer that is told coincides where the answer does
module _ {A E R B : Type 0} {P : A → E → Type 0} {show : A → B} (said : R → E → B) where
  by_answer : {X : Type 0} {rest : E → X} → Coincide P (λ (a : A) (e : E). a with rest e)
      → Coincide (λ (r : R) (e : E). ShowsOf (λ (a : A). P a e) show (said r e)) (λ (r : R) (e : E). said r e with rest e)
  by_answer {X} {rest} same r s e f v w =
      let is = same v.answer w.answer e f v.promised w.promised in
      both (v.shown ∙ ap (λ (x : A × X). show x.0) is ∙ sym w.shown) (ap (λ (x : A × X). x.1) is)

  by_answer_alone : Coincide P answer → Coincide (λ (r : R) (e : E). ShowsOf (λ (a : A). P a e) show (said r e)) said
  by_answer_alone same r s e f v w = v.shown ∙ ap show (same v.answer w.answer e f v.promised w.promised) ∙ sym w.shown

pub sharp : (κs : Lfts 4) (a : _) → Coincide (of_sharp.Learnt κs a) (λ r e. (r with e.1.1.1.1.1.1.0.now) with e.1.1.1.1.0.now with e.1.1.1.1.1.0.now)
sharp κs a =
    by_answer _ (coincide (λ r e w. both w.answer (both w.positions w.channels)))

-- ---- the calls for a kind by its code: of the kind that the code names, and of a code that names none
module _ {A E : Type 0} {P : Kind → A → E → Type 0} {Q : A → E → Type 0} where
  by_kind : {X : Type 0} {seen : A → E → X} → ((kind : Kind) → Coincide (P kind) seen) → Coincide Q seen
      → (z : Option Kind) → Coincide (λ (a : A) (e : E). on_kind z (λ (kind : Kind) (x : A). P kind x e) (λ (x : A). Q x e) a) seen
  by_kind known unknown (Some kind) = known kind
  by_kind known unknown None = unknown

  module _ {R B : Type 0} {show : A → B} (said : R → E → B) (code : ℕ) where
    by_code : {X : Type 0} {rest : E → X} → ((kind : Kind) → Coincide (P kind) (λ (a : A) (e : E). a with rest e)) → Coincide Q (λ (a : A) (e : E). a with rest e)
        → Coincide (λ (r : R) (e : E). Shows code (λ (kind : Kind) (a : A). P kind a e) (λ (a : A). Q a e) show (said r e)) (λ (r : R) (e : E). said r e with rest e)
    by_code known unknown r s e f v w = by_answer said (by_kind known unknown (kind_of code)) r s e f v.shows w.shows

    by_code_alone : ((kind : Kind) → Coincide (P kind) answer) → Coincide Q answer
        → Coincide (λ (r : R) (e : E). Shows code (λ (kind : Kind) (a : A). P kind a e) (λ (a : A). Q a e) show (said r e)) said
    by_code_alone known unknown r s e f v w = by_answer_alone said (by_kind known unknown (kind_of code)) r s e f v.shows w.shows

-- with the record
pub sample : (κs : Lfts 7) (a : _) → Coincide (of_sample.Learnt κs a) (λ r e. (r with e.1.1.1.1.1.1.1.1.0.now) with e.1.1.1.1.1.0.now with e.1.1.1.1.1.1.0.now with e.1.1.1.1.1.1.1.0.now)
sample κs a =
    by_code _ a.0
    (λ kind. coincide (λ r e w. both w.answer (both (rows_of w.left) (both (counts_of w.left) (marks_of w.left)))))
    (coincide (λ r e w. both w.0 (both (rows_of w.1) (both (counts_of w.1) (marks_of w.1)))))

pub edit : (κs : Lfts 7) (a : _) → Coincide (of_edit.Learnt κs a) (λ r e. (r with e.1.1.1.1.1.1.1.1.1.1.1.1.1.1.1.0.now) with e.1.1.1.1.1.1.1.1.1.1.1.1.0.now with e.1.1.1.1.1.1.1.1.1.1.1.1.1.0.now with e.1.1.1.1.1.1.1.1.1.1.1.1.1.1.0.now)
edit κs a =
    by_code _ a.0
    (λ kind. coincide (λ r e w. both w.answer (both (rows_of w.left) (both (counts_of w.left) (marks_of w.left)))))
    (coincide (λ r e w. both w.0 (both (rows_of w.1) (both (counts_of w.1) (marks_of w.1)))))

-- with both outputs
pub thin : (κs : Lfts 9) (a : _) → Coincide (of_thin.Learnt κs a) (λ r e. (r with e.1.1.1.1.1.1.1.1.1.1.0.now) with e.1.1.1.1.1.1.1.1.0.now with e.1.1.1.1.1.1.1.1.1.0.now)
thin κs a =
    by_code _ a.0
    (λ kind. coincide (λ r e w. both w.told.answer (both (positions_of w.output) (channels_of w.output))))
    (coincide (λ r e w. both w.0 (both (positions_of w.1) (channels_of w.1))))

pub thin_within : (κs : Lfts 9) (a : _) → Coincide (of_thin_within.Learnt κs a) (λ r e. (r with e.1.1.1.1.1.1.1.1.1.1.1.0.now) with e.1.1.1.1.1.1.1.1.1.0.now with e.1.1.1.1.1.1.1.1.1.1.0.now)
thin_within κs a =
    by_code _ a.0
    (λ kind. coincide (λ r e w. both w.told.answer (both (positions_of w.output) (channels_of w.output))))
    (coincide (λ r e w. both w.0 (both (positions_of w.1) (channels_of w.1))))

-- with the record and both outputs
pub flatten : (κs : Lfts 9) (a : _) → Coincide (of_flatten.Learnt κs a) (λ r e. (r with e.1.1.1.1.1.1.1.1.1.1.0.now) with e.1.1.1.1.1.0.now with e.1.1.1.1.1.1.0.now with e.1.1.1.1.1.1.1.0.now with e.1.1.1.1.1.1.1.1.0.now with e.1.1.1.1.1.1.1.1.1.0.now)
flatten κs a =
    by_code _ a.0
    (λ kind. coincide (λ r e w. both w.told.answer (both (rows_of w.left) (both (counts_of w.left) (both (marks_of w.left) (both (positions_of w.output) (channels_of w.output)))))))
    (coincide (λ r e w. both w.0 (both (rows_of w.1.0) (both (counts_of w.1.0) (both (marks_of w.1.0) (both (positions_of w.1.1) (channels_of w.1.1)))))))

pub flatten_within : (κs : Lfts 9) (a : _) → Coincide (of_flatten_within.Learnt κs a) (λ r e. (r with e.1.1.1.1.1.1.1.1.1.1.1.0.now) with e.1.1.1.1.1.1.0.now with e.1.1.1.1.1.1.1.0.now with e.1.1.1.1.1.1.1.1.0.now with e.1.1.1.1.1.1.1.1.1.0.now with e.1.1.1.1.1.1.1.1.1.1.0.now)
flatten_within κs a =
    by_code _ a.0
    (λ kind. coincide (λ r e w. both w.told.answer (both (rows_of w.left) (both (counts_of w.left) (both (marks_of w.left) (both (positions_of w.output) (channels_of w.output)))))))
    (coincide (λ r e w. both w.0 (both (rows_of w.1.0) (both (counts_of w.1.0) (both (marks_of w.1.0) (both (positions_of w.1.1) (channels_of w.1.1)))))))

pub edit_list : (κs : Lfts 9) (a : _) → Coincide (of_edit_list.Learnt κs a) (λ r e. (r with e.1.1.1.1.1.1.1.1.1.1.1.1.1.1.1.1.1.0.now) with e.1.1.1.1.1.1.1.1.1.1.1.1.0.now with e.1.1.1.1.1.1.1.1.1.1.1.1.1.0.now with e.1.1.1.1.1.1.1.1.1.1.1.1.1.1.0.now with e.1.1.1.1.1.1.1.1.1.1.1.1.1.1.1.0.now with e.1.1.1.1.1.1.1.1.1.1.1.1.1.1.1.1.0.now)
edit_list κs a =
    by_code _ a.0
    (λ kind. coincide (λ r e w. both w.told.answer (both (rows_of w.left) (both (counts_of w.left) (both (marks_of w.left) (both (positions_of w.output) (channels_of w.output)))))))
    (coincide (λ r e w. both w.0 (both (rows_of w.1.0) (both (counts_of w.1.0) (both (marks_of w.1.0) (both (positions_of w.1.1) (channels_of w.1.1)))))))

pub sheet_open : (κs : Lfts 9) (a : _) → Coincide (of_sheet_open.Learnt κs a) (λ r e. (r with e.1.1.1.1.1.1.1.1.1.1.1.1.1.0.now) with e.1.1.1.1.1.1.1.1.0.now with e.1.1.1.1.1.1.1.1.1.0.now with e.1.1.1.1.1.1.1.1.1.1.0.now with e.1.1.1.1.1.1.1.1.1.1.1.0.now with e.1.1.1.1.1.1.1.1.1.1.1.1.0.now)
sheet_open κs a =
    by_code _ a.0
    (λ kind. coincide (λ r e w. both w.answer (both (rows_of w.left) (both (counts_of w.left) (both (marks_of w.left) (both (positions_of w.output) (channels_of w.output)))))))
    (coincide (λ r e w. both w.0 (both (rows_of w.1.0) (both (counts_of w.1.0) (both (marks_of w.1.0) (both (positions_of w.1.1) (channels_of w.1.1)))))))

-- and with the ramp
pub sheet_edit : (κs : Lfts 9) (a : _) → Coincide (of_sheet_edit.Learnt κs a) (λ r e. (r with e.1.1.1.1.1.1.1.1.1.1.1.1.1.1.1.1.1.1.1.1.0.now) with e.1.0.now with e.1.1.0.now with e.1.1.1.1.1.1.1.1.1.1.1.1.1.1.1.0.now with e.1.1.1.1.1.1.1.1.1.1.1.1.1.1.1.1.0.now with e.1.1.1.1.1.1.1.1.1.1.1.1.1.1.1.1.1.0.now with e.1.1.1.1.1.1.1.1.1.1.1.1.1.1.1.1.1.1.0.now with e.1.1.1.1.1.1.1.1.1.1.1.1.1.1.1.1.1.1.1.0.now)
sheet_edit κs a =
    by_code _ a.0
    (λ kind. coincide (λ r e w. both w.answer (both (ramp_positions w.ramp) (both (ramp_channels w.ramp) (both (rows_of w.left) (both (counts_of w.left) (both (marks_of w.left) (both (positions_of w.output) (channels_of w.output)))))))))
    (coincide (λ r e w. both w.0 (both (ramp_positions (w.1.0 Linear)) (both (ramp_channels (w.1.0 Linear)) (both (rows_of w.1.1.0) (both (counts_of w.1.1.0) (both (marks_of w.1.1.0) (both (positions_of w.1.1.1) (channels_of w.1.1.1)))))))))

-- with the lent output
pub paint : (κs : Lfts 5) (a : _) → Coincide (of_paint.Learnt κs a) (λ r e. r with e.1.1.1.1.1.0.now)
paint κs a = by_code _ a.0 (λ kind. coincide (λ r e w. both w.answer w.contents)) (coincide (λ r e w. both w.0 w.1))

-- with the bytes of the depths
pub apart : (κs : Lfts 8) (a : _) → Coincide (of_apart.Learnt κs a) (λ r e. (r with e.1.1.1.1.1.1.1.1.1.1.0.now) with e.1.1.1.1.1.1.1.1.1.0.now)
apart κs a = by_code _ a.0 (λ kind. coincide (λ r e w. both w.answer w.bytes)) (coincide (λ r e w. both w.0 w.1))

-- with what is told alone
pub check : (κs : Lfts 3) (a : _) → Coincide (of_check.Learnt κs a) answer
check κs a = by_code_alone _ a.0 (λ kind. coincide (λ r e w. w.answer)) (coincide (λ r e w. w))

pub domain : (κs : Lfts 4) (a : _) → Coincide (of_domain.Learnt κs a) (λ r e. r with e.1.1.1.1.0.now)
domain κs a = by_code_alone _ a.0 (λ kind. coincide (λ r e w. w)) (coincide (λ r e w. w))

pub at : (κs : Lfts 4) (a : _) → Coincide (of_at.Learnt κs a) (λ r e. r with e.1.1.1.1.1.0.now)
at κs a = by_code_alone _ a.0 (λ kind. coincide (λ r e w. w.answer)) (coincide (λ r e w. w))

pub next_stop : (κs : Lfts 8) (a : _) → Coincide (of_next_stop.Learnt κs a) (λ r e. r with e.1.1.1.1.1.1.1.1.1.1.1.0.now with e.1.1.1.1.1.1.1.1.1.1.1.1.0.now)
next_stop κs a = by_code_alone _ a.0 (λ kind. coincide (λ r e w. w.handed)) (coincide (λ r e w. w))

pub judge : (κs : Lfts 7) (a : _) → Coincide (of_judge.Learnt κs a) (λ r e. r with e.1.1.1.1.1.1.1.0.now with e.1.1.1.1.1.1.1.1.0.now)
judge κs a = by_code_alone _ a.0 (λ kind. coincide (λ r e w. w.answer)) (coincide (λ r e w. w))
