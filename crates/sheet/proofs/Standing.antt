-- A sheet that stands: its ramp, its record and its list are of one ramp. It does when it is opened, and an edit, refused or not, leaves it so. Assumes nothing.
use mathlib.Core.Path.{◌≡◌, refl, sym, ap, ◌∙◌}
use mathlib.Core.Bool.{Bool, true, false, cond}
use mathlib.Core.List.{List}
use Prim.Native.Nat.{ℕ, zero, suc, ◌+◌}
use native.Mathlib.Omega.{arith}
use lib.ListN.{length}
use lib.Ieee.{Float}
use Rattle.refusals.specs.Refusals.{misshapen}
use Rattle.stops.specs.Lent.{Ramp}
use Rattle.stops.specs.declared.Kind.{Kind}
use Rattle.stops.specs.declared.Checked.{Checked}
use Rattle.stops.specs.declared.Checked.TheVariants as checked
use Rattle.sampling.specs.Sampling.{held_check, fresh, fresh_evaluations}
use Rattle.linearize.specs.Desk.{listed_of, unless_refused, points_in, room}
use Rattle.linearize.specs.declared.Listed.{Listed}
use Rattle.linearize.specs.declared.Listed.TheVariants as listed
use Rattle.linearize.proofs.Records.{fresh_held}
use Rattle.refresh.specs.editing.Edited.{edited}
use Rattle.refresh.specs.editing.Rules.{edit_allowed}
use Rattle.refresh.specs.declared.editing.Edit.{Edit}
use Rattle.refresh.specs.declared.editing.Edit.TheVariants.{Colour, Move, Add, Remove}
use Rattle.refresh.proofs.editing.EditRules.{remove_passes}
use Rattle.sheet.specs.Room.{room_fits, fitted, stops_fit, first_of}
use Rattle.sheet.specs.Lists.{refusal_by, stops_by, evaluations_by, written_by}
use Rattle.sheet.specs.Answers.{sheet_by, number_of_sheet, listed_of_sheet, stops_now}
use Rattle.sheet.specs.Promises.{open_check}
use Rattle.sheet.specs.Through.{Sheet, listed_now, refusal_now, Opened}
use Rattle.sheet.specs.declared.ListSort.{ListSort}
use Rattle.sheet.specs.declared.SheetAnswer.{SheetAnswer}
use Rattle.sheet.specs.declared.SheetAnswer.TheVariants.{Done, Unlisted, Refused}
use Rattle.sheet.proofs.Rewriting.{room_stays, list_stays}

-- ---- an answer's parts
module _ (m k s e : ℕ) where
  pub number_is : number_of_sheet (sheet_by m (listed_of k s e)) ≡ k
  number_is = by k
    where
      by : (k : ℕ) → number_of_sheet (sheet_by m (listed_of k s e)) ≡ k
      by zero = refl
      by (suc k) = refl

  pub kept_is : listed_of_sheet (sheet_by m (listed_of k s e)) ≡ unless_refused k s
  kept_is = by k
    where
      by : (k : ℕ) → listed_of_sheet (sheet_by m (listed_of k s e)) ≡ unless_refused k s
      by zero = refl
      by (suc k) = refl

-- what the caller keeps of an answer with a list, whatever it kept before
module _ (m was : ℕ) (l : Listed) where
  pub stops_kept : stops_now was (sheet_by m l) ≡ m
  stops_kept = by l
    where
      by : (l : Listed) → stops_now was (sheet_by m l) ≡ m
      by (listed.Done s e) = refl
      by (listed.Refused n) = refl

  pub refusal_kept : refusal_now was (sheet_by m l) ≡ number_of_sheet (sheet_by m l)
  refusal_kept = by l
    where
      by : (l : Listed) → refusal_now was (sheet_by m l) ≡ number_of_sheet (sheet_by m l)
      by (listed.Done s e) = refl
      by (listed.Refused n) = refl

  pub listed_kept : listed_now was (sheet_by m l) ≡ listed_of_sheet (sheet_by m l)
  listed_kept = by l
    where
      by : (l : Listed) → listed_now was (sheet_by m l) ≡ listed_of_sheet (sheet_by m l)
      by (listed.Done s e) = refl
      by (listed.Refused n) = refl

-- the ramp after a turn
abbrev pub after_turn : Ramp → SheetAnswer → Edit → Ramp
after_turn ramp (Done s l n) e = edited ramp e
after_turn ramp (Unlisted s n) e = edited ramp e
after_turn ramp (Refused n) e = ramp

pub made_after : (ramp : Ramp) (m : ℕ) (l : Listed) (e : Edit) → after_turn ramp (sheet_by m l) e ≡ edited ramp e
made_after ramp m (listed.Done s n) e = refl
made_after ramp m (listed.Refused n) e = refl

-- ---- the checks
pub whole_fine : (b : Bool) (c : Checked) → cond b c (checked.Refused misshapen) ≡ checked.Fine → (b ≡ true) × (c ≡ checked.Fine)
whole_fine true c h = (refl, h)
whole_fine false c h = let z : ◌≡◌ {A = ℕ} 0 1 = cc in absurd (omega arith)

-- an addition without room never passes: what passes is the edit that was asked for
pub fitted_is : (kind : Kind) (ps : List Float) (n p c : ℕ) (e : Edit) → edit_allowed kind ps (fitted n p c e) ≡ checked.Fine → fitted n p c e ≡ e
fitted_is kind ps n p c (Colour k x) h = refl
fitted_is kind ps n p c (Move k x) h = refl
fitted_is kind ps n p c (Remove k) h = refl
fitted_is kind ps n p c (Add k x y) h = go (room_fits n p c) refl h
  where
    go : (b : Bool) → room_fits n p c ≡ b → edit_allowed kind ps (cond b (Add k x y) (Remove 0)) ≡ checked.Fine → cond b (Add k x y) (Remove 0) ≡ Add k x y
    go true e i = refl
    go false e i = let l = (remove_passes kind ps 0 i).inner.0 in absurd (omega arith)

module _ (asked : Float) (sort : ListSort) where
  pub record Standing (ramp : Ramp) (s : Sheet) : Type 0 where
    pub ramp_is : first_of s.room s.stops ≡ ramp
    pub fine : held_check ramp s.held ≡ checked.Fine
    pub held_is : s.held ≡ fresh ramp asked
    pub list_is : s.list ≡ written_by sort ramp asked (points_in ramp (fresh ramp asked)) s.list
    pub refusal_is : s.refusal ≡ refusal_by sort ramp asked (room s.list) (points_in ramp (fresh ramp asked))
    pub listed_is : s.listed ≡ unless_refused (refusal_by sort ramp asked (room s.list) (points_in ramp (fresh ramp asked))) (stops_by sort ramp asked (points_in ramp (fresh ramp asked)))

  -- ---- opened
  module _ (s : Sheet) (o : Opened asked sort s) where
    abbrev first : Ramp
    first = first_of s.room s.stops

    opened_by : (c : Checked) → open_check s.room s.stops o.was ≡ c → Standing first s
    unfolding open_check
    opened_by (checked.Refused k) h = absurd (o.taken k (o.call.answer ∙ rw h))
    opened_by checked.Fine h =
        let both = whole_fine (stops_fit s.room.kind s.stops (length s.room.positions) (length s.room.channels)) (held_check first o.was) h in
        let ts = points_in first (fresh first asked) in
        let k = refusal_by sort first asked (room o.before) ts in
        let kept = stops_by sort first asked ts in
        let spent = fresh_evaluations first asked + evaluations_by sort first asked ts in
        let answered : o.answer ≡ sheet_by s.stops (listed_of k kept spent) = o.call.answer ∙ rw h in
        let held : s.held ≡ fresh first asked = o.call.left ∙ rw h in
        let list : s.list ≡ written_by sort first asked ts o.before = o.call.output ∙ rw h in
        let same : room s.list ≡ room o.before = ap room list ∙ room_stays first asked ts o.before sort in
        record {
          ramp_is = refl;
          fine = rw held (fresh_held first asked o.was both.1);
          held_is = held;
          list_is = rw list (sym (list_stays first asked ts o.before sort));
          refusal_is = o.refusal_is ∙ ap number_of_sheet answered ∙ number_is s.stops k kept spent ∙ rw same;
          listed_is = o.listed_is ∙ ap listed_of_sheet answered ∙ kept_is s.stops k kept spent ∙ rw same;
        }

    pub opened_stands : Standing first s
    opened_stands = opened_by (open_check s.room s.stops o.was) refl
