-- A call that is done leaves its list in the outputs. Assumes nothing.
use mathlib.Core.Path.{◌≡◌, refl, sym, ap, ap₂, ◌∙◌}
use mathlib.Core.List.{List, [], ◌∷◌}
use Prim.Native.Nat.{ℕ, zero, suc, ◌+◌, ◌*◌, ◌≤◌}
use native.Mathlib.Omega.{arith}
use lib.ListN.{length, take, drop}
use lib.Seq.{sets, sets-eq, take-append_seam}
use lib.Ieee.{Float}
use Rattle.blend.specs.Channels.{colours_of}
use Rattle.blend.proofs.Channels.{length_colours}
use Rattle.stops.specs.Answers.{on_fine}
use Rattle.stops.specs.Lent.{Ramp, change}
use Rattle.stops.specs.declared.Checked.{Checked}
use Rattle.stops.specs.declared.Checked.TheVariants as checked
use Rattle.gradient.specs.Ramp.{colour_of}
use Rattle.sampling.specs.Lent.{Held}
use Rattle.sampling.specs.Sampling.{held_check}
use Rattle.records.specs.Fitness.{thin_check}
use Rattle.thinning.specs.Kept.{written_of}
use Rattle.linearize.specs.Lent.{Output, output_of}
use Rattle.linearize.specs.Desk.{points_in, room, answer_by}
use Rattle.linearize.specs.Promises.{Tells}
use Rattle.linearize.specs.declared.Listed.{Listed}
use Rattle.linearize.specs.declared.Listed.TheVariants as listed
use Rattle.judge.specs.Lists.{offer_of}
use Rattle.within.specs.Kept.{Kept, positions_of}
use Rattle.within.specs.Lists.{kept_of, list_within, refusal_within, within_output, fresh_points, flatten_within_output}
use Rattle.within.specs.Promises.{ThinsWithin, FlattensWithin}
use Rattle.word.specs.Word.{list_in}
use Rattle.word.proofs.Emitted.{most_room}

-- ---- which answers are done
not_refused : (k n e : ℕ) → listed.Refused k ≡ listed.Done n e → ⊥
not_refused k n e h = let z : ◌≡◌ {A = ℕ} 0 1 = cc in omega arith

stops_in : Listed → ℕ
stops_in (listed.Done n e) = n
stops_in (listed.Refused k) = 0

record Done (check : Checked) (refusal kept n : ℕ) : Type 0 where
  fine : check ≡ checked.Fine
  none : refusal ≡ 0
  many : kept ≡ n

by_answer : (check : Checked) (refusal kept spent n e : ℕ) → answer_by check refusal kept spent ≡ listed.Done n e → Done check refusal kept n
by_answer checked.Fine zero kept spent n e h = unfold stops_in in record { fine = refl; none = refl; many = ap stops_in h }
by_answer checked.Fine (suc k) kept spent n e h = absurd (not_refused (suc k) n e h)
by_answer (checked.Refused k) refusal kept spent n e h = absurd (not_refused k n e h)

-- ---- what was stored is read back
read_back : (l xs : List Float) → length xs ≤ length l → take (length xs) (sets l 0 xs) ≡ xs
read_back l xs h = ap (take (length xs)) (sets-eq xs l 0 (omega arith)) ∙ take-append_seam xs (drop (0 + length xs) l)

positions_many : (ks : List Kept) → length (positions_of ks) ≡ length ks
positions_many [] = refl
positions_many (k ∷ ks) = ap suc (positions_many ks)

-- ---- a list of the points ts, done with n stops
pub record Made (ramp : Ramp) (asked hold : Float) (check : Checked) (ts : List Float) (out out' : Output) (n : ℕ) : Type 0 where
  pub fine : check ≡ checked.Fine
  pub none : refusal_within ramp asked hold (room out) ts ≡ 0
  pub list : list_in out' n ≡ list_within ramp asked hold ts

module _ (ramp : Ramp) (asked hold : Float) (ts : List Float) (out : Output) where
  abbrev written : ℕ → Output
  written r = output_of (written_of r (sets out.positions 0 (list_within ramp asked hold ts).positions)) (written_of r (sets out.channels 0 (list_within ramp asked hold ts).channels))

  module _ (check : Checked) (spent n e : ℕ) (r : Listed) (told : Tells check (refusal_within ramp asked hold (room out) ts) (length (kept_of ramp asked hold ts)) spent r) (done : r ≡ listed.Done n e) where
    ends : Done check (refusal_within ramp asked hold (room out) ts) (length (kept_of ramp asked hold ts)) n
    ends = by_answer check _ _ spent n e (sym told.answer ∙ done)

    read : list_in (written 0) n ≡ list_within ramp asked hold ts
    unfolding list_within
    read =
        let ps = positions_of (kept_of ramp asked hold ts) in
        let m = most_room ramp asked hold (room out) ts ends.none in
        let k : length ps ≡ n = positions_many (kept_of ramp asked hold ts) ∙ ends.many in
        let c = length_colours (colour_of ramp) ps in
        let four : 4 * n ≡ length (colours_of (colour_of ramp) ps) = omega (arith, k, c) in
        ap₂ offer_of
        (ap (λ (i : ℕ). take i (sets out.positions 0 ps)) (sym k) ∙ read_back out.positions ps (omega arith))
        (ap (λ (i : ℕ). take i (sets out.channels 0 (colours_of (colour_of ramp) ps))) four ∙ read_back out.channels (colours_of (colour_of ramp) ps) (omega arith))

    pub made : (out' : Output) → out' ≡ on_fine check (written (refusal_within ramp asked hold (room out) ts)) (λ n. out) → Made ramp asked hold check ts out out' n
    made out' left =
        record {
          fine = ends.fine;
          none = ends.none;
          list = ap (λ (o : Output). list_in o n) (left ∙ rw (ends.fine, ends.none)) ∙ read;
        }

-- ---- the calls
module _ (ramp : Ramp) (asked hold : Float) (out out' : Output) (r : Listed) (n e : ℕ) (done : r ≡ listed.Done n e) where
  pub thinned : (was : Held) → ThinsWithin ramp asked hold was (change out out') r → Made ramp asked hold (thin_check ramp asked was) (points_in ramp was) out out' n
  unfolding within_output
  thinned was call = made ramp asked hold (points_in ramp was) out (thin_check ramp asked was) _ n e r call.told done out' call.output

  pub flattened : (was is : Held) → FlattensWithin ramp asked hold (change was is) (change out out') r → Made ramp asked hold (held_check ramp was) (fresh_points ramp asked hold) out out' n
  unfolding flatten_within_output
  flattened was is call = made ramp asked hold (fresh_points ramp asked hold) out (held_check ramp was) _ n e r call.told done out' call.output
