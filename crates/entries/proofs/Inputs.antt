-- The input, line by line: each part read is the front of what is left to read. Assumes nothing.
use Prim.Native.Nat.{ℕ, suc, ◌+◌, ◌-◌, ◌*◌, ◌≤◌, ◌<◌}
use native.Mathlib.Omega.{arith}
use mathlib.Core.Path.{◌≡◌, refl, sym, ap, ◌∙◌}
use mathlib.Core.List.{List, [], ◌∷◌, ◌++◌, append_assoc, append-nil}
use lib.ListN.{length, take, drop, set, length-append, length-drop, length-set}
use lib.Seq.{sets, length-sets}
use lib.Ieee.{Float}
use Rattle.slices.proofs.Stores.{sets-append}
use Rattle.blend.specs.Channels.{channels_of, positions_in, channels_in}
use Rattle.blend.specs.declared.Stop.{Stop}
use Rattle.stops.specs.Lent.{change}
use Rattle.stops.specs.declared.Kind.{Kind}
use Rattle.text.specs.Text.{lines, first_of}
use Rattle.text.specs.Places.{LineAt}
use Rattle.text.proofs.Lines.{no_lines, some_lines, few_lines}
use Rattle.sampling.specs.Constants.{default_threshold}
use Rattle.linearize.specs.Lent.{output_of}
use Rattle.entries.specs.Entries.{entry_of}
use Rattle.entries.specs.Input.{unread, if_threshold, if_stop, if_change, from_end, from_edit, stops_of, after_stops, from_stops, from_threshold, after_threshold}
use Rattle.entries.specs.inner.Steps.{StepAt, StartAt, BlockAt, ending_of, EndsAs}
use Rattle.entries.specs.declared.fields.Recolour.{Recolour}
use Rattle.entries.specs.declared.fields.Entry.{Entry}
use Rattle.entries.specs.declared.fields.Entry.TheVariants as entry
use Rattle.std.specs.Prelude.{Some, None, Ok, Err}
use Rattle.entries.proofs.Others.{not_threshold, not_stop, not_change}

few_stops : (ls : List (List ℕ)) → length (stops_of ls) ≤ length ls
unfolding stops_of
few_stops [] = omega arith
few_stops (l ∷ ls) = go (entry_of l) (few_stops ls) where
  go : (e : Entry) → length (stops_of ls) ≤ length ls → length (if_stop e (λ s. s ∷ stops_of ls) []) ≤ suc (length ls)
  go (entry.Ramp k) h = omega arith
  go (entry.Threshold x) h = omega arith
  go (entry.Stop s) h = omega arith
  go (entry.Change e) h = omega arith
  go entry.Unread h = omega arith

-- no line, and a line
module _ (s : List ℕ) (at : ℕ) where
  pub step_found : {end next : ℕ} {e : Entry} → at ≤ length s → LineAt s at end next → e ≡ entry_of (take (end - at) (drop at s)) → StepAt s at e next
  step_found h l i = record { within = l.beyond h; is = i ∙ ap entry_of l.first; rest = l.rest }

  module _ (h : at < length s) {e : Entry} {next : ℕ} (w : StepAt s at e next) where
    pub opened : lines (drop at s) ≡ first_of (lines (drop at s)) ∷ lines (drop next s)
    opened = some_lines s at h ∙ ap (λ (ls : List (List ℕ)). first_of (lines (drop at s)) ∷ ls) (sym w.rest)

    pub shorter : length (lines (drop next s)) < length (lines (drop at s))
    shorter = omega (arith, ap length opened)

-- ---- the threshold
module _ (s : List ℕ) (at : ℕ) where
  pub start_none : length s ≤ at → at ≤ length s → StartAt s at default_threshold at 2
  unfolding from_threshold after_threshold
  start_none h i = record { within = i; few = omega arith; rest = no_lines s at h ∙ sym (ap after_threshold (no_lines s at h)); is = λ k. ap (from_threshold k) (no_lines s at h) ∙ ap (from_stops k default_threshold 2) (sym (no_lines s at h)) }

  module _ (h : at < length s) {e : Entry} {next : ℕ} (w : StepAt s at e next) where
    first_threshold : (k : Kind) → from_threshold k (lines (drop at s)) ≡ if_threshold e (λ x. from_stops k x 3 (lines (drop next s))) (from_stops k default_threshold 2 (lines (drop at s)))
    unfolding from_threshold
    first_threshold k =
        ap (from_threshold k) (opened s at h w)
        ∙ ap (λ (d : Entry). if_threshold d (λ x. from_stops k x 3 (lines (drop next s))) (from_stops k default_threshold 2 (first_of (lines (drop at s)) ∷ lines (drop next s)))) (sym w.is)
        ∙ ap (λ (ls : List (List ℕ)). if_threshold e (λ x. from_stops k x 3 (lines (drop next s))) (from_stops k default_threshold 2 ls)) (sym (opened s at h w))

    first_rest : after_threshold (lines (drop at s)) ≡ if_threshold e (λ x. lines (drop next s)) (lines (drop at s))
    unfolding after_threshold
    first_rest =
        ap after_threshold (opened s at h w)
        ∙ ap (λ (d : Entry). if_threshold d (λ x. lines (drop next s)) (first_of (lines (drop at s)) ∷ lines (drop next s))) (sym w.is)
        ∙ ap (λ (ls : List (List ℕ)). if_threshold e (λ x. lines (drop next s)) ls) (sym (opened s at h w))

    pub start_some : {x : Float} → e ≡ entry.Threshold x → StartAt s at x next 3
    start_some i = record { within = w.within; few = omega arith; rest = sym (first_rest ∙ ap (λ (d : Entry). if_threshold d (λ x. lines (drop next s)) (lines (drop at s))) i); is = λ k. first_threshold k ∙ ap (λ (d : Entry). if_threshold d (λ x. from_stops k x 3 (lines (drop next s))) (from_stops k default_threshold 2 (lines (drop at s)))) i }

    pub start_other : ((y : Float) → e ≡ entry.Threshold y → ⊥) → StartAt s at default_threshold at 2
    start_other o = record { within = omega arith; few = omega arith; rest = sym (first_rest ∙ not_threshold e _ _ o); is = λ k. first_threshold k ∙ not_threshold e _ _ o }

-- ---- the stops
positions_append : (xs ys : List Stop) → positions_in (xs ++ ys) ≡ positions_in xs ++ positions_in ys
unfolding positions_in
positions_append [] ys = refl
positions_append (x ∷ xs) ys = ap (λ (l : List Float). x.position ∷ l) (positions_append xs ys)

channels_append : (xs ys : List Stop) → channels_in (xs ++ ys) ≡ channels_in xs ++ channels_in ys
unfolding channels_in
channels_append [] ys = refl
channels_append (x ∷ xs) ys = ap (λ (l : List Float). channels_of x.colour ++ l) (channels_append xs ys)

pub length_positions : (xs : List Stop) → length (positions_in xs) ≡ length xs
unfolding positions_in
length_positions [] = refl
length_positions (x ∷ xs) = ap suc (length_positions xs)

pub length_channels : (xs : List Stop) → length (channels_in xs) ≡ 4 * length xs
unfolding channels_in
length_channels [] = refl
length_channels (x ∷ xs) = let h = length_channels xs in omega arith

-- one more stop
store_position : (ps ps' ps'' : List Float) (xs : List Stop) (x : Stop) (n : ℕ) → length xs ≡ n → ps' ≡ sets ps 0 (positions_in xs) → ps'' ≡ set ps' n x.position → ps'' ≡ sets ps 0 (positions_in (xs ++ x ∷ []))
unfolding positions_in
store_position ps ps' ps'' xs x n e f g =
    let m : 0 + length (positions_in xs) ≡ n = omega (arith, length_positions xs) in
    g ∙ ap (λ (l : List Float). set l n x.position) f
    ∙ sym (ap (sets ps 0) (positions_append xs (x ∷ [])) ∙ sets-append ps 0 (positions_in xs) (x.position ∷ []) ∙ ap (λ (i : ℕ). set (sets ps 0 (positions_in xs)) i x.position) m)

store_channels : (cs cs' cs'' : List Float) (xs : List Stop) (x : Stop) (n : ℕ) → length xs ≡ n → cs' ≡ sets cs 0 (channels_in xs) → cs'' ≡ sets cs' (4 * n) (channels_of x.colour) → cs'' ≡ sets cs 0 (channels_in (xs ++ x ∷ []))
unfolding channels_in
store_channels cs cs' cs'' xs x n e f g =
    let m : 0 + length (channels_in xs) ≡ 4 * n = omega (arith, length_channels xs) in
    g ∙ ap (λ (l : List Float). sets l (4 * n) (channels_of x.colour)) f
    ∙ sym (ap (sets cs 0) (channels_append xs (x ∷ [])) ∙ sets-append cs 0 (channels_in xs) (channels_of x.colour) ∙ ap (λ (i : ℕ). sets (sets cs 0 (channels_in xs)) i (channels_of x.colour)) m)

-- what the loop keeps
pub record Taken (s : List ℕ) (from : ℕ) (ps ps' cs cs' : List Float) (n at : ℕ) : Type 0 where
  pub inside : at ≤ length s
  pub taken : List Stop
  pub count : length taken ≡ n
  pub left : stops_of (lines (drop from s)) ≡ taken ++ stops_of (lines (drop at s))
  pub after : after_stops (lines (drop from s)) ≡ after_stops (lines (drop at s))
  pub long : length ps' ≡ length ps
  pub wide : length cs' ≡ length cs
  pub positions : ps' ≡ sets ps 0 (positions_in taken)
  pub channels : cs' ≡ sets cs 0 (channels_in taken)

pub taken_none : (s : List ℕ) (from : ℕ) (ps cs : List Float) → from ≤ length s → Taken s from ps ps cs cs 0 from
unfolding positions_in channels_in
taken_none s from ps cs h = record { inside = h; taken = []; count = refl; left = refl; after = refl; long = refl; wide = refl; positions = refl; channels = refl }

pub taken_few : {s : List ℕ} {from n at : ℕ} {ps ps' cs cs' : List Float} → Taken s from ps ps' cs cs' n at → n ≤ length s
taken_few {s} {from} {n} {at} w =
    omega (arith, few_stops (lines (drop from s)), few_lines (drop from s), length-drop from s, ap length w.left, length-append w.taken (stops_of (lines (drop at s))), w.count)

module _ {s : List ℕ} {from n at : ℕ} {ps ps' cs cs' : List Float} (w : Taken s from ps ps' cs cs' n at) where
  pub taken_next : {next : ℕ} {e : Entry} {x : Stop} {ps'' cs'' : List Float} → at < length s → StepAt s at e next → e ≡ entry.Stop x → ps'' ≡ set ps' n x.position → cs'' ≡ sets cs' (4 * n) (channels_of x.colour) → Taken s from ps ps'' cs cs'' (n + 1) next
  unfolding stops_of after_stops
  taken_next {next} {e} {x} {ps''} {cs''} h v i p c =
      let here : entry_of (first_of (lines (drop at s))) ≡ entry.Stop x = sym v.is ∙ i in
      record {
        inside = v.within;
        taken = w.taken ++ x ∷ [];
        count = length-append w.taken (x ∷ []) ∙ ap (λ (m : ℕ). m + 1) w.count;
        left = w.left ∙ ap (λ (ls : List (List ℕ)). w.taken ++ stops_of ls) (opened s at h v)
            ∙ ap (λ (d : Entry). w.taken ++ if_stop d (λ y. y ∷ stops_of (lines (drop next s))) []) here
            ∙ sym (append_assoc w.taken (x ∷ []) (stops_of (lines (drop next s))));
        after = w.after ∙ ap after_stops (opened s at h v) ∙ ap (λ (d : Entry). if_stop d (λ y. after_stops (lines (drop next s))) (first_of (lines (drop at s)) ∷ lines (drop next s))) here;
        long = ap length p ∙ length-set ps' n x.position ∙ w.long;
        wide = ap length c ∙ length-sets cs' (4 * n) (channels_of x.colour) ∙ w.wide;
        positions = store_position ps ps' ps'' w.taken x n w.count w.positions p;
        channels = store_channels cs cs' cs'' w.taken x n w.count w.channels c;
      }

  -- no stop comes next
  block_from : stops_of (lines (drop at s)) ≡ [] → after_stops (lines (drop at s)) ≡ lines (drop at s) → BlockAt s from n at (change (output_of ps cs) (output_of ps' cs'))
  block_from e f =
      let all : w.taken ≡ stops_of (lines (drop from s)) = sym (w.left ∙ ap (λ (l : List Stop). w.taken ++ l) e ∙ append-nil w.taken) in
      record {
        within = w.inside;
        few = taken_few w;
        count = sym w.count ∙ ap length all;
        rest = sym f ∙ sym w.after;
        positions = w.positions ∙ ap (λ (l : List Stop). sets ps 0 (positions_in l)) all;
        channels = w.channels ∙ ap (λ (l : List Stop). sets cs 0 (channels_in l)) all;
      }

  pub block_done : length s ≤ at → BlockAt s from n at (change (output_of ps cs) (output_of ps' cs'))
  unfolding stops_of after_stops
  block_done h = block_from (ap stops_of (no_lines s at h)) (ap after_stops (no_lines s at h) ∙ sym (no_lines s at h))

  pub block_other : {next : ℕ} {e : Entry} → at < length s → StepAt s at e next → ((y : Stop) → e ≡ entry.Stop y → ⊥) → BlockAt s from n at (change (output_of ps cs) (output_of ps' cs'))
  unfolding stops_of after_stops
  block_other {next} {e} h v o =
      let l = first_of (lines (drop at s)) in
      let ls = lines (drop next s) in
      block_from
      (ap stops_of (opened s at h v) ∙ ap (λ (d : Entry). if_stop d (λ y. y ∷ stops_of ls) []) (sym v.is) ∙ not_stop e (λ y. y ∷ stops_of ls) [] o)
      (ap after_stops (opened s at h v) ∙ ap (λ (d : Entry). if_stop d (λ y. after_stops ls) (l ∷ ls)) (sym v.is) ∙ not_stop e (λ y. after_stops ls) (l ∷ ls) o ∙ sym (opened s at h v))

-- ---- the end
module _ (s : List ℕ) (at line : ℕ) where
  pub ending_none : length s ≤ at → EndsAs s at line (Ok None)
  unfolding from_edit ending_of
  ending_none h = record { is = λ k x stops. ap (from_edit k x stops line) (no_lines s at h) }

  module _ (h : at < length s) {e : Entry} {next : ℕ} (w : StepAt s at e next) where
    first_edit : (k : Kind) (x : Float) (stops : List Stop) → from_edit k x stops line (lines (drop at s)) ≡ if_change e (λ d. from_end k x stops d (line + 1) (lines (drop next s))) (unread line)
    unfolding from_edit
    first_edit k x stops =
        ap (from_edit k x stops line) (opened s at h w)
        ∙ ap (λ (d : Entry). if_change d (λ y. from_end k x stops y (line + 1) (lines (drop next s))) (unread line)) (sym w.is)

    pub ending_other : ((y : Recolour) → e ≡ entry.Change y → ⊥) → EndsAs s at line (Err (record { line = line }))
    unfolding ending_of
    ending_other o = record { is = λ k x stops. first_edit k x stops ∙ not_change e _ _ o }

    module _ {d : Recolour} (i : e ≡ entry.Change d) where
      to_end : (k : Kind) (x : Float) (stops : List Stop) → from_edit k x stops line (lines (drop at s)) ≡ from_end k x stops d (line + 1) (lines (drop next s))
      to_end k x stops = first_edit k x stops ∙ ap (λ (f : Entry). if_change f (λ y. from_end k x stops y (line + 1) (lines (drop next s))) (unread line)) i

      pub ending_more : next < length s → EndsAs s at line (Err (record { line = line + 1 }))
      unfolding from_end ending_of
      ending_more l = record { is = λ k x stops. to_end k x stops ∙ ap (from_end k x stops d (line + 1)) (some_lines s next l) }

      pub ending_last : length s ≤ next → EndsAs s at line (Ok (Some d))
      unfolding from_end ending_of
      ending_last l = record { is = λ k x stops. to_end k x stops ∙ ap (from_end k x stops d (line + 1)) (no_lines s next l) }
