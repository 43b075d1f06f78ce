-- The input as a whole, and the stops that go into what is lent: those of the input, where it can be read. Assumes nothing.
use Prim.Native.Nat.{ℕ, ◌+◌, ◌≤◌, ◌<◌}
use native.Mathlib.Omega.{arith}
use mathlib.Core.Path.{◌≡◌, refl, sym, ap, ap₂, subst, ◌∙◌}
use mathlib.Core.Bool.{Bool, true, false, cond}
use mathlib.Core.List.{List, [], ◌∷◌}
use lib.ListN.{length, drop}
use lib.Seq.{sets}
use lib.Dec.{leb}
use lib.Ieee.{Float}
use borrow.Author.Tests.{le-leb, lt-leb}
use Rattle.blend.specs.Channels.{positions_in, channels_in}
use Rattle.blend.specs.declared.Stop.{Stop}
use Rattle.stops.specs.Lent.{Change, change}
use Rattle.stops.specs.declared.Kind.{Kind}
use Rattle.text.specs.Text.{lines}
use Rattle.text.proofs.Lines.{no_lines}
use Rattle.sampling.specs.Constants.{default_threshold}
use Rattle.linearize.specs.Lent.{Output}
use Rattle.entries.specs.declared.fields.Recolour.{Recolour}
use Rattle.entries.specs.Entries.{entry_of}
use Rattle.entries.specs.Input.{Input, unread, input, most_bytes, if_ramp, if_threshold, if_change, from_end, from_edit, stops_of, after_stops, from_stops, from_threshold, from_kind, input_of, after_threshold, stops_from, stops_in, asked_of, Reads}
use Rattle.entries.specs.inner.Steps.{StepAt, StartAt, BlockAt, ending_of, EndsAs}
use Rattle.entries.specs.declared.fields.Entry.{Entry}
use Rattle.entries.specs.declared.fields.Entry.TheVariants as entry
use Rattle.entries.specs.declared.reading.Asked.{Asked}
use Rattle.entries.specs.declared.reading.Unread.{Unread}
use Rattle.std.specs.Prelude.{Option, Result, Ok, Err}
use Rattle.entries.proofs.Others.{not_ramp}
use Rattle.entries.proofs.Inputs.{opened}

-- ---- no stop is read
module _ (s : List ℕ) {lent : Output} where
  none_read : {line : ℕ} → input_of s ≡ unread line → stops_in s ≡ [] → Reads s (change lent lent) (Err (record { line = line }))
  unfolding positions_in channels_in
  none_read i e = record {
    answer = sym (ap asked_of i);
    positions = ap (λ (l : List Stop). sets lent.positions 0 (positions_in l)) (sym e);
    channels = ap (λ (l : List Stop). sets lent.channels 0 (channels_in l)) (sym e);
  }

  pub many_bytes : most_bytes < length s → Reads s (change lent lent) (Err (record { line = 0 }))
  unfolding input_of stops_in
  many_bytes h = none_read (rw (lt-leb (length s) most_bytes h)) (rw (lt-leb (length s) most_bytes h))

  pub no_bytes : length s ≡ 0 → Reads s (change lent lent) (Err (record { line = 1 }))
  unfolding input_of from_kind stops_in stops_from
  no_bytes h =
      let few = le-leb (length s) most_bytes (omega arith) in
      let none = no_lines s 0 (omega arith) in
      none_read (rw few (ap from_kind none)) (rw few (ap stops_from none))

-- ---- after the first line
module _ (s : List ℕ) (h : 0 < length s) (m : length s ≤ most_bytes) {e : Entry} {next : ℕ} (w : StepAt s 0 e next) where
  first_kind : input_of s ≡ if_ramp e (λ k. from_threshold k (lines (drop next s))) (unread 1)
  unfolding input_of from_kind
  first_kind = rw (le-leb (length s) most_bytes m)
      (ap from_kind (opened s 0 h w) ∙ ap (λ (d : Entry). if_ramp d (λ k. from_threshold k (lines (drop next s))) (unread 1)) (sym w.is))

  first_stops : stops_in s ≡ if_ramp e (λ k. stops_of (after_threshold (lines (drop next s)))) []
  unfolding stops_in stops_from
  first_stops = rw (le-leb (length s) most_bytes m)
      (ap stops_from (opened s 0 h w) ∙ ap (λ (d : Entry). if_ramp d (λ k. stops_of (after_threshold (lines (drop next s)))) []) (sym w.is))

  pub no_kind : {lent : Output} → ((y : Kind) → e ≡ entry.Ramp y → ⊥) → Reads s (change lent lent) (Err (record { line = 1 }))
  no_kind o = none_read s (first_kind ∙ not_ramp e _ _ o) (first_stops ∙ not_ramp e _ _ o)

  module _ {k : Kind} (i : e ≡ entry.Ramp k) {x : Float} {from line : ℕ} (t : StartAt s next x from line) {n at : ℕ} {lent : Change Output} (b : BlockAt s from n at lent) {r : Result (Option Recolour) Unread} (z : EndsAs s at (line + n) r) where
    abbrev here : List Stop
    here = stops_of (lines (drop from s))

    whole : input_of s ≡ ending_of k x here r
    unfolding from_stops
    whole =
        first_kind ∙ ap (λ (d : Entry). if_ramp d (λ y. from_threshold y (lines (drop next s))) (unread 1)) i ∙ t.is k
        ∙ ap₂ (λ (c : ℕ) (ls : List (List ℕ)). from_edit k x here (line + c) ls) (sym b.count) (sym b.rest)
        ∙ z.is k x here

    stored : here ≡ stops_in s
    stored = sym (first_stops ∙ ap (λ (d : Entry). if_ramp d (λ y. stops_of (after_threshold (lines (drop next s)))) []) i ∙ ap stops_of (sym t.rest))

    pub whole_unread : {u : Unread} → r ≡ Err u → Reads s lent (Err u)
    unfolding ending_of
    whole_unread j = record {
      answer = sym (ap asked_of (whole ∙ ap (ending_of k x here) j));
      positions = b.positions ∙ ap (λ (l : List Stop). sets lent.entry.positions 0 (positions_in l)) stored;
      channels = b.channels ∙ ap (λ (l : List Stop). sets lent.entry.channels 0 (channels_in l)) stored;
    }

    pub whole_ready : {d : Option Recolour} → r ≡ Ok d → Reads s lent (Ok (record { kind = k; threshold = x; stops = n; edited = d }))
    unfolding ending_of
    whole_ready {d} j = record {
      answer = ap (λ (c : ℕ). Ok (asking c)) b.count ∙ sym (ap asked_of (whole ∙ ap (ending_of k x here) j));
      positions = b.positions ∙ ap (λ (l : List Stop). sets lent.entry.positions 0 (positions_in l)) stored;
      channels = b.channels ∙ ap (λ (l : List Stop). sets lent.entry.channels 0 (channels_in l)) stored;
    } where
      asking : ℕ → Asked
      asking c = record { kind = k; threshold = x; stops = c; edited = d }

-- ---- the stops of an input that can be read are those that are stored
abbrev Same : List Stop → Input → Type 0
Same ss (unread line) = Unit {0}
Same ss (input k x stops e) = stops ≡ ss

module _ (k : Kind) (x : Float) where
  same_end : (ss : List Stop) (e : Recolour) (line : ℕ) (ls : List (List ℕ)) → Same ss (from_end k x ss e line ls)
  unfolding from_end
  same_end ss e line [] = refl
  same_end ss e line (l ∷ ls) = tt

  same_edit : (ss : List Stop) (line : ℕ) (ls : List (List ℕ)) → Same ss (from_edit k x ss line ls)
  unfolding from_edit
  same_edit ss line [] = refl
  same_edit ss line (l ∷ ls) = go (entry_of l) where
    go : (e : Entry) → Same ss (if_change e (λ d. from_end k x ss d (line + 1) ls) (unread line))
    go (entry.Ramp j) = tt
    go (entry.Threshold y) = tt
    go (entry.Stop s) = tt
    go (entry.Change e) = same_end ss e (line + 1) ls
    go entry.Unread = tt

  same_block : (line : ℕ) (ls : List (List ℕ)) → Same (stops_of ls) (from_stops k x line ls)
  unfolding from_stops
  same_block line ls = same_edit (stops_of ls) (line + length (stops_of ls)) (after_stops ls)

same_start : (k : Kind) (ls : List (List ℕ)) → Same (stops_of (after_threshold ls)) (from_threshold k ls)
unfolding from_threshold after_threshold
same_start k [] = same_block k default_threshold 2 []
same_start k (l ∷ ls) = go (entry_of l) where
  go : (e : Entry) → Same (stops_of (if_threshold e (λ x. ls) (l ∷ ls))) (if_threshold e (λ x. from_stops k x 3 ls) (from_stops k default_threshold 2 (l ∷ ls)))
  go (entry.Ramp j) = same_block k default_threshold 2 (l ∷ ls)
  go (entry.Threshold x) = same_block k x 3 ls
  go (entry.Stop s) = same_block k default_threshold 2 (l ∷ ls)
  go (entry.Change e) = same_block k default_threshold 2 (l ∷ ls)
  go entry.Unread = same_block k default_threshold 2 (l ∷ ls)

same_kind : (ls : List (List ℕ)) → Same (stops_from ls) (from_kind ls)
unfolding from_kind stops_from
same_kind [] = tt
same_kind (l ∷ ls) = go (entry_of l) where
  go : (e : Entry) → Same (if_ramp e (λ k. stops_of (after_threshold ls)) []) (if_ramp e (λ k. from_threshold k ls) (unread 1))
  go (entry.Ramp k) = same_start k ls
  go (entry.Threshold x) = tt
  go (entry.Stop s) = tt
  go (entry.Change e) = tt
  go entry.Unread = tt

same_input : (s : List ℕ) → Same (stops_in s) (input_of s)
unfolding input_of stops_in
same_input s = go (leb (length s) most_bytes) where
  go : (t : Bool) → Same (cond t (stops_from (lines s)) []) (cond t (from_kind (lines s)) (unread 0))
  go true = same_kind (lines s)
  go false = tt

pub stops_are : (s : List ℕ) {k : Kind} {x : Float} {stops : List Stop} {e : Option Recolour} → input_of s ≡ input k x stops e → stops ≡ stops_in s
stops_are s i = subst (Same (stops_in s)) i (same_input s)
