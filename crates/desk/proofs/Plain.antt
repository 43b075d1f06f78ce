-- The stops and the edit of an input that is read are finite, and its kind is one that can be refreshed. Assumes nothing.
use Prim.Native.Nat.{ℕ, ◌+◌, ◌<◌}
use native.Mathlib.Omega.{arith}
use mathlib.Core.Path.{◌≡◌, refl, sym, ap, ◌∙◌}
use mathlib.Core.Bool.{Bool, true, false, not, cond, ◌&&◌}
use mathlib.Core.List.{List, [], ◌∷◌}
use lib.ListN.{length, drop, get_or}
use lib.Dec.{leb, eqb}
use lib.Ieee.{Float, nan}
use lib.Ieee.Scale.{finite}
use borrow.Author.Tests.{eqb-true, not-true}
use Rattle.std.specs.Prelude.{Option, Some, None}
use Rattle.float.proofs.Flags.{both_l, both_r, parts4}
use Rattle.blend.specs.Channels.{channels_in}
use Rattle.blend.specs.Finite.{all_finite}
use Rattle.blend.specs.declared.Stop.{Stop}
use Rattle.stops.specs.Stops.{finite_rgba}
use Rattle.stops.specs.declared.Kind.{Kind}
use Rattle.gradient.specs.Ramp.{is_gimp}
use Rattle.text.specs.Text.{same, starts, fields, lines}
use Rattle.rows.specs.declared.Notation.TheVariants.{Short}
use Rattle.rows.specs.Rows.{Numbers, all, none, numbers}
use Rattle.rows.proofs.Read.{Finite, numbers_finite}
use Rattle.sampling.specs.Constants.{default_threshold}
use Rattle.refresh.specs.editing.Rules.{refreshable}
use Rattle.entries.specs.Entries.{exactly, to_threshold, threshold_entry, to_stop, stop_entry, stop_index_of, to_change, change_entry, edit_entry, stop_tag, threshold_tag, edit_tag, kind_linear, kind_smoothstep, entry_of}
use Rattle.entries.specs.Input.{Input, unread, input, most_bytes, if_ramp, if_threshold, if_stop, if_change, from_end, from_edit, stops_of, after_stops, from_stops, from_threshold, from_kind, input_of}
use Rattle.entries.specs.declared.fields.Recolour.{Recolour}
use Rattle.entries.specs.declared.fields.Entry.{Entry}
use Rattle.entries.specs.declared.fields.Entry.TheVariants as entry
use Rattle.std.specs.Prelude.{Option, Some, None}

-- ---- entries

-- a kind of stops that can be refreshed; channels that are finite
abbrev plain_kind : Kind → Bool
plain_kind k = refreshable k && not (is_gimp k)

abbrev plain_entry : Entry → Bool
plain_entry (entry.Ramp k) = plain_kind k
plain_entry (entry.Threshold x) = true
plain_entry (entry.Stop s) = finite_rgba s.colour
plain_entry (entry.Change e) = finite_rgba e.colour
plain_entry entry.Unread = true

exactly_plain : (n : ℕ) (make : List Float → Entry) (ns : Numbers) → Finite ns → ((xs : List Float) → ((i : ℕ) → i < length xs → finite (get_or xs i nan) ≡ true) → length xs ≡ n → plain_entry (make xs) ≡ true) → plain_entry (exactly n make ns) ≡ true
unfolding exactly Finite
exactly_plain n make none h f = refl
exactly_plain n make (all xs) h f = go (eqb (length xs) n) refl where
  go : (t : Bool) → eqb (length xs) n ≡ t → plain_entry (cond t (make xs) entry.Unread) ≡ true
  go true e = f xs h (eqb-true (length xs) n e)
  go false e = refl

stop_plain : (fs : List (List ℕ)) → plain_entry (stop_entry fs) ≡ true
unfolding stop_entry
stop_plain fs = exactly_plain 5 to_stop (numbers Short fs) (numbers_finite Short fs) (λ xs h e.
    rw (h 1 (omega arith), h 2 (omega arith), h 3 (omega arith), h 4 (omega arith)))

threshold_plain : (fs : List (List ℕ)) → plain_entry (threshold_entry fs) ≡ true
unfolding threshold_entry
threshold_plain fs = exactly_plain 1 to_threshold (numbers Short fs) (numbers_finite Short fs) (λ xs h e. refl)

change_plain : (c : Option ℕ) (fs : List (List ℕ)) → plain_entry (change_entry c fs) ≡ true
unfolding change_entry
change_plain None fs = refl
change_plain (Some k) fs = exactly_plain 4 (to_change k) (numbers Short fs) (numbers_finite Short fs) (λ xs h e.
    rw (h 0 (omega arith), h 1 (omega arith), h 2 (omega arith), h 3 (omega arith)))

edit_plain : (fs : List (List ℕ)) → plain_entry (edit_entry fs) ≡ true
unfolding edit_entry
edit_plain [] = refl
edit_plain (f ∷ fs) = change_plain (stop_index_of f) fs

cond_plain : (t : Bool) (a b : Entry) → plain_entry a ≡ true → plain_entry b ≡ true → plain_entry (cond t a b) ≡ true
cond_plain true a b h k = h
cond_plain false a b h k = k

entry_plain : (l : List ℕ) → plain_entry (entry_of l) ≡ true
unfolding entry_of
entry_plain l =
    cond_plain (starts stop_tag l) _ _ (stop_plain (fields (drop 5 l)))
    (cond_plain (same kind_linear l) _ _ refl
    (cond_plain (same kind_smoothstep l) _ _ refl
    (cond_plain (starts threshold_tag l) _ _ (threshold_plain (fields (drop 10 l)))
    (cond_plain (starts edit_tag l) _ _ (edit_plain (fields (drop 5 l))) refl))))

-- ---- the input

stops_plain : (ls : List (List ℕ)) → all_finite (channels_in (stops_of ls)) ≡ true
unfolding stops_of channels_in all_finite
stops_plain [] = refl
stops_plain (l ∷ ls) = go (entry_of l) (entry_plain l) (stops_plain ls) where
  go : (e : Entry) → plain_entry e ≡ true → all_finite (channels_in (stops_of ls)) ≡ true → all_finite (channels_in (if_stop e (λ s. s ∷ stops_of ls) [])) ≡ true
  go (entry.Ramp k) h r = refl
  go (entry.Threshold x) h r = refl
  go (entry.Stop s) h r = let c = s.colour in let p = parts4 (finite c.r) (finite c.g) (finite c.b) (finite c.a) h in rw (p.0, p.1, p.2, p.3, r)
  go (entry.Change e) h r = refl
  go entry.Unread h r = refl

abbrev plain_edit : Option Recolour → Bool
plain_edit None = true
plain_edit (Some e) = finite_rgba e.colour

abbrev plain_input : Input → Bool
plain_input (unread line) = true
plain_input (input k x stops e) = plain_kind k && (all_finite (channels_in stops) && plain_edit e)

module _ (k : Kind) (x : Float) (ok : plain_kind k ≡ true) where
  end_plain : (stops : List Stop) (e : Recolour) (line : ℕ) (ls : List (List ℕ)) → all_finite (channels_in stops) ≡ true → finite_rgba e.colour ≡ true → plain_input (from_end k x stops e line ls) ≡ true
  unfolding from_end
  end_plain stops e line [] h f = rw (ok, h, f)
  end_plain stops e line (l ∷ ls) h f = refl

  ending_plain : (stops : List Stop) (line : ℕ) (ls : List (List ℕ)) → all_finite (channels_in stops) ≡ true → plain_input (from_edit k x stops line ls) ≡ true
  unfolding from_edit
  ending_plain stops line [] h = rw (ok, h)
  ending_plain stops line (l ∷ ls) h = go (entry_of l) (entry_plain l) where
    go : (e : Entry) → plain_entry e ≡ true → plain_input (if_change e (λ d. from_end k x stops d (line + 1) ls) (unread line)) ≡ true
    go (entry.Ramp j) f = refl
    go (entry.Threshold y) f = refl
    go (entry.Stop s) f = refl
    go (entry.Change e) f = end_plain stops e (line + 1) ls h f
    go entry.Unread f = refl

  block_plain : (line : ℕ) (ls : List (List ℕ)) → plain_input (from_stops k x line ls) ≡ true
  unfolding from_stops
  block_plain line ls = ending_plain (stops_of ls) (line + length (stops_of ls)) (after_stops ls) (stops_plain ls)

start_plain : (k : Kind) (ls : List (List ℕ)) → plain_kind k ≡ true → plain_input (from_threshold k ls) ≡ true
unfolding from_threshold
start_plain k [] ok = block_plain k default_threshold ok 2 []
start_plain k (l ∷ ls) ok = go (entry_of l) where
  go : (e : Entry) → plain_input (if_threshold e (λ x. from_stops k x 3 ls) (from_stops k default_threshold 2 (l ∷ ls))) ≡ true
  go (entry.Ramp j) = block_plain k default_threshold ok 2 (l ∷ ls)
  go (entry.Threshold x) = block_plain k x ok 3 ls
  go (entry.Stop s) = block_plain k default_threshold ok 2 (l ∷ ls)
  go (entry.Change e) = block_plain k default_threshold ok 2 (l ∷ ls)
  go entry.Unread = block_plain k default_threshold ok 2 (l ∷ ls)

kind_plain : (ls : List (List ℕ)) → plain_input (from_kind ls) ≡ true
unfolding from_kind
kind_plain [] = refl
kind_plain (l ∷ ls) = go (entry_of l) (entry_plain l) where
  go : (e : Entry) → plain_entry e ≡ true → plain_input (if_ramp e (λ k. from_threshold k ls) (unread 1)) ≡ true
  go (entry.Ramp k) h = start_plain k ls h
  go (entry.Threshold x) h = refl
  go (entry.Stop s) h = refl
  go (entry.Change e) h = refl
  go entry.Unread h = refl

input_plain : (s : List ℕ) → plain_input (input_of s) ≡ true
unfolding input_of
input_plain s = go (leb (length s) most_bytes) where
  go : (t : Bool) → plain_input (cond t (from_kind (lines s)) (unread 0)) ≡ true
  go true = kind_plain (lines s)
  go false = refl

-- what is read of a ramp with an edit
pub record ReadFinite (kind : Kind) (stops : List Stop) (e : Recolour) : Type 0 where
  pub kind_fine : refreshable kind ≡ true
  pub kind_stops : is_gimp kind ≡ false
  pub channels_fine : all_finite (channels_in stops) ≡ true
  pub colour_fine : finite_rgba e.colour ≡ true

pub read_finite : (s : List ℕ) {kind : Kind} {asked : Float} {stops : List Stop} {e : Recolour} → input_of s ≡ input kind asked stops (Some e) → ReadFinite kind stops e
read_finite s {kind} {asked} {stops} {e} i =
    let h : (plain_kind kind && (all_finite (channels_in stops) && finite_rgba e.colour)) ≡ true = sym (ap plain_input i) ∙ input_plain s in
    let k = both_l (plain_kind kind) (all_finite (channels_in stops) && finite_rgba e.colour) h in
    let r = both_r (plain_kind kind) (all_finite (channels_in stops) && finite_rgba e.colour) h in
    record {
      kind_fine = both_l (refreshable kind) (not (is_gimp kind)) k;
      kind_stops = not-true _ (both_r (refreshable kind) (not (is_gimp kind)) k);
      channels_fine = both_l (all_finite (channels_in stops)) (finite_rgba e.colour) r;
      colour_fine = both_r (all_finite (channels_in stops)) (finite_rgba e.colour) r;
    }
