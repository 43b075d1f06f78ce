-- What was read, by the case of the answer, and what is printed of it. Assumes nothing.
use Prim.Native.Nat.{ℕ, ◌*◌, ◌≤◌, ◌<◌}
use native.Mathlib.Omega.{arith}
use mathlib.Core.Path.{◌≡◌, sym, ap, ap₂, ◌∙◌}
use mathlib.Core.List.{List, []}
use lib.ListN.{length, take}
use lib.Seq.{sets, length-sets}
use lib.Ieee.{Float}
use borrow.Author.Tests.{le-leb, lt-leb}
use Rattle.blend.specs.Channels.{positions_in, channels_in}
use Rattle.blend.specs.declared.Stop.{Stop}
use Rattle.stops.specs.Lent.{ramp_of, Change}
use Rattle.stops.specs.declared.Kind.{Kind}
use Rattle.linearize.specs.Lent.{Output}
use Rattle.writing.specs.declared.Reply.TheVariants as reply
use Rattle.entries.specs.Input.{Input, unread, input, most_kept, input_of, stops_in, asked_of, Reads}
use Rattle.entries.specs.declared.reading.Asked.{Asked}
use Rattle.entries.specs.declared.reading.Unread.{Unread}
use Rattle.entries.specs.declared.fields.Recolour.{Recolour}
use Rattle.std.specs.Prelude.{Option, Result, Ok, Err}
use Rattle.entries.proofs.Inputs.{length_positions, length_channels}
use Rattle.entries.proofs.Stored.{stops_are}
use Rattle.desk.specs.inner.Steps.{Says}
use Rattle.desk.specs.Tool.{ramp_text, input_text, desk_of}
use Rattle.desk.proofs.Making.{take-front}

-- ---- the input of an answer
abbrev line_of : Result Asked Unread → ℕ
line_of (Err u) = u.line
line_of (Ok a) = 0

abbrev count_of : Result Asked Unread → ℕ
count_of (Err u) = 0
count_of (Ok a) = a.stops

abbrev with_stops : List Stop → Result Asked Unread → Input
with_stops ss (Err u) = unread u.line
with_stops ss (Ok a) = input a.kind a.threshold ss a.edited

was_unread : (i : Input) {u : Unread} → Err u ≡ asked_of i → i ≡ unread u.line
was_unread (unread l) e = sym (ap (λ (a : Result Asked Unread). unread (line_of a)) e)
was_unread (input k x ss d) e = absurd (let z : ◌≡◌ {A = ℕ} 0 1 = cc in omega arith)

record WasRamp (i : Input) (kind : Kind) (x : Float) (n : ℕ) (e : Option Recolour) : Type 0 where
  pub stops : List Stop
  pub is : i ≡ input kind x stops e
  pub count : n ≡ length stops

was_ramp : (i : Input) {a : Asked} → Ok a ≡ asked_of i → WasRamp i a.kind a.threshold a.stops a.edited
was_ramp (unread l) r = absurd (let z : ◌≡◌ {A = ℕ} 0 1 = cc in omega arith)
was_ramp (input k x ss d) r = record { stops = ss; is = sym (ap (with_stops ss) r); count = ap count_of r }

-- ---- what was read, with its stops in what is lent
pub record ReadRamp (s : List ℕ) (lent : Change Output) (kind : Kind) (x : Float) (n : ℕ) (e : Option Recolour) : Type 0 where
  pub stops : List Stop
  pub is : input_of s ≡ input kind x stops e
  pub count : n ≡ length stops
  pub positions : lent.exit.positions ≡ sets lent.entry.positions 0 (positions_in stops)
  pub channels : lent.exit.channels ≡ sets lent.entry.channels 0 (channels_in stops)

module _ {s : List ℕ} {lent : Change Output} {r : Result Asked Unread} (w : Reads s lent r) where
  -- as long as they were
  pub read_long : length lent.exit.positions ≡ length lent.entry.positions
  read_long = ap length w.positions ∙ length-sets lent.entry.positions 0 (positions_in (stops_in s))

  pub read_wide : length lent.exit.channels ≡ length lent.entry.channels
  read_wide = ap length w.channels ∙ length-sets lent.entry.channels 0 (channels_in (stops_in s))

  pub says_unread : {ps cs : List Float} {u : Unread} → r ≡ Err u → Says (desk_of s) (reply.Unread u.line) ps cs
  unfolding desk_of input_text
  says_unread i = record { is = sym (ap input_text (was_unread (input_of s) (sym i ∙ w.answer))) }

  pub reads_ready : {a : Asked} → r ≡ Ok a → ReadRamp s lent a.kind a.threshold a.stops a.edited
  reads_ready i =
      let a = was_ramp (input_of s) (sym i ∙ w.answer) in
      let same : a.stops ≡ _ = stops_are s a.is in
      record {
        stops = a.stops;
        is = a.is;
        count = a.count;
        positions = w.positions ∙ ap (λ (l : List Stop). sets lent.entry.positions 0 (positions_in l)) (sym same);
        channels = w.channels ∙ ap (λ (l : List Stop). sets lent.entry.channels 0 (channels_in l)) (sym same);
      }

module _ {s : List ℕ} {lent : Change Output} {kind : Kind} {x : Float} {n : ℕ} {e : Option Recolour} (w : ReadRamp s lent kind x n e) where
  -- more stops than are kept
  pub too_many : {ps cs : List Float} → most_kept < n → Says (desk_of s) (reply.Refused 1) ps cs
  unfolding desk_of input_text
  too_many h = record { is = sym (ap input_text w.is ∙ rw (lt-leb (length w.stops) most_kept (omega (arith, w.count)))) }

  is_ramp : n ≤ most_kept → desk_of s ≡ ramp_text (ramp_of kind (positions_in w.stops) (channels_in w.stops) []) x e
  unfolding desk_of input_text
  is_ramp h = ap input_text w.is ∙ rw (le-leb (length w.stops) most_kept (omega (arith, w.count)))

  pub ramp_read : length lent.entry.positions ≡ 512 → length lent.entry.channels ≡ 2048 → n ≤ most_kept
      → ramp_text (ramp_of kind (take n lent.exit.positions) (take (4 * n) lent.exit.channels) []) x e ≡ desk_of s
  ramp_read p c h =
      ap₂ (λ (ps cs : List Float). ramp_text (ramp_of kind ps cs []) x e)
      (ap (take n) w.positions ∙ take-front (positions_in w.stops) lent.entry.positions n (length_positions w.stops ∙ sym w.count) (omega arith))
      (ap (take (4 * n)) w.channels ∙ take-front (channels_in w.stops) lent.entry.channels (4 * n) (omega (arith, length_channels w.stops, w.count)) (omega arith))
      ∙ sym (is_ramp h)
