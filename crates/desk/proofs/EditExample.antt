-- Two texts to which the theorem of edited texts applies: a ramp from black to white whose second stop is made green, by an `edit` and in its own line. Assumes nothing.
use Prim.Native.Nat.{ℕ}
use Prim.Native.Char.{code}
use Prim.Native.String.{String, [] as empty, ◌∷◌ as ◌then◌}
use native.Mathlib.Omega.{arith}
use mathlib.Core.Path.{◌≡◌, refl}
use mathlib.Core.List.{List, [], ◌∷◌}
use lib.Ieee.{of_bits, round}
use Rattle.decimal.specs.Decimal.{are_digits, value_after, before_point, after_point, number_of, unsigned_of, read_of}
use Rattle.float.specs.F32.{f0, f1}
use Rattle.blend.specs.declared.Stop.{Stop}
use Rattle.stops.specs.declared.Kind.TheVariants.{Linear}
use Rattle.text.specs.Text.{every, at_lf, on_first, lines, same, starts, fields}
use Rattle.rows.specs.Digits.{digits_of, digits_with}
use Rattle.rows.specs.Rows.{token_of, add_number, numbers}
use Rattle.sampling.specs.Constants.{default_threshold}
use Rattle.entries.specs.Entries.{exactly, threshold_entry, stop_entry, stop_index_of, change_entry, edit_entry, entry_of}
use Rattle.entries.specs.Input.{input, from_end, from_edit, stops_of, after_stops, from_stops, from_threshold, from_kind, input_of}
use Rattle.desk.specs.Recoloured.{to_tab, after_tab, changed_line, changed_lines, SameStopLines, EditMade}
use Rattle.desk.specs.Tool.{desk_of}
use Rattle.entries.specs.declared.fields.Recolour.{Recolour}
use Rattle.std.specs.Prelude.{Some}
use Rattle.desk.proofs.EditedLines.{edited_lines}

bytes : String → List ℕ
bytes empty = []
bytes (c then s) = code c ∷ bytes s

pub by_edit : List ℕ
by_edit = bytes "kind\tlinear\nstop\t0\t0\t0\t0\t1\nstop\t1\t1\t1\t1\t1\nedit\t1\t0\t1\t0\t1\n"

pub by_hand : List ℕ
by_hand = bytes "kind\tlinear\nstop\t0\t0\t0\t0\t1\nstop\t1\t0\t1\t0\t1\n"

green : Recolour
green = record { stop = 1; colour = record { r = f0; g = f1; b = f0; a = f1 } }

both : List Stop
both = record { position = f0; colour = record { r = f0; g = f0; b = f0; a = f1 } } ∷ record { position = f1; colour = record { r = f1; g = f1; b = f1; a = f1 } } ∷ []

reads : input_of by_edit ≡ input Linear default_threshold both (Some green)
unfolding by_edit green both bytes input_of lines at_lf on_first from_kind from_threshold from_stops stops_of after_stops from_edit from_end entry_of starts same fields exactly stop_entry threshold_entry edit_entry change_entry stop_index_of digits_with digits_of every numbers add_number token_of read_of unsigned_of number_of before_point after_point value_after are_digits round of_bits
reads = refl

made : EditMade by_edit by_hand green
unfolding by_edit by_hand green bytes lines at_lf on_first changed_lines changed_line to_tab after_tab entry_of starts same fields exactly stop_entry threshold_entry edit_entry change_entry stop_index_of digits_with digits_of every numbers add_number token_of read_of unsigned_of number_of before_point after_point value_after are_digits round of_bits
made =
    record {
      body = bytes "kind\tlinear" ∷ bytes "stop\t0\t0\t0\t0\t1" ∷ bytes "stop\t1\t1\t1\t1\t1" ∷ [];
      last = bytes "edit\t1\t0\t1\t0\t1";
      says = refl;
      before = refl;
      after = refl;
      fits = omega arith;
    }

pub green_same : SameStopLines (desk_of by_edit) (desk_of by_hand)
unfolding green both
green_same = edited_lines by_edit by_hand reads (omega arith) made
