-- Document 02's black to white, computed: the file that it prints, byte for byte. Assumes nothing.
use mathlib.Core.Path.{◌≡◌, refl}
use mathlib.Core.List.{List, [], ◌∷◌}
use Prim.Native.Nat.{ℕ}
use Prim.Native.Char.{code}
use Prim.Native.String.{String, [] as empty, ◌∷◌ as ◌then◌}
use lib.Ieee.{lt, eq, of_bits, add, div, round}
use Rattle.float.specs.F32.{f0, f1}
use Rattle.numerals.specs.Written.{digits, plain_decimal, places, nine, in_range, writable, signed, text_of}
use Rattle.text.specs.Output.{decimal_of}
use Rattle.ggr_writing.specs.File.{spaced_number, spaced_colour, segment_text, segments_text, file_text, segments_from, shaped_list, rises, writable_colour, writable_segment, writable_from, can_write, text, with_room, file_written_of}

bytes : String → List ℕ
bytes empty = []
bytes (c then s) = code c ∷ bytes s

-- its words stand here alone: the writer's, and those that the reader looks for, are held to them
black_to_white : file_written_of 122 (f0 ∷ f1 ∷ []) (f0 ∷ f0 ∷ f0 ∷ f1 ∷ f1 ∷ f1 ∷ f1 ∷ f1 ∷ [])
    ≡ text (bytes "GIMP Gradient\nName: flattened\n1\n0 0.500000000 1.00000000 0 0 0 1.00000000 1.00000000 1.00000000 1.00000000 1.00000000 0 0\n")
unfolding bytes file_written_of shaped_list rises can_write writable_from writable_segment writable_colour writable with_room file_text segments_from segments_text segment_text spaced_colour spaced_number decimal_of text_of in_range nine places plain_decimal digits signed of_bits add div round lt eq
black_to_white = refl
