-- How long the texts are. Assumes nothing.
use Prim.Native.Nat.{ℕ, zero, suc, ◌+◌, ◌*◌, ◌/◌, ◌%◌, ◌≤◌}
use native.Mathlib.Omega.{arith}
use mathlib.Core.Path.{◌≡◌, refl, ◌∙◌}
use mathlib.Core.List.{List, [], ◌∷◌, ◌++◌}
use lib.ListN.{length, drop, length-append}
use lib.Ieee.{Float, binary32, to_bits}
use Rattle.blend.specs.declared.Rgba.{Rgba}
use Rattle.blend.specs.declared.Stop.{Stop}
use Rattle.stops.specs.Stops.{stop_at}
use Rattle.text.proofs.Putting.{length_decimal}
use Rattle.text.specs.Output.{count_text}
use Rattle.writing.specs.Printed.{hex_digit, hex_of, field_text, colour_text, stop_text, rows_text, line_text, unread_text, refused_text, evaluations_word, list_text}

length_hex : (left n : ℕ) → length (hex_of left n) ≡ left
unfolding hex_of
length_hex zero n = refl
length_hex (suc left) n = length-append (hex_of left (n / 16)) (hex_digit (n % 16) ∷ []) ∙ omega (arith, length_hex left (n / 16))

length_field : (x : Float) → length (field_text x) ≡ 9
unfolding field_text
length_field x = omega (arith, length_hex 8 (to_bits binary32 x))

length_colour : (c : Rgba) → length (colour_text c) ≡ 36
unfolding colour_text
length_colour c =
    omega (
      arith,
      length-append (field_text c.r) (field_text c.g ++ (field_text c.b ++ field_text c.a)),
      length-append (field_text c.g) (field_text c.b ++ field_text c.a),
      length-append (field_text c.b) (field_text c.a),
      length_field c.r,
      length_field c.g,
      length_field c.b,
      length_field c.a,
    )

length_stop : (s : Stop) → length (stop_text s) ≡ 50
unfolding stop_text
length_stop s =
    omega (
      arith,
      length-append (field_text s.position) (colour_text s.colour ++ 10 ∷ []),
      length-append (colour_text s.colour) (10 ∷ []),
      length_field s.position,
      length_colour s.colour,
    )

length_rows : (n : ℕ) (ps cs : List Float) → length (rows_text n ps cs) ≡ 50 * n
unfolding rows_text
length_rows zero ps cs = refl
length_rows (suc n) ps cs =
    omega (arith, length-append (stop_text (stop_at ps cs 0)) (rows_text n (drop 1 ps) (drop 4 cs)), length_stop (stop_at ps cs 0), length_rows n (drop 1 ps) (drop 4 cs))

length_line : (word : List ℕ) (n : ℕ) → length (line_text word n) ≤ length word + 21
unfolding line_text
length_line word n = omega (arith, length-append word (count_text n ++ 10 ∷ []), length-append (count_text n) (10 ∷ []), length_decimal 20 n)

pub length_unread : (line : ℕ) → length (unread_text line) ≤ 28
unfolding unread_text
length_unread line = length_line (117 ∷ 110 ∷ 114 ∷ 101 ∷ 97 ∷ 100 ∷ 9 ∷ []) line

pub length_refused : (number : ℕ) → length (refused_text number) ≤ 29
unfolding refused_text
length_refused number = length_line (114 ∷ 101 ∷ 102 ∷ 117 ∷ 115 ∷ 101 ∷ 100 ∷ 9 ∷ []) number

-- k and m digits at most in the two counts
pub length_list : (n e k m : ℕ) (ps cs : List Float) → length (count_text n) ≤ k → length (count_text e) ≤ m → length (list_text n e ps cs) ≤ 20 + k + m + 50 * n
unfolding list_text
length_list n e k m ps cs h j =
    omega (
      arith,
      length-append (count_text n) (evaluations_word ++ (count_text e ++ 10 ∷ rows_text n ps cs)),
      length-append (count_text e) (10 ∷ rows_text n ps cs),
      length_rows n ps cs,
    )
