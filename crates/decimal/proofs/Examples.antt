-- Tokens and what they are, computed from the definition: one table, and one claim of all its lines.
use mathlib.Core.Path.{◌≡◌, refl}
use mathlib.Core.List.{List, [], ◌∷◌, map}
use Prim.Native.Nat.{ℕ}
use Prim.Native.Char.{code}
use Prim.Native.String.{String, [] as empty, ◌∷◌ as ◌then◌}
use lib.Ieee.{binary32, of_bits, round}
use Rattle.decimal.specs.declared.Token.{Token}
use Rattle.decimal.specs.declared.Token.TheVariants.{Number, NoNumber}
use Rattle.decimal.specs.Decimal.{are_digits, value_after, before_point, after_point, number_of, unsigned_of, read_of}
use Rattle.decimal.specs.Long.{first_digits, past_digits, from_first, are_zeros, long_number, with_power, after_digits, after_whole, unsigned_long_of, read_long_of}

pub bytes : String → List ℕ
bytes empty = []
bytes (c then s) = code c ∷ bytes s

pub record Line : Type 0 where
  pub token : String
  pub is : Token

-- a number with these bits
number : String → ℕ → Line
number s b = record { token = s; is = Number (of_bits binary32 b) }

none : String → Line
none s = record { token = s; is = NoNumber }

-- In order: document 01's two; a tie to even upward; 18 digits, of which all or none stand after the point; the sign of zero; no digit before the point, or after it.
pub table : List Line
table =
    number "0.1" 0x3dcccccd
    ∷ number "16777217" 0x4b800000
    ∷ number "16777219" 0x4b800002
    ∷ number "123456789012345678" 0x5bdb4da6
    ∷ number ".000000000000000001" 0x219392ef
    ∷ number "-0" 0x80000000
    ∷ number "+.5" 0x3f000000
    ∷ number "5." 0x40a00000
    ∷ none "1234567890123456789"
    ∷ none "0.000000000000000001"
    ∷ none "."
    ∷ none "+"
    ∷ none ""
    ∷ none "1e5"
    ∷ none "--1"
    ∷ none "1.2.3"
    ∷ none " 1"
    ∷ []

pub all_lines : map (λ (l : Line). read_of (bytes l.token)) table ≡ map (λ (l : Line). l.is) table
unfolding table number none bytes read_of unsigned_of number_of before_point after_point value_after are_digits round of_bits
all_lines = refl

-- Long ones. In order: what GIMP and Python write; both ends of the range, and past them; the least f32, and half of it; 19 digits that count, and zeros that do not; a tie to even; then 20 that count, and powers that are none.
pub long_table : List Line
long_table =
    number "0.043478260869565216" 0x3d321643
    ∷ number "1.3877787807814457e-17" 0x23800000
    ∷ number "3.4028235e38" 0x7f7fffff
    ∷ number "1e39" 0x7f800000
    ∷ number "-1E+39" 0xff800000
    ∷ number "1.4e-45" 0x00000001
    ∷ number "7.006492321624085354e-46" 0x00000000
    ∷ number "-1e-99" 0x80000000
    ∷ number "0001234567890123456789000e-3" 0x5d891088
    ∷ number "1677721700000000000000000e-17" 0x4b800000
    ∷ none "12345678901234567891"
    ∷ none "1e"
    ∷ none "1e+"
    ∷ none "e1"
    ∷ none "1e1.0"
    ∷ []

pub all_long_lines : map (λ (l : Line). read_long_of (bytes l.token)) long_table ≡ map (λ (l : Line). l.is) long_table
unfolding long_table number none bytes read_long_of unsigned_long_of after_whole after_digits with_power long_number first_digits past_digits from_first are_zeros value_after are_digits round of_bits
all_long_lines = refl
