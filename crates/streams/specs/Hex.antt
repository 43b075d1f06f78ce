-- A number of 32 bits as hexadecimal digits.
use Rattle.std.specs.Prelude.{ℕ, List, [], ◌-◌, ◌^◌, false}
use Rattle.std.specs.Fmt.{digits, padded_integral, format_spec}

-- eight digits, with zeros in front
abbrev pub eight_digits : ℕ → List ℕ
eight_digits n = padded_integral (format_spec 32 0 4 8 (2 ^ 64 - 1)) false [] (digits 16 false n)
