-- What private functions promise each other: an entry of the table by a sum of powers, which is told to be the entry where it is not too near half-way between two whole numbers.
use Rattle.std.specs.Prelude.{ℕ, ◌+◌, ◌-◌, ◌*◌, ◌/◌, ◌^◌, cond, leb}

-- how far i lies from the nearer end of the table
abbrev pub nearer : ℕ → ℕ
nearer i = cond (leb i 512) i (1024 - i)

-- one step of the sum
abbrev pub less : ℕ → ℕ → ℕ → ℕ
less c p z = c - p * z / 2 ^ 18

-- the entry j, up to 512, in units of 2^-20, roughly
unfoldable pub sum : ℕ → ℕ
sum j =
    let z = j * j in
    less 10851744792723 (less 2231300197116 (less 183513982833 (less 8077093793 211545278 z) z) z) z * z / 2 ^ 18

-- a sum rounded, where it may be a little more or less than it should
abbrev pub lower : ℕ → ℕ
lower h = (h + (2 ^ 19 - 2 ^ 11)) / 2 ^ 20

abbrev pub upper : ℕ → ℕ
upper h = (h + (2 ^ 19 + 2 ^ 11)) / 2 ^ 20

-- n, or as far below 2^24 on the table's other half
abbrev pub by_half : ℕ → ℕ → ℕ
by_half i n = cond (leb i 512) n (2 ^ 24 - n)
