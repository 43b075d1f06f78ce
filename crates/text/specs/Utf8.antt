-- Which bytes are UTF-8: the well-formed sequences of the Unicode Standard, its table 3-7. There are no overlong forms (C0 and C1 start none, E0 goes on from A0, F0 from 90),
-- no surrogates (ED goes on up to 9F), and nothing above U+10FFFF (F4 goes on up to 8F).
use Rattle.std.specs.Prelude.{ℕ, ◌-◌, Bool, cond, ◌&&◌, List, [], ◌∷◌, leb, ltb, eqb}
use Rattle.text.specs.declared.utf8.Due.{Due}

-- so many more bytes of a character are due, the next of them from `low` to `high`
abbrev pub due : ℕ → ℕ → ℕ → Due
due more low high = record { more = more; low = low; high = high }

-- no character is due, or none that any byte could end
abbrev pub nothing_due : Due
nothing_due = due 0 0x80 0xBF

abbrev pub never_due : Due
never_due = due 4 1 0

-- what the first byte of a character makes due
unfoldable pub opened : ℕ → Due
opened b =
    cond (leb b 0x7F) nothing_due (cond (ltb b 0xC2) never_due (cond (leb b 0xDF) (due 1 0x80 0xBF)
    (cond (eqb b 0xE0) (due 2 0xA0 0xBF) (cond (eqb b 0xED) (due 2 0x80 0x9F) (cond (leb b 0xEF) (due 2 0x80 0xBF)
    (cond (eqb b 0xF0) (due 3 0x90 0xBF) (cond (leb b 0xF3) (due 3 0x80 0xBF) (cond (eqb b 0xF4) (due 3 0x80 0x8F) never_due))))))))

-- what one more byte leaves due
unfoldable pub due_after : Due → ℕ → Due
due_after d b = cond (eqb d.more 0) (opened b) (cond (leb d.low b && leb b d.high) (due (d.more - 1) 0x80 0xBF) never_due)

-- and what more bytes do
unfoldable pub due_at_end : Due → List ℕ → Due
due_at_end d [] = d
due_at_end d (b ∷ s) = due_at_end (due_after d b) s

-- bytes are UTF-8 where nothing is due at their end
unfoldable pub utf8 : List ℕ → Bool
utf8 s = eqb (due_at_end nothing_due s).more 0
