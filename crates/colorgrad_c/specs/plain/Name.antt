-- A name written into a lent output.
use Rattle.std.specs.Prelude.{ℕ, cond, List, ◌++◌, ltb, length, drop}

-- the name at the start of the output, where all of it has room
unfoldable pub named : List ℕ → List ℕ → List ℕ
named name out = cond (ltb (length out) (length name)) out (name ++ drop (length name) out)
