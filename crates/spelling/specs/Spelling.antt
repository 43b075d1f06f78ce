-- Texts spelt in one line, and texts put into a buffer. These are of the programs of the gate alone; document 01 says nothing of them.
use Rattle.std.specs.Prelude.{ℕ, suc, ◌+◌, ◌≡◌, cond, List, [], ◌∷◌, ◌++◌, length, set, ltb, eqb}

-- a place moves on while it is in a buffer of so many bytes
unfoldable pub next_in : ℕ → ℕ → ℕ
next_in size at = cond (ltb at size) (at + 1) at

-- bytes put into a buffer one after the other; what there is no room for is lost
unfoldable pub put_all : List ℕ → ℕ → List ℕ → List ℕ
put_all buf at [] = buf
put_all buf at (b ∷ s) = put_all (set buf at b) (next_in (length buf) at) s

unfoldable pub place_after : ℕ → ℕ → List ℕ → ℕ
place_after size at [] = at
place_after size at (b ∷ s) = place_after size (next_in size at) s

-- the promise of putting s into a buffer from `at` on: what the buffer then holds, and the place after s
abbrev pub Appends : List ℕ → List ℕ → ℕ → List ℕ → ℕ → Type 0
Appends before after at s r = (after ≡ put_all before at s) × (r ≡ place_after (length before) at s)

-- the byte that a byte stands for
unfoldable pub plain_of : ℕ → ℕ
plain_of b = cond (eqb b 124) 10 (cond (eqb b 94) 13 (cond (eqb b 95) 9 (cond (eqb b 126) 11 (cond (eqb b 33) 200 b))))

-- @ stands for a byte-order mark, every other byte for one byte
unfoldable pub meant_by : ℕ → List ℕ
meant_by b = cond (eqb b 64) (0xEF ∷ 0xBB ∷ 0xBF ∷ []) (plain_of b ∷ [])

unfoldable pub meant : List ℕ → List ℕ
meant [] = []
meant (b ∷ s) = meant_by b ++ meant s

-- how many bytes are b
unfoldable pub hits : ℕ → List ℕ → ℕ
hits b [] = 0
hits b (c ∷ s) = cond (eqb c b) (suc (hits b s)) (hits b s)
