-- What lies past the end of a list is not-a-number; and colours read four channels at a time. Assumes nothing.
use mathlib.Core.Path.{◌≡◌, sym, ap, ◌∙◌}
use mathlib.Core.List.{List, []}
use Prim.Native.Nat.{ℕ, zero, suc, ◌+◌, ◌*◌, ◌/◌, ◌≤◌, ◌<◌}
use native.Mathlib.Omega.{arith}
use lib.ListN.{length, get_or, drop, get_or-eq_default}
use lib.Ieee.{Float, nan}
use Rattle.std.proofs.lemmas.List.{get_or-take, get_or-drop}
use Rattle.std.specs.Simd.{first_chunks}
use Rattle.blend.proofs.Channels.{same_rgba}
use Rattle.stops.specs.Stops.{pos_at, colour_at}

pub past_end : (xs : List Float) (i : ℕ) → length xs ≤ i → nan ≡ pos_at xs i
past_end xs i h = sym (get_or-eq_default xs nan h)

-- number j of chunk i
module _ (j : ℕ) (h : j < 4) where
  chunk_at : (m i : ℕ) (xs : List Float) → i < m → get_or (get_or (first_chunks 4 m xs) i []) j nan ≡ get_or xs (4 * i + j) nan
  chunk_at zero i xs l = absurd (omega arith)
  chunk_at (suc m) zero xs l = get_or-take 4 xs j nan h ∙ ap (λ (k : ℕ). get_or xs k nan) (omega arith)
  chunk_at (suc m) (suc i) xs l = chunk_at m i (drop 4 xs) (omega arith) ∙ get_or-drop 4 xs (4 * i + j) nan ∙ ap (λ (k : ℕ). get_or xs k nan) (omega arith)

-- the colour of stop i is chunk i
pub colour_of_chunk : (cs : List Float) (chunks : List (List Float)) (chunk : List Float) (i : ℕ) → chunks ≡ first_chunks 4 (length cs / 4) cs → i < length cs / 4 → chunk ≡ get_or chunks i []
    → record { r = get_or chunk 0 nan; g = get_or chunk 1 nan; b = get_or chunk 2 nan; a = get_or chunk 3 nan } ≡ colour_at cs i
colour_of_chunk cs chunks chunk i e l is =
    let at : (j : ℕ) → j < 4 → get_or chunk j nan ≡ get_or cs (4 * i + j) nan = λ j h. ap (λ (c : List Float). get_or c j nan) is ∙ ap (λ (cs : List (List Float)). get_or (get_or cs i []) j nan) e ∙ chunk_at j h (length cs / 4) i cs l in
    same_rgba (at 0 (omega arith) ∙ ap (λ (k : ℕ). get_or cs k nan) (omega arith)) (at 1 (omega arith)) (at 2 (omega arith)) (at 3 (omega arith))
