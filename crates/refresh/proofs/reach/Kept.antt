-- The cells kept, one after the other: without a domain none is, and else those that are clear. Assumes nothing.
use mathlib.Core.Path.{◌≡◌, refl, sym, ◌∙◌}
use mathlib.Core.Bool.{Bool, true, false}
use mathlib.Core.List.{List, [], ◌∷◌, ◌++◌}
use mathlib.Core.Logic.{⊎_elim}
use Prim.Native.Nat.{ℕ, zero, suc, ◌+◌, ◌<◌}
use native.Mathlib.Nat.{eq-or-lt_of_le}
use native.Mathlib.Omega.{arith}
use lib.ListN.{length, get_or, replicate, get_or-append}
use lib.Seq.{get_or-append-add}
use lib.Ieee.{Float}
use Rattle.std.proofs.lemmas.List.{ext_get_or}
use Rattle.stops.specs.Lent.{Ramp}
use Rattle.stops.specs.declared.Checked.TheVariants as checked
use Rattle.gradient.specs.Ramp.{min_of, max_of}
use Rattle.sampling.specs.Constants.{cells}
use Rattle.slices.specs.Joined.{joined}
use Rattle.sampling.specs.Cells.{edge_of}
use Rattle.sampling.specs.Lent.{Held}
use Rattle.sampling.specs.Sampling.{held_check}
use Rattle.slices.proofs.Joined.{length-joined}
use Rattle.refresh.specs.reach.Stretch.{before_of, after_of, outside_of, clear_of, cell_clear}
use Rattle.refresh.specs.declared.reach.stretch.Stretch.{Stretch}
use Rattle.refresh.specs.reach.KeptCells.{is_domain, cell_kept, kept_cells}
use Rattle.refresh.proofs.reach.Sides.{before_clear, after_clear}
use Rattle.refresh.proofs.reach.Domains.{end_within, checked_domain}

-- ---- one cell
pub clear_is : (out : Float → Bool) (lo hi t0 t1 : Float) (i : ℕ) → t0 ≡ edge_of lo hi i → t1 ≡ edge_of lo hi (i + 1) → clear_of out t0 t1 ≡ cell_clear out lo hi i
unfolding cell_clear
clear_is out lo hi t0 t1 i p q = rw (p, q)

-- a cell whose two ends are on one and the same outer side of the stretch has no midpoint inside it
module _ (s : Stretch) (lo hi : Float) (domain : is_domain lo hi ≡ true) (i : ℕ) (l : i < cells) where
  abbrev first : Float
  first = edge_of lo hi i

  abbrev last : Float
  last = edge_of lo hi (i + 1)

  pub before_cell : before_of s first ≡ true → before_of s last ≡ true → cell_clear (outside_of s) lo hi i ≡ true
  unfolding cell_clear
  before_cell h j = before_clear s first last (end_within lo hi domain first i (omega arith) refl) (end_within lo hi domain last (i + 1) (omega arith) refl) h j

  pub after_cell : after_of s first ≡ true → after_of s last ≡ true → cell_clear (outside_of s) lo hi i ≡ true
  unfolding cell_clear
  after_cell h j = after_clear s first last (end_within lo hi domain first i (omega arith) refl) (end_within lo hi domain last (i + 1) (omega arith) refl) h j

-- ---- a list of single items
abbrev pub each : {A : Type 0} → (ℕ → A) → ℕ → List A
each f n = joined (λ i. f i ∷ []) n

each_same : {A : Type 0} (f g : ℕ → A) (n : ℕ) → ((i : ℕ) → f i ≡ g i) → each f n ≡ each g n
unfolding joined
each_same f g zero h = refl
each_same f g (suc n) h = rw (each_same f g n h, h n)

none : replicate cells false ≡ each (λ i. false) cells
unfolding joined
none = refl

each-length : {A : Type 0} (f : ℕ → A) (n : ℕ) → length (each f n) ≡ n
each-length f n = omega (arith, length-joined (λ i. f i ∷ []) 1 n (λ j h. refl) n (omega arith))

each_at : {A : Type 0} (f : ℕ → A) (n i : ℕ) (d : A) → i < n → get_or (each f n) i d ≡ f i
unfolding joined
each_at f zero i d l = absurd (omega arith)
each_at f (suc n) i d l = ⊎_elim last (λ b. get_or-append (each f n) (f n ∷ []) d i (omega (arith, each-length f n)) ∙ each_at f n i d b) (eq-or-lt_of_le {n = i} {m = n} (omega arith))
  where
    last : i ≡ n → get_or (each f n ++ f n ∷ []) i d ≡ f i
    last e =
        let at : length (each f n) + 0 ≡ n = omega (arith, each-length f n) in
        rw e (rw at at (get_or-append-add (each f n) (f n ∷ []) 0 d))

-- ---- all cells
module _ (lo hi : Float) (s : Stretch) where
  abbrev clear : ℕ → Bool
  clear i = cell_clear (outside_of s) lo hi i

  pub no_domain : is_domain lo hi ≡ false → replicate cells false ≡ kept_cells lo hi s
  unfolding kept_cells
  no_domain h = none ∙ sym (each_same (cell_kept lo hi s) (λ i. false) cells not_kept)
    where
      not_kept : (i : ℕ) → cell_kept lo hi s i ≡ false
      not_kept i = unfold cell_kept in rw h

  module _ (domain : is_domain lo hi ≡ true) where
    kept_clear : (i : ℕ) → cell_kept lo hi s i ≡ clear i
    unfolding cell_kept
    kept_clear i = rw domain

    -- a cell is kept just where it is clear
    pub kept_is : (i : ℕ) → i < cells → get_or (kept_cells lo hi s) i false ≡ clear i
    unfolding kept_cells
    kept_is i l = each_at (cell_kept lo hi s) cells i false l ∙ kept_clear i

    kept-length : length (kept_cells lo hi s) ≡ cells
    unfolding kept_cells
    kept-length = each-length (cell_kept lo hi s) cells

    -- each cell told, one by one
    pub all_told : (keep : List Bool) → length keep ≡ cells → ((i : ℕ) → i < cells → get_or keep i false ≡ clear i) → keep ≡ kept_cells lo hi s
    all_told keep long told =
        ext_get_or false keep (kept_cells lo hi s) (long ∙ sym kept-length) (λ i l. let b : i < cells = omega (arith, long) in told i b ∙ sym (kept_is i b))

-- ---- of a ramp that may be sampled
pub checked_kept : (ramp : Ramp) (was : Held) (s : Stretch) → held_check ramp was ≡ checked.Fine → (i : ℕ) → i < cells
    → get_or (kept_cells (min_of ramp) (max_of ramp) s) i false ≡ cell_clear (outside_of s) (min_of ramp) (max_of ramp) i
checked_kept ramp was s fine i l = kept_is (min_of ramp) (max_of ramp) s (checked_domain ramp (length was.rows) (length was.counts) (length was.marks) fine) i l
