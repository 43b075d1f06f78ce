-- Laws of lists put one after the other, and of numbers added up. Assumes nothing.
use mathlib.Core.Path.{◌≡◌, refl, ◌∙◌}
use mathlib.Core.List.{List, [], ◌∷◌, ◌++◌}
use mathlib.Core.Logic.{⊎_elim}
use Prim.Native.Nat.{ℕ, zero, suc, ◌+◌, ◌*◌, ◌≤◌, ◌<◌}
use native.Mathlib.Nat.{suc-mul, eq-or-lt_of_le}
use native.Mathlib.Numerals.{add-one}
use native.Mathlib.Omega.{arith}
use lib.ListN.{length, get_or, length-append, get_or-append}
use lib.Seq.{get_or-append-add}
use Rattle.slices.specs.Joined.{joined, summed}

pub length-joined : {A : Type 0} (f : ℕ → List A) (k m : ℕ) → ((j : ℕ) → j < m → length (f j) ≡ k) → (i : ℕ) → i ≤ m → length (joined f i) ≡ i * k
unfolding joined
length-joined f k m each zero h = omega arith
length-joined f k m each (suc i) h =
    length-append (joined f i) (f i) ∙ omega (arith, length-joined f k m each i (omega arith), each i h, suc-mul i k)

pub joined_next : {A : Type 0} (f : ℕ → List A) (i : ℕ) → joined f i ++ f i ≡ joined f (i + 1)
unfolding joined
joined_next f i = rw add-one

pub summed_next : (w : ℕ → ℕ) (i : ℕ) → summed w i + w i ≡ summed w (i + 1)
unfolding summed
summed_next w i = rw add-one

pub length-summed : {A : Type 0} (f : ℕ → List A) (k : ℕ → ℕ) (n : ℕ) → ((i : ℕ) → i < n → length (f i) ≡ k i) → length (joined f n) ≡ summed k n
unfolding joined summed
length-summed f k zero each = refl
length-summed f k (suc n) each =
    length-append (joined f n) (f n) ∙ omega (arith, length-summed f k n (λ i h. each i (omega arith)), each n (omega arith))

pub summed_mono : (k : ℕ → ℕ) (i n : ℕ) → i < n → summed k i + k i ≤ summed k n
unfolding summed
summed_mono k i zero h = absurd (omega arith)
summed_mono k i (suc n) h = ⊎_elim (λ e. rw e (omega arith)) (λ l. omega (arith, summed_mono k i n l)) (eq-or-lt_of_le {n = i} {m = n} (omega arith))

-- item j of list i, in all of them
pub item : {A : Type 0} (f : ℕ → List A) (k : ℕ → ℕ) (d : A) (n : ℕ) → ((i : ℕ) → i < n → length (f i) ≡ k i)
    → (i j : ℕ) → i < n → j < k i → get_or (joined f n) (summed k i + j) d ≡ get_or (f i) j d
unfolding joined
item f k d zero each i j h l = absurd (omega arith)
item f k d (suc n) each i j h l = ⊎_elim last (λ b. front b (item f k d n (λ a c. each a (omega arith)) i j b l)) (eq-or-lt_of_le {n = i} {m = n} (omega arith))
  where
    long : length (joined f n) ≡ summed k n
    long = length-summed f k n (λ a c. each a (omega arith))

    last : i ≡ n → get_or (joined f n ++ f n) (summed k i + j) d ≡ get_or (f i) j d
    last e = rw (e, ← long) (get_or-append-add (joined f n) (f n) j d)

    front : i < n → get_or (joined f n) (summed k i + j) d ≡ get_or (f i) j d → get_or (joined f n ++ f n) (summed k i + j) d ≡ get_or (f i) j d
    front b ih = get_or-append (joined f n) (f n) d (summed k i + j) (omega (arith, long, summed_mono k i n b)) ∙ ih

summed_ones : (n : ℕ) → summed (λ i. 1) n ≡ n
unfolding summed
summed_ones zero = refl
summed_ones (suc n) = omega (arith, summed_ones n)

-- item i of a list made of single items
pub single_of : {A : Type 0} (k : ℕ → A) (d : A) (n i : ℕ) → i < n → get_or (joined (λ j. k j ∷ []) n) i d ≡ k i
single_of k d n i h =
    let e : summed (λ j. 1) i + 0 ≡ i = omega (arith, summed_ones i) in
    rw e at (item (λ j. k j ∷ []) (λ j. 1) d n (λ j l. refl) i 0 h (omega arith))

pub single : (k : ℕ → ℕ) (n i : ℕ) → i < n → get_or (joined (λ j. k j ∷ []) n) i 0 ≡ k i
single k n i h = single_of k 0 n i h
