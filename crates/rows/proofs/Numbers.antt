-- The loop that reads the numbers of a row: after n parts, the first n elements of d are their numbers. Assumes nothing.
use Prim.Native.Nat.{ℕ, suc, ◌+◌, ◌-◌, ◌≤◌, ◌<◌}
use native.Mathlib.Numerals.{add-one}
use native.Mathlib.Omega.{arith}
use mathlib.Core.Path.{◌≡◌, refl, sym, ap, ◌∙◌}
use mathlib.Core.Bool.{Bool, true, false, cond}
use mathlib.Core.List.{List, [], ◌∷◌, ◌++◌, append-nil}
use lib.ListN.{length, take, drop, set, replicate, length-append, length-set, take-append-drop}
use lib.Seq.{take-suc-set, drop-set-lt, length-take-le, take-append_seam, drop-drop}
use lib.Dec.{leb}
use lib.Ieee.{Float}
use borrow.Author.Tests.{ne_eqb, le-leb, lt-leb}
use Rattle.float.specs.F32.{f0}
use Rattle.decimal.specs.declared.Token.{Token}
use Rattle.decimal.specs.declared.Token.TheVariants.{Number, NoNumber}
use Rattle.rows.specs.declared.Notation.{Notation}
use Rattle.rows.specs.declared.Parting.{Parting}
use Rattle.rows.specs.Rows.{Numbers, all, none, token_of, add_number, numbers, parts_at, row_end, longest, row_numbers, row_at, RowAt}
use Rattle.rows.specs.inner.Steps.{FieldAt}

-- ---- numbers before others
unfoldable pub prepend : List Float → Numbers → Numbers
prepend [] o = o
prepend (x ∷ xs) o = add_number (Number x) (prepend xs o)

prepend_snoc : (xs : List Float) (x : Float) (o : Numbers) → prepend (xs ++ x ∷ []) o ≡ prepend xs (add_number (Number x) o)
unfolding prepend
prepend_snoc [] x o = refl
prepend_snoc (y ∷ xs) x o = ap (add_number (Number y)) (prepend_snoc xs x o)

prepend_none : (xs : List Float) → prepend xs none ≡ none
unfolding prepend add_number
prepend_none [] = refl
prepend_none (x ∷ xs) = ap (add_number (Number x)) (prepend_none xs)

prepend_all : (xs ys : List Float) → prepend xs (all ys) ≡ all (xs ++ ys)
unfolding prepend add_number
prepend_all [] ys = refl
prepend_all (x ∷ xs) ys = ap (add_number (Number x)) (prepend_all xs ys)

too_many : (xs : List Float) → longest ≤ length xs → (k : Token) (o : Numbers) → row_numbers (prepend xs (add_number k o)) ≡ []
unfolding row_numbers add_number
too_many xs h NoNumber o = rw (prepend_none xs)
too_many xs h (Number x) none = rw (prepend_none xs)
too_many xs h (Number x) (all ys) = rw (prepend_all xs (x ∷ ys), lt-leb (length (xs ++ x ∷ ys)) longest (omega (arith, length-append xs (x ∷ ys))))

-- ---- what the loop keeps
pub record Sofar (notation : Notation) (by : Parting) (s : List ℕ) (at : ℕ) (d : List Float) (n i : ℕ) : Type 0 where
  pub few : n ≤ longest
  pub long : length d ≡ longest
  pub rest : drop n d ≡ replicate (longest - n) f0
  pub read : numbers notation (parts_at by s at) ≡ prepend (take n d) (numbers notation (parts_at by s i))
  pub goes_on : row_end by s at ≡ row_end by s i

pub begun : (notation : Notation) (by : Parting) (s : List ℕ) (at : ℕ) → Sofar notation by s at (replicate 15 f0) 0 at
unfolding prepend
begun notation by s at = record { few = omega arith; long = refl; rest = refl; read = refl; goes_on = refl }

-- no row
no_row : (notation : Notation) (by : Parting) (s : List ℕ) (at : ℕ) → row_at notation by s at ≡ [] → {d : List Float} {n next : ℕ} → (d ≡ replicate longest f0) × (n ≡ 0) × (next ≡ at) → RowAt notation by s at d n next
no_row notation by s at e w = record { count = w.1 ∙ ap length (sym e); values = w.0 ∙ sym (rw e); goes_on = w.2 ∙ sym (rw e) }

module _ {notation : Notation} {by : Parting} {s : List ℕ} {at : ℕ} {d : List Float} {n i : ℕ} (f : Sofar notation by s at d n i) {some : Bool} {start end next : ℕ} (w : FieldAt by s i some start end next) where
  size : length (take n d) ≡ n
  size = length-take-le n d (omega (arith, f.few, f.long))

  -- a part
  module _ (k : some ≡ true) where
    abbrev part : List ℕ
    part = take (end - start) (drop start s)

    next-part : numbers notation (parts_at by s at) ≡ prepend (take n d) (add_number (token_of notation part) (numbers notation (parts_at by s next)))
    unfolding numbers
    next-part = f.read ∙ ap (λ (ws : List (List ℕ)). prepend (take n d) (numbers notation ws)) (w.a_part k)

    pub kept : {x : Float} → token_of notation part ≡ Number x → n < longest → Sofar notation by s at (set d n x) (n + 1) next
    kept {x} e h =
        let z : n < length d = omega (arith, f.long) in
        let q : longest - n ≡ suc (longest - (n + 1)) = omega arith in
        let r : drop n d ≡ replicate (suc (longest - (n + 1))) f0 = f.rest ∙ ap (λ (m : ℕ). replicate m f0) q in
        record {
          few = omega arith;
          long = length-set d n x ∙ f.long;
          rest = drop-set-lt (n + 1) d n x (omega arith) ∙ sym (drop-drop 1 n d) ∙ ap (drop 1) r;
          read = next-part ∙ ap (λ (o : Token). prepend (take n d) (add_number o (numbers notation (parts_at by s next)))) e ∙ sym (prepend_snoc (take n d) x _)
              ∙ ap (λ (xs : List Float). prepend xs (numbers notation (parts_at by s next))) (sym (ap (λ (m : ℕ). take m (set d n x)) (add-one n) ∙ take-suc-set d n x z));
          goes_on = f.goes_on ∙ w.same_end k;
        }

    pub over : longest ≤ n → {d' : List Float} {n' next' : ℕ} → (d' ≡ replicate longest f0) × (n' ≡ 0) × (next' ≡ at) → RowAt notation by s at d' n' next'
    over h = no_row notation by s at (ap row_numbers next-part ∙ too_many (take n d) (omega (arith, size)) (token_of notation part) (numbers notation (parts_at by s next)))

    pub no_number : token_of notation part ≡ NoNumber → {d' : List Float} {n' next' : ℕ} → (d' ≡ replicate longest f0) × (n' ≡ 0) × (next' ≡ at) → RowAt notation by s at d' n' next'
    unfolding row_numbers add_number
    no_number e = no_row notation by s at (rw (next-part, e, prepend_none (take n d)))

  -- no part is left
  module _ (k : some ≡ false) where
    got : row_at notation by s at ≡ take n d
    unfolding numbers row_numbers
    got =
        ap row_numbers (f.read ∙ ap (λ (ws : List (List ℕ)). prepend (take n d) (numbers notation ws)) (w.no_part k) ∙ prepend_all (take n d) [] ∙ ap all (append-nil (take n d)))
        ∙ rw (le-leb (length (take n d)) longest (omega (arith, size, f.few)))

    pub row_none : n ≡ 0 → {d' : List Float} {n' next' : ℕ} → (d' ≡ replicate longest f0) × (n' ≡ 0) × (next' ≡ at) → RowAt notation by s at d' n' next'
    row_none e = no_row notation by s at (got ∙ ap (λ (m : ℕ). take m d) e)

    pub row_done : (n ≡ 0 → ⊥) → RowAt notation by s at d n next
    row_done h = record {
      count = sym (ap length got ∙ size);
      values = sym (take-append-drop n d) ∙ ap (λ (l : List Float). take n d ++ l) (f.rest ∙ ap (λ (m : ℕ). replicate (longest - m) f0) (sym size))
          ∙ ap (λ (l : List Float). l ++ replicate (longest - length l) f0) (sym got);
      goes_on = w.follows k ∙ sym f.goes_on ∙ sym (rw (got, size, ne_eqb n 0 h));
    }

-- ---- what a row tells of the numbers of its parts
row_some : (o : Numbers) → 0 < length (row_numbers o) → o ≡ all (row_numbers o)
unfolding row_numbers
row_some none h = absurd (omega arith)
row_some (all xs) h = go (leb (length xs) longest) h where
  go : (t : Bool) → 0 < length (cond t xs []) → all xs ≡ all (cond t xs [])
  go true h = refl
  go false h = absurd (omega arith)

row_all : (xs : List Float) → length xs ≤ longest → row_numbers (all xs) ≡ xs
unfolding row_numbers
row_all xs h = rw (le-leb (length xs) longest h)

module _ {notation : Notation} {by : Parting} {s : List ℕ} {at : ℕ} {d : List Float} {n next : ℕ} (w : RowAt notation by s at d n next) where
  front : take n d ≡ row_at notation by s at
  front = ap (λ (l : List Float). take n l) w.values ∙ ap (λ (m : ℕ). take m (row_at notation by s at ++ replicate (longest - length (row_at notation by s at)) f0)) w.count ∙ take-append_seam (row_at notation by s at) _

  -- n of them, and 0 after them
  pub row_is : 0 < n → (numbers notation (parts_at by s at) ≡ all (take n d)) × (length (take n d) ≡ n) × (d ≡ take n d ++ replicate (longest - n) f0)
  row_is h = (
    row_some (numbers notation (parts_at by s at)) (omega (arith, w.count)) ∙ ap all (sym front),
    ap length front ∙ sym w.count,
    w.values ∙ ap (λ (m : ℕ). row_at notation by s at ++ replicate (longest - m) f0) (sym w.count) ∙ ap (λ (l : List Float). l ++ replicate (longest - n) f0) (sym front),
  )

  -- another number of them, or none
  pub row_not : (k : ℕ) → k ≤ longest → (n ≡ k → ⊥) → (xs : List Float) → numbers notation (parts_at by s at) ≡ all xs → length xs ≡ k → ⊥
  row_not k b h xs e l = h (w.count ∙ ap length (ap row_numbers e ∙ row_all xs (omega arith)) ∙ l)

  -- what follows it
  pub row_next : 0 < n → next ≡ row_end by s at
  row_next h = w.goes_on ∙ rw (← w.count, ne_eqb n 0 (λ e. omega arith))
