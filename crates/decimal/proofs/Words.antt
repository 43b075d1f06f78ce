-- Numbers in three words of 60 binary digits: multiplied, compared, taken off each other, one word after the other. Assumes nothing.
use mathlib.Core.Path.{◌≡◌, refl, sym, ap, ◌∙◌, subst}
use mathlib.Core.Bool.{Bool}
use Prim.Native.Nat.{ℕ, ◌+◌, ◌-◌, ◌*◌, ◌/◌, ◌%◌, ◌≤◌, ◌<◌}
use native.Mathlib.Nat.{le_of_eq, le_of_lt, div-add-mod', add-zero}
use native.Mathlib.Omega.{arith}
use Rattle.std.specs.Bool.{MatchBool}
use Rattle.std.specs.Prelude.{Some}
use Rattle.std.specs.declared.cmp.Ordering.{Ordering}
use Rattle.std.specs.declared.cmp.Ordering.TheVariants.{Less, Equal, Greater}
use Rattle.std.specs.Ordering.{MatchOrdering, ordering_then, partial_ordering_then, nat_cmp, is_lt, is_le, is_some_and}
use Rattle.std.proofs.lemmas.Cmp.{ranked}
use Rattle.decimal.specs.declared.three_words.Wide.{Wide}
use Rattle.decimal.specs.inner.Wide.{word, wide, value_of, Roomy}

parts : (n : ℕ) → n ≡ n / word * word + n % word
parts n = sym (div-add-mod' n word)

-- ---- k times
carried : (w h x k i c r : ℕ) → x * k + i ≡ c * w + r → (h * w + x) * k + i ≡ (h * k + c) * w + r
carried w h x k i c r e = omega arith

module _ (hi mid lo k : ℕ) where
  abbrev l : ℕ
  l = lo * k

  abbrev m : ℕ
  m = mid * k + l / word

  abbrev h : ℕ
  h = hi * k + m / word

  pub times_is : wide h (m % word) (l % word) ≡ wide hi mid lo * k
  unfolding wide
  times_is =
      ap (λ (x : ℕ). x * word + l % word) (sym (carried word hi mid k (l / word) (m / word) (m % word) (parts m)))
      ∙ sym (carried word (hi * word + mid) lo k 0 (l / word) (l % word) (add-zero l ∙ parts l))
      ∙ add-zero (((hi * word + mid) * word + lo) * k)

-- ---- order
pub higher : (a b : Wide) → a.hi < b.hi → value_of a < value_of b
unfolding wide
higher a b h = let f = a.words_fit in omega arith

pub hi_le : (a b : Wide) → value_of a ≤ value_of b → a.hi ≤ b.hi
unfolding wide
hi_le a b h = let f = b.words_fit in omega arith

pub roomy_hi : (w : Wide) (n : ℕ) → value_of w ≡ n → Roomy n → w.hi < word
unfolding wide Roomy
roomy_hi w n e r = omega arith

-- twice the first word, and less than twice more
pub twice_hi : (w v : Wide) → value_of v ≡ value_of w * 2 → v.hi < (w.hi + 1) * 2
unfolding wide
twice_hi w v e = let f = w.words_fit in omega arith

-- ---- the first words that differ decide
module _ (a b : Wide) where
  abbrev Ranked : Ordering → Type 0
  Ranked o = MatchOrdering o (value_of a < value_of b) (value_of a ≡ value_of b) (value_of b < value_of a)

  by_lo : a.hi ≡ b.hi → a.mid ≡ b.mid → (o : Ordering) → MatchOrdering o (a.lo < b.lo) (a.lo ≡ b.lo) (b.lo < a.lo) → Ranked o
  unfolding wide
  by_lo e f Less h = omega arith
  by_lo e f Equal h = omega arith
  by_lo e f Greater h = omega arith

  by_mid : a.hi ≡ b.hi → (o : Ordering) → MatchOrdering o (a.mid < b.mid) (a.mid ≡ b.mid) (b.mid < a.mid) → Ranked (ordering_then o (nat_cmp a.lo b.lo))
  unfolding wide
  by_mid e Less h = let f = a.words_fit in omega arith
  by_mid e Equal h = by_lo e h (nat_cmp a.lo b.lo) (ranked a.lo b.lo _ refl)
  by_mid e Greater h = let f = b.words_fit in omega arith

  by_hi : (o : Ordering) → MatchOrdering o (a.hi < b.hi) (a.hi ≡ b.hi) (b.hi < a.hi) → Ranked (ordering_then o (ordering_then (nat_cmp a.mid b.mid) (nat_cmp a.lo b.lo)))
  by_hi Less h = higher a b h
  by_hi Equal h = by_mid h (nat_cmp a.mid b.mid) (ranked a.mid b.mid _ refl)
  by_hi Greater h = higher b a h

  -- what `cmp` answers, and what `<` and `<=` test
  abbrev order : Ordering
  order = ordering_then (nat_cmp a.hi b.hi) (ordering_then (nat_cmp a.mid b.mid) (nat_cmp a.lo b.lo))

  abbrev tested : (Ordering → Bool) → Bool
  tested f = is_some_and f (partial_ordering_then (Some (nat_cmp a.hi b.hi)) (partial_ordering_then (Some (nat_cmp a.mid b.mid)) (Some (nat_cmp a.lo b.lo))))

  pub ordered : (o : Ordering) → o ≡ order → Ranked o
  ordered o e = subst Ranked (sym e) (by_hi (nat_cmp a.hi b.hi) (ranked a.hi b.hi _ refl))

  told : (f : Ordering → Bool) → tested f ≡ f order
  told f = go (nat_cmp a.hi b.hi) (nat_cmp a.mid b.mid)
    where
      go : (o p : Ordering) → is_some_and f (partial_ordering_then (Some o) (partial_ordering_then (Some p) (Some (nat_cmp a.lo b.lo)))) ≡ f (ordering_then o (ordering_then p (nat_cmp a.lo b.lo)))
      go Less p = refl
      go Greater p = refl
      go Equal Less = refl
      go Equal Equal = refl
      go Equal Greater = refl

  pub is_less : (t : Bool) → t ≡ tested is_lt → MatchBool t (value_of a < value_of b) (value_of b ≤ value_of a)
  is_less t e = subst (λ (t : Bool). MatchBool t (value_of a < value_of b) (value_of b ≤ value_of a)) (sym (e ∙ told is_lt)) (go order (ordered order refl))
    where
      go : (o : Ordering) → Ranked o → MatchBool (is_lt o) (value_of a < value_of b) (value_of b ≤ value_of a)
      go Less h = h
      go Equal h = le_of_eq (sym h)
      go Greater h = le_of_lt h

  pub is_upto : (t : Bool) → t ≡ tested is_le → MatchBool t (value_of a ≤ value_of b) (value_of b < value_of a)
  is_upto t e = subst (λ (t : Bool). MatchBool t (value_of a ≤ value_of b) (value_of b < value_of a)) (sym (e ∙ told is_le)) (go order (ordered order refl))
    where
      go : (o : Ordering) → Ranked o → MatchBool (is_le o) (value_of a ≤ value_of b) (value_of b < value_of a)
      go Less h = le_of_lt h
      go Equal h = le_of_eq h
      go Greater h = h

-- ---- taken off: each word with one of the word above it, which goes back where the word is over
module _ (a b : Wide) (h : value_of b ≤ value_of a) where
  abbrev x : ℕ
  x = a.lo + word - b.lo

  abbrev y : ℕ
  y = a.mid + word - b.mid - (1 - x / word)

  pub room : 1 - y / word ≤ a.hi - b.hi
  unfolding wide
  room = let f = a.words_fit in let g = b.words_fit in omega arith

  pub taken_off : wide (a.hi - b.hi - (1 - y / word)) (y % word) (x % word) + value_of b ≡ value_of a
  unfolding wide
  taken_off = let f = a.words_fit in let g = b.words_fit in omega arith
