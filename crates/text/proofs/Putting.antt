-- Laws of texts put one after the other, and of digits. Assumes nothing.
use Prim.Native.Nat.{ℕ, zero, suc, ◌+◌, ◌-◌, ◌/◌, ◌%◌, ◌^◌, ◌≤◌, ◌<◌, min}
use native.Mathlib.Nat.{div-lt_iff_lt-mul, pow-suc, lt_of_lt_of_le, le_of_eq}
use native.Mathlib.Decide.{dec_le}
use native.Mathlib.Omega.{arith}
use mathlib.Core.Path.{◌≡◌, refl, sym, ap, ◌∙◌}
use mathlib.Core.Bool.{Bool, true, false, cond}
use mathlib.Core.List.{List, [], ◌∷◌, ◌++◌}
use lib.Dec.{ltb, lit<}
use lib.ListN.{length, take, set, length-append, length-set}
use lib.Seq.{sets, length-sets, length-take-le}
use borrow.Rule.Slice.PartMut.{put_mid}
use borrow.Author.Tests.{lt-ltb, le-ltb}
use Rattle.slices.proofs.Stores.{sets-append, sets_out, part_sets}
use Rattle.text.specs.Output.{decimal_of, most_place, PutsFrom, Puts}

-- ---- one text after another

pub from_nil : (out : List ℕ) (at : ℕ) → at ≤ most_place → PutsFrom out out at [] at
from_nil out at h = record { next = omega arith; written = refl }

pub from_size : {out out' : List ℕ} {at r : ℕ} {text : List ℕ} → PutsFrom out out' at text r → length out' ≡ length out
from_size {out} {out'} {at} {r} {text} p = ap length p.written ∙ length-sets out at text

pub from_as : {out out' : List ℕ} {at r : ℕ} {xs ys : List ℕ} → PutsFrom out out' at xs r → xs ≡ ys → PutsFrom out out' at ys r
from_as {out} {out'} {at} {r} {xs} {ys} p e = record { next = p.next ∙ ap (λ (l : List ℕ). min (at + length l) most_place) e; written = p.written ∙ ap (sets out at) e }

-- past the greatest place no output has a byte
sets_place : (l : List ℕ) (k : ℕ) (xs : List ℕ) → length l ≤ most_place → sets l (min k most_place) xs ≡ sets l k xs
sets_place l k xs h = go (dec_le k most_place) where
  go : Dec (k ≤ most_place) → sets l (min k most_place) xs ≡ sets l k xs
  go (yes a) = let e : min k most_place ≡ k = omega arith in ap (λ (i : ℕ). sets l i xs) e
  go (no a) = sets_out l (min k most_place) xs (omega arith) ∙ sym (sets_out l k xs (omega arith))

-- what follows may count on an output that is no longer than the greatest place
pub puts_then : {out mid out' : List ℕ} {at m r : ℕ} {xs ys : List ℕ} → PutsFrom out mid at xs m → (length mid ≤ most_place → PutsFrom mid out' m ys r) → length out ≤ most_place → PutsFrom out out' at (xs ++ ys) r
puts_then {out} {mid} {out'} {at} {m} {r} {xs} {ys} p f h =
    let l : length mid ≤ most_place = omega (arith, from_size p) in
    let q : PutsFrom mid out' m ys r = f l in
    record {
      next = omega (arith, p.next, q.next, length-append xs ys);
      written = q.written ∙ ap (λ (i : ℕ). sets mid i ys) p.next ∙ sets_place mid (at + length xs) ys l
          ∙ ap (λ (o : List ℕ). sets o (at + length xs) ys) p.written ∙ sym (sets-append out at xs ys);
    }

-- a text that ends before the greatest place
pub whole : {out out' : List ℕ} {at r : ℕ} {text : List ℕ} → PutsFrom out out' at text r → at + length text ≤ most_place → Puts out out' at text r
whole p h = record { next = omega (arith, p.next); written = p.written }

pub puts_size : {out out' : List ℕ} {at r : ℕ} {text : List ℕ} → Puts out out' at text r → length out' ≡ length out
puts_size {out} {out'} {at} {r} {text} p = ap length p.written ∙ length-sets out at text

pub puts_as : {out out' : List ℕ} {at r : ℕ} {xs ys : List ℕ} → Puts out out' at xs r → xs ≡ ys → Puts out out' at ys r
puts_as {out} {out'} {at} {r} {xs} {ys} p e = record { next = p.next ∙ ap (λ (l : List ℕ). at + length l) e; written = p.written ∙ ap (sets out at) e }

-- stores beyond the end are none, however many
sets_cut : (l : List ℕ) (i : ℕ) (vs : List ℕ) (n : ℕ) → (n < length vs → length l ≤ i + n) → sets l i (take n vs) ≡ sets l i vs
sets_cut l i [] zero h = refl
sets_cut l i [] (suc n) h = refl
sets_cut l i (v ∷ vs) zero h = sym (sets_out l i (v ∷ vs) (omega arith))
sets_cut l i (v ∷ vs) (suc n) h = sets_cut (set l i v) (suc i) vs n (λ k. omega (arith, length-set l i v, h (omega arith)))

-- a text, as far as the output goes
pub part_put : {out text part : List ℕ} {at from n r : ℕ} → from ≡ min at (length out) → n ≡ min (length text) (length out - from) → part ≡ take n text → r ≡ min (at + length text) most_place → PutsFrom out (put_mid from (from + n - from) out part) at text r
part_put {out} {text} {part} {at} {from} {n} {r} e f g h =
    let long : length part ≡ from + n - from = ap length g ∙ length-take-le n text (omega arith) ∙ omega arith in
    record { next = h; written = part_sets out part from (from + n) (omega arith) (omega arith) long ∙ ap (sets out from) g ∙ go (dec_le at (length out)) } where
      go : Dec (at ≤ length out) → sets out from (take n text) ≡ sets out at text
      go (yes a) = let k : from ≡ at = omega arith in ap (λ (i : ℕ). sets out i (take n text)) k ∙ sets_cut out at text n (λ l. omega arith)
      go (no a) = let k : n ≡ 0 = omega arith in ap (λ (i : ℕ). sets out from (take i text)) k ∙ sym (sets_out out at text (omega arith))

-- ---- digit by digit
pub decimal_none : (out : List ℕ) (at n left : ℕ) → at ≤ most_place → left ≡ 0 → PutsFrom out out at (decimal_of left n) at
unfolding decimal_of
decimal_none out at n left h e = rw e (from_nil out at h)

pub decimal_last : {out out' : List ℕ} {at r : ℕ} (n left : ℕ) → (left ≡ 0 → ⊥) → n < 10 → PutsFrom out out' at ((48 + n % 10) ∷ []) r → PutsFrom out out' at (decimal_of left n) r
unfolding decimal_of
decimal_last n left h l p = let f : left ≡ suc (left - 1) = omega arith in rw (f, lt-ltb n 10 l) p

pub decimal_more : {out mid out' : List ℕ} {at m r : ℕ} (n left : ℕ) → (left ≡ 0 → ⊥) → 10 ≤ n → PutsFrom out mid at (decimal_of (left - 1) (n / 10)) m → PutsFrom mid out' m ((48 + n % 10) ∷ []) r → length out ≤ most_place → PutsFrom out out' at (decimal_of left n) r
unfolding decimal_of
decimal_more n left h l p q k = let f : left ≡ suc (left - 1) = omega arith in rw (f, le-ltb n 10 l) (puts_then p (λ w. q) k)

-- ---- how many digits
pub length_decimal : (left n : ℕ) → length (decimal_of left n) ≤ left
unfolding decimal_of
length_decimal zero n = omega arith
length_decimal (suc left) n = go (ltb n 10) (length_decimal left (n / 10)) where
  go : (t : Bool) → length (decimal_of left (n / 10)) ≤ left → length (cond t ((48 + n % 10) ∷ []) (decimal_of left (n / 10) ++ (48 + n % 10) ∷ [])) ≤ suc left
  go true h = omega arith
  go false h = omega (arith, length-append (decimal_of left (n / 10)) ((48 + n % 10) ∷ []))

-- a number below 10^(k + 1) has at most k + 1 digits
pub few_digits : (left k n : ℕ) → n < 10 ^ suc k → length (decimal_of left n) ≤ suc k
unfolding decimal_of
few_digits zero k n h = omega arith
few_digits (suc left) zero n h = let l : n < 10 = h in rw (lt-ltb n 10 l) (omega arith)
few_digits (suc left) (suc k) n h = go (ltb n 10) (few_digits left k (n / 10) ((div-lt_iff_lt-mul (lit< tt)).1 (lt_of_lt_of_le h (le_of_eq (pow-suc 10 (suc k))))))
  where
    go : (b : Bool) → length (decimal_of left (n / 10)) ≤ suc k → length (cond b ((48 + n % 10) ∷ []) (decimal_of left (n / 10) ++ (48 + n % 10) ∷ [])) ≤ suc (suc k)
    go true l = omega arith
    go false l = omega (arith, length-append (decimal_of left (n / 10)) ((48 + n % 10) ∷ []))
