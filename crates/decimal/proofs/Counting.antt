-- Digits counted one after the other: zeros at the start do not count, and after the 19th none but zeros. Assumes nothing.
use mathlib.Core.Path.{◌≡◌, refl, sym, ap, ◌∙◌, subst}
use mathlib.Core.Bool.{Bool, true, false, cond, ◌&&◌, and_assoc, and-false}
use mathlib.Core.List.{List, [], ◌∷◌, ◌++◌}
use Prim.Native.Nat.{ℕ, zero, suc, ◌+◌, ◌-◌, ◌*◌, ◌^◌, ◌≤◌, ◌<◌}
use native.Mathlib.Nat.{lt_irrefl, lt_of_not-le}
use native.Mathlib.Decide.{dec_le}
use native.Mathlib.Omega.{arith}
use lib.Dec.{eqb}
use lib.ListN.{length, drop, length-append}
use lib.Pow.{pow-add}
use borrow.Author.Tests.{eq-eqb, ne_eqb, eqb-true}
use Rattle.decimal.specs.Decimal.{value_after}
use Rattle.decimal.specs.Long.{most_significant, from_first, are_zeros, few_count}
use Rattle.decimal.specs.inner.Counted.{Counts}
use Rattle.decimal.proofs.Parts.{value_split}

-- ---- lists
pub empty : (l : List ℕ) → length l ≡ 0 → l ≡ []
empty [] e = refl
empty (x ∷ l) e = absurd (none (length l) e)
  where
    none : (n : ℕ) → suc n ≡ 0 → ⊥
    none n e = omega arith

drop_all : (n : ℕ) (l : List ℕ) → length l ≤ n → drop n l ≡ []
drop_all zero l h = empty l (omega arith)
drop_all (suc n) [] h = refl
drop_all (suc n) (x ∷ l) h = drop_all n l (omega arith)

drop_more : (n : ℕ) (l r : List ℕ) → n ≤ length l → drop n (l ++ r) ≡ drop n l ++ r
drop_more zero l r h = refl
drop_more (suc n) [] r h = absurd (none n h)
  where
    none : (x : ℕ) → suc x ≤ 0 → ⊥
    none x h = omega arith
drop_more (suc n) (x ∷ l) r h = drop_more n l r (omega arith)

zeros_more : (l r : List ℕ) → are_zeros (l ++ r) ≡ (are_zeros l && are_zeros r)
unfolding are_zeros
zeros_more [] r = refl
zeros_more (x ∷ l) r = ap (λ (t : Bool). eqb x 48 && t) (zeros_more l r) ∙ sym (and_assoc (eqb x 48) (are_zeros l) (are_zeros r))

-- ---- from the first that is not '0'
first_more : (ds : List ℕ) (b : ℕ) → (from_first ds ≡ [] → eqb b 48 ≡ false) → from_first (ds ++ (b ∷ [])) ≡ from_first ds ++ (b ∷ [])
unfolding from_first
first_more [] b h = ap (λ (t : Bool). cond t [] (b ∷ [])) (h refl)
first_more (x ∷ ds) b h = go (eqb x 48) h (first_more ds b)
  where
    go : (t : Bool) → (cond t (from_first ds) (x ∷ ds) ≡ [] → eqb b 48 ≡ false) → ((from_first ds ≡ [] → eqb b 48 ≡ false) → from_first (ds ++ (b ∷ [])) ≡ from_first ds ++ (b ∷ [])) → cond t (from_first (ds ++ (b ∷ []))) (x ∷ (ds ++ (b ∷ []))) ≡ cond t (from_first ds) (x ∷ ds) ++ (b ∷ [])
    go true k f = f k
    go false k f = refl

pub no_cons : (x : ℕ) (l : List ℕ) → x ∷ l ≡ [] → ⊥
no_cons x l e = none (length l) (ap length e)
  where
    none : (n : ℕ) → suc n ≡ 0 → ⊥
    none n e = omega arith

first_none : (ds : List ℕ) → from_first ds ≡ [] → from_first (ds ++ (48 ∷ [])) ≡ []
unfolding from_first
first_none [] h = refl
first_none (x ∷ ds) h = go (eqb x 48) h (first_none ds)
  where
    go : (t : Bool) → cond t (from_first ds) (x ∷ ds) ≡ [] → (from_first ds ≡ [] → from_first (ds ++ (48 ∷ [])) ≡ []) → cond t (from_first (ds ++ (48 ∷ []))) (x ∷ (ds ++ (48 ∷ []))) ≡ []
    go true k f = f k
    go false k f = absurd (no_cons x ds k)

value_none : (ds : List ℕ) → from_first ds ≡ [] → value_after 0 ds ≡ 0
unfolding from_first value_after
value_none [] h = refl
value_none (x ∷ ds) h = go (eqb x 48) refl h (value_none ds)
  where
    go : (t : Bool) → eqb x 48 ≡ t → cond t (from_first ds) (x ∷ ds) ≡ [] → (from_first ds ≡ [] → value_after 0 ds ≡ 0) → value_after (0 * 10 + (x - 48)) ds ≡ 0
    go true e k f = ap (λ (y : ℕ). value_after (0 * 10 + (y - 48)) ds) (eqb-true x 48 e) ∙ f k
    go false e k f = absurd (no_cons x ds k)

pub value_more : (ds : List ℕ) (b : ℕ) → value_after 0 (ds ++ (b ∷ [])) ≡ value_after 0 ds * 10 + (b - 48)
unfolding value_after
value_more ds b = value_split 0 ds (b ∷ [])

-- not nothing
some : (l : List ℕ) → 0 < length l → l ≡ [] → ⊥
some l h e = lt_irrefl 0 (subst (λ (r : List ℕ). 0 < length r) e h)

-- ---- whether few count
few_short : (ds : List ℕ) → length (from_first ds) ≤ most_significant → few_count ds ≡ true
unfolding are_zeros
few_short ds h = ap are_zeros (drop_all most_significant (from_first ds) h)

-- with one more after the 19th
module _ (ds : List ℕ) (b : ℕ) (h : most_significant ≤ length (from_first ds)) where
  few_next : few_count (ds ++ (b ∷ [])) ≡ (few_count ds && eqb b 48)
  unfolding are_zeros
  few_next =
      ap (λ (l : List ℕ). are_zeros (drop most_significant l)) (first_more ds b (λ (e : from_first ds ≡ []). absurd (some (from_first ds) (low (length (from_first ds)) h) e)))
      ∙ ap are_zeros (drop_more most_significant (from_first ds) (b ∷ []) h)
      ∙ zeros_more (drop most_significant (from_first ds)) (b ∷ [])
      ∙ ap (λ (t : Bool). few_count ds && t) (last (eqb b 48))
    where
      low : (n : ℕ) → most_significant ≤ n → 0 < n
      low n g = omega arith

      last : (t : Bool) → (t && true) ≡ t
      last true = refl
      last false = refl

-- more than 19 stay more
more_stays : (ds : List ℕ) (b : ℕ) → few_count ds ≡ false → few_count (ds ++ (b ∷ [])) ≡ false
more_stays ds b e = go (dec_le most_significant (length (from_first ds)))
  where
    under : (n : ℕ) → n < most_significant → n ≤ most_significant
    under n g = omega arith

    clash : true ≡ false → ⊥
    clash e = let z : ◌≡◌ {A = ℕ} 0 1 = cc in omega arith

    go : Dec (most_significant ≤ length (from_first ds)) → few_count (ds ++ (b ∷ [])) ≡ false
    go (yes h) = few_next ds b h ∙ ap (λ (t : Bool). t && eqb b 48) e
    go (no f) = absurd (clash (sym (few_short ds (under (length (from_first ds)) (lt_of_not-le f))) ∙ e))

-- ---- no digit yet
pub counts_nothing : Counts [] 0 0 0
unfolding value_after from_first
counts_nothing =
    record {
      few = λ (h : 0 ≤ most_significant). record { is = refl; long = refl; plain = λ (g : 0 < most_significant). refl; fits = few_short [] (omega arith) };
      more = λ (h : most_significant < 0). absurd (never h);
    }
  where
    never : most_significant < 0 → ⊥
    never h = omega arith

-- ---- one more digit b after ds
module _ (ds : List ℕ) (b v c z : ℕ) (k : Counts ds v c z) where
  abbrev ds' : List ℕ
  ds' = ds ++ (b ∷ [])

  longer : (n : ℕ) → from_first ds' ≡ from_first ds ++ (b ∷ []) → length (from_first ds) ≡ n → length (from_first ds') ≡ n + 1
  longer n e h = ap length e ∙ length-append (from_first ds) (b ∷ []) ∙ ap (λ (x : ℕ). x + 1) h

  -- a zero at the start
  pub counts_lead : c ≡ 0 → b ≡ 48 → Counts ds' v c z
  counts_lead e f =
      record {
        few = λ (h : c ≤ most_significant).
            let o = k.few h in
            let zero_z : z ≡ 0 = o.plain (omega arith) in
            let none : from_first ds ≡ [] = empty (from_first ds) (o.long ∙ (omega arith)) in
            let still : from_first ds' ≡ [] = ap (λ (x : ℕ). from_first (ds ++ (x ∷ []))) f ∙ first_none ds none in
            record {
              is = value_none ds' still ∙ sym (value_none ds none) ∙ o.is;
              long = ap length still ∙ sym (ap length none) ∙ o.long;
              plain = o.plain;
              fits = few_short ds' (le_of_eq' still);
            };
        more = λ (h : most_significant < c). absurd (high c e h);
      }
    where
      high : (x : ℕ) → x ≡ 0 → most_significant < x → ⊥
      high x e g = omega arith

      le_of_eq' : {l : List ℕ} → l ≡ [] → length l ≤ most_significant
      le_of_eq' {l} e = subst (λ (r : List ℕ). length r ≤ most_significant) (sym e) (omega arith)

  -- one of the first 19
  pub counts_digit : c < most_significant → (c ≡ 0 → b ≡ 48 → ⊥) → Counts ds' (v * 10 + (b - 48)) (c + 1) z
  counts_digit h f =
      record {
        few = λ (g : c + 1 ≤ most_significant).
            let o = k.few (omega arith) in
            let zero_z : z ≡ 0 = o.plain h in
            let l : length (from_first ds) ≡ c = o.long ∙ (omega arith) in
            let e : from_first ds' ≡ from_first ds ++ (b ∷ []) = first_more ds b (λ (n : from_first ds ≡ []). ne_eqb b 48 (f (sym l ∙ ap length n))) in
            let n = longer c e l in
            record {
              is = value_more ds b ∙ ap (λ (x : ℕ). x * 10 + (b - 48)) (o.is ∙ ap (λ (x : ℕ). v * 10 ^ x) zero_z) ∙ plainly v (b - 48) ∙ ap (λ (x : ℕ). (v * 10 + (b - 48)) * 10 ^ x) (sym zero_z);
              long = n ∙ (omega arith);
              plain = λ (g : c + 1 < most_significant). zero_z;
              fits = few_short ds' (omega arith);
            };
        more = λ (g : most_significant < c + 1). absurd (high c h g);
      }
    where
      plainly : (x y : ℕ) → x * 1 * 10 + y ≡ (x * 10 + y) * 1
      plainly x y = omega arith

      high : (x : ℕ) → x < most_significant → most_significant < x + 1 → ⊥
      high x h g = omega arith

  -- a zero after the 19th
  pub counts_zero : most_significant ≤ c → b ≡ 48 → Counts ds' v c (z + 1)
  counts_zero h e =
      record {
        few = λ (g : c ≤ most_significant).
            let o = k.few g in
            let l : most_significant ≤ length (from_first ds) = omega (arith, o.long) in
            record {
              is = value_more ds b ∙ ap (λ (x : ℕ). value_after 0 ds * 10 + (x - 48)) e ∙ ap (λ (x : ℕ). x * 10 + 0) o.is ∙ tenth v (10 ^ z) ∙ ap (λ (x : ℕ). v * x) (sym (pow-add 10 z 1));
              long = longer (c + z) (first_more ds b (λ (n : from_first ds ≡ []). absurd (some (from_first ds) (omega arith) n))) o.long ∙ (omega arith);
              plain = λ (q : c < most_significant). absurd (low c h q);
              fits = few_next ds b l ∙ ap (λ (t : Bool). t && eqb b 48) o.fits ∙ eq-eqb b 48 e;
            };
        more = λ (g : most_significant < c). more_stays ds b (k.more g);
      }
    where
      tenth : (x y : ℕ) → x * y * 10 + 0 ≡ x * (y * 10)
      tenth x y = omega arith

      low : (x : ℕ) → most_significant ≤ x → x < most_significant → ⊥
      low x h g = omega arith

  -- another after the 19th
  pub counts_over : most_significant ≤ c → (b ≡ 48 → ⊥) → Counts ds' v (most_significant + 1) z
  counts_over h f =
      record {
        few = λ (g : most_significant + 1 ≤ most_significant). absurd (never g);
        more = λ (g : most_significant < most_significant + 1). go (dec_le c most_significant);
      }
    where
      never : most_significant + 1 ≤ most_significant → ⊥
      never g = omega arith

      go : Dec (c ≤ most_significant) → few_count ds' ≡ false
      go (yes g) =
          let o = k.few g in
          let l : most_significant ≤ length (from_first ds) = omega (arith, o.long) in
          few_next ds b l ∙ ap (λ (t : Bool). few_count ds && t) (ne_eqb b 48 f) ∙ and-false (few_count ds)
      go (no g) = more_stays ds b (k.more (lt_of_not-le g))
