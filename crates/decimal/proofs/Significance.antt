-- At most 19 digits count, in both ways of saying it: the definition's, and zeros at the start and at the end taken off. Assumes nothing.
use mathlib.Core.Path.{◌≡◌, refl, sym, ap, ◌∙◌, subst}
use mathlib.Core.Bool.{Bool, true, false, cond}
use mathlib.Core.List.{List, [], ◌∷◌, ◌++◌, append-nil}
use Prim.Native.Nat.{ℕ, zero, suc, ◌≤◌}
use native.Mathlib.Omega.{arith}
use lib.Dec.{eqb}
use lib.ListN.{length, take, drop}
use Rattle.decimal.specs.Long.{most_significant, from_first, are_zeros, few_count}
use Rattle.decimal.specs.Form.{Significant}
use Rattle.decimal.proofs.Parts.{first_of, second_of}

-- ---- zeros at the start
zeros_off : (xs ys : List ℕ) → are_zeros xs ≡ true → from_first (xs ++ ys) ≡ from_first ys
unfolding are_zeros from_first
zeros_off [] ys h = refl
zeros_off (x ∷ xs) ys h =
    ap (λ (t : Bool). cond t (from_first (xs ++ ys)) (x ∷ (xs ++ ys))) (first_of (eqb x 48) (are_zeros xs) h) ∙ zeros_off xs ys (second_of (eqb x 48) (are_zeros xs) h)

-- ---- past a number of digits there are zeros only
past_zeros : (n : ℕ) (l : List ℕ) → are_zeros l ≡ true → are_zeros (drop n l) ≡ true
unfolding are_zeros
past_zeros zero l h = h
past_zeros (suc n) [] h = refl
past_zeros (suc n) (x ∷ l) h = past_zeros n l (second_of (eqb x 48) (are_zeros l) h)

past_few : (n : ℕ) (xs ys : List ℕ) → length xs ≤ n → are_zeros ys ≡ true → are_zeros (drop n (xs ++ ys)) ≡ true
past_few n [] ys h z = past_zeros n ys z
past_few zero (x ∷ xs) ys h z = absurd (never (length xs) h)
  where
    never : (k : ℕ) → suc k ≤ 0 → ⊥
    never k h = omega arith
past_few (suc n) (x ∷ xs) ys h z = past_few n xs ys (omega arith) z

zeros_first : (l : List ℕ) → are_zeros l ≡ true → from_first l ≡ []
unfolding from_first
zeros_first l h = ap from_first (sym (append-nil l)) ∙ zeros_off l [] h

no_zeros : are_zeros [] ≡ true
unfolding are_zeros
no_zeros = refl

first_few : (n : ℕ) (xs ys : List ℕ) → length xs ≤ n → are_zeros ys ≡ true → are_zeros (drop n (from_first (xs ++ ys))) ≡ true
unfolding from_first
first_few n [] ys h z = subst (λ (l : List ℕ). are_zeros (drop n l) ≡ true) (sym (zeros_first ys z)) (past_zeros n [] no_zeros)
first_few n (x ∷ xs) ys h z = go (eqb x 48) (first_few n xs ys (omega arith) z)
  where
    go : (t : Bool) → are_zeros (drop n (from_first (xs ++ ys))) ≡ true → are_zeros (drop n (cond t (from_first (xs ++ ys)) (x ∷ (xs ++ ys)))) ≡ true
    go true k = k
    go false k = past_few n (x ∷ xs) ys h z

pub few_of : (ds : List ℕ) → Significant ds → few_count ds ≡ true
few_of ds s =
    ap (λ (l : List ℕ). are_zeros (drop most_significant (from_first l))) s.is
    ∙ ap (λ (l : List ℕ). are_zeros (drop most_significant l)) (zeros_off s.first (s.mid ++ s.last) s.zeros.0)
    ∙ first_few most_significant s.mid s.last s.few s.zeros.1

-- ---- and back
record Leading (ds : List ℕ) : Type 0 where
  pub zeros : List ℕ
  pub all : are_zeros zeros ≡ true
  pub is : ds ≡ zeros ++ from_first ds

leading : (ds : List ℕ) → Leading ds
unfolding are_zeros from_first
leading [] = record { zeros = []; all = refl; is = refl }
leading (x ∷ ds) = go (eqb x 48) refl (leading ds)
  where
    go : (t : Bool) → eqb x 48 ≡ t → Leading ds → Leading (x ∷ ds)
    go true e l =
        record {
          zeros = x ∷ l.zeros;
          all = simp (e, l.all);
          is = ap (λ (r : List ℕ). x ∷ r) l.is ∙ ap (λ (t : Bool). x ∷ (l.zeros ++ cond t (from_first ds) (x ∷ ds))) (sym e);
        }
    go false e l = record { zeros = []; all = refl; is = ap (λ (t : Bool). cond t (from_first ds) (x ∷ ds)) (sym e) }

split : (n : ℕ) (l : List ℕ) → (l ≡ take n l ++ drop n l) × (length (take n l) ≤ n)
split zero l = (refl, omega arith)
split (suc n) [] = (refl, omega arith)
split (suc n) (x ∷ l) = let s = split n l in (ap (λ (r : List ℕ). x ∷ r) s.0, omega (arith, s.1))

pub of_few : (ds : List ℕ) → few_count ds ≡ true → Significant ds
of_few ds h =
    let l = leading ds in
    let s = split most_significant (from_first ds) in
    record {
      first = l.zeros;
      mid = take most_significant (from_first ds);
      last = drop most_significant (from_first ds);
      is = l.is ∙ ap (λ (r : List ℕ). l.zeros ++ r) s.0;
      zeros = (l.all, h);
      few = s.1;
    }

-- as few digits as that
pub few_digits : (ds : List ℕ) → length ds ≤ most_significant → Significant ds
unfolding are_zeros
few_digits ds h = record { first = []; mid = ds; last = []; is = sym (append-nil ds); zeros = (refl, refl); few = h }
