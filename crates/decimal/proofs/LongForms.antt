-- Bytes that are not of the long form are read as no number: any bytes are taken apart, and make a form or none (`form_or_none`). Assumes nothing.
use mathlib.Core.Path.{◌≡◌, refl, sym, ap, ◌∙◌, subst}
use mathlib.Core.Logic.{◌⊎◌, inl, inr}
use mathlib.Core.Bool.{Bool, true, false, cond, ◌&&◌}
use mathlib.Core.List.{List, [], ◌∷◌, ◌++◌, append-nil}
use Prim.Native.Nat.{ℕ, ◌+◌, ◌*◌, ◌^◌, ◌<◌}
use lib.Dec.{eqb, leb}
use lib.ListN.{length}
use lib.Ieee.{binary32, round}
use borrow.Author.Tests.{leb-true, eqb-true}
use Rattle.decimal.specs.declared.Token.TheVariants.{Number, NoNumber}
use Rattle.decimal.specs.Decimal.{is_digit, are_digits, value_after}
use Rattle.decimal.specs.Long.{is_minus, past_sign, first_digits, past_digits, few_count, is_mark, long_number, with_power, after_digits, after_whole, read_long_of}
use Rattle.decimal.specs.Form.{Sign, none, plus, minus, Rest, nothing, point, Power, unmoved, raised, lowered, Significant, LongForm}
use Rattle.decimal.proofs.Significance.{of_few}
use Rattle.decimal.proofs.LongAfter.{no_point, a_point}
use Rattle.decimal.proofs.LongGrammar.{begun, power_read}

-- ---- the other way: any bytes are a sign or none and what follows it
record Signed (s : List ℕ) (neg : Bool) (u : List ℕ) : Type 0 where
  pub sign : List ℕ
  pub signed : Sign sign neg
  pub is : s ≡ sign ++ u

sign_parts : (s : List ℕ) → Signed s (is_minus s) (past_sign s)
sign_parts [] = record { sign = []; signed = none; is = refl }
sign_parts (b ∷ bs) = go (eqb b 45) (eqb b 43) refl refl
  where
    go : (t u : Bool) → eqb b 45 ≡ t → eqb b 43 ≡ u → Signed (b ∷ bs) t (cond t bs (cond u bs (b ∷ bs)))
    go true u e f = record { sign = 45 ∷ []; signed = minus; is = ap (λ (x : ℕ). x ∷ bs) (eqb-true b 45 e) }
    go false true e f = record { sign = 43 ∷ []; signed = plus; is = ap (λ (x : ℕ). x ∷ bs) (eqb-true b 43 f) }
    go false false e f = record { sign = []; signed = none; is = refl }

-- digits and what follows them
run_parts : (u : List ℕ) → u ≡ first_digits u ++ past_digits u
unfolding first_digits past_digits
run_parts [] = refl
run_parts (b ∷ bs) = go (is_digit b) (run_parts bs)
  where
    go : (t : Bool) → bs ≡ first_digits bs ++ past_digits bs → b ∷ bs ≡ cond t (b ∷ first_digits bs) [] ++ cond t (past_digits bs) (b ∷ bs)
    go true e = ap (λ (l : List ℕ). b ∷ l) e
    go false e = refl

run_digits : (u : List ℕ) → are_digits (first_digits u) ≡ true
unfolding first_digits are_digits
run_digits [] = refl
run_digits (b ∷ bs) = go (is_digit b) refl (run_digits bs)
  where
    go : (t : Bool) → is_digit b ≡ t → are_digits (first_digits bs) ≡ true → are_digits (cond t (b ∷ first_digits bs) []) ≡ true
    go true e h = simp (e, h)
    go false e h = refl

-- a point or none
record Tail (neg : Bool) (whole r : List ℕ) : Type 0 where
  pub rest : List ℕ
  pub after : List ℕ
  pub power : List ℕ
  pub ends : Rest rest after
  pub is : r ≡ rest ++ power
  pub digits : are_digits after ≡ true
  pub reads : after_whole neg whole r ≡ after_digits neg (whole ++ after) (length after) power

tail : (neg : Bool) (whole r : List ℕ) → Tail neg whole r
unfolding are_digits
tail neg whole [] = record { rest = []; after = []; power = []; ends = nothing; is = refl; digits = refl; reads = no_point neg whole [] refl ∙ ap (λ (l : List ℕ). after_digits neg l 0 []) (sym (append-nil whole)) }
tail neg whole (b ∷ bs) = go (eqb b 46) refl
  where
    go : (t : Bool) → eqb b 46 ≡ t → Tail neg whole (b ∷ bs)
    go true e =
        record {
          rest = b ∷ first_digits bs;
          after = first_digits bs;
          power = past_digits bs;
          ends = subst (λ (x : ℕ). Rest (x ∷ first_digits bs) (first_digits bs)) (sym (eqb-true b 46 e)) point;
          is = ap (λ (l : List ℕ). b ∷ l) (run_parts bs);
          digits = run_digits bs;
          reads = a_point neg whole b bs e;
        }
    go false e =
        record { rest = []; after = []; power = b ∷ bs; ends = nothing; is = refl; digits = refl; reads = no_point neg whole (b ∷ bs) e ∙ ap (λ (l : List ℕ). after_digits neg l 0 (b ∷ bs)) (sym (append-nil whole)) }

-- a power or none
abbrev SomePower : List ℕ → Type 0
SomePower p = (up : ℕ) × (lower : ℕ) × Power p up lower

power_or_none : (neg : Bool) (ds : List ℕ) (k : ℕ) (p : List ℕ) → SomePower p ⊎ (after_digits neg ds k p ≡ NoNumber)
unfolding after_digits with_power
power_or_none neg ds k [] = inl (0, 0, unmoved)
power_or_none neg ds k (b ∷ bs) = go (is_mark b) (leb 1 (length es)) (are_digits es) refl refl refl
  where
    es : List ℕ
    es = past_sign bs

    made : is_mark b ≡ true → leb 1 (length es) ≡ true → are_digits es ≡ true → SomePower (b ∷ bs)
    made m l d = by_sign (is_minus bs) (sign_parts bs)
      where
        by_sign : (t : Bool) → Signed bs t es → SomePower (b ∷ bs)
        by_sign true g = (0, value_after 0 es, subst (λ (r : List ℕ). Power (b ∷ r) 0 (value_after 0 es)) (sym g.is) (lowered es m g.signed d (leb-true 1 (length es) l)))
        by_sign false g = (value_after 0 es, 0, subst (λ (r : List ℕ). Power (b ∷ r) (value_after 0 es) 0) (sym g.is) (raised es m g.signed d (leb-true 1 (length es) l)))

    go : (m l d : Bool) → is_mark b ≡ m → leb 1 (length es) ≡ l → are_digits es ≡ d → SomePower (b ∷ bs) ⊎ (cond m (cond (l && d) (cond (is_minus bs) (long_number neg ds 0 (k + value_after 0 es)) (long_number neg ds (value_after 0 es) k)) NoNumber) NoNumber ≡ NoNumber)
    go false l d e f g = inr refl
    go true false d e f g = inr refl
    go true true false e f g = inr refl
    go true true true e f g = inl (made e f g)

-- digits enough, and few enough that count
counted : (neg : Bool) (ds : List ℕ) (up down : ℕ) → ((0 < length ds) × Significant ds) ⊎ (long_number neg ds up down ≡ NoNumber)
unfolding long_number
counted neg ds up down = go (leb 1 (length ds)) (few_count ds) refl refl
  where
    go : (l f : Bool) → leb 1 (length ds) ≡ l → few_count ds ≡ f → ((0 < length ds) × Significant ds) ⊎ (cond (l && f) (Number (round binary32 neg (value_after 0 ds * 10 ^ up) (10 ^ down))) NoNumber ≡ NoNumber)
    go false f d e = inr refl
    go true false d e = inr refl
    go true true d e = inl (leb-true 1 (length ds) d, of_few ds e)

-- of some sign, digits and places
abbrev pub SomeLong : List ℕ → Type 0
SomeLong s = (neg : Bool) × (d : ℕ) × (up : ℕ) × (down : ℕ) × LongForm s neg d up down

module _ (s : List ℕ) where
  abbrev neg : Bool
  neg = is_minus s

  abbrev before : List ℕ
  before = first_digits (past_sign s)

  parts : Tail neg before (past_digits (past_sign s))
  parts = tail neg before (past_digits (past_sign s))

  abbrev ds : List ℕ
  ds = before ++ parts.after

  reads : read_long_of s ≡ after_digits neg ds (length parts.after) parts.power
  reads = begun s neg (past_sign s) refl refl ∙ parts.reads

  made : (p : SomePower parts.power) → 0 < length ds → Significant ds → LongForm s neg (value_after 0 ds) p.0 (length parts.after + p.1)
  made p h f =
      let g = sign_parts s in
      let u = past_sign s in
      record {
        sign = g.sign;
        before = before;
        rest = parts.rest;
        after = parts.after;
        power = parts.power;
        lower = p.1;
        signed = g.signed;
        ends = parts.ends;
        moved = p.2;
        is = g.is ∙ ap (λ (l : List ℕ). g.sign ++ l) (run_parts u) ∙ ap (λ (l : List ℕ). g.sign ++ (before ++ l)) parts.is;
        digits = (run_digits u, parts.digits);
        some = h;
        few = f;
        value = refl;
        places = refl;
      }

  pub form_or_none : SomeLong s ⊎ (read_long_of s ≡ NoNumber)
  form_or_none =
      elim (power_or_none neg ds (length parts.after) parts.power) [
        | inr h ↦ inr (reads ∙ h)
        | inl p ↦ with_power_lem p
      ]
    where
      with_power_lem : SomePower parts.power → SomeLong s ⊎ (read_long_of s ≡ NoNumber)
      with_power_lem p =
          elim (counted neg ds p.0 (length parts.after + p.1)) [
            | inl c ↦ inl (neg, value_after 0 ds, p.0, length parts.after + p.1, made p c.0 c.1)
            | inr h ↦ inr (reads ∙ power_read neg ds (length parts.after) p.2 ∙ h)
          ]
