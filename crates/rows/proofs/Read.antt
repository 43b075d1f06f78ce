-- The numbers of words or fields: how many, the first of them, and that each is finite. Assumes nothing.
use Prim.Native.Nat.{ℕ, zero, suc, ◌<◌}
use native.Mathlib.Omega.{arith}
use mathlib.Core.Path.{◌≡◌, refl, sym, ap, ◌∙◌}
use mathlib.Core.Bool.{Bool, true, false, cond, true≢false}
use mathlib.Core.List.{List, [], ◌∷◌}
use lib.ListN.{length, get_or}
use lib.Ieee.{Float, nan}
use lib.Ieee.Scale.{finite}
use Rattle.decimal.specs.Long.{read_long_of}
use Rattle.decimal.specs.declared.Token.{Token}
use Rattle.decimal.specs.declared.Token.TheVariants.{Number, NoNumber}
use Rattle.decimal.proofs.Finite.{token_finite, token_finite_lem}
use Rattle.text.specs.Text.{first_of}
use Rattle.rows.specs.declared.Notation.{Notation}
use Rattle.rows.specs.declared.Notation.TheVariants.{Short, Long}
use Rattle.rows.specs.Rows.{Numbers, all, none, finite_only, token_of, add_number, numbers}

abbrev list_in : Numbers → List Float
list_in (all xs) = xs
list_in none = []

abbrev pub is_all : Numbers → Bool
is_all (all xs) = true
is_all none = false

added : (t : Token) (ns : Numbers) (xs : List Float) (n : ℕ) → add_number t ns ≡ all xs → ((ys : List Float) → ns ≡ all ys → length ys ≡ n) → length xs ≡ suc n
unfolding add_number
added (Number x) (all ys) xs n h r = ap length (sym (ap list_in h)) ∙ ap suc (r ys refl)
added (Number x) none xs n h r = absurd (true≢false (sym (ap is_all h)))
added NoNumber (all ys) xs n h r = absurd (true≢false (sym (ap is_all h)))
added NoNumber none xs n h r = absurd (true≢false (sym (ap is_all h)))

added_first : (t : Token) (ns : Numbers) (xs : List Float) → add_number t ns ≡ all xs → t ≡ Number (get_or xs 0 nan)
unfolding add_number
added_first (Number x) (all ys) xs h = ap (λ (ms : Numbers). Number (get_or (list_in ms) 0 nan)) h
added_first (Number x) none xs h = absurd (true≢false (sym (ap is_all h)))
added_first NoNumber (all ys) xs h = absurd (true≢false (sym (ap is_all h)))
added_first NoNumber none xs h = absurd (true≢false (sym (ap is_all h)))

pub numbers_long : (notation : Notation) (ws : List (List ℕ)) (xs : List Float) → numbers notation ws ≡ all xs → length xs ≡ length ws
unfolding numbers
numbers_long notation [] xs h = ap length (sym (ap list_in h))
numbers_long notation (w ∷ ws) xs h = added (token_of notation w) (numbers notation ws) xs (length ws) h (numbers_long notation ws)

pub head_number : (notation : Notation) (ws : List (List ℕ)) (xs : List Float) → numbers notation ws ≡ all xs → 0 < length xs → token_of notation (first_of ws) ≡ Number (get_or xs 0 nan)
unfolding numbers first_of
head_number notation [] xs h l = absurd (omega (arith, ap (λ (ns : Numbers). length (list_in ns)) h))
head_number notation (w ∷ ws) xs h l = added_first (token_of notation w) (numbers notation ws) xs h

-- ---- each number that is read is finite
unfoldable pub Finite : Numbers → Type 0
Finite none = Unit {0}
Finite (all xs) = (i : ℕ) → i < length xs → finite (get_or xs i nan) ≡ true

added_finite : (t : Token) (ns : Numbers) → token_finite t ≡ true → Finite ns → Finite (add_number t ns)
unfolding Finite add_number
added_finite (Number x) (all xs) h k = each where
  each : (i : ℕ) → i < suc (length xs) → finite (get_or (x ∷ xs) i nan) ≡ true
  each zero l = h
  each (suc i) l = k i (omega arith)
added_finite (Number x) none h k = tt
added_finite NoNumber (all xs) h k = tt
added_finite NoNumber none h k = tt

only_finite : (t : Token) → token_finite (finite_only t) ≡ true
unfolding finite_only
only_finite NoNumber = refl
only_finite (Number x) = go (finite x) refl where
  go : (b : Bool) → finite x ≡ b → token_finite (cond b (Number x) NoNumber) ≡ true
  go true e = e
  go false e = refl

noted_finite : (notation : Notation) (w : List ℕ) → token_finite (token_of notation w) ≡ true
unfolding token_of
noted_finite Short w = token_finite_lem w
noted_finite Long w = only_finite (read_long_of w)

pub numbers_finite : (notation : Notation) (ws : List (List ℕ)) → Finite (numbers notation ws)
unfolding Finite numbers
numbers_finite notation [] = λ i l. absurd (omega arith)
numbers_finite notation (w ∷ ws) = added_finite (token_of notation w) (numbers notation ws) (noted_finite notation w) (numbers_finite notation ws)
