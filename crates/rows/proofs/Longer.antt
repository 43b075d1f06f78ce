-- What is read in the short notation is read in the long one, and the same. Assumes nothing.
use Prim.Native.Nat.{ℕ}
use mathlib.Core.Path.{◌≡◌, refl, sym, ap, ap₂, ◌∙◌}
use mathlib.Core.Bool.{true, true≢false}
use mathlib.Core.List.{List, [], ◌∷◌}
use lib.Ieee.{Float}
use lib.Ieee.Scale.{finite}
use Rattle.decimal.specs.declared.Token.{Token}
use Rattle.decimal.specs.declared.Token.TheVariants.{Number, NoNumber}
use Rattle.decimal.proofs.Finite.{token_finite, token_finite_lem}
use Rattle.decimal.proofs.Theorems.{same_number}
use Rattle.rows.specs.declared.Notation.TheVariants.{Short, Long}
use Rattle.rows.specs.Rows.{Numbers, all, none, finite_only, token_of, add_number, numbers}
use Rattle.rows.proofs.Read.{is_all}

only_same : (x : Float) → finite x ≡ true → finite_only (Number x) ≡ Number x
unfolding finite_only
only_same x h = rw h

token_same : (w : List ℕ) (x : Float) → token_of Short w ≡ Number x → token_of Long w ≡ Number x
unfolding token_of
token_same w x e = ap finite_only (same_number w x e) ∙ only_same x (sym (ap token_finite e) ∙ token_finite_lem w)

add_same : (t : Token) (u : Token) (ns ms : Numbers) (xs : List Float) → ((x : Float) → t ≡ Number x → u ≡ Number x) → ((ys : List Float) → ns ≡ all ys → ms ≡ all ys)
    → add_number t ns ≡ all xs → add_number u ms ≡ all xs
unfolding add_number
add_same (Number x) u (all ys) ms xs f g h = ap₂ add_number (f x refl) (g ys refl) ∙ h
add_same (Number x) u none ms xs f g h = absurd (true≢false (sym (ap is_all h)))
add_same NoNumber u (all ys) ms xs f g h = absurd (true≢false (sym (ap is_all h)))
add_same NoNumber u none ms xs f g h = absurd (true≢false (sym (ap is_all h)))

pub numbers_same : (ws : List (List ℕ)) (xs : List Float) → numbers Short ws ≡ all xs → numbers Long ws ≡ all xs
unfolding numbers
numbers_same [] xs h = h
numbers_same (w ∷ ws) xs h = add_same (token_of Short w) (token_of Long w) (numbers Short ws) (numbers Long ws) xs (token_same w) (numbers_same ws) h
