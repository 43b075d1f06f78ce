-- What is known of a token's reading beyond what `read` and `read_long` ensure: the laws to cite. Assumes nothing.
use mathlib.Core.Path.{◌≡◌, sym, ap, ◌∙◌, subst}
use mathlib.Core.Logic.{◌⊎◌, inl, inr}
use mathlib.Core.Bool.{Bool}
use mathlib.Core.List.{List}
use Prim.Native.Nat.{ℕ, ◌+◌, ◌*◌, ◌^◌, ◌≤◌, ◌<◌, zero-le}
use native.Mathlib.Nat.{lt_of_lt_of_le, mul-le-mul_left, mul-one}
use native.Mathlib.Omega.{arith}
use lib.Dec.{T, lit≤}
use lib.IntN.{ℤ}
use lib.Ieee.{Float, fin, binary32, round, fits}
use Rattle.decimal.specs.declared.Token.{Token}
use Rattle.decimal.specs.declared.Token.TheVariants.{Number, NoNumber}
use Rattle.decimal.specs.Decimal.{read_of}
use Rattle.decimal.specs.Long.{read_long_of}
use Rattle.decimal.specs.Form.{Form, LongForm}
use Rattle.float.specs.Units.{Sized}
use Rattle.decimal.specs.Nearest.{far, IsNearest, past, Rounded}
use Rattle.decimal.specs.Means.{Means, written, other, Short, short, Long, long}
use Rattle.decimal.proofs.Grammar as grammar
use Rattle.decimal.proofs.IsNearest as nearest
use Rattle.decimal.proofs.LongForms as long_forms
use Rattle.decimal.proofs.LongGrammar as long_grammar
use Rattle.decimal.proofs.OneForm as form
use Rattle.decimal.proofs.Scale.{ten_le}
use Rattle.float.proofs.Units as units

small : {s : List ℕ} {neg : Bool} {d k : ℕ} → Form s neg d k → d < past * 10 ^ k
small {k = k} f = lt_of_lt_of_le (lt_of_lt_of_le (grammar.form_small f) (lit≤ {n = past * 1} tt)) (mul-le-mul_left past (ten_le 0 k zero-le))

-- ---- bytes of the form are the nearest f32 to the number that they write, a tie to the even one
pub decimal_is_nearest : {s : List ℕ} {neg : Bool} {d k : ℕ} → Form s neg d k → (r : Float) × (read_of s ≡ Number r) × IsNearest neg d (10 ^ k) r
decimal_is_nearest {neg = neg} {d = d} {k = k} f = (round binary32 neg d (10 ^ k), grammar.grammar f, nearest.round_is_nearest neg d (10 ^ k) (ten_le 0 k zero-le) (small f))

-- and nothing else is
pub decimal_is_only : {s : List ℕ} {neg : Bool} {d k : ℕ} → Form s neg d k → (r : Float) → IsNearest neg d (10 ^ k) r → read_of s ≡ Number r
decimal_is_only {neg = neg} {d = d} {k = k} f r i = grammar.grammar f ∙ ap Number (sym (nearest.nearest_is_round neg d (10 ^ k) (ten_le 0 k zero-le) (small f) r i))

-- `IsNearest` asks of every finite f32 of the sign, since each is a number of units
pub all_sized : (s : Bool) (m : ℕ) (e : ℤ) → T (fits binary32 (fin s m e)) → (c : ℕ) × Sized (fin s m e) s c
all_sized = units.sized

-- no f32 of the other sign is nearer: c units on the other side of zero
pub none_across : {neg : Bool} {d p : ℕ} {r : Float} (i : IsNearest neg d p r) (c : ℕ) → far d p i.count ≤ c * p + d * 2 ^ 149
none_across = nearest.none_across

-- ---- what is read as a number is of the form
pub only_numbers : (s : List ℕ) (x : Float) → read_of s ≡ Number x → (neg : Bool) × (d : ℕ) × (k : ℕ) × Form s neg d k × (x ≡ round binary32 neg d (10 ^ k))
only_numbers = grammar.only_numbers

-- and of one form only
pub one_form : {s : List ℕ} {neg sgn : Bool} {d e k l : ℕ} → Form s neg d k → Form s sgn e l → (neg ≡ sgn) × (d ≡ e) × (k ≡ l)
one_form = form.one_form

-- ---- all of it, by either rule: for bytes that write a number what it is rounded to, and for others that they are no number
module _ (read : List ℕ → Token) (Writes : List ℕ → Bool → ℕ → ℕ → Type 0)
    (some : (s : List ℕ) (neg : Bool) (d p : ℕ) → Writes s neg d p → 0 < p)
    (is : (s : List ℕ) (neg : Bool) (d p : ℕ) → Writes s neg d p → read s ≡ Number (round binary32 neg d p))
    (either : (s : List ℕ) → ((neg : Bool) × (d : ℕ) × (p : ℕ) × Writes s neg d p) ⊎ (read s ≡ NoNumber)) where
  apart : (s : List ℕ) (r : Float) → read s ≡ NoNumber → read s ≡ Number r → ⊥
  apart s r h k = let z : ◌≡◌ {A = ℕ} 0 1 = cc in omega arith

  pub token_means : (s : List ℕ) (t : Token) → t ≡ read s → Means (Writes s) t
  token_means s t e =
      subst (Means (Writes s)) (sym e)
      (elim (either s) [
        | inl f ↦ subst (Means (Writes s)) (sym (is s f.0 f.1 f.2 f.3)) (written f.3 (nearest.round_is_rounded f.0 f.1 f.2 (some s f.0 f.1 f.2 f.3)))
        | inr h ↦ subst (Means (Writes s)) (sym h) (other (λ neg d p w. apart s (round binary32 neg d p) h (is s neg d p w)))
      ])

  -- and it is the only token that the bytes mean
  pub only_token : (s : List ℕ) (t : Token) → Means (Writes s) t → t ≡ read s
  only_token s (Number r) (written {neg = neg} {d = d} {p = p} w i) = ap Number (nearest.rounded_is_round neg d p (some s neg d p w) r i) ∙ sym (is s neg d p w)
  only_token s NoNumber (other g) = elim (either s) [ inl f ↦ absurd (g f.0 f.1 f.2 f.3) | inr h ↦ sym h ]

-- ---- the short rule, of any t that `read` may answer
short_some : (s : List ℕ) (neg : Bool) (d p : ℕ) → Short s neg d p → 0 < p
short_some s neg d p (short {k = k} f) = ten_le 0 k zero-le

short_is : (s : List ℕ) (neg : Bool) (d p : ℕ) → Short s neg d p → read_of s ≡ Number (round binary32 neg d p)
short_is s neg d p (short f) = grammar.grammar f

short_or_none : (s : List ℕ) → ((neg : Bool) × (d : ℕ) × (p : ℕ) × Short s neg d p) ⊎ (read_of s ≡ NoNumber)
short_or_none s = elim (grammar.form_or_none s) [ inl f ↦ inl (f.0, f.1, 10 ^ f.2, short f.3) | inr h ↦ inr h ]

pub read_means : (s : List ℕ) (t : Token) → t ≡ read_of s → Means (Short s) t
read_means = token_means read_of Short short_some short_is short_or_none

pub means_only : (s : List ℕ) (t : Token) → Means (Short s) t → t ≡ read_of s
means_only = only_token read_of Short short_some short_is short_or_none

-- ---- the long rule, of any t that `read_long` may answer
long_some : (s : List ℕ) (neg : Bool) (d p : ℕ) → Long s neg d p → 0 < p
long_some s neg d p (long {down = k} f) = ten_le 0 k zero-le

long_is : (s : List ℕ) (neg : Bool) (d p : ℕ) → Long s neg d p → read_long_of s ≡ Number (round binary32 neg d p)
long_is s neg d p (long f) = long_grammar.grammar f

long_or_none : (s : List ℕ) → ((neg : Bool) × (d : ℕ) × (p : ℕ) × Long s neg d p) ⊎ (read_long_of s ≡ NoNumber)
long_or_none s = elim (long_forms.form_or_none s) [ inl f ↦ inl (f.0, f.1 * 10 ^ f.2, 10 ^ f.3, long f.4) | inr h ↦ inr h ]

pub read_long_means : (s : List ℕ) (t : Token) → t ≡ read_long_of s → Means (Long s) t
read_long_means = token_means read_long_of Long long_some long_is long_or_none

pub long_means_only : (s : List ℕ) (t : Token) → Means (Long s) t → t ≡ read_long_of s
long_means_only = only_token read_long_of Long long_some long_is long_or_none

-- a long token is what its number is rounded to, and nothing else is
pub long_is_rounded : {s : List ℕ} {neg : Bool} {d up down : ℕ} → LongForm s neg d up down → (r : Float) × (read_long_of s ≡ Number r) × Rounded neg (d * 10 ^ up) (10 ^ down) r
long_is_rounded {neg = neg} {d = d} {up = up} {down = down} f =
    (round binary32 neg (d * 10 ^ up) (10 ^ down), long_grammar.grammar f, nearest.round_is_rounded neg (d * 10 ^ up) (10 ^ down) (ten_le 0 down zero-le))

pub long_is_only : {s : List ℕ} {neg : Bool} {d up down : ℕ} → LongForm s neg d up down → (r : Float) → Rounded neg (d * 10 ^ up) (10 ^ down) r → read_long_of s ≡ Number r
long_is_only {neg = neg} {d = d} {up = up} {down = down} f r i = long_grammar.grammar f ∙ ap Number (sym (nearest.rounded_is_round neg (d * 10 ^ up) (10 ^ down) (ten_le 0 down zero-le) r i))

-- ---- where the short rule reads a number, the long one reads the same
pub short_is_long : {s : List ℕ} {neg : Bool} {d k : ℕ} → Form s neg d k → LongForm s neg d 0 k
short_is_long = long_grammar.short_is_long

pub same_number : (s : List ℕ) (x : Float) → read_of s ≡ Number x → read_long_of s ≡ Number x
same_number s x h =
    let f = grammar.only_numbers s x h in
    long_grammar.grammar (long_grammar.short_is_long f.3)
    ∙ ap (λ (y : ℕ). Number (round binary32 f.0 y (10 ^ f.2))) (mul-one f.1)
    ∙ ap Number (sym f.4)
