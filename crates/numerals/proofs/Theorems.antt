-- What is known of a number's text beyond what `write` ensures: the laws to cite. Assumes nothing.
use mathlib.Core.Path.{◌≡◌, sym, ap, ◌∙◌, subst}
use mathlib.Core.Bool.{Bool, true}
use mathlib.Core.List.{List}
use Prim.Native.Nat.{ℕ, suc, ◌-◌, ◌*◌, ◌^◌}
use lib.Dec.{T, leb}
use lib.ListN.{length, take, replicate}
use lib.Seq.{take_at}
use lib.IntN.{ℤ}
use lib.Ieee.{Float, fin, binary32, up, down, fits}
use lib.Ieee.Fits.{down_pos}
use borrow.Author.Tests.{leb-true}
use Rattle.float.proofs.Flags.{both_l, both_r}
use Rattle.decimal.specs.declared.Token.{Token}
use Rattle.decimal.specs.declared.Token.TheVariants.{Number}
use Rattle.decimal.specs.Decimal.{read_of}
use Rattle.numerals.specs.Written.{in_range, writable, places, nine, signed, text_of, TextIs}
use Rattle.numerals.specs.Nearest.{NineText}
use Rattle.numerals.proofs.NearestNine.{nine_nearest}
use Rattle.numerals.proofs.Trip as trip

-- the bytes that are written
pub bytes_are : (t bytes : List ℕ) (len : ℕ) → TextIs t bytes len → take len bytes ≡ t
bytes_are t bytes len h = ap (take len) h.is ∙ take_at t (replicate (18 - length t) 0) len (sym h.long)

-- ---- reading a written number gives it back, bit for bit: of any text that `write` may leave and any token that `decimal::read` may answer for it
pub read_back : (x : Float) → T (fits binary32 x) → writable x ≡ true → (bytes : List ℕ) (len : ℕ) → TextIs (text_of x) bytes len → (t : Token) → t ≡ read_of (take len bytes) → t ≡ Number x
read_back x f w bytes len h t e = e ∙ ap read_of (bytes_are (text_of x) bytes len h) ∙ trip.trip x f w

-- ---- the digits written are those of the nearest decimal of nine digits, a tie to the even one: of any text that `write` may leave for a number that can be written and is no zero
pub digits_nearest : (s : Bool) (m : ℕ) (e : ℤ) → writable (fin s (suc m) e) ≡ true → (bytes : List ℕ) (len : ℕ) → TextIs (text_of (fin s (suc m) e)) bytes len
    → NineText (take len bytes) s (suc m * up e) (down e)
unfolding text_of writable in_range
digits_nearest s m e w bytes len h =
    let num = suc m * up e in
    let den = down e in
    let low = leb (8796093 * den) (num * 2 ^ 43) in
    let high = leb num (1000000 * den) in
    let t : text_of (fin s (suc m) e) ≡ signed s (nine num den (places 15 num den 0)) = rw w in
    subst (λ (x : List ℕ). NineText x s num den) (sym (bytes_are (text_of (fin s (suc m) e)) bytes len h ∙ t))
    (nine_nearest s num den (down_pos e) (leb-true (8796093 * den) (num * 2 ^ 43) (both_l low high w)) (leb-true num (1000000 * den) (both_r low high w)))
