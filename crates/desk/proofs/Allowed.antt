-- What the contracts of `desk` and `print` allow: the text that lies in the output, never one too long for 50,029 bytes, and of a text with an `edit` the stop lines
-- of the text with the changed stop and no `edit`. Assumes nothing.
use Prim.Native.Nat.{ℕ, ◌≤◌, ◌<◌}
use native.Mathlib.Omega.{arith}
use mathlib.Core.Path.{◌≡◌, refl, sym, ap, ◌∙◌}
use mathlib.Core.Bool.{Bool, true, false}
use mathlib.Core.List.{List}
use lib.ListN.{length, take, drop}
use lib.Seq.{take_at}
use lib.Dec.{ltb}
use lib.Ieee.{Float}
use borrow.Author.Tests.{le-ltb}
use Rattle.blend.specs.declared.Stop.{Stop}
use Rattle.stops.specs.declared.Kind.{Kind}
use Rattle.entries.specs.Input.{input, input_of}
use Rattle.desk.specs.Recoloured.{recoloured, SameStopLines}
use Rattle.desk.specs.Tool.{desk_of, desk_answer, desk_output, most_printed, Desks, Prints}
use Rattle.entries.specs.declared.fields.Recolour.{Recolour}
use Rattle.std.specs.Prelude.{Some, None}
use Rattle.desk.specs.declared.Desked.{Desked}
use Rattle.desk.specs.declared.Desked.TheVariants as desked
use Rattle.desk.proofs.Fits.{desk_most}
use Rattle.desk.proofs.EditedText.{edited_text}

-- ---- the output holds the text, and the answer says how long it is
pub desk_holds : {s out out' : List ℕ} {n : ℕ} → Desks s out out' (desked.Printed n) → take n out' ≡ desk_of s
unfolding desk_answer desk_output
desk_holds {s} {out} {out'} {n} w = go (ltb (length out) (length (desk_of s))) refl where
  size_of : Desked → ℕ
  size_of (desked.Printed m) = m
  size_of (desked.Short m) = 0

  go : (t : Bool) → ltb (length out) (length (desk_of s)) ≡ t → take n out' ≡ desk_of s
  go true e = absurd (let z : desked.Printed n ≡ desked.Short (length (desk_of s)) = w.answer ∙ rw e in let y : ◌≡◌ {A = ℕ} 0 1 = cc in omega arith)
  go false e =
      let z : desked.Printed n ≡ desked.Printed (length (desk_of s)) = w.answer ∙ rw e in
      ap (take n) (w.contents ∙ rw e) ∙ take_at (desk_of s) (drop (length (desk_of s)) out) n (sym (ap size_of z))

pub print_holds : {s out out' : List ℕ} {n : ℕ} → Prints s out out' n → take n out' ≡ desk_of s
print_holds {s} {out} {out'} {n} w = ap (take n) w.contents ∙ take_at (desk_of s) (drop (length (desk_of s)) out) n (sym w.count)

-- an output of 50,029 bytes is never too short
pub never_short : {s out out' : List ℕ} {r : Desked} → most_printed ≤ length out → Desks s out out' r → r ≡ desked.Printed (length (desk_of s))
unfolding desk_answer
never_short {s} {out} h w = w.answer ∙ rw (le-ltb (length out) (length (desk_of s)) (omega (arith, desk_most s)))

-- ---- two calls: s has an edit of a stop that is there; s' has the same stops with that one changed, and no edit
module _ {s s' : List ℕ} {kind : Kind} {asked : Float} {stops : List Stop} {e : Recolour}
    (with_edit : input_of s ≡ input kind asked stops (Some e)) (there : e.stop < length stops) (without : input_of s' ≡ input kind asked (recoloured stops e.stop e.colour) None)
    {out out' : List ℕ} {n : ℕ} {other other' : List ℕ} {m : ℕ} where
  pub desks_same : Desks s out out' (desked.Printed n) → Desks s' other other' (desked.Printed m) → SameStopLines (take n out') (take m other')
  desks_same w v = rw (desk_holds w, desk_holds v) (edited_text s s' with_edit there without)

  pub prints_same : Prints s out out' n → Prints s' other other' m → SameStopLines (take n out') (take m other')
  prints_same w v = rw (print_holds w, print_holds v) (edited_text s s' with_edit there without)
