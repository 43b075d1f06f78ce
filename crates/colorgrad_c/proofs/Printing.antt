-- The bytes that the tool prints are as many whether or not an output holds them. Assumes nothing.
use mathlib.Core.Path.{◌≡◌, refl, ap, ◌∙◌}
use mathlib.Core.Bool.{Bool, true, false, cond}
use Prim.Native.Nat.{ℕ}
use lib.Dec.{ltb}
use Rattle.desk.specs.Tool.{desk_answer}
use Rattle.desk.specs.declared.Desked.{Desked}
use Rattle.desk.specs.declared.Desked.TheVariants.{Printed, Short}
use Rattle.colorgrad_c.specs.inner.Tool.{bytes_of}

either_way : (n : ℕ) (t : Bool) → bytes_of (cond t (Short n) (Printed n)) ≡ n
either_way n true = refl
either_way n false = refl

pub bytes_are : {d : Desked} {r : ℕ} (n room : ℕ) → r ≡ bytes_of d → d ≡ desk_answer n room → r ≡ n
unfolding desk_answer
bytes_are n room h e = h ∙ ap bytes_of e ∙ either_way n (ltb room n)
