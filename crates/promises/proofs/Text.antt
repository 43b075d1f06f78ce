-- `text`: the parts of a text.
use contract.Lifetimes.{Lfts}
use Prim.Native.Nat.{ℕ, ◌-◌, ◌≤◌}
use native.Mathlib.Omega.{arith}
use mathlib.Core.Path.{◌≡◌, ap}
use mathlib.Core.List.{List}
use lib.ListN.{length, drop, length-drop}
use Rattle.promises.specs.Law.{Coincide, coincide, answer, ◌with◌, both}
use Rattle.text.proofs.span_end.Reads as of_span_end
use Rattle.text.proofs.line_at.Reads as of_line_at
use Rattle.text.proofs.is_ascii.Reads as of_is_ascii
use Rattle.text.proofs.starts_with.Reads as of_starts_with
use Rattle.text.proofs.is_same.Reads as of_is_same
use Rattle.text.proofs.marks.Reads as of_marks
use Rattle.text.proofs.trimmed.Reads as of_trimmed
use Rattle.text.proofs.output.put.Reads as of_put
use Rattle.text.proofs.output.put_all.Reads as of_put_all
use Rattle.text.proofs.output.put_decimal.Reads as of_put_decimal
use Rattle.text.proofs.utf8.is_utf8.Reads as of_is_utf8

place : (s u : List ℕ) (r : ℕ) → r ≤ length s → drop r s ≡ u → r ≡ length s - length u
place s u r h e = omega (arith, length-drop r s, ap (λ (l : List ℕ). length l) e)

pub span_end : (κs : Lfts 1) (a : _) → Coincide (of_span_end.Learnt κs a) answer
span_end κs a = coincide (λ r e w. w)

-- both parts of it
pub line_at : (κs : Lfts 1) (a : _) → Coincide (of_line_at.Learnt κs a) (λ r e. r.end with r.next)
line_at κs a = coincide (λ r e w. both w.ends w.goes_on)

pub is_ascii : (κs : Lfts 1) (a : _) → Coincide (of_is_ascii.Learnt κs a) answer
is_ascii κs a = coincide (λ r e w. w)

pub is_utf8 : (κs : Lfts 1) (a : _) → Coincide (of_is_utf8.Learnt κs a) answer
is_utf8 κs a = coincide (λ r e w. w)

pub starts_with : (κs : Lfts 2) (a : _) → Coincide (of_starts_with.Learnt κs a) answer
starts_with κs a = coincide (λ r e w. w)

pub is_same : (κs : Lfts 2) (a : _) → Coincide (of_is_same.Learnt κs a) answer
is_same κs a = coincide (λ r e w. w)

-- the place after the marks is told by what is left after it
pub marks : (κs : Lfts 1) (a : _) → Coincide (of_marks.Learnt κs a) answer
marks κs a = coincide (λ r e w. place a.0.now _ r w.0 w.1)

pub trimmed : (κs : Lfts 1) (a : _) → Coincide (of_trimmed.Learnt κs a) (λ r e. r.now)
trimmed κs a = coincide (λ r e w. w)

-- the place after what is put, and what the output holds
pub put : (κs : Lfts 1) (a : _) → Coincide (of_put.Learnt κs a) (λ r e. r with e.0.now)
put κs a = coincide (λ r e w. both w.next w.written)

pub put_all : (κs : Lfts 2) (a : _) → Coincide (of_put_all.Learnt κs a) (λ r e. r with e.0.now)
put_all κs a = coincide (λ r e w. both w.next w.written)

pub put_decimal : (κs : Lfts 1) (a : _) → Coincide (of_put_decimal.Learnt κs a) (λ r e. r with e.0.now)
put_decimal κs a = coincide (λ r e w. both w.next w.written)
