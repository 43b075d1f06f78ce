-- Laws of texts put one after the other. Assumes nothing.
use Prim.Native.Nat.{ℕ, suc, ◌+◌, ◌-◌, ◌*◌, ◌/◌, ◌%◌, ◌^◌, ◌≤◌, ◌<◌}
use native.Mathlib.Nat.{add-zero}
use native.Mathlib.Omega.{arith}
use mathlib.Core.Path.{◌≡◌, sym, ap, ◌∙◌}
use mathlib.Core.List.{List, [], ◌∷◌, ◌++◌, append_assoc, append-nil}
use lib.ListN.{length, drop}
use lib.Seq.{get_or-drop, drop-drop}
use lib.Ieee.{Float, binary32, to_bits}
use Rattle.blend.specs.declared.Stop.{Stop}
use Rattle.stops.specs.Stops.{stop_at}
use Rattle.text.specs.Output.{most_place, PutsFrom, count_text, Puts}
use Rattle.text.proofs.Putting.{from_nil, from_as, puts_then, length_decimal, whole, puts_as}
use Rattle.writing.specs.Printed.{hex_digit, hex_of, field_text, stop_text, rows_text, stops_word, evaluations_word, list_text, reply_text}
use Rattle.writing.specs.declared.Reply.{Reply}
use Rattle.writing.proofs.Lengths.{length_list}

-- a reply, by its case
pub reply_puts : (ps cs : List Float) {x y : Reply} {out out' : List ℕ} {r : ℕ} → x ≡ y → Puts out out' 0 (reply_text y ps cs) r → Puts out out' 0 (reply_text x ps cs) r
reply_puts ps cs e p = puts_as p (ap (λ (z : Reply). reply_text z ps cs) (sym e))

-- a list's parts; no byte of it lies past the greatest place
pub list_put : {out o1 o2 o3 o4 o5 out' : List ℕ} {a b c d f r : ℕ} (n e : ℕ) (ps cs : List Float) → n < 2 ^ 32 → PutsFrom out o1 0 stops_word a → PutsFrom o1 o2 a (count_text n) b → PutsFrom o2 o3 b evaluations_word c
    → PutsFrom o3 o4 c (count_text e) d → PutsFrom o4 o5 d (10 ∷ []) f → PutsFrom o5 out' f (rows_text n ps cs) r → length out ≤ most_place → Puts out out' 0 (list_text n e ps cs) r
unfolding list_text
list_put n e ps cs h p q s t u v k =
    whole (puts_then p (puts_then q (puts_then s (puts_then t (puts_then u (λ l. v))))) k) (omega (arith, length_list n e 20 20 ps cs (length_decimal 20 n) (length_decimal 20 e)))

-- ---- digit by digit
pub hex_none : (out : List ℕ) (at n left : ℕ) → at ≤ most_place → left ≡ 0 → PutsFrom out out at (hex_of left n) at
unfolding hex_of
hex_none out at n left h e = rw e (from_nil out at h)

pub hex_more : {out mid out' : List ℕ} {at m r digit : ℕ} (n left : ℕ) → (left ≡ 0 → ⊥) → digit ≡ hex_digit (n % 16) → PutsFrom out mid at (hex_of (left - 1) (n / 16)) m → PutsFrom mid out' m (digit ∷ []) r → length out ≤ most_place → PutsFrom out out' at (hex_of left n) r
unfolding hex_of
hex_more {out} {mid} {out'} {at} {m} {r} {digit} n left h e p q k =
    let f : left ≡ suc (left - 1) = omega arith in
    rw (f, ← e) (puts_then p (λ l. q) k)

pub field_put : {out mid out' : List ℕ} {at m r b : ℕ} (x : Float) → b ≡ to_bits binary32 x → PutsFrom out mid at (9 ∷ []) m → PutsFrom mid out' m (hex_of 8 b) r → length out ≤ most_place → PutsFrom out out' at (field_text x) r
unfolding field_text
field_put x e p q k = rw (← e) (puts_then p (λ l. q) k)

-- ---- stop by stop: the lines so far, and those that are left
pub record Rowed (out mid : List ℕ) (at next : ℕ) (n i : ℕ) (ps cs : List Float) : Type 0 where
  pub few : i ≤ n
  pub done : List ℕ
  pub put : PutsFrom out mid at done next
  pub left : done ++ rows_text (n - i) (drop i ps) (drop (4 * i) cs) ≡ rows_text n ps cs

stop_drop : (ps cs : List Float) (i : ℕ) → stop_at (drop i ps) (drop (4 * i) cs) 0 ≡ stop_at ps cs i
stop_drop ps cs i = simp (get_or-drop, add-zero)

pub rowed_start : (out : List ℕ) (at n : ℕ) (ps cs : List Float) → at ≤ most_place → Rowed out out at at n 0 ps cs
rowed_start out at n ps cs h = record {
  few = omega arith;
  done = [];
  put = from_nil out at h;
  left = let e : n - 0 ≡ n = omega arith in ap (λ (m : ℕ). rows_text m ps cs) e;
}

rows_step : (n i : ℕ) (ps cs : List Float) → i < n → rows_text (n - i) (drop i ps) (drop (4 * i) cs) ≡ stop_text (stop_at ps cs i) ++ rows_text (n - (i + 1)) (drop (i + 1) ps) (drop (4 * (i + 1)) cs)
unfolding rows_text
rows_step n i ps cs h =
    let e : n - i ≡ suc (n - (i + 1)) = omega arith in
    let f : 4 * i + 4 ≡ 4 * (i + 1) = omega arith in
    ap (λ (m : ℕ). rows_text m (drop i ps) (drop (4 * i) cs)) e ∙ rw (stop_drop ps cs i, drop-drop 1 i ps, drop-drop 4 (4 * i) cs, f)

pub rowed_next : {out mid out' : List ℕ} {at next n i r : ℕ} {ps cs : List Float} {s : Stop} → i < n → s ≡ stop_at ps cs i → Rowed out mid at next n i ps cs → PutsFrom mid out' next (stop_text s) r → length out ≤ most_place → Rowed out out' at r n (i + 1) ps cs
rowed_next {out} {mid} {out'} {at} {next} {n} {i} {r} {ps} {cs} {s} h e w p k = record {
  few = omega arith;
  done = w.done ++ stop_text s;
  put = puts_then w.put (λ l. p) k;
  left = append_assoc w.done (stop_text s) (rows_text (n - (i + 1)) (drop (i + 1) ps) (drop (4 * (i + 1)) cs))
      ∙ ap (λ (x : Stop). w.done ++ (stop_text x ++ rows_text (n - (i + 1)) (drop (i + 1) ps) (drop (4 * (i + 1)) cs))) e
      ∙ ap (λ (t : List ℕ). w.done ++ t) (sym (rows_step n i ps cs h)) ∙ w.left;
}

pub rowed_done : {out mid : List ℕ} {at next n i : ℕ} {ps cs : List Float} → n ≤ i → Rowed out mid at next n i ps cs → PutsFrom out mid at (rows_text n ps cs) next
unfolding rows_text
rowed_done {out} {mid} {at} {next} {n} {i} {ps} {cs} h w =
    let e : n - i ≡ 0 = omega arith in
    let t : w.done ≡ rows_text n ps cs = sym (append-nil w.done) ∙ ap (λ (m : ℕ). w.done ++ rows_text m (drop i ps) (drop (4 * i) cs)) (sym e) ∙ w.left in
    from_as w.put t
