-- What each end of `write` answers and leaves, and how long a file is. Assumes nothing.
use mathlib.Core.Path.{◌≡◌, refl, sym, ap, ◌∙◌}
use mathlib.Core.Bool.{Bool, true, false, cond, ◌&&◌}
use mathlib.Core.List.{List, [], ◌∷◌, ◌++◌}
use Prim.Native.Nat.{ℕ, zero, suc, ◌+◌, ◌-◌, ◌*◌, ◌≤◌, ◌<◌}
use native.Mathlib.Nat.{zero-add}
use native.Mathlib.Omega.{arith}
use lib.Dec.{leb, eqb}
use lib.ListN.{length, drop, replicate, length-append}
use lib.Seq.{sets-eq}
use lib.Ieee.{Float, inf}
use borrow.Author.Tests.{le-leb, lt-leb, leb-true}
use Rattle.float.proofs.Flags.{both_l, both_r}
use Rattle.refusals.specs.Refusals.{misshapen, falling, no_room, unwritable}
use Rattle.refusals.specs.Limits.{most_written}
use Rattle.stops.specs.Lent.{change}
use Rattle.gradient.specs.declared.gimp.Segment.{Segment}
use Rattle.text.specs.Output.{decimal_of, most_place, PutsFrom, count_text, Puts}
use Rattle.text.proofs.Putting.{few_digits, whole, puts_size}
use Rattle.text.proofs.Putting.{puts_then, from_as}
use Rattle.ggr_writing.specs.declared.WriteAnswer.{WriteAnswer}
use Rattle.ggr_writing.specs.declared.WriteAnswer.TheVariants.{Written, Refused}
use Rattle.ggr_writing.specs.File.{segments_from, segments_of, segment_text, segments_text, file_text, heading, shaped_list, rises, can_write, FileWritten, text, refused, cleared, with_room, file_written_of, write_answer_of, number_of_write_answer, bytes_of_write_answer, left_in, WritesAs, longest_line}
use Rattle.ggr_writing.proofs.Texts.{length_segment}

-- ---- a file's parts
pub length_segments : (n i : ℕ) (ps cs : List Float) → length (segments_from n i ps cs) ≡ n
unfolding segments_from
length_segments zero i ps cs = refl
length_segments (suc n) i ps cs = ap suc (length_segments n (i + 1) ps cs)

file_from : {out o1 o2 o3 out' : List ℕ} {a b c r n : ℕ} (ps cs : List Float) → n ≡ length ps - 1 → PutsFrom out o1 0 heading a → PutsFrom o1 o2 a (decimal_of 20 n) b → PutsFrom o2 o3 b (10 ∷ []) c
    → PutsFrom o3 out' c (segments_text (segments_from n 0 ps cs)) r → length out ≤ most_place → PutsFrom out out' 0 (file_text (segments_of ps cs)) r
unfolding file_text
file_from {n = n} ps cs e p q s t k =
    from_as (puts_then p (puts_then q (puts_then s (λ l. t))) k)
    (ap (λ (k : ℕ). heading ++ (decimal_of 20 k ++ (10 ∷ segments_text (segments_from n 0 ps cs)))) (sym (length_segments n 0 ps cs))
    ∙ ap (λ (k : ℕ). heading ++ (decimal_of 20 (length (segments_from k 0 ps cs)) ++ (10 ∷ segments_text (segments_from k 0 ps cs)))) e)

-- ---- how long it is
pub length_rows : (gs : List Segment) → length (segments_text gs) ≤ longest_line * length gs
unfolding segments_text
length_rows [] = omega arith
length_rows (g ∷ gs) = omega (arith, length-append (segment_text g) (segments_text gs), length_segment g, length_rows gs)

-- 30 bytes of heading, the count and its LF, and the lines
pub length_file : (gs : List Segment) → length gs < 1000 → length (file_text gs) ≤ 34 + longest_line * length gs
unfolding file_text
length_file gs h =
    let t : List ℕ = 10 ∷ segments_text gs in
    omega (arith, length-append heading (count_text (length gs) ++ t), length-append (count_text (length gs)) t, few_digits 20 2 (length gs) h, length_rows gs)

-- so no byte of it lies past the greatest place
pub file_put : {out o1 o2 o3 out' : List ℕ} {a b c r n : ℕ} (ps cs : List Float) → n ≡ length ps - 1 → length ps ≤ most_written → PutsFrom out o1 0 heading a → PutsFrom o1 o2 a (decimal_of 20 n) b → PutsFrom o2 o3 b (10 ∷ []) c
    → PutsFrom o3 out' c (segments_text (segments_from n 0 ps cs)) r → length out ≤ most_place → Puts out out' 0 (file_text (segments_of ps cs)) r
file_put ps cs e h p q s t k =
    let l : length (segments_of ps cs) ≡ length ps - 1 = length_segments (length ps - 1) 0 ps cs in
    whole (file_from ps cs e p q s t k) (omega (arith, length_file (segments_of ps cs) (omega (arith, l)), l))

-- ---- the ends
done_as : {o p : FileWritten} {old new : List ℕ} {r : WriteAnswer} → o ≡ p → r ≡ write_answer_of p → new ≡ left_in p old → WritesAs o (change old new) r
done_as e a l = rw e (record { answer = a; number = ap number_of_write_answer a; bytes = ap bytes_of_write_answer a; left = l })

module _ (ps cs : List Float) (old : List ℕ) where
  abbrev o : FileWritten
  o = file_written_of (length old) ps cs

  pub not_shaped : shaped_list (length ps) (length cs) ≡ false → WritesAs o (change old old) (Refused 1)
  unfolding file_written_of left_in
  not_shaped h = done_as {p = refused misshapen} (rw h) refl refl

  pub not_rising : shaped_list (length ps) (length cs) ≡ true → rises (inf true) ps ≡ false → WritesAs o (change old old) (Refused 3)
  unfolding file_written_of left_in
  not_rising h k = done_as {p = refused falling} (rw (h, k)) refl refl

  pub not_writable : {new : List ℕ} → shaped_list (length ps) (length cs) ≡ true → rises (inf true) ps ≡ true → can_write ps cs ≡ false → new ≡ replicate (length old) 0 → WritesAs o (change old new) (Refused 19)
  unfolding file_written_of left_in
  not_writable h k w e = done_as {p = cleared unwritable} (rw (h, k, w)) refl e

  module _ {mid : List ℕ} {r : ℕ} (h : shaped_list (length ps) (length cs) ≡ true) (k : rises (inf true) ps ≡ true) (w : can_write ps cs ≡ true) (p : Puts old mid 0 (file_text (segments_of ps cs)) r) where
    abbrev t : List ℕ
    t = file_text (segments_of ps cs)

    long : r ≡ length t
    long = p.next ∙ zero-add (length t)

    is_room : o ≡ with_room (length old) t
    unfolding file_written_of
    is_room = rw (h, k, w)

    pub no_room_lem : {new : List ℕ} → length mid < r → new ≡ replicate (length mid) 0 → WritesAs o (change old new) (Refused 7)
    unfolding with_room left_in
    no_room_lem l e = done_as (is_room ∙ ap (λ (b : Bool). cond b (text t) (cleared no_room)) (lt-leb (length t) (length old) (omega (arith, long, puts_size p)))) refl (e ∙ ap (λ (n : ℕ). replicate n 0) (puts_size p))

    pub has_room : r ≤ length mid → WritesAs o (change old mid) (Written r)
    unfolding with_room left_in
    has_room l =
        let f : length t ≤ length old = omega (arith, long, puts_size p) in
        done_as (is_room ∙ ap (λ (b : Bool). cond b (text t) (cleared no_room)) (le-leb (length t) (length old) f)) (ap Written long)
        (p.written ∙ sets-eq t old 0 (omega arith) ∙ ap (λ (n : ℕ). t ++ drop n old) (zero-add (length t)))

-- a list that passes the first test is not too long
pub shaped_few : (n m : ℕ) → shaped_list n m ≡ true → n ≤ 257
unfolding shaped_list
shaped_few n m h = leb-true n 257 (both_r (leb 2 n) (leb n 257) (both_l (leb 2 n && leb n 257) (eqb m (4 * n)) h))
