-- What is known of a written file beyond what `write` ensures: the laws to cite. Each is of any results that the contracts allow. Assumes nothing.
use mathlib.Core.Path.{◌≡◌, refl, sym, ap, ◌∙◌}
use mathlib.Core.Bool.{Bool, true, false, cond, ◌&&◌}
use mathlib.Core.List.{List}
use Prim.Native.Nat.{ℕ, ◌-◌, ◌*◌, ◌≤◌}
use native.Mathlib.Omega.{arith}
use lib.Dec.{leb, eqb}
use lib.ListN.{length, take, drop}
use lib.Seq.{take_at}
use lib.Ieee.{Float, inf}
use borrow.Author.Tests.{leb-true, le-leb}
use Rattle.float.proofs.Flags.{both_l}
use Rattle.refusals.specs.Refusals.{misshapen, falling, no_room, unwritable}
use Rattle.blend.specs.declared.Rgba.{Rgba}
use Rattle.stops.specs.Stops.{finite_rgba}
use Rattle.stops.specs.Lent.{Change}
use Rattle.segment.specs.declared.Rules.TheVariants.{Published}
use Rattle.segment.specs.Store.{Store}
use Rattle.ggr.specs.File as ggr
use Rattle.ggr.specs.declared.Answer as ggr_answer
use Rattle.ggr.specs.declared.Answer.TheVariants.{Read}
use Rattle.ggr_writing.specs.declared.WriteAnswer.{WriteAnswer}
use Rattle.ggr_writing.specs.declared.WriteAnswer.TheVariants.{Written, Refused}
use Rattle.ggr_writing.specs.File.{segments_of, file_text, shaped_list, rises, can_write, FileWritten, text, refused, cleared, with_room, file_written_of, write_answer_of, left_in, enough_bytes, Writes, Singles}
use Rattle.ggr_writing.proofs.Final.{length_segments, length_file, shaped_few}
use Rattle.ggr_writing.proofs.ReadBack.{file_read}

-- ---- a success: every check was passed, and the text is written
record Success (room : ℕ) (ps cs : List Float) : Type 0 where
  shaped : shaped_list (length ps) (length cs) ≡ true
  up : rises (inf true) ps ≡ true
  can : can_write ps cs ≡ true
  is : file_written_of room ps cs ≡ text (file_text (segments_of ps cs))

not_refused : {X : Type 0} (k n : ℕ) → Refused k ≡ Written n → X
not_refused k n e = let z : ◌≡◌ {A = ℕ} 0 1 = cc in absurd (omega arith)

success : (room : ℕ) (ps cs : List Float) (n : ℕ) → write_answer_of (file_written_of room ps cs) ≡ Written n → Success room ps cs
unfolding file_written_of with_room
success room ps cs n h = go (shaped_list (length ps) (length cs)) (rises (inf true) ps) (can_write ps cs) (leb (length (file_text (segments_of ps cs))) room) refl refl refl refl h
  where
    go : (a b c d : Bool) → shaped_list (length ps) (length cs) ≡ a → rises (inf true) ps ≡ b → can_write ps cs ≡ c → leb (length (file_text (segments_of ps cs))) room ≡ d
        → write_answer_of (cond a (cond b (cond c (cond d (text (file_text (segments_of ps cs))) (cleared no_room)) (cleared unwritable)) (refused falling)) (refused misshapen)) ≡ Written n → Success room ps cs
    go true true true true a b c d h = record { shaped = a; up = b; can = c; is = rw (a, b, c, d) }
    go true true true false a b c d h = not_refused no_room n h
    go true true false d a b c e h = not_refused unwritable n h
    go true false c d a b e f h = not_refused falling n h
    go false b c d a e f g h = not_refused misshapen n h

same_size : (m n : ℕ) → Written m ≡ Written n → m ≡ n
same_size m n e = cc

-- ---- the bytes that were written
module _ (ps cs : List Float) (out : Change (List ℕ)) (w : WriteAnswer) (h : Writes ps cs out w) (n : ℕ) (e : w ≡ Written n) where
  abbrev t : List ℕ
  t = file_text (segments_of ps cs)

  passed : Success (length out.entry) ps cs
  passed = success (length out.entry) ps cs n (sym h.answer ∙ e)

  size : n ≡ length t
  size = same_size n (length t) (sym e ∙ h.answer ∙ ap write_answer_of passed.is)

  at_least : 2 ≤ length ps
  unfolding shaped_list
  at_least = leb-true 2 (length ps) (both_l (leb 2 (length ps)) (leb (length ps) 257) (both_l (leb 2 (length ps) && leb (length ps) 257) (eqb (length cs) (4 * length ps)) passed.shaped))

  few : length ps ≤ 257
  few = shaped_few (length ps) (length cs) passed.shaped

  pub written_is : take n out.exit ≡ file_text (segments_of ps cs)
  unfolding left_in
  written_is = ap (take n) (h.left ∙ ap (λ (o : FileWritten). left_in o out.entry) passed.is) ∙ take_at t (drop (length t) out.entry) n (sym size)

  -- so many bytes at most, which a caller can lend
  pub written_most : n ≤ enough_bytes (length ps)
  written_most = omega (arith, size, length_file (segments_of ps cs) (omega (arith, few, length_segments (length ps - 1) 0 ps cs)), length_segments (length ps - 1) 0 ps cs)

  -- Reading what was written, by any call with finite colours and room for the segments, is not refused, and gives the segments written: each position and channel bit for bit.
  pub read_back : Singles ps cs → (fg bg : Rgba) → finite_rgba fg ≡ true → finite_rgba bg ≡ true → (store : Change Store) → length ps - 1 ≤ ggr.room_in store.entry → (r : ggr_answer.Answer)
      → ggr.Reading Published fg bg (take n out.exit) store r → (r ≡ Read (length ps - 1)) × (store.exit ≡ ggr.store_left (ggr.found (segments_of ps cs)) store.entry)
  read_back one fg bg f g store enough r d =
      let is : ggr.file_of Published (ggr.room_in store.entry) fg bg (take n out.exit) ≡ ggr.found (segments_of ps cs) =
      ap (ggr.file_of Published (ggr.room_in store.entry) fg bg) written_is ∙ file_read fg bg (ggr.room_in store.entry) ps cs one f g at_least few enough passed.up passed.can in (
        d.answer ∙ ap ggr.answer_of is ∙ ap Read (length_segments (length ps - 1) 0 ps cs),
        d.left ∙ ap (λ (o : ggr.FileRead). ggr.store_left o store.entry) is,
      )

-- ---- with so many bytes lent there is no 7
pub room_enough : (ps cs : List Float) (out : Change (List ℕ)) (w : WriteAnswer) → Writes ps cs out w → enough_bytes (length ps) ≤ length out.entry → w ≡ Refused no_room → ⊥
unfolding file_written_of with_room
room_enough ps cs out w h l e =
    go (shaped_list (length ps) (length cs)) (rises (inf true) ps) (can_write ps cs) (leb (length (file_text (segments_of ps cs))) (length out.entry)) refl refl (sym h.answer ∙ e)
  where
    apart : (j k : ℕ) → (j ≡ k → ⊥) → Refused j ≡ Refused k → ⊥
    apart j k n e = n cc

    fits : shaped_list (length ps) (length cs) ≡ true → leb (length (file_text (segments_of ps cs))) (length out.entry) ≡ true
    fits s =
        let few = shaped_few (length ps) (length cs) s in
        let long = length_segments (length ps - 1) 0 ps cs in
        le-leb (length (file_text (segments_of ps cs))) (length out.entry) (omega (arith, length_file (segments_of ps cs) (omega arith)))

    go : (a b c d : Bool) → shaped_list (length ps) (length cs) ≡ a → leb (length (file_text (segments_of ps cs))) (length out.entry) ≡ d
        → write_answer_of (cond a (cond b (cond c (cond d (text (file_text (segments_of ps cs))) (cleared no_room)) (cleared unwritable)) (refused falling)) (refused misshapen)) ≡ Refused no_room → ⊥
    go true true true true s m h = let z : ◌≡◌ {A = ℕ} 0 1 = cc in omega arith
    go true true true false s m h = let z : ◌≡◌ {A = ℕ} 0 1 = clash (sym m ∙ fits s) in omega arith
      where
        clash : false ≡ true → ◌≡◌ {A = ℕ} 0 1
        clash e = cc
    go true true false d s m h = apart unwritable no_room (λ z. omega arith) h
    go true false c d s m h = apart falling no_room (λ z. omega arith) h
    go false b c d s m h = apart misshapen no_room (λ z. omega arith) h
