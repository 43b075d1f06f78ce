-- A header that is read counts 1 to 256 segments, for which there is room, and leads to line 4. Assumes nothing.
use Prim.Native.Nat.{ℕ, zero, suc, ◌≤◌, ◌<◌}
use native.Mathlib.Omega.{arith}
use mathlib.Core.Path.{◌≡◌, refl}
use mathlib.Core.Bool.{Bool, true, false, cond, ◌&&◌}
use mathlib.Core.List.{List, [], ◌∷◌}
use lib.Dec.{leb}
use borrow.Author.Tests.{leb-true}
use Rattle.std.specs.Prelude.{Option, Some, None}
use Rattle.refusals.specs.Limits.{most_segments}
use Rattle.float.proofs.Flags.{both_l, both_r}
use Rattle.text.specs.Text.{rest_of, same, starts}
use Rattle.header.specs.Head.{text_lines, segment_count, Head, counts, fails, from_count, counted, from_third, from_second, from_lines, head_of, title, name_tag}

-- how many, of a head that counts
abbrev Few : ℕ → ℕ → Type 0
Few room n = (0 < n) × (n ≤ most_segments) × (n ≤ room)

module _ {n : ℕ} {rest : List (List ℕ)} where
  no_head : {X : Type 0} {h : Head} {a b : ℕ} → h ≡ counts n rest → h ≡ fails a b → X
  no_head e f = absurd (let z : ◌≡◌ {A = ℕ} 0 1 = cc in omega arith)

  -- a test that leads on, or to a refusal
  passed_test : (t : Bool) (h : Head) (a b : ℕ) → cond t h (fails a b) ≡ counts n rest → (t ≡ true) × (h ≡ counts n rest)
  passed_test true h a b e = (refl, e)
  passed_test false h a b e = no_head e refl

module _ {room n : ℕ} {rest : List (List ℕ)} where
  count_fits : (m : ℕ) (ls : List (List ℕ)) → m ≤ most_segments → m ≤ room → from_count m ls ≡ counts n rest → Few room n
  unfolding from_count
  count_fits zero ls a b e = no_head e refl
  count_fits (suc m) ls a b e = let q : suc m ≡ n = cc in (omega arith, omega arith, omega arith)

  counted_fits : (d : Option ℕ) (ls : List (List ℕ)) → counted room d ls ≡ counts n rest → Few room n
  unfolding counted
  counted_fits None ls e = no_head e refl
  counted_fits (Some m) ls e =
      let w = passed_test (leb m most_segments && leb m room) (from_count m ls) _ _ e in
      count_fits m ls (leb-true m most_segments (both_l (leb m most_segments) (leb m room) w.0)) (leb-true m room (both_r (leb m most_segments) (leb m room) w.0)) w.1

  third_fits : (ls : List (List ℕ)) → from_third room ls ≡ counts n rest → Few room n
  unfolding from_third
  third_fits [] e = no_head e refl
  third_fits (l ∷ ls) e = counted_fits (segment_count l) ls e

  second_fits : (ls : List (List ℕ)) → from_second room ls ≡ counts n rest → Few room n
  unfolding from_second
  second_fits [] e = no_head e refl
  second_fits (l ∷ ls) e = third_fits ls (passed_test (starts name_tag l) (from_third room ls) _ _ e).1

  first_fits : (ls : List (List ℕ)) → from_lines room ls ≡ counts n rest → Few room n
  unfolding from_lines
  first_fits [] e = no_head e refl
  first_fits (l ∷ ls) e = second_fits ls (passed_test (same title l) (from_second room ls) _ _ e).1

  pub head_fits : (s : List ℕ) → head_of room s ≡ counts n rest → (0 < n) × (n ≤ most_segments) × (n ≤ room)
  head_fits s e = first_fits (text_lines s) e

-- ---- what it leads to are the lines after the third
module _ (room : ℕ) {n : ℕ} {rest : List (List ℕ)} where
  count_rest : (m : ℕ) (ls : List (List ℕ)) → from_count m ls ≡ counts n rest → rest ≡ ls
  unfolding from_count
  count_rest zero ls e = no_head e refl
  count_rest (suc m) ls e = cc

  counted_rest : (d : Option ℕ) (ls : List (List ℕ)) → counted room d ls ≡ counts n rest → rest ≡ ls
  unfolding counted
  counted_rest None ls e = no_head e refl
  counted_rest (Some m) ls e = count_rest m ls (passed_test (leb m most_segments && leb m room) (from_count m ls) _ _ e).1

  third_rest : (ls : List (List ℕ)) → from_third room ls ≡ counts n rest → rest ≡ rest_of ls
  unfolding from_third rest_of
  third_rest [] e = no_head e refl
  third_rest (l ∷ ls) e = counted_rest (segment_count l) ls e

  second_rest : (ls : List (List ℕ)) → from_second room ls ≡ counts n rest → rest ≡ rest_of (rest_of ls)
  unfolding from_second rest_of
  second_rest [] e = no_head e refl
  second_rest (l ∷ ls) e = third_rest ls (passed_test (starts name_tag l) (from_third room ls) _ _ e).1

  first_rest : (ls : List (List ℕ)) → from_lines room ls ≡ counts n rest → rest ≡ rest_of (rest_of (rest_of ls))
  unfolding from_lines rest_of
  first_rest [] e = no_head e refl
  first_rest (l ∷ ls) e = second_rest ls (passed_test (same title l) (from_second room ls) _ _ e).1

  pub head_rest : (s : List ℕ) → head_of room s ≡ counts n rest → rest ≡ rest_of (rest_of (rest_of (text_lines s)))
  head_rest s e = first_rest (text_lines s) e
