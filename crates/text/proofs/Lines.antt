-- Laws of lines: the first line and what follows it, by one walk along the bytes. Assumes nothing.
use Prim.Native.Nat.{ℕ, zero, suc, ◌+◌, ◌-◌, ◌≤◌, ◌<◌}
use native.Mathlib.Omega.{arith}
use mathlib.Core.Path.{◌≡◌, refl, sym, ap, ap₂, ◌∙◌}
use mathlib.Core.Bool.{Bool, true, false, not, cond, ◌&&◌}
use mathlib.Core.List.{List, [], ◌∷◌}
use lib.ListN.{length, take, drop, get_or, drop_of_length-le, length-drop}
use lib.Seq.{drop-drop, get_or-drop}
use lib.Dec.{eqb, ltb}
use borrow.Author.Tests.{eqb-true, eq-eqb, ltb-true, ltb-false, lt-ltb, le-ltb}
use Rattle.float.proofs.Flags.{both_l, both_r}
use Rattle.text.specs.declared.Class.TheVariants.{NotLf}
use Rattle.text.specs.Text.{lines, on_first, at_lf, first_of, rest_of}
use Rattle.text.specs.Places.{in_class, span, lf_at, end_before, next_after, LineAt}
use Rattle.text.proofs.Bytes.{span-le}

-- the first line, and what follows its LF
unfoldable pub first : List ℕ → List ℕ
first [] = []
first (b ∷ s) = cond (eqb b 10) [] (cond (at_lf s && eqb b 13) [] (b ∷ first s))

unfoldable pub after : List ℕ → List ℕ
after [] = []
after (b ∷ s) = cond (eqb b 10) s (after s)

module _ (b : ℕ) (s a : List ℕ) (f : List ℕ) (g : List ℕ → List (List ℕ)) (h : g s ≡ f ∷ g a) where
  line_step : (t u : Bool) → (u ≡ true → f ≡ []) → cond t ([] ∷ g s) (cond u (g s) (on_first b (g s))) ≡ cond t [] (cond u [] (b ∷ f)) ∷ g (cond t s a)
  unfolding on_first
  line_step true u e = refl
  line_step false true e = h ∙ ap (λ (x : List ℕ). x ∷ g a) (e refl)
  line_step false false e = rw h

at_lf-first : (s : List ℕ) (u : Bool) → at_lf s && u ≡ true → first s ≡ []
unfolding at_lf first
at_lf-first [] u e = refl
at_lf-first (b ∷ s) u e = rw (both_l (eqb b 10) u e)

lines_cons : (b : ℕ) (s : List ℕ) → lines (b ∷ s) ≡ first (b ∷ s) ∷ lines (after (b ∷ s))
unfolding lines first after on_first at_lf
lines_cons b [] = elim (eqb b 10) as (λ t. cond t ([] ∷ []) ((b ∷ []) ∷ []) ≡ cond t [] (b ∷ []) ∷ lines (cond t [] [])) [ true ↦ refl | false ↦ refl ]
lines_cons b (c ∷ s) = line_step b (c ∷ s) (after (c ∷ s)) (first (c ∷ s)) lines (lines_cons c s) (eqb b 10) (at_lf (c ∷ s) && eqb b 13) (at_lf-first (c ∷ s) (eqb b 13))

pub first_of_lem : (s : List ℕ) → first_of (lines s) ≡ first s
unfolding first_of lines first
first_of_lem [] = refl
first_of_lem (b ∷ s) = ap first_of (lines_cons b s)

pub rest_of_lem : (s : List ℕ) → rest_of (lines s) ≡ lines (after s)
unfolding rest_of lines after
rest_of_lem [] = refl
rest_of_lem (b ∷ s) = ap rest_of (lines_cons b s)

pub lines_some : (s : List ℕ) → 0 < length s → lines s ≡ first_of (lines s) ∷ rest_of (lines s)
lines_some [] h = absurd (omega arith)
lines_some (b ∷ s) h = lines_cons b s ∙ ap₂ ◌∷◌ (sym (first_of_lem (b ∷ s))) (sym (rest_of_lem (b ∷ s)))

after-drop : (s : List ℕ) → after s ≡ drop (suc (span (in_class NotLf) s)) s
unfolding after span in_class
after-drop [] = refl
after-drop (b ∷ s) = elim (eqb b 10) as (λ t. cond t s (after s) ≡ drop (cond (not t) (suc (span (in_class NotLf) s)) 0) s) [ true ↦ refl | false ↦ after-drop s ]

at_lf-span : (s : List ℕ) → at_lf s ≡ true → (span (in_class NotLf) s ≡ 0) × (0 < length s)
unfolding at_lf span in_class
at_lf-span [] e = (refl, absurd (let z : ◌≡◌ {A = ℕ} 0 1 = cc in omega arith))
at_lf-span (b ∷ s) e = (rw e, omega arith)

-- no LF comes next where the span goes on
not_at_lf : (s : List ℕ) (m : ℕ) → span (in_class NotLf) s ≡ suc m → at_lf s ≡ false
not_at_lf s m e = elim (at_lf s) as (λ t. at_lf s ≡ t → t ≡ false) [ true ↦ λ f. absurd (omega (arith, (at_lf-span s f).0)) | false ↦ λ f. refl ] refl

at_lf_yes : (s : List ℕ) → span (in_class NotLf) s ≡ 0 → 0 < length s → at_lf s ≡ true
unfolding at_lf span in_class
at_lf_yes [] e h = absurd (omega arith)
at_lf_yes (b ∷ s) e h = elim (eqb b 10) as (λ t. cond (not t) (suc (span (in_class NotLf) s)) 0 ≡ 0 → t ≡ true) [ true ↦ λ f. refl | false ↦ λ f. absurd (omega arith) ] e

-- where the line ends at the LF, or at the end of the text
first-take : (s : List ℕ) → ((m : ℕ) → span (in_class NotLf) s ≡ suc m → suc m < length s → get_or s m 0 ≡ 13 → ⊥)
    → first s ≡ take (span (in_class NotLf) s) s
unfolding first span in_class
first-take [] h = refl
first-take (b ∷ s) h = go (first-take s) (eqb b 10) refl (at_lf s && eqb b 13) refl where
  go : (((m : ℕ) → span (in_class NotLf) s ≡ suc m → suc m < length s → get_or s m 0 ≡ 13 → ⊥) → first s ≡ take (span (in_class NotLf) s) s) → (t : Bool) → eqb b 10 ≡ t → (u : Bool) → at_lf s && eqb b 13 ≡ u → first (b ∷ s) ≡ take (span (in_class NotLf) (b ∷ s)) (b ∷ s)
  go ih true e u f = rw e
  go ih false e true f =
      let z = at_lf-span s (both_l (at_lf s) (eqb b 13) f) in
      absurd (h 0 (rw (e, z.0)) (omega arith) (eqb-true b 13 (both_r (at_lf s) (eqb b 13) f)))
  go ih false e false f = rw (e, f) (ap (λ (l : List ℕ). b ∷ l) (ih (λ m p q r. h (suc m) (rw (e, p)) (omega arith) r)))

-- where a CR stands before the LF
first_cr : (s : List ℕ) (m : ℕ) → span (in_class NotLf) s ≡ suc m → suc m < length s → get_or s m 0 ≡ 13 → first s ≡ take m s
unfolding first span in_class
first_cr [] m e h t = absurd (omega arith)
first_cr (b ∷ s) m e h t = go (first_cr s) (eqb b 10) refl m e h t where
  go : ((m : ℕ) → span (in_class NotLf) s ≡ suc m → suc m < length s → get_or s m 0 ≡ 13 → first s ≡ take m s) → (v : Bool) → eqb b 10 ≡ v → (m : ℕ) → span (in_class NotLf) (b ∷ s) ≡ suc m → suc m < length (b ∷ s) → get_or (b ∷ s) m 0 ≡ 13 → first (b ∷ s) ≡ take m (b ∷ s)
  go ih true f m e h t = absurd (omega (arith, rw f at e))
  go ih false f zero e h t = rw (f, at_lf_yes s (omega (arith, rw f at e)) (omega arith), eq-eqb b 13 t)
  go ih false f (suc m) e h t =
      let p : span (in_class NotLf) s ≡ suc m = omega (arith, rw f at e) in
      rw (f, not_at_lf s m p) (ap (λ (l : List ℕ). b ∷ l) (ih m p (omega arith) t))

-- where a line ends and the next one starts, by whether an LF stands at n and a CR before it
module _ (at n size b : ℕ) where
  end_last : size ≤ n → n ≡ end_before at n size b
  end_last h = rw (le-ltb n size h)

  end_plain : n < size → (at < n → b ≡ 13 → ⊥) → n ≡ end_before at n size b
  end_plain h free = go (ltb at n) refl (eqb b 13) refl where
    go : (t : Bool) → ltb at n ≡ t → (u : Bool) → eqb b 13 ≡ u → n ≡ end_before at n size b
    go false e u f = rw (lt-ltb n size h, e)
    go true e false f = rw (lt-ltb n size h, e, f)
    go true e true f = absurd (free (ltb-true at n e) (eqb-true b 13 f))

  end_cr : n < size → at < n → b ≡ 13 → n - 1 ≡ end_before at n size b
  end_cr h l t = rw (lt-ltb n size h, lt-ltb at n l, eq-eqb b 13 t)

pub next_last : (n size : ℕ) → size ≤ n → n ≡ next_after n size
next_last n size h = rw (le-ltb n size h)

pub next_line : (n size : ℕ) → n < size → n + 1 ≡ next_after n size
next_line n size h = rw (lt-ltb n size h)

-- what the code finds, by the place n of the first LF from `at` on
module _ (s : List ℕ) (at n : ℕ) (e : n ≡ at + span (in_class NotLf) (drop at s)) where
  ending : {x : ℕ} → x ≡ end_before at n (length s) (get_or s (n - 1) 0) → x ≡ end_before at (lf_at s at) (length s) (get_or s (lf_at s at - 1) 0)
  ending q = q ∙ ap (λ (i : ℕ). end_before at i (length s) (get_or s (i - 1) 0)) e

  going_on : {x : ℕ} → x ≡ next_after n (length s) → x ≡ next_after (lf_at s at) (length s)
  going_on q = q ∙ ap (λ (i : ℕ). next_after i (length s)) e

  in_text : at ≤ length s → n ≤ length s
  in_text h = omega (arith, span-le (in_class NotLf) (drop at s), length-drop at s)

  -- the lines after it start at q, where q - at bytes make the line and its LF
  line_rest : (q : ℕ) → drop (suc (span (in_class NotLf) (drop at s))) (drop at s) ≡ drop q s → lines (drop q s) ≡ rest_of (lines (drop at s))
  line_rest q r = ap lines (sym r ∙ sym (after-drop (drop at s))) ∙ sym (rest_of_lem (drop at s))

  past : drop (suc (span (in_class NotLf) (drop at s))) (drop at s) ≡ drop (n + 1) s
  past = drop-drop (suc (span (in_class NotLf) (drop at s))) at s ∙ ap (λ (i : ℕ). drop i s) (sums at n (span (in_class NotLf) (drop at s)) e) where
    sums : (at n k : ℕ) → n ≡ at + k → at + suc k ≡ n + 1
    sums at n k e = omega arith

  pub line_end : length s ≤ n → LineAt s at n n
  line_end h =
      let size = length-drop at s in
      let k : n - at ≡ span (in_class NotLf) (drop at s) = omega arith in
      let l : length s ≤ n + 1 = omega arith in
      record {
        ends = ending (end_last at n (length s) (get_or s (n - 1) 0) h);
        goes_on = going_on (next_last n (length s) h);
        order = omega arith;
        within = in_text;
        beyond = in_text;
        first = ap (λ (i : ℕ). take i (drop at s)) k ∙ sym (first_of_lem (drop at s) ∙ first-take (drop at s) (λ m p q r. omega arith));
        rest = line_rest n (past ∙ drop_of_length-le s l ∙ sym (drop_of_length-le s h));
      }

  pub line_plain : n < length s → (at < n → get_or s (n - 1) 0 ≡ 13 → ⊥) → LineAt s at n (n + 1)
  line_plain h free =
      let size = length-drop at s in
      let k : n - at ≡ span (in_class NotLf) (drop at s) = omega arith in
      record {
        ends = ending (end_plain at n (length s) (get_or s (n - 1) 0) h free);
        goes_on = going_on (next_line n (length s) h);
        order = omega arith;
        within = in_text;
        beyond = λ z. omega arith;
        first = ap (λ (i : ℕ). take i (drop at s)) k ∙ sym (first_of_lem (drop at s) ∙ first-take (drop at s) (λ m p q r. free (omega arith) (ap (λ (i : ℕ). get_or s i 0) (place at n m (e ∙ ap (λ (i : ℕ). at + i) p)) ∙ sym (get_or-drop at s m 0) ∙ r)));
        rest = line_rest (n + 1) past;
      } where
        place : (at n m : ℕ) → n ≡ at + suc m → n - 1 ≡ at + m
        place at n m e = omega arith

  pub line_cr : n < length s → at < n → get_or s (n - 1) 0 ≡ 13 → LineAt s at (n - 1) (n + 1)
  line_cr h l t =
      let size = length-drop at s in
      let m = n - 1 - at in
      let p : span (in_class NotLf) (drop at s) ≡ suc m = omega arith in
      let q : at + m ≡ n - 1 = omega arith in
      record {
        ends = ending (end_cr at n (length s) (get_or s (n - 1) 0) h l t);
        goes_on = going_on (next_line n (length s) h);
        order = omega arith;
        within = λ z. omega arith;
        beyond = λ z. omega arith;
        first = sym (first_of_lem (drop at s) ∙ first_cr (drop at s) m p (omega arith) (get_or-drop at s m 0 ∙ ap (λ (i : ℕ). get_or s i 0) q ∙ t));
        rest = line_rest (n + 1) past;
      }

-- the lines after the one at `at`
pub lines_after : (s : List ℕ) (at : ℕ) → lines (drop (next_after (lf_at s at) (length s)) s) ≡ rest_of (lines (drop at s))
lines_after s at = go (ltb (lf_at s at) (length s)) refl where
  go : (t : Bool) → ltb (lf_at s at) (length s) ≡ t → lines (drop (cond t (lf_at s at + 1) (lf_at s at)) s) ≡ rest_of (lines (drop at s))
  go true e = line_rest s at (lf_at s at) refl (lf_at s at + 1) (past s at (lf_at s at) refl)
  go false e =
      let h = ltb-false (lf_at s at) (length s) e in
      let k : length s ≤ lf_at s at + 1 = omega arith in
      line_rest s at (lf_at s at) refl (lf_at s at) (past s at (lf_at s at) refl ∙ drop_of_length-le s k ∙ sym (drop_of_length-le s h))

-- no line, and a line
pub no_lines : (s : List ℕ) (at : ℕ) → length s ≤ at → lines (drop at s) ≡ []
unfolding lines
no_lines s at h = ap lines (drop_of_length-le s h)

pub some_lines : (s : List ℕ) (at : ℕ) → at < length s → lines (drop at s) ≡ first_of (lines (drop at s)) ∷ rest_of (lines (drop at s))
some_lines s at h = lines_some (drop at s) (omega (arith, length-drop at s))

-- the next line starts further on
pub line_further : {s : List ℕ} {at end next : ℕ} → LineAt s at end next → at < length s → at < next
line_further {s} {at} {end} {next} w h = go (ltb (lf_at s at) (length s)) refl where
  go : (t : Bool) → ltb (lf_at s at) (length s) ≡ t → at < next
  go true e = omega (arith, w.goes_on ∙ sym (next_line (lf_at s at) (length s) (ltb-true (lf_at s at) (length s) e)))
  go false e = omega (arith, ltb-false (lf_at s at) (length s) e, w.goes_on ∙ sym (next_last (lf_at s at) (length s) (ltb-false (lf_at s at) (length s) e)))

-- how many there are
few_first : (b n : ℕ) (t u : Bool) (ls : List (List ℕ)) → length ls ≤ n → length (cond t ([] ∷ ls) (cond u ls (on_first b ls))) ≤ suc n
unfolding on_first
few_first b n true u ls h = omega arith
few_first b n false true ls h = omega arith
few_first b n false false [] h = omega arith
few_first b n false false (l ∷ ls) h = omega arith

pub few_lines : (s : List ℕ) → length (lines s) ≤ length s
unfolding lines
few_lines [] = omega arith
few_lines (b ∷ s) = few_first b (length s) (eqb b 10) (at_lf s && eqb b 13) (lines s) (few_lines s)
