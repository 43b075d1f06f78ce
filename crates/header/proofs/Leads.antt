-- Where the header leads, line by line. Assumes nothing.
use Prim.Native.Nat.{ℕ, zero, suc, ◌-◌, ◌≤◌, ◌<◌}
use native.Mathlib.Omega.{arith}
use mathlib.Core.Path.{◌≡◌, refl, sym, ap, ◌∙◌}
use mathlib.Core.Bool.{Bool, true, false, cond}
use mathlib.Core.List.{List, [], ◌∷◌}
use lib.ListN.{length, take, drop, length-drop}
use borrow.Author.Tests.{le-leb, lt-leb}
use Rattle.std.specs.Prelude.{Option, Some, None}
use Rattle.refusals.specs.Refusals.{bad_header, no_segment, too_many_segments}
use Rattle.refusals.specs.Limits.{most_segments}
use Rattle.text.specs.Text.{unmark, lines, first_of, rest_of, same, starts}
use Rattle.text.specs.Places.{LineAt}
use Rattle.text.proofs.Lines.{no_lines, some_lines}
use Rattle.header.specs.declared.Lead.{Lead}
use Rattle.header.specs.declared.Lead.TheVariants.{Counted, Refuse}
use Rattle.header.specs.Head.{or_empty, text_lines, segment_count, Head, counts, fails, from_count, counted, from_third, from_second, from_lines, title, name_tag}
use Rattle.header.specs.Leads.{next_at, lead_of, number_of_lead, line_of_lead, segments_of_lead, head_by, lead_fits, LeadsTo, Leads}
use Rattle.header.specs.inner.Steps.{SecondLeads, ThirdLeads}

-- ---- an answer of each kind
module _ (room fourth : ℕ) (s : List ℕ) (h : Head) where
  leads : {r : Lead} → r ≡ lead_of h fourth → h ≡ head_by r s → lead_fits room r → LeadsTo room h fourth s r
  leads e f g = record { is = e; number = ap number_of_lead e; line = ap line_of_lead e; segments = ap segments_of_lead e; same = f; fits = g }

  refuses : (a b : ℕ) → h ≡ fails a b → LeadsTo room h fourth s (Refuse a b)
  unfolding lead_of head_by lead_fits
  refuses a b e = leads (sym (ap (λ (x : Head). lead_of x fourth) e)) e tt

  takes : (n at : ℕ) (ls : List (List ℕ)) → h ≡ counts n ls → lines (drop at s) ≡ ls → at ≡ fourth → n ≤ most_segments → n ≤ room → LeadsTo room h fourth s (Counted n at)
  unfolding lead_of head_by lead_fits
  takes n at ls e f g a b = leads (ap (Counted n) g ∙ sym (ap (λ (x : Head). lead_of x fourth) e)) (e ∙ ap (counts n) (sym f)) (a, b)

  -- of another head and place that are the same
  leads_as : (h' : Head) (f : ℕ) → h ≡ h' → f ≡ fourth → (r : Lead) → LeadsTo room h' f s r → LeadsTo room h fourth s r
  leads_as h' f e g r l = leads (l.is ∙ ap (λ (x : Head). lead_of x f) (sym e) ∙ ap (lead_of h) g) (e ∙ l.same) l.fits

-- ---- line 3
some_count : (n : ℕ) → (n ≡ 0 → ⊥) → (ls : List (List ℕ)) → from_count n ls ≡ counts n ls
unfolding from_count
some_count zero f ls = absurd (f refl)
some_count (suc n) f ls = refl

module _ (s : List ℕ) (at room : ℕ) where
  pub third_end : length s ≤ at → ThirdLeads room s at (Refuse no_segment 4)
  unfolding from_third
  third_end h = refuses room _ s _ no_segment 4 (ap (from_third room) (no_lines s at h))

  module _ (h : at < length s) (end next : ℕ) (w : LineAt s at end next) (k : Option ℕ) (q : k ≡ segment_count (take (end - at) (drop at s))) where
    by : from_third room (lines (drop at s)) ≡ counted room k (rest_of (lines (drop at s)))
    unfolding from_third
    by = ap (from_third room) (some_lines s at h) ∙ ap (λ (c : Option ℕ). counted room c (rest_of (lines (drop at s)))) (sym (q ∙ ap segment_count w.first))

    pub third_bad : k ≡ None → ThirdLeads room s at (Refuse bad_header 3)
    unfolding counted
    third_bad e = refuses room _ s _ bad_header 3 (by ∙ rw e)

    module _ (n : ℕ) (e : k ≡ Some n) where
      pub third_most : most_segments < n → ThirdLeads room s at (Refuse too_many_segments 3)
      unfolding counted
      third_most a = refuses room _ s _ too_many_segments 3 (by ∙ rw (e, lt-leb n most_segments a))

      pub third_room : n ≤ most_segments → room < n → ThirdLeads room s at (Refuse too_many_segments 3)
      unfolding counted
      third_room a b = refuses room _ s _ too_many_segments 3 (by ∙ rw (e, le-leb n most_segments a, lt-leb n room b))

      pub third_zero : n ≤ room → n ≡ 0 → ThirdLeads room s at (Refuse no_segment 4)
      unfolding counted from_count
      third_zero b f = refuses room _ s _ no_segment 4 (by ∙ rw (e, le-leb n most_segments (omega arith), le-leb n room b, f))

      pub third_some : n ≤ most_segments → n ≤ room → (n ≡ 0 → ⊥) → ThirdLeads room s at (Counted n next)
      unfolding counted
      third_some a b f =
          takes room _ s _ n next (rest_of (lines (drop at s))) (by ∙ rw (e, le-leb n most_segments a, le-leb n room b) (some_count n f (rest_of (lines (drop at s)))))
          w.rest w.goes_on a b

-- ---- line 2
module _ (s : List ℕ) (at room : ℕ) where
  pub second_end : length s ≤ at → SecondLeads room s at (Refuse no_segment 4)
  unfolding from_second
  second_end h = refuses room _ s _ no_segment 4 (ap (from_second room) (no_lines s at h))

  module _ (h : at < length s) (end next : ℕ) (w : LineAt s at end next) (t : Bool) (q : t ≡ starts name_tag (take (end - at) (drop at s))) where
    by2 : from_second room (lines (drop at s)) ≡ cond t (from_third room (rest_of (lines (drop at s)))) (fails bad_header 2)
    unfolding from_second
    by2 =
        ap (from_second room) (some_lines s at h)
        ∙ ap (λ (c : Bool). cond c (from_third room (rest_of (lines (drop at s)))) (fails bad_header 2)) (sym (q ∙ ap (starts name_tag) w.first))

    pub second_bad : t ≡ false → SecondLeads room s at (Refuse bad_header 2)
    second_bad e = refuses room _ s _ bad_header 2 (by2 ∙ rw e)

    pub second_go : t ≡ true → (r : Lead) → ThirdLeads room s next r → SecondLeads room s at r
    second_go e r l = leads_as room _ s _ _ _ (by2 ∙ rw e (ap (from_third room) (sym w.rest))) (ap (next_at s) w.goes_on) r l

-- ---- line 1
or_empty_lem : (room : ℕ) (ls : List (List ℕ)) → from_lines room (or_empty ls) ≡ cond (same title (first_of ls)) (from_second room (rest_of ls)) (fails bad_header 1)
unfolding from_lines or_empty first_of rest_of
or_empty_lem room [] = refl
or_empty_lem room (l ∷ ls) = refl

some_text : (s : List ℕ) → (length s ≡ 0 → ⊥) → text_lines s ≡ or_empty (lines (unmark s))
unfolding text_lines
some_text [] n = absurd (n refl)
some_text (b ∷ s) n = refl

no_text : (s : List ℕ) → length s ≡ 0 → text_lines s ≡ []
unfolding text_lines
no_text [] e = refl
no_text (b ∷ s) e = absurd (omega arith)

module _ (s : List ℕ) (room : ℕ) where
  pub first_end : length s ≡ 0 → Leads room s (Refuse no_segment 4)
  unfolding from_lines
  first_end e = refuses room _ s _ no_segment 4 (ap (from_lines room) (no_text s e))

  module _ (n : length s ≡ 0 → ⊥) (at : ℕ) (b : at ≤ length s) (u : drop at s ≡ unmark s) (end next : ℕ) (w : LineAt s at end next) (t : Bool) (q : t ≡ same title (take (end - at) (drop at s))) where
    by1 : from_lines room (text_lines s) ≡ cond t (from_second room (rest_of (lines (drop at s)))) (fails bad_header 1)
    by1 =
        ap (from_lines room) (some_text s n ∙ ap (λ (v : List ℕ). or_empty (lines v)) (sym u)) ∙ or_empty_lem room (lines (drop at s))
        ∙ ap (λ (c : Bool). cond c (from_second room (rest_of (lines (drop at s)))) (fails bad_header 1)) (sym (q ∙ ap (same title) w.first))

    pub first_bad : t ≡ false → Leads room s (Refuse bad_header 1)
    first_bad e = refuses room _ s _ bad_header 1 (by1 ∙ rw e)

    start : at ≡ length s - length (unmark s)
    start = let e : length s - at ≡ length (unmark s) = sym (length-drop at s) ∙ ap length u in omega arith

    pub first_go : t ≡ true → (r : Lead) → SecondLeads room s next r → Leads room s r
    first_go e r l =
        leads_as room _ s _ _ _ (by1 ∙ rw e (ap (from_second room) (sym w.rest)))
        (ap (λ (x : ℕ). next_at s (next_at s x)) (w.goes_on ∙ ap (next_at s) start)) r l
