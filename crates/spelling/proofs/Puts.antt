-- Laws of bytes put into a buffer, and of what the bytes of a line stand for. Assumes nothing.
use Prim.Native.Nat.{ℕ, suc, ◌+◌, ◌≤◌, ◌<◌}
use native.Mathlib.Numerals.{add-one}
use native.Mathlib.Omega.{arith}
use mathlib.Core.Path.{◌≡◌, refl, sym, ap, ◌∙◌}
use mathlib.Core.List.{List, [], ◌∷◌, ◌++◌}
use lib.ListN.{length, drop, get_or, set, length-set, drop_of_length-le}
use lib.Seq.{drop-cons}
use lib.Dec.{eqb}
use borrow.Author.Tests.{lt-ltb, le-ltb, eq-eqb, ne_eqb}
use Rattle.std.specs.List.{count_by}
use Rattle.std.proofs.lemmas.List.Recursion.{is_count_by}
use Rattle.spelling.specs.Spelling.{next_in, put_all, place_after, plain_of, meant_by, meant, hits}

pub next_in_lem : (size at : ℕ) → at < size → at + 1 ≡ next_in size at
unfolding next_in
next_in_lem size at h = rw (lt-ltb at size h)

pub next_out : (size at : ℕ) → size ≤ at → at ≡ next_in size at
unfolding next_in
next_out size at h = rw (le-ltb at size h)

-- ---- one text after the other
pub put_size : (buf : List ℕ) (at : ℕ) (s : List ℕ) → length (put_all buf at s) ≡ length buf
unfolding put_all
put_size buf at [] = refl
put_size buf at (b ∷ s) = put_size (set buf at b) (next_in (length buf) at) s ∙ length-set buf at b

put_append : (buf : List ℕ) (at : ℕ) (s t : List ℕ) → put_all buf at (s ++ t) ≡ put_all (put_all buf at s) (place_after (length buf) at s) t
unfolding put_all place_after
put_append buf at [] t = refl
put_append buf at (b ∷ s) t =
    put_append (set buf at b) (next_in (length buf) at) s t
    ∙ ap (λ (m : ℕ). put_all (put_all (set buf at b) (next_in (length buf) at) s) (place_after m (next_in (length buf) at) s) t) (length-set buf at b)

place_append : (size at : ℕ) (s t : List ℕ) → place_after size at (s ++ t) ≡ place_after size (place_after size at s) t
unfolding place_after
place_append size at [] t = refl
place_append size at (b ∷ s) t = place_append size (next_in size at) s t

-- ---- what a loop keeps: what is left of s, put after the bytes before it, makes the whole
pub record Putting (f : List ℕ → List ℕ) (buf₀ : List ℕ) (at : ℕ) (s buf : List ℕ) (n i : ℕ) : Type 0 where
  pub size : length buf ≡ length buf₀
  pub put : put_all buf n (f (drop i s)) ≡ put_all buf₀ at (f s)
  pub place : place_after (length buf₀) n (f (drop i s)) ≡ place_after (length buf₀) at (f s)

pub putting_none : (f : List ℕ → List ℕ) (buf : List ℕ) (at : ℕ) (s : List ℕ) → Putting f buf at s buf at 0
putting_none f buf at s = record { size = refl; put = refl; place = refl }

module _ {f : List ℕ → List ℕ} {buf₀ : List ℕ} {at : ℕ} {s buf : List ℕ} {n i : ℕ} (w : Putting f buf₀ at s buf n i) where
  -- the part x of what is left is put
  pub putting_more : (x : List ℕ) → f (drop i s) ≡ x ++ f (drop (i + 1) s) → {buf' : List ℕ} {m : ℕ} → buf' ≡ put_all buf n x → m ≡ place_after (length buf) n x → Putting f buf₀ at s buf' m (i + 1)
  putting_more x e {buf'} {m} p q =
      let rest = f (drop (i + 1) s) in
      record {
        size = ap length p ∙ put_size buf n x ∙ w.size;
        put = sym (ap (put_all buf n) e ∙ put_append buf n x rest ∙ rw (← p, ← q)) ∙ w.put;
        place = sym (ap (place_after (length buf₀) n) e ∙ place_append (length buf₀) n x rest ∙ rw (← w.size, ← q)) ∙ w.place;
      }

  pub putting_all : f [] ≡ [] → length s ≤ i → (buf ≡ put_all buf₀ at (f s)) × (n ≡ place_after (length buf₀) at (f s))
  unfolding put_all place_after
  putting_all e h =
      let z : f (drop i s) ≡ [] = ap f (drop_of_length-le s h) ∙ e in
      (sym (ap (put_all buf n) z) ∙ w.put, sym (ap (place_after (length buf₀) n) z) ∙ w.place)

-- one byte
pub put_one : (buf : List ℕ) (at b : ℕ) → set buf at b ≡ put_all buf at (b ∷ [])
unfolding put_all
put_one buf at b = refl

pub place_one : (size at b : ℕ) → next_in size at ≡ place_after size at (b ∷ [])
unfolding place_after
place_one size at b = refl

pub same_one : (s : List ℕ) (i : ℕ) → i < length s → drop i s ≡ (get_or s i 0 ∷ []) ++ drop (i + 1) s
same_one s i h = rw (add-one) (drop-cons s i 0 h)

pub meant_one : (s : List ℕ) (i : ℕ) → i < length s → meant (drop i s) ≡ meant_by (get_or s i 0) ++ meant (drop (i + 1) s)
unfolding meant
meant_one s i h = ap meant (drop-cons s i 0 h) ∙ rw (add-one)

pub meant_mark : (b : ℕ) → b ≡ 64 → meant_by b ≡ 0xEF ∷ 0xBB ∷ 0xBF ∷ []
unfolding meant_by
meant_mark b e = rw (eq-eqb b 64 e)

pub meant_plain : (b : ℕ) → (b ≡ 64 → ⊥) → meant_by b ≡ plain_of b ∷ []
unfolding meant_by
meant_plain b e = rw (ne_eqb b 64 e)

pub meant_none : meant [] ≡ []
unfolding meant
meant_none = refl

-- ---- how many
pub hits_are : (b : ℕ) (s : List ℕ) → count_by (λ c. eqb c b) s ≡ hits b s
unfolding hits
hits_are b s = sym (is_count_by (hits b) (λ c. eqb c b) refl (λ x xs. let e : 1 + hits b xs ≡ suc (hits b xs) = omega arith in rw e) s)
