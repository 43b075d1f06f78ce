-- An answer shown: of a kind, and of a code that names none. Assumes nothing.
use mathlib.Core.Path.{◌≡◌, sym, ap₂, subst, ◌∙◌}
use Prim.Native.Nat.{ℕ}
use Rattle.std.specs.Prelude.{Option, Some, None}
use Rattle.stops.specs.declared.Kind.{Kind}
use Rattle.colorgrad_c.specs.plain.Kinds.{kind_of, on_kind, Shows}

module _ {A B : Type 0} {code : ℕ} {x : Option Kind} {P : Kind → A → Type 0} {Q : A → Type 0} {show : A → B} {b : B} (a : A) (is : x ≡ kind_of code) where
  pub of_a_kind : {kind : Kind} → x ≡ Some kind → P kind a → b ≡ show a → Shows code P Q show b
  of_a_kind e p h = record { shows = record { answer = a; promised = subst (λ (z : Option Kind). on_kind z P Q a) (sym e ∙ is) p; shown = h } }

  pub of_no_kind : x ≡ None → Q a → b ≡ show a → Shows code P Q show b
  of_no_kind e q h = record { shows = record { answer = a; promised = subst (λ (z : Option Kind). on_kind z P Q a) (sym e ∙ is) q; shown = h } }

-- a number and what is told, as one answer: into one slice, and into two
pub paired : {A B : Type 0} {a c : A} {b d : B} → a ≡ c → b ≡ d → ◌≡◌ {A = A × B} (a, b) (c, d)
paired {A} {B} e f = ap₂ (λ (x : A) (y : B). (x, y)) e f

pub paired_both : {A B C : Type 0} {a d : A} {b e : B} {c f : C} → a ≡ d → b ≡ e → c ≡ f → ◌≡◌ {A = A × (B × C)} (a, (b, c)) (d, (e, f))
paired_both e f h = paired e (paired f h)
