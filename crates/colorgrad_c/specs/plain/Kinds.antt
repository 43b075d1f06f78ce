-- The kinds of ramp by their codes. A code that names none is refused with 1, like a ramp of the wrong shape.
use Rattle.std.specs.Prelude.{ℕ, ◌≡◌, List, Option, Some, None, cond, eqb, Float}
use Rattle.stops.specs.declared.Kind.TheVariants.{Linear, Smoothstep, Sharp, Basis, CatmullRom, Gimp, GimpSaved}
use Rattle.stops.specs.Lent.{Lent, Ramp, lent_ramp}
use Rattle.stops.specs.declared.Kind.{Kind}
use Rattle.colorgrad_c.specs.plain.Telling.{telling, Reply, after}

unfoldable pub kind_of : ℕ → Option Kind
kind_of code =
    cond (eqb code 0) (Some Linear)
    (cond (eqb code 1) (Some Smoothstep)
    (cond (eqb code 2) (Some Sharp)
    (cond (eqb code 3) (Some Basis)
    (cond (eqb code 4) (Some CatmullRom)
    (cond (eqb code 5) (Some Gimp)
    (cond (eqb code 6) (Some GimpSaved) None))))))

-- what is promised of an answer: for the kind of a code, and for a code that names none
abbrev pub on_kind : {A : Type 0} → Option Kind → (Kind → A → Type 0) → (A → Type 0) → A → Type 0
on_kind (Some kind) known unknown = known kind
on_kind None known unknown = unknown

-- b shows an answer that is promised
pub record ShowsOf {A B : Type 0} (promise : A → Type 0) (show : A → B) (b : B) : Type 0 where
  pub answer : A
  pub promised : promise answer
  pub shown : b ≡ show answer

-- b shows an answer that is promised for the code
pub record Shows {A B : Type 0} (code : ℕ) (known : Kind → A → Type 0) (unknown : A → Type 0) (show : A → B) (b : B) : Type 0 where
  pub shows : ShowsOf (on_kind (kind_of code) known unknown) show b

-- a number and values of an answer that is promised for the code are what is answered and told: into one slice, and into two
module _ {A : Type 0} (code : ℕ) (known : Kind → A → Type 0) (unknown : A → Type 0) (number : A → ℕ) where
  abbrev pub Tells : {X : Type 0} → (A → List X) → Reply (List X) → Type 0
  Tells values r = Shows code known unknown (λ a. (number a, telling (values a) r.told.entry)) (after r)

  abbrev pub TellsBoth : (A → List ℕ) → (A → List Float) → Reply (List ℕ × List Float) → Type 0
  TellsBoth values floats r =
      Shows code known unknown
      (λ a. (number a, (telling (values a) r.told.entry.0, telling (floats a) r.told.entry.1)))
      (after r)

-- a ramp by the code of its kind: as it is lent, for any kind
pub record CodedRamp : Type 0 where
  pub code : ℕ
  pub ramp : Kind → Ramp

abbrev pub ramp_by : ℕ → Lent Float → Lent Float → Lent ℕ → CodedRamp
ramp_by code ps cs ks = record { code = code; ramp = λ kind. lent_ramp kind ps cs ks }
