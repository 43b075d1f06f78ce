-- Any two results that a promise allows coincide, where the promise has the shape 'equals a definition'.
use Rattle.std.specs.Prelude.{◌≡◌}
use Rattle.std.proofs.Common.{sym, ◌∙◌, ap₂}

-- A promise is of the answer and of what the parameters hold at the end; `seen` is what a caller sees of these.
abbrev pub Coincide : {R E X : Type 0} → (R → E → Type 0) → (R → E → X) → Type 0
Coincide {R} {E} P seen = (r s : R) (e f : E) → P r e → P s f → seen r e ≡ seen s f

-- the promise says that what is seen equals d
pub coincide : {R E X : Type 0} {P : R → E → Type 0} {seen : R → E → X} {d : X} → ((r : R) (e : E) → P r e → seen r e ≡ d) → Coincide P seen
coincide is r s e f p q = is r e p ∙ sym (is s f q)

-- of an answer alone
abbrev pub answer : {R E : Type 0} → R → E → R
answer r e = r

-- of an answer with what lent memory holds, or of two lent slices
infixr 20 ◌with◌
abbrev pub ◌with◌ : {A B : Type 0} → A → B → A × B
a with b = (a, b)

pub both : {A B : Type 0} {a c : A} {b d : B} → a ≡ c → b ≡ d → a with b ≡ c with d
both p q = ap₂ ◌with◌ p q
