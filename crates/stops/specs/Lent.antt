-- A ramp as one value, and how a contract reads it from what is lent: in code a ramp is a kind and three slices, here it is one record.
use Rattle.std.specs.Prelude.{List, ℕ, Float}
use Rattle.std.specs.Borrow.{Bor, MutBor}
use denote.Triple.Both.{Both}
use Rattle.stops.specs.declared.Kind.{Kind}

pub record Ramp : Type 0 where
  pub kind : Kind
  pub positions : List Float
  pub channels : List Float
  pub codes : List ℕ

-- of plain lists
abbrev pub ramp_of : Kind → List Float → List Float → List ℕ → Ramp
ramp_of kind ps cs ks = record { kind = kind; positions = ps; channels = cs; codes = ks }

-- a value at entry and at exit
abbrev pub Change : Type 0 → Type 0
Change A = Both A A

abbrev pub change : {A : Type 0} → A → A → Change A
change before after = record { entry = before; exit = after }

-- a slice that is only read as a `requires` and a proof's `.args` name it, and as an `ensures` does; and one that is written, as an `ensures` names it
abbrev pub Slice : Type 0 → Type 0
Slice A = Bor (List A)

abbrev pub Lent : Type 0 → Type 0
Lent A = Change (Slice A)

abbrev pub LentMut : Type 0 → Type 0
LentMut A = Change (MutBor (List A))

-- a ramp in a `requires`, and of `.args`; and in an `ensures`
abbrev pub ramp_in : Kind → Slice Float → Slice Float → Slice ℕ → Ramp
ramp_in kind ps cs ks = ramp_of kind ps.now cs.now ks.now

abbrev pub lent_ramp : Kind → Lent Float → Lent Float → Lent ℕ → Ramp
lent_ramp kind ps cs ks = ramp_of kind ps.entry.now cs.entry.now ks.entry.now
