-- A list made elsewhere: how it is lent, what it must be by itself, and its colours. Document 02 (xi).
use Rattle.std.specs.Prelude.{ℕ, zero, suc, ◌-◌, ◌*◌, Bool, not, cond, ◌&&◌, List, [], leb, eqb, length, Float}
use Rattle.std.specs.Float.Ieee.{lt}
use Rattle.std.specs.Float.Ieee.Scale.{finite}
use Rattle.stops.specs.Lent.{Ramp, ramp_of, Slice, Lent}
use Rattle.stops.specs.Stops.{pos_at, colour_at, finite_rgba}
use Rattle.stops.specs.declared.Kind.TheVariants.{Linear}

-- the list that is offered: a position and four channels for each stop
pub record Offer : Type 0 where
  pub positions : List Float
  pub channels : List Float

-- of plain lists; in a `requires`, and of `.args`; in an `ensures`
abbrev pub offer_of : List Float → List Float → Offer
offer_of ps cs = record { positions = ps; channels = cs }

abbrev pub offer_in : Slice Float → Slice Float → Offer
offer_in ps cs = offer_of ps.now cs.now

abbrev pub lent_offer : Lent Float → Lent Float → Offer
lent_offer ps cs = offer_of ps.entry.now cs.entry.now

-- ---- 2 to 4,609 stops; slices whose lengths disagree are a wrong length too
abbrev pub most_listed : ℕ
most_listed = 4609

unfoldable pub sized : ℕ → ℕ → Bool
sized n m = leb 2 n && leb n most_listed && eqb m (4 * n)

-- ---- finite and never falling
-- stop i. The first has none before it, and is not below itself
unfoldable pub good_stop : List Float → List Float → ℕ → Bool
good_stop ps cs i = finite (pos_at ps i) && finite_rgba (colour_at cs i) && not (lt (pos_at ps i) (pos_at ps (i - 1)))

-- the first of `left` numbers from i on that fails a test; the one after them where none does
unfoldable pub first_failing : (ℕ → Bool) → ℕ → ℕ → ℕ
first_failing test zero i = i
first_failing test (suc left) i = cond (test i) (first_failing test left (suc i)) i

unfoldable pub first_bad : Offer → ℕ
first_bad offer = first_failing (good_stop offer.positions offer.channels) (length offer.positions) 0

-- ---- its colours are those of linear stops: document 01's choice and mix
abbrev pub offered_ramp : Offer → Ramp
offered_ramp offer = ramp_of Linear offer.positions offer.channels []
