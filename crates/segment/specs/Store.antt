-- Segments in the three lists that hold them, as one record, and how a contract reads it from what is lent. Document 01, 'What a GIMP file may hold'.
use Rattle.std.specs.Prelude.{ℕ, ◌*◌, ◌≡◌, List, [], ◌∷◌, ◌++◌, Float}
use Rattle.std.proofs.lemmas.List.Edits.{sets}
use Rattle.blend.specs.Channels.{channels_of}
use Rattle.stops.specs.Lent.{Change, change, LentMut}
use Rattle.gradient.specs.declared.gimp.Segment.{Segment}

pub record Store : Type 0 where
  pub positions : List Float
  pub channels : List Float
  pub codes : List ℕ

-- of plain lists, and in an `ensures`
abbrev pub store_of : List Float → List Float → List ℕ → Store
store_of ps cs ks = record { positions = ps; channels = cs; codes = ks }

abbrev pub lent_store : LentMut Float → LentMut Float → LentMut ℕ → Change Store
lent_store ps cs ks = change (store_of ps.entry.now cs.entry.now ks.entry.now) (store_of ps.exit.now cs.exit.now ks.exit.now)

-- 3 positions, 8 channels and 2 codes of a segment
unfoldable pub segment_positions : Segment → List Float
segment_positions g = g.left ∷ g.middle ∷ g.right ∷ []

unfoldable pub segment_channels : Segment → List Float
segment_channels g = channels_of g.lcolor ++ channels_of g.rcolor

unfoldable pub segment_codes : Segment → List ℕ
segment_codes g = g.blending ∷ g.colouring ∷ []

-- segment i put in its place, as much of it as each list has room for
abbrev pub stored : ℕ → Segment → Store → Store
stored i g s =
    store_of (sets s.positions (3 * i) (segment_positions g)) (sets s.channels (8 * i) (segment_channels g)) (sets s.codes (2 * i) (segment_codes g))

abbrev pub Stores : ℕ → Segment → Change Store → Type 0
Stores i g s = s.exit ≡ stored i g s.entry
