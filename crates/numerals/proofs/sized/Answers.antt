-- `sized` meets its contract: the bits have the digits and the power of two. Assumes nothing.
use native.Mathlib.Omega.{arith}
use denote.Floats.{passes}
use lib.Ieee.{binary32, to_bits}
use Rattle.numerals.proofs.Put.{text_none, text_as}
use Rattle.numerals.proofs.Above.{too_low, too_high, above_no_nan, Found, found}
use Rattle.numerals.proofs.sized.Goals as goal
use Rattle.numerals.proofs.sized.Lts
use Rattle.numerals.proofs.sized.Tie
use Rattle.numerals.proofs.sized.Reads

abbrev At-Else-y-2 : Type 0
At-Else-y-2 = Lts.Else2 Tie.the-claims Reads.Pre Reads.Post

-- what the bits say
bits_say : (c : At-Else-y-2) → Found c.args.y (to_bits binary32 c.args.y)
bits_say c = found c.args.y c.requires (passes _ c.well_formed.0.1) c.if-y.false c.if-y-2.false

pub returns-then-y : goal.returns-then-y
returns-then-y c = let a = c.args in text_none _ _ _ (too_low a.y a.neg c.requires c.if-y.true) c.none.ensures.0 c.none.ensures.1

pub returns-then-y-2 : goal.returns-then-y-2
returns-then-y-2 c = let a = c.args in text_none _ _ _ (too_high a.y a.neg c.requires c.if-y-2.true) c.none-then-y-2.ensures.0 c.none-then-y-2.ensures.1

pub float_to_bits-b : goal.float_to_bits-b
float_to_bits-b c = above_no_nan c.args.y c.requires

pub overflow_sub-field : goal.overflow_sub-field
overflow_sub-field c = (bits_say c).under

pub nine_text-requires : goal.nine_text-requires
nine_text-requires c = record { lo = omega arith; hi = omega arith; low = (bits_say c).low; high = (bits_say c).high; reach = (bits_say c).reach }

pub returns : goal.returns
returns c = text_as _ _ _ _ ((bits_say c.before).text_is c.args.neg) c.nine_text.ensures
