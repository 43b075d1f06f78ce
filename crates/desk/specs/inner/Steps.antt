-- What the functions within promise each other.
use Rattle.std.specs.Prelude.{ℕ, ◌≡◌, List, [], length, Float}
use Rattle.stops.specs.Lent.{Ramp, ramp_of, Lent}
use Rattle.stops.specs.declared.Kind.{Kind}
use Rattle.linearize.specs.declared.Listed.{Listed}
use Rattle.linearize.specs.declared.Listed.TheVariants as listed
use Rattle.writing.specs.Printed.{reply_text}
use Rattle.writing.specs.declared.Reply.{Reply}
use Rattle.writing.specs.declared.Reply.TheVariants as reply

-- a ramp of stops that are lent
abbrev pub stop_ramp : Kind → Lent Float → Lent Float → Ramp
stop_ramp kind ps cs = ramp_of kind ps.entry.now cs.entry.now []

-- what is said of a list
abbrev pub reply_of : Listed → Reply
reply_of (listed.Done n e) = reply.Made n e
reply_of (listed.Refused number) = reply.Refused number

-- a reply, with what is lent to it, prints this text
pub record Says (text : List ℕ) (r : Reply) (ps cs : List Float) : Type 0 where
  pub is : reply_text r ps cs ≡ text

-- two outputs with room for a list
pub record Room (ps cs : List Float) : Type 0 where
  pub positions : length ps ≡ 1000
  pub channels : length cs ≡ 4000
