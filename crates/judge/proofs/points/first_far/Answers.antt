-- `first_far` meets its contract: the first failing of the points that are left is that of all. Assumes nothing.
use mathlib.Core.Path.{◌≡◌, sym, ap, ◌∙◌}
use mathlib.Core.List.{List}
use Prim.Native.Nat.{ℕ, ◌+◌, ◌-◌, ◌≤◌, ◌<◌}
use native.Mathlib.Omega.{arith}
use lib.ListN.{length, get_or, take, drop, length-take, length-drop}
use lib.Ieee.{Float, nan}
use Rattle.std.proofs.lemmas.List.{get_or-take, get_or-drop}
use Rattle.float.proofs.Flags.{failed, passed}
use Rattle.gradient.specs.Lent.{lent_ramp}
use Rattle.judge.specs.Lists.{offer_in}
use Rattle.judge.specs.inner.Steps.{any_close}
use Rattle.judge.proofs.Failing.{fails_here, goes_on, none_left, from_start}
use Rattle.judge.proofs.points.first_far.Goals as goal

-- the points that are looked at, among all of the record
module _ (rows : List Float) (at count : ℕ) (h : at + count ≤ length rows) where
  many : length (take (at + count - at) (drop at rows)) ≡ count
  many = omega (arith, length-take (at + count - at) (drop at rows), length-drop at rows)

  point : (j : ℕ) → j < length (take (at + count - at) (drop at rows)) → get_or (take (at + count - at) (drop at rows)) j nan ≡ get_or rows (at + j) nan
  point j l = get_or-take (at + count - at) (drop at rows) j nan (omega (arith, many)) ∙ get_or-drop at rows j nan

pub loop-j-init : goal.loop-j-init
loop-j-init c = from_start _ _

pub returns-then-not-is_close : goal.returns-then-not-is_close
returns-then-not-is_close c =
    let a = c.args in
    let near = any_close (lent_ramp a.ramp.now) (offer_in a.places a.colours) a.threshold in
    let here : a.count ≡ length (take (a.at + a.count - a.at) (drop a.at a.rows.now)) = sym (many a.rows.now a.at a.count c.requires) in
    sym (fails_here _ _ _ (omega arith) (failed c.if-not-is_close.true (c.is_close.ensures ∙ ap near (point a.rows.now a.at a.count c.requires c.loop-j.j c.loop-j-test.true)))) ∙ c.loop-j.invariant

pub loop-j-preserved : goal.loop-j-preserved
loop-j-preserved c =
    let a = c.args in
    let near = any_close (lent_ramp a.ramp.now) (offer_in a.places a.colours) a.threshold in
    let here : a.count ≡ length (take (a.at + a.count - a.at) (drop a.at a.rows.now)) = sym (many a.rows.now a.at a.count c.requires) in
    goes_on _ _ _ (omega arith) (passed c.if-not-is_close.false (c.is_close.ensures ∙ ap near (point a.rows.now a.at a.count c.requires c.loop-j.j c.loop-j-test.true))) ∙ c.loop-j.invariant

pub returns : goal.returns
returns c =
    let a = c.args in
    let here : a.count ≡ length (take (a.at + a.count - a.at) (drop a.at a.rows.now)) = sym (many a.rows.now a.at a.count c.requires) in
    omega arith ∙ sym (none_left _ _ _ (omega arith)) ∙ c.loop-j.invariant
