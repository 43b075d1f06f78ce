-- `decimal::long::with_power` meets its contract: by what follows the digits. Assumes nothing.
use mathlib.Core.Path.{refl, sym, ◌∙◌, subst}
use mathlib.Core.Logic.{inl}
use mathlib.Core.List.{List}
use Prim.Native.Nat.{ℕ, ◌<◌}
use native.Mathlib.Omega.{arith}
use lib.ListN.{length, drop}
use Rattle.decimal.specs.Decimal.{value_after}
use Rattle.decimal.specs.inner.Counted.{Saturates}
use Rattle.decimal.proofs.LongAfter.{after_end, after_other, after_none, after_stopped, after_power, power_digits}
use Rattle.decimal.proofs.long.with_power.Goals as goal
use Rattle.decimal.proofs.long.with_power.Lts
use Rattle.decimal.proofs.long.with_power.Tie
use Rattle.decimal.proofs.long.with_power.Reads

abbrev At-Else-at-s : Type 0
At-Else-at-s = Lts.Else1 Tie.the-claims Reads.Pre Reads.Post

there : (c : At-Else-at-s) → c.args.d.end < length c.args.s.now
there c = let f = c.if-at-s.false in omega arith

pub returns-then-at-s : goal.returns-then-at-s
returns-then-at-s c = λ ds w g. c.number.ensures ds 0 w g (inl refl) ∙ sym (after_end _ ds _ _ _ c.requires.0 c.if-at-s.true)

pub returns-then-not-is_mark : goal.returns-then-not-is_mark
returns-then-not-is_mark c = λ ds w g. after_other _ ds _ _ _ (there c.before.before.before.before) (sym c.is_mark.ensures ∙ c.if-not-is_mark.true)

pub returns-then-end-from : goal.returns-then-end-from
returns-then-end-from c = λ ds w g.
    after_none _ ds _ _ _ (there c.before.before.before.before.before.before.before) (sym c.is_mark.ensures ∙ c.if-not-is_mark.false) _ _ _ c.sign_at-sign.ensures c.power_at-power.ensures.run c.if-end-from.true

pub returns-then-end-s : goal.returns-then-end-s
returns-then-end-s c = λ ds w g.
    after_stopped _ ds _ _ _ (there c.before.before.before.before.before.before.before.before) (sym c.is_mark.ensures ∙ c.if-not-is_mark.false) _ _ _ c.sign_at-sign.ensures c.power_at-power.ensures.run c.if-end-s.true

pub returns : goal.returns
returns c = λ ds w g.
    let h = there c.before.before.before.before.before.before.before.before.before in
    let m = sym c.is_mark.ensures ∙ c.if-not-is_mark.false in
    let p = c.power_at-power in
    let a = c.args in
    let s = a.s.now in
    let from = c.sign_at-sign.result.end in
    let e = power_digits a.d.neg ds a.d.places s a.d.end h m _ _ _ c.sign_at-sign.ensures p.ensures.run c.if-end-from.false c.if-end-s.false in
    c.number-2.ensures ds (value_after 0 (drop from s)) w g (subst (λ (l : List ℕ). Saturates p.result.value (value_after 0 l)) e p.ensures.is)
    ∙ sym (after_power a.d.neg ds a.d.places s a.d.end h m _ _ _ c.sign_at-sign.ensures p.ensures.run c.if-end-from.false c.if-end-s.false)
