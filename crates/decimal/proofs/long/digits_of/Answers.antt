-- `decimal::long::digits_of` meets its contract: the sign, the digits before the point, and those after it. Assumes nothing.
use mathlib.Core.Path.{◌≡◌, sym, ap, ◌∙◌}
use mathlib.Core.List.{[], ◌++◌}
use Prim.Native.Nat.{ℕ, ◌+◌, ◌-◌, ◌<◌, zero-le}
use native.Mathlib.Omega.{arith}
use lib.ListN.{length, drop, length-append}
use Rattle.decimal.specs.Long.{first_digits, after_digits}
use Rattle.decimal.proofs.Counting.{counts_nothing}
use Rattle.decimal.proofs.LongAfter.{whole_only, point_there, with_point}
use Rattle.decimal.proofs.long.digits_of.Goals as goal
use Rattle.decimal.proofs.long.digits_of.Lts
use Rattle.decimal.proofs.long.digits_of.Tie
use Rattle.decimal.proofs.long.digits_of.Reads

abbrev At-Else-not-is_point : Type 0
At-Else-not-is_point = Lts.Else1 Tie.the-claims Reads.Pre Reads.Post

-- from `from` to `at` there are n
passed : (from at n : ℕ) → at ≡ from + n → at - from ≡ n
passed from at n e = omega arith

there : (c : At-Else-not-is_point) → c.count_digits-whole.result.end < length c.args.s.now
there c = point_there _ _ _ _ c.sign_at-sign.ensures c.count_digits-whole.ensures.run (sym c.is_point.ensures ∙ c.if-not-is_point.false)

added : {x y u v : ℕ} → x ≡ u → y ≡ v → x + y ≡ u + v
added {x} {y} {u} {v} e f = omega arith

pub returns-then-not-is_point : goal.returns-then-not-is_point
returns-then-not-is_point c =
    let s = c.args.s.now in
    let sign = c.sign_at-sign in
    let whole = c.count_digits-whole in
    let from = sign.result.end in
    let at = whole.result.end in
    record {
      ds = first_digits (drop from s);
      counts = whole.ensures.counts [] counts_nothing;
      many = passed from at _ whole.ensures.run.many;
      is = whole_only s _ from at sign.ensures whole.ensures.run (sym c.is_point.ensures ∙ c.if-not-is_point.true);
      within = whole.ensures.run.within;
      zeros = whole.ensures.zeros;
      places = zero-le;
    }

pub count_digits-both-requires : goal.count_digits-both-requires
count_digits-both-requires c = let h = there c.before in let w = c.count_digits-whole.ensures in (omega arith, (omega (arith, w.zeros), w.small))

pub returns : goal.returns
returns c =
    let s = c.args.s.now in
    let sign = c.sign_at-sign in
    let whole = c.count_digits-whole in
    let both = c.count_digits-both in
    let from = sign.result.end in
    let at = whole.result.end in
    let end = both.result.end in
    let xs = first_digits (drop from s) in
    let ys = first_digits (drop (at + 1) s) in
    let k : end - (at + 1) ≡ length ys = passed (at + 1) end (length ys) both.ensures.run.many in
    record {
      ds = xs ++ ys;
      counts = both.ensures.counts xs (whole.ensures.counts [] counts_nothing);
      many = added (passed from at (length xs) whole.ensures.run.many) k ∙ sym (length-append xs ys);
      is =
          ap (λ (x : ℕ). after_digits sign.result.minus (xs ++ ys) x (drop end s)) k
          ∙ with_point s _ from at sign.ensures whole.ensures.run (sym c.is_point.ensures ∙ c.if-not-is_point.false) end both.ensures.run;
      within = both.ensures.run.within;
      zeros = both.ensures.zeros;
      places = omega arith;
    }
