-- The ends of a domain, of a check and ends that equal the ramp's. Assumes nothing.
use mathlib.Core.Path.{◌≡◌, ap, ap₂, ◌∙◌}
use lib.Ieee.{Float}
use Rattle.stops.specs.declared.Checked.{Checked}
use Rattle.colorgrad_c.specs.Ramps.{domain_by}

pub domain_is : {c c' : Checked} {lo lo' hi hi' : Float} → c ≡ c' → lo ≡ lo' → hi ≡ hi' → domain_by c lo hi ≡ domain_by c' lo' hi'
domain_is {c} {c'} {lo} {lo'} {hi} {hi'} f l h = ap (λ (x : Checked). domain_by x lo hi) f ∙ ap₂ (λ (x y : Float). domain_by c' x y) l h
