-- An entry of another form. Assumes nothing.
use mathlib.Core.Path.{◌≡◌, refl}
use lib.Ieee.{Float}
use Rattle.blend.specs.declared.Stop.{Stop}
use Rattle.stops.specs.declared.Kind.{Kind}
use Rattle.entries.specs.Input.{if_ramp, if_threshold, if_stop, if_change}
use Rattle.entries.specs.declared.fields.Recolour.{Recolour}
use Rattle.entries.specs.declared.fields.Entry.{Entry}
use Rattle.entries.specs.declared.fields.Entry.TheVariants as entry

pub not_ramp : {A : Type 0} (e : Entry) (f : Kind → A) (z : A) → ((x : Kind) → e ≡ entry.Ramp x → ⊥) → if_ramp e f z ≡ z
not_ramp (entry.Ramp k) f z h = absurd (h k refl)
not_ramp (entry.Threshold x) f z h = refl
not_ramp (entry.Stop s) f z h = refl
not_ramp (entry.Change e) f z h = refl
not_ramp entry.Unread f z h = refl

pub not_threshold : {A : Type 0} (e : Entry) (f : Float → A) (z : A) → ((x : Float) → e ≡ entry.Threshold x → ⊥) → if_threshold e f z ≡ z
not_threshold (entry.Ramp k) f z h = refl
not_threshold (entry.Threshold x) f z h = absurd (h x refl)
not_threshold (entry.Stop s) f z h = refl
not_threshold (entry.Change e) f z h = refl
not_threshold entry.Unread f z h = refl

pub not_stop : {A : Type 0} (e : Entry) (f : Stop → A) (z : A) → ((x : Stop) → e ≡ entry.Stop x → ⊥) → if_stop e f z ≡ z
not_stop (entry.Ramp k) f z h = refl
not_stop (entry.Threshold x) f z h = refl
not_stop (entry.Stop s) f z h = absurd (h s refl)
not_stop (entry.Change e) f z h = refl
not_stop entry.Unread f z h = refl

pub not_change : {A : Type 0} (e : Entry) (f : Recolour → A) (z : A) → ((x : Recolour) → e ≡ entry.Change x → ⊥) → if_change e f z ≡ z
not_change (entry.Ramp k) f z h = refl
not_change (entry.Threshold x) f z h = refl
not_change (entry.Stop s) f z h = refl
not_change (entry.Change e) f z h = absurd (h e refl)
not_change entry.Unread f z h = refl
