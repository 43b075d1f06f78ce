-- `print` meets its contract: what `desk` prints is what is written. Assumes nothing.
use Rattle.std.proofs.Common.{◌≡◌, List, ℕ, length, take, drop, ap, ◌∙◌, subst}
use Rattle.std.proofs.Math.Seq.{take-append_seam}
use Rattle.std.specs.Prelude.{OnOk}
use Rattle.std.specs.Io.KnownBytes.{Appends}
use Rattle.desk.specs.Tool.{Prints, desk_of}
use Rattle.flatten.proofs.print.Goals as goal

printed : (s out out' : List ℕ) (n : ℕ) → Prints s out out' n → take n out' ≡ desk_of s
printed s out out' n w =
    ap (λ (k : ℕ). take k out') w.count ∙ ap (take (length (desk_of s))) w.contents ∙ take-append_seam (desk_of s) (drop (length (desk_of s)) out)

pub returns : goal.returns
returns g c = subst (λ (l : List ℕ). OnOk c.write_all.result (Appends (g.W.Write.contents c.args.out.now) (g.W.Write.contents c.write_all.new.self) l)) (printed _ _ _ _ c.print-n.ensures) c.write_all.ensures.bytes
