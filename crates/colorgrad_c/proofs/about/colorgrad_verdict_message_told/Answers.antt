-- `colorgrad_verdict_message_told` meets its contract: the text of the number, which is a line of them all. Assumes nothing.
use mathlib.Core.Path.{refl}
use Rattle.text.specs.Text.{every}
use Rattle.colorgrad_c.specs.About.{bytes_in, verdict_texts, verdict_message_of}
use Rattle.colorgrad_c.proofs.Messages.{joined_texts, all_show, text_is}
use Rattle.colorgrad_c.proofs.Writing.{written_same}
use Rattle.colorgrad_c.proofs.about.colorgrad_verdict_message_told.Goals as goal

pub returns : goal.returns
unfolding verdict_message_of bytes_in joined_texts all_show every
returns c =
    let k = written_same _ (c.write_line.ensures.value, c.write_line.ensures.out_value) (text_is verdict_texts "no such verdict" c.args.verdict _ refl refl c.text_number-k.ensures) in
    record { value = k.0; out_value = k.1 }
