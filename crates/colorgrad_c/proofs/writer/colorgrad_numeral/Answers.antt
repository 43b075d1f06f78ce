-- `colorgrad_numeral` meets its contract: the text of `numerals`, written as a name is. Assumes nothing.
use mathlib.Core.Path.{sym}
use Rattle.ggr_writing.proofs.Texts.{field_size, field_within}
use Rattle.numerals.specs.Written.{text_of}
use Rattle.numerals.proofs.Theorems.{bytes_are}
use Rattle.colorgrad_c.proofs.Writing.{written_same}
use Rattle.colorgrad_c.proofs.writer.colorgrad_numeral.Goals as goal

pub slice_bounds-bytes-end : goal.slice_bounds-bytes-end
slice_bounds-bytes-end c = field_within c.args.x c.write-t.ensures

pub slice_bounds-write_name-end : goal.slice_bounds-write_name-end
slice_bounds-write_name-end c = sym (field_size c.args.x c.write-t.ensures)

pub returns : goal.returns
returns c =
    let k = written_same _ (c.write_name.ensures.value, c.write_name.ensures.out_after) (bytes_are (text_of c.args.x) _ _ c.write-t.ensures) in
    record { value = k.0; out_value = k.1 }
