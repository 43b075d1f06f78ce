-- The cycle of calls {put_decimal}: the measure is how many digits are left. Assumes nothing.
use Rattle.text.proofs.output.+put_decimal.Given as goal

abbrev pub decreases-put_decimal : goal.decreases-put_decimal
decreases-put_decimal l = l.left
