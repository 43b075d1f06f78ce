-- The measure of `put_hex`: how many digits are left.
use Rattle.writing.proofs.+put_hex.Given as goal

abbrev pub decreases-put_hex : goal.decreases-put_hex
decreases-put_hex l = l.left
