-- How many bytes the tool prints, whether or not an output holds them.
use Rattle.std.specs.Prelude.{ℕ}
use Rattle.desk.specs.declared.Desked.{Desked}
use Rattle.desk.specs.declared.Desked.TheVariants.{Printed, Short}

abbrev pub bytes_of : Desked → ℕ
bytes_of (Printed n) = n
bytes_of (Short n) = n
