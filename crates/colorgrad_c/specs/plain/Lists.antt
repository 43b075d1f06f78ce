-- What is told of the answers of the calls on records and lists.
use Rattle.std.specs.Prelude.{ℕ, List, [], ◌∷◌}
use Rattle.sampling.specs.Sampling.{evaluations_of_sampled}
use Rattle.sampling.specs.declared.Sampled.{Sampled}
use Rattle.linearize.specs.Desk.{stops_of_listed, evaluations_of_listed}
use Rattle.linearize.specs.declared.Listed.{Listed}

abbrev pub sampled_told : Sampled → List ℕ
sampled_told r = evaluations_of_sampled r ∷ []

abbrev pub listed_told : Listed → List ℕ
listed_told r = stops_of_listed r ∷ evaluations_of_listed r ∷ []
