-- What private functions promise each other.
use Rattle.std.specs.Prelude.{ℕ, List, drop}
use Rattle.text.specs.Text.{lines}
use Rattle.header.specs.declared.Lead.{Lead}
use Rattle.header.specs.Head.{from_third, from_second}
use Rattle.header.specs.Leads.{next_at, LeadsTo}

-- where line 3, which starts at `at`, leads; and line 2
abbrev pub ThirdLeads : ℕ → List ℕ → ℕ → Lead → Type 0
ThirdLeads room s at r = LeadsTo room (from_third room (lines (drop at s))) (next_at s at) s r

abbrev pub SecondLeads : ℕ → List ℕ → ℕ → Lead → Type 0
SecondLeads room s at r = LeadsTo room (from_second room (lines (drop at s))) (next_at s (next_at s at)) s r
