-- `field_at` meets its contract: a case for each way of parting. Assumes nothing.
use Rattle.rows.proofs.field_at.Goals as goal

pub returns-in-Spaces : goal.returns-in-Spaces
returns-in-Spaces c = rw c.in-Spaces.is c.word_at.ensures

pub returns-in-Tabs : goal.returns-in-Tabs
returns-in-Tabs c = rw c.in-Tabs.is c.tabbed_at.ensures
