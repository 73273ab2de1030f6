-- Lanes: a row for each worker that has an entry, by CPU, pool and index.
use Rattle.std.specs.Prelude.{ℕ, ◌*◌, Bool, List, filter}
use Rattle.std.specs.List.{list_any}
use Rattle.cmwq_model.specs.declared.entry.Entry.{Entry}
use Rattle.cmwq_model.specs.declared.id.WorkerId.{WorkerId}
use Rattle.cmwq_model.specs.declared.id.Who.TheVariants.{Worker}
use Rattle.cmwq_model.specs.Prelude.{Layout, is_by, most_cpus, most_workers, workers}

abbrev pub has_entries : List Entry → WorkerId → Bool
has_entries entries w = list_any (is_by (Worker w)) entries

-- how many workers a shape may have in all
abbrev pub most_lanes : ℕ
most_lanes = 2 * most_workers * most_cpus

unfoldable pub lanes_of : Layout → List Entry → List WorkerId
lanes_of s entries = filter (has_entries entries) (workers s)
