-- The top of a script: its keys, its numbers and its lists.
use Rattle.cmwq_text.specs.Words.{◌>>=◌}
use Rattle.std.specs.Prelude.{◌≤◌, if◌then◌else◌, ◌∷◌}
use Rattle.cmwq_json_script.specs.Common.{ℕ, Bool, List, [], Option, Some, None, option_map, codes, option_map_or, Data}
use Rattle.cmwq_json_script.specs.Common.{Items, get, as_array, has_keys_with_optional, number_between}
use Rattle.cmwq_json_script.specs.Limits.{cpus_in, workers_in, most_waits, room_in}

-- The history is written in the format of this version. With a journal it is written as it is made, and so many entries
-- are kept at a time. So many runs may wait at once, if that is said.
pub record Top : Type 0 where
  pub cpus : ℕ
  pub workers : ℕ
  pub room : ℕ
  pub version : ℕ
  pub journal : Option ℕ
  pub waits : Option ℕ
  pub queues : Items
  pub items : Items
  pub callers : Items

abbrev pub at_key : {A : Type 0} → (Data → Option A) → List ℕ → Data → Option A
at_key says key d = do
  e ← get key d
  says e

-- `format`, `journal` and `waits` may be left out
abbrev pub has_top_keys : Data → Bool
has_top_keys =
    has_keys_with_optional (codes "callers" ∷ codes "cpus" ∷ codes "items" ∷ codes "queues" ∷ codes "room"
    ∷ codes "workers" ∷ [])
    (codes "format" ∷ codes "journal" ∷ codes "waits" ∷ [])

abbrev pub journal_said : Data → Option (Option ℕ)
journal_said d = option_map_or (λ e. option_map Some (number_between 1 1000000 e)) (get (codes "journal") d) (Some None)

-- what a journal writes is of format 3
abbrev pub least_version : Option ℕ → ℕ
least_version None = 2
least_version (Some kept) = 3

-- a format of histories that `run` writes, with a journal or without
pub record AreJournalSettings (version : ℕ) (journal : Option ℕ) : Type 0 where
  pub new : 2 ≤ version
  pub least : least_version journal ≤ version
  pub most : version ≤ 3

-- it is the least where it is left out
abbrev pub version_said : Option ℕ → Data → Option ℕ
version_said journal d =
    option_map_or (number_between (least_version journal) 3) (get (codes "format") d) (Some (least_version journal))

abbrev pub waits_said : ℕ → Data → Option (Option ℕ)
waits_said version d =
    option_map_or (λ e. option_map Some (number_between 0 (most_waits version) e)) (get (codes "waits") d) (Some None)

abbrev pub top_said : Data → Option Top
top_said d =
    if has_top_keys d then (do
      journal ← journal_said d
      version ← version_said journal d
      cpus ← at_key (number_between 1 (cpus_in version)) (codes "cpus") d
      workers ← at_key (number_between 1 (workers_in version)) (codes "workers") d
      room ← at_key (number_between 0 (room_in version)) (codes "room") d
      waits ← waits_said version d
      qs ← at_key as_array (codes "queues") d
      is ← at_key as_array (codes "items") d
      cs ← at_key as_array (codes "callers") d
      Some (record {
        cpus = cpus;
        workers = workers;
        room = room;
        version = version;
        journal = journal;
        waits = waits;
        queues = qs;
        items = is;
        callers = cs;
      }))
    else None
