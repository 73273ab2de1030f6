-- What the fault of a journal says.
use Rattle.std.specs.Prelude.{◌≡◌, ◌≢◌, ◌⊎◌, ◌+◌, ◌^◌, ◌<◌, ◌≤◌, ◌++◌}
use Rattle.cmwq_rt_journal.specs.Common.{ℕ, List, [], Bool, true, false, Option, length, Appends, AppendsFront, Entry}
use Rattle.cmwq_rt_journal.specs.Common.{Layout, body_text, entries_text, last_text}
use Rattle.cmwq_monitor.specs.declared.fault.RunFault.TheVariants.{Stranger}
use Rattle.cmwq_rt_journal.specs.declared.fault.JournalFault.{JournalFault}
use Rattle.cmwq_rt_journal.specs.declared.fault.JournalFault.TheVariants.{Late, Write, Hub}
use Rattle.cmwq_rt_journal.specs.Breaking.{BreaksOff}

abbrev pub is_of_sink : JournalFault → Bool
is_of_sink (Late n) = false
is_of_sink (Write n) = true
is_of_sink (Hub f n) = false

-- A journal that had `old` and then has `seen`. One that is late writes nothing; after a fault of the hub all that it
-- has is written.
abbrev pub Broke : Layout → List Entry → List Entry → Option (List ℕ) → Option (List ℕ) → JournalFault → Type 0
Broke s old seen a b (Late n) = (0 < n) × (n ≡ length old) × (seen ≡ old) × (b ≡ a)
Broke s old seen a b (Write n) = (old ≡ []) × BreaksOff s seen n a b
Broke s old seen a b (Hub f n) = (old ≡ []) × (n ≡ length seen) × Appends a b (body_text 3 s seen)

-- the entries after those of the journal, and the line that says how many they are with these
abbrev pub ending_text : List Entry → List Entry → List ℕ
ending_text seen rest = entries_text rest ++ last_text 3 (length seen + length rest)

-- The end of a journal that has `seen`. Nothing is written if the rest, of which `first` entries come before, is no
-- rest of these.
abbrev pub EndBroke : List Entry → ℕ → List Entry → Option (List ℕ) → Option (List ℕ) → JournalFault → Type 0
EndBroke seen first rest a b (Late n) = ⊥
EndBroke seen first rest a b (Write n) = (n ≡ length seen) × AppendsFront a b (ending_text seen rest)
EndBroke seen first rest a b (Hub f n) = (n ≡ length seen) × (f ≡ Stranger n first)
    × ((first ≢ n) ⊎ (2 ^ 64 ≤ n + length rest)) × (b ≡ a)
