-- Items, queues, CPUs, callers and workers in a text. A caller is `c<number>`, a worker `w<cpu>n<index>` in a pool of
-- normal priority and `w<cpu>h<index>` in one of high priority.
use Rattle.std.specs.Prelude.{◌+◌, ◌||◌, ◌==◌, if◌then◌else◌, ◌∷◌, ◌++◌}
use Rattle.cmwq_text.specs.Common.{ℕ, Bool, List, [], take, drop, slice_index, position, Option, Some, None, decimal}
use Rattle.cmwq_text.specs.Common.{ItemId, QueueId, CpuId, Who, Caller, Worker}
use Rattle.cmwq_text.specs.Numbers.{byte_of}
use Rattle.cmwq_text.specs.Words.{◌>>=◌, take_one, word_read, short_in, byte_in}

abbrev pub item : ℕ → ItemId
item n = record { 0 = n }

abbrev pub queue_numbered : ℕ → QueueId
queue_numbered n = record { 0 = n }

abbrev pub cpu : ℕ → CpuId
cpu n = record { 0 = n }

abbrev pub caller_numbered : ℕ → Who
caller_numbered n = Caller (record { 0 = n })

abbrev pub worker_numbered : ℕ → Bool → ℕ → Who
worker_numbered c high x = Worker (record { pool = record { cpu = cpu c; high = high }; index = x })

abbrev pub item_in : List (List ℕ) → Option (ItemId × List (List ℕ))
item_in words = take_one short_in item words

abbrev pub queue_in : List (List ℕ) → Option (QueueId × List (List ℕ))
queue_in words = take_one byte_in queue_numbered words

abbrev pub cpu_in : List (List ℕ) → Option (CpuId × List (List ℕ))
cpu_in words = take_one byte_in cpu words

-- 110 is `n` and 104 is `h`
abbrev pub pool_letter : Bool → ℕ
pool_letter high = if high then 104 else 110

abbrev pub is_pool_letter : ℕ → Bool
is_pool_letter byte = byte == 110 || byte == 104

-- 99 is `c` and 119 is `w`
abbrev pub who_text : Who → List ℕ
who_text (Caller c) = 99 ∷ decimal c.0
who_text (Worker w) = 119 ∷ decimal w.pool.cpu.0 ++ pool_letter w.pool.high ∷ decimal w.index

abbrev pub caller_read : List ℕ → Option Who
caller_read name = do
  n ← byte_of name
  Some (caller_numbered n)

-- the numbers before and after the first letter of a pool
unfoldable pub worker_read : List ℕ → Option Who
worker_read name = do
  letter ← position is_pool_letter name
  c ← byte_of (take letter name)
  x ← byte_of (drop (letter + 1) name)
  Some (worker_numbered c (slice_index name letter == 104) x)

unfoldable pub who_read : List ℕ → Option Who
who_read [] = None
who_read (first ∷ name) = if first == 99 then caller_read name else if first == 119 then worker_read name else None

abbrev pub who_in : List (List ℕ) → Option (Who × List (List ℕ))
who_in words = word_read who_read words
