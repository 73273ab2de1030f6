-- What one mark does to the bits of all items, and to the counts of all callers.
use Rattle.cmwq_publish.specs.Common.{ℕ, List, Option, Some, None, option_map, slice_set, CallerId, ItemId, Who, Caller}
use Rattle.cmwq_publish.specs.Common.{Worker}

-- the number of one place, if one is named, is another
abbrev pub put_at : List ℕ → Option ℕ → ℕ → List ℕ
put_at xs None b = xs
put_at xs (Some k) b = slice_set xs k b

abbrev pub bits_with_mark : List ℕ → Option ItemId → ℕ → List ℕ
bits_with_mark bits item b = put_at bits (option_map (λ (i : ItemId). i.0) item) b

abbrev pub counts_with_entry : List ℕ → Option CallerId → ℕ → List ℕ
counts_with_entry serials caller n = put_at serials (option_map (λ (c : CallerId). c.0) caller) n

abbrev pub caller_number_of : Who → Option CallerId
caller_number_of (Caller c) = Some c
caller_number_of (Worker w) = None
