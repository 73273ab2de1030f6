-- What is written of a service, as what is written of its crew.
use Rattle.std.specs.Prelude.{ℕ, List, Option}
use Rattle.cmwq_model.specs.Prelude.{Layout}
use Rattle.cmwq_rt.specs.declared.left_out.LeftOut.{LeftOut}
use Rattle.cmwq_rt_journal.specs.Journaled.{WritesLeft}
use Rattle.cmwq_service.specs.Serving.{Conduct, Ending, ItemConduct, behaves}
use Rattle.cmwq_service.proofs.Ending.{calls_of, is_served, roles_of}
use Rattle.cmwq_service.specs.Writing.{WritesServed}

pub writes_served : (s : Layout) (waits : ℕ) (does : ItemConduct) (calls : Conduct) (ends : Ending)
    (entries full : ℕ) (l : LeftOut) (a b : Option (List ℕ))
    → WritesLeft s (behaves does s) (calls_of waits calls ends) (roles_of waits s) entries full l a b
    → WritesServed s waits calls ends does entries a b
writes_served s waits does calls ends entries full l a b (h, left, many, text) =
    (h, is_served s waits does calls ends full l h left, many, text)
