-- What an item has queued is open.
use Rattle.std.proofs.Common.{ℕ, ◌≡◌, List, Some}
use Rattle.std.specs.Prelude.{Contains}
use Rattle.cmwq_model.specs.Prelude.{still_open, unstarted_queueing}
use Rattle.cmwq_model.specs.Queueings.{is_unstarted}
use Rattle.cmwq_model.specs.declared.entry.Entry.{Entry}
use Rattle.cmwq_model.specs.declared.record.Queueing.{Queueing}
use Rattle.cmwq_lemmas.proofs.Members.{found, in_contained}

pub is_open : (past : List Entry) (i : ℕ) (x : Queueing) → unstarted_queueing past i ≡ Some x
    → Contains (still_open past) x
is_open past i x is = in_contained (still_open past) x (found (is_unstarted past i) (still_open past) x is).0
