-- What lent callers have made.
use Rattle.std.proofs.Common.{◌≡◌, suc, true, false, Bool, refl, sym, subst, ◌&&◌}
use Rattle.std.specs.Prelude.{Result, Ok, Err, IfOk, is_ok}
use Rattle.cmwq_rt.specs.Common.{Layout, View, Call, Reply, RunFault, Completes}
use Rattle.cmwq_monitor.specs.Participants.{newcomer}
use Rattle.cmwq_rt.specs.Lent.{HasOnlyWaited, WaitsInTurn}
use Rattle.cmwq_rt.specs.Waiting.{is_wait}

-- one who has made no entry
pub new_waited : (s : Layout) (v : View) → v ≡ newcomer v.who → HasOnlyWaited s v
new_waited s v new = record { waits = 0; in_turn = new }

-- one wait more
pub waited_more : (s : Layout) (v w : View) (c : Call) (r : Reply) → HasOnlyWaited s v → is_wait c ≡ true
    → Completes s v c r w → HasOnlyWaited s w
waited_more s v w c r old is one = record {
  waits = suc old.waits;
  in_turn = (
    v,
    c,
    r,
    subst (λ who. WaitsInTurn s old.waits (newcomer who) v) (sym one.gains.same) old.in_turn,
    is,
    one,
  );
}

-- so it is, unless the wait has broken off
pub waited_unless : (s : Layout) (v w : View) (c : Call) (o : Result Reply RunFault) (was : Bool) → is_wait c ≡ true
    → (was ≡ true → HasOnlyWaited s v) → IfOk o (λ r. Completes s v c r w) → (was && is_ok o) ≡ true
    → HasOnlyWaited s w
waited_unless s v w c (Ok r) true is old one whole = waited_more s v w c r (old refl) is one
waited_unless s v w c (Ok r) false is old one whole = absurd (cc whole)
waited_unless s v w c (Err f) true is old one whole = absurd (cc whole)
waited_unless s v w c (Err f) false is old one whole = absurd (cc whole)
