-- What the clock has made.
use Rattle.std.proofs.Common.{suc, refl}
use Rattle.cmwq_model.specs.Prelude.{Layout}
use Rattle.cmwq_model.specs.declared.call.Call.TheVariants as call
use Rattle.cmwq_model.specs.declared.reply.Reply.{Reply}
use Rattle.cmwq_monitor.specs.Participants.{View}
use Rattle.cmwq_monitor.specs.Whole.{Completes}
use Rattle.cmwq_service.specs.Serving.{HasOnlyTicked}

pub not_ticked : (s : Layout) (v : View) → HasOnlyTicked s v v
not_ticked s v = record { ticks = 0; in_turn = refl }

-- one tick more
pub ticked_more : (s : Layout) (a v w : View) (r : Reply) → HasOnlyTicked s a v → Completes s v (call.Tick 1) r w
    → HasOnlyTicked s a w
ticked_more s a v w r old one = record { ticks = suc old.ticks; in_turn = (v, r, old.in_turn, one) }
