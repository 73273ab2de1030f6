use Rattle.cmwq_rt.proofs.Registered.{sleeps_for}
use Rattle.cmwq_rt.proofs.hub.Hub.sleep_for.Goals as goal

pub sleep-requires : goal.sleep-requires
sleep-requires g c =
    sleeps_for _ _ c.args.who c.args.call c.args.ticket c.awaited_end.result c.requires c.awaited_end.ensures
