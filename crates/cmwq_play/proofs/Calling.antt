-- A call that there is no room for makes nothing of a history.
use Rattle.std.proofs.Common.{◌≡◌, None, refl}
use Rattle.cmwq_model.specs.declared.call.Call.{Call}
use Rattle.cmwq_model.specs.declared.id.Who.{Who}
use Rattle.cmwq_core.specs.History.{History}
use Rattle.cmwq_play.specs.declared.machine.Called.TheVariants.{NoRoom}
use Rattle.cmwq_play.specs.Machines.{AfterCall, called, replied, stepped}
use Rattle.cmwq_play.proofs.Firing.{stepped_none}

pub called_none : (h g : History) (who : Who) (c : Call) → replied h who c ≡ None → g ≡ stepped h who c
    → ◌≡◌ {A = AfterCall} (record { history = g; outcome = NoRoom }) (called h who c)
unfolding called
called_none h g who c none made = rw (none, made, stepped_none h who c none) refl
