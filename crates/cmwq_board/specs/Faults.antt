-- Why a wait of a run is refused.
use Rattle.cmwq_waits.specs.declared.waits.Stuck.{Stuck}
use Rattle.cmwq_waits.specs.declared.waits.Stuck.TheVariants.{Itself, Circle}
use Rattle.cmwq_board.specs.declared.fault.WaitFault.{WaitFault}
use Rattle.cmwq_board.specs.declared.fault.WaitFault.TheVariants as wait

abbrev pub fault_of_stuck : Stuck → WaitFault
fault_of_stuck Itself = wait.Itself
fault_of_stuck Circle = wait.Deadlock
