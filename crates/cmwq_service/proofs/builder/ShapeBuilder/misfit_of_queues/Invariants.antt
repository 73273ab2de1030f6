use Rattle.std.specs.Prelude.{◌≡◌, true, take}
use Rattle.std.specs.List.{list_all}
use Rattle.cmwq_model.specs.Layout.{is_queue}
use Rattle.cmwq_service.proofs.builder.ShapeBuilder.misfit_of_queues.Given as goal

abbrev pub invariant-loop-k : goal.invariant-loop-k
invariant-loop-k l = list_all is_queue (take l.k l.self.queues) ≡ true
