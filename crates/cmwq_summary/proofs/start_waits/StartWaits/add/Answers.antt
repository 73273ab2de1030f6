use Rattle.cmwq_model.specs.Prelude.{most_cpus}
use Rattle.std.proofs.Common.{◌*◌, ◌∷◌, length, refl}
use Rattle.cmwq_refinement.specs.Flights.{starting}
use Rattle.cmwq_model.specs.declared.record.Queueing.{Queueing}
use Rattle.cmwq_summary.specs.declared.counter.Counter.TheVariants.{Starts}
use Rattle.cmwq_summary.specs.Figures.{key_of}
use Rattle.cmwq_summary.specs.Openings.{start_wait}
use Rattle.cmwq_summary.proofs.Moments.{small_since}
use Rattle.cmwq_summary.proofs.StartTimes.{openings_go_on, waits_are}
use Rattle.cmwq_summary.proofs.Times.{small_then}
use Rattle.cmwq_summary.proofs.WaitTables.{waits_go_on, waits_have_room}
use Rattle.cmwq_summary.proofs.start_waits.StartWaits.add.Goals as goal

pub add-requires : goal.add-requires
add-requires c =
    let r = c.requires in
    waits_have_room (key_of Starts) start_wait (most_cpus * length r.layout.queues) r.past _ r.next.few r.are.waits

pub returns : goal.returns
returns c s past next now are =
    let e = c.args.effect.now.entry in let told = next.effect in
    let wait = waits_are s past e told.legal c.args.self.now.openings are.openings in
    record {
      waits = rw (c.add.ensures, c.place_in.ensures, c.waited-waited.ensures, told.started, now, wait)
          (waits_go_on (key_of Starts) start_wait (most_cpus * length s.queues) past e _ _ _ refl refl
          (small_since (λ (x : Queueing). x.number) (e ∷ past) (starting past e) (small_then next)) are.waits);
      openings =
          rw (c.add-2.ensures, told.opened, now)
          (openings_go_on s past e told.legal c.args.self.now.openings are.openings);
    }
