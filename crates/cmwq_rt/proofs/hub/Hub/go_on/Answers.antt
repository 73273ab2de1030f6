use Rattle.cmwq_model.specs.declared.call.Call.TheVariants as calls
use Rattle.cmwq_rt.proofs.Later.{later_trans, later_made, later_refused, later_retired}
use Rattle.cmwq_rt.proofs.Running.{refused_breaks_off}
use Rattle.cmwq_rt.proofs.hub.Hub.go_on.Goals as goal

pub with_room-requires : goal.with_room-requires
with_room-requires g c =
    refused_breaks_off g.N.HubName.layout c.args.participant.now c.call-finished.new.participant calls.Finish
    c.in-Err.fault c.in-Err.ensures.refused

pub returns-in-Err : goal.returns-in-Err
returns-in-Err g c = record {
  fault = c.with_room.ensures;
  next = tt;
  later = later_refused g.N.HubName.layout c.args.participant.now c.call-finished.new.participant calls.Finish
      c.in-Err.fault c.in-Err.ensures.refused;
}

pub returns-in-Err-retired : goal.returns-in-Err-retired
returns-in-Err-retired g c =
    let s = g.N.HubName.layout in
    let v = c.args.participant.now in
    let finished = c.call-finished.new.participant in
    let retired = c.retire-retired.new.participant in
    let f = c.in-Err-retired.fault in
    let refused = c.in-Err-retired.ensures.refused in
    record {
      fault = refused_breaks_off s finished retired calls.Retire f refused c.in-Err-retired.ensures.room;
      next = tt;
      later = later_trans v finished retired
          (later_made s v finished calls.Finish c.in_default.field-0 c.in_default.ensures.made.0)
          (later_refused s finished retired calls.Retire f refused);
    }

pub returns-clause-fault : goal.returns-clause-fault
returns-clause-fault g c = c.until_start.ensures.fault

pub returns-clause-later : goal.returns-clause-later
returns-clause-later g c =
    let s = g.N.HubName.layout in
    let v = c.args.participant.now in
    let finished = c.call-finished.new.participant in
    let retired = c.retire-retired.new.participant in
    later_trans v finished c.until_start.new.participant
    (later_made s v finished calls.Finish c.in_default.field-0 c.in_default.ensures.made.0)
    (later_trans finished retired c.until_start.new.participant
    (later_retired s finished retired c.retire-retired.result c.retire-retired.ensures.retired
    c.retire-retired.ensures.refused)
    c.until_start.ensures.later)
