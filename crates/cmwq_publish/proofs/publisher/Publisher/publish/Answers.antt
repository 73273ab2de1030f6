use Rattle.std.proofs.Common.{◌+◌, ap, ◌∙◌, refl, length, arith}
use Rattle.cmwq_publish.specs.declared.versions.Publish.{Publish}
use Rattle.cmwq_publish.specs.Next.{IsNextMark}
use Rattle.cmwq_publish.specs.Publications.{Publication}
use Rattle.cmwq_publish.proofs.Legally.{serial_below}
use Rattle.cmwq_publish.proofs.Marking.{next_follows}
use Rattle.cmwq_publish.proofs.publisher.Publisher.publish.Goals as goal

pub publish_mark-requires-clause-follows : goal.publish_mark-requires-clause-follows
publish_mark-requires-clause-follows g c =
    let mark = c.args.mark.now in
    let op : Publish =
    record {
      item = mark.item;
      bits = mark.bits;
      caller = c.caller_of.result;
      serial = mark.entry.serial + 1;
      len =
          c.len.result;
      seen = c.token.result;
    } in
    let s = c.self.inside in
    let out = c.self.invariant c.if-self.true in
    let next : IsNextMark g.N.HubName.layout s.prefix mark =
    rw (ap (λ (p : Publication). p.entries) c.self.view_is) c.requires.next in
    let longer = c.in-Some.ensures in
    next_follows s.writer.desk.shown.value g.N.HubName.layout g.N.HubName.book s.prefix mark op next out.0 out.1
    refl refl c.caller_of.ensures refl (c.len.ensures.len ∙ ap length longer) c.token.ensures.0
    (c.token.ensures.1 ∙ longer)

pub overflow_add-publish : goal.overflow_add-publish
overflow_add-publish g c =
    let below = serial_below g.N.HubName.layout c.args.self.now.entries c.args.mark.now.entry c.requires.next.legal in
    let few = c.requires.few in
    omega (arith, below, few)
