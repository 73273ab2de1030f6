use Rattle.std.proofs.Common.{refl}
use Rattle.cmwq_views.proofs.beginnings.BeginningsFold.take.Goals as goal

pub returns : goal.returns
returns c =
    let past = c.args.step.now.past in
    let made = c.requires in
    rw (← c.entry.ensures) (record {
      workers = c.note.ensures.workers _ past
          (rw (c.at.ensures, c.time.ensures.time, c.state.ensures.past, c.entry.ensures) refl) made.workers;
      items = c.note.ensures.items _ past
          (rw (c.at.ensures, c.time.ensures.time, c.state.ensures.past, c.entry.ensures) refl) made.items;
      callers = c.note.ensures.callers _ past
          (rw (c.at.ensures, c.time.ensures.time, c.state.ensures.past, c.entry.ensures) refl) made.callers;
    })
