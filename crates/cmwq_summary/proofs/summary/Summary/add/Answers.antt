use Rattle.std.proofs.Common.{◌≡◌, ◌∙◌, arith}
use Rattle.cmwq_model.specs.Prelude.{past_of, ticks_told}
use Rattle.cmwq_model.proofs.Growing.{one_more_is_newest}
use Rattle.cmwq_summary.specs.Summed.{IsNext}
use Rattle.cmwq_summary.proofs.Activities.{acted_are, may_act}
use Rattle.cmwq_summary.proofs.Counting.{counted_on, counts_have_room}
use Rattle.cmwq_summary.proofs.Times.{next_is, now_behind, time_more}
use Rattle.cmwq_state.proofs.Appended.{time_within}
use Rattle.cmwq_summary.proofs.summary.Summary.add.Goals as goal

pub add-requires : goal.add-requires
add-requires c =
    let r = rw (← c.self.view_is) at c.requires in let b = c.self.inside in let i = c.self.invariant in
    let next : IsNext b.shape (past_of b.entries) c.args.effect.now =
    next_is b.shape b.entries c.args.effect.now b.time c.counts-counts.ensures.limits r.effect i.time_is i.soon r.time
    r.few in
    let few = next.few in
    counts_have_room b.shape (past_of b.entries) b.counters (omega arith) i.counters_are

pub add-requires-2 : goal.add-requires-2
add-requires-2 c =
    let r = rw (← c.self.view_is) at c.requires in let b = c.self.inside in let i = c.self.invariant in
    let past = past_of b.entries in let t = c.args.effect.now in
    let ticks : c.from.result ≡ ticks_told t.entry.call = c.from.ensures ∙ c.ticks.ensures.ticks in
    record {
      layout = b.shape;
      past = past;
      next =
          next_is b.shape b.entries t b.time c.counts-counts.ensures.limits r.effect i.time_is i.soon r.time r.few;
      now_is = now_behind b.entries t.entry b.time c.len.result c.from.result c.len.ensures.len i.time_is ticks;
      are = i.ticket_waits_are;
    }

pub add-requires-3 : goal.add-requires-3
add-requires-3 c =
    let r = rw (← c.self.view_is) at c.requires in let b = c.self.inside in let i = c.self.invariant in
    let past = past_of b.entries in let t = c.args.effect.now in
    let ticks : c.from.result ≡ ticks_told t.entry.call = c.from.ensures ∙ c.ticks.ensures.ticks in
    record {
      layout = b.shape;
      past = past;
      next =
          next_is b.shape b.entries t b.time c.counts-counts.ensures.limits r.effect i.time_is i.soon r.time r.few;
      now_is = now_behind b.entries t.entry b.time c.len.result c.from.result c.len.ensures.len i.time_is ticks;
      are = i.start_waits_are;
    }

pub act-requires : goal.act-requires
act-requires c =
    let r = rw (← c.self.view_is) at c.requires in let b = c.self.inside in let i = c.self.invariant in
    let past = past_of b.entries in let t = c.args.effect.now in
    let ticks : c.from.result ≡ ticks_told t.entry.call = c.from.ensures ∙ c.ticks.ensures.ticks in
    let next : IsNext b.shape past t =
    next_is b.shape b.entries t b.time c.counts-counts.ensures.limits r.effect i.time_is i.soon r.time r.few in
    rw (now_behind b.entries t.entry b.time c.len.result c.from.result c.len.ensures.len i.time_is ticks)
    (may_act b.shape past t _ next i.activities_are)

pub add-requires-4 : goal.add-requires-4
add-requires-4 c =
    let r = rw (← c.self.view_is) at c.requires in let b = c.self.inside in let i = c.self.invariant in
    let past = past_of b.entries in let t = c.args.effect.now in
    let next : IsNext b.shape past t =
    next_is b.shape b.entries t b.time c.counts-counts.ensures.limits r.effect i.time_is i.soon r.time r.few in
    (b.shape, past, next, r.active, i.peaks_are)

pub invariant_of-self : goal.invariant_of-self
invariant_of-self c =
    let r = rw (← c.self.view_is) at c.requires in let b = c.self.inside in let i = c.self.invariant in
    let past = past_of b.entries in let t = c.args.effect.now in let e = t.entry in
    let ticks : c.from.result ≡ ticks_told e.call = c.from.ensures ∙ c.ticks.ensures.ticks in
    let next : IsNext b.shape past t =
    next_is b.shape b.entries t b.time c.counts-counts.ensures.limits r.effect i.time_is i.soon r.time r.few in
    let to = now_behind b.entries e b.time c.len.result c.from.result c.len.ensures.len i.time_is ticks in
    rw (c.push.ensures, one_more_is_newest b.entries e) record {
      time_is = time_more past e b.time c.from.result i.time_is ticks;
      soon = rw ticks (time_within past e.call b.time i.time_is i.soon r.time);
      counters_are = counted_on b.shape past t _ _ r.effect c.add.ensures i.counters_are;
      ticket_waits_are = c.add-2.ensures b.shape past next to i.ticket_waits_are;
      start_waits_are = c.add-3.ensures b.shape past next to i.start_waits_are;
      activities_are = rw (c.act.ensures, to) (acted_are b.shape past t _ next i.activities_are);
      peaks_are = c.add-4.ensures b.shape past next r.active i.peaks_are;
    }
