use Rattle.cmwq_state.specs.Common.{◌≡◌, ◌+◌, ◌∙◌, ap, refl, sym, layout_of, ticks_told, past_of, time_goes_on}
use Rattle.cmwq_state.proofs.Appended.{appended, next_effect}
use Rattle.cmwq_state.proofs.state.State.append.Goals as goal

pub apply_widths-self-inside-requires : goal.apply_widths-self-inside-requires
apply_widths-self-inside-requires c =
    let r = rw (← c.self.view_is) at c.requires in let b = c.self.inside in
    let s = layout_of b.counts b.queues.items in let past = past_of b.entries in let are = c.self.invariant.parts_are in
    let next = next_effect s b.room b.entries _ c.args.effect c.self.invariant r.is in
    (s, past, next, are.widths)

pub apply_pwqs-requires : goal.apply_pwqs-requires
apply_pwqs-requires c =
    let r = rw (← c.self.view_is) at c.requires in let b = c.self.inside in
    let s = layout_of b.counts b.queues.items in let past = past_of b.entries in let are = c.self.invariant.parts_are in
    let next = next_effect s b.room b.entries _ c.args.effect c.self.invariant r.is in (
      s,
      past,
      next,
      c.deref.ensures.value,
      rw c.deref-2.ensures.value (c.apply_widths-self-inside.ensures s past next are.widths),
      are.pwqs,
    )

pub apply_pools-requires : goal.apply_pools-requires
apply_pools-requires c =
    let r = rw (← c.self.view_is) at c.requires in let b = c.self.inside in
    let s = layout_of b.counts b.queues.items in let past = past_of b.entries in let are = c.self.invariant.parts_are in
    let next = next_effect s b.room b.entries _ c.args.effect c.self.invariant r.is in
    let newly =
    c.activated.ensures
    ∙ (c.apply_pwqs.ensures s past next c.deref.ensures.value
    (rw c.deref-2.ensures.value (c.apply_widths-self-inside.ensures s past next are.widths)) are.pwqs).1 in
    (s, past, next, c.deref-3.ensures.value, newly, are.pools)

pub apply_books-requires : goal.apply_books-requires
apply_books-requires c =
    let r = rw (← c.self.view_is) at c.requires in let b = c.self.inside in
    let s = layout_of b.counts b.queues.items in let past = past_of b.entries in let are = c.self.invariant.parts_are in
    let next = next_effect s b.room b.entries _ c.args.effect c.self.invariant r.is in
    (s, past, next, are.books)

pub apply_flights-requires : goal.apply_flights-requires
apply_flights-requires c =
    let r = rw (← c.self.view_is) at c.requires in let b = c.self.inside in
    let s = layout_of b.counts b.queues.items in let past = past_of b.entries in let are = c.self.invariant.parts_are in
    let next = next_effect s b.room b.entries _ c.args.effect c.self.invariant r.is in
    (s, past, next, are.flights)

pub apply_tickets-requires : goal.apply_tickets-requires
apply_tickets-requires c =
    let r = rw (← c.self.view_is) at c.requires in let b = c.self.inside in
    let s = layout_of b.counts b.queues.items in let past = past_of b.entries in let are = c.self.invariant.parts_are in
    let next = next_effect s b.room b.entries _ c.args.effect c.self.invariant r.is in
    (s, past, next, are.tickets)

pub apply_gone-requires : goal.apply_gone-requires
apply_gone-requires c =
    let r = rw (← c.self.view_is) at c.requires in let b = c.self.inside in
    let s = layout_of b.counts b.queues.items in let past = past_of b.entries in let are = c.self.invariant.parts_are in
    let next = next_effect s b.room b.entries _ c.args.effect c.self.invariant r.is in
    (s, past, next, are.gone)

pub apply_timers-requires : goal.apply_timers-requires
apply_timers-requires c =
    let r = rw (← c.self.view_is) at c.requires in let b = c.self.inside in
    let s = layout_of b.counts b.queues.items in let past = past_of b.entries in let are = c.self.invariant.parts_are in
    let next = next_effect s b.room b.entries _ c.args.effect c.self.invariant r.is in
    (s, past, next, are.timers)

pub apply_serials-requires : goal.apply_serials-requires
apply_serials-requires c =
    let r = rw (← c.self.view_is) at c.requires in let b = c.self.inside in
    let s = layout_of b.counts b.queues.items in let past = past_of b.entries in let are = c.self.invariant.parts_are in
    let next = next_effect s b.room b.entries _ c.args.effect c.self.invariant r.is in
    (s, past, next, are.serials)

pub invariant_of-self : goal.invariant_of-self
invariant_of-self c =
    let r = rw (← c.self.view_is) at c.requires in let b = c.self.inside in
    let s = layout_of b.counts b.queues.items in let past = past_of b.entries in let are = c.self.invariant.parts_are in
    let next = next_effect s b.room b.entries _ c.args.effect c.self.invariant r.is in
    let e = c.args.effect.entry in
    let ticks : c.from.result ≡ ticks_told e.call = c.from.ensures ∙ c.ticks.ensures.ticks in
    let widths = c.apply_widths-self-inside.ensures s past next are.widths in
    let pwqs = c.apply_pwqs.ensures s past next c.deref.ensures.value (rw c.deref-2.ensures.value widths) are.pwqs in
    rw c.push.ensures
    (appended s b.room b.entries _ _ c.args.effect c.self.invariant r.is (record {
      pools = c.apply_pools.ensures s past next c.deref-3.ensures.value (c.activated.ensures ∙ pwqs.1) are.pools;
      books = c.apply_books.ensures s past next are.books;
      timers = c.apply_timers.ensures s past next are.timers;
      time = ap (λ n. b.time + n) ticks ∙ (ap (λ n. n + ticks_told e.call) are.time ∙ sym (time_goes_on past e));
      serials = c.apply_serials.ensures s past next are.serials;
      flights = c.apply_flights.ensures s past next are.flights;
      tickets = c.apply_tickets.ensures s past next are.tickets;
      gone = c.apply_gone.ensures s past next are.gone;
      pwqs = pwqs.0;
      widths = widths;
      owing = r.is.owing;
    }) (ap (λ n. b.time + n) ticks) refl r.time r.room)
