-- The parts of a new book are those of no entries.
use Rattle.cmwq_state.specs.Common.{◌≡◌, ℕ, Bool, ◌*◌, ◌≤◌, true, false, List, [], length, replicate, refl, sym, ◌∙◌}
use Rattle.cmwq_state.specs.Common.{arith, None, subst, get_or-replicate, length-replicate, Layout, is_layout}
use Rattle.cmwq_state.specs.Common.{most_room, now, IsLegal, queueings, tickets, is_gone, PoolState, no_pool}
use Rattle.cmwq_state.specs.Common.{new_pool_state, new_book, AreFlushes, pools_at_first, flushes_at_first}
use Rattle.cmwq_state.specs.Common.{numbers_at_first, no_timers_at_first, active_count, TimerRows, no_tickets_at_first}
use Rattle.cmwq_state.specs.Common.{Flight, no_flight, no_flights_at_first, PwqState, new_pwq_state, place_inside}
use Rattle.cmwq_ticket.specs.Rows.{TicketBook, new_tickets}
use Rattle.cmwq_state.specs.Tables.{pool_place, who_place, who_places}
use Rattle.cmwq_flush.specs.FlushBooks.{FlushState, new_flush_state, no_book}
use Rattle.cmwq_state.specs.Gone.{AreGone}
use Rattle.cmwq_state.specs.Pwqs.{ArePwqsOf}
use Rattle.cmwq_state.proofs.WidthSteps.{first_most, widths_at_first}
use Rattle.cmwq_state.specs.State.{Parts, AreParts, IsState}
use Rattle.cmwq_model.proofs.Limits.{Limits}
use Rattle.cmwq_state.proofs.Refine.{pool_place_inside, who_below}
use Rattle.cmwq_model.proofs.Limits.{limits_of}
use Rattle.cmwq_theory_steps.proofs.Owing.{nothing_owed}

abbrev pub first_parts : Layout → Parts
first_parts s = record {
  pools = replicate (2 * s.cpus) (new_pool_state s.items s.workers);
  books = new_flush_state (length s.queues) s.items s.callers;
  timers = replicate s.items None;
  time = 0;
  serials = replicate (who_places s.cpus) 0;
  flights = replicate s.items no_flight;
  tickets = new_tickets s.callers s.items (length s.queues);
  gone = replicate (length s.queues) false;
  pwqs = new_pwq_state (length s.queues) s.items;
  most = first_most s.queues;
  frozen = false;
  owing = 0;
}

first_time : 0 ≡ now []
unfolding now
first_time = refl

gone_at_first : (s : Layout) → AreGone s [] (replicate (length s.queues) false)
unfolding is_gone
gone_at_first s = grind (arith, length-replicate, get_or-replicate)

pwqs_at_first : (s : Layout) → ArePwqsOf s [] (new_pwq_state (length s.queues) s.items)
unfolding active_count queueings
pwqs_at_first s = grind (arith, length-replicate, get_or-replicate, place_inside)

pub parts_at_first : (s : Layout) → Limits s → AreParts s [] (first_parts s)
parts_at_first s limits = record {
  pools = record {
    many = length-replicate (2 * s.cpus) (new_pool_state s.items s.workers);
    each = λ p here. get_or-replicate (2 * s.cpus) (pool_place p) (new_pool_state s.items s.workers) no_pool
        (pool_place_inside p s.cpus (2 * s.cpus) refl here) ∙ sym (pools_at_first s p);
  };
  books = record {
    room = refl;
    many = length-replicate (length s.queues) (new_book s.items);
    each = λ q here. subst (AreFlushes s [] q)
        (sym (get_or-replicate (length s.queues) q (new_book s.items) no_book here)) (flushes_at_first s q);
    numbers = sym (numbers_at_first s);
  };
  timers = sym (no_timers_at_first s);
  time = first_time;
  serials = record {
    many = length-replicate (who_places s.cpus) (let n : ℕ = 0 in n);
    each = λ who there. get_or-replicate (who_places s.cpus) (who_place who) 0 0
        (who_below s who there limits.workers.1 limits.callers.1);
  };
  flights = sym (no_flights_at_first s);
  tickets = sym (no_tickets_at_first s);
  gone = gone_at_first s;
  pwqs = pwqs_at_first s;
  widths = widths_at_first s;
  owing = sym (nothing_owed s);
}

pub book_at_first : (s : Layout) (room : ℕ) → is_layout s ≡ true → room ≤ most_room → IsState s room [] (first_parts s)
unfolding IsLegal
book_at_first s room inside few = record {
  inside = inside;
  few = few;
  legal = tt;
  parts_are = parts_at_first s (limits_of s inside);
  within = omega arith;
  soon = omega arith;
}

-- so the parts that are made are those of a book
pub book_made : (s : Layout) (room : ℕ) (pools : List PoolState) (books : FlushState) (timers : TimerRows)
    (serials : List ℕ) (flights : List Flight) (tickets : TicketBook) (gone : List Bool) (pwqs : PwqState)
    (most : List ℕ) → is_layout s ≡ true → room ≤ most_room →
    pools ≡ replicate (2 * s.cpus) (new_pool_state s.items s.workers)
    → books ≡ new_flush_state (length s.queues) s.items s.callers → timers ≡ replicate s.items None
    → serials ≡ replicate (who_places s.cpus) 0 →
    flights ≡ replicate s.items no_flight → tickets ≡ new_tickets s.callers s.items (length s.queues)
    → gone ≡ replicate (length s.queues) false → pwqs ≡ new_pwq_state (length s.queues) s.items
    → most ≡ first_most s.queues →
    IsState s room []
    (record {
      pools = pools;
      books = books;
      timers = timers;
      time = 0;
      serials = serials;
      flights = flights;
      tickets = tickets;
      gone = gone;
      pwqs = pwqs;
      most = most;
      frozen = false;
      owing = 0;
    })
book_made s room pools books timers serials flights tickets gone pwqs most inside few p b t n g h k l m =
    rw (p, b, t, n, g, h, k, l, m) (book_at_first s room inside few)
