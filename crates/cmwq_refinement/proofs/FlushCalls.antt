-- What each call of a flush book leaves, over plain values.
use Rattle.cmwq_refinement.specs.Common.{◌≡◌, ◌==◌, ◌<◌, ◌≤◌, ◌+◌, ℕ, false, List, [], ◌∷◌, ◌++◌, length, filter}
use Rattle.cmwq_refinement.specs.Common.{Option, Some, None, nat_lt, refl, sym, ap, subst, arith, append-nil, ⊎_elim}
use Rattle.cmwq_refinement.specs.Common.{is_some, if◌then◌else◌, AllByRecursion, eqb-true, ltb-true, ltb-false}
use Rattle.cmwq_refinement.specs.Common.{append_assoc, map_push, length-append, filter-append, Entry, serving_from}
use Rattle.cmwq_refinement.specs.Common.{Served, is_other_number, without, tickets_of_served, has_ticket}
use Rattle.cmwq_refinement.specs.Common.{is_other_flush, FlushBook, flush_tickets, served_of, flush_from}
use Rattle.cmwq_refinement.specs.Common.{flushes_with_wait, flushes_without_wait, serve_oldest, served_with_oldest}
use Rattle.cmwq_refinement.specs.Common.{without_oldest, IsServing, find_none, nat_tests}
use Rattle.cmwq_refinement.proofs.Numbers.{All_push, In, RisesBy, all_kept, all_mapped, all_split, cond_both}
use Rattle.cmwq_refinement.proofs.Numbers.{filter_shorter, found, in_mapped, in_some, itself, later_differ, none_in}
use Rattle.cmwq_refinement.proofs.Numbers.{of_in, rises_apart, without_none}
use Rattle.cmwq_flush.specs.Served.{ticket_of_served}
use Rattle.cmwq_refinement.specs.FlushBooks.{IsServedFrom}

-- a flush that is served: from a position of the history, or from the entry that is being applied
pub data ServedSoon (past : List Entry) (q next : ℕ) (opened : List ℕ) (f : Served) : Type 0 where
  already : IsServedFrom past q opened f → ServedSoon past q next opened f
  just_now : serving_from past q f.ticket ≡ None → f.bound ≡ next → ServedSoon past q next opened f

-- the book's flushes are these
pub record Stands (past : List Entry) (q : ℕ) (flushes : List ℕ) (b : FlushBook) : Type 0 where
  pub flushes_are : flush_tickets b ≡ flushes
  pub few : length b.served ≤ 15
  pub serving : IsServing b
  pub bounds : AllByRecursion (λ f. f.bound ≤ b.next) b.served
  pub soon : AllByRecursion (ServedSoon past q b.next b.opened) b.served
  pub overflowed : AllByRecursion (λ t. serving_from past q t ≡ None) b.overflow

-- ---- a flush begins

pub stands_begin : (past : List Entry) (q t : ℕ) (flushes : List ℕ) (b : FlushBook) → serving_from past q t ≡ None
    → Stands past q flushes b → Stands past q (flushes ++ t ∷ []) (flushes_with_wait b t)
stands_begin past q t flushes b unserved is =
    cond_both (nat_lt (length b.served) 15) (record b { served = b.served ++ flush_from t b.next ∷ [] })
    (record b { overflow = b.overflow ++ t ∷ [] }) (Stands past q (flushes ++ t ∷ [])) (λ fits.
    let few : length b.served < 15 = ltb-true (length b.served) 15 fits in
    let empty : b.overflow ≡ [] =
    none_in b.overflow (λ o i. let full = is.serving (in_some b.overflow o i) in absurd (omega arith)) in
    record {
      flushes_are =
          cc (
            empty,
            is.flushes_are,
            map_push ticket_of_served b.served (flush_from t b.next),
            append-nil (tickets_of_served b.served),
            append-nil (tickets_of_served b.served ++ t ∷ []),
          );
      few = omega (arith, length-append b.served (flush_from t b.next ∷ []));
      serving = λ some. absurd (omega (arith, ap length empty));
      bounds = All_push (λ f. f.bound ≤ b.next) b.served (flush_from t b.next) is.bounds (omega arith);
      soon = All_push (ServedSoon past q b.next b.opened) b.served (flush_from t b.next) is.soon
          (just_now unserved refl);
      overflowed = is.overflowed;
    })
    (λ more. record {
      flushes_are = cc (append_assoc (tickets_of_served b.served) b.overflow (t ∷ []), is.flushes_are);
      few = is.few;
      serving = λ some. omega (arith, is.few, ltb-false (length b.served) 15 more);
      bounds = is.bounds;
      soon = is.soon;
      overflowed = All_push (λ u. serving_from past q u ≡ None) b.overflow t is.overflowed unserved;
    })

-- ---- a flush ends

others_tickets : (t : ℕ) (fs : List Served) → tickets_of_served (filter (is_other_flush t) fs)
    ≡ without t (tickets_of_served fs)
others_tickets t [] = refl
others_tickets t (f ∷ fs) = grind (arith, others_tickets t fs)

later_stay : (t : ℕ) (fs : List Served) → AllByRecursion (λ m. t < m) (tickets_of_served fs)
    → filter (is_other_flush t) fs ≡ fs
later_stay t [] h = refl
later_stay t (f ∷ fs) h = grind (arith, nat_tests, later_stay t fs)

-- of those that rise by ticket one has it
one_less : (t : ℕ) (fs : List Served) → RisesBy itself (tickets_of_served fs) → In t (tickets_of_served fs)
    → length (filter (is_other_flush t) fs) + 1 ≡ length fs
one_less t [] rise here = absurd here
one_less t (f ∷ fs) rise here = ⊎_elim
    (λ e. grind
    (arith, nat_tests, later_stay t fs (subst (λ k. AllByRecursion (λ m. k < m) (tickets_of_served fs)) e rise.0)))
    (λ i. grind (arith, nat_tests, one_less t fs rise.1 i, of_in (λ m. f.ticket < m) (tickets_of_served fs) t rise.0 i))
    here

first_part : (xs ys : List ℕ) → RisesBy itself (xs ++ ys) → RisesBy itself xs
first_part [] ys h = tt
first_part (x ∷ xs) ys h = ((all_split (λ m. x < m) xs ys h.0).0, first_part xs ys h.1)

-- one that is served ends, and the oldest of the overflow is served
served_ends : (past : List Entry) (q t : ℕ) (flushes : List ℕ) (b : FlushBook) → RisesBy itself (flush_tickets b)
    → In t (tickets_of_served b.served) → Stands past q flushes b
    → Stands past q (without t flushes) (serve_oldest b (filter (is_other_flush t) b.served))
served_ends past q t flushes b rise here is = with b.overflow refl
  where
    others : List Served
    others = filter (is_other_flush t) b.served

    left : without t flushes ≡ tickets_of_served others ++ b.overflow
    left = cc (
      is.flushes_are,
      filter-append (is_other_number t) (tickets_of_served b.served) b.overflow,
      others_tickets t b.served,
      without_none t b.overflow
          (later_differ t b.overflow (rises_apart (tickets_of_served b.served) b.overflow t rise here)),
    )

    shorter : length others + 1 ≡ length b.served
    shorter = one_less t b.served (first_part (tickets_of_served b.served) b.overflow rise) here

    with : (os : List ℕ) → b.overflow ≡ os
        → Stands past q (without t flushes)
        (record b { served = served_with_oldest others os b.next; overflow = without_oldest os })
    with [] e = record {
      flushes_are = cc (left, e);
      few = omega (arith, shorter, is.few);
      serving = λ some. absurd (omega arith);
      bounds = all_kept (λ f. f.bound ≤ b.next) (is_other_flush t) b.served is.bounds;
      soon = all_kept (ServedSoon past q b.next b.opened) (is_other_flush t) b.served is.soon;
      overflowed = tt;
    }
    with (o ∷ os) e =
        let longer = length-append others (flush_from o b.next ∷ []) in
        let full = is.serving (omega (arith, ap length e)) in
        let waiting = subst (AllByRecursion (λ u. serving_from past q u ≡ None)) e is.overflowed in
        record {
          flushes_are =
              cc (
                left,
                e,
                map_push ticket_of_served others (flush_from o b.next),
                append_assoc (tickets_of_served others) (o ∷ []) os,
              );
          few = omega (arith, shorter, is.few, longer);
          serving = λ more. omega (arith, shorter, full, longer);
          bounds = All_push (λ f. f.bound ≤ b.next) others (flush_from o b.next)
              (all_kept (λ f. f.bound ≤ b.next) (is_other_flush t) b.served is.bounds) (omega arith);
          soon = All_push (ServedSoon past q b.next b.opened) others (flush_from o b.next)
              (all_kept (ServedSoon past q b.next b.opened) (is_other_flush t) b.served is.soon)
              (just_now waiting.0 refl);
          overflowed = waiting.1;
        }

-- one in overflow ends
overflow_ends : (past : List Entry) (q t : ℕ) (flushes : List ℕ) (b : FlushBook)
    → AllByRecursion (λ f. has_ticket t f ≡ false) b.served → Stands past q flushes b
    → Stands past q (without t flushes) (record b { overflow = without t b.overflow })
overflow_ends past q t flushes b absent is = record {
  flushes_are =
      cc (
        is.flushes_are,
        filter-append (is_other_number t) (tickets_of_served b.served) b.overflow,
        without_none t (tickets_of_served b.served)
            (all_mapped ticket_of_served (λ m. (m == t) ≡ false) b.served absent),
      );
  few = is.few;
  serving = λ some. is.serving (omega (arith, filter_shorter (is_other_number t) b.overflow));
  bounds = is.bounds;
  soon = is.soon;
  overflowed = all_kept (λ u. serving_from past q u ≡ None) (is_other_number t) b.overflow is.overflowed;
}

ends : (past : List Entry) (q t : ℕ) (flushes : List ℕ) (b : FlushBook) (o : Option Served) → served_of b t ≡ o
    → RisesBy itself (flush_tickets b) → Stands past q flushes b
    → Stands past q (without t flushes) (if is_some o then serve_oldest b (filter (is_other_flush t) b.served)
    else record b { overflow = without t b.overflow })
ends past q t flushes b None is rise stands =
    overflow_ends past q t flushes b (find_none (has_ticket t) b.served is) stands
ends past q t flushes b (Some f) is rise stands =
    let k = found (has_ticket t) b.served f is in
    served_ends past q t flushes b rise
    (subst (λ n. In n (tickets_of_served b.served)) (eqb-true f.ticket t k.1)
    (in_mapped ticket_of_served b.served f k.0)) stands

pub stands_end : (past : List Entry) (q t : ℕ) (flushes : List ℕ) (b : FlushBook) → RisesBy itself flushes
    → Stands past q flushes b → Stands past q (without t flushes) (flushes_without_wait b t)
stands_end past q t flushes b rise is =
    ends past q t flushes b (served_of b t) refl (subst (RisesBy itself) (sym is.flushes_are) rise) is
