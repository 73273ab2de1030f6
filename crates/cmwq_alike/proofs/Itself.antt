-- A history is alike to itself.
use Rattle.std.specs.Prelude.{◌≡◌}
use Rattle.cmwq_alike.specs.Common.{List, [], ◌∷◌, map, Option, Some, None, option_map, refl, sym, ap}
use Rattle.cmwq_alike.specs.Common.{All_each, still_open, worklist, run, item_run, unended_tickets}
use Rattle.cmwq_alike.specs.Alike.{EachIsAlikeToItself, queueing_by, ticket_by, start_by}
use Rattle.cmwq_alike.proofs.Orders.{old_of}

map_same : {X : Type 0} (g : X → X) (xs : List X) → ((x : X) → g x ≡ x) → xs ≡ map g xs
map_same g [] h = refl
map_same g (x ∷ xs) h = cc (h x, map_same g xs h)

some_same : {X : Type 0} (g : X → X) (o : Option X) → ((x : X) → g x ≡ x) → o ≡ option_map g o
some_same g None h = refl
some_same g (Some x) h = ap Some (sym (h x))

pub itself_alike : EachIsAlikeToItself
itself_alike s past =
    record {
      order = λ a b ma mb. refl;
      below = λ n m. (old_of past n m).below;
      opened = map_same (queueing_by (λ n. n)) (still_open past) (λ x. refl);
      started = All_each _ (still_open past) (λ x. refl);
      active = All_each _ (still_open past) (λ x. refl);
      worklists = λ p. map_same (queueing_by (λ n. n)) (worklist s past p) (λ x. refl);
      runs = λ w. some_same (λ n. n) (run past w) (λ x. refl);
      sleepers = λ w. refl;
      enlisted = λ w. refl;
      item_runs = λ i. some_same (start_by (λ n. n)) (item_run past i) (λ x. refl);
      tickets = map_same (ticket_by (λ n. n)) (unended_tickets past) (λ x. refl);
      served = λ q. All_each _ (unended_tickets past)
          (λ t flush. record { both = refl; within = All_each _ (still_open past) (λ x on. refl) });
      gone = λ q. refl;
      bookings = λ i. refl;
      standing = refl;
      time = refl;
      frozen = refl;
      widths = λ q. refl;
    }
