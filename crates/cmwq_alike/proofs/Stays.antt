-- What is alike before a call is alike after it.
use Rattle.cmwq_alike.specs.Alike.{AlikeGoOn}
use Rattle.cmwq_alike.proofs.Opens.{open_go_on_alike}
use Rattle.cmwq_alike.proofs.Orders.{order_stays, below_stays}
use Rattle.cmwq_alike.proofs.Widths.{frozen_stays, max_stays}
use Rattle.cmwq_alike.proofs.Actives.{active_stays, worklists_stay}
use Rattle.cmwq_alike.proofs.Tickets.{tickets_stay}
use Rattle.cmwq_alike.proofs.Served.{served_stays}
use Rattle.cmwq_alike.proofs.Runs.{started_stay, runs_stay, sleepers_stay, enlisted_stay, item_runs_stay}
use Rattle.cmwq_alike.proofs.Rest.{gone_stay, bookings_stay, time_stays}
use Rattle.cmwq_alike.proofs.Booked.{standing_stay}

pub alike_go_on : AlikeGoOn
alike_go_on s f past other e d k =
    record {
      order = order_stays k;
      below = below_stays k;
      opened = open_go_on_alike s f past other e d k;
      started = started_stay k;
      active = active_stays k;
      worklists = worklists_stay k;
      runs = runs_stay k;
      sleepers = sleepers_stay k;
      enlisted = enlisted_stay k;
      item_runs = item_runs_stay k;
      tickets = tickets_stay k;
      served = served_stays k;
      gone = gone_stay k;
      bookings = bookings_stay k;
      standing = standing_stay k;
      time = time_stays k;
      frozen = frozen_stays k;
      widths = max_stays k;
    }
