-- What is queued of a booked item when a run waits for it.
use Rattle.std.proofs.Common.{◌≡◌, ◌<◌, ℕ, true, List, length, Option, Some, None, ap, arith, refl, subst}
use Rattle.std.specs.Prelude.{is_some, option_map}
use Rattle.std.specs.Option.{option_map_or}
use Rattle.std.proofs.lemmas.Option.{same_Some}
use Rattle.cmwq_model.specs.Prelude.{IsLegal, Layout, cpu_for, has_number, has_numbers, is_live, item_run}
use Rattle.cmwq_model.specs.Prelude.{queued_at, queueings, booking}
use Rattle.cmwq_model.specs.declared.call.Call.{Call}
use Rattle.cmwq_model.specs.declared.call.Call.TheVariants as call
use Rattle.cmwq_model.specs.declared.entry.Entry.{Entry}
use Rattle.cmwq_model.specs.declared.id.PoolId.{PoolId}
use Rattle.cmwq_model.specs.declared.record.Booking.{Booking}
use Rattle.cmwq_model.specs.declared.record.Start.{Start}
use Rattle.std.proofs.lemmas.Bool.{ltb-true}
use Rattle.cmwq_lemmas.proofs.Members.{filter_in, found}
use Rattle.cmwq_theory_steps.proofs.Fresh.{not_started_yet}
use Rattle.cmwq_theory_steps.proofs.Pending.{booked_or_unstarted}
use Rattle.cmwq_theory_steps.proofs.EndsAsTold.{runs_are_queueings}
use Rattle.cmwq_refinement.proofs.FirstDue.{in_standing, standing_fits}
use Rattle.cmwq_refinement.proofs.PlacesFit.{open_there}
use Rattle.cmwq_waits.specs.Refused.{queued}
use Rattle.cmwq_waits.specs.Looks.{IsNext, IsQueuedNext}

cpu_there : (s : Layout) (past : List Entry) (i : ℕ) (b : Booking) → IsLegal s past → booking past i ≡ Some b
    → (cpu_for past i b.place.cpu).0 < s.cpus
cpu_there s past i b legal is = by (item_run past i) refl
  where
    by : (o : Option Start) → item_run past i ≡ o
        → (option_map_or (λ (start : Start). start.worker.pool.cpu) o b.place.cpu).0 < s.cpus
    by None none = (standing_fits s past b legal (in_standing past i b is)).cpu
    by (Some start) some =
        let r = runs_are_queueings s past legal i start some in
        let made = (found (has_number start.number) (queueings past) r.queueing r.found).0 in
        let here = filter_in (is_live past) (queueings past) r.queueing made r.live in
        let there = (open_there s past r.queueing legal here).cpu in
        subst (λ (p : PoolId). p.cpu.0 < s.cpus) r.pool there

next_of_booked : (s : Layout) (past : List Entry) (i : ℕ) (b : Booking) → IsLegal s past → booking past i ≡ Some b
    → i < s.items → IsNext s past (queued_at past i b.place)
next_of_booked s past i b legal is there = record {
  number = refl;
  unstarted = not_started_yet s past (length past) legal (omega arith);
  alone = booked_or_unstarted s past i legal (ap is_some is);
  item = there;
  queue = (standing_fits s past b legal (in_standing past i b is)).queue;
  cpu = cpu_there s past i b legal is;
}

pub queued_is_next : (s : Layout) (past : List Entry) (c : Call) → IsLegal s past → has_numbers s c ≡ true
    → IsQueuedNext s past (queued past c)
queued_is_next s past (call.FlushDelayed i) legal fits x is = by (booking past i.0) refl is
  where
    by : (o : Option Booking) → booking past i.0 ≡ o → option_map (λ (b : Booking). queued_at past i.0 b.place) o ≡ Some x
        → IsNext s past x
    by None none h = absurd (cc h)
    by (Some b) some h =
        subst (IsNext s past) (same_Some (queued_at past i.0 b.place) x h)
        (next_of_booked s past i.0 b legal some (ltb-true i.0 s.items fits))
queued_is_next s past c legal fits x is = absurd (cc is)
