-- An entry reaches pools of CPUs that there are.
use Rattle.cmwq_theory_steps.specs.Common.{◌≡◌, ◌<◌, ℕ, Bool, true, false, ◌&&◌, List, ◌∷◌, Option, Some, None, refl}
use Rattle.cmwq_theory_steps.specs.Common.{sym}
use Rattle.cmwq_theory_steps.specs.Common.{subst, nat_lt, ltb-true, fits, may_make, has_numbers}
use Rattle.cmwq_theory_steps.specs.Common.{Who, Caller, Worker, Call, Reply, Entry, Queueing, Layout, IsLegal}
use Rattle.cmwq_theory_steps.specs.Common.{place_called, pool_at, is_workers, still_open, length, if◌then◌else◌}
use Rattle.cmwq_model.specs.declared.call.Call.TheVariants as call
use Rattle.cmwq_model.specs.declared.reply.Reply.TheVariants as reply
use Rattle.std.proofs.lemmas.Bool.{and_parts}
use Rattle.cmwq_lemmas.proofs.Members.{found}
use Rattle.cmwq_refinement.proofs.PlacesFit.{open_there}
use Rattle.cmwq_theory_steps.specs.Endings.{ending, is_ended}
use Rattle.cmwq_theory_wakes.specs.Reach.{nowhere, only, own_pool, pool_called, reach_by_ending, reach_by_reply}
use Rattle.cmwq_theory_wakes.specs.Starting.{is_finish}
use Rattle.cmwq_dispatch.specs.Reached.{IsReachWithin}

own_within : (s : Layout) (who : Who) (c : Call) → fits s who c ≡ true → IsReachWithin s.cpus (own_pool who)
own_within s (Caller k) c h = tt
own_within s (Worker w) c h =
    ltb-true w.pool.cpu.0 s.cpus
    (and_parts (nat_lt w.pool.cpu.0 s.cpus) (nat_lt w.index s.workers)
    (and_parts (nat_lt w.pool.cpu.0 s.cpus && nat_lt w.index s.workers) (is_workers c)
    (and_parts (may_make s (Worker w) c) (has_numbers s c) h).0).0).0

at_place : (s : Layout) (i q c : ℕ) → (nat_lt i s.items && nat_lt q (length s.queues) && nat_lt c s.cpus) ≡ true
    → c < s.cpus
at_place s i q c h = ltb-true c s.cpus (and_parts (nat_lt i s.items && nat_lt q (length s.queues))
    (nat_lt c s.cpus) h).1

called_within : (s : Layout) (c : Call) → has_numbers s c ≡ true → IsReachWithin s.cpus (pool_called s (place_called c))
called_within s (call.Queue i q c) h = at_place s i.0 q.0 c.0 h
called_within s (call.Delay i q c t) h = at_place s i.0 q.0 c.0 h
called_within s (call.Modify i q c t) h = at_place s i.0 q.0 c.0 h
called_within s c h = tt

by_reply : (s : Layout) (e : Entry) (r : Reply) → fits s e.who e.call ≡ true
    → IsReachWithin s.cpus (reach_by_reply s e r)
by_reply s e (reply.Started n) h = own_within s e.who e.call h
by_reply s e (reply.StartedEnlist n x) h = own_within s e.who e.call h
by_reply s e reply.Slept h = own_within s e.who e.call h
by_reply s e reply.Retired h = own_within s e.who e.call h
by_reply s e (reply.Yes k) h = called_within s e.call (and_parts (may_make s e.who e.call) (has_numbers s e.call) h).1
by_reply s e (reply.Again k) h = called_within s e.call (and_parts (may_make s e.who e.call) (has_numbers s e.call) h).1
by_reply s e (reply.Fired i k) h = tt
by_reply s e (reply.TicketQueued k) h = tt
by_reply s e (reply.Width n) h = tt
by_reply s e reply.Thawed h = tt
by_reply s e r h = tt

pub reply_within : (s : Layout) (past : List Entry) (e : Entry) → IsLegal s (e ∷ past)
    → IsReachWithin s.cpus (reach_by_reply s e e.reply)
unfolding IsLegal
reply_within s past e legal = by_reply s e e.reply legal.0

pub ending_within : (s : Layout) (past : List Entry) (e : Entry) → IsLegal s (e ∷ past)
    → IsReachWithin s.cpus (reach_by_ending s e (ending past e))
unfolding IsLegal
ending_within s past e legal = at (ending past e) refl (is_finish e.reply) refl
  where
    at : (o : Option Queueing) → ending past e ≡ o → (b : Bool) → is_finish e.reply ≡ b
        → IsReachWithin s.cpus (reach_by_ending s e o)
    at None is b f = tt
    at (Some x) is true f = subst (λ c. IsReachWithin s.cpus (if c then nowhere else only (pool_at s x.place)))
        (sym f) tt
    at (Some x) is false f =
        subst (λ c. IsReachWithin s.cpus (if c then nowhere else only (pool_at s x.place))) (sym f)
        (open_there s past x legal.2 (found (is_ended past e) (still_open past) x is).0).cpu
