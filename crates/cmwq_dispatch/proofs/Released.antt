-- Who goes on waiting after an entry.
use Rattle.cmwq_theory_steps.specs.Common.{◌≡◌, ◌==◌, true, false, List, ◌∷◌, Option, Some, None, sym, ap}
use Rattle.cmwq_theory_steps.specs.Common.{◌∙◌, subst, arith, nat_tests, Entry, Layout, Queueing, IsLegal}
use Rattle.cmwq_model.specs.Prelude.{flushes}
use Rattle.cmwq_model.specs.declared.id.QueueId.{QueueId}
use Rattle.cmwq_model.specs.declared.call.Call.TheVariants as call
use Rattle.std.proofs.lemmas.Bool.{both_ways, true_from_ne_false}
use Rattle.std.proofs.lemmas.Option.{same_Some}
use Rattle.cmwq_theory_steps.specs.Endings.{ending}
use Rattle.cmwq_theory_wakes.specs.Readiness.{may_release}
use Rattle.cmwq_theory_wakes.proofs.Readiness.{released_by}
use Rattle.cmwq_dispatch.specs.Naming.{NamesMore}
use Rattle.cmwq_dispatch.specs.Waiting.{AllWait, AreFlushes, IsNamedOrSame, MostWait, OnlyNamed, OthersWait}
use Rattle.cmwq_dispatch.specs.Waiting.{UnreleasedWait}
use Rattle.cmwq_dispatch.specs.Waiting as waiting
use Rattle.cmwq_dispatch.specs.declared.wakes.Wakes.{Wakes}
use Rattle.cmwq_dispatch.specs.declared.waiters.Waiter.{Waiter}

-- all go on waiting but for those that the end of a queueing may release
pub most_wait_on : (s : Layout) (past : List Entry) (e : Entry) (xs : List Waiter) (o : Option Queueing)
    → IsLegal s (e ∷ past) → ending past e ≡ o → AllWait past xs → MostWait (e ∷ past) o xs
most_wait_on s past e xs None legal ends all = λ k w is quiet. true_from_ne_false _ (λ free.
    let r = released_by s past e legal w.ticket.number w.ticket.call (all k w is quiet) free in
    let bad : Some r.queueing ≡ None = sym r.ends ∙ ends in
    cc)
most_wait_on s past e xs (Some x) legal ends all = λ k w is quiet unreleased. true_from_ne_false _ (λ free.
    let r = released_by s past e legal w.ticket.number w.ticket.call (all k w is quiet) free in
    let same : r.queueing ≡ x = same_Some r.queueing x (sym r.ends ∙ ends) in
    both_ways _ unreleased (subst (λ (y : Queueing). may_release w.ticket.call y ≡ true) same r.released))

-- and so do the flushes of other queues
pub others_wait : (past : List Entry) (x : Queueing) (xs : List Waiter) → AreFlushes xs → UnreleasedWait past x xs
    → OthersWait past x.place.queue xs
others_wait past x xs kind unreleased k w is quiet other = unreleased k w is quiet (at (kind k w is))
  where
    at : (q : QueueId) × (w.ticket.call ≡ call.Flush q) → may_release w.ticket.call x ≡ false
    at f =
        let away : (f.0.0 == x.place.queue.0) ≡ false = sym (ap (flushes x.place.queue.0) f.1) ∙ other in
        ap (λ c. may_release c x) f.1 ∙ (grind (arith, nat_tests))

-- those that were named still are

pub named_more : (old new : Wakes) (xs ys : List Waiter) → NamesMore old new → OnlyNamed old xs ys
    → OnlyNamed new xs ys
named_more old new xs ys more only =
    record { count = only.count; each = λ k v w hv hw. at v w (only.each k v w hv hw) }
  where
    at : (v w : Waiter) → IsNamedOrSame old v w → IsNamedOrSame new v w
    at v w (waiting.same e) = waiting.same e
    at v w (waiting.named e h) = waiting.named e (more.callers v.ticket.caller.0 h)
