-- Which queues are gone after an entry is what it is by the longer history.
use Rattle.cmwq_state.specs.Common.{◌≡◌, ℕ, Bool, true, false, ◌&&◌, ◌||◌, List, ◌∷◌, length, Option, Some, None, refl}
use Rattle.cmwq_state.specs.Common.{sym, ap, ◌∙◌, option_map_or, if◌then◌else◌, ltb-true, Call, Entry, Ticket, Layout}
use Rattle.cmwq_state.specs.Common.{has_numbers, is_destroy_of, is_gone, is_done, ends_destroy, IsLegal, ticket_asked}
use Rattle.cmwq_state.specs.Common.{ticket_ended, ended_ready, unended_fit}
use Rattle.cmwq_model.specs.declared.call.Call.TheVariants as call
use Rattle.cmwq_state.specs.Gone.{AreGone, MayLose, MayLoseQueue, LosesQueue}

-- a queue goes by the end of a destroy
gone_by : (past : List Entry) (e : Entry) (q : ℕ) (b : Bool) (c : Call) → (b && ends_destroy past q e.who c)
    ≡ option_map_or (is_destroy_of q) (if b then ticket_asked past e.who c else None) false
gone_by past e q true (call.End n) = refl
gone_by past e q true c = refl
gone_by past e q false c = refl

gone_after : (past : List Entry) (e : Entry) (q : ℕ)
    → is_gone (e ∷ past) q ≡ (is_gone past q || option_map_or (is_destroy_of q) (ticket_ended past e) false)
unfolding is_gone
gone_after past e q = ap (λ b. is_gone past q || b) (gone_by past e q (is_done e.reply) e.call)

pub gone_refine : (s : Layout) (past : List Entry) (e : Entry) (old new : List Bool) → AreGone s past old
    → LosesQueue (ticket_ended past e) old new → AreGone s (e ∷ past) new
gone_refine s past e old new are applied = record {
  many = applied.many ∙ are.many;
  each = λ q here. applied.each q
      ∙ (ap (λ b. b || option_map_or (is_destroy_of q) (ticket_ended past e) false) (are.each q here)
      ∙ sym (gone_after past e q));
}

may_lose : (s : Layout) (c : Call) (gone : List Bool) → length gone ≡ length s.queues → has_numbers s c ≡ true
    → MayLose c gone
may_lose s (call.Destroy q) gone many fit = rw many (ltb-true q.0 (length s.queues) fit)
may_lose s c gone many fit = tt

pub may_lose_destroyed : (s : Layout) (past : List Entry) (e : Entry) (gone : List Bool) → IsLegal s (e ∷ past)
    → IsLegal s past → AreGone s past gone → MayLoseQueue (ticket_ended past e) gone
may_lose_destroyed s past e gone legal before are = by (ticket_ended past e) refl
  where
    by : (o : Option Ticket) → ticket_ended past e ≡ o → MayLoseQueue o gone
    by None h = tt
    by (Some t) h =
        may_lose s t.call gone are.many (unended_fit s past t before (ended_ready s past e t legal h).stands)
