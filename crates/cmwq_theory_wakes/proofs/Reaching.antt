-- The reach of an entry contains every pool that the entry touches.
use Rattle.std.specs.Prelude.{◌⊎◌}
use Rattle.std.proofs.lemmas.Option.{same_Some}
use Rattle.cmwq_model.specs.declared.reply.Reply.TheVariants as reply
use Rattle.cmwq_model.specs.Queueings.{place_booked}
use Rattle.cmwq_theory_steps.specs.Common.{◌≡◌, inl, inr, ℕ, true, false, List, ◌∷◌, Option, Some, None, refl, sym, ap}
use Rattle.cmwq_theory_steps.specs.Common.{◌∙◌, subst, is_some, option_or, option_map_or, PoolId, Reply, Entry, Place}
use Rattle.cmwq_theory_steps.specs.Common.{Queueing, Start, Layout, IsLegal, pool_at, place_called, opening, opens}
use Rattle.cmwq_theory_steps.specs.Common.{queued_at, item_run, item_runs, if◌then◌else◌}
use Rattle.cmwq_theory_steps.specs.Endings.{ending}
use Rattle.cmwq_theory_steps.proofs.Causes.{cause_of}
use Rattle.cmwq_theory_steps.proofs.Reasons.{queue_reason, again_reason}
use Rattle.cmwq_theory_steps.proofs.Pending.{opening_opens}
use Rattle.cmwq_theory_steps.proofs.StateSteps.{opens_as_asked}
use Rattle.cmwq_theory_wakes.specs.Starting.{Touches, is_finish, may_widen, leaves_next}
use Rattle.cmwq_theory_wakes.specs.Starting as touch
use Rattle.cmwq_theory_wakes.specs.Reach.{Reach, Reaches, own_pool, pool_called, reach_by_reply, reach_by_ending}

-- a queueing whose item has no run opens in the pool of the place that its call names
free_place : (s : Layout) (past : List Entry) (i : ℕ) (p : Place) → item_runs past i ≡ false
    → pool_at s (queued_at past i p).place ≡ pool_at s p
free_place s past i p free = at (item_run past i) refl free
  where
    at : (o : Option Start) → item_run past i ≡ o → is_some o ≡ false
        → pool_at s (queued_at past i p).place ≡ pool_at s p
    at None is h =
        ap (λ (q : Option Start). pool_at s (record {
          queue = p.queue;
          cpu = option_map_or (λ (start : Start). start.worker.pool.cpu) q p.cpu;
        })) is
    at (Some start) is h = cc

asked_pool : (s : Layout) (past : List Entry) (e : Entry) (x : Queueing) (p : PoolId) (place : Place)
    → IsLegal s (e ∷ past) → opening past e ≡ Some x → pool_at s x.place ≡ p → item_runs past x.item.0 ≡ false
    → place_called e.call ≡ Some place → Reaches (pool_called s (place_called e.call)) p
asked_pool s past e x p place legal is pool free called =
    let k = opens_as_asked s past e legal (opening_opens past e x is) in
    let same : k.place ≡ place =
    same_Some k.place place (sym k.is_place ∙ ap (λ o. option_or o (place_booked past k.item)) called) in
    let x_is : x ≡ queued_at past k.item k.place = same_Some x (queued_at past k.item k.place) (sym is ∙ k.opened) in
    let its : pool_at s (queued_at past k.item k.place).place ≡ pool_at s k.place =
    free_place s past k.item k.place
    (subst (λ (y : Queueing). item_runs past y.item.0 ≡ false) x_is free) in
    subst (λ o. Reaches (pool_called s o) p) (sym called)
    (sym (ap (pool_at s) same) ∙ (sym its ∙ (sym (ap (λ (y : Queueing). pool_at s y.place) x_is) ∙ pool)))

pub reach_suffices : (s : Layout) (past : List Entry) (e : Entry) → IsLegal s (e ∷ past) → (p : PoolId)
    → Touches s past e p → Reaches (reach_by_reply s e e.reply) p ⊎ Reaches (reach_by_ending s e (ending past e)) p
reach_suffices s past e legal p (touch.leaves w who pool h) = inl (at e.reply refl h)
  where
    own : Reaches (own_pool e.who) p
    own = subst (λ a. Reaches (own_pool a) p) (sym who) pool

    at : (r : Reply) → e.reply ≡ r → leaves_next r ≡ true → Reaches (reach_by_reply s e r) p
    at (reply.Started n) is k = own
    at (reply.StartedEnlist n x) is k = own
    at reply.Slept is k = own
    at reply.Retired is k = own
    at r is k = cc
reach_suffices s past e legal p (touch.ends x ends pool quiet) =
    inr (subst (λ o. Reaches (reach_by_ending s e o) p) (sym ends)
    (subst (λ b. Reaches (if b then Reach.nowhere else Reach.only (pool_at s x.place)) p) (sym quiet) pool))
reach_suffices s past e legal p (touch.opens x is pool free) = inl (at e.reply refl (opening_opens past e x is))
  where
    at : (r : Reply) → e.reply ≡ r → opens r ≡ true → Reaches (reach_by_reply s e r) p
    at (reply.Yes k) told h =
        let g = (queue_reason s past e.who e.call e.reply k (cause_of s past e legal) told).1 in
        asked_pool s past e x p g.place legal is pool free g.is_place
    at (reply.Again k) told h =
        let g = (again_reason s past e.who e.call e.reply k (cause_of s past e legal) told).1 in
        asked_pool s past e x p g.place legal is pool free g.is_place
    at (reply.Fired i k) told h = tt
    at (reply.TicketQueued k) told h = tt
    at r told h = cc
reach_suffices s past e legal p (touch.widens h) = inl (at e.reply h)
  where
    at : (r : Reply) → may_widen r ≡ true → Reaches (reach_by_reply s e r) p
    at (reply.Width n) k = tt
    at reply.Thawed k = tt
    at r k = cc
