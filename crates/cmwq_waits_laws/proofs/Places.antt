-- Where runs that wait have all places before a queueing, that does not become active.
use Rattle.std.proofs.Common.{◌≡◌, ◌∙◌, ◌≤◌, ◌∷◌, ◌&&◌, ◌||◌, ℕ, true, false, List, ap₂, arith, count_by}
use Rattle.std.specs.List.{sum_by}
use Rattle.std.proofs.lemmas.Bool.{false_from_ne_true, leb-true, ltb-true}
use Rattle.cmwq_lemmas.proofs.Truth.{and_false}
use Rattle.cmwq_model.specs.Prelude.{Layout, is_ahead, is_below_max_active, is_live, still_open}
unfoldable use Rattle.cmwq_model.specs.Prelude.{is_active, max_active, width}
use Rattle.cmwq_model.specs.declared.entry.Entry.{Entry}
use Rattle.cmwq_model.specs.declared.record.Queueing.{Queueing}
use Rattle.cmwq_theory_steps.proofs.Joined.{active_go_on}
use Rattle.cmwq_waits.specs.HeldUp.{Scene, have_all_places, places_ahead}
use Rattle.cmwq_waits.specs.declared.run_wait.RunWait.{RunWait}
use Rattle.cmwq_waits_laws.specs.Lasting.{scene_of}
use Rattle.cmwq_waits_laws.proofs.Apart.{HaveOtherItems}
use Rattle.cmwq_waits_laws.proofs.Counts.{kinds_apart}

-- a queue is never wider than it is when it is thawed
pub width_within : (s : Layout) (past : List Entry) (q : ℕ) → width s past q ≤ max_active s past q
unfolding width
width_within s past q = grind arith

-- the places that their items have are no more than there are
pub places_within : (c : Scene) (ws : List RunWait) (x : Queueing) → HaveOtherItems ws
    → sum_by (places_ahead c x) ws ≤ count_by (is_ahead x) c.opened
places_within c ws x apart =
    kinds_apart (λ (w : RunWait). w.run.item.0) (λ (y : Queueing). y.item.0) ws (is_ahead x) c.opened apart

-- so what was inactive stays so where they have all places
pub stays_inactive : (s : Layout) (past : List Entry) (e : Entry) (ws : List RunWait) (x : Queueing)
    → HaveOtherItems ws → is_active s past x ≡ false → have_all_places (scene_of s (e ∷ past)) ws x ≡ true
    → is_active s (e ∷ past) x ≡ false
stays_inactive s past e ws x apart inactive all =
    active_go_on s past e x
    ∙ (ap₂ (λ a b. is_live (e ∷ past) x && (a || b)) inactive full ∙ and_false (is_live (e ∷ past) x))
  where
    q : ℕ
    q = x.place.queue.0

    full : is_below_max_active s (e ∷ past) x ≡ false
    full = false_from_ne_true _ (λ below.
        let few = ltb-true (count_by (is_ahead x) (still_open (e ∷ past))) (width s (e ∷ past) q) below in
        let many =
        leb-true (max_active s (e ∷ past) q) (sum_by (places_ahead (scene_of s (e ∷ past)) x) ws) all in
        absurd
        (omega (arith, few, many, width_within s (e ∷ past) q, places_within (scene_of s (e ∷ past)) ws x apart)))
