-- What a ticket waits for, by its call.
use Rattle.std.proofs.Common.{◌≡◌, ◌∙◌, ◌<◌, ℕ, true, false, List, length, Some, None, sym, eqb-true, refl}
use Rattle.std.specs.Prelude.{◌==◌, nat_le}
use Rattle.std.proofs.Common.{arith}
use Rattle.std.proofs.lemmas.Bool.{ltb-true}
use Rattle.cmwq_model.specs.Prelude.{is_within, serving_from}
use Rattle.cmwq_model.specs.Prelude.{Layout, has_numbers, holds_up, is_started}
use Rattle.cmwq_model.specs.declared.call.Call.{Call}
use Rattle.cmwq_model.specs.declared.call.Call.TheVariants as call
use Rattle.cmwq_model.specs.declared.entry.Entry.{Entry}
use Rattle.cmwq_model.specs.declared.id.ItemId.{ItemId}
use Rattle.cmwq_model.specs.declared.id.QueueId.{QueueId}
use Rattle.cmwq_model.specs.declared.record.Queueing.{Queueing}
use Rattle.cmwq_model.specs.declared.record.Ticket.{Ticket}
use Rattle.cmwq_waits.specs.HeldUp.{Scene, awaits}
use Rattle.cmwq_waits.specs.Looks.{WaitsForQueue, awaited_by}
use Rattle.cmwq_waits.specs.declared.look.Awaited.TheVariants.{Item, Queue}
use Rattle.cmwq_waits.proofs.Held.{awaits_unstarted, both}

same_item : (i j : ItemId) → Some (Item i) ≡ Some (Item j) → i.0 ≡ j.0
same_item i j h = grind arith

same_queue : (q r : QueueId) → Some (Queue q) ≡ Some (Queue r) → q.0 ≡ r.0
same_queue q r h = grind arith

holds_item : (past : List Entry) (n : ℕ) (c : Call) (i : ItemId) (x : Queueing) → awaited_by c ≡ Some (Item i)
    → holds_up past n c x ≡ true → x.item.0 ≡ i.0
holds_item past n (call.FlushItem j) i x is up =
    eqb-true x.item.0 j.0 (both (x.item.0 == j.0) (nat_le x.number n) up).0 ∙ same_item j i is
holds_item past n (call.FlushDelayed j) i x is up =
    eqb-true x.item.0 j.0 (both (x.item.0 == j.0) (nat_le x.number n) up).0 ∙ same_item j i is
holds_item past n c i x is up = grind arith

holds_queue : (past : List Entry) (n : ℕ) (c : Call) (q : QueueId) (x : Queueing) → awaited_by c ≡ Some (Queue q)
    → holds_up past n c x ≡ true → x.place.queue.0 ≡ q.0
holds_queue past n (call.Flush r) q x is up =
    eqb-true x.place.queue.0 r.0 (both (x.place.queue.0 == r.0) (is_within (serving_from past r.0 n) x.number) up).0
    ∙ same_queue r q is
holds_queue past n (call.Drain r) q x is up = eqb-true x.place.queue.0 r.0 up ∙ same_queue r q is
holds_queue past n (call.Destroy r) q x is up = eqb-true x.place.queue.0 r.0 up ∙ same_queue r q is
holds_queue past n c q x is up = grind arith

holds_none : (past : List Entry) (n : ℕ) (c : Call) (x : Queueing) → awaited_by c ≡ None → holds_up past n c x ≡ false
holds_none past n (call.FlushItem j) x is = absurd (cc is)
holds_none past n (call.FlushDelayed j) x is = absurd (cc is)
holds_none past n (call.Flush r) x is = absurd (cc is)
holds_none past n (call.Drain r) x is = absurd (cc is)
holds_none past n (call.Destroy r) x is = absurd (cc is)
holds_none past n c x is = refl

pub waits_for_item : (past : List Entry) (t : Ticket) (i : ItemId) → awaited_by t.call ≡ Some (Item i) → (x : Queueing)
    → is_started past x.number ≡ false → awaits past t x ≡ true → x.item.0 ≡ i.0
waits_for_item past t i is x unstarted up =
    holds_item past t.number t.call i x is (sym (awaits_unstarted past t x unstarted) ∙ up)

pub waits_for_queue : (c : Scene) (t : Ticket) (q : QueueId) → awaited_by t.call ≡ Some (Queue q)
    → WaitsForQueue c t q.0
waits_for_queue c t q is x unstarted up =
    holds_queue c.past t.number t.call q x is (sym (awaits_unstarted c.past t x unstarted) ∙ up)

pub waits_for_none : (past : List Entry) (t : Ticket) → awaited_by t.call ≡ None → (x : Queueing)
    → is_started past x.number ≡ false → awaits past t x ≡ false
waits_for_none past t is x unstarted = awaits_unstarted past t x unstarted ∙ holds_none past t.number t.call x is

-- the number is inside the layout
pub item_there : (s : Layout) (c : Call) (i : ItemId) → awaited_by c ≡ Some (Item i) → has_numbers s c ≡ true → i.0 < s.items
item_there s (call.FlushItem j) i is fits = let less = ltb-true j.0 s.items fits in
    let same = same_item j i is in omega arith
item_there s (call.FlushDelayed j) i is fits = let less = ltb-true j.0 s.items fits in
    let same = same_item j i is in omega arith
item_there s c i is fits = grind arith

pub queue_there : (s : Layout) (c : Call) (q : QueueId) → awaited_by c ≡ Some (Queue q) → has_numbers s c ≡ true
    → q.0 < length s.queues
queue_there s (call.Flush r) q is fits = let less = ltb-true r.0 (length s.queues) fits in
    let same = same_queue r q is in omega arith
queue_there s (call.Drain r) q is fits = let less = ltb-true r.0 (length s.queues) fits in
    let same = same_queue r q is in omega arith
queue_there s (call.Destroy r) q is fits = let less = ltb-true r.0 (length s.queues) fits in
    let same = same_queue r q is in omega arith
queue_there s c q is fits = grind arith
