-- What a fire is answered.
use Rattle.cmwq_core.specs.Common.{◌≡◌, ℕ, List, Option, Some, None, refl, sym, ap, option_map, same_Some, ItemId}
use Rattle.cmwq_core.specs.Common.{Entry, Booking, first_due, fired_answer}
use Rattle.cmwq_model.specs.declared.reply.Reply.TheVariants as reply
use Rattle.cmwq_refinement.specs.Timers.{item_due}

pub fires : (past : List Entry) (i : ItemId) (n : ℕ) → item_due past ≡ Some i
    → reply.Fired i n ≡ fired_answer (first_due past) n
fires past i n h = by (first_due past) h
  where
    by : (o : Option Booking) → option_map (λ (b : Booking). b.item) o ≡ Some i → reply.Fired i n ≡ fired_answer o n
    by None k = cc
    by (Some b) k = ap (λ j. reply.Fired j n) (sym (same_Some b.item i k))

pub fires_none : (past : List Entry) (n : ℕ) → item_due past ≡ None → reply.Nothing ≡ fired_answer (first_due past) n
fires_none past n h = by (first_due past) h
  where
    by : (o : Option Booking) → option_map (λ (b : Booking). b.item) o ≡ None → reply.Nothing ≡ fired_answer o n
    by None k = refl
    by (Some b) k = cc
