-- What an idle worker would start is the item of the entry that is planned.
use Rattle.std.proofs.Common.{ℕ, ◌≡◌, Bool, true, false, Option, Some, None, is_some, refl, ap}
use Rattle.std.specs.Prelude.{option_and_then, if◌then◌else◌}
use Rattle.cmwq_model.specs.Prelude.{fits, number_started}
use Rattle.cmwq_model.specs.declared.id.WorkerId.{WorkerId}
use Rattle.cmwq_model.specs.declared.id.Who.TheVariants.{Worker}
use Rattle.cmwq_model.specs.declared.call.Call.TheVariants as call
use Rattle.cmwq_model.specs.declared.entry.Entry.{Entry}
use Rattle.cmwq_model.specs.declared.entry.Mark.{Mark}
use Rattle.cmwq_core.specs.History.{History, IsMark, past_in, next_entry}
use Rattle.cmwq_play.specs.Machines.{is_made, item_started, replied, starts}

pub starts_planned : (h : History) (w : WorkerId) (m : Mark) → IsMark h (Worker w) call.Take m
    → is_made h (Worker w) call.Take ≡ true
    → is_some (number_started m.entry.reply) ≡ true → m.item ≡ starts h w
unfolding starts replied
starts_planned h w m mark made some = here (number_started m.entry.reply) refl
  where
    here : (n : Option ℕ) → number_started m.entry.reply ≡ n → m.item ≡ starts h w
    here (Some n) is =
        let it = mark.starts n is in
        let reply : m.entry.reply ≡ (next_entry h (Worker w) call.Take).reply =
        ap (λ (e : Entry). e.reply) mark.is_next in
        rw (made, ← reply, is, it.is_known) it.is_its
    here None is = let no = rw is at some in cc

-- a worker whose entry would start nothing starts nothing
pub starts_nothing : (h : History) (w : WorkerId)
    → number_started (next_entry h (Worker w) call.Take).reply ≡ None → starts h w ≡ None
unfolding starts replied
starts_nothing h w none = here (is_made h (Worker w) call.Take)
  where
    here : (b : Bool)
        → option_and_then (item_started (past_in h))
        (if b then Some (next_entry h (Worker w) call.Take).reply else None) ≡ None
    here true = rw none refl
    here false = refl

-- one that does not fit the layout starts nothing
pub unfit_starts_nothing : (h : History) (w : WorkerId) → fits h.layout (Worker w) call.Take ≡ false
    → starts h w ≡ None
unfolding starts replied
unfit_starts_nothing h w unfit = rw unfit refl
