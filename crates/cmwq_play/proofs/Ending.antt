-- A wait whose end would not be answered done does not end, whether or not there is room for that.
use Rattle.std.proofs.Common.{ℕ, ◌≡◌, Bool, true, false, Some, None, refl}
use Rattle.std.specs.Prelude.{if◌then◌else◌}
use Rattle.std.specs.Option.{option_map_or}
use Rattle.cmwq_model.specs.Prelude.{fits, is_done}
use Rattle.cmwq_model.specs.declared.id.Who.{Who}
use Rattle.cmwq_model.specs.declared.call.Call.TheVariants as call
use Rattle.cmwq_core.specs.History.{History, next_entry}
use Rattle.cmwq_play.specs.Machines.{ends, is_made, replied}

pub never_ends : (h : History) (who : Who) (ticket : ℕ)
    → is_done (next_entry h who (call.End ticket)).reply ≡ false → ends h who ticket ≡ false
unfolding ends replied
never_ends h who ticket not_done = here (is_made h who (call.End ticket))
  where
    here : (b : Bool)
        → option_map_or is_done (if b then Some (next_entry h who (call.End ticket)).reply else None) false ≡ false
    here true = not_done
    here false = refl

-- nor does one whose end does not fit the layout
pub unfit_never_ends : (h : History) (who : Who) (ticket : ℕ) → fits h.layout who (call.End ticket) ≡ false
    → ends h who ticket ≡ false
unfolding ends replied
unfit_never_ends h who ticket unfit = rw unfit refl
