use Rattle.std.proofs.Common.{◌++◌, [], ◌∷◌, map, sym, ap, ap₂, ◌∙◌, arith}
use Rattle.std.proofs.lemmas.List.{map-append}
use Rattle.std.proofs.lemmas.List.Elements.{All-same, All-push}
use Rattle.std.proofs.lemmas.List.FromFn.{map-range_with_len_more}
use Rattle.cmwq_chart.specs.CallerWaits.{caller_of_number}
use Rattle.cmwq_chart.specs.Intervals.{caller_in, IsCallerKept}
use Rattle.cmwq_chart.proofs.callers.first_callers.Goals as goal

pub loop-caller-preserved : goal.loop-caller-preserved
loop-caller-preserved c =
    let rows = c.loop-caller.rows.items in
    record {
      owners = ap (map caller_in) c.in_ok-push.ensures.items ∙ map-append caller_in rows (c.new.result ∷ [])
          ∙ ap₂ (λ l x. l ++ x ∷ []) c.loop-caller.invariant.owners c.new.ensures.caller
          ∙ sym (map-range_with_len_more caller_of_number 0 c.loop-caller.caller c.loop-caller.caller (omega arith));
      kept = All-same (IsCallerKept []) _ _ c.in_ok-push.ensures.items
          (All-push (IsCallerKept []) rows c.new.result c.loop-caller.invariant.kept c.new.ensures.kept);
    }
