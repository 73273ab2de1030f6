use Rattle.std.proofs.Common.{◌≡◌, ◌/◌, ◌∙◌}
use Rattle.cmwq_model.specs.Prelude.{most_cpus, past_of, width}
use Rattle.cmwq_summary.specs.declared.counter.Counter.TheVariants as counter
use Rattle.cmwq_summary.specs.Figures.{counted}
use Rattle.cmwq_summary.specs.Peaks.{most_open_at, most_active_at}
use Rattle.cmwq_views.proofs.rows.push_place_numbers.Goals as goal

pub returns-clause-exact : goal.returns-clause-exact
returns-clause-exact c =
    let past = past_of c.args.progress.now.entries in let s = c.args.progress.now.layout in let p = c.args.place in
    let queueings : c.count.result ≡ counted counter.Queueings past p =
    rw c.summary-summary.ensures at c.count.ensures in
    let starts : c.count-2.result ≡ counted counter.Starts past p = rw c.summary-summary.ensures at c.count-2.ensures in
    let cancels : c.count-3.result ≡ counted counter.Cancels past p =
    rw c.summary-summary.ensures at c.count-3.ensures in
    let wide : c.into.result ≡ width s past (p / most_cpus) = c.into.ensures ∙ c.width_at.ensures in
    let open_ones : c.most_open.result ≡ most_open_at p past = rw c.summary-summary.ensures at c.most_open.ensures in
    let active : c.most_active.result ≡ most_active_at s p past =
    rw c.summary-summary.ensures at c.most_active.ensures in
    rw (← queueings, ← starts, ← cancels, ← wide, ← open_ones, ← active) c.push_numbers.ensures.exact
