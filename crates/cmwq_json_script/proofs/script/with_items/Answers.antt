use Rattle.cmwq_json_script.specs.Common.{◌≡◌, ◌∙◌, ◌<◌, ◌-◌, ℕ, length, sym, ap, subst, arith, in_turn}
use Rattle.cmwq_json.specs.Parts as refused
use Rattle.cmwq_json.specs.Readings.{map_ok}
use Rattle.cmwq_json_script.specs.Known.{Known}
use Rattle.cmwq_json_script.specs.Callers.{no_crew, add_caller}
use Rattle.cmwq_json_script.specs.Limits.{callers_in}
use Rattle.cmwq_json_script.specs.Runs.{some_of, items_said, callers_said, waits_in}
use Rattle.cmwq_json_script.specs.Views.{top_of, queues_of, work_of, crew_of}
use Rattle.cmwq_json_script.proofs.Within.{is_within}
use Rattle.cmwq_json_script.proofs.script.with_items.Goals as goal

pub script_of-requires-clause-within : goal.script_of-requires-clause-within
script_of-requires-clause-within c =
    let t = top_of c.args.top.now in
    let w = work_of c.args.items in
    let known = sym c.requires.known in
    let most : c.from-most.result ≡ callers_in t.version - waits_in t w.items = omega arith in
    let callers =
    ap (λ (n : ℕ). some_of refused.callers (λ m. length m.scripts)
    (in_turn (add_caller n c.args.names.now) 0 (no_crew w.used) t.callers))
    (sym most)
    ∙ sym c.in_ok-callers.ensures ∙ ap (map_ok crew_of) c.in-Ok.is in
    is_within t (queues_of c.args.names.now c.args.queues) w (crew_of c.in-Ok.callers) c.requires.queues
    (ap (λ (k : Known). items_said k t) known ∙ c.requires.items)
    (ap (λ (k : Known). callers_said k t w) known ∙ callers)
    c.args.top.now.limits
    (subst (λ (n : ℕ). n < callers_in t.version) c.waits_in-waits.ensures.is c.waits_in-waits.ensures.few)
    c.args.top.now.recorded
