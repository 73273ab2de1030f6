-- What is shown is of few callers and workers, and a caller's lane has no more rows than the caller has tickets.
use Rattle.std.proofs.Common.{◌≡◌, ◌≤◌, ◌*◌, Bool, false, ◌||◌, List, [], ◌∷◌, length, reverse, refl, ap}
use Rattle.std.proofs.Common.{◌∙◌, arith}
use Rattle.std.specs.Prelude.{IsTrue}
use Rattle.std.specs.List.{All, list_any}
use Rattle.std.proofs.Math.Nat.{mul-le-mul_left}
use Rattle.std.proofs.lemmas.Bool.Decides.{nat_tests}
use Rattle.std.proofs.lemmas.List.{reverse-append}
use Rattle.std.proofs.lemmas.List.Elements.{All-map}
use Rattle.std.proofs.lemmas.List.Folds.{list_any-append}
use Rattle.cmwq_model.specs.declared.entry.Entry.{Entry}
use Rattle.cmwq_model.specs.declared.id.CallerId.{CallerId}
use Rattle.cmwq_model.specs.Prelude.{Layout, is_layout, most_callers, most_tickets, past_of, workers, is_by}
use Rattle.cmwq_model.specs.declared.id.Who.TheVariants.{Caller, Worker}
use Rattle.cmwq_lemmas.proofs.Filters.{filter_same}
use Rattle.cmwq_lemmas.proofs.Lists.{All_each, filter_shorter}
use Rattle.cmwq_chart.specs.declared.waits.CallerLane.{CallerLane}
use Rattle.cmwq_chart.specs.CallerWaits.{all_callers, caller_lane, caller_lanes_of, callers_of, has_calls}
use Rattle.cmwq_chart.specs.Lanes.{has_entries, lanes_of, most_lanes}
use Rattle.cmwq_chart.proofs.Numbers.{callers_long, workers_long}

pub few_rows : (past : List Entry) (cs : List CallerId)
    → All (λ (lane : CallerLane). lane.rows ≤ most_tickets) (caller_lanes_of past cs)
few_rows past cs =
    All-map (λ (lane : CallerLane). lane.rows ≤ most_tickets) (caller_lane past) cs (λ k d less. omega arith)

pub few_callers : (s : Layout) (entries : List Entry) → IsTrue (is_layout s)
    → length (callers_of s entries) ≤ most_callers
unfolding callers_of
few_callers s entries inside =
    let limit : s.callers ≤ most_callers = grind (arith, nat_tests) in
    omega (arith, filter_shorter (has_calls entries) (all_callers s), callers_long s)

pub few_lanes : (s : Layout) (entries : List Entry) → IsTrue (is_layout s) → length (lanes_of s entries) ≤ most_lanes
unfolding lanes_of
few_lanes s entries inside =
    let cpus : s.cpus ≤ 64 = grind (arith, nat_tests) in
    let pool : s.workers ≤ 64 = grind (arith, nat_tests) in
    let room : 2 * s.workers * s.cpus ≤ 2 * s.workers * 64 = mul-le-mul_left (2 * s.workers) cpus in
    omega (arith, filter_shorter (has_entries entries) (workers s), workers_long s)

-- ---- who has entries, whichever end of the history comes first
any_reversed : {X : Type 0} (p : X → Bool) (xs : List X) → list_any p (reverse xs) ≡ list_any p xs
any_reversed p [] = refl
any_reversed p (x ∷ xs) = ap (list_any p) (reverse-append (x ∷ []) xs) ∙ list_any-append p (reverse xs) (x ∷ [])
    ∙ ap (λ b. b || (p x || false)) (any_reversed p xs) ∙ turned (list_any p xs) (p x)
  where
    turned : (a b : Bool) → (a || (b || false)) ≡ (b || a)
    turned a b = grind arith

pub callers_of_past : (s : Layout) (entries : List Entry) → callers_of s (past_of entries) ≡ callers_of s entries
unfolding callers_of
callers_of_past s entries =
    filter_same (has_calls (past_of entries)) (has_calls entries) (all_callers s)
    (All_each _ (all_callers s) (λ c. any_reversed (is_by (Caller c)) entries))

pub lanes_of_past : (s : Layout) (entries : List Entry) → lanes_of s (past_of entries) ≡ lanes_of s entries
unfolding lanes_of
lanes_of_past s entries =
    filter_same (has_entries (past_of entries)) (has_entries entries) (workers s)
    (All_each _ (workers s) (λ w. any_reversed (is_by (Worker w)) entries))
