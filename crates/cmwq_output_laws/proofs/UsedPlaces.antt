-- The places of all queueings are shown.
use Rattle.std.proofs.Common.{◌≡◌, ℕ, ◌<◌, true, ◌&&◌, List, [], ◌∷◌, length, option_to_list, refl, ap₂, arith}
use Rattle.std.specs.Prelude.{flat_map, Contains}
use Rattle.std.specs.List.{AllByRecursion, range_with_len}
use Rattle.std.proofs.lemmas.Bool.{eq-eqb}
use Rattle.cmwq_lemmas.proofs.Lists.{All_append}
use Rattle.cmwq_lemmas.proofs.Members.{In, of_in, all_in, any_in, in_range, in_option, filter_in, in_contained}
use Rattle.cmwq_lemmas.proofs.Members.{in_mapped, flat_in}
use Rattle.cmwq_model.specs.declared.entry.Entry.{Entry}
use Rattle.cmwq_model.specs.declared.record.Queueing.{Queueing}
use Rattle.cmwq_model.specs.Prelude.{Layout, IsLegal, opening, queueings}
use Rattle.cmwq_refinement.specs.Places.{IsQueueingThere}
use Rattle.cmwq_refinement.proofs.PlacesFit.{opened_are_there}
use Rattle.cmwq_chart.specs.Levels.{is_of_place, has_queueings, place_on, places_of_queue, places_of}
use Rattle.cmwq_output_laws.specs.LevelLaws.{UsedPlacesAreShown}

-- a number below n
range_in : (n k : ℕ) → k < n → In k (range_with_len 0 n)
range_in n k less = in_range 0 n k (omega arith) (omega arith)

all_there : (s : Layout) (past : List Entry) → IsLegal s past → AllByRecursion (IsQueueingThere s) (queueings past)
unfolding queueings IsLegal
all_there s [] legal = tt
all_there s (e ∷ past) legal =
    All_append (IsQueueingThere s) (queueings past) (option_to_list (opening past e)) (all_there s past legal.2)
    (all_in (IsQueueingThere s) (option_to_list (opening past e))
    (λ x i. opened_are_there s past e x legal (in_option (opening past e) x i)))

shown : (s : Layout) (xs : List Queueing) (x : Queueing) → In x xs → IsQueueingThere s x → In x.place (places_of s xs)
unfolding places_of
shown s xs x i there =
    let q : ℕ = x.place.queue.0 in
    let c : ℕ = x.place.cpu.0 in
    let on_cpu : In x.place (places_of_queue s q) =
    in_mapped (place_on q) (range_with_len 0 s.cpus) c (range_in s.cpus c there.cpu) in
    let of_queue : In x.place (flat_map (places_of_queue s) (range_with_len 0 (length s.queues))) =
    flat_in (places_of_queue s) (range_with_len 0 (length s.queues)) q x.place
    (range_in (length s.queues) q there.queue) on_cpu in
    let itself : is_of_place x.place x ≡ true = ap₂ (λ a b. a && b) (eq-eqb q q refl) (eq-eqb c c refl) in
    filter_in (has_queueings xs) (flat_map (places_of_queue s) (range_with_len 0 (length s.queues))) x.place of_queue
    (any_in (is_of_place x.place) xs x i itself)

pub used_places_are_shown : UsedPlacesAreShown
used_places_are_shown s past legal =
    all_in (λ (x : Queueing). Contains (places_of s (queueings past)) x.place) (queueings past)
    (λ x i. in_contained (places_of s (queueings past)) x.place
    (shown s (queueings past) x i (of_in (IsQueueingThere s) (queueings past) x (all_there s past legal) i)))
