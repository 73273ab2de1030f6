-- A pool's worklist after one more entry.
use Rattle.cmwq_theory_steps.specs.Common.{◌≡◌, ◌<◌, ℕ, true, false, not, ◌&&◌, ◌||◌, List, [], ◌∷◌, ◌++◌, length}
use Rattle.cmwq_theory_steps.specs.Common.{filter, Option, Some, None, option_to_list, refl, sym, ap, ap₂, ◌∙◌, subst}
use Rattle.cmwq_theory_steps.specs.Common.{arith, AllByRecursion, filter-append, PoolId, Entry, Queueing, Layout}
use Rattle.cmwq_theory_steps.specs.Common.{number_started, starts, is_started, queueings, queueing_at, opening, is_live}
use Rattle.cmwq_theory_steps.specs.Common.{is_active, is_newly_active, newly_active, became_active, is_listed, worklist}
use Rattle.cmwq_theory_steps.specs.Common.{IsLegal, All_map, All_both, All_append, All_each, All_filter}
use Rattle.cmwq_theory_steps.proofs.Rising.{IsBelow, queueings_below, opening_number}
use Rattle.cmwq_theory_steps.proofs.Opens.{open_before}
use Rattle.cmwq_theory_steps.proofs.Joined.{stays_active, active_live}
use Rattle.cmwq_theory_steps.specs.Endings.{survives}
use Rattle.cmwq_theory_steps.specs.Activations.{is_left, is_in}
use Rattle.cmwq_lemmas.proofs.Filters.{filter_twice, filter_same}
use Rattle.std.proofs.lemmas.Bool.{and_from, and_parts}
use Rattle.std.proofs.lemmas.Option.{same_Some}
use Rattle.cmwq_lemmas.proofs.Members.{all_in, of_in}
use Rattle.cmwq_lemmas.proofs.Truth.{same_bools}
use Rattle.cmwq_theory_steps.proofs.Order.{still_active, HasSince, activated_since}
use Rattle.cmwq_theory_steps.proofs.Activated.{activated_all}
use Rattle.cmwq_theory_steps.proofs.Entries.{IsKnown, known_more, queueings_known}
use Rattle.cmwq_theory_steps.proofs.ItemRuns.{starts_known}
use Rattle.cmwq_theory_steps.proofs.StartsListed.{IsFound, queueings_found, starts_listed}
use Rattle.cmwq_theory_steps.proofs.RunsActive.{found_number}
use Rattle.cmwq_theory_steps.proofs.Fresh.{not_told, not_started_yet}
use Rattle.cmwq_theory_steps.proofs.Endings.{live_goes_on}

-- ---- only what is active starts, and stays active while it is open

starts_active : (s : Layout) (past : List Entry) (e : Entry) (x : Queueing) → IsLegal s (e ∷ past) → IsFound past x
    → starts x.number e ≡ true → is_active s past x ≡ true
starts_active s past e x legal found h =
    let st = starts_listed s past e x.number legal h in
    let listed = st.listed in
    subst (λ y. is_active s past y ≡ true) (same_Some st.queueing x (sym st.found ∙ found)) (grind arith)

-- what an entry opens hasn't started
opened_unstarted : (s : Layout) (past : List Entry) (e : Entry) (n : ℕ) → IsLegal s (e ∷ past) → n ≡ length past
    → is_started (e ∷ past) n ≡ false
unfolding IsLegal
opened_unstarted s past e n legal is =
    ap₂ (λ a b. a || b)
    (not_told (number_started e.reply) n (length past) (λ k h. (starts_known s past e k legal h).older)
    (omega arith)) (not_started_yet s past n legal.2 (omega arith))

abbrev pub IsActiveOnce : Layout → List Entry → Queueing → Type 0
IsActiveOnce s past x = is_started past x.number ≡ true → is_live past x ≡ true → is_active s past x ≡ true

started_active_more : (s : Layout) (past : List Entry) (e : Entry) (x : Queueing) → IsLegal s (e ∷ past)
    → x.number < length past → IsFound past x → IsActiveOnce s past x → IsActiveOnce s (e ∷ past) x
started_active_more s past e x legal older found earlier started live =
    let before = open_before e past x.item.0 x.number older live in
    stays_active s past e x (grind (arith, starts_active s past e x legal found, earlier)) live

pub opening_inert : (s : Layout) (past : List Entry) (e : Entry) (o : Option Queueing) → IsLegal s (e ∷ past)
    → opening past e ≡ o → AllByRecursion (λ x. is_started (e ∷ past) x.number ≡ false) (option_to_list o)
opening_inert s past e None legal h = tt
opening_inert s past e (Some x) legal h = (opened_unstarted s past e x.number legal (opening_number past e x h), tt)

pub started_are_active : (s : Layout) (past : List Entry) → IsLegal s past
    → AllByRecursion (IsActiveOnce s past) (queueings past)
unfolding queueings IsLegal
started_are_active s [] legal = tt
started_are_active s (e ∷ past) legal =
    All_append (IsActiveOnce s (e ∷ past)) (queueings past) (option_to_list (opening past e))
    (all_in (IsActiveOnce s (e ∷ past)) (queueings past)
    (λ x there. started_active_more s past e x legal
    (of_in (IsBelow (length past)) _ x (queueings_below past) there)
    (of_in (IsFound past) _ x (queueings_found past) there)
    (of_in (IsActiveOnce s past) _ x (started_are_active s past legal.2) there)))
    (All_map (λ x. is_started (e ∷ past) x.number ≡ false) (IsActiveOnce s (e ∷ past)) (option_to_list (opening past e))
    (λ x none started live. let bad : true ≡ false = sym started ∙ none in cc)
    (opening_inert s past e (opening past e) legal refl))

-- ---- what became active hasn't started

newly_inert : (s : Layout) (past : List Entry) (e : Entry) (x : Queueing) → IsLegal s (e ∷ past)
    → x.number < length past → IsFound past x → IsActiveOnce s past x → is_newly_active s past e x ≡ true
    → is_started (e ∷ past) x.number ≡ false
newly_inert s past e x legal older found earlier newly =
    let live = open_before e past x.item.0 x.number older (active_live s (e ∷ past) x (grind arith)) in
    grind (arith, starts_active s past e x legal found, earlier)

newly_unstarted : (s : Layout) (past : List Entry) (e : Entry) → IsLegal s (e ∷ past)
    → AllByRecursion (λ x. is_started (e ∷ past) x.number ≡ false) (newly_active s past e)
unfolding queueings IsLegal
newly_unstarted s past e legal =
    All_filter (λ x. is_started (e ∷ past) x.number ≡ false) (is_newly_active s past e) (queueings (e ∷ past))
    (All_append (λ x. is_newly_active s past e x ≡ true → is_started (e ∷ past) x.number ≡ false) (queueings past)
    (option_to_list (opening past e))
    (all_in _ (queueings past)
    (λ x there. newly_inert s past e x legal (of_in (IsBelow (length past)) _ x (queueings_below past) there)
    (of_in (IsFound past) _ x (queueings_found past) there)
    (of_in (IsActiveOnce s past) _ x (started_are_active s past legal.2) there)))
    (All_map (λ x. is_started (e ∷ past) x.number ≡ false) (λ x. is_newly_active s past e x ≡ true
    → is_started (e ∷ past) x.number ≡ false) (option_to_list (opening past e)) (λ x none newly. none)
    (opening_inert s past e (opening past e) legal refl)))

-- ---- what became active before

active_step : (s : Layout) (past : List Entry) (e : Entry) (x : Queueing) → x.number < length past → HasSince s past x
    → is_active s (e ∷ past) x ≡ (is_active s past x && survives past e x)
active_step s past e x less since =
    let live = live_goes_on past e x less in
    same_bools _ _ (λ now. let k =
    and_parts (is_live past x) (survives past e x) (sym live ∙ active_live s (e ∷ past) x now) in
    and_from _ _ (still_active s past x since.at since.is k.0) k.1)
    (λ both. let k = and_parts (is_active s past x) (survives past e x) both in
    stays_active s past e x k.0 (live ∙ and_from _ _ (active_live s past x k.0) k.1))

listed_step : (s : Layout) (past : List Entry) (e : Entry) (p : PoolId) (x : Queueing) → x.number < length past
    → HasSince s past x → is_listed s (e ∷ past) p x ≡ (is_listed s past p x && is_left past e x)
listed_step s past e p x less since =
    ap (λ b. b && not (is_started (e ∷ past) x.number) && is_in s p x) (active_step s past e x less since) ∙ grind arith

-- ---- the worklist

pub worklists_go_on : (s : Layout) (past : List Entry) (e : Entry) (p : PoolId) → IsLegal s (e ∷ past)
    → worklist s (e ∷ past) p ≡ filter (is_left past e) (worklist s past p)
    ++ filter (is_in s p) (newly_active s past e)
unfolding worklist became_active
worklists_go_on s past e p legal =
    filter-append (is_listed s (e ∷ past) p) (became_active s past) (newly_active s past e)
    ∙ ap₂ (λ xs ys. xs ++ ys)
    (filter_same (is_listed s (e ∷ past) p) (λ x. is_listed s past p x && is_left past e x) (became_active s past)
    (All_both (IsKnown past) (HasSince s past)
    (λ x. is_listed s (e ∷ past) p x ≡ (is_listed s past p x && is_left past e x)) (became_active s past)
    (λ x known since. listed_step s past e p x known.older since)
    (activated_all s IsKnown known_more queueings_known past) (activated_since s past))
    ∙ sym (filter_twice (is_left past e) (is_listed s past p) (became_active s past)))
    (filter_same (is_listed s (e ∷ past) p) (is_in s p) (newly_active s past e)
    (All_both (λ x. is_active s (e ∷ past) x ≡ true) (λ x. is_started (e ∷ past) x.number ≡ false)
    (λ x. is_listed s (e ∷ past) p x ≡ is_in s p x) (newly_active s past e)
    (λ x active none. ap₂ (λ a b. a && not b && is_in s p x) active none)
    (All_filter _ (is_newly_active s past e) (queueings (e ∷ past))
    (All_each _ (queueings (e ∷ past)) (λ x newly. grind arith))) (newly_unstarted s past e legal)))

-- ---- only active queueings are started

pub starts_only_active : (s : Layout) (past : List Entry) (e : Entry) → IsLegal s (e ∷ past) → (n : ℕ) (x : Queueing)
    → starts n e ≡ true → queueing_at past n ≡ Some x → is_active s past x ≡ true
starts_only_active s past e legal n x h found =
    let number : x.number ≡ n = found_number past n x found in
    starts_active s past e x legal (subst (λ m. queueing_at past m ≡ Some x) (sym number) found)
    (subst (λ m. starts m e ≡ true) (sym number) h)
