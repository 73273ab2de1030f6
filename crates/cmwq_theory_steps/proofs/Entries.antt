-- Entries and queueings by their numbers, as a history grows.
use Rattle.cmwq_theory_steps.specs.Common.{◌≡◌, ◌-◌, ◌<◌, ℕ, suc, true, List, [], ◌∷◌, length, Option, Some}
use Rattle.cmwq_theory_steps.specs.Common.{option_to_list, ap, ◌∙◌, arith, option_and_then, AllByRecursion, nat_tests}
use Rattle.cmwq_theory_steps.specs.Common.{Entry, Queueing, item_of, entry_at, item_at, queueings, opening, is_at}
use Rattle.cmwq_theory_steps.specs.Common.{All_map, All_append}
use Rattle.cmwq_theory_steps.proofs.Rising.{opening_number}
use Rattle.cmwq_lemmas.proofs.Lists.{of_option}

pub entry_at-older : (e : Entry) (past : List Entry) (n : ℕ) → n < length past → entry_at (e ∷ past) n ≡ entry_at past n
entry_at-older e past n less =
    let place : suc (length past) - suc n ≡ suc (length past - suc n) = omega arith in
    grind (arith, nat_tests)

pub entry_at-newest : (e : Entry) (past : List Entry) → entry_at (e ∷ past) (length past) ≡ Some e
entry_at-newest e past =
    let place : suc (length past) - suc (length past) ≡ 0 = omega arith in
    grind (arith, nat_tests)

pub item_at-older : (e : Entry) (past : List Entry) (n : ℕ) → n < length past → item_at (e ∷ past) n ≡ item_at past n
item_at-older e past n less = ap (option_and_then item_of) (entry_at-older e past n less)

-- a queueing's item is that of its entry, which is older than the next
pub record IsKnown (past : List Entry) (x : Queueing) : Type 0 where
  pub older : x.number < length past
  pub item : item_at past x.number ≡ Some x.item.0

pub known_more : (e : Entry) (past : List Entry) (x : Queueing) → IsKnown past x → IsKnown (e ∷ past) x
known_more e past x h = record { older = omega (arith, h.older); item = item_at-older e past x.number h.older ∙ h.item }

pub opening_item : (e : Entry) (past : List Entry) (x : Queueing) → opening past e ≡ Some x → item_of e ≡ Some x.item.0
opening_item e past x h = grind arith

pub queueings_known : (past : List Entry) → AllByRecursion (IsKnown past) (queueings past)
unfolding queueings
queueings_known [] = tt
queueings_known (e ∷ past) =
    let opened : (x : Queueing) → opening past e ≡ Some x → IsKnown (e ∷ past) x
    = λ x h. let number = opening_number past e x h in
    record {
      older = omega arith;
      item =
          ap (item_at (e ∷ past)) number ∙ ap (option_and_then item_of) (entry_at-newest e past)
          ∙ opening_item e past x h;
    } in
    All_append (IsKnown (e ∷ past)) (queueings past) (option_to_list (opening past e))
    (All_map (IsKnown past) (IsKnown (e ∷ past)) (queueings past) (known_more e past) (queueings_known past))
    (of_option (IsKnown (e ∷ past)) (opening past e) opened)

pub is_at-true : (o : Option ℕ) (n : ℕ) → is_at o n ≡ true → o ≡ Some n
is_at-true o n h = grind (arith, nat_tests)
