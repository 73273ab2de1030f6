-- What is open once a run waits.
use Rattle.std.proofs.Common.{◌≡◌, ◌∙◌, ℕ, Bool, true, false, cond, List, [], ◌∷◌, ◌++◌, Option, Some, None, refl}
use Rattle.std.proofs.Common.{append-nil, subst, sym, arith, filter, option_to_list}
use Rattle.std.specs.Prelude.{◌&&◌, ◌==◌}
use Rattle.std.specs.Option.{option_map_or}
use Rattle.std.proofs.lemmas.List.Elements.{filter-append}
use Rattle.std.proofs.lemmas.Bool.Decides.{nat_tests}
use Rattle.cmwq_model.specs.Prelude.{IsLegal, Layout, is_unstarted, still_open, unstarted_queueing}
use Rattle.cmwq_model.specs.declared.entry.Entry.{Entry}
use Rattle.cmwq_model.specs.declared.id.ItemId.{ItemId}
use Rattle.cmwq_model.specs.declared.record.Queueing.{Queueing}
use Rattle.cmwq_lemmas.proofs.Filters.{filter_twice, filter_same, filter_none}
use Rattle.cmwq_lemmas.proofs.Members.{all_in}
use Rattle.cmwq_theory_steps.proofs.Pending.{one_unstarted}
use Rattle.cmwq_waits.specs.Refused.{scene_with, stays_open}
use Rattle.cmwq_waits.specs.Looks.{IsNext, IsQueuedNext, unstarted_left}

-- where an item's queueing isn't taken back, it stays
stays_left : (s : Layout) (past : List Entry) (o : Option ItemId) (i : ℕ) (b : Bool) → IsLegal s past
    → option_map_or (λ (j : ItemId). j.0 == i) o false ≡ b
    → filter (λ x. stays_open past o x && is_unstarted past i x) (still_open past)
    ≡ option_to_list (cond b None (unstarted_queueing past i))
stays_left s past None i true legal is = cc
stays_left s past None i false legal is = one_unstarted s past i legal
stays_left s past (Some j) i true legal is =
    filter_none (λ x. stays_open past (Some j) x && is_unstarted past i x) (still_open past)
    (all_in (λ x. (stays_open past (Some j) x && is_unstarted past i x) ≡ false) (still_open past)
    (λ x here. grind (arith, nat_tests)))
stays_left s past (Some j) i false legal is =
    filter_same (λ x. stays_open past (Some j) x && is_unstarted past i x) (is_unstarted past i) (still_open past)
    (all_in (λ x. (stays_open past (Some j) x && is_unstarted past i x) ≡ is_unstarted past i x) (still_open past)
    (λ x here. grind (arith, nat_tests)))
    ∙ one_unstarted s past i legal

pub left_open : (s : Layout) (past : List Entry) (o : Option ItemId) (i : ℕ) → IsLegal s past
    → filter (is_unstarted past i) (filter (stays_open past o) (still_open past))
    ≡ option_to_list (unstarted_left past o i)
left_open s past o i legal =
    filter_twice (is_unstarted past i) (stays_open past o) (still_open past)
    ∙ stays_left s past o i (option_map_or (λ (j : ItemId). j.0 == i) o false) legal refl

-- what is queued is its item's unstarted queueing, and no other's
pub next_is_unstarted : (s : Layout) (past : List Entry) (x : Queueing) → IsNext s past x
    → is_unstarted past x.item.0 x ≡ true
next_is_unstarted s past x is = grind (arith, nat_tests, is.unstarted)

queued_alone : (s : Layout) (past : List Entry) (o : Option ItemId) (x : Queueing) → IsLegal s past → IsNext s past x
    → filter (is_unstarted past x.item.0) (scene_with s past o (Some x)).opened ≡ x ∷ []
queued_alone s past o x legal is =
    filter-append (is_unstarted past x.item.0) (filter (stays_open past o) (still_open past)) (x ∷ [])
    ∙ rw (left_open s past o x.item.0 legal) (by (option_map_or (λ (j : ItemId). j.0 == x.item.0) o false))
  where
    by : (b : Bool) → option_to_list (cond b None (unstarted_queueing past x.item.0))
        ++ filter (is_unstarted past x.item.0) (x ∷ [])
        ≡ x ∷ []
    by true = rw (next_is_unstarted s past x is) refl
    by false = rw (is.alone, next_is_unstarted s past x is) refl

pub queued_of_item : (s : Layout) (past : List Entry) (o : Option ItemId) (more : Option Queueing) (x : Queueing) (i : ℕ)
    → IsLegal s past → IsQueuedNext s past more → more ≡ Some x → x.item.0 ≡ i
    → filter (is_unstarted past i) (scene_with s past o more).opened ≡ x ∷ []
queued_of_item s past o more x i legal next is item =
    subst (λ m. filter (is_unstarted past i) (scene_with s past o m).opened ≡ x ∷ []) (sym is)
    (subst (λ j. filter (is_unstarted past j) (scene_with s past o (Some x)).opened ≡ x ∷ []) item
    (queued_alone s past o x legal (next x is)))

pub queued_of_none : (s : Layout) (past : List Entry) (o : Option ItemId) (more : Option Queueing) (i : ℕ)
    → IsLegal s past → ((x : Queueing) → more ≡ Some x → x.item.0 ≡ i → ⊥)
    → filter (is_unstarted past i) (scene_with s past o more).opened ≡ option_to_list (unstarted_left past o i)
queued_of_none s past o None i legal none =
    filter-append (is_unstarted past i) (filter (stays_open past o) (still_open past)) []
    ∙ rw append-nil (left_open s past o i legal)
queued_of_none s past o (Some x) i legal none =
    filter-append (is_unstarted past i) (filter (stays_open past o) (still_open past)) (x ∷ [])
    ∙ (let differs = none x refl in
    let no : is_unstarted past i x ≡ false = grind (arith, nat_tests) in rw (no, append-nil) (left_open s past o i legal))
