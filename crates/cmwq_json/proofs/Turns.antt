-- What is left of an array that is taken in turn.
use Rattle.cmwq_json.specs.Common.{◌≡◌, ℕ, zero, suc, ◌+◌, ◌<◌, ◌≤◌, List, [], ◌∷◌, drop, length, get_or, Option, Some}
use Rattle.cmwq_json.specs.Common.{None, Result, Ok, Err, refl, sym, ap, subst, ◌∙◌, add-one, drop-cons, arith}
use Rattle.cmwq_json.specs.Common.{option_and_then, option_map_or, as_array, result_unwrap_or, Data, Items, no_items}
use Rattle.cmwq_json.specs.Common.{item, Value, view, items_view}
use Rattle.cmwq_json.specs.InTurn.{in_turn}

pub drop_end : (i : ℕ) (all : List Value) → length all ≤ i → drop i all ≡ []
drop_end zero [] h = refl
drop_end (suc i) [] h = refl
drop_end zero (x ∷ all) h = absurd (omega arith)
drop_end (suc i) (x ∷ all) h = drop_end i all (omega arith)

module _ {S : Type 0} (adds : S → Data → Option S) (r : Result S ℕ) (all : List Value) (i : ℕ) (before : S)
    (so : r ≡ in_turn adds i before (items_view (drop i all))) where
  next : (d : Value) → i < length all
      → r ≡ in_turn adds i before (item (view (get_or all i d)) (items_view (drop (i + 1) all)))
  next d less = so ∙ ap (λ vs. in_turn adds i before (items_view vs)) (drop-cons all i d less)
      ∙ ap (λ j. in_turn adds i before (item (view (get_or all i d)) (items_view (drop j all)))) (sym (add-one i))

  pub went_on : (v d : Value) (after : S) → i < length all → get_or all i d ≡ v → adds before (view v) ≡ Some after
      → r ≡ in_turn adds (i + 1) after (items_view (drop (i + 1) all))
  went_on v d after less at is =
      next d less ∙ ap (λ o. option_map_or (λ s. in_turn adds (i + 1) s (items_view (drop (i + 1) all))) o (Err i))
      (ap (λ w. adds before (view w)) at ∙ is)

  pub stopped : (v d : Value) → i < length all → get_or all i d ≡ v → adds before (view v) ≡ None → r ≡ Err i
  stopped v d less at is =
      next d less ∙ ap (λ o. option_map_or (λ s. in_turn adds (i + 1) s (items_view (drop (i + 1) all))) o (Err i))
      (ap (λ w. adds before (view w)) at ∙ is)

  pub done : length all ≤ i → r ≡ Ok before
  done past = so ∙ ap (λ vs. in_turn adds i before (items_view vs)) (drop_end i all past)

pub array_said : {X : Type 0} (all items : List Value) (d : Data) (f : Items → Option X) → all ≡ items
    → Some (items_view items) ≡ as_array d → f (items_view all) ≡ option_and_then f (as_array d)
array_said all items d f same is = ap (λ vs. f (items_view vs)) same ∙ ap (option_and_then f) is

-- what each step keeps holds at the end
pub kept : {S : Type 0} (P : S → Type 0) (adds : S → Data → Option S)
    → ((before : S) (d : Data) (after : S) → P before → adds before d ≡ Some after → P after)
    → (n : ℕ) (before : S) (ds : Items) (r : S) → P before → in_turn adds n before ds ≡ Ok r → P r
kept P adds keeps n before no_items r holds is = subst P (ap (λ o. result_unwrap_or o before) is) holds
kept {S = S} P adds keeps n before (item d ds) r holds is =
    at (adds before d) refl (λ after h some. kept P adds keeps (n + 1) after ds r h some) is
  where
    at : (o : Option S) → adds before d ≡ o → ((after : S) → P after → in_turn adds (n + 1) after ds ≡ Ok r → P r)
        → option_map_or (λ s. in_turn adds (n + 1) s ds) o (Err n) ≡ Ok r → P r
    at None said later none = cc
    at (Some after) said later some = later after (keeps before d after holds said) some
