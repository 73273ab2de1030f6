-- What one more entry of a legal history makes of the bars, and of where queueings have finished.
use Rattle.std.proofs.Common.{◌≡◌, ℕ, ◌<◌, ◌≤◌, true, false, List, [], ◌∷◌, ◌++◌, length, map, Option, Some}
use Rattle.std.proofs.Common.{None, option_to_list, option_and_then, refl, sym, ap, ap₂, ◌∙◌, arith, slice_get, get_or}
use Rattle.std.proofs.Common.{◌⊎◌, inl, inr}
use Rattle.std.specs.Prelude.{option_map}
use Rattle.std.proofs.lemmas.Bool.{cases_lt, eq-eqb}
use Rattle.std.proofs.lemmas.List.{get_or_append_left, length-append, map-append}
use Rattle.std.proofs.lemmas.Option.{slice_get-get_or}
use Rattle.std.proofs.Math.Seq.{get_or-append_seam}
use Rattle.cmwq_model.specs.declared.entry.Entry.{Entry}
use Rattle.cmwq_model.specs.declared.record.Queueing.{Queueing}
use Rattle.cmwq_model.specs.declared.record.Start.{Start}
use Rattle.cmwq_model.specs.declared.id.CallerId.{CallerId}
use Rattle.cmwq_model.specs.declared.id.Who.TheVariants.{Caller, Worker}
use Rattle.cmwq_model.specs.declared.id.WorkerId.{WorkerId}
use Rattle.cmwq_model.specs.Prelude.{Layout, is_at, is_finished, is_open, item_at, number_started, queueing_at}
use Rattle.cmwq_model.specs.Prelude.{start_in, IsLegal}
use Rattle.cmwq_theory_steps.proofs.Fresh.{open_at_once}
use Rattle.cmwq_theory_steps.proofs.ItemRuns.{no_start, start_of_worker}
use Rattle.cmwq_theory_steps.proofs.RunsActive.{found_known, found_number}
use Rattle.cmwq_theory_steps.proofs.StartsListed.{starts_listed}
use Rattle.cmwq_chart.specs.declared.bars.Bar.{Bar}
use Rattle.cmwq_chart.specs.Bars.{bar_from, bar_of, bars_in, bars_of, ended_bar, finish_place, started_by, AreFinishes}
use Rattle.cmwq_chart.specs.Bars.{FinishIsKept}

-- ---- where queueings have finished

unfinished : (past : List Entry) (n : ℕ) → is_finished past n ≡ false → finish_place past n ≡ None
unfolding finish_place
unfinished [] n never = refl
unfinished (e ∷ past) n never = let earlier = unfinished past n in grind (arith, earlier)

open_unfinished : (past : List Entry) (i n : ℕ) → is_open past i n ≡ true → is_finished past n ≡ false
open_unfinished past i n h = grind arith

-- the table after one more entry, whose own queueing has not finished
kept_more : (past : List Entry) (old new : List (Option ℕ)) (e : Entry) (place k : ℕ) → place ≡ length past
    → AreFinishes past old → FinishIsKept old new e place → k < length past
    → slice_get new k ≡ Some (finish_place (e ∷ past) k)
unfolding finish_place
kept_more past old new e place k at known kept less = grind arith

pub finishes_more : (s : Layout) (past : List Entry) (e : Entry) (old new : List (Option ℕ)) (place : ℕ)
    → IsLegal s (e ∷ past) → place ≡ length past → AreFinishes past old → FinishIsKept old new e place
    → AreFinishes (e ∷ past) (new ++ None ∷ [])
finishes_more s past e old new place legal at known kept =
    let longer = length-append new (None ∷ []) ∙ omega (arith, kept.0, known.0) in
    (longer, λ k less. at_each k less (cases_lt k (length past)))
  where
    own : finish_place (e ∷ past) (length past) ≡ None
    own =
        unfinished (e ∷ past) (length past)
        (open_unfinished (e ∷ past) 0 (length past) (open_at_once s past e 0 legal))

    long : length new ≡ length past
    long = kept.0 ∙ known.0

    at_each : (k : ℕ) → k < length (e ∷ past) → (k < length past) ⊎ (length past ≤ k)
        → slice_get (new ++ None ∷ []) k ≡ Some (finish_place (e ∷ past) k)
    at_each k less (inl before) =
        slice_get-get_or (new ++ None ∷ []) k None (omega (arith, length-append new (None ∷ []), long))
        ∙ ap Some (get_or_append_left new (None ∷ []) None k (omega (arith, long)))
        ∙ sym (slice_get-get_or new k None (omega (arith, long)))
        ∙ kept_more past old new e place k at known kept before
    at_each k less (inr last) =
        let same : k ≡ length new = omega (arith, long) in
        let there : k ≡ length past = same ∙ long in
        slice_get-get_or (new ++ None ∷ []) k None (omega (arith, length-append new (None ∷ []), long))
        ∙ ap (λ i. Some (get_or (new ++ None ∷ []) i None)) same ∙ ap Some (get_or-append_seam new None [] None)
        ∙ ap Some (sym own) ∙ ap (λ i. Some (finish_place (e ∷ past) i)) (sym there)

-- ---- the bars, without their ends and with them

abbrev bar_at : List Entry → List Entry → Option Start → Option Bar
bar_at whole past o =
    option_and_then (λ (start : Start). option_map (bar_from whole (length past) start) (item_at past start.number)) o

-- the bar that an entry begins
none_started : (s : Layout) (past : List Entry) (e : Entry) → IsLegal s (e ∷ past) → started_by past e ≡ None
    → number_started e.reply ≡ None
none_started s past e legal none = here (number_started e.reply) refl none
  where
    here : (o : Option ℕ) → number_started e.reply ≡ o → option_and_then (queueing_at past) o ≡ None → o ≡ None
    here None is h = refl
    here (Some n) is h =
        let found = (starts_listed s past e n legal (ap (λ o. is_at o n) is ∙ eq-eqb n n refl)).found in cc

pub no_bar_begun : (s : Layout) (past : List Entry) (e : Entry) → IsLegal s (e ∷ past) → started_by past e ≡ None
    → bar_of [] past e ≡ None
no_bar_begun s past e legal none = ap (bar_at [] past) (no_start e (none_started s past e legal none))

pub no_bar_called : (past : List Entry) (e : Entry) (c : CallerId) → e.who ≡ Caller c → bar_of [] past e ≡ None
no_bar_called past e c who = ap (bar_at [] past) (none e c who)
  where
    none : (e : Entry) (c : CallerId) → e.who ≡ Caller c → start_in e ≡ None
    none e c who = grind arith

pub bar_begun : (past : List Entry) (e : Entry) (w : WorkerId) (x : Queueing) → e.who ≡ Worker w
    → started_by past e ≡ Some x
    → bar_of [] past e ≡ Some (record { worker = w; item = x.item; number = x.number; from = length past; to = None })
unfolding finish_place
bar_begun past e w x who begun = here (number_started e.reply) refl begun
  where
    here : (o : Option ℕ) → number_started e.reply ≡ o → option_and_then (queueing_at past) o ≡ Some x
        → bar_of [] past e
        ≡ Some (record { worker = w; item = x.item; number = x.number; from = length past; to = None })
    here None is found = cc
    here (Some n) is found =
        let number = found_number past n x found in
        ap (bar_at [] past) (start_of_worker e w n who is)
        ∙ ap (option_map (bar_from [] (length past) (record { worker = w; number = n })))
        (ap (item_at past) (sym number) ∙ (found_known past n x found).item)
        ∙ ap (λ k. Some (record { worker = w; item = x.item; number = k; from = length past; to = None })) (sym number)

item_older : (past : List Entry) (n i : ℕ) → item_at past n ≡ Some i → n < length past
item_older past n i is = grind arith

-- with their ends they are those of the history
module _ (whole : List Entry) (table : List (Option ℕ)) (are : AreFinishes whole table) where
  ended_at : (past : List Entry) → length past ≤ length whole → (o : Option Start)
      → option_to_list (bar_at whole past o) ≡ map (ended_bar table) (option_to_list (bar_at [] past o))
  ended_at past shorter None = refl
  ended_at past shorter (Some start) = here (item_at past start.number) refl
    where
      here : (i : Option ℕ) → item_at past start.number ≡ i
          → option_to_list (option_map (bar_from whole (length past) start) i)
          ≡ map (ended_bar table) (option_to_list (option_map (bar_from [] (length past) start) i))
      here None is = refl
      here (Some i) is =
          let less : start.number < length past = item_older past start.number i is in
          ap (λ t. record (bar_from [] (length past) start i) { to = t } ∷ [])
          (sym (ap (option_and_then (λ place. place)) (are.1 start.number (omega arith))))

  ended_in : (past : List Entry) → length past ≤ length whole
      → bars_in whole past ≡ map (ended_bar table) (bars_in [] past)
  unfolding bars_in
  ended_in [] shorter = refl
  ended_in (e ∷ past) shorter =
      ap₂ (λ a b. a ++ b) (ended_in past (omega arith)) (ended_at past (omega arith) (start_in e))
      ∙ sym (map-append (ended_bar table) (bars_in [] past) (option_to_list (bar_of [] past e)))

  pub bars_ended : bars_of whole ≡ map (ended_bar table) (bars_in [] whole)
  bars_ended = ended_in whole (omega arith)
