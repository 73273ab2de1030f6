-- The laws of bars.
use Rattle.std.proofs.Common.{◌≡◌, ℕ, ◌<◌, ◌≤◌, ◌==◌, Bool, true, false, cond, List, [], ◌∷◌, ◌++◌, length, filter}
use Rattle.std.proofs.Common.{Option, Some, None, option_to_list, ◌⊎◌, inl, inr, refl, sym, ap, ap₂, ◌∙◌, subst, arith}
use Rattle.std.proofs.Common.{length-append}
use Rattle.std.specs.Prelude.{if◌then◌else◌, is_some, option_map, option_and_then}
use Rattle.std.specs.Option.{option_or}
use Rattle.std.specs.List.{AllByRecursion}
use Rattle.std.proofs.lemmas.Bool.{eq-eqb}
use Rattle.std.proofs.lemmas.Bool.Decides.{nat_tests}
use Rattle.std.proofs.lemmas.List.Elements.{filter-append}
use Rattle.cmwq_model.specs.declared.entry.Entry.{Entry}
use Rattle.cmwq_model.specs.declared.record.Start.{Start}
use Rattle.cmwq_model.specs.declared.id.Who.{Who}
use Rattle.cmwq_model.specs.declared.id.Who.TheVariants.{Caller, Worker}
use Rattle.cmwq_model.specs.declared.id.WorkerId.{WorkerId}
use Rattle.cmwq_model.specs.Prelude.{Layout, finishes, number_started, number_finished, item_at, start_in, run, has_run}
use Rattle.cmwq_model.specs.Prelude.{worker_of, IsLegal}
use Rattle.cmwq_lemmas.proofs.Lists.{All_map, All_append, same_tail}
use Rattle.cmwq_theory_steps.proofs.Entries.{item_at-older, is_at-true}
use Rattle.cmwq_theory_steps.proofs.Fresh.{finishes_run}
use Rattle.cmwq_theory_steps.proofs.ItemRuns.{one_worker, starts_known, start_of_worker}
use Rattle.cmwq_theory_steps.proofs.Starts.{starts_next}
use Rattle.cmwq_chart.specs.declared.bars.Bar.{Bar}
use Rattle.cmwq_chart.specs.Bars.{finish_place, bar_from, bar_of, bars_in, bars_of}
use Rattle.cmwq_output_laws.specs.BarLaws.{FinishesAt, EndsWell, begins_at, HasOneBar, StartsHaveOneBar, IsOfStart}
use Rattle.cmwq_output_laws.specs.BarLaws.{BarsAreOfStarts, EndsBefore, AreApart, LanesAreApart}
use Rattle.cmwq_model.proofs.Growing.{older_are_legal}
use Rattle.cmwq_output_laws.proofs.Finishes.{finish_within, finish_stays, not_yet, goes_on}

items_stay : (after past : List Entry) (n : ℕ) → n < length past → item_at (after ++ past) n ≡ item_at past n
items_stay [] past n less = refl
items_stay (a ∷ after) past n less = let far : n < length (after ++ past) = omega (arith, length-append after past) in
    item_at-older a (after ++ past) n far ∙ items_stay after past n less

-- ---- how a bar ends

module _ (s : Layout) (before : List Entry) (e : Entry) (w : WorkerId) (n i : ℕ) (legal : IsLegal s (e ∷ before))
    (who : e.who ≡ Worker w) (started : number_started e.reply ≡ Some n) (older : n < length before)
    (item : item_at before n ≡ Some i) (b : Bar) (worker_is : b.worker ≡ w) (number_is : b.number ≡ n)
    (from_is : b.from ≡ length before) where
  one_more : (h : List Entry) (a : Entry) (t u : ℕ) → u ≡ t → FinishesAt h b u → FinishesAt (a ∷ h) b t
  one_more h a t u same f = record {
    entry = f.entry;
    before = f.before;
    stands = record { after = a ∷ f.stands.after; parts = ap (λ l. a ∷ l) f.stands.parts };
    place = f.place ∙ same;
    later = subst (λ k. b.from < k) same f.later;
    by_worker = f.by_worker;
    finishes = f.finishes;
  }

  ends_now : (after : List Entry) (a : Entry) (t : ℕ) → IsLegal s (a ∷ (after ++ e ∷ before))
      → IsLegal s (after ++ e ∷ before) → finish_place (after ++ e ∷ before) n ≡ None → finishes n a ≡ true
      → length (after ++ e ∷ before) ≡ t → FinishesAt (a ∷ (after ++ e ∷ before)) b t
  ends_now after a t legals legal_h none ends at =
      let h : List Entry = after ++ e ∷ before in
      let said = is_at-true (number_finished a.reply) n ends in
      let f = finishes_run s h a n legals said in
      let runs = goes_on s before e w n legal who started after legal_h none in
      let longer : n < length (e ∷ before) = omega arith in
      let known : item_at h n ≡ Some i = items_stay after (e ∷ before) n longer ∙ item_at-older e before n older
      ∙ item in
      let same : f.worker ≡ w = (one_worker s h f.worker w n n i legal_h f.is_run runs known known).0 in
      record {
        entry = a;
        before = h;
        stands = record { after = []; parts = refl };
        place = at;
        later = omega (arith, length-append after (e ∷ before), from_is, at);
        by_worker = f.by_worker ∙ ap Worker (same ∙ sym worker_is);
        finishes = said ∙ ap Some (sym number_is);
      }

  ends_in : (after : List Entry) (o : Option ℕ) → IsLegal s (after ++ e ∷ before) → finish_place (after ++ e ∷ before) n
      ≡ o → EndsWell (after ++ e ∷ before) b o
  unfolding finish_place IsLegal
  ends_in after None legals is =
      subst (λ (v : WorkerId). run (after ++ e ∷ before) v ≡ Some b.number) (sym worker_is)
      (goes_on s before e w n legal who started after legals is ∙ ap Some (sym number_is))
  ends_in [] (Some t) legals is = let never = not_yet s before e w n legal who started in cc
  ends_in (a ∷ after) (Some t) legals is =
      here (λ u hu. ends_in after (Some u) legals.2 hu) (finish_place (after ++ e ∷ before) n) refl (finishes n a) refl
      is
    where
      here : ((u : ℕ) → finish_place (after ++ e ∷ before) n ≡ Some u → FinishesAt (after ++ e ∷ before) b u)
          → (o : Option ℕ) → finish_place (after ++ e ∷ before) n ≡ o → (f : Bool) → finishes n a ≡ f
          → option_or o (if f then Some (length (after ++ e ∷ before)) else None) ≡ Some t
          → FinishesAt (a ∷ (after ++ e ∷ before)) b t
      here earlier (Some u) hu f hf k = let same : u ≡ t = cc in
          one_more (after ++ e ∷ before) a t u same (earlier u hu)
      here earlier None hu true hf k = let at : length (after ++ e ∷ before) ≡ t = cc in
          ends_now after a t legals legals.2 hu hf at
      here earlier None hu false hf k = cc

-- ---- one bar begins at a start

abbrev bar_or : List Entry → List Entry → Option Start → Option Bar
bar_or whole past o =
    option_and_then (λ (start : Start). option_map (bar_from whole (length past) start) (item_at past start.number)) o

none_here : (whole past : List Entry) (place : ℕ) → (length past == place) ≡ false → (o : Option Start)
    → filter (begins_at place) (option_to_list (bar_or whole past o)) ≡ []
none_here whole past place other None = refl
none_here whole past place other (Some start) = here (item_at past start.number)
  where
    here : (i : Option ℕ)
        → filter (begins_at place) (option_to_list (option_map (bar_from whole (length past) start) i)) ≡ []
    here None = refl
    here (Some i) = ap (λ b. cond b (bar_from whole (length past) start i ∷ []) []) other

apart_places : (a b : ℕ) → (a < b) ⊎ (b < a) → (a == b) ≡ false
apart_places a b (inl h) = grind (arith, nat_tests)
apart_places a b (inr h) = grind (arith, nat_tests)

none_begin : (whole past : List Entry) (place : ℕ) → length past ≤ place → filter (begins_at place) (bars_in whole past)
    ≡ []
unfolding bars_in
none_begin whole [] place h = refl
none_begin whole (x ∷ past) place h =
    let less : length past < place = omega arith in
    filter-append (begins_at place) (bars_in whole past) (option_to_list (bar_of whole past x))
    ∙ ap₂ (λ k l. k ++ l) (none_begin whole past place (omega arith))
    (none_here whole past place (apart_places (length past) place (inl less)) (start_in x))

one_begins : (whole before : List Entry) (e : Entry) (b : Bar) → bar_of whole before e ≡ Some b → b.from ≡ length before
    → (after : List Entry) → filter (begins_at (length before)) (bars_in whole (after ++ e ∷ before)) ≡ b ∷ []
unfolding bars_in
one_begins whole before e b is from [] =
    filter-append (begins_at (length before)) (bars_in whole before) (option_to_list (bar_of whole before e))
    ∙ ap₂ (λ (k : List Bar) (o : Option Bar). k ++ filter (begins_at (length before)) (option_to_list o))
    (none_begin whole before (length before) (omega arith)) is
    ∙ ap (λ f. cond f (b ∷ []) []) (eq-eqb b.from (length before) from)
one_begins whole before e b is from (a ∷ after) =
    let more : length before < length (after ++ e ∷ before) = omega (arith, length-append after (e ∷ before)) in
    filter-append (begins_at (length before)) (bars_in whole (after ++ e ∷ before))
    (option_to_list (bar_of whole (after ++ e ∷ before) a))
    ∙ ap₂ (λ k l. k ++ l) (one_begins whole before e b is from after)
    (none_here whole (after ++ e ∷ before) (length before)
    (apart_places (length (after ++ e ∷ before)) (length before) (inr more)) (start_in a))

has_one_bar : (s : Layout) (after before : List Entry) (e : Entry) (n : ℕ) → IsLegal s (after ++ e ∷ before)
    → number_started e.reply ≡ Some n → HasOneBar (after ++ e ∷ before) e before n
has_one_bar s after before e n legals started =
    let past : List Entry = after ++ e ∷ before in
    let legal = older_are_legal s after (e ∷ before) legals in
    let k = starts_known s before e n legal started in
    let begun : Start = record { worker = k.worker; number = n } in
    let bar : Bar = bar_from past (length before) begun k.item in
    let made : bar_of past before e ≡ Some bar =
    ap (bar_or past before) (start_of_worker e k.worker n k.by_worker started)
    ∙ ap (option_map (bar_from past (length before) begun)) k.is_item in
    record {
      bar = bar;
      only = one_begins past before e bar made refl after;
      by_worker = k.by_worker;
      number = refl;
      item = k.is_item;
      ends = ends_in s before e k.worker n k.item legal k.by_worker started k.older k.is_item bar refl refl refl after
          (finish_place past n) legals refl;
    }

pub starts_have_one_bar : StartsHaveOneBar
starts_have_one_bar s past legal e before n stands started =
    subst (λ (p : List Entry). HasOneBar p e before n) (sym stands.parts)
    (has_one_bar s stands.after before e n (subst (IsLegal s) stands.parts legal) started)

-- ---- each bar is that of a start, and ends where the whole history finishes that

record IsMade (whole past : List Entry) (b : Bar) : Type 0 where
  of_start : IsOfStart past b
  ends : b.to ≡ finish_place whole b.number

made_here : (whole past : List Entry) (x : Entry) (o : Option Start) → start_in x ≡ o
    → AllByRecursion (IsMade whole (x ∷ past)) (option_to_list (bar_or whole past o))
made_here whole past x None is = tt
made_here whole past x (Some start) is = here (item_at past start.number)
  where
    here : (i : Option ℕ)
        → AllByRecursion (IsMade whole (x ∷ past)) (option_to_list (option_map (bar_from whole (length past) start) i))
    here None = tt
    here (Some i) = (
      record {
        of_start =
            record { entry = x; before = past; stands = record { after = []; parts = refl }; place = refl; starts = is };
        ends = refl;
      },
      tt,
    )

made_later : (whole past : List Entry) (x : Entry) (b : Bar) → IsMade whole past b → IsMade whole (x ∷ past) b
made_later whole past x b m = record {
  of_start = record {
    entry = m.of_start.entry;
    before = m.of_start.before;
    stands = record { after = x ∷ m.of_start.stands.after; parts = ap (λ l. x ∷ l) m.of_start.stands.parts };
    place = m.of_start.place;
    starts = m.of_start.starts;
  };
  ends = m.ends;
}

all_made : (whole past : List Entry) → AllByRecursion (IsMade whole past) (bars_in whole past)
unfolding bars_in
all_made whole [] = tt
all_made whole (x ∷ past) =
    All_append (IsMade whole (x ∷ past)) (bars_in whole past) (option_to_list (bar_of whole past x))
    (All_map (IsMade whole past) (IsMade whole (x ∷ past)) (bars_in whole past) (made_later whole past x)
    (all_made whole past))
    (made_here whole past x (start_in x) refl)

pub bars_are_of_starts : BarsAreOfStarts
bars_are_of_starts past =
    All_map (IsMade past past) (IsOfStart past) (bars_of past) (λ b m. m.of_start) (all_made past past)

-- ---- two bars of a worker

splits : (ac ab : List Entry) (ec eb : Entry) (bc bb : List Entry) → ac ++ ec ∷ bc ≡ ab ++ eb ∷ bb
    → length bb < length bc → (mid : List Entry) × (bc ≡ mid ++ eb ∷ bb)
splits [] [] ec eb bc bb h less = let same : length bc ≡ length bb = ap length (same_tail ec eb bc bb h) in
    absurd (omega arith)
splits [] (y ∷ ab) ec eb bc bb h less = (ab, same_tail ec y bc (ab ++ eb ∷ bb) h)
splits (x ∷ ac) [] ec eb bc bb h less =
    let same : length (ac ++ ec ∷ bc) ≡ length bb = ap length (same_tail x eb (ac ++ ec ∷ bc) bb h) in
    absurd (omega (arith, length-append ac (ec ∷ bc)))
splits (x ∷ ac) (y ∷ ab) ec eb bc bb h less =
    splits ac ab ec eb bc bb (same_tail x y (ac ++ ec ∷ bc) (ab ++ eb ∷ bb) h) less

record StartParts (e : Entry) (w : WorkerId) (n : ℕ) : Type 0 where
  who : e.who ≡ Worker w
  started : number_started e.reply ≡ Some n

abbrev start_by : Option ℕ → WorkerId → Option Start
start_by o v = option_map (λ k. record { worker = v; number = k }) o

start_parts : (e : Entry) (w : WorkerId) (n : ℕ) (x : Who) (o : Option ℕ) → e.who ≡ x → number_started e.reply ≡ o
    → option_and_then (start_by o) (worker_of x) ≡ Some (record { worker = w; number = n }) → StartParts e w n
start_parts e w n (Caller c) o hx ho h = cc
start_parts e w n (Worker v) None hx ho h = cc
start_parts e w n (Worker v) (Some m) hx ho h =
    let one : v ≡ w = ap (λ (o : Option Start). option_worker v o) h in
    let two : m ≡ n = ap (λ (o : Option Start). option_number m o) h in
    record { who = hx ∙ ap Worker one; started = ho ∙ ap Some two }
  where
    option_worker : WorkerId → Option Start → WorkerId
    option_worker d None = d
    option_worker d (Some s) = s.worker

    option_number : ℕ → Option Start → ℕ
    option_number d None = d
    option_number d (Some s) = s.number

one_who : (x : Who) (v w : WorkerId) → x ≡ Worker v → x ≡ Worker w → v ≡ w
one_who x v w h k = worker_in (sym h ∙ k)
  where
    worker_of_who : Who → WorkerId
    worker_of_who (Worker u) = u
    worker_of_who (Caller c) = v

    worker_in : Worker v ≡ Worker w → v ≡ w
    worker_in same = ap worker_of_who same

apart : (s : Layout) (past : List Entry) → IsLegal s past → (b c : Bar) → IsMade past past b → IsMade past past c
    → AreApart b c
apart s past legal b c mb mc lane less =
    let sb = mb.of_start.stands in
    let sc = mc.of_start.stands in
    let eb : Entry = mb.of_start.entry in
    let ec : Entry = mc.of_start.entry in
    let bb : List Entry = mb.of_start.before in
    let bc : List Entry = mc.of_start.before in
    let pb = start_parts eb b.worker b.number eb.who (number_started eb.reply) refl refl mb.of_start.starts in
    let pc = start_parts ec c.worker c.number ec.who (number_started ec.reply) refl refl mc.of_start.starts in
    let nearer : length bb < length bc = omega (arith, mb.of_start.place, mc.of_start.place) in
    let mid = splits sc.after sb.after ec eb bc bb (sym sc.parts ∙ sb.parts) nearer in
    let legal_c : IsLegal s (ec ∷ bc) = older_are_legal s sc.after (ec ∷ bc) (subst (IsLegal s) sc.parts legal) in
    let legal_bc : IsLegal s bc = older_are_legal s (ec ∷ []) bc legal_c in
    let legal_b : IsLegal s (eb ∷ bb) = older_are_legal s sb.after (eb ∷ bb) (subst (IsLegal s) sb.parts legal) in
    let st = starts_next s bc ec c.number legal_c pc.started in
    let same : st.worker ≡ b.worker = one_who ec.who st.worker c.worker st.by_worker pc.who ∙ sym lane in
    let idle : has_run bc b.worker ≡ false = subst (λ (v : WorkerId). has_run bc v ≡ false) same st.idle in
    let runs : finish_place bc b.number ≡ None → run bc b.worker ≡ Some b.number = λ none.
    subst (λ (h : List Entry). run h b.worker ≡ Some b.number) (sym mid.1)
    (goes_on s bb eb b.worker b.number legal_b pb.who pb.started mid.0 (subst (IsLegal s) mid.1 legal_bc)
    (subst (λ (h : List Entry). finish_place h b.number ≡ None) mid.1 none)) in
    here s past b c bc mb.ends mc.of_start.place idle runs
    (λ t is. subst (λ (h : List Entry). finish_place h b.number ≡ Some t) (sym sc.parts)
    (finish_stays sc.after (ec ∷ bc) b.number t (finish_stays (ec ∷ []) bc b.number t is)))
    (finish_place bc b.number) refl
  where
    here : (s : Layout) (past : List Entry) (b c : Bar) (bc : List Entry) → b.to ≡ finish_place past b.number
        → length bc ≡ c.from → has_run bc b.worker ≡ false
        → (finish_place bc b.number ≡ None → run bc b.worker ≡ Some b.number)
        → ((t : ℕ) → finish_place bc b.number ≡ Some t → finish_place past b.number ≡ Some t) → (o : Option ℕ)
        → finish_place bc b.number ≡ o → EndsBefore b.to c.from
    here s past b c bc to place idle runs stays None is =
        let busy : has_run bc b.worker ≡ true = ap is_some (runs is) in
        let clash : true ≡ false = sym busy ∙ idle in
        cc
    here s past b c bc to place idle runs stays (Some t) is =
        let ended : Some t ≡ b.to = sym (to ∙ stays t is) in
        subst (λ (o : Option ℕ). EndsBefore o c.from) ended (subst (λ k. t < k) place (finish_within bc b.number t is))

pub lanes_are_apart : LanesAreApart
lanes_are_apart s past legal =
    All_map (IsMade past past) (λ b. AllByRecursion (AreApart b) (bars_of past)) (bars_of past)
    (λ b mb. All_map (IsMade past past) (AreApart b) (bars_of past) (λ c mc. apart s past legal b c mb mc)
    (all_made past past)) (all_made past past)
