-- A history tells how many calls of callers were left out: those of the scripts of which it has no first entry.
use Rattle.std.specs.Prelude.{MatchBool, MatchOption}
use Rattle.std.specs.List.{AllByRecursion}
use Rattle.std.proofs.Common.{◌≡◌, ◌∙◌, ◌+◌, ◌++◌, ◌∷◌, ℕ, zero, suc, Bool, true, false, List, [], Option, Some, None}
use Rattle.std.proofs.Common.{length, map, ap, arith, inl, inr, count_by}
use Rattle.cmwq_lemmas.proofs.Lists.{count_append, count_by-cons}
use Rattle.cmwq_model.specs.Prelude.{is_drain, is_tick, ticket_told}
use Rattle.cmwq_model.specs.Prelude.{Layout, is_whole}
use Rattle.cmwq_model.specs.declared.call.Call.{Call}
use Rattle.cmwq_model.specs.declared.entry.Entry.{Entry}
use Rattle.cmwq_model.specs.declared.id.Who.{Who}
use Rattle.cmwq_model.specs.declared.reply.Reply.{Reply}
use Rattle.cmwq_json_script.specs.Scripts.{IsCallersAction, IsCallersScript}
use Rattle.cmwq_json_script.specs.Views.{calls_in}
use Rattle.cmwq_json_script.specs.declared.action.Action.{Action}
use Rattle.cmwq_json_script.specs.declared.action.Action.TheVariants as action
use Rattle.cmwq_monitor.specs.Participants.{made_by}
use Rattle.cmwq_monitor.specs.Whole.{Behind, EndsTicket, Fires, MakesEntries}
use Rattle.cmwq_rt.specs.Scripts.{Follows}
use Rattle.cmwq_engine.specs.Conduct.{caller_numbered}
use Rattle.cmwq_rt_scripts.specs.Ended.{AllFollow}
use Rattle.cmwq_schedule_laws.specs.Leaving.{CallsLeftOutAreTold}

-- an entry is the first one of a call, and no end or fire
abbrev is_first : Entry → Bool
is_first e = is_whole e.call

abbrev firsts : List Entry → ℕ
firsts es = count_by is_first es

first_more : (e : Entry) (es : List Entry) → is_whole e.call ≡ true → firsts (e ∷ es) ≡ firsts es + 1
first_more e es is = let more = count_by-cons is_first e es in grind (arith, more, is)

other_more : (e : Entry) (es : List Entry) → is_whole e.call ≡ false → firsts (e ∷ es) ≡ firsts es
other_more e es is = let more = count_by-cons is_first e es in grind (arith, more, is)

-- ---- the entries of one call

module _ (s : Layout) (who : Who) (history : List Entry) where
  fires_count : (n : ℕ) (made es : List Entry) → Fires s who history n made es → firsts es ≡ 0
  fires_count zero made es none = ap firsts none
  fires_count (suc n) made es (inl (none, room)) = ap firsts none
  fires_count (suc n) made es (inr (inl (e, one, is))) =
      ap firsts one ∙ other_more e [] (ap is_whole is.0)
  fires_count (suc n) made es (inr (inr (e, rest, more, fire, other, fires))) =
      ap firsts more ∙ other_more e rest (ap is_whole fire) ∙ fires_count n (made ++ e ∷ []) rest fires

  end_counts : (made : List Entry) (c : Call) (k : ℕ) (es : List Entry) → EndsTicket s who history made c k es
      → firsts es ≡ 0
  end_counts made c k es (e, rest, is, end, behind) =
      ap firsts is ∙ other_more e rest (ap is_whole end.0) ∙ drained (is_drain c) behind
    where
      drained : (b : Bool) → MatchBool b (Fires s who history s.items (made ++ e ∷ []) rest) (rest ≡ [])
          → firsts rest ≡ 0
      drained true fires = fires_count s.items (made ++ e ∷ []) rest fires
      drained false none = ap firsts none

  behind_counts : (made : List Entry) (c : Call) (r : Reply) (es : List Entry) → Behind s who history made c r es
      → firsts es ≡ 0
  behind_counts made c r es = ticked (is_tick c)
    where
      ended : (o : Option ℕ) → MatchOption o (es ≡ []) (λ k. EndsTicket s who history made c k es) → firsts es ≡ 0
      ended None none = ap firsts none
      ended (Some k) end = end_counts made c k es end

      ticked : (b : Bool) → MatchBool b (Fires s who history s.items made es)
          (MatchOption (ticket_told r) (es ≡ []) (λ k. EndsTicket s who history made c k es)) → firsts es ≡ 0
      ticked true fires = fires_count s.items made es fires
      ticked false end = ended (ticket_told r) end

  call_counts : (made : List Entry) (c : Call) (r : Reply) (es : List Entry) → is_whole c ≡ true
      → MakesEntries s who history made c r es → firsts es ≡ 1
  call_counts made c r es whole m =
      let none = behind_counts (made ++ m.first ∷ []) c r m.rest m.behind in
      let one = first_more m.first m.rest (ap is_whole m.is.0 ∙ whole) in
      ap firsts m.all ∙ omega (arith, one, none)

  -- ---- of all calls of a script

  abbrev AreWhole : List Call → Type 0
  AreWhole calls = AllByRecursion (λ c. is_whole c ≡ true) calls

  follows_count : (calls : List Call) (made all : List Entry) (full : ℕ) → AreWhole calls
      → Follows s who history made calls all full → firsts all + full ≡ firsts made + length calls
  follows_count [] made all full whole (same, none) = let equal = ap firsts same in omega (arith, equal, none)
  follows_count (c ∷ cs) made all full whole (inl (r, es, makes, rest)) =
      let one = call_counts made c r es whole.0 makes in
      let both = count_append is_first made es in
      let on = follows_count cs (made ++ es) all full whole.1 rest in
      omega (arith, one, both, on)
  follows_count (c ∷ cs) made all full whole (inr (n, is, room, rest)) =
      let on = follows_count cs made all n whole.1 rest in
      omega (arith, is, on)

-- ---- of all callers

module _ (s : Layout) (gates locks : ℕ) where
  calls_whole : (xs : List Action) → AllByRecursion (IsCallersAction s gates locks) xs
      → AllByRecursion (λ c. is_whole c ≡ true) (calls_in xs)
  calls_whole [] all = tt
  calls_whole (action.Call c ∷ xs) all = (all.0.0, calls_whole xs all.1)
  calls_whole (action.Open gate ∷ xs) all = calls_whole xs all.1
  calls_whole (action.SleepAt gate ∷ xs) all = calls_whole xs all.1
  calls_whole (action.Lock lock ∷ xs) all = calls_whole xs all.1
  calls_whole (action.Unlock lock ∷ xs) all = calls_whole xs all.1

  all_told : (scripts : List (List Action)) (k n m : ℕ) (history : List Entry)
      → AllByRecursion (IsCallersScript s gates locks) scripts → AllFollow s k (map calls_in scripts) n history
      → AllFollow s k (map calls_in scripts) m history → n ≡ m
  all_told [] k n m history all none none_too = omega (arith, none, none_too)
  all_told (xs ∷ rest) k n m history all (a, b, one, others, sum) (c, d, one_too, others_too, sum_too) =
      let whole = calls_whole xs all.0.0 in
      let counted =
      follows_count s (caller_numbered k) history (calls_in xs) [] (made_by (caller_numbered k) history) a whole one in
      let counted_too =
      follows_count s (caller_numbered k) history (calls_in xs) [] (made_by (caller_numbered k) history) c whole one_too
      in
      let same = all_told rest (suc k) b d history all.1 others others_too in
      omega (arith, counted, counted_too, same, sum, sum_too)

pub left_out_told : CallsLeftOutAreTold
left_out_told r within n m l k history leaves leaves_too =
    all_told r.layout (length r.gates) (length r.locks) r.callers 0 n m history within.scripts leaves.follow
    leaves_too.follow
