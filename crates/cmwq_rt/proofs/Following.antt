-- A caller follows a script, one call after another.
use Rattle.cmwq_rt.specs.Common.{◌≡◌, ℕ, zero, suc, ◌+◌, ◌<◌, List, [], ◌∷◌, ◌++◌, Bool, true, false, length, refl, sym}
use Rattle.cmwq_rt.specs.Common.{ap, ◌∙◌, subst, inl, inr, append-nil, append_assoc, Some, None, take, get_or, drop}
use Rattle.cmwq_rt.specs.Common.{take_more, MatchBool, MatchOption, Option, IsPrefix, Who, Call, Reply, Entry, Layout}
use Rattle.cmwq_rt.specs.Common.{past_of, has_room, View, Gains, made_by, Refused, is_full, RunFault, NoMemory, Full}
use Rattle.cmwq_rt.specs.Common.{Unfinished, NoPlace, Closed, Stranger, NoThread, Completes, BrokeOff, MakesEntries}
use Rattle.cmwq_rt.specs.Common.{Behind, EndsTicket, Fires, HadNoRoom, is_tick, is_drain, ticket_told, prefix_self}
use Rattle.cmwq_rt.specs.Common.{prefix_trans}
use Rattle.std.proofs.Math.Seq.{split_at}
use Rattle.cmwq_model.specs.declared.call.Call.TheVariants as call
use Rattle.cmwq_monitor.proofs.Entries.{gains_none, gains_more}
use Rattle.cmwq_rt.specs.Scripts.{Follows, HasFollowed, HasStopped}

module _ (s : Layout) (who : Who) (old new : List Entry) (more : IsPrefix old new) where
  -- what holds of a history holds of a longer one
  room_later : (made : List Entry) (c : Call) → HadNoRoom s who old made c → HadNoRoom s who new made c
  room_later made c (before, older, mine, none) = (before, prefix_trans before old new older more, mine, none)

  fires_later : (n : ℕ) (made es : List Entry) → Fires s who old n made es → Fires s who new n made es
  fires_later zero made es f = f
  fires_later (suc n) made es (inl (none, room)) = inl (none, room_later made call.Fire room)
  fires_later (suc n) made es (inr (inl last)) = inr (inl last)
  fires_later (suc n) made es (inr (inr (e, rest, is, fire, other, f))) =
      inr (inr (e, rest, is, fire, other, fires_later n (made ++ e ∷ []) rest f))

  end_later : (made : List Entry) (c : Call) (k : ℕ) (es : List Entry) → EndsTicket s who old made c k es
      → EndsTicket s who new made c k es
  end_later made c k es (e, rest, is, done, behind) = (e, rest, is, done, drained (is_drain c) behind)
    where
      drained : (b : Bool) → MatchBool b (Fires s who old s.items (made ++ e ∷ []) rest) (rest ≡ [])
          → MatchBool b (Fires s who new s.items (made ++ e ∷ []) rest) (rest ≡ [])
      drained true f = fires_later s.items (made ++ e ∷ []) rest f
      drained false none = none

  behind_later : (made : List Entry) (c : Call) (r : Reply) (es : List Entry) → Behind s who old made c r es
      → Behind s who new made c r es
  behind_later made c r es = ticked (is_tick c)
    where
      ended : (o : Option ℕ) → MatchOption o (es ≡ []) (λ k. EndsTicket s who old made c k es)
          → MatchOption o (es ≡ []) (λ k. EndsTicket s who new made c k es)
      ended None none = none
      ended (Some k) end = end_later made c k es end

      ticked : (b : Bool)
          → MatchBool b (Fires s who old s.items made es)
          (MatchOption (ticket_told r) (es ≡ []) (λ k. EndsTicket s who old made c k es))
          → MatchBool b (Fires s who new s.items made es)
          (MatchOption (ticket_told r) (es ≡ []) (λ k. EndsTicket s who new made c k es))
      ticked true f = fires_later s.items made es f
      ticked false e = ended (ticket_told r) e

  makes_later : (made : List Entry) (c : Call) (r : Reply) (es : List Entry) → MakesEntries s who old made c r es
      → MakesEntries s who new made c r es
  makes_later made c r es m =
      record {
        first = m.first;
        rest = m.rest;
        all = m.all;
        is = m.is;
        behind =
            behind_later (made ++ m.first ∷ []) c r m.rest m.behind;
      }

  pub follows_later : (script : List Call) (made all : List Entry) (full : ℕ) → Follows s who old made script all full
      → Follows s who new made script all full
  follows_later [] made all full f = f
  follows_later (c ∷ cs) made all full (inl (r, es, m, f)) =
      inl (r, es, makes_later made c r es m, follows_later cs (made ++ es) all full f)
  follows_later (c ∷ cs) made all full (inr (n, is, room, f)) =
      inr (n, is, room_later made c room, follows_later cs made all n f)

-- one more call of the script
follows_one : (s : Layout) (who : Who) (h : List Entry) (script : List Call) (c : Call) (made mid all : List Entry)
    (full : ℕ) (r : Reply) (es : List Entry)
    → Follows s who h made script mid full → MakesEntries s who h mid c r es → all ≡ mid ++ es
    → Follows s who h made (script ++ c ∷ []) all full
follows_one s who h [] c made mid all full r es (same, none) m is =
    inl (r, es, subst (λ xs. MakesEntries s who h xs c r es) same m, (is ∙ ap (λ xs. xs ++ es) same, none))
follows_one s who h (d ∷ ds) c made mid all full r es (inl (q, fs, n, f)) m is =
    inl (q, fs, n, follows_one s who h ds c (made ++ fs) mid all full r es f m is)
follows_one s who h (d ∷ ds) c made mid all full r es (inr (n, is_n, room, f)) m is =
    inr (n, is_n, room, follows_one s who h ds c made mid all n r es f m is)

follows_none : (s : Layout) (who : Who) (h : List Entry) (script : List Call) (c : Call) (made all : List Entry)
    (full : ℕ)
    → Follows s who h made script all full → HadNoRoom s who h all c
    → Follows s who h made (script ++ c ∷ []) all (full + 1)
follows_none s who h [] c made all full (same, none) room =
    inr (0, ap (λ n. n + 1) none, subst (λ xs. HadNoRoom s who h xs c) same room, (same, refl))
follows_none s who h (d ∷ ds) c made all full (inl (q, fs, n, f)) room =
    inl (q, fs, n, follows_none s who h ds c (made ++ fs) all full f room)
follows_none s who h (d ∷ ds) c made all full (inr (n, is, lacks, f)) room =
    inr (n + 1, ap (λ k. k + 1) is, lacks, follows_none s who h ds c made all n f room)

pub followed_none : (s : Layout) (v : View) → HasFollowed s [] 0 v v
followed_none s v = record { entries = []; gains = gains_none v; follows = (append-nil (made_by v.who v.seen), refl) }

pub followed_more : (s : Layout) (script : List Call) (c : Call) (full : ℕ) (v m w : View) (r : Reply)
    → HasFollowed s script full v m → Completes s m c r w → HasFollowed s (script ++ c ∷ []) full v w
followed_more s script c full v m w r has x =
    let mine = made_by v.who v.seen in
    let old = follows_later s v.who m.seen w.seen x.gains.older script mine (mine ++ has.entries) full has.follows in
    let makes : MakesEntries s v.who w.seen (mine ++ has.entries) c r x.entries =
    subst (λ made. MakesEntries s v.who w.seen made c r x.entries) has.gains.made
    (subst (λ who. MakesEntries s who w.seen (made_by who m.seen) c r x.entries) has.gains.same x.makes) in
    record {
      entries = has.entries ++ x.entries;
      gains = gains_more v m w has.entries x.entries has.gains x.gains;
      follows =
          follows_one s v.who w.seen script c mine (mine ++ has.entries) (mine ++ (has.entries ++ x.entries)) full r
          x.entries old makes (sym (append_assoc mine has.entries x.entries));
    }

pub followed_full : (s : Layout) (script : List Call) (c : Call) (full : ℕ) (v m w : View)
    → HasFollowed s script full v m → Refused s m c Full w → HasFollowed s (script ++ c ∷ []) (full + 1) v w
followed_full s script c full v m w has refused =
    let mine = made_by v.who v.seen in
    let all : Gains v has.entries w =
    subst (λ es. Gains v es w) (append-nil has.entries) (gains_more v m w has.entries [] has.gains refused.0) in
    let room : HadNoRoom s v.who w.seen (mine ++ has.entries) c = (
      w.seen,
      prefix_self w.seen,
      all.made,
      subst (λ who. has_room s s.room (past_of w.seen) who c ≡ false) all.same
          refused.1,
    ) in
    record {
      entries = has.entries;
      gains = all;
      follows = follows_none s v.who w.seen script c mine (mine ++ has.entries) full
          (follows_later s v.who m.seen w.seen refused.0.older script mine (mine ++ has.entries) full has.follows) room;
    }

-- what is refused for want of room has made no entry
broke_full : (s : Layout) (v w : View) (c : Call) → BrokeOff s v c Full w → Refused s v c Full w
broke_full s v w c (inl r) = r
broke_full s v w c (inr (e, es, gains, part, inl memory)) = absurd (cc memory)
broke_full s v w c (inr (e, es, gains, part, inr (own, book, stranger, differs))) = absurd (cc stranger)

pub followed_call : (s : Layout) (script : List Call) (k : ℕ) (d : Call) (full : ℕ) (v m w : View) (r : Reply)
    → k < length script
    → HasFollowed s (take k script) full v m → Completes s m (get_or script k d) r w
    → HasFollowed s (take (k + 1) script) full v w
followed_call s script k d full v m w r lt has x =
    rw (take_more script k d lt) (followed_more s (take k script) (get_or script k d) full v m w r has x)

pub followed_skip : (s : Layout) (script : List Call) (k : ℕ) (d : Call) (full : ℕ) (v m w : View) (f : RunFault)
    → k < length script → f ≡ Full
    → HasFollowed s (take k script) full v m → BrokeOff s m (get_or script k d) f w
    → HasFollowed s (take (k + 1) script) (full + 1) v w
followed_skip s script k d full v m w f lt is has broke =
    rw (take_more script k d lt)
    (followed_full s (take k script) (get_or script k d) full v m w has
    (broke_full s m w (get_or script k d) (subst (λ g. BrokeOff s m (get_or script k d) g w) is broke)))

pub broke_same : (s : Layout) (v w : View) (c : Call) (f : RunFault) → BrokeOff s v c f w → w.who ≡ v.who
broke_same s v w c f (inl refused) = refused.0.same
broke_same s v w c f (inr (e, es, gains, part, stops)) = gains.same

pub told_full : (f : RunFault) → is_full f ≡ true → f ≡ Full
told_full Full is = refl
told_full (NoMemory ticket) is = absurd (cc is)
told_full Unfinished is = absurd (cc is)
told_full NoPlace is = absurd (cc is)
told_full Closed is = absurd (cc is)
told_full (Stranger own book) is = absurd (cc is)
told_full NoThread is = absurd (cc is)

pub stopped_at : (s : Layout) (script : List Call) (k : ℕ) (d : Call) (full : ℕ) (v m w : View) (f : RunFault)
    → k < length script → is_full f ≡ false
    → HasFollowed s (take k script) full v m → BrokeOff s m (get_or script k d) f w → HasStopped s script f v w
stopped_at s script k d full v m w f lt other has broke = record {
  front = take k script;
  next = get_or script k d;
  rest = drop (suc k) script;
  script_is = split_at script k d lt;
  left_out = full;
  before = m;
  followed = has;
  broke = broke;
  other = other;
}
