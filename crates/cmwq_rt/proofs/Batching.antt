-- A batch of calls is made, one after another.
use Rattle.cmwq_rt.specs.Common.{◌≡◌, ℕ, suc, ◌<◌, List, [], ◌∷◌, ◌++◌, length, refl, sym, ap, ◌∙◌, subst, take, drop}
use Rattle.cmwq_rt.specs.Common.{◌+◌, ◌≤◌, take_more, get_or, append_assoc, arith, slice_get-get_or, Result, Ok, Err}
use Rattle.cmwq_rt.specs.Common.{Option, NoMemory, Full, Unfinished, NoPlace, Closed, Stranger, NoThread}
use Rattle.std.specs.Prelude.{IfSome}
use Rattle.cmwq_rt.specs.Running.{breaks_off, fault_after}
use Rattle.cmwq_rt.specs.Common.{IfOk, IfErr, Call, Reply, Layout, View, Extends, RunFault, Refused}
use Rattle.cmwq_rt.specs.Common.{Bool, true, false, true≢false, Who}
use Rattle.cmwq_model.specs.Prelude.{fits}
use Rattle.std.specs.List.{list_all}
use Rattle.std.proofs.lemmas.List.Folds.{list_all_at}
use Rattle.std.proofs.lemmas.List.{drop_more, length-take-le, length-append, length-drop}
use Rattle.std.proofs.Math.Seq.{set-append_seam}
use Rattle.std.proofs.Math.ListN.{set}
use Rattle.cmwq_rt.specs.Later.{Later}
use Rattle.cmwq_rt.specs.Batches.{MakesAll, MakesBatch, StopsBatch, fault_after_batch}
use Rattle.cmwq_rt.specs.declared.batch.BatchFault.{BatchFault}
use Rattle.cmwq_rt.proofs.Later.{later_self, later_trans, later_made, later_refused}

-- one more call at the end
makes_more : (s : Layout) (cs : List Call) (rs : List Reply) (c : Call) (r : Reply) (v m w : View)
    → MakesAll s v cs rs m → Extends s m c r w → MakesAll s v (cs ++ c ∷ []) (rs ++ r ∷ []) w
makes_more s [] [] c r v m w same x = (w, subst (λ u. Extends s u c r w) same x, refl)
makes_more s [] (q ∷ rs) c r v m w none x = absurd none
makes_more s (d ∷ cs) [] c r v m w none x = absurd none
makes_more s (d ∷ cs) (q ∷ rs) c r v m w (u, first, all) x = (u, first, makes_more s cs rs c r u m w all x)

pub makes_later : (s : Layout) (cs : List Call) (rs : List Reply) (v w : View) → MakesAll s v cs rs w → Later v w
makes_later s [] [] v w same = subst (Later v) (sym same) (later_self v)
makes_later s [] (q ∷ rs) v w none = absurd none
makes_later s (d ∷ cs) [] v w none = absurd none
makes_later s (d ∷ cs) (q ∷ rs) v w (u, first, all) =
    later_trans v u w (later_made s v u d q first) (makes_later s cs rs u w all)

-- as many replies as calls
makes_many : (s : Layout) (cs : List Call) (rs : List Reply) (v w : View) → MakesAll s v cs rs w
    → length rs ≡ length cs
makes_many s [] [] v w same = refl
makes_many s [] (q ∷ rs) v w none = absurd none
makes_many s (d ∷ cs) [] v w none = absurd none
makes_many s (d ∷ cs) (q ∷ rs) v w (u, first, all) = ap suc (makes_many s cs rs u w all)

pub batch_later : (s : Layout) (v : View) (cs : List Call) (old new : List Reply) (w : View)
    → MakesBatch s v cs old new w → Later v w
batch_later s v cs old new w b = makes_later s cs b.replies v w b.makes

pub batch_none : (s : Layout) (v : View) (old : List Reply) → MakesBatch s v [] old old v
batch_none s v old = record { replies = []; makes = refl; written = refl }

-- the reply of the next call is written after those of the calls before it
write_next : (old rs : List Reply) (k : ℕ) (r : Reply) → length rs ≡ k → k < length old
    → set (rs ++ drop k old) k r ≡ (rs ++ r ∷ []) ++ drop (k + 1) old
write_next old rs k r many lt =
    ap (λ xs. set (rs ++ xs) k r) (drop_more old k r lt)
    ∙ ap (λ n. set (rs ++ get_or old k r ∷ drop (k + 1) old) n r) (sym many)
    ∙ set-append_seam rs (get_or old k r) (drop (k + 1) old) r
    ∙ sym (append_assoc rs (r ∷ []) (drop (k + 1) old))

pub batch_more : (s : Layout) (v : View) (calls : List Call) (k : ℕ) (d : Call) (old mid : List Reply) (m w : View)
    (r : Reply)
    → k < length calls → length calls ≤ length old
    → MakesBatch s v (take k calls) old mid m → Extends s m (get_or calls k d) r w
    → MakesBatch s v (take (k + 1) calls) old (set mid k r) w
batch_more s v calls k d old mid m w r lt room b x =
    let c = get_or calls k d in
    let many = length-take-le k calls (omega (arith, lt)) in
    let more = length-take-le (k + 1) calls (omega (arith, lt)) in
    let all = makes_more s (take k calls) b.replies c r v m w b.makes x in
    record {
      replies = b.replies ++ r ∷ [];
      makes = subst (λ cs. MakesAll s v cs (b.replies ++ r ∷ []) w) (sym (take_more calls k d lt)) all;
      written =
          ap (λ xs. set xs k r) (b.written ∙ ap (λ n. b.replies ++ drop n old) many)
          ∙ write_next old b.replies k r (makes_many s (take k calls) b.replies v m b.makes ∙ many)
          (omega (arith, lt, room))
          ∙ ap (λ n. (b.replies ++ r ∷ []) ++ drop n old) (sym more);
    }

pub batch_room : (s : Layout) (v : View) (cs : List Call) (old new : List Reply) (w : View)
    → MakesBatch s v cs old new w → length cs ≤ length old → length new ≡ length old
batch_room s v cs old new w b room =
    ap length b.written ∙ length-append b.replies (drop (length cs) old)
    ∙ ap (λ n. n + length (drop (length cs) old)) (makes_many s cs b.replies v w b.makes)
    ∙ (let n = length-drop (length cs) old in omega (arith, n, room))

pub batch_stops : (s : Layout) (v : View) (calls : List Call) (k : ℕ) (d : Call) (f : RunFault) (old new : List Reply)
    (m w : View)
    → k < length calls → MakesBatch s v (take k calls) old new m → Refused s m (get_or calls k d) f w
    → StopsBatch s v calls k f old new w
batch_stops s v calls k d f old new m w lt b refused = record {
  middle = m;
  next = get_or calls k d;
  makes = b;
  is_next = slice_get-get_or calls k d lt;
  refused = refused;
}

-- a batch that was made whole or stopped
pub batch_answered : (s : Layout) (v : View) (calls : List Call) (old new : List Reply) (w : View)
    (r : Result (Unit {0}) (BatchFault RunFault))
    → IfOk r (λ _. MakesBatch s v calls old new w)
    → IfErr r (λ e. StopsBatch s v calls e.made e.fault old new w) → Later v w
batch_answered s v calls old new w (Ok u) made n = batch_later s v calls old new w made
batch_answered s v calls old new w (Err e) x stopped =
    later_trans v stopped.middle w (batch_later s v (take e.made calls) old new stopped.middle stopped.makes)
    (later_refused s stopped.middle w stopped.next e.fault stopped.refused)

-- each call fits its maker
pub fits_at : (s : Layout) (who one : Who) (calls : List Call) (k : ℕ) (d : Call) → k < length calls → one ≡ who
    → list_all (fits s who) calls ≡ true → fits s one (get_or calls k d) ≡ true
fits_at s who one calls k d lt same all = known (fits s who (get_or calls k d)) refl
  where
    known : (b : Bool) → fits s who (get_or calls k d) ≡ b → fits s one (get_or calls k d) ≡ true
    known true is = ap (λ w. fits s w (get_or calls k d)) same ∙ is
    known false is = absurd (true≢false (sym all ∙ list_all_at (fits s who) calls k d lt is))

-- a run breaks off with what a batch answers, other than want of room
pub batch_breaks_off : (s : Layout) (v : View) (calls : List Call) (old new : List Reply) (w : View)
    (r : Result (Unit {0}) (BatchFault RunFault)) (before : Option RunFault)
    → IfErr r (λ e. StopsBatch s v calls e.made e.fault old new w) → IfSome before (λ f. breaks_off f ≡ true)
    → IfSome (fault_after_batch r before) (λ f. breaks_off f ≡ true)
batch_breaks_off s v calls old new w (Ok u) before n so = so
batch_breaks_off s v calls old new w (Err e) before stopped so = broke e.fault stopped.refused
  where
    broke : (f : RunFault) → Refused s stopped.middle stopped.next f w
        → IfSome (fault_after (Err f) before) (λ g. breaks_off g ≡ true)
    broke Full refused = so
    broke (NoMemory ticket) refused = refl
    broke Unfinished refused = absurd refused.1
    broke NoPlace refused = absurd refused.1
    broke Closed refused = refl
    broke (Stranger own book) refused = refl
    broke NoThread refused = absurd refused.1
