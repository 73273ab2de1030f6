-- What a live run keeps from line to line, and how it ends at each.
use Rattle.cmwq_cmd_history.specs.Common.{◌≡◌, inl, inr, ◌+◌, ◌≤◌, ◌==◌, ℕ, Bool, true, false, List, [], ◌∷◌, ◌++◌}
use Rattle.cmwq_cmd_history.specs.Common.{length, take, Result, Ok, Err, Option, Some, None, nat_le, refl, sym, ap, ◌∙◌}
use Rattle.cmwq_cmd_history.specs.Common.{arith, subst, append_assoc, append-nil, if◌then◌else◌, reverse, IfSome}
use Rattle.cmwq_cmd_history.specs.Common.{Appends, prepend_known, nat_tests, length-append, length-reverse}
use Rattle.cmwq_cmd_history.specs.Common.{Appends-trans, AppendsFront, has_feed, Whole, Cut, Long, End, TakesLine}
use Rattle.cmwq_cmd_history.specs.Common.{TakesKnownLine, Who, Call, Counts, QueueShape, Layout, layout_of, is_layout}
use Rattle.cmwq_cmd_history.specs.Common.{Steps, steps, line_limit, head_text, last_text, Refusal, pieces, File, Stage}
use Rattle.cmwq_cmd_history.specs.Common.{Kind, begin, opened, head, body, ended, is_long, without_items}
use Rattle.cmwq_cmd_history.specs.Common.{after_whole_line, after_cut, at_end, calls_kind, call_file_of, pieces_fed}
use Rattle.cmwq_base.proofs.Progress.{cut_goes, cut_starts}
use Rattle.cmwq_cmd_history.specs.Common.{pieces_some, whole_found, front_after, Progress, starts, line_grows}
use Rattle.cmwq_cmd_history.specs.Common.{whole_goes}
use Rattle.std.proofs.Math.Seq.{take-append-add}
use Rattle.cmwq_io.specs.FirstLine.{first_line as line_of, after_line as rest_of, is_line_long as is_text_long}
use Rattle.cmwq_base.specs.declared.refusal.Refusal.TheVariants as refusal
use Rattle.cmwq_base.specs.Gives.{Refuses, Fails}
use Rattle.cmwq_history.specs.Ends.{written_version}
use Rattle.cmwq_cmd_history.specs.Step.{steps_in, answer_text}
use Rattle.cmwq_cmd_history.specs.Live.{or_stay, stage_reached, stage_after, last_stage, live_text, left_out_by}
use Rattle.cmwq_cmd_history.specs.Live.{LiveEnds, live_steps, new_of, rest_text}
use Rattle.cmwq_cmd_history.proofs.Lived.{lived_steps}
use Rattle.cmwq_cmd_history.proofs.Reached.{Calls, IsBegun, line_wrote, first_reached, reached_stays, reached_long}
use Rattle.cmwq_cmd_history.proofs.Reached.{reached_cut, reached_end}
use Rattle.std.proofs.KnownBytes.{Appends-nil}

-- ---- the lines that were taken

module _ {X : Type 0} (k : Kind X) where
  -- these lines lead from one stage to another
  abbrev pub Leads : ℕ → Stage X → List (List ℕ) → Stage X → Type 0
  Leads n stage [] last = stage ≡ last
  Leads n stage (line ∷ lines) last = (next : Stage X) × (is_long line ≡ false)
      × (after_whole_line k n stage line ≡ Ok next) × Leads (n + 1) next lines last

  leads_further : (lines : List (List ℕ)) (n m : ℕ) (stage last next : Stage X) (line : List ℕ)
      → Leads n stage lines last → n + length lines ≡ m → is_long line ≡ false
      → after_whole_line k m last line ≡ Ok next
      → Leads n stage (lines ++ line ∷ []) next
  leads_further [] n m stage last next line leads count short h =
      let here : n ≡ m = omega (arith, count) in (
        next,
        short,
        ap (λ st. after_whole_line k n st line) leads ∙ ap (λ j. after_whole_line k j last line) here ∙ h,
        refl,
      )
  leads_further (l ∷ lines) n m stage last next line leads count short h = (
    leads.0,
    leads.1,
    leads.2,
    leads_further lines (n + 1) m leads.0 last next line leads.3 (omega (arith, count))
        short h,
  )

  some_follow : (lines : List (List ℕ)) (p : List ℕ) (ps : List (List ℕ)) → (q : List ℕ) × (qs : List (List ℕ))
      × (lines ++ p ∷ ps ≡ q ∷ qs)
  some_follow [] p ps = (p, ps, refl)
  some_follow (l ∷ lines) p ps = (l, lines ++ p ∷ ps, refl)

  -- so far is what begins with them read
  leads_on : (lines : List (List ℕ)) (n m : ℕ) (stage last : Stage X) (p : List ℕ) (ps : List (List ℕ))
      → Leads n stage lines last → n + length lines ≡ m → stage_reached k n stage (lines ++ p ∷ ps)
      ≡ stage_reached k m last (p ∷ ps)
  leads_on [] n m stage last p ps leads count =
      let here : n ≡ m = omega (arith, count) in
      ap (λ st. stage_reached k n st (p ∷ ps)) leads ∙ ap (λ j. stage_reached k j last (p ∷ ps)) here
  leads_on (l ∷ lines) n m stage last p ps leads count =
      let some = some_follow lines p ps in
      first_reached k n stage l (lines ++ p ∷ ps) some.0 some.1 some.2 leads.1
      ∙ ap (or_stay stage (λ next. stage_reached k (n + 1) next (lines ++ p ∷ ps))) leads.2
      ∙ leads_on lines (n + 1) m leads.0 last p ps leads.3 (omega (arith, count))

one_piece : {X : Type 0} (k : Kind X) (n : ℕ) (stage : Stage X) (p : List ℕ) → stage_reached k n stage (p ∷ []) ≡ stage
unfolding stage_reached
one_piece k n stage p = refl

-- a whole line is the first piece of the text
whole_piece : (old new line : List ℕ) → TakesLine old new Whole line
    → (pieces old ≡ line ∷ pieces new) × (is_long line ≡ false)
whole_piece old new line t =
    let f = whole_found (is_text_long old) (has_feed old) (length old == 0) t.kind in
    let is_line : line ≡ line_of old = t.bytes ∙ ap (λ b. if b then [] else line_of old) f.0 in
    let is_rest : new ≡ rest_of old = t.rest ∙ ap (λ b. if b then old else rest_of old) f.0 in (
      (pieces_fed old f.1 ∙ ap (λ l. l ∷ pieces (rest_of old)) (sym is_line)) ∙ ap (λ r. line ∷ pieces r) (sym is_rest),
      subst (λ l. is_long l ≡ false) (sym is_line) f.0,
    )

-- n is the number of the next line of a text of which this is left, and so many lines led to the stage
pub record IsAt (text rest : List ℕ) (n : ℕ) (stage : Calls) : Type 0 where
  pub lines : List (List ℕ)
  pub split : pieces text ≡ lines ++ pieces rest
  pub count : 1 + length lines ≡ n
  pub leads : Leads calls_kind 1 begin lines stage

module _ (text rest : List ℕ) (n : ℕ) (stage : Calls) (at : IsAt text rest n stage) where
  is_after : (m : ℕ) → n ≡ m + 1 → stage_after m text ≡ stage
  is_after m is =
      let some = pieces_some rest in
      let size : m + 1 ≡ length at.lines + 1 = omega (arith, is, at.count) in
      let pieces_are : pieces text ≡ at.lines ++ some.0 ∷ some.1 = at.split ∙ ap (λ ps. at.lines ++ ps) some.2 in
      let front : take (m + 1) (pieces text) ≡ at.lines ++ some.0 ∷ [] =
      ap (λ j. take j (pieces text)) size ∙ ap (take (length at.lines + 1)) pieces_are
      ∙ take-append-add at.lines (some.0 ∷ some.1) 1 in
      ap (stage_reached calls_kind 1 begin) front
      ∙ leads_on calls_kind at.lines 1 n begin stage some.0 [] at.leads at.count
      ∙ one_piece calls_kind n stage some.0

  is_last : last_stage text ≡ stage_reached calls_kind n stage (pieces rest)
  is_last =
      let some = pieces_some rest in
      let pieces_are : pieces text ≡ at.lines ++ some.0 ∷ some.1 = at.split ∙ ap (λ ps. at.lines ++ ps) some.2 in
      ap (stage_reached calls_kind 1 begin) pieces_are
      ∙ leads_on calls_kind at.lines 1 n begin stage some.0 some.1 at.leads at.count
      ∙ ap (stage_reached calls_kind n stage) (sym some.2)

  is_at_next : (new line : List ℕ) (next : Calls) → TakesLine rest new Whole line
      → after_whole_line calls_kind n stage line ≡ Ok next → IsAt text new (n + 1) next
  is_at_next new line next t h =
      let first = whole_piece rest new line t in
      let size = length-append at.lines (line ∷ []) in
      record {
        lines = at.lines ++ line ∷ [];
        split = at.split ∙ ap (λ ps. at.lines ++ ps) first.0 ∙ sym (append_assoc at.lines (line ∷ []) (pieces new));
        count = omega (arith, at.count, size);
        leads = leads_further calls_kind at.lines 1 n begin stage next line at.leads at.count first.1 h;
      }

-- where the text is known
abbrev pub IsKnownAt : Option (List ℕ) → Option (List ℕ) → ℕ → Calls → Type 0
IsKnownAt None now n stage = Unit {0}
IsKnownAt (Some text) None n stage = ⊥
IsKnownAt (Some text) (Some rest) n stage = IsAt text rest n stage

-- ---- from line to line

-- what is kept of a run that has written what stood at a, and now stands at b
pub record Living (old now : Option (List ℕ)) (n : ℕ) (stage : Calls) (a b : Option (List ℕ)) : Type 0 where
  pub progress : Progress calls_kind old now n stage
  pub known : IsKnownAt old now n stage
  pub written : Appends a b (live_text stage)
  pub begun : IsBegun stage
  pub room : left_out_by stage ≡ 0

-- a refusal that needs no more
abbrev stopped : Refusal → Result (Unit {0}) Refusal
stopped e = Err e

begins_at : (text : Option (List ℕ)) (ahead : List ℕ) → ahead ≡ [] → IsKnownAt text (prepend_known ahead text) 1 begin
begins_at None ahead none = tt
begins_at (Some text) ahead none =
    record { lines = []; split = ap (λ bytes. pieces (bytes ++ text)) (sym none); count = omega arith; leads = refl }

pub lives : (text : Option (List ℕ)) (ahead : List ℕ) (a : Option (List ℕ)) → ahead ≡ []
    → Living text (prepend_known ahead text) 1 begin a a
lives text ahead a none = record {
  progress = record {
    same = starts calls_kind text ahead none;
    cut = cut_starts text ahead none;
    count = omega arith;
    within = tt;
  };
  known = begins_at text ahead none;
  written = Appends-nil a;
  begun = tt;
  room = refl;
}

module _ (old now : Option (List ℕ)) (n : ℕ) (stage : Calls) (a b : Option (List ℕ))
    (living : Living old now n stage a b) where
  known_next : (o w after : Option (List ℕ)) (line : List ℕ) (next : Calls) → IsKnownAt o w n stage
      → TakesKnownLine w after Whole line → after_whole_line calls_kind n stage line ≡ Ok next
      → IsKnownAt o after (n + 1) next
  known_next None w after line next at t h = tt
  known_next (Some text) None after line next at t h = absurd at
  known_next (Some text) (Some r) None line next at t h = absurd t
  known_next (Some text) (Some r) (Some s) line next at t h = is_at_next text r n stage at s line next t h

  -- a line whose call had room, or that has none
  pub lives_on : (after : Option (List ℕ)) (line : List ℕ) (next : Calls) (c : Option (List ℕ))
      → TakesKnownLine now after Whole line → after_whole_line calls_kind n stage line ≡ Ok next → left_out_by next ≡ 0
      → Appends b c (new_of next)
      → Living old after (n + 1) next a c
  lives_on after line next c t h room new =
      let grows = line_grows calls_kind n stage next line h in
      let wrote = line_wrote n stage next line living.begun h in
      let before = living.progress in
      record {
        progress =
            record {
              same = whole_goes calls_kind n stage old now after line next before.same t h;
              cut = cut_goes old now after line before.cut t;
              count =
                  omega (arith, grows.count, before.count);
              within = grows.within before.within;
            };
        known = known_next old now after line next living.known t h;
        written =
            subst (Appends a c) (sym wrote.text)
            (Appends-trans a b c (live_text stage) (new_of next) living.written new);
        begun = wrote.begun;
        room = room;
      }

  positive : (o w : Option (List ℕ)) → IsKnownAt o w n stage
      → IfSome o (λ text. (m : ℕ) × (n ≡ m + 1) × (stage_after m text ≡ stage))
  positive None w at = tt
  positive (Some text) None at = absurd at
  positive (Some text) (Some r) at =
      (length at.lines, omega (arith, at.count), is_after text r n stage at (length at.lines) (omega (arith, at.count)))

  -- ---- where it ends

  ends_here : (o : Option (List ℕ)) → IfSome o (λ text. (m : ℕ) × (n ≡ m + 1) × (stage_after m text ≡ stage))
      → IfSome o (λ text. (m : ℕ) × Appends a b (live_text (stage_after m text)))
  ends_here None at = tt
  ends_here (Some text) at = (at.0, subst (λ st. Appends a b (live_text st)) (sym at.2) living.written)

  so_far : IfSome old (λ text. (m : ℕ) × Appends a b (live_text (stage_after m text)))
  so_far = ends_here old (positive old now living.known)

  pub ends_for_memory : IfSome old (λ text. LiveEnds text a b (Err refusal.NoMemory))
  ends_for_memory = so_far

  pub ends_at_read_fault : IfSome old (λ text. LiveEnds text a b (Err refusal.ReadFault))
  ends_at_read_fault = so_far

  refused : {Z : Type 0} (r : Result Z Refusal) (e : Refusal) (o : Option (List ℕ))
      → IfSome o (λ text. (m : ℕ) × Appends a b (live_text (stage_after m text)))
      → IfSome o (λ text. r ≡ Err e → last_stage text ≡ stage) → Refuses e r
      → IfSome o (λ text. Fails e (call_file_of text)) → IfSome o (λ text. LiveEnds text a b (Err e))
  refused r e None so stays refuses fails = tt
  refused r refusal.NoMemory (Some text) so stays refuses fails = so
  refused r refusal.ReadFault (Some text) so stays refuses fails = so
  refused r refusal.WriteFault (Some text) so stays refuses fails = absurd refuses
  refused r refusal.TooLong (Some text) so stays refuses fails =
      (fails, subst (λ st. Appends a b (live_text st)) (sym (stays refuses)) living.written)
  refused r (refusal.BadLine m) (Some text) so stays refuses fails =
      (fails, subst (λ st. Appends a b (live_text st)) (sym (stays refuses)) living.written)
  refused r (refusal.BadShape m) (Some text) so stays refuses fails =
      (fails, subst (λ st. Appends a b (live_text st)) (sym (stays refuses)) living.written)
  refused r (refusal.NoSuchId m) (Some text) so stays refuses fails =
      (fails, subst (λ st. Appends a b (live_text st)) (sym (stays refuses)) living.written)

  stays_at : (e : Refusal) (o w after : Option (List ℕ)) (line : List ℕ) → IsKnownAt o w n stage
      → TakesKnownLine w after Whole line
      → IfSome o (λ text. after_whole_line calls_kind n stage line ≡ Err e → last_stage text ≡ stage)
  stays_at e None w after line at t = tt
  stays_at e (Some text) None after line at t = absurd at
  stays_at e (Some text) (Some r) None line at t = absurd t
  stays_at e (Some text) (Some r) (Some s) line at t =
      λ h. is_last text r n stage at ∙ reached_stays calls_kind n stage r s line e t h

  -- at a line that is refused
  pub ends_refused : (after : Option (List ℕ)) (line : List ℕ) (e : Refusal) → TakesKnownLine now after Whole line
      → Refuses e (after_whole_line calls_kind n stage line) → IfSome old (λ text. Fails e (call_file_of text))
      → IfSome old (λ text. LiveEnds text a b (Err e))
  ends_refused after line e t refuses fails =
      refused (after_whole_line calls_kind n stage line) e old so_far (stays_at e old now after line living.known t)
      refuses fails

  over_long : (o w after : Option (List ℕ)) (line : List ℕ) → IsKnownAt o w n stage → TakesKnownLine w after Long line
      → IfSome o (λ text. stopped refusal.TooLong ≡ Err refusal.TooLong → last_stage text ≡ stage)
  over_long None w after line at t = tt
  over_long (Some text) None after line at t = absurd at
  over_long (Some text) (Some r) None line at t = absurd t
  over_long (Some text) (Some r) (Some s) line at t =
      λ h. is_last text r n stage at ∙ reached_long calls_kind n stage r s line t

  pub ends_too_long : (after : Option (List ℕ)) (line : List ℕ) → TakesKnownLine now after Long line
      → IfSome old (λ text. call_file_of text ≡ Err refusal.TooLong)
      → IfSome old (λ text. LiveEnds text a b (Err refusal.TooLong))
  ends_too_long after line t fails =
      refused (stopped refusal.TooLong) refusal.TooLong old so_far (over_long old now after line living.known t) refl
      fails

  over_cut : (e : Refusal) (o w after : Option (List ℕ)) (line : List ℕ) → IsKnownAt o w n stage
      → TakesKnownLine w after Cut line → IfSome o (λ text. stopped e ≡ Err e → last_stage text ≡ stage)
  over_cut e None w after line at t = tt
  over_cut e (Some text) None after line at t = absurd at
  over_cut e (Some text) (Some r) None line at t = absurd t
  over_cut e (Some text) (Some r) (Some s) line at t =
      λ h. is_last text r n stage at ∙ reached_cut calls_kind n stage r s line t

  over_end : (r : Result (File (Who × Call)) Refusal) (e : Refusal) (o w after : Option (List ℕ)) (line : List ℕ)
      → IsKnownAt o w n stage → TakesKnownLine w after End line → IfSome o (λ text. r ≡ Err e → last_stage text ≡ stage)
  over_end r e None w after line at t = tt
  over_end r e (Some text) None after line at t = absurd at
  over_end r e (Some text) (Some l) None line at t = absurd t
  over_end r e (Some text) (Some l) (Some s) line at t =
      λ h. is_last text l n stage at ∙ reached_end calls_kind n stage l s line t

  -- at an end that is refused
  pub ends_without_shape : (after : Option (List ℕ)) (line : List ℕ) (e : Refusal) → TakesKnownLine now after End line
      → Refuses e (at_end calls_kind n stage) → IfSome old (λ text. Fails e (call_file_of text))
      → IfSome old (λ text. LiveEnds text a b (Err e))
  ends_without_shape after line e t refuses fails =
      refused (at_end calls_kind n stage) e old so_far
      (over_end (at_end calls_kind n stage) e old now after line living.known t) refuses fails

  cut_refuses : (e : Refusal) → e ≡ after_cut n stage → Refuses e (stopped e)
  unfolding after_cut
  cut_refuses e is = by_stage stage is
    where
      by_full : (full : Bool) → e ≡ (if full then refusal.TooLong else refusal.BadLine n) → Refuses e (stopped e)
      by_full true is = rw is refl
      by_full false is = rw is refl

      by_stage : (stage : Calls) → e ≡ after_cut n stage → Refuses e (stopped e)
      by_stage begin is = rw is refl
      by_stage (opened v) is = rw is refl
      by_stage (head v c qs) is = rw is refl
      by_stage (body v s xs) is = by_full (nat_le (line_limit v) (length xs)) is
      by_stage (ended v s xs) is = rw is refl

  -- at a last line without its line feed
  pub ends_cut_short : (after : Option (List ℕ)) (line : List ℕ) (e : Refusal) → e ≡ after_cut n stage
      → TakesKnownLine now after Cut line → IfSome old (λ text. Fails e (call_file_of text))
      → IfSome old (λ text. LiveEnds text a b (Err e))
  ends_cut_short after line e is t fails =
      refused (stopped e) e old so_far (over_cut e old now after line living.known t) (cut_refuses e is) fails

  -- at a call without room
  first_full : (o w after : Option (List ℕ)) (line : List ℕ) (next : Calls) → IsKnownAt o w n stage
      → IsKnownAt o after (n + 1) next → left_out_by next ≡ 1 → IfSome o (λ text. LiveEnds text a b (Ok (Some n)))
  first_full None w after line next at then_at full = tt
  first_full (Some text) None after line next at then_at full = absurd at
  first_full (Some text) (Some r) None line next at then_at full = absurd then_at
  first_full (Some text) (Some r) (Some s) line next at then_at full =
      let m : ℕ = length at.lines in
      let number : n ≡ m + 1 = omega (arith, at.count) in
      let here : stage_after m text ≡ stage = is_after text r n stage at m number in
      let there : stage_after (m + 1) text ≡ next =
      is_after text s (n + 1) next then_at (m + 1) (omega (arith, number)) in (
        m,
        number,
        record { before = ap left_out_by here ∙ living.room; behind = ap left_out_by there ∙ full },
        subst (λ st. Appends a b (live_text st)) (sym here) living.written,
      )

  pub ends_full : (after : Option (List ℕ)) (line : List ℕ) (next : Calls) → TakesKnownLine now after Whole line
      → after_whole_line calls_kind n stage line ≡ Ok next → 1 ≤ left_out_by next
      → IfSome old (λ text. LiveEnds text a b (Ok (Some n)))
  ends_full after line next t h some =
      let wrote = line_wrote n stage next line living.begun h in
      first_full old now after line next living.known (known_next old now after line next living.known t h)
      (omega (arith, some, living.room, wrote.left_out))

  -- where the output fails at what a line made
  front_of : (o w after : Option (List ℕ)) (line : List ℕ) (next : Calls) (c : Option (List ℕ))
      → IsKnownAt o after (n + 1) next → AppendsFront a c (live_text next)
      → IfSome o (λ text. LiveEnds text a c (Err refusal.WriteFault))
  front_of None w after line next c at front = tt
  front_of (Some text) w None line next c at front = absurd at
  front_of (Some text) w (Some s) line next c at front =
      let m : ℕ = length at.lines in
      inl (
        m,
        subst (λ st. AppendsFront a c (live_text st))
            (sym (is_after text s (n + 1) next at m (omega (arith, at.count)))) front,
      )

  pub ends_written_in_part : (after : Option (List ℕ)) (line : List ℕ) (next : Calls) (c : Option (List ℕ))
      → TakesKnownLine now after Whole line → after_whole_line calls_kind n stage line ≡ Ok next
      → AppendsFront b c (new_of next)
      → IfSome old (λ text. LiveEnds text a c (Err refusal.WriteFault))
  ends_written_in_part after line next c t h front =
      let wrote = line_wrote n stage next line living.begun h in
      front_of old now after line next c (known_next old now after line next living.known t h)
      (subst (AppendsFront a c) (sym wrote.text)
      (front_after a b c (live_text stage) (new_of next) living.written front))

-- ---- the end of a file

last_of : (s : Layout) (calls : List (Who × Call)) (v : ℕ) → last_text v (length (live_steps s calls).steps.past)
    ≡ last_text v (length (reverse (steps s s.room calls).past))
last_of s calls v =
    ap (last_text v) (ap (λ (t : Steps). length t.past) (lived_steps s calls)
    ∙ sym (length-reverse (steps s s.room calls).past))

-- what stands after what has been written
record Finishes (stage : Calls) (f : File (Who × Call)) : Type 0 where
  text : live_text stage ++ rest_text (written_version f.version) f.layout f.items ≡ answer_text f
  left_out : (steps_in f).left_out ≡ left_out_by stage

some_calls : (n : ℕ) (b : Bool) → (n == 0) ≡ b → 1 ≤ n → b ≡ false
some_calls n true is some = absurd (grind (arith, nat_tests))
some_calls n false is some = refl

body_finishes : (v : ℕ) (s : Layout) (calls : List (Who × Call)) → 1 ≤ length calls
    → Finishes (body v s calls) (record { version = v; layout = s; items = calls })
body_finishes v s calls some =
    let w : ℕ = written_version v in
    let none : (if length calls == 0 then head_text w s else []) ≡ [] =
    ap (λ b. if b then head_text w s else []) (some_calls (length calls) (length calls == 0) refl some) in
    record {
      text = ap (λ t. live_text (body v s calls) ++ (t ++ last_text w (length (live_steps s calls).steps.past))) none
          ∙ ap (λ t. live_text (body v s calls) ++ t) (last_of s calls w);
      left_out = refl;
    }

head_finishes : (v : ℕ) (c : Counts) (qs : List QueueShape)
    → Finishes (head v c qs) (record { version = v; layout = layout_of c qs; items = [] })
head_finishes v c qs =
    let w : ℕ = written_version v in
    let s : Layout = layout_of c qs in
    record { text = ap (λ t. t ++ last_text w 0) (sym (append-nil (head_text w s))); left_out = refl }

without_finishes : (n v : ℕ) (c : Counts) (qs : List QueueShape) (b : Bool) (f : File (Who × Call))
    → without_items calls_kind n v (if b then Some (layout_of c qs) else None) ≡ Ok f → Finishes (head v c qs) f
without_finishes n v c qs true f h =
    let is : record { version = v; layout = layout_of c qs; items = [] } ≡ f = cc in
    subst (Finishes (head v c qs)) is (head_finishes v c qs)
without_finishes n v c qs false f h = cc

finishes : (n : ℕ) (stage : Calls) (f : File (Who × Call)) → IsBegun stage → at_end calls_kind n stage ≡ Ok f
    → Finishes stage f
unfolding at_end
finishes n begin f begun h = cc
finishes n (opened v) f begun h = cc
finishes n (head v c qs) f begun h = without_finishes n v c qs (is_layout (layout_of c qs)) f h
finishes n (body v s calls) f begun h =
    let is : record { version = v; layout = s; items = calls } ≡ f = cc in
    subst (Finishes (body v s calls)) is (body_finishes v s calls begun)
finishes n (ended v s calls) f begun h = absurd begun

module _ (old now : Option (List ℕ)) (n : ℕ) (stage : Calls) (a b : Option (List ℕ))
    (living : Living old now n stage a b) where
  step_ends : (o c : Option (List ℕ)) (f : File (Who × Call)) → IfSome o (λ text. call_file_of text ≡ Ok f)
      → (steps_in f).left_out ≡ 0 → Appends a c (answer_text f) → IfSome o (λ text. LiveEnds text a c (Ok None))
  step_ends None c f read none all = tt
  step_ends (Some text) c f read none all = (f, read, none, all)

  pub ends_whole : (f : File (Who × Call)) (c : Option (List ℕ)) → at_end calls_kind n stage ≡ Ok f
      → IfSome old (λ text. call_file_of text ≡ Ok f)
      → Appends b c (rest_text (written_version f.version) f.layout f.items)
      → IfSome old (λ text. LiveEnds text a c (Ok None))
  ends_whole f c h read rest =
      let all = finishes n stage f living.begun h in
      step_ends old c f read (all.left_out ∙ living.room)
      (subst (Appends a c) all.text
      (Appends-trans a b c (live_text stage) (rest_text (written_version f.version) f.layout f.items) living.written
      rest))

  step_cut : (o c : Option (List ℕ)) (f : File (Who × Call)) → IfSome o (λ text. call_file_of text ≡ Ok f)
      → (steps_in f).left_out ≡ 0 → AppendsFront a c (answer_text f)
      → IfSome o (λ text. LiveEnds text a c (Err refusal.WriteFault))
  step_cut None c f read none front = tt
  step_cut (Some text) c f read none front = inr (f, 0, read, none, front)

  pub ends_whole_in_part : (f : File (Who × Call)) (c : Option (List ℕ)) → at_end calls_kind n stage ≡ Ok f
      → IfSome old (λ text. call_file_of text ≡ Ok f)
      → AppendsFront b c (rest_text (written_version f.version) f.layout f.items)
      → IfSome old (λ text. LiveEnds text a c (Err refusal.WriteFault))
  ends_whole_in_part f c h read front =
      let all = finishes n stage f living.begun h in
      step_cut old c f read (all.left_out ∙ living.room)
      (subst (AppendsFront a c) all.text
      (front_after a b c (live_text stage) (rest_text (written_version f.version) f.layout f.items) living.written
      front))
