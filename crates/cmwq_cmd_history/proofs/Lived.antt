-- One call more of a live run.
use Rattle.cmwq_cmd_history.specs.Common.{◌≡◌, ◌+◌, ℕ, true, false, List, [], ◌∷◌, ◌++◌, Option, Some, None, refl, sym}
use Rattle.cmwq_cmd_history.specs.Common.{ap, ◌∙◌, arith, length-append, append-nil, Bool, fold, reverse, same_Some}
use Rattle.cmwq_cmd_history.specs.Common.{reverse-append, fold-append, Who, Call, Entry, Layout, entry_for, Steps, none}
use Rattle.cmwq_cmd_history.specs.Common.{step, steps, has_room, entry_text, entries_text, History, past_in, takes}
use Rattle.cmwq_cmd_history.specs.Common.{next_entry, with_entry}
use Rattle.std.proofs.lemmas.Grind.{flat_map-append}
use Rattle.cmwq_cmd_history.specs.Live.{Lived, entry_made_by, made_text, lived_step, live_steps, Stepped, IsStepping}
use Rattle.cmwq_cmd_history.specs.Live.{AreRecorded}
use Rattle.cmwq_cmd_history.proofs.Steps.{step_taken, step_refused}

lived_more : (s : Layout) (calls : List (Who × Call)) (c : Who × Call)
    → live_steps s (calls ++ c ∷ []) ≡ lived_step s s.room (live_steps s calls) c
lived_more s calls c = fold-append (lived_step s s.room) (record { steps = none; made = None }) calls (c ∷ [])

module _ (s : Layout) (room : ℕ) (h : History) (layout_is : h.layout ≡ s) (room_is : h.room ≡ room) where
  made_taken : (t : Steps) (c : Who × Call) → past_in h ≡ t.past → takes h c.0 c.1 ≡ true
      → entry_made_by s room t c ≡ Some (next_entry h c.0 c.1)
  made_taken t c same taken = rw (sym layout_is) (rw (sym room_is) (rw (sym same) (rw taken refl)))

  made_refused : (t : Steps) (c : Who × Call) → past_in h ≡ t.past → takes h c.0 c.1 ≡ false
      → entry_made_by s room t c ≡ None
  made_refused t c same refused = rw (sym layout_is) (rw (sym room_is) (rw (sym same) (rw refused refl)))

pub stepped : (s : Layout) (calls : List (Who × Call)) (h : History) (n : ℕ) (last : Option Entry) (c : Who × Call)
    → IsStepping s calls h n last → takes h c.0 c.1 ≡ true
    → IsStepping s (calls ++ c ∷ []) (with_entry h (next_entry h c.0 c.1)) n (Some (next_entry h c.0 c.1))
stepped s calls h n last c is taken =
    let more = lived_more s calls c in
    let t : Steps = (live_steps s calls).steps in
    let step = step_taken s s.room h is.layout is.room t c is.past taken in
    let size = length-append calls (c ∷ []) in
    record {
      layout = is.layout;
      room = is.room;
      past = reverse-append h.entries (next_entry h c.0 c.1 ∷ [])
          ∙ sym (ap (λ (l : Lived). l.steps.past) more ∙ ap (λ (t : Steps). t.past) step);
      left_out = is.left_out ∙ sym (ap (λ (l : Lived). l.steps.left_out) more ∙ ap (λ (t : Steps). t.left_out) step);
      made = sym (ap (λ (l : Lived). l.made) more ∙ made_taken s s.room h is.layout is.room t c is.past taken);
      few = omega (arith, size, is.few);
    }

pub left : (s : Layout) (calls : List (Who × Call)) (h : History) (n : ℕ) (last : Option Entry) (c : Who × Call)
    → IsStepping s calls h n last → takes h c.0 c.1 ≡ false
    → IsStepping s (calls ++ c ∷ []) h (n + 1) None
left s calls h n last c is refused =
    let more = lived_more s calls c in
    let t : Steps = (live_steps s calls).steps in
    let step = step_refused s s.room h is.layout is.room t c is.past refused in
    let size = length-append calls (c ∷ []) in
    record {
      layout = is.layout;
      room = is.room;
      past = is.past ∙ sym (ap (λ (l : Lived). l.steps.past) more ∙ ap (λ (t : Steps). t.past) step ∙ is.past);
      left_out =
          ap (λ m. m + 1) is.left_out
          ∙ sym (ap (λ (l : Lived). l.steps.left_out) more ∙ ap (λ (t : Steps). t.left_out) step);
      made = sym (ap (λ (l : Lived). l.made) more ∙ made_refused s s.room h is.layout is.room t c is.past refused);
      few = omega (arith, size, is.few);
    }

-- ---- the entries that are kept

made_past : (s : Layout) (room : ℕ) (t : Steps) (c : Who × Call) (e : Entry) (b : Bool)
    → has_room s room t.past c.0 c.1 ≡ b → Some e ≡ entry_made_by s room t c → (step s room t c).past ≡ e ∷ t.past
made_past s room t c e true h is =
    let made : entry_made_by s room t c ≡ Some (entry_for s t.past c.0 c.1) = rw h refl in
    let same = same_Some e (entry_for s t.past c.0 c.1) (is ∙ made) in
    rw h (ap (λ e. e ∷ t.past) (sym same))
made_past s room t c e false h is =
    let made : entry_made_by s room t c ≡ None = rw h refl in
    let none : Some e ≡ None = is ∙ made in
    cc

left_past : (s : Layout) (room : ℕ) (t : Steps) (c : Who × Call) (b : Bool) → has_room s room t.past c.0 c.1 ≡ b
    → None ≡ entry_made_by s room t c → (step s room t c).past ≡ t.past
left_past s room t c true h is =
    let made : entry_made_by s room t c ≡ Some (entry_for s t.past c.0 c.1) = rw h refl in
    let none : None ≡ Some (entry_for s t.past c.0 c.1) = is ∙ made in
    cc
left_past s room t c false h is = rw h refl

module _ (s : Layout) (calls : List (Who × Call)) (c : Who × Call) where
  steps_more : (live_steps s (calls ++ c ∷ [])).steps ≡ step s s.room (live_steps s calls).steps c
  steps_more = ap (λ (l : Lived). l.steps) (lived_more s calls c)

  made_more_is : (live_steps s (calls ++ c ∷ [])).made ≡ entry_made_by s s.room (live_steps s calls).steps c
  made_more_is = ap (λ (l : Lived). l.made) (lived_more s calls c)

  past_made : (e : Entry) → Some e ≡ (live_steps s (calls ++ c ∷ [])).made → (live_steps s (calls ++ c ∷ [])).steps.past
      ≡ e ∷ (live_steps s calls).steps.past
  past_made e is = ap (λ (t : Steps). t.past) steps_more
      ∙ made_past s s.room (live_steps s calls).steps c e (has_room s s.room (live_steps s calls).steps.past c.0 c.1)
      refl (is ∙ made_more_is)

  past_left : None ≡ (live_steps s (calls ++ c ∷ [])).made → (live_steps s (calls ++ c ∷ [])).steps.past
      ≡ (live_steps s calls).steps.past
  past_left is = ap (λ (t : Steps). t.past) steps_more
      ∙ left_past s s.room (live_steps s calls).steps c (has_room s s.room (live_steps s calls).steps.past c.0 c.1) refl
      (is ∙ made_more_is)

module _ (t u : Stepped) (entries : List Entry) (c : Who × Call) (recorded : AreRecorded t entries)
    (layout : u.layout ≡ t.layout) (calls : u.calls ≡ t.calls ++ c ∷ []) where
  grown : u ≡ record { layout = t.layout; calls = t.calls ++ c ∷ [] }
  grown = ap (λ s. record { layout = s; calls = u.calls }) layout
      ∙ ap (λ cs. record { layout = t.layout; calls = cs }) calls

  pub recorded_made : (e : Entry) → Some e ≡ (live_steps u.layout u.calls).made → AreRecorded u (entries ++ e ∷ [])
  recorded_made e is =
      let made = is ∙ ap (λ (v : Stepped). (live_steps v.layout v.calls).made) grown in
      let past = past_made t.layout t.calls c e made in
      record {
        past = reverse-append entries (e ∷ []) ∙ ap (λ p. e ∷ p) recorded.past
            ∙ sym (ap (λ (v : Stepped). (live_steps v.layout v.calls).steps.past) grown ∙ past);
      }

  pub recorded_left : None ≡ (live_steps u.layout u.calls).made → AreRecorded u entries
  recorded_left is =
      let made = is ∙ ap (λ (v : Stepped). (live_steps v.layout v.calls).made) grown in
      let past = past_left t.layout t.calls c made in
      record {
        past =
            recorded.past ∙ sym (ap (λ (v : Stepped). (live_steps v.layout v.calls).steps.past) grown ∙ past);
      }

-- ---- the text of one call more

-- the steps are those of the calls
lived_from : (s : Layout) (room : ℕ) (l : Lived) (calls : List (Who × Call)) → (fold (lived_step s room) l calls).steps
    ≡ fold (step s room) l.steps calls
lived_from s room l [] = refl
lived_from s room l (c ∷ calls) = lived_from s room (lived_step s room l c) calls

pub lived_steps : (s : Layout) (calls : List (Who × Call)) → (live_steps s calls).steps ≡ steps s s.room calls
lived_steps s calls = lived_from s s.room (record { steps = none; made = None }) calls

one_text : (past : List Entry) (e : Entry) → entries_text (reverse (e ∷ past)) ≡ entries_text (reverse past)
    ++ entry_text e
one_text past e =
    ap entries_text (reverse-append (e ∷ []) past) ∙ flat_map-append entry_text (reverse past) (e ∷ [])
    ∙ ap (λ t. entries_text (reverse past) ++ t) (append-nil (entry_text e))

made_more : (s : Layout) (room : ℕ) (t : Steps) (c : Who × Call) (b : Bool) → has_room s room t.past c.0 c.1 ≡ b
    → entries_text (reverse (step s room t c).past) ≡ entries_text (reverse t.past)
    ++ made_text (entry_made_by s room t c)
made_more s room t c true h = rw h (one_text t.past (entry_for s t.past c.0 c.1))
made_more s room t c false h = rw h (sym (append-nil (entries_text (reverse t.past))))

-- the text of the entries so far grows by what the call made
pub lived_text : (s : Layout) (calls : List (Who × Call)) (c : Who × Call)
    → entries_text (reverse (live_steps s (calls ++ c ∷ [])).steps.past)
    ≡ entries_text (reverse (live_steps s calls).steps.past) ++ made_text (live_steps s (calls ++ c ∷ [])).made
lived_text s calls c =
    let more = lived_more s calls c in
    let t : Steps = (live_steps s calls).steps in
    ap (λ (l : Lived). entries_text (reverse l.steps.past)) more
    ∙ made_more s s.room t c (has_room s s.room t.past c.0 c.1) refl
    ∙ sym (ap (λ (l : Lived). entries_text (reverse t.past) ++ made_text l.made) more)
