-- One more call in a history that a play keeps, and what its maker has seen then.
use Rattle.std.proofs.Common.{◌≡◌, ◌∙◌, ◌≤◌, ◌&&◌, ◌++◌, ◌∷◌, Bool, true, false, List, [], Some, None, length}
use Rattle.std.proofs.Common.{refl, sym, ap, subst, arith, length-append, if◌then◌else◌}
use Rattle.std.proofs.lemmas.Bool.{and_parts, leb-true}
use mathlib.Core.List.{IsPrefix}
use Rattle.cmwq_model.specs.Prelude.{Layout, fits, has_room, has_time, past_of, room_needed}
use Rattle.cmwq_model.specs.Prelude.{serial_of}
unfoldable use Rattle.cmwq_model.specs.Prelude.{IsLegal}
use Rattle.cmwq_model.specs.declared.call.Call.{Call}
use Rattle.cmwq_model.specs.declared.entry.Entry.{Entry}
use Rattle.cmwq_model.specs.declared.id.Who.{Who}
use Rattle.cmwq_model.proofs.Growing.{one_more_is_newest}
use Rattle.cmwq_core.specs.History.{History, next_entry, past_in, takes, with_entry}
use Rattle.cmwq_monitor.specs.Calls.{Extends, own_entry}
use Rattle.cmwq_monitor.specs.Faults.{Refused}
use Rattle.cmwq_monitor.specs.Participants.{View}
use Rattle.cmwq_monitor.specs.Steps.{InStep}
use Rattle.cmwq_monitor.specs.declared.fault.RunFault.TheVariants.{Full}
use Rattle.cmwq_monitor.proofs.Beginnings.{prefix_of_prefix, prefix_self, prefix_trans}
use Rattle.cmwq_monitor.proofs.Entering.{extends, gains_seen, serial_after, view_after}
use Rattle.cmwq_play.specs.Machines.{is_made}
unfoldable use Rattle.cmwq_play.specs.Machines.{replied, stepped}

-- of this shape and with its room, legal, and within the room
pub record IsKept (s : Layout) (h : History) : Type 0 where
  pub layout : h.layout ≡ s
  pub room : h.room ≡ s.room
  pub legal : IsLegal s (past_in h)
  pub within : room_needed s (past_in h) ≤ s.room

-- it counts as many entries as it has seen of its own, and has seen all of them
pub record IsUpToDate (log : List Entry) (v : View) : Type 0 where
  pub counts : serial_of (past_of v.seen) v.who ≡ v.serial
  pub book : serial_of (past_of log) v.who ≡ v.serial
  pub older : IsPrefix v.seen log

pub prefix_long : (xs ys : List Entry) → IsPrefix xs ys → length xs ≤ length ys
prefix_long xs ys p = let a = length-append xs p.0 in let b = ap length p.1 in omega arith

pub in_step : (log : List Entry) (v : View) → IsUpToDate log v → InStep log v
in_step log v up = (up.book, prefix_long v.seen log up.older)

pub own_counted : (log : List Entry) (v : View) → IsUpToDate log v → v.serial ≤ serial_of (past_of v.seen) v.who
own_counted log v up = let counts = up.counts in omega arith

-- ---- calls that are made

pub made_steps : (h : History) (who : Who) (c : Call) → is_made h who c ≡ true
    → stepped h who c ≡ with_entry h (next_entry h who c)
unfolding stepped
made_steps h who c made = ap (λ b. if b then with_entry h (next_entry h who c) else h) made

pub unmade_stays : (h : History) (who : Who) (c : Call) → is_made h who c ≡ false → stepped h who c ≡ h
unfolding stepped
unmade_stays h who c not = ap (λ b. if b then with_entry h (next_entry h who c) else h) not

pub made_replies : (h : History) (who : Who) (c : Call) → is_made h who c ≡ true
    → replied h who c ≡ Some (next_entry h who c).reply
unfolding replied
made_replies h who c made = ap (λ b. if b then Some (next_entry h who c).reply else None) made

pub unmade_replies : (h : History) (who : Who) (c : Call) → is_made h who c ≡ false → replied h who c ≡ None
unfolding replied
unmade_replies h who c not = ap (λ b. if b then Some (next_entry h who c).reply else None) not

-- the history with its entry is kept too
kept_own : (h : History) (who : Who) (c : Call) → IsKept h.layout h → is_made h who c ≡ true
    → IsKept h.layout (with_entry h (next_entry h who c))
unfolding IsLegal
kept_own h who c kept made =
    let e = next_entry h who c in
    let parts = and_parts (fits h.layout who c) (takes h who c) made in
    let room = and_parts (has_time (past_in h) c) _ parts.1 in
    let same_room = kept.room in
    let less : room_needed h.layout (e ∷ past_in h) ≤ h.room = leb-true _ h.room room.1 in
    let fewer : room_needed h.layout (e ∷ past_in h) ≤ h.layout.room =
    subst (λ n. room_needed h.layout (e ∷ past_in h) ≤ n) same_room less in
    record {
      layout = refl;
      room = kept.room;
      legal =
          subst (IsLegal h.layout) (sym (one_more_is_newest h.entries e)) (parts.0, refl, kept.legal);
      within = subst (λ past. room_needed h.layout past ≤ h.layout.room) (sym (one_more_is_newest h.entries e)) fewer;
    }

kept_made : (h : History) (who : Who) (c : Call) → IsKept h.layout h → IsKept h.layout (stepped h who c)
kept_made h who c kept = at (is_made h who c) refl
  where
    at : (b : Bool) → is_made h who c ≡ b → IsKept h.layout (stepped h who c)
    at true made = subst (IsKept h.layout) (sym (made_steps h who c made)) (kept_own h who c kept made)
    at false not = subst (IsKept h.layout) (sym (unmade_stays h who c not)) kept

pub kept_after : (s : Layout) (h : History) (who : Who) (c : Call) → IsKept s h → IsKept s (stepped h who c)
kept_after s h who c kept =
    subst (λ (l : Layout). IsKept l h → IsKept l (stepped h who c)) kept.layout (kept_made h who c) kept

-- the entry, and what its maker has seen with it
pub record Makes (s : Layout) (h : History) (v : View) (c : Call) (g : History) : Type 0 where
  pub is : g.entries ≡ h.entries ++ own_entry s h.entries v c ∷ []
  pub extends : Extends s v c (own_entry s h.entries v c).reply (view_after s h.entries v c)
  pub up : IsUpToDate g.entries (view_after s h.entries v c)
  pub replies : replied h v.who c ≡ Some (own_entry s h.entries v c).reply

makes_own : (h : History) (v : View) (c : Call) → IsKept h.layout h → IsUpToDate h.entries v
    → is_made h v.who c ≡ true → Makes h.layout h v c (stepped h v.who c)
makes_own h v c kept up made =
    let e = own_entry h.layout h.entries v c in
    let fit = (and_parts (fits h.layout v.who c) (takes h v.who c) made).0 in
    let longer = prefix_of_prefix h.entries (e ∷ []) in
    let older = prefix_trans v.seen h.entries (h.entries ++ e ∷ []) up.older longer in
    subst (λ (g : History). Makes h.layout h v c g) (sym (made_steps h v.who c made)) record {
      is = refl;
      extends = extends h.layout v h.entries c (own_counted h.entries v up)
          (in_step h.entries v up) older fit kept.legal;
      up = record {
        counts = serial_after h.layout h.entries v c up.book;
        book = serial_after h.layout h.entries v c up.book;
        older = prefix_self (h.entries ++ e ∷ []);
      };
      replies = made_replies h v.who c made;
    }

pub makes : (s : Layout) (h : History) (v : View) (c : Call) → IsKept s h → IsUpToDate h.entries v
    → is_made h v.who c ≡ true → Makes s h v c (stepped h v.who c)
makes s h v c kept up made =
    subst (λ (l : Layout). IsKept l h → Makes l h v c (stepped h v.who c)) kept.layout
    (λ k. makes_own h v c k up made) kept

-- ---- calls that have no room

-- the same who has seen all that there is
abbrev pub having_seen : List Entry → View → View
having_seen log v = record v { seen = log }

refused_own : (h : History) (v : View) (c : Call) → IsKept h.layout h → IsUpToDate h.entries v
    → fits h.layout v.who c ≡ true → is_made h v.who c ≡ false
    → Refused h.layout v c Full (having_seen h.entries v)
refused_own h v c kept up fit not =
    let full : takes h v.who c ≡ false = sym (ap (λ b. b && takes h v.who c) fit) ∙ not in (
      gains_seen v h.entries (own_counted h.entries v up) (in_step h.entries v up) up.older,
      sym (ap (λ n. has_room h.layout n (past_in h) v.who c) kept.room) ∙ full,
    )

pub refused : (s : Layout) (h : History) (v : View) (c : Call) → IsKept s h → IsUpToDate h.entries v
    → fits s v.who c ≡ true → is_made h v.who c ≡ false → Refused s v c Full (having_seen h.entries v)
refused s h v c kept up fit not =
    subst (λ (l : Layout). IsKept l h → fits l v.who c ≡ true → Refused l v c Full (having_seen h.entries v))
    kept.layout (λ k f. refused_own h v c k up f not) kept fit

pub seen_up : (log : List Entry) (v : View) → IsUpToDate log v → IsUpToDate log (having_seen log v)
seen_up log v up = record { counts = up.book; book = up.book; older = prefix_self log }

-- ---- others' calls

-- what is known of one who makes none of the entries between
pub up_later : (old new : List Entry) (v : View) → IsPrefix old new
    → serial_of (past_of new) v.who ≡ serial_of (past_of old) v.who → IsUpToDate old v → IsUpToDate new v
up_later old new v longer same up = record {
  counts = up.counts;
  book = same ∙ up.book;
  older = prefix_trans v.seen old new up.older longer;
}
