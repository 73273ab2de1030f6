-- What is known of the next entry of a legal history: all entries before it, and what is told of it.
use Rattle.std.specs.Prelude.{◌≡◌, ◌∷◌, true, List, drop}
use Rattle.cmwq_model.specs.declared.entry.Entry.{Entry}
use Rattle.cmwq_model.specs.Prelude.{Layout, is_layout, past_of, has_room, most_room}
use Rattle.cmwq_core.specs.Judged.{Judged}

pub record Stepped (T : Type 0) : Type 0 where
  pub layout : Layout
  pub past : List Entry
  pub entry : Entry
  pub told : T

abbrev pub after : {T : Type 0} → Stepped T → List Entry
after s = s.entry ∷ s.past

-- it is the next entry of a legal history in a layout inside the limits, whose entries and ticks are few
pub record IsNext {T : Type 0} (tells : Layout → List Entry → Entry → T → Type 0) (s : Stepped T) : Type 0 where
  pub inside : is_layout s.layout ≡ true
  pub told_is : tells s.layout s.past s.entry s.told
  pub few : has_room s.layout most_room s.past s.entry.who s.entry.call ≡ true

-- of a judge that has taken the entry
abbrev pub step_of : {T : Type 0} → Judged → Entry → T → Stepped T
step_of j e t = record { layout = j.layout; past = drop 1 (past_of j.entries); entry = e; told = t }

pub record IsStep {T : Type 0} (tells : Layout → List Entry → Entry → T → Type 0) (j : Judged) (e : Entry) (t : T)
    : Type 0 where
  pub seen : past_of j.entries ≡ e ∷ drop 1 (past_of j.entries)
  pub next : IsNext tells (step_of j e t)
