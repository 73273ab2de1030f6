-- What `step` and `upgrade` write is read again, and is legal: so `check` finds nothing wrong in it.
use Rattle.cmwq_output_laws.specs.Common.{◌≡◌, ◌⊎◌, inl, inr, ◌≤◌, ◌==◌, Bool, true, false, ℕ, List, Result, Ok, Err}
use Rattle.cmwq_output_laws.specs.Common.{None, Some, length, refl, sym, ◌∙◌, subst, arith, get_or, reverse, IsTrue}
use Rattle.cmwq_output_laws.specs.Common.{All, AllByRecursion, eqb-true, le-leb, reverse-reverse, length-reverse}
use Rattle.cmwq_output_laws.specs.Common.{All-from_recursion, recursion_from_All, Who, Call, Entry, Illegal, Layout}
use Rattle.cmwq_output_laws.specs.Common.{most_queues, most_room, fits, IsWho, IsCall, greatest, IsLegal, past_of, now}
use Rattle.cmwq_output_laws.specs.Common.{most_time, Refusal, File, calls_kind, history_file_of, greatest_number}
use Rattle.cmwq_output_laws.specs.Common.{of_version, old_lines, old_queues, old_room, counts_in, most_lines}
use Rattle.cmwq_output_laws.specs.Common.{line_limit, queue_limit, room_limit, number_limit, allows_queue, allows_entry}
use Rattle.cmwq_output_laws.specs.Common.{text_of_format, IsVerdict, written_version, steps_in, answer_text}
use Rattle.std.proofs.lemmas.Bool.Decides.{nat_tests}
use Rattle.cmwq_model.specs.declared.shape.QueueShape.{QueueShape}
use Rattle.cmwq_theory_laws.proofs.FirstWrong.{wrong_are_illegal}
use Rattle.cmwq_theory_laws.proofs.InRange.{legal_histories_fit}
use Rattle.cmwq_theory_laws.proofs.WithinRoom.{steps_within_room}
use Rattle.cmwq_theory_laws.proofs.OneEntry.{steps_are_legal}
use Rattle.cmwq_base.specs.declared.refusal.Refusal.TheVariants as refusal
use Rattle.cmwq_base.specs.FileLaws.{IsOfFormat}
use Rattle.cmwq_text.proofs.ReadRanges.{wide_entry, allowed_short}
use Rattle.cmwq_base.proofs.Limits.{oldest_has, older_has, newest_has, none_falls}
use Rattle.cmwq_base.proofs.Again.{histories_read_again, new_allows}
use Rattle.cmwq_base.proofs.Spelled.{histories_are_of_their_format}
use Rattle.cmwq_base.proofs.Sound.{IsReadOf, calls_are_read, history_is_read, IsCallInside, one_or_three}
use Rattle.cmwq_output_laws.specs.Checks.{history_in, IsLegalText, LegalHistoriesAreChecked, StepIsChecked}
use Rattle.cmwq_output_laws.specs.Checks.{UpgradeIsChecked, PassesCheck, StepsPassCheck, UpgradesPassCheck}
use Rattle.cmwq_model.proofs.Limits.{limits_of}
use Rattle.cmwq_output_laws.proofs.Shapes.{newest_allows, later_allows}
use Rattle.cmwq_output_laws.proofs.Stepped.{steps_are_few, steps_are_of, all_reversed}
use Rattle.cmwq_output_laws.proofs.Timely.{legal_histories_are_timely}

-- ---- format 3

pub legal_histories_are_checked : LegalHistoriesAreChecked
legal_histories_are_checked s entries shape legal few soon all =
    let out : File Entry = record { version = 3; layout = s; items = entries } in
    let inside = legal_histories_fit s greatest_number entries shape legal (omega (arith, few)) soon all in
    let of_format : IsOfFormat out = (λ i d lt. refl, legal_histories_are_timely s entries legal soon) in
    let room : s.room ≤ room_limit 3 =
    subst (λ n. s.room ≤ n) (sym (newest_has old_room most_room 3 (omega arith))) (limits_of s shape).room in
    let queues : length s.queues ≤ queue_limit 3 =
    subst (λ n. length s.queues ≤ n) (sym (newest_has old_queues most_queues 3 (omega arith)))
    (limits_of s shape).queues.1 in
    let within : length entries ≤ line_limit 3 =
    subst (λ n. length entries ≤ n) (sym (newest_has old_lines most_lines 3 (omega arith))) few in (
      histories_read_again out (omega arith) (omega arith) of_format shape
          (record {
            room = room;
            numbers = newest_allows 3 (counts_in s) (omega arith);
            queues = queues;
            few = within;
            fitting = inside.0;
          }) inside.1,
      legal,
    )

-- ---- steps

abbrev Fits : Layout → Who × Call → Type 0
Fits s c = IsTrue (fits s c.0 c.1)

abbrev IsInRange : ℕ → Entry → Type 0
IsInRange v e = IsWho e.who × (IsCall (number_limit v)) e.call

module _ (f : File (Who × Call)) (read : IsReadOf calls_kind IsCallInside f) where
  abbrev made : List Entry
  made = reverse (steps_in f).past

  abbrev AreChecked : ℕ → Type 0
  AreChecked v = IsLegalText (text_of_format v f.layout made) (record { version = v; layout = f.layout; items = made })

  made_legal : IsLegal f.layout (past_of made)
  made_legal =
      subst (IsLegal f.layout) (sym (reverse-reverse (steps_in f).past))
      (steps_are_legal f.layout f.layout.room f.items (recursion_from_All (Fits f.layout) f.items read.sound.fitting))

  made_few : length made ≤ length f.items
  made_few = omega (arith, length-reverse (steps_in f).past, steps_are_few f.layout f.layout.room f.items)

  made_soon : now (past_of made) ≤ most_time
  made_soon = rw (reverse-reverse (steps_in f).past) (steps_within_room f.layout f.layout.room f.items).1

  made_in_range : All (IsInRange f.version) made
  made_in_range =
      let past : List Entry = (steps_in f).past in
      let each : AllByRecursion (IsInRange f.version) past =
      steps_are_of f.layout f.layout.room (IsCallInside f.version) f.items
      (recursion_from_All (IsCallInside f.version) f.items read.each) in
      all_reversed (IsInRange f.version) past (All-from_recursion (IsInRange f.version) past each)

  old_steps_checked : f.version ≡ 1 → AreChecked 2
  old_steps_checked is =
      let most : line_limit f.version ≡ old_lines = oldest_has old_lines most_lines f.version is in
      let room : f.layout.room ≤ room_limit 2 =
      subst (λ n. f.layout.room ≤ n)
      (oldest_has old_room most_room f.version is ∙ sym (older_has old_room most_room 2 (omega arith)))
      read.sound.room in
      let numbers = later_allows f.version 2 (counts_in f.layout) (omega (arith, is)) read.sound.numbers in
      let more : of_version old_queues most_queues f.version ≤ of_version old_queues most_queues 2 =
      none_falls old_queues most_queues f.version 2 (omega arith) (omega (arith, is)) in
      let queues : length f.layout.queues ≤ queue_limit 2 = omega (arith, more, read.sound.queues) in
      let few : length made ≤ old_lines = omega (arith, made_few, read.sound.few, most) in
      let within : length made ≤ line_limit 2 =
      subst (λ n. length made ≤ n) (sym (older_has old_lines most_lines 2 (omega arith))) few in
      let ranges : All (λ e. IsWho e.who × (IsCall greatest) e.call) made =
      subst (λ n. All (λ e. IsWho e.who × (IsCall n) e.call) made)
      (oldest_has greatest greatest_number f.version is) made_in_range in
      let inside =
      legal_histories_fit f.layout greatest made read.shape made_legal (omega (arith, few)) made_soon ranges in
      let out : File Entry = record { version = 2; layout = f.layout; items = made } in
      let of_format : IsOfFormat out = (λ i d lt. refl, λ i d lt. new_allows (get_or made i d) (inside.1 i d lt)) in (
        histories_read_again out (omega arith) (omega arith) of_format read.shape
            (record { room = room; numbers = numbers; queues = queues; few = within; fitting = inside.0 })
            (λ i d lt. wide_entry (get_or made i d) (inside.1 i d lt)),
        made_legal,
      )

  new_steps_checked : f.version ≡ 3 → AreChecked 3
  new_steps_checked is =
      let most : line_limit f.version ≡ most_lines = newest_has old_lines most_lines f.version (omega (arith, is)) in
      let ranges : All (λ e. IsWho e.who × (IsCall greatest_number) e.call) made =
      subst (λ n. All (λ e. IsWho e.who × (IsCall n) e.call) made)
      (newest_has greatest greatest_number f.version (omega (arith, is))) made_in_range in
      legal_histories_are_checked f.layout made read.shape made_legal (omega (arith, made_few, read.sound.few, most))
      made_soon ranges

  steps_checked : (f.version ≡ 1) ⊎ (f.version ≡ 3) → AreChecked (written_version f.version)
  steps_checked (inl is) = let same : 2 ≡ written_version f.version = omega (arith, is) in
      subst AreChecked same (old_steps_checked is)
  steps_checked (inr is) = let same : 3 ≡ written_version f.version = omega (arith, is) in
      subst AreChecked same (new_steps_checked is)

pub step_is_checked : StepIsChecked
step_is_checked text f h = let read = calls_are_read text f h in
    steps_checked f read (one_or_three f.version read.version)

-- what a format has, that one has too in which it is written
upgraded_queues : (v : ℕ) (qs : List QueueShape) → All (λ q. IsTrue (allows_queue (written_version v) q)) qs
upgraded_queues v qs i d lt = rw (le-leb 2 (written_version v) (omega arith)) refl

upgraded_entries : (f : File Entry) → f.version ≤ 3 → All (λ e. IsTrue (allows_entry f.version e)) f.items
    → (b : Bool) → (f.version == 3) ≡ b → All (λ e. IsTrue (allows_entry (written_version f.version) e)) f.items
upgraded_entries f high allowed true h =
    let is : f.version ≡ 3 = eqb-true f.version 3 h in
    let same : f.version ≡ written_version f.version = omega (arith, is) in
    subst (λ v. All (λ e. IsTrue (allows_entry v e)) f.items) same allowed
upgraded_entries f high allowed false h =
    let old : f.version ≤ 2 = grind (arith, nat_tests) in
    let same : 2 ≡ written_version f.version = omega (arith, old) in
    let short : All (λ e. IsTrue (allows_entry 2 e)) f.items =
    λ i d lt. rw (allowed_short f.version (get_or f.items i d) old (allowed i d lt)) refl in
    subst (λ v. All (λ e. IsTrue (allows_entry v e)) f.items) same short

pub upgrade_is_checked : UpgradeIsChecked
upgrade_is_checked text f h legal =
    let read = history_is_read text f h in
    let v : ℕ = written_version f.version in
    let later : f.version ≤ v = omega arith in
    let high : v ≤ 3 = omega (arith, read.version.1) in
    let rooms : of_version old_room most_room f.version ≤ of_version old_room most_room v =
    none_falls old_room most_room f.version v (omega arith) later in
    let lines : of_version old_lines most_lines f.version ≤ of_version old_lines most_lines v =
    none_falls old_lines most_lines f.version v (omega arith) later in
    let room : f.layout.room ≤ room_limit v = omega (arith, rooms, read.sound.room) in
    let numbers = later_allows f.version v (counts_in f.layout) later read.sound.numbers in
    let more : of_version old_queues most_queues f.version ≤ of_version old_queues most_queues v =
    none_falls old_queues most_queues f.version v (omega arith) later in
    let queues : length f.layout.queues ≤ queue_limit v = omega (arith, more, read.sound.queues) in
    let few : length f.items ≤ line_limit v = omega (arith, lines, read.sound.few) in
    let out : File Entry = record { version = v; layout = f.layout; items = f.items } in
    let of_format : IsOfFormat out = (
      upgraded_queues f.version f.layout.queues,
      upgraded_entries f read.version.1 (histories_are_of_their_format text f h).1 (f.version == 3) refl,
    ) in (
      histories_read_again out (omega arith) high of_format read.shape
          (record { room = room; numbers = numbers; queues = queues; few = few; fitting = read.sound.fitting }) read.each,
      legal,
    )

-- ---- so `check` finds nothing wrong

no_other : (f : File Entry) (i : Illegal) → IsVerdict f None → IsVerdict f (Some i) → ⊥
no_other f i legal wrong = wrong_are_illegal f.layout f.items i wrong legal

same_file : (r : Result (File Entry) Refusal) (f g : File Entry) → r ≡ Ok f → r ≡ Ok g → f ≡ g
same_file r f g p q = cc

read_or_refused : (r : Result (File Entry) Refusal) (f : File Entry) (e : Refusal) → r ≡ Ok f → r ≡ Err e → ⊥
read_or_refused r f e p q = let and_parts : Ok f ≡ Err e = sym p ∙ q in cc

legal_passes : (text : List ℕ) (f : File Entry) → IsLegalText text f → PassesCheck text
legal_passes text f legal old new (Ok None) ends = inl refl
legal_passes text f legal old new (Ok (Some i)) ends =
    absurd (no_other ends.0 i
    (subst (λ g. IsVerdict g None) (same_file (history_file_of text) f ends.0 legal.0 ends.1) legal.1) ends.2)
legal_passes text f legal old new (Err refusal.NoMemory) ends = inr (omega arith)
legal_passes text f legal old new (Err refusal.ReadFault) ends = inr (omega arith)
legal_passes text f legal old new (Err refusal.WriteFault) ends = inr (omega arith)
legal_passes text f legal old new (Err refusal.TooLong) ends =
    absurd (read_or_refused _ f refusal.TooLong legal.0 ends.0)
legal_passes text f legal old new (Err (refusal.BadLine n)) ends =
    absurd (read_or_refused _ f (refusal.BadLine n) legal.0 ends.0)
legal_passes text f legal old new (Err (refusal.BadShape n)) ends =
    absurd (read_or_refused _ f (refusal.BadShape n) legal.0 ends.0)
legal_passes text f legal old new (Err (refusal.NoSuchId n)) ends =
    absurd (read_or_refused _ f (refusal.NoSuchId n) legal.0 ends.0)

pub steps_pass_check : StepsPassCheck
steps_pass_check text written n ends =
    subst PassesCheck (sym ends.3)
    (legal_passes (answer_text ends.0) (history_in ends.0) (step_is_checked text ends.0 ends.1))

pub upgrades_pass_check : UpgradesPassCheck
upgrades_pass_check text written ends =
    subst PassesCheck (sym ends.3) (legal_passes _ _ (upgrade_is_checked text ends.0 ends.1 ends.2))
