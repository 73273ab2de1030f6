-- While no entry was wrong, the judge has seen them all, and what is made is that of all; after that neither is asked
-- any more.
use Rattle.std.specs.Prelude.{◌≡◌, ◌∷◌, List}
use Rattle.cmwq_model.specs.declared.entry.Entry.{Entry}
use Rattle.cmwq_model.specs.Prelude.{Layout, IsFirstWrong, past_of}
use Rattle.cmwq_core.specs.Judged.{Judged, seen_too}
use Rattle.cmwq_history.specs.declared.following.Course.{Course}
use Rattle.cmwq_history.specs.declared.following.Course.TheVariants as course
use Rattle.cmwq_history.specs.Verdicts.{Seen}

abbrev pub judged_of : Seen → Judged
judged_of seen = record { layout = seen.layout; entries = seen.entries }

pub record IsSeen {F : Type 0} (is_of : Layout → List Entry → F → Type 0) (s : Layout) (entries : List Entry)
    (j : Judged) (made : F) : Type 0 where
  pub judge : j ≡ (let seen : Judged = record { layout = s; entries = entries } in seen)
  pub made_is : is_of s (past_of entries) made

-- a judge and what is made have taken one entry more
abbrev pub IsFollowed : {F : Type 0} → (Layout → List Entry → F → Type 0) → Judged → Entry → Judged → F → Type 0
IsFollowed is_of old e new made = (new ≡ seen_too old e) × is_of old.layout (e ∷ past_of old.entries) made

abbrev pub IsFollowing : {F : Type 0} → (Layout → List Entry → F → Type 0) → Layout → List Entry → Judged → F → Course
    → Type 0
IsFollowing is_of s entries j made course.Legal = IsSeen is_of s entries j made
IsFollowing is_of s entries j made (course.Wrong i) = IsFirstWrong s entries i
IsFollowing is_of s entries j made course.Failed = Unit {0}
