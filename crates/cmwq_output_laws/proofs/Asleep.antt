-- Where a sleep goes on, its worker is asleep.
use Rattle.std.proofs.Common.{◌≡◌, ℕ, Bool, true, false, [], ◌∷◌, length, Option, refl, ap, ◌∙◌}
use Rattle.std.specs.Prelude.{if◌then◌else◌, is_some}
use Rattle.cmwq_model.specs.declared.id.Who.TheVariants.{Worker}
use Rattle.cmwq_model.specs.declared.reply.Reply.{Reply}
use Rattle.cmwq_model.specs.declared.reply.Reply.TheVariants as reply
use Rattle.cmwq_model.specs.Prelude.{is_by, is_asleep, asleep_after}
use Rattle.cmwq_chart.specs.Sleeps.{asleep_since, since_after}
use Rattle.cmwq_output_laws.specs.SleepLaws.{SleepersAreAsleep}

after : (r : Reply) (place : ℕ) (since : Option ℕ) → is_some (since_after r place since)
    ≡ asleep_after r (is_some since)
after (reply.Started n) place since = refl
after (reply.StartedEnlist n x) place since = refl
after reply.Slept place since = refl
after reply.Woke place since = refl
after r place since = refl

by_own : (b : Bool) (r : Reply) (place : ℕ) (since : Option ℕ) (asleep : Bool) → is_some since ≡ asleep
    → is_some (if b then since_after r place since else since) ≡ (if b then asleep_after r asleep else asleep)
by_own true r place since asleep h = after r place since ∙ ap (asleep_after r) h
by_own false r place since asleep h = h

pub sleepers_are_asleep : SleepersAreAsleep
unfolding asleep_since is_asleep
sleepers_are_asleep [] w = refl
sleepers_are_asleep (e ∷ past) w =
    by_own (is_by (Worker w) e) e.reply (length past) (asleep_since past w) (is_asleep past w)
    (sleepers_are_asleep past w)
