-- What a verdict says of what was found.
use Rattle.std.proofs.Common.{ℕ, ◌≡◌, ◌<◌, Bool, true, false, if◌then◌else◌, List, Option, Some, None, nat_lt}
use Rattle.std.proofs.Common.{refl, sym}
use Rattle.std.proofs.Common.{arith, subst, reverse, ◌∙◌}
use Rattle.std.specs.Prelude.{IfSome}
use Rattle.std.proofs.lemmas.Bool.{ltb-true, ltb-false}
use Rattle.cmwq_json_script.specs.Runs.{Run}
use Rattle.cmwq_explore.specs.declared.finding.Finding.{Finding}
use Rattle.cmwq_explore.specs.declared.seeds.Tally.{Tally}
use Rattle.cmwq_explore.specs.Findings.{Tells, way_of}
use Rattle.cmwq_play.specs.declared.play.Standing.{Standing}
use Rattle.cmwq_play.specs.declared.play.Standing.TheVariants as standings
use Rattle.cmwq_explore.specs.Seeds.{StandsAs}
use Rattle.cmwq_play.specs.Stands.{IsDone, Stand}
use Rattle.cmwq_play.specs.Searches.{GetsStuck, Rests}
use Rattle.cmwq_play.specs.Starts.{first_stand}
use Rattle.cmwq_explore.proofs.Joining.{end_within}
use Rattle.cmwq_cmd_explore.specs.declared.verdict.Ends.{Ends}
use Rattle.cmwq_cmd_explore.specs.declared.verdict.Verdict.{Verdict}
use Rattle.cmwq_cmd_explore.specs.declared.verdict.Verdict.TheVariants as verdicts
use Rattle.cmwq_cmd_explore.specs.Verdicts.{EverySchedule, IsVerdictOn, SaysAll, SomeStuck}
use Rattle.cmwq_cmd_explore.specs.Verdicts.{verdict_of}

-- what holds in each case holds of the verdict
of_verdict : (P : Verdict → Type 0) (e : Ends) → (0 < e.stuck → P verdicts.Stuck)
    → (e.stuck ≡ 0 → 0 < e.cut → P verdicts.Bounded)
    → (e.stuck ≡ 0 → e.cut ≡ 0 → P verdicts.Misused × P (verdicts.RefusedIn e.with_refusals) × P verdicts.AllEnd)
    → P (verdict_of e)
of_verdict P e is_stuck is_cut ended = by_stuck (nat_lt 0 e.stuck) refl
  where
    by_refusals : e.stuck ≡ 0 → e.cut ≡ 0 → (b : Bool)
        → P (if b then verdicts.RefusedIn e.with_refusals else verdicts.AllEnd)
    by_refusals none all true = (ended none all).1
    by_refusals none all false = (ended none all).2

    by_misuse : e.stuck ≡ 0 → e.cut ≡ 0 → (b : Bool)
        → P (if b then verdicts.Misused
        else if nat_lt 0 e.with_refusals then verdicts.RefusedIn e.with_refusals else verdicts.AllEnd)
    by_misuse none all true = (ended none all).0
    by_misuse none all false = by_refusals none all (nat_lt 0 e.with_refusals)

    by_cut : e.stuck ≡ 0 → (b : Bool) → nat_lt 0 e.cut ≡ b
        → P (if b then verdicts.Bounded
        else if nat_lt 0 e.with_misuse then verdicts.Misused
        else if nat_lt 0 e.with_refusals then verdicts.RefusedIn e.with_refusals else verdicts.AllEnd)
    by_cut none true less = is_cut none (ltb-true 0 e.cut less)
    by_cut none false not =
        by_misuse none (let past = ltb-false 0 e.cut not in omega arith) (nat_lt 0 e.with_misuse)

    by_stuck : (b : Bool) → nat_lt 0 e.stuck ≡ b
        → P (if b then verdicts.Stuck
        else if nat_lt 0 e.cut then verdicts.Bounded
        else if nat_lt 0 e.with_misuse then verdicts.Misused
        else if nat_lt 0 e.with_refusals then verdicts.RefusedIn e.with_refusals else verdicts.AllEnd)
    by_stuck true less = is_stuck (ltb-true 0 e.stuck less)
    by_stuck false not = by_cut (let past = ltb-false 0 e.stuck not in omega arith) (nat_lt 0 e.cut) refl

-- of all schedules
pub verdict_all : (r : Run) (f : Finding) (e : Ends) → (e.stuck ≡ f.stuck) × (e.cut ≡ f.cut)
    → Tells 2000 f (first_stand r) → SaysAll r (verdict_of e)
verdict_all r f e same t = of_verdict (SaysAll r) e some (λ none cut. tt)
    (λ none all. (ends none all, ends none all, ends none all))
  where
    ends : e.stuck ≡ 0 → e.cut ≡ 0 → EverySchedule r
    ends none all =
        end_within f.height 2000 (first_stand r) t.within (t.ends (sym same.1 ∙ all) (sym same.0 ∙ none))

    by_way : (way : Option (List ℕ)) → way_of f.nearest ≡ way → 0 < e.stuck → SomeStuck r
    by_way None is less = absurd (let none = t.known is in let same_stuck = same.0 in omega arith)
    by_way (Some w) is less =
        (reverse w, subst (λ o. IfSome o (λ v. GetsStuck (first_stand r) (reverse v))) is t.stuck)

    some : 0 < e.stuck → SomeStuck r
    some less = by_way (way_of f.nearest) refl less

-- of many seeds
pub verdict_on : (t : Tally) (e : Ends) → (e.stuck ≡ t.stuck) × (e.cut ≡ t.cut) → IsVerdictOn t (verdict_of e)
verdict_on t e same =
    of_verdict (IsVerdictOn t) e (λ less. subst (λ n. 0 < n) same.0 less)
    (λ none less. (sym same.0 ∙ none, subst (λ n. 0 < n) same.1 less))
    (λ none all.
    let both : (t.stuck ≡ 0) × (t.cut ≡ 0) = (sym same.0 ∙ none, sym same.1 ∙ all) in (both, both, both))

-- ---- one schedule

-- how a stand stands
pub stands : (s : Standing) (p : Stand) → (s ≡ standings.Ended → Rests p × IsDone p)
    → (s ≡ standings.Stuck → Rests p × (IsDone p → ⊥)) → (s ≡ standings.Goes → Rests p → ⊥) → StandsAs s p
stands standings.Ended p ended stuck goes = ended refl
stands standings.Stuck p ended stuck goes = stuck refl
stands standings.Goes p ended stuck goes = goes refl
