use Rattle.std.proofs.Common.{◌≡◌, ◌<◌, ◌≤◌, ◌∙◌, ℕ, List, Some, length, take, rules, subst, sym}
use Rattle.std.specs.Prelude.{slice_get}
use Rattle.cmwq_model.specs.declared.call.Call.{Call}
use Rattle.cmwq_json_script.specs.Views.{calls_in}
use Rattle.cmwq_rt.specs.Scripts.{HasFollowed}
use Rattle.cmwq_cmd_run.proofs.Following.{calls_at, fit_at, followed_all, on_way_more, scripts_of, some_few, some_scripted}
use Rattle.cmwq_cmd_run.proofs.Following.{taken_all}
use Rattle.cmwq_cmd_run.proofs.caller.InterpreterScripts.follow.Goals as goal

pub go_on-requires-clause-scripted : goal.go_on-requires-clause-scripted
go_on-requires-clause-scripted g c =
    let s = g.N.HubName.layout in
    let all = c.args.self.now.callers.now in
    let here = subst (λ (n : ℕ). n < length (scripts_of all)) (sym c.from-place.ensures) c.requires.number in
    let x = c.index-callers-place.result in
    some_scripted s c.args.caller.now x.items c.loop-k.k c.loop-k.way c.loop-k.caller c.loop-k.invariant.0
    (fit_at s all c.from-place.result x x c.requires.fit here c.index-callers-place.is).0

pub go_on-requires-clause-few : goal.go_on-requires-clause-few
go_on-requires-clause-few g c =
    let s = g.N.HubName.layout in
    let all = c.args.self.now.callers.now in
    let here = subst (λ (n : ℕ). n < length (scripts_of all)) (sym c.from-place.ensures) c.requires.number in
    let x = c.index-callers-place.result in
    some_few s c.args.caller.now x.items c.loop-k.k c.loop-k.way c.loop-k.caller c.loop-k.invariant.0
    (fit_at s all c.from-place.result x x c.requires.fit here c.index-callers-place.is).1

pub loop-k-preserved : goal.loop-k-preserved
loop-k-preserved g c =
    let s = g.N.HubName.layout in
    let actions = c.index-callers-place.result.items in
    let lt : c.loop-k.k < length actions = search rules in (
      on_way_more s c.args.caller.now actions c.loop-k.k c.index.result.now c.go_on.new.way c.go_on.new.caller lt
          c.index.result.now c.index.ensures
          (c.in_ok-go_on.ensures.way c.args.caller.now (calls_in (take c.loop-k.k actions)) c.loop-k.invariant.0),
      c.in_ok-go_on.ensures.same ∙ c.loop-k.invariant.1,
    )

pub make-requires-clause-scripted : goal.make-requires-clause-scripted
make-requires-clause-scripted g c =
    let s = g.N.HubName.layout in
    let all = c.args.self.now.callers.now in
    let here = subst (λ (n : ℕ). n < length (scripts_of all)) (sym c.from-place.ensures) c.requires.number in
    let x = c.index-callers-place.result in
    some_scripted s c.args.caller.now x.items c.loop-k.k c.loop-k.way c.loop-k.caller c.loop-k.invariant.0
    (fit_at s all c.from-place.result x x c.requires.fit here c.index-callers-place.is).0

pub make-requires-clause-few : goal.make-requires-clause-few
make-requires-clause-few g c =
    let s = g.N.HubName.layout in
    let all = c.args.self.now.callers.now in
    let here = subst (λ (n : ℕ). n < length (scripts_of all)) (sym c.from-place.ensures) c.requires.number in
    let x = c.index-callers-place.result in
    some_few s c.args.caller.now x.items c.loop-k.k c.loop-k.way c.loop-k.caller c.loop-k.invariant.0
    (fit_at s all c.from-place.result x x c.requires.fit here c.index-callers-place.is).1

pub returns-clause-followed : goal.returns-clause-followed
returns-clause-followed g c script at =
    let s = g.N.HubName.layout in
    let all = c.args.self.now.callers.now in
    let x = c.index-callers-place.result in
    let v = c.args.caller.now in
    let way = c.make.new.self in
    let w = c.make.new.caller in
    let there =
    calls_at all c.from-place.result x x script c.index-callers-place.is
    (subst (λ (n : ℕ). slice_get (scripts_of all) n ≡ Some script) (sym c.from-place.ensures) at) in
    let past : length x.items ≤ c.loop-k.k = search rules in
    let made = c.in_ok-make.ensures.way v (calls_in (take c.loop-k.k x.items)) c.loop-k.invariant.0 in
    let all_made = taken_all s v x.items c.loop-k.k way w past made in
    subst (λ (calls : List Call). HasFollowed s calls way.full v w) there
    (followed_all s v (calls_in x.items) way w all_made c.in_ok-make.ensures.none)
