use Rattle.cmwq_rt_scripts.specs.Common.{◌≡◌, ◌<◌, ◌^◌, ◌∙◌, ℕ, List, Some, length, slice_get, subst, sym, Call, All}
use Rattle.cmwq_rt_scripts.specs.Common.{IsScripted, HasFollowed}
use Rattle.cmwq_rt_scripts.specs.Followed.{lists}
use Rattle.cmwq_rt_scripts.proofs.Leaving.{fit_at, list_at}
use Rattle.cmwq_rt_scripts.proofs.crew.CallListsScripts.follow.Goals as goal

pub follow-requires-clause-whole : goal.follow-requires-clause-whole
follow-requires-clause-whole g c =
    let s = g.N.HubName.layout in
    let all = c.args.self.now.lists.now in
    let place = c.from-place.result in
    let here = subst (λ (n : ℕ). n < length (lists all)) (sym c.from-place.ensures) c.requires.number in
    subst (All (IsScripted s)) (sym c.as_slice.ensures.value)
    (fit_at s all place c.index-lists-place.result c.index-lists-place.result c.requires.fit here
    c.index-lists-place.is).0

pub follow-requires-clause-short : goal.follow-requires-clause-short
follow-requires-clause-short g c =
    let s = g.N.HubName.layout in
    let all = c.args.self.now.lists.now in
    let place = c.from-place.result in
    let here = subst (λ (n : ℕ). n < length (lists all)) (sym c.from-place.ensures) c.requires.number in
    subst (λ (calls : List Call). length calls < 2 ^ 32) (sym c.as_slice.ensures.value)
    (fit_at s all place c.index-lists-place.result c.index-lists-place.result c.requires.fit here
    c.index-lists-place.is).1

pub returns-in-Ok-clause-followed : goal.returns-in-Ok-clause-followed
returns-in-Ok-clause-followed g c script at =
    let s = g.N.HubName.layout in
    let all = c.args.self.now.lists.now in
    let there =
    list_at all c.from-place.result c.index-lists-place.result c.index-lists-place.result script
    c.index-lists-place.is
    (subst (λ (n : ℕ). slice_get (lists all) n ≡ Some script) (sym c.from-place.ensures) at) in
    subst (λ (calls : List Call). HasFollowed s calls c.in-Ok.full c.args.caller.now c.follow.new.self)
    (c.as_slice.ensures.value ∙ there) c.in-Ok.ensures.followed
