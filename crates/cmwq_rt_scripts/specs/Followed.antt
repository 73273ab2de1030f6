-- What a crew that follows scripts does.
use Rattle.std.specs.Prelude.{◌≡◌, ◌<◌, ◌≤◌, ◌^◌}
use Rattle.cmwq_model.specs.Prelude.{most_callers}
use Rattle.cmwq_rt_scripts.specs.Common.{ℕ, List, length, map, All, slice_get, Some, Vec, Global, Call, Layout, View}
use Rattle.cmwq_rt_scripts.specs.Common.{newcomer, IsScripted, HasFollowed, Conduct, caller_numbered}

-- the caller of this place has followed the script from its first call on and done nothing else
abbrev pub FollowedAt : Layout → ℕ → List Call → ℕ → View → Type 0
FollowedAt s k script full v = HasFollowed s script full (newcomer (caller_numbered k)) v

-- each caller has followed the script of its place
abbrev pub follows : List (List Call) → Conduct
follows scripts s k full v = (script : List Call) → slice_get scripts k ≡ Some script → FollowedAt s k script full v

-- the calls of each of these lists
abbrev pub lists : List (Vec Call Global) → List (List Call)
lists scripts = map (λ x. x.items) scripts

-- a hub of this shape can run these scripts
abbrev pub AreFit : Layout → List (List Call) → Type 0
AreFit s scripts =
    (length scripts ≤ most_callers) × All (λ calls. All (IsScripted s) calls × (length calls < 2 ^ 32)) scripts
