-- What a caller that follows a script leaves in a history.
use Rattle.std.specs.Prelude.{◌≡◌, ◌⊎◌, ◌+◌, ◌∷◌, ◌++◌}
use Rattle.cmwq_rt.specs.Common.{ℕ, false, List, [], Who, Call, Reply, Entry, Layout, View, Gains, made_by, is_full}
use Rattle.cmwq_rt.specs.Common.{MakesEntries, HadNoRoom, BrokeOff, RunFault}

-- The caller's entries in a history are these, and then for each call of the script, in order, those that it makes; or
-- none where there was no room for the call, so many times in all.
abbrev pub Follows : Layout → Who → List Entry → List Entry → List Call → List Entry → ℕ → Type 0
Follows s who history made [] all full = (all ≡ made) × (full ≡ 0)
Follows s who history made (c ∷ cs) all full =
    ((r : Reply) × (es : List Entry) × MakesEntries s who history made c r es
    × Follows s who history (made ++ es) cs all full)
    ⊎ ((n : ℕ) × (full ≡ n + 1) × HadNoRoom s who history made c × Follows s who history made cs all n)

-- a caller has followed a script, and has made no other entries since
pub record HasFollowed (s : Layout) (script : List Call) (full : ℕ) (v w : View) : Type 0 where
  pub entries : List Entry
  pub gains : Gains v entries w
  pub follows : Follows s v.who w.seen (made_by v.who v.seen) script (made_by v.who v.seen ++ entries) full

-- A caller has broken off a script: it followed a front of it, and the next call answered this fault, which isn't want
-- of room.
pub record HasStopped (s : Layout) (script : List Call) (f : RunFault) (v w : View) : Type 0 where
  pub front : List Call
  pub next : Call
  pub rest : List Call
  pub script_is : script ≡ front ++ next ∷ rest
  pub left_out : ℕ
  pub before : View
  pub followed : HasFollowed s front left_out v before
  pub broke : BrokeOff s before next f w
  pub other : is_full f ≡ false
