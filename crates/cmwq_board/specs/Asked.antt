-- Which calls the methods of a board make.
use Rattle.std.specs.Prelude.{Bool, true, false}
use Rattle.cmwq_model.specs.declared.call.Call.{Call}
use Rattle.cmwq_model.specs.declared.call.Call.TheVariants as call

-- a call of one entry that no other method makes
abbrev pub is_single : Call → Bool
is_single (call.Queue i q c) = true
is_single (call.Delay i q c t) = true
is_single (call.Modify i q c t) = true
is_single (call.Cancel i) = true
is_single (call.SetMax q n) = true
is_single call.Freeze = true
is_single call.Thaw = true
is_single call.Sleep = true
is_single call.Wake = true
is_single call.Retire = true
is_single c = false

-- a call that may wait
abbrev pub is_wait : Call → Bool
is_wait (call.Flush q) = true
is_wait (call.Drain q) = true
is_wait (call.Destroy q) = true
is_wait (call.FlushItem i) = true
is_wait (call.FlushDelayed i) = true
is_wait (call.CancelSync i) = true
is_wait c = false
