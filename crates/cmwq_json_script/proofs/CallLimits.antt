-- Calls that are read are whole, and have numbers inside the layout.
use Rattle.cmwq_json_script.specs.Common.{◌≡◌, ℕ, ◌≤◌, ◌<◌, Bool, true, false, ◌&&◌, nat_lt, nat_le, List, length}
use Rattle.cmwq_json_script.specs.Common.{Option, Some, None, refl, arith, if◌then◌else◌, option_and_then, IfSome}
use Rattle.cmwq_json_script.specs.Common.{bytes_eq, lt-ltb, nat_tests, IfSome_then, Data, Items, as_str, as_number}
use Rattle.cmwq_json_script.specs.Common.{as_u64, ItemId, QueueId, CpuId, Call, Layout, has_numbers, is_whole}
use Rattle.cmwq_json_script.specs.Common.{IsScripted, number_of_name, number_limits, placed}
use Rattle.cmwq_model.specs.declared.call.Call.TheVariants as call
use Rattle.cmwq_json_script.specs.declared.word.Word.{Word}
use Rattle.cmwq_json_script.specs.declared.word.Word.TheVariants as word
use Rattle.cmwq_json_script.specs.Known.{Known, item_known, queue_known, cpu_said}
use Rattle.cmwq_json_script.specs.Calls.{ticks_said, width_in_call, own_call_after, call_with_members}
use Rattle.cmwq_json_script.specs.Scripts.{is_own}
use Rattle.cmwq_json_script.proofs.Readings.{any_read, then_holds, one_holds, two_holds, three_holds}
use Rattle.cmwq_json_script.proofs.Readings.{four_holds}
use Rattle.std.proofs.lemmas.Bool.{and_from}

-- what is known is in the layout
pub record AreIn (known : Known) (s : Layout) : Type 0 where
  pub items : length known.items ≤ s.items
  pub queues : length known.queues ≤ length s.queues
  pub cpus : known.cpus ≤ s.cpus

-- a call that items make too
pub record IsOwn (s : Layout) (c : Call) : Type 0 where
  pub own : is_own c ≡ true
  pub whole : is_whole c ≡ true
  pub numbers : has_numbers s c ≡ true

all_three : (a b c : Bool) → a ≡ true → b ≡ true → c ≡ true → (a && b && c) ≡ true
all_three true true true ha hb hc = refl
all_three true true false ha hb hc = cc
all_three true false c ha hb hc = cc
all_three false b c ha hb hc = cc

module _ (known : Known) (s : Layout) (are : AreIn known s) where
  item_in : (d : Data) → IfSome (item_known known d) (λ i. nat_lt i.0 s.items ≡ true)
  item_in d = at (as_str d)
    where
      at : (o : Option (List ℕ))
          → IfSome (option_and_then
          (λ name. option_and_then (λ n. Some (record { 0 = n })) (number_of_name known.items name)) o)
          (λ (i : ItemId). nat_lt i.0 s.items ≡ true)
      at None = tt
      at (Some name) =
          then_holds (λ n. n < length known.items) (λ (i : ItemId). nat_lt i.0 s.items ≡ true)
          (λ n. Some (record { 0 = n })) (number_of_name known.items name) (placed (bytes_eq name) known.items)
          (λ n less. let few = are.items in lt-ltb n s.items (omega arith))

  queue_in : (d : Data) → IfSome (queue_known known d) (λ q. nat_lt q.0 (length s.queues) ≡ true)
  queue_in d = at (as_str d)
    where
      at : (o : Option (List ℕ))
          → IfSome (option_and_then
          (λ name. option_and_then (λ n. Some (record { 0 = n })) (number_of_name known.queues name)) o)
          (λ (q : QueueId). nat_lt q.0 (length s.queues) ≡ true)
      at None = tt
      at (Some name) =
          then_holds (λ n. n < length known.queues) (λ (q : QueueId). nat_lt q.0 (length s.queues) ≡ true)
          (λ n. Some (record { 0 = n })) (number_of_name known.queues name) (placed (bytes_eq name) known.queues)
          (λ n less. let few = are.queues in lt-ltb n (length s.queues) (omega arith))

  cpu_in : (d : Data) → IfSome (cpu_said known d) (λ c. nat_lt c.0 s.cpus ≡ true)
  cpu_in d =
      then_holds (λ _. Unit {0}) (λ (c : CpuId). nat_lt c.0 s.cpus ≡ true) _ (as_number d) (any_read (as_number d))
      (λ number _. then_holds (λ _. Unit {0}) (λ (c : CpuId). nat_lt c.0 s.cpus ≡ true) _ (as_u64 number)
      (any_read (as_u64 number)) (λ n _. at n (nat_lt n known.cpus) refl))
    where
      at : (n : ℕ) (b : Bool) → nat_lt n known.cpus ≡ b
          → IfSome (if b then Some (record { 0 = n }) else None) (λ (c : CpuId). nat_lt c.0 s.cpus ≡ true)
      at n false h = tt
      at n true h =
          let few = are.cpus in
          let less : n < known.cpus = grind (arith, nat_tests) in
          lt-ltb n s.cpus (omega arith)

  any_ticks : (d : Data) → IfSome (ticks_said d) (λ _. Unit {0})
  any_ticks d = IfSome_then (ticks_said d) (number_limits 0 4294967295 d) (λ n h. tt)

  some_width : (d : Data) → IfSome (width_in_call d) (λ n. nat_le 1 n ≡ true)
  some_width d = IfSome_then (width_in_call d) (number_limits 1 4294967295 d) (λ n h. at n h.0)
    where
      at : (n : ℕ) → 1 ≤ n → nat_le 1 n ≡ true
      at n h = grind (arith, nat_tests)

  pub own_call_in : (w : Word) (ds : Items) → IfSome (own_call_after known w ds) (λ r. IsOwn s r.0)
  unfolding own_call_after
  own_call_in word.Queue ds =
      three_holds _ _ _ (IsOwn s) (item_known known) (queue_known known) (cpu_said known) call.Queue item_in queue_in
      cpu_in (λ i q c hi hq hc. record { own = refl; whole = refl; numbers = all_three _ _ _ hi hq hc }) ds
  own_call_in word.Delay ds =
      four_holds _ _ _ _ (IsOwn s) (item_known known) (queue_known known) (cpu_said known) ticks_said call.Delay item_in
      queue_in cpu_in any_ticks
      (λ i q c t hi hq hc ht. record { own = refl; whole = refl; numbers = all_three _ _ _ hi hq hc }) ds
  own_call_in word.Modify ds =
      four_holds _ _ _ _ (IsOwn s) (item_known known) (queue_known known) (cpu_said known) ticks_said call.Modify
      item_in queue_in cpu_in any_ticks
      (λ i q c t hi hq hc ht. record { own = refl; whole = refl; numbers = all_three _ _ _ hi hq hc }) ds
  own_call_in word.Cancel ds =
      one_holds _ (IsOwn s) (item_known known) call.Cancel item_in
      (λ i hi. record { own = refl; whole = refl; numbers = hi }) ds
  own_call_in word.FlushItem ds =
      one_holds _ (IsOwn s) (item_known known) call.FlushItem item_in
      (λ i hi. record { own = refl; whole = refl; numbers = hi }) ds
  own_call_in word.FlushDelayed ds =
      one_holds _ (IsOwn s) (item_known known) call.FlushDelayed item_in
      (λ i hi. record { own = refl; whole = refl; numbers = hi }) ds
  own_call_in word.CancelSync ds =
      one_holds _ (IsOwn s) (item_known known) call.CancelSync item_in
      (λ i hi. record { own = refl; whole = refl; numbers = hi }) ds
  own_call_in word.Flush ds =
      one_holds _ (IsOwn s) (queue_known known) call.Flush queue_in
      (λ q hq. record { own = refl; whole = refl; numbers = hq }) ds
  own_call_in word.Drain ds =
      one_holds _ (IsOwn s) (queue_known known) call.Drain queue_in
      (λ q hq. record { own = refl; whole = refl; numbers = hq }) ds
  own_call_in word.Tick ds = tt
  own_call_in word.SetMax ds = tt
  own_call_in word.Freeze ds = tt
  own_call_in word.Thaw ds = tt
  own_call_in word.Destroy ds = tt
  own_call_in word.Open ds = tt
  own_call_in word.SleepAt ds = tt
  own_call_in word.Wait ds = tt
  own_call_in word.Lock ds = tt
  own_call_in word.Unlock ds = tt

  own_is_scripted : (w : Word) (ds : Items) → IfSome (own_call_after known w ds) (λ r. IsScripted s r.0)
  own_is_scripted w ds = IfSome_then (own_call_after known w ds) (own_call_in w ds) (λ r h. (h.whole, h.numbers))

  pub call_in : (w : Word) (ds : Items) → IfSome (call_with_members known w ds) (λ r. IsScripted s r.0)
  unfolding call_with_members
  call_in word.Tick ds = one_holds _ (IsScripted s) ticks_said call.Tick any_ticks (λ t h. (refl, refl)) ds
  call_in word.SetMax ds =
      two_holds _ _ (IsScripted s) (queue_known known) width_in_call call.SetMax queue_in some_width
      (λ q n h k. (refl, and_from _ _ h k)) ds
  call_in word.Freeze ds = (refl, refl)
  call_in word.Thaw ds = (refl, refl)
  call_in word.Destroy ds = one_holds _ (IsScripted s) (queue_known known) call.Destroy queue_in (λ q h. (refl, h)) ds
  call_in word.Queue ds = own_is_scripted word.Queue ds
  call_in word.Delay ds = own_is_scripted word.Delay ds
  call_in word.Modify ds = own_is_scripted word.Modify ds
  call_in word.Cancel ds = own_is_scripted word.Cancel ds
  call_in word.FlushItem ds = own_is_scripted word.FlushItem ds
  call_in word.FlushDelayed ds = own_is_scripted word.FlushDelayed ds
  call_in word.CancelSync ds = own_is_scripted word.CancelSync ds
  call_in word.Flush ds = own_is_scripted word.Flush ds
  call_in word.Drain ds = own_is_scripted word.Drain ds
  call_in word.Open ds = own_is_scripted word.Open ds
  call_in word.SleepAt ds = own_is_scripted word.SleepAt ds
  call_in word.Wait ds = own_is_scripted word.Wait ds
  call_in word.Lock ds = own_is_scripted word.Lock ds
  call_in word.Unlock ds = own_is_scripted word.Unlock ds
