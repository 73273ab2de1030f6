-- The grammar of actions as a table says of each word what its definition says.
use Rattle.cmwq_json_script.specs.Common.{◌≡◌, ◌∙◌, ℕ, List, [], ◌∷◌, Option, Some, None, refl, ap, option_and_then}
use Rattle.cmwq_json_script.specs.Common.{true, false, sym, if◌then◌else◌}
use Rattle.cmwq_json_script.specs.Common.{Data, Items, no_items, item, Call, ItemId, QueueId, CpuId}
use Rattle.cmwq_model.specs.declared.call.Call.TheVariants as call
use Rattle.cmwq_json_script.specs.declared.word.Word.{Word}
use Rattle.cmwq_json_script.specs.declared.word.Word.TheVariants as word
use Rattle.cmwq_json_script.specs.declared.word.Argument.{Argument}
use Rattle.cmwq_json_script.specs.declared.word.Argument.TheVariants as argument
use Rattle.cmwq_json_script.specs.declared.argument.Given.{Given}
use Rattle.cmwq_json_script.specs.declared.used.Used.{Used}
use Rattle.cmwq_json_script.specs.declared.action.Action.{Action}
use Rattle.cmwq_json_script.specs.declared.action.Action.TheVariants as action
use Rattle.cmwq_json_script.specs.declared.action.Actor.{Actor}
use Rattle.cmwq_json_script.specs.declared.action.Actor.TheVariants.{Item, Caller}
use Rattle.cmwq_json_script.specs.Lists.{whole, part_in, items_none, items_one, items_two, items_three, items_four}
use Rattle.cmwq_json_script.specs.Known.{Known, item_known, queue_known, cpu_said}
use Rattle.cmwq_json_script.specs.Calls.{ticks_said, width_in_call, own_call_after, call_with_members}
use Rattle.cmwq_json_script.specs.Used.{gate_said, lock_said}
use Rattle.cmwq_json_script.specs.Actions.{at_gate, at_lock, action_after}
use Rattle.cmwq_json_script.specs.Arguments.{is_done_by, arguments_of, action_of, nothing, argument_said}
use Rattle.cmwq_json_script.specs.Arguments.{arguments_said, done_by}

module _ (known : Known) where
  -- the last argument has been read, and makes this
  ended : {Y Z : Type 0} (s : Given × Used) (finish : Given × Used → Option Z) (y : Y) (made : Y → Option Z)
      → finish s ≡ made y → (ds : Items)
      → option_and_then finish (arguments_said known [] s ds) ≡ option_and_then made (whole (Some (y, ds)))
  ended s finish y made is no_items = is
  ended s finish y made is (item d ds) = refl

  -- one argument is read, and the others after it
  went_on : {A Y Z : Type 0} (a : Argument) (says : Data → Option A) (put : Given → A → Given)
      → ((s : Given × Used) (d : Data)
      → argument_said known s a d ≡ option_and_then (λ x. Some (put s.0 x, s.1)) (says d))
      → (rest : List Argument) (s : Given × Used) (finish : Given × Used → Option Z)
      (f : A → Items → Option (Y × Items)) (made : Y → Option Z)
      → ((x : A) (ds : Items) → option_and_then finish (arguments_said known rest (put s.0 x, s.1) ds)
      ≡ option_and_then made (whole (f x ds)))
      → (ds : Items) → option_and_then finish (arguments_said known (a ∷ rest) s ds)
      ≡ option_and_then made (whole (option_and_then (λ x. f x.0 x.1) (part_in says ds)))
  went_on a says put is rest s finish f made same no_items = refl
  went_on {A} a says put is rest s finish f made same (item d ds) =
      ap (λ o. option_and_then finish (option_and_then (λ after. arguments_said known rest after ds) o)) (is s d)
      ∙ by (says d)
    where
      by : (o : Option A)
          → option_and_then finish (option_and_then (λ after. arguments_said known rest after ds)
          (option_and_then (λ x. Some (put s.0 x, s.1)) o))
          ≡ option_and_then made (whole (option_and_then (λ x. f x.0 x.1)
          (option_and_then {U = A × Items} (λ x. Some (x, ds)) o)))
      by None = refl
      by (Some x) = same x ds

  module _ (used : Used) where
    made : Call → Option (Action × Used)
    made c = Some (action.Call c, used)

    on_nothing : (c : Call) (ds : Items)
        → option_and_then (λ s. Some (action.Call c, s.1)) (arguments_said known [] (nothing, used) ds)
        ≡ option_and_then made (whole (items_none c ds))
    unfolding made
    on_nothing c ds = ended (nothing, used) _ c made refl ds

    on_item : (make : ItemId → Call) (ds : Items)
        → option_and_then (λ s. Some (action.Call (make s.0.item), s.1))
        (arguments_said known (argument.Item ∷ []) (nothing, used) ds)
        ≡ option_and_then made (whole (items_one (item_known known) make ds))
    unfolding made
    on_item make =
        went_on argument.Item (item_known known) (λ g i. record g { item = i }) (λ s d. refl) [] (nothing, used) _
        (λ i ds. Some (make i, ds)) made (λ i ds. ended (record nothing { item = i }, used) _ (make i) made refl ds)

    on_queue : (make : QueueId → Call) (ds : Items)
        → option_and_then (λ s. Some (action.Call (make s.0.queue), s.1))
        (arguments_said known (argument.Queue ∷ []) (nothing, used) ds)
        ≡ option_and_then made (whole (items_one (queue_known known) make ds))
    unfolding made
    on_queue make =
        went_on argument.Queue (queue_known known) (λ g q. record g { queue = q }) (λ s d. refl) [] (nothing, used) _
        (λ q ds. Some (make q, ds)) made (λ q ds. ended (record nothing { queue = q }, used) _ (make q) made refl ds)

    on_ticks : (make : ℕ → Call) (ds : Items)
        → option_and_then (λ s. Some (action.Call (make s.0.ticks), s.1))
        (arguments_said known (argument.Ticks ∷ []) (nothing, used) ds)
        ≡ option_and_then made (whole (items_one ticks_said make ds))
    unfolding made
    on_ticks make =
        went_on argument.Ticks ticks_said (λ g n. record g { ticks = n }) (λ s d. refl) [] (nothing, used) _
        (λ n ds. Some (make n, ds)) made (λ n ds. ended (record nothing { ticks = n }, used) _ (make n) made refl ds)

    on_width : (make : QueueId → ℕ → Call) (ds : Items)
        → option_and_then (λ s. Some (action.Call (make s.0.queue s.0.max_active), s.1))
        (arguments_said known (argument.Queue ∷ argument.MaxActive ∷ []) (nothing, used) ds)
        ≡ option_and_then made (whole (items_two (queue_known known) width_in_call make ds))
    unfolding made
    on_width make =
        went_on argument.Queue (queue_known known) (λ g q. record g { queue = q }) (λ s d. refl)
        (argument.MaxActive ∷ []) (nothing, used) _ (λ q. items_one width_in_call (make q)) made
        (λ q. went_on argument.MaxActive width_in_call (λ g n. record g { max_active = n }) (λ s d. refl) []
        (record nothing { queue = q }, used) _ (λ n ds. Some (make q n, ds)) made
        (λ n ds. ended (record nothing { queue = q; max_active = n }, used) _ (make q n) made refl ds))

    on_place : (make : ItemId → QueueId → CpuId → Call) (ds : Items)
        → option_and_then (λ s. Some (action.Call (make s.0.item s.0.queue s.0.cpu), s.1))
        (arguments_said known (argument.Item ∷ argument.Queue ∷ argument.Cpu ∷ []) (nothing, used) ds)
        ≡ option_and_then made
        (whole (items_three (item_known known) (queue_known known) (cpu_said known) make ds))
    unfolding made
    on_place make =
        went_on argument.Item (item_known known) (λ g i. record g { item = i }) (λ s d. refl)
        (argument.Queue ∷ argument.Cpu ∷ []) (nothing, used) _
        (λ i. items_two (queue_known known) (cpu_said known) (make i)) made
        (λ i. went_on argument.Queue (queue_known known) (λ g q. record g { queue = q }) (λ s d. refl)
        (argument.Cpu ∷ []) (record nothing { item = i }, used) _ (λ q. items_one (cpu_said known) (make i q)) made
        (λ q. went_on argument.Cpu (cpu_said known) (λ g c. record g { cpu = c }) (λ s d. refl) []
        (record nothing { item = i; queue = q }, used) _ (λ c ds. Some (make i q c, ds)) made
        (λ c ds. ended (record nothing { item = i; queue = q; cpu = c }, used) _ (make i q c) made refl ds)))

    after_ticks : (make : ItemId → QueueId → CpuId → ℕ → Call) (ds : Items)
        → option_and_then (λ s. Some (action.Call (make s.0.item s.0.queue s.0.cpu s.0.ticks), s.1))
        (arguments_said known (argument.Item ∷ argument.Queue ∷ argument.Cpu ∷ argument.Ticks ∷ []) (nothing, used) ds)
        ≡ option_and_then made
        (whole (items_four (item_known known) (queue_known known) (cpu_said known) ticks_said make ds))
    unfolding made
    after_ticks make =
        went_on argument.Item (item_known known) (λ g i. record g { item = i }) (λ s d. refl)
        (argument.Queue ∷ argument.Cpu ∷ argument.Ticks ∷ []) (nothing, used) _
        (λ i. items_three (queue_known known) (cpu_said known) ticks_said (make i)) made
        (λ i. went_on argument.Queue (queue_known known) (λ g q. record g { queue = q }) (λ s d. refl)
        (argument.Cpu ∷ argument.Ticks ∷ []) (record nothing { item = i }, used) _
        (λ q. items_two (cpu_said known) ticks_said (make i q)) made
        (λ q. went_on argument.Cpu (cpu_said known) (λ g c. record g { cpu = c }) (λ s d. refl) (argument.Ticks ∷ [])
        (record nothing { item = i; queue = q }, used) _ (λ c. items_one ticks_said (make i q c)) made
        (λ c. went_on argument.Ticks ticks_said (λ g n. record g { ticks = n }) (λ s d. refl) []
        (record nothing { item = i; queue = q; cpu = c }, used) _ (λ n ds. Some (make i q c n, ds)) made
        (λ n ds. ended (record nothing { item = i; queue = q; cpu = c; ticks = n }, used) _ (make i q c n) made refl
        ds))))

    at_a_gate : (make : ℕ → Action) (ds : Items)
        → option_and_then (λ s. Some (make s.0.gate, s.1))
        (arguments_said known (argument.Gate ∷ []) (nothing, used) ds)
        ≡ at_gate make used ds
    at_a_gate make no_items = refl
    at_a_gate make (item d no_items) = by (gate_said used d)
      where
        by : (o : Option (ℕ × Used))
            → option_and_then {U = Action × Used} (λ s. Some (make s.0.gate, s.1))
            (option_and_then {U = Given × Used} (λ after. Some after)
            (option_and_then {U = Given × Used} (λ gate. Some (record nothing { gate = gate.0 }, gate.1)) o))
            ≡ option_and_then (λ gate. Some (make gate.0, gate.1)) o
        by None = refl
        by (Some gate) = refl
    at_a_gate make (item d (item e ds)) = by (gate_said used d)
      where
        by : (o : Option (ℕ × Used))
            → option_and_then {U = Action × Used} (λ s. Some (make s.0.gate, s.1))
            (option_and_then {U = Given × Used} (λ after. None)
            (option_and_then {U = Given × Used} (λ gate. Some (record nothing { gate = gate.0 }, gate.1)) o))
            ≡ None
        by None = refl
        by (Some gate) = refl

    at_a_lock : (make : ℕ → Action) (ds : Items)
        → option_and_then (λ s. Some (make s.0.lock, s.1))
        (arguments_said known (argument.Lock ∷ []) (nothing, used) ds)
        ≡ at_lock make used ds
    at_a_lock make no_items = refl
    at_a_lock make (item d no_items) = by (lock_said used d)
      where
        by : (o : Option (ℕ × Used))
            → option_and_then {U = Action × Used} (λ s. Some (make s.0.lock, s.1))
            (option_and_then {U = Given × Used} (λ after. Some after)
            (option_and_then {U = Given × Used} (λ lock. Some (record nothing { lock = lock.0 }, lock.1)) o))
            ≡ option_and_then (λ lock. Some (make lock.0, lock.1)) o
        by None = refl
        by (Some lock) = refl
    at_a_lock make (item d (item e ds)) = by (lock_said used d)
      where
        by : (o : Option (ℕ × Used))
            → option_and_then {U = Action × Used} (λ s. Some (make s.0.lock, s.1))
            (option_and_then {U = Given × Used} (λ after. None)
            (option_and_then {U = Given × Used} (λ lock. Some (record nothing { lock = lock.0 }, lock.1)) o))
            ≡ None
        by None = refl
        by (Some lock) = refl

  pub same_action : (actor : Actor) (w : Word) (used : Used) (ds : Items)
      → done_by actor known w used ds ≡ action_after actor known w used ds
  unfolding is_done_by arguments_of action_of action_after own_call_after call_with_members made
  same_action Item word.Queue used ds = on_place used call.Queue ds
  same_action Caller word.Queue used ds = on_place used call.Queue ds
  same_action Item word.Delay used ds = after_ticks used call.Delay ds
  same_action Caller word.Delay used ds = after_ticks used call.Delay ds
  same_action Item word.Modify used ds = after_ticks used call.Modify ds
  same_action Caller word.Modify used ds = after_ticks used call.Modify ds
  same_action Item word.Cancel used ds = on_item used call.Cancel ds
  same_action Caller word.Cancel used ds = on_item used call.Cancel ds
  same_action Item word.CancelSync used ds = on_item used call.CancelSync ds
  same_action Caller word.CancelSync used ds = on_item used call.CancelSync ds
  same_action Item word.FlushItem used ds = on_item used call.FlushItem ds
  same_action Caller word.FlushItem used ds = on_item used call.FlushItem ds
  same_action Item word.FlushDelayed used ds = on_item used call.FlushDelayed ds
  same_action Caller word.FlushDelayed used ds = on_item used call.FlushDelayed ds
  same_action Item word.Flush used ds = on_queue used call.Flush ds
  same_action Caller word.Flush used ds = on_queue used call.Flush ds
  same_action Item word.Drain used ds = on_queue used call.Drain ds
  same_action Caller word.Drain used ds = on_queue used call.Drain ds
  same_action Item word.Tick used ds = refl
  same_action Caller word.Tick used ds = on_ticks used call.Tick ds
  same_action Item word.SetMax used ds = refl
  same_action Caller word.SetMax used ds = on_width used call.SetMax ds
  same_action Item word.Freeze used ds = refl
  same_action Caller word.Freeze used ds = on_nothing used call.Freeze ds
  same_action Item word.Thaw used ds = refl
  same_action Caller word.Thaw used ds = on_nothing used call.Thaw ds
  same_action Item word.Destroy used ds = refl
  same_action Caller word.Destroy used ds = on_queue used call.Destroy ds
  same_action actor word.Open used ds = at_a_gate used action.Open ds
  same_action Item word.SleepAt used ds = at_a_gate used action.SleepAt ds
  same_action Caller word.SleepAt used ds = refl
  same_action Item word.Wait used ds = refl
  same_action Caller word.Wait used ds = at_a_gate used action.SleepAt ds
  same_action actor word.Lock used ds = at_a_lock used action.Lock ds
  same_action actor word.Unlock used ds = at_a_lock used action.Unlock ds

  -- an actor that doesn't do it says nothing by it
  pub not_done : (actor : Actor) (w : Word) (used : Used) (ds : Items) → is_done_by w actor ≡ false
      → None ≡ action_after actor known w used ds
  not_done actor w used ds is =
      sym (ap (λ b. if b then (option_and_then (λ s. Some (action_of w s.0, s.1))
      (arguments_said known (arguments_of w) (nothing, used) ds)) else None) is) ∙ same_action actor w used ds

  -- what is done is as its arguments are read
  pub done_as_read : (actor : Actor) (w : Word) (used : Used) (ds : Items) (r : Option (Given × Used))
      → is_done_by w actor ≡ true → arguments_said known (arguments_of w) (nothing, used) ds ≡ r
      → option_and_then (λ s. Some (action_of w s.0, s.1)) r ≡ action_after actor known w used ds
  done_as_read actor w used ds r is read =
      ap (option_and_then (λ s. Some (action_of w s.0, s.1))) (sym read)
      ∙ sym (ap (λ b. if b then (option_and_then (λ s. Some (action_of w s.0, s.1))
      (arguments_said known (arguments_of w) (nothing, used) ds)) else None) is) ∙ same_action actor w used ds
