-- What is read of a line is inside the ranges of its types: a number above its limit is refused, and an id above its
-- type's greatest number is read as that number.
use Rattle.cmwq_text.specs.Common.{◌≡◌, ℕ, ◌≤◌, Bool, true, nat_le, ◌||◌, List, Option, Some, None, arith, subst, cond}
use Rattle.cmwq_text.specs.Common.{◌∙◌, if◌then◌else◌, le-leb, same_Some, ItemId, QueueId, CpuId, Who, Call, Reply}
use Rattle.cmwq_text.specs.Common.{Entry, greatest, greatest_long, greatest_byte, greatest_short, IsWho, IsCall}
use Rattle.cmwq_text.specs.Common.{IsReply, IsEntry}
use Rattle.std.specs.Cmp.Derive.{both_true}
use Rattle.cmwq_model.specs.declared.call.Call.TheVariants as call
use Rattle.cmwq_model.specs.declared.reply.Reply.TheVariants as reply
use Rattle.cmwq_text.specs.Numbers.{greatest_number}
use Rattle.cmwq_text.specs.declared.keyword.Keyword.{Keyword}
use Rattle.cmwq_text.specs.declared.keyword.Keyword.TheVariants as word
use Rattle.cmwq_text.specs.Numbers.{number_read, held_at_most, byte_of, short_of}
use Rattle.cmwq_text.specs.Words.{byte_in, short_in, number_in, wide_in, long_in, take_none, take_one, take_two}
use Rattle.cmwq_text.specs.Words.{take_three, take_four}
use Rattle.cmwq_text.specs.IdText.{item, queue_numbered, cpu, item_in, queue_in, cpu_in, caller_read, worker_read}
use Rattle.cmwq_text.specs.IdText.{who_read, who_in}
use Rattle.cmwq_text.specs.CallText.{call_read_after, call_in, call_read}
use Rattle.cmwq_text.specs.ReplyText.{ticket_with, ticket_after, started_with, started_after, reply_after, reply_in}
use Rattle.cmwq_text.specs.EntryText.{entry_of}
use Rattle.cmwq_text.specs.Formats.{is_short, is_short_call, is_short_reply, is_short_entry, number_limit, of_version}
use Rattle.cmwq_text.specs.Formats.{allows_call, call_of_format, allows_entry, entry_of_format}
use Rattle.cmwq_text.proofs.Steps.{bind_some, chosen}
use Rattle.cmwq_text.proofs.NumberLaws.{number_takes}
use Rattle.cmwq_text.proofs.WordLaws.{word_takes}
use Rattle.cmwq_text.proofs.IdLaws.{first_says}

-- ---- numbers and ids

held_inside : (most n : ℕ) (o : Option ℕ) → held_at_most most o ≡ Some n → n ≤ most
held_inside most n o e = grind arith

byte_inside : (word : List ℕ) (n : ℕ) → byte_of word ≡ Some n → n ≤ greatest_byte
byte_inside word n e = held_inside greatest_byte n (number_read greatest word) e

short_inside : (word : List ℕ) (n : ℕ) → short_of word ≡ Some n → n ≤ greatest_short
short_inside word n e = held_inside greatest_short n (number_read greatest word) e

-- a reader of one word, and the range of its values
record Reader (A : Type 0) : Type 1 where
  read : List (List ℕ) → Option (A × List (List ℕ))
  IsInside : A → Type 0
  inside : (ws : List (List ℕ)) (x : A × List (List ℕ)) → read ws ≡ Some x → IsInside x.0

number_inside : (ws : List (List ℕ)) (x : ℕ × List (List ℕ)) → number_in ws ≡ Some x → x.0 ≤ greatest
number_inside ws x e = let read = word_takes (number_read greatest) ws x e in
    (number_takes greatest x.0 read.0 (omega arith) read.2).1

wide_inside : (ws : List (List ℕ)) (x : ℕ × List (List ℕ)) → wide_in ws ≡ Some x → x.0 ≤ greatest_number
wide_inside ws x e = let read = word_takes (number_read greatest_number) ws x e in
    (number_takes greatest_number x.0 read.0 (omega arith) read.2).1

long_inside : (ws : List (List ℕ)) (x : ℕ × List (List ℕ)) → long_in ws ≡ Some x → x.0 ≤ greatest_long
long_inside ws x e = let read = word_takes (number_read greatest_long) ws x e in
    (number_takes greatest_long x.0 read.0 (omega arith) read.2).1

byte_in_inside : (ws : List (List ℕ)) (x : ℕ × List (List ℕ)) → byte_in ws ≡ Some x → x.0 ≤ greatest_byte
byte_in_inside ws x e = let read = word_takes byte_of ws x e in byte_inside read.0 x.0 read.2

short_in_inside : (ws : List (List ℕ)) (x : ℕ × List (List ℕ)) → short_in ws ≡ Some x → x.0 ≤ greatest_short
short_in_inside ws x e = let read = word_takes short_of ws x e in short_inside read.0 x.0 read.2

abbrev number_reader : Reader ℕ
number_reader = record { read = number_in; IsInside = λ n. n ≤ greatest; inside = number_inside }

abbrev wide_reader : Reader ℕ
wide_reader = record { read = wide_in; IsInside = λ n. n ≤ greatest_number; inside = wide_inside }

abbrev long_reader : Reader ℕ
long_reader = record { read = long_in; IsInside = λ n. n ≤ greatest_long; inside = long_inside }

abbrev byte_reader : Reader ℕ
byte_reader = record { read = byte_in; IsInside = λ n. n ≤ greatest_byte; inside = byte_in_inside }

abbrev short_reader : Reader ℕ
short_reader = record { read = short_in; IsInside = λ n. n ≤ greatest_short; inside = short_in_inside }

-- ---- values that stand after one another

none_inside : {Y : Type 0} (y : Y) (Q : Y → Type 0) → Q y → (ws : List (List ℕ)) (x : Y × List (List ℕ))
    → take_none y ws ≡ Some x → Q x.0
none_inside {Y} y Q holds ws x e = subst (λ (z : Y × List (List ℕ)). Q z.0) (same_Some (y, ws) x e) holds

one_inside : {A Y : Type 0} (t : Reader A) (make : A → Y) (Q : Y → Type 0) → ((a : A) → t.IsInside a → Q (make a))
    → (ws : List (List ℕ)) (x : Y × List (List ℕ)) → take_one t.read make ws ≡ Some x → Q x.0
one_inside {A} {Y} t make Q holds ws x e = grind arith

two_inside : {A B Y : Type 0} (t : Reader A) (u : Reader B) (make : A → B → Y) (Q : Y → Type 0)
    → ((a : A) (b : B) → t.IsInside a × u.IsInside b → Q (make a b))
    → (ws : List (List ℕ)) (x : Y × List (List ℕ)) → take_two t.read u.read make ws ≡ Some x → Q x.0
two_inside {A} {B} {Y} t u make Q holds ws x e = grind arith

three_inside : {A B C Y : Type 0} (t : Reader A) (u : Reader B) (v : Reader C) (make : A → B → C → Y) (Q : Y → Type 0)
    → ((a : A) (b : B) (c : C) → t.IsInside a × u.IsInside b × v.IsInside c → Q (make a b c))
    → (ws : List (List ℕ)) (x : Y × List (List ℕ)) → take_three t.read u.read v.read make ws ≡ Some x → Q x.0
three_inside {A} {B} {C} {Y} t u v make Q holds ws x e = grind arith

four_inside : {A B C D Y : Type 0} (t : Reader A) (u : Reader B) (v : Reader C) (w : Reader D) (make : A → B → C → D
    → Y) (Q : Y → Type 0)
    → ((a : A) (b : B) (c : C) (d : D) → t.IsInside a × u.IsInside b × v.IsInside c × w.IsInside d → Q (make a b c d))
    → (ws : List (List ℕ)) (x : Y × List (List ℕ)) → take_four t.read u.read v.read w.read make ws ≡ Some x → Q x.0
four_inside {A} {B} {C} {D} {Y} t u v w make Q holds ws x e = grind arith

-- ---- items, queues and CPUs

abbrev item_reader : Reader ItemId
item_reader =
    record {
      read = item_in;
      IsInside = λ i. i.0 ≤ greatest_short;
      inside =
          one_inside short_reader item (λ i. i.0 ≤ greatest_short) (λ n small. small);
    }

abbrev queue_reader : Reader QueueId
queue_reader =
    record {
      read = queue_in;
      IsInside = λ q. q.0 ≤ greatest_byte;
      inside =
          one_inside byte_reader queue_numbered (λ q. q.0 ≤ greatest_byte) (λ n small. small);
    }

abbrev cpu_reader : Reader CpuId
cpu_reader =
    record {
      read = cpu_in;
      IsInside = λ c. c.0 ≤ greatest_byte;
      inside =
          one_inside byte_reader cpu (λ c. c.0 ≤ greatest_byte) (λ n small. small);
    }

-- ---- callers and workers

caller_inside : (name : List ℕ) (who : Who) → caller_read name ≡ Some who → IsWho who
caller_inside name who e = grind arith

worker_inside : (name : List ℕ) (who : Who) → worker_read name ≡ Some who → IsWho who
unfolding worker_read
worker_inside name who e = grind arith

who_of_inside : (w : List ℕ) (who : Who) → who_read w ≡ Some who → IsWho who
unfolding who_read
who_of_inside w who e = grind (arith, first_says, caller_inside, worker_inside)

pub who_inside : (ws : List (List ℕ)) (x : Who × List (List ℕ)) → who_in ws ≡ Some x → IsWho x.0
who_inside ws x e = let read = word_takes who_read ws x e in who_of_inside read.0 x.0 read.2

-- ---- calls

call_after_inside : (k : Keyword) (ws : List (List ℕ)) (x : Call × List (List ℕ)) → call_read_after k ws ≡ Some x
    → (IsCall greatest_number) x.0
unfolding call_read_after
call_after_inside word.Queue ws x e =
    three_inside item_reader queue_reader cpu_reader call.Queue (IsCall greatest_number)
    (λ i q c small. (small.0, small.1, small.2)) ws x e
call_after_inside word.Delay ws x e =
    four_inside item_reader queue_reader cpu_reader number_reader call.Delay (IsCall greatest_number)
    (λ i q c n small. ((small.0, small.1, small.2), small.3)) ws x e
call_after_inside word.Modify ws x e =
    four_inside item_reader queue_reader cpu_reader number_reader call.Modify (IsCall greatest_number)
    (λ i q c n small. ((small.0, small.1, small.2), small.3)) ws x e
call_after_inside word.Cancel ws x e =
    one_inside item_reader call.Cancel (IsCall greatest_number) (λ i small. small) ws x e
call_after_inside word.Tick ws x e =
    one_inside number_reader call.Tick (IsCall greatest_number) (λ n small. small) ws x e
call_after_inside word.Fire ws x e = none_inside call.Fire (IsCall greatest_number) tt ws x e
call_after_inside word.Flush ws x e =
    one_inside queue_reader call.Flush (IsCall greatest_number) (λ q small. small) ws x e
call_after_inside word.Drain ws x e =
    one_inside queue_reader call.Drain (IsCall greatest_number) (λ q small. small) ws x e
call_after_inside word.FlushItem ws x e =
    one_inside item_reader call.FlushItem (IsCall greatest_number) (λ i small. small) ws x e
call_after_inside word.FlushDelayed ws x e =
    one_inside item_reader call.FlushDelayed (IsCall greatest_number) (λ i small. small) ws x e
call_after_inside word.CancelSync ws x e =
    one_inside item_reader call.CancelSync (IsCall greatest_number) (λ i small. small) ws x e
call_after_inside word.End ws x e = one_inside wide_reader call.End (IsCall greatest_number) (λ n small. small) ws x e
call_after_inside word.Take ws x e = none_inside call.Take (IsCall greatest_number) tt ws x e
call_after_inside word.Finish ws x e = none_inside call.Finish (IsCall greatest_number) tt ws x e
call_after_inside word.Sleep ws x e = none_inside call.Sleep (IsCall greatest_number) tt ws x e
call_after_inside word.Wake ws x e = none_inside call.Wake (IsCall greatest_number) tt ws x e
call_after_inside word.Retire ws x e = none_inside call.Retire (IsCall greatest_number) tt ws x e
call_after_inside word.SetMax ws x e =
    two_inside queue_reader number_reader call.SetMax (IsCall greatest_number) (λ q n small. small) ws x e
call_after_inside word.Freeze ws x e = none_inside call.Freeze (IsCall greatest_number) tt ws x e
call_after_inside word.Thaw ws x e = none_inside call.Thaw (IsCall greatest_number) tt ws x e
call_after_inside word.Destroy ws x e =
    one_inside queue_reader call.Destroy (IsCall greatest_number) (λ q small. small) ws x e
call_after_inside k ws x e = absurd cc

pub call_inside : (ws : List (List ℕ)) (x : Call × List (List ℕ)) → call_in ws ≡ Some x → (IsCall greatest_number) x.0
call_inside ws x e = grind (arith, bind_some, call_after_inside)

-- ---- replies

ticket_with_inside : (n : ℕ) (k : Keyword) (ws : List (List ℕ)) (x : Reply × List (List ℕ)) → n ≤ greatest_number
    → ticket_with n k ws ≡ Some x → (IsReply greatest_number) x.0
unfolding ticket_with
ticket_with_inside n word.Queued ws x own e = none_inside (reply.TicketQueued n) (IsReply greatest_number) own ws x e
ticket_with_inside n word.Cancelled ws x own e =
    one_inside wide_reader (reply.TicketCancelled n) (IsReply greatest_number) (λ m small. (own, small)) ws x e
ticket_with_inside n word.Unbooked ws x own e =
    none_inside (reply.TicketUnbooked n) (IsReply greatest_number) own ws x e
ticket_with_inside n word.No ws x own e = none_inside (reply.TicketNo n) (IsReply greatest_number) own ws x e
ticket_with_inside n k ws x own e = absurd cc

ticket_after_inside : (n : ℕ) (ws : List (List ℕ)) (x : Reply × List (List ℕ)) → n ≤ greatest_number
    → ticket_after n ws ≡ Some x → (IsReply greatest_number) x.0
unfolding ticket_after
ticket_after_inside n ws x own e = grind (arith, bind_some, ticket_with_inside)

started_with_inside : (n : ℕ) (k : Keyword) (ws : List (List ℕ)) (x : Reply × List (List ℕ)) → n ≤ greatest_number
    → started_with n k ws ≡ Some x → (IsReply greatest_number) x.0
unfolding started_with
started_with_inside n k ws x own e = grind arith

started_after_inside : (n : ℕ) (ws : List (List ℕ)) (x : Reply × List (List ℕ)) → n ≤ greatest_number
    → started_after n ws ≡ Some x → (IsReply greatest_number) x.0
unfolding started_after
started_after_inside n ws x own e = grind (arith, bind_some, started_with_inside)

reply_after_inside : (k : Keyword) (ws : List (List ℕ)) (x : Reply × List (List ℕ)) → reply_after k ws ≡ Some x
    → (IsReply greatest_number) x.0
unfolding reply_after
reply_after_inside word.Yes ws x e =
    one_inside wide_reader reply.Yes (IsReply greatest_number) (λ n small. small) ws x e
reply_after_inside word.Booked ws x e =
    one_inside long_reader reply.Booked (IsReply greatest_number) (λ t small. small) ws x e
reply_after_inside word.Again ws x e =
    one_inside wide_reader reply.Again (IsReply greatest_number) (λ n small. small) ws x e
reply_after_inside word.Rebooked ws x e =
    one_inside long_reader reply.Rebooked (IsReply greatest_number) (λ t small. small) ws x e
reply_after_inside word.No ws x e = none_inside reply.No (IsReply greatest_number) tt ws x e
reply_after_inside word.Foreign ws x e = none_inside reply.Foreign (IsReply greatest_number) tt ws x e
reply_after_inside word.Draining ws x e = none_inside reply.Draining (IsReply greatest_number) tt ws x e
reply_after_inside word.Misuse ws x e = none_inside reply.Misuse (IsReply greatest_number) tt ws x e
reply_after_inside word.Cancelled ws x e =
    one_inside wide_reader reply.Cancelled (IsReply greatest_number) (λ n small. small) ws x e
reply_after_inside word.Unbooked ws x e = none_inside reply.Unbooked (IsReply greatest_number) tt ws x e
reply_after_inside word.Now ws x e =
    one_inside long_reader reply.Now (IsReply greatest_number) (λ t small. small) ws x e
reply_after_inside word.Fired ws x e =
    two_inside item_reader wide_reader reply.Fired (IsReply greatest_number) (λ i n small. small) ws x e
reply_after_inside word.Nothing ws x e = none_inside reply.Nothing (IsReply greatest_number) tt ws x e
reply_after_inside word.Ticket ws x e =
    let n = bind_some (wide_in ws) (λ (n : ℕ × List (List ℕ)). ticket_after n.0 n.1) x e in
    ticket_after_inside n.0.0 n.0.1 x (wide_reader.inside ws n.0 n.1) n.2
reply_after_inside word.Idle ws x e = none_inside reply.Idle (IsReply greatest_number) tt ws x e
reply_after_inside word.Crowded ws x e = none_inside reply.Crowded (IsReply greatest_number) tt ws x e
reply_after_inside word.Done ws x e = none_inside reply.Done (IsReply greatest_number) tt ws x e
reply_after_inside word.Waiting ws x e =
    one_inside wide_reader reply.Waiting (IsReply greatest_number) (λ n small. small) ws x e
reply_after_inside word.Started ws x e =
    let n = bind_some (wide_in ws) (λ (n : ℕ × List (List ℕ)). started_after n.0 n.1) x e in
    started_after_inside n.0.0 n.0.1 x (wide_reader.inside ws n.0 n.1) n.2
reply_after_inside word.Held ws x e = none_inside reply.Held (IsReply greatest_number) tt ws x e
reply_after_inside word.Finished ws x e =
    one_inside wide_reader reply.Finished (IsReply greatest_number) (λ n small. small) ws x e
reply_after_inside word.Slept ws x e = none_inside reply.Slept (IsReply greatest_number) tt ws x e
reply_after_inside word.Woke ws x e = none_inside reply.Woke (IsReply greatest_number) tt ws x e
reply_after_inside word.Retired ws x e = none_inside reply.Retired (IsReply greatest_number) tt ws x e
reply_after_inside word.Kept ws x e = none_inside reply.Kept (IsReply greatest_number) tt ws x e
reply_after_inside word.Width ws x e =
    one_inside number_reader reply.Width (IsReply greatest_number) (λ n small. small) ws x e
reply_after_inside word.Frozen ws x e = none_inside reply.Frozen (IsReply greatest_number) tt ws x e
reply_after_inside word.Thawed ws x e = none_inside reply.Thawed (IsReply greatest_number) tt ws x e
reply_after_inside word.Gone ws x e = none_inside reply.Gone (IsReply greatest_number) tt ws x e
reply_after_inside word.Timers ws x e = none_inside reply.Timers (IsReply greatest_number) tt ws x e
reply_after_inside k ws x e = absurd cc

pub reply_inside : (ws : List (List ℕ)) (x : Reply × List (List ℕ)) → reply_in ws ≡ Some x
    → (IsReply greatest_number) x.0
reply_inside ws x e = grind (arith, bind_some, reply_after_inside)

-- ---- whole lines

pub call_line_inside : (line : List ℕ) (x : Who × Call) → call_read line ≡ Some x
    → IsWho x.0 × (IsCall greatest_number) x.1
unfolding call_read
call_line_inside line x e = grind (arith, bind_some, chosen, who_inside, call_inside)

pub entry_inside : (line : List ℕ) (e : Entry) → entry_of line ≡ Some e → (IsEntry greatest_number) e
unfolding entry_of
entry_inside line e is = grind (arith, bind_some, chosen, who_inside, wide_inside, call_inside, reply_inside)

pub entry_of_format_inside : (v : ℕ) (line : List ℕ) (e : Entry) → entry_of_format v line ≡ Some e
    → (IsEntry greatest_number) e
unfolding entry_of_format
entry_of_format_inside v line e is =
    let read = bind_some (entry_of line) (λ (e : Entry). cond (allows_entry v e) (Some e) None) e is in
    let found = chosen (allows_entry v read.0) (Some read.0) e read.2 in
    entry_inside line e (read.1 ∙ found.1)

-- ---- what formats 1 and 2 and files of calls have

is_short_as : (n : ℕ) → n ≤ greatest → is_short n ≡ true
is_short_as n h = le-leb n greatest h

short_call_is : (c : Call) → (IsCall greatest) c → is_short_call c ≡ true
short_call_is c h = grind arith

short_reply_is : (r : Reply) → (IsReply greatest) r → is_short_reply r ≡ true
short_reply_is r h = grind arith

pub short_entry_is : (e : Entry) → (IsEntry greatest) e → is_short_entry e ≡ true
short_entry_is e h =
    both_true (both_true (is_short_as e.serial h.serial) (short_call_is e.call h.call)) (short_reply_is e.reply h.reply)

wide_call : (c : Call) → (IsCall greatest) c → (IsCall greatest_number) c
wide_call c h = grind arith

wide_reply : (r : Reply) → (IsReply greatest) r → (IsReply greatest_number) r
wide_reply r h = grind arith

pub wide_entry : (e : Entry) → (IsEntry greatest) e → (IsEntry greatest_number) e
wide_entry e h =
    record {
      who = h.who;
      serial = let most = h.serial in omega arith;
      call = wide_call e.call h.call;
      reply =
          wide_reply e.reply h.reply;
    }

-- so what a history of format 1 or 2 says has short numbers, and what a file of calls says
pub allowed_short : (v : ℕ) (e : Entry) → v ≤ 2 → allows_entry v e ≡ true → is_short_entry e ≡ true
allowed_short v e h is = grind arith

-- a call that a file of calls of a format says has the numbers of that format, and one with these is of the format
module _ (v : ℕ) where
  limited_call : (b : Bool) (c : Call) → (IsCall greatest_number) c → (b || is_short_call c) ≡ true
      → (IsCall (if b then greatest_number else greatest)) c
  limited_call b c h is = grind arith

  limited_is : (b : Bool) (c : Call) → (IsCall (if b then greatest_number else greatest)) c
      → (b || is_short_call c) ≡ true
  limited_is b c h = grind arith

  limited_wide : (b : Bool) (c : Call) → (IsCall (if b then greatest_number else greatest)) c
      → (IsCall greatest_number) c
  limited_wide b c h = grind arith

  pub call_of_format_inside : (line : List ℕ) (x : Who × Call) → call_of_format v line ≡ Some x
      → IsWho x.0 × (IsCall (number_limit v)) x.1
  unfolding call_of_format of_version
  call_of_format_inside line x is =
      let read = bind_some (call_read line) (λ (y : Who × Call). cond (allows_call v y.1) (Some y) None) x is in
      let found = chosen (allows_call v read.0.1) (Some read.0) x read.2 in
      let inside = call_line_inside line read.0 read.1 in
      subst (λ (y : Who × Call). IsWho y.0 × (IsCall (number_limit v)) y.1) (same_Some read.0 x found.1)
      (inside.0, limited_call (nat_le 3 v) read.0.1 inside.1 found.0)

  pub allowed_call : (c : Call) → (IsCall (number_limit v)) c → allows_call v c ≡ true
  unfolding of_version
  allowed_call c h = limited_is (nat_le 3 v) c h

  pub wide_call_of : (c : Call) → (IsCall (number_limit v)) c → (IsCall greatest_number) c
  unfolding of_version
  wide_call_of c h = limited_wide (nat_le 3 v) c h
