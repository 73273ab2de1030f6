-- What one mark makes of a version.
use Rattle.cmwq_publish.specs.Common.{◌≡◌, ℕ, ◌+◌, ◌<◌, List, [], ◌∷◌, ◌++◌, length, Bool, Option, refl, sym, ap, ◌∙◌}
use Rattle.cmwq_publish.specs.Common.{subst, arith, length-set, fold, get_or-replicate, length-replicate, nat_tests}
use Rattle.cmwq_publish.specs.Common.{◌==◌, option_map, if◌then◌else◌, replicate, slice_index, Some, None, TurnsAt}
use Rattle.cmwq_publish.specs.Common.{Book, CallerId, ItemId, Caller, Entry, Mark, Layout, is_at, serial_of, past_of}
use Rattle.cmwq_publish.specs.Common.{bits}
use Rattle.std.proofs.lemmas.Grind.{common_steps}
use Rattle.logbook.specs.declared.tokens.Seen.{Seen}
use Rattle.cmwq_publish.specs.declared.log.Law.{Law}
use Rattle.cmwq_publish.specs.declared.versions.Versions.{Versions}
use Rattle.cmwq_publish.specs.declared.versions.Known.{Known}
use Rattle.cmwq_publish.specs.declared.versions.Publish.{Publish}
use Rattle.cmwq_publish.specs.Marked.{bits_with_mark, counts_with_entry, put_at, caller_number_of}
use Rattle.cmwq_publish.specs.Next.{IsNextMark}
use Rattle.cmwq_publish.specs.Published.{HoldVersions, AreVersions, IsMadeBy, AreVersionsOf, FollowsVersions, Sees}
use Rattle.cmwq_publish.proofs.Legally.{none_is_legal, none_leave_no_bits, next_serial, own_serial}
use Rattle.cmwq_publish.proofs.Places.{turns}
use Rattle.cmwq_model.proofs.Growing.{one_more_is_newest}

-- what the two copies have in common, and what a mark does to it
abbrev pub State : Type 0
State = Layout × List ℕ × List ℕ × ℕ × Seen Entry ℕ Law

abbrev pub state_of : Versions → State
state_of v = (v.shape, v.bits.items, v.serials.items, v.len, v.seen)

abbrev pub absorbed : State → Publish → State
absorbed s op = (s.0, bits_with_mark s.1 op.item op.bits, counts_with_entry s.2 op.caller op.serial, op.len, op.seen)

pub made_by : (x y : Versions) (op : Publish) (ops : List Publish) → ops ≡ op ∷ []
    → state_of y ≡ fold absorbed (state_of x) ops → IsMadeBy x op y
made_by x y op ops one all =
    let is : state_of y ≡ absorbed (state_of x) op =
    all ∙ ap (λ (os : List Publish). fold absorbed (state_of x) os) one in
    record {
      shape = ap (λ (s : State). s.0) is;
      bits = ap (λ (s : State). s.1) is;
      serials =
          ap (λ (s : State). s.2) is;
      len = ap (λ (s : State). s.3) is;
      seen = ap (λ (s : State). s.4) is;
    }

-- the publish of a mark that follows keeps the rule
pub turns_by : (place : ℕ) (v : Option Known) (x y : Versions) (op : Publish) → FollowsVersions x op → IsMadeBy x op y
    → TurnsAt HoldVersions place v x y Sees
turns_by place v x y op follows made =
    turns place v x y (follows.1 y made) made.shape (ap (λ s. s.book) made.seen ∙ follows.0)

length_put : (xs : List ℕ) (place : Option ℕ) (b : ℕ) → length (put_at xs place b) ≡ length xs
length_put xs None b = refl
length_put xs (Some k) b = length-set xs k b

-- the mark's item is this one
abbrev is_named : Option ItemId → ℕ → Bool
is_named item i = is_at (option_map (λ (t : ItemId). t.0) item) i

-- each place has its new number once the named one has its own
put_are : (xs : List ℕ) (n : ℕ) (place : Option ℕ) (b : ℕ) (old new : ℕ → ℕ) → length xs ≡ n
    → ((i : ℕ) → i < n → slice_index xs i ≡ old i) → ((i : ℕ) → new i ≡ (if is_at place i then b else old i))
    → (i : ℕ) → i < n → slice_index (put_at xs place b) i ≡ new i
put_are xs n None b old new len was is i lt = was i lt ∙ sym (is i)
put_are xs n (Some k) b old new len was is i lt =
    let w = was i lt in
    let s : new i ≡ (if k == i then b else old i) = is i in
    grind (arith, nat_tests, common_steps)

-- the mark of the next entry follows
pub next_follows : (x : Versions) (s : Layout) (book : Book) (log : List Entry) (m : Mark) (op : Publish)
    → IsNextMark s log m → AreVersionsOf s book x → x.seen.log ≡ log
    → op.item ≡ m.item → op.bits ≡ m.bits → op.caller ≡ caller_number_of m.entry.who → op.serial ≡ m.entry.serial + 1
    → op.len ≡ length (log ++ m.entry ∷ []) → op.seen.book ≡ book → op.seen.log ≡ log ++ m.entry ∷ []
    → FollowsVersions x op
next_follows x s book log m op next of log_is item bits_is caller serial len book_is longer = (book_is ∙ sym of.1, go)
  where
    go : (y : Versions) → IsMadeBy x op y → AreVersions x → AreVersions y
    go y made is =
        let seen : y.seen.log ≡ log ++ m.entry ∷ [] = ap (λ t. t.log) made.seen ∙ longer in
        let shape : y.shape ≡ s = made.shape ∙ of.0 in
        let was : (i : ℕ) → i < x.shape.items → slice_index x.bits.items i ≡ bits (past_of log) i =
        λ i lt. is.bits_are i lt ∙ ap (λ l. bits (past_of l) i) log_is in
        let counts : (c : ℕ) → c < x.shape.callers
        → slice_index x.serials.items c ≡ serial_of (past_of log) (Caller (record { 0 = c })) =
        λ c lt. is.serials_are c lt ∙ ap (λ l. serial_of (past_of l) (Caller (record { 0 = c }))) log_is in
        let leaves : (i : ℕ)
        → bits (m.entry ∷ past_of log) i ≡ (if is_named op.item i then m.bits else bits (past_of log) i) =
        λ i. subst (λ (t : Option ItemId). bits (m.entry ∷ past_of log) i
        ≡ (if is_named t i then m.bits else bits (past_of log) i)) (sym item) (next.bits_are i) in
        let past : past_of y.seen.log ≡ m.entry ∷ past_of log = ap past_of seen ∙ one_more_is_newest log m.entry in
        record {
          legal = rw (shape, past) next.legal;
          len_is = made.len ∙ len ∙ ap length (sym seen);
          items = ap length made.bits ∙ length_put x.bits.items (option_map (λ (i : ItemId). i.0) op.item) op.bits
              ∙ is.items ∙ ap (λ (l : Layout). l.items) (sym made.shape);
          bits_are =
              (λ i lt. rw (made.bits, bits_is, past)
              (put_are x.bits.items x.shape.items (option_map (λ (t : ItemId). t.0) op.item) m.bits (bits (past_of log))
              (bits (m.entry ∷ past_of log)) is.items was leaves i
              (subst (λ (l : Layout). i < l.items) made.shape lt)));
          callers =
              ap length made.serials ∙ length_put x.serials.items (option_map (λ (c : CallerId). c.0) op.caller)
              op.serial ∙ is.callers ∙ ap (λ (l : Layout). l.callers) (sym made.shape);
          serials_are =
              (λ c lt. rw (made.serials, serial, caller, past)
              (put_are x.serials.items x.shape.callers
              (option_map (λ (t : CallerId). t.0) (caller_number_of m.entry.who)) (m.entry.serial + 1)
              (λ k. serial_of (past_of log) (Caller (record { 0 = k })))
              (λ k. serial_of (m.entry ∷ past_of log) (Caller (record { 0 = k }))) is.callers counts
              (λ k. next_serial (past_of log) m.entry m.entry.who k refl
              (own_serial s (past_of log) m.entry next.legal)) c
              (subst (λ (l : Layout). c < l.callers) made.shape lt)));
        }

-- the version without entries
pub none_is_version : (x : Versions) → x.seen.log ≡ [] → x.len ≡ 0 → x.bits.items ≡ replicate x.shape.items 0
    → x.serials.items ≡ replicate x.shape.callers 0 → AreVersions x
none_is_version x none len zeros counts = record {
  legal = none_is_legal x.shape x.seen.log none;
  len_is = len ∙ ap length (sym none);
  items = ap length zeros ∙ length-replicate x.shape.items 0;
  bits_are =
      (λ i lt. ap (λ (l : List ℕ). slice_index l i) zeros ∙ get_or-replicate x.shape.items i 0 0 lt
      ∙ sym (none_leave_no_bits x.seen.log i none));
  callers = ap length counts ∙ length-replicate x.shape.callers 0;
  serials_are =
      (λ c lt. ap (λ (l : List ℕ). slice_index l c) counts ∙ get_or-replicate x.shape.callers c 0 0 lt
      ∙ ap (λ l. serial_of (past_of l) (Caller (record { 0 = c }))) (sym none));
}
