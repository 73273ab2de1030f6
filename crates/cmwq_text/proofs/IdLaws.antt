-- Ids that are spelled are read again, and what is read as an id is spelled so, unless it is the greatest of its type.
use Rattle.cmwq_text.specs.Common.{◌≡◌, ℕ, suc, ◌+◌, ◌<◌, ◌≤◌, ◌^◌, Bool, true, false, List, [], ◌∷◌, ◌++◌, length}
use Rattle.cmwq_text.specs.Common.{get_or, take, drop, eqb, Option, Some, None, refl, ap, sym, ◌∙◌, arith, cond, subst}
use Rattle.cmwq_text.specs.Common.{add-one, append_assoc, ◌⊎◌, position, decimal, position_or_len, lt-ltb, ne_eqb}
use Rattle.cmwq_text.specs.Common.{same_Some, length-append, get_or_append_left, take_at, drop_at, position_or_len_is}
use Rattle.cmwq_text.specs.Common.{digits_decimal, not_in_digits, ItemId, QueueId, CpuId, Who, Caller, Worker, greatest}
use Rattle.cmwq_text.specs.Common.{greatest_long, greatest_byte, greatest_short, IsWho}
use Rattle.std.proofs.Math.Seq.{split_at, get_or-append_seam}
use Rattle.std.proofs.lemmas.List.Quantifiers.{position-Some}
use Rattle.cmwq_text.specs.Numbers.{number_read, byte_of, greatest_number}
use Rattle.cmwq_text.specs.Words.{◌>>=◌, take_one, byte_in, byte_count_in, short_count_in, short_in, number_in, wide_in}
use Rattle.cmwq_text.specs.Words.{long_in}
use Rattle.cmwq_text.specs.IdText.{item, queue_numbered, cpu, worker_numbered, item_in, queue_in, cpu_in, pool_letter}
use Rattle.cmwq_text.specs.IdText.{is_pool_letter, who_text, caller_read, worker_read, who_read, who_in}
use Rattle.cmwq_text.proofs.Steps.{bind_some}
use Rattle.cmwq_text.proofs.NumberLaws.{own, number_again, number_takes, byte_again, byte_takes, short_again}
use Rattle.cmwq_text.proofs.NumberLaws.{short_takes}
use Rattle.cmwq_text.proofs.WordLaws.{word_takes, is_plain, is_plain-append, is_plain-decimal}

-- ---- numbers, items, queues and CPUs

pub number_in_again : (n : ℕ) (ws : List (List ℕ)) → n ≤ greatest → number_in (decimal n ∷ ws) ≡ Some (n, ws)
number_in_again n ws le = rw (number_again greatest n le (omega arith)) refl

pub wide_in_again : (n : ℕ) (ws : List (List ℕ)) → n ≤ greatest_number → wide_in (decimal n ∷ ws) ≡ Some (n, ws)
wide_in_again n ws le = rw (number_again greatest_number n le (omega arith)) refl

pub long_in_again : (n : ℕ) (ws : List (List ℕ)) → n ≤ greatest_long → long_in (decimal n ∷ ws) ≡ Some (n, ws)
long_in_again n ws le = rw (number_again greatest_long n le (omega arith)) refl

pub byte_in_again : (n : ℕ) (ws : List (List ℕ)) → n ≤ greatest_byte → byte_in (decimal n ∷ ws) ≡ Some (n, ws)
byte_in_again n ws le = rw (byte_again n le) refl

pub item_again : (i : ItemId) (ws : List (List ℕ)) → i.0 ≤ greatest_short → item_in (decimal i.0 ∷ ws) ≡ Some (i, ws)
item_again i ws le = rw (short_again i.0 le) refl

pub queue_again : (q : QueueId) (ws : List (List ℕ)) → q.0 ≤ greatest_byte → queue_in (decimal q.0 ∷ ws) ≡ Some (q, ws)
queue_again q ws le = rw (byte_again q.0 le) refl

pub cpu_again : (c : CpuId) (ws : List (List ℕ)) → c.0 ≤ greatest_byte → cpu_in (decimal c.0 ∷ ws) ≡ Some (c, ws)
cpu_again c ws le = rw (byte_again c.0 le) refl

pub byte_count_again : (n : ℕ) (ws : List (List ℕ)) → n ≤ greatest_byte → byte_count_in (decimal n ∷ ws) ≡ Some (n, ws)
byte_count_again n ws le = rw (number_again greatest_byte n le (omega arith)) refl

pub short_count_again : (n : ℕ) (ws : List (List ℕ)) → n ≤ greatest_short
    → short_count_in (decimal n ∷ ws) ≡ Some (n, ws)
short_count_again n ws le = rw (number_again greatest_short n le (omega arith)) refl

pub byte_count_takes : (ws : List (List ℕ)) (x : ℕ × List (List ℕ)) → byte_count_in ws ≡ Some x → ws ≡ decimal x.0 ∷ x.1
byte_count_takes ws x e = grind (arith, word_takes, number_read, number_takes)

pub short_count_takes : (ws : List (List ℕ)) (x : ℕ × List (List ℕ)) → short_count_in ws ≡ Some x
    → ws ≡ decimal x.0 ∷ x.1
short_count_takes ws x e = grind (arith, word_takes, number_read, number_takes)

pub number_in_takes : (ws : List (List ℕ)) (x : ℕ × List (List ℕ)) → number_in ws ≡ Some x → ws ≡ decimal x.0 ∷ x.1
number_in_takes ws x e = grind (arith, word_takes, number_read, number_takes)

pub wide_in_takes : (ws : List (List ℕ)) (x : ℕ × List (List ℕ)) → wide_in ws ≡ Some x → ws ≡ decimal x.0 ∷ x.1
wide_in_takes ws x e = grind (arith, word_takes, number_read, number_takes)

pub long_in_takes : (ws : List (List ℕ)) (x : ℕ × List (List ℕ)) → long_in ws ≡ Some x → ws ≡ decimal x.0 ∷ x.1
long_in_takes ws x e = grind (arith, word_takes, number_read, number_takes)

pub byte_in_takes : (ws : List (List ℕ)) (x : ℕ × List (List ℕ)) → byte_in ws ≡ Some x → x.0 < greatest_byte
    → ws ≡ decimal x.0 ∷ x.1
byte_in_takes ws x e lt = grind (arith, word_takes, byte_takes)

pub short_in_takes : (ws : List (List ℕ)) (x : ℕ × List (List ℕ)) → short_in ws ≡ Some x → x.0 < greatest_short
    → ws ≡ decimal x.0 ∷ x.1
short_in_takes ws x e lt = grind (arith, word_takes, short_takes)

-- an id is the number of its word
made : {A : Type 0} (read : List (List ℕ) → Option (ℕ × List (List ℕ))) (make : ℕ → A) (ws : List (List ℕ))
    (x : A × List (List ℕ)) → take_one read make ws ≡ Some x → (n : ℕ × List (List ℕ)) × (read ws ≡ Some n)
    × ((make n.0, n.1) ≡ x)
made {A} read make ws x e = grind arith

pub item_takes : (ws : List (List ℕ)) (x : ItemId × List (List ℕ)) → item_in ws ≡ Some x → x.0.0 < greatest_short
    → ws ≡ decimal x.0.0 ∷ x.1
item_takes ws x e =
    let n = made short_in item ws x e in
    subst (λ (y : ItemId × List (List ℕ)). y.0.0 < greatest_short → ws ≡ decimal y.0.0 ∷ y.1) n.2
    (short_in_takes ws n.0 n.1)

pub queue_takes : (ws : List (List ℕ)) (x : QueueId × List (List ℕ)) → queue_in ws ≡ Some x → x.0.0 < greatest_byte
    → ws ≡ decimal x.0.0 ∷ x.1
queue_takes ws x e =
    let n = made byte_in queue_numbered ws x e in
    subst (λ (y : QueueId × List (List ℕ)). y.0.0 < greatest_byte → ws ≡ decimal y.0.0 ∷ y.1) n.2
    (byte_in_takes ws n.0 n.1)

pub cpu_takes : (ws : List (List ℕ)) (x : CpuId × List (List ℕ)) → cpu_in ws ≡ Some x → x.0.0 < greatest_byte
    → ws ≡ decimal x.0.0 ∷ x.1
cpu_takes ws x e =
    let n = made byte_in cpu ws x e in
    subst (λ (y : CpuId × List (List ℕ)). y.0.0 < greatest_byte → ws ≡ decimal y.0.0 ∷ y.1) n.2
    (byte_in_takes ws n.0 n.1)

-- ---- callers and workers

letter_is : (high : Bool) → is_pool_letter (pool_letter high) ≡ true
letter_is high = grind arith

letter_says : (high : Bool) → eqb (pool_letter high) 104 ≡ high
letter_says high = grind arith

letter_back : (b : ℕ) → is_pool_letter b ≡ true → b ≡ pool_letter (eqb b 104)
letter_back b e = grind arith

letter_is_plain : (high : Bool) → is_plain (pool_letter high ∷ []) ≡ true
letter_is_plain high = grind arith

-- no digit is the letter of a pool
digit_is_none : (n i d : ℕ) → n < 2 ^ 64 → i < length (decimal n) → is_pool_letter (get_or (decimal n) i 0) ≡ false
digit_is_none n i d lt inside =
    let digits = digits_decimal own n lt in
    let not_n = not_in_digits own (decimal n) 110 digits (λ r. absurd (omega (arith, r))) i inside in
    let not_h = not_in_digits own (decimal n) 104 digits (λ r. absurd (omega (arith, r))) i inside in
    rw (ne_eqb (get_or (decimal n) i 0) 110 not_n, ne_eqb (get_or (decimal n) i 0) 104 not_h) refl

position_is : (p : ℕ → Bool) (xs : List ℕ) (k : ℕ) → position_or_len p xs ≡ k → k < length xs → position p xs ≡ Some k
position_is p xs k e lt = rw (e, lt-ltb k (length xs) lt) refl

letter_at : (c letter : ℕ) (rest : List ℕ) → c < 2 ^ 64 → is_pool_letter letter ≡ true
    → position is_pool_letter (decimal c ++ letter ∷ rest) ≡ Some (length (decimal c))
letter_at c letter rest lt is =
    let xs : List ℕ = decimal c ++ letter ∷ rest in
    let len : length xs ≡ length (decimal c) + suc (length rest) = length-append (decimal c) (letter ∷ rest) in
    let first : position_or_len is_pool_letter xs ≡ length (decimal c) =
    position_or_len_is is_pool_letter xs (length (decimal c)) 0 (omega (arith, len))
    (λ i below. rw (get_or_append_left (decimal c) (letter ∷ rest) 0 i below) (digit_is_none c i 0 lt below))
    (λ inside. rw (get_or-append_seam (decimal c) letter rest 0) is) in
    position_is is_pool_letter xs (length (decimal c)) first (omega (arith, len))

-- the worker whose pool has its letter at l
abbrev pub read_at : List ℕ → ℕ → Option Who
read_at name l = do
  c ← byte_of (take l name)
  x ← byte_of (drop (l + 1) name)
  Some (worker_numbered c (eqb (get_or name l 0) 104) x)

read_is : (name a b : List ℕ) (l c x : ℕ) (high : Bool) → take l name ≡ a → drop (l + 1) name ≡ b
    → eqb (get_or name l 0) 104 ≡ high → byte_of a ≡ Some c → byte_of b ≡ Some x
    → read_at name l ≡ Some (worker_numbered c high x)
read_is name a b l c x high before behind says first second = rw (before, behind, says, first, second) refl

worker_again : (c x : ℕ) (high : Bool) → c ≤ greatest_byte → x ≤ greatest_byte
    → worker_read (decimal c ++ pool_letter high ∷ decimal x) ≡ Some (worker_numbered c high x)
unfolding worker_read
worker_again c x high small_c small_x =
    let k : ℕ = length (decimal c) in
    let letter : ℕ = pool_letter high in
    let name : List ℕ = decimal c ++ letter ∷ decimal x in
    let grouped : name ≡ (decimal c ++ letter ∷ []) ++ decimal x =
    sym (append_assoc (decimal c) (letter ∷ []) (decimal x)) in
    let behind : drop (k + 1) name ≡ decimal x =
    ap (drop (k + 1)) grouped
    ∙ drop_at (decimal c ++ letter ∷ []) (decimal x) (k + 1) (length-append (decimal c) (letter ∷ [])) in
    let says : eqb (get_or name k 0) 104 ≡ high =
    rw (get_or-append_seam (decimal c) letter (decimal x) 0) (letter_says high) in
    ap (λ (o : Option ℕ). o >>= read_at name) (letter_at c letter (decimal x) (omega arith) (letter_is high))
    ∙ read_is name (decimal c) (decimal x) k c x high (take_at (decimal c) (letter ∷ decimal x) k refl) behind says
    (byte_again c small_c) (byte_again x small_x)

pub who_again : (who : Who) → IsWho who → who_read (who_text who) ≡ Some who
unfolding who_read
who_again who h = grind (arith, byte_again, worker_again)

-- ids that aren't the greatest of their types
abbrev pub IsKnownWho : Who → Type 0
IsKnownWho (Caller c) = c.0 < greatest_byte
IsKnownWho (Worker w) = (w.pool.cpu.0 < greatest_byte) × (w.index < greatest_byte)

worker_is : (name : List ℕ) (who : Who) → worker_read name ≡ Some who → IsKnownWho who → 119 ∷ name ≡ who_text who
unfolding worker_read
worker_is name who e =
    let l = bind_some (position is_pool_letter name) (read_at name) who e in
    let c = bind_some (byte_of (take l.0 name))
    (λ (c : ℕ). byte_of (drop (l.0 + 1) name) >>= λ (x : ℕ). Some
    (worker_numbered c (eqb (get_or name l.0 0) 104) x)) who l.2 in
    let x = bind_some (byte_of (drop (l.0 + 1) name))
    (λ (x : ℕ). Some (worker_numbered c.0 (eqb (get_or name l.0 0) 104) x)) who c.2 in
    let at = position-Some is_pool_letter name l.0 0 l.1 in
    let cut : name ≡ take l.0 name ++ get_or name l.0 0 ∷ drop (l.0 + 1) name = rw add-one (split_at name l.0 0 at.0) in
    subst (λ (w : Who). IsKnownWho w → 119 ∷ name ≡ who_text w) (same_Some _ _ x.2)
    (λ (known : (c.0 < greatest_byte) × (x.0 < greatest_byte)).
    ap (λ (t : List ℕ). 119 ∷ t)
    (pieces name (take l.0 name) (drop (l.0 + 1) name) (decimal c.0) (decimal x.0) (get_or name l.0 0) cut
    (byte_takes c.0 _ c.1 known.0) (byte_takes x.0 _ x.1 known.1) at.1))
  where
    pieces : (name a b c x : List ℕ) (letter : ℕ) → name ≡ a ++ letter ∷ b → a ≡ c → b ≡ x
        → is_pool_letter letter ≡ true → name ≡ c ++ pool_letter (eqb letter 104) ∷ x
    pieces name a b c x letter cut first second is =
        cut ∙ rw (first, second) (ap (λ (k : ℕ). c ++ k ∷ x) (letter_back letter is))

caller_is : (name : List ℕ) (who : Who) → caller_read name ≡ Some who → IsKnownWho who → 99 ∷ name ≡ who_text who
caller_is name who e = grind (arith, bind_some, byte_takes)

-- which of the two a name is
pub first_says : (c w : Bool) (a b : Option Who) (who : Who) → cond c a (cond w b None) ≡ Some who
    → ((c ≡ true) × (a ≡ Some who)) ⊎ ((w ≡ true) × (b ≡ Some who))
first_says c w a b who e = grind arith

pub who_is : (w : List ℕ) (who : Who) → who_read w ≡ Some who → IsKnownWho who → w ≡ who_text who
unfolding who_read
who_is w who e known = grind (arith, first_says, caller_is, worker_is)

pub who_takes : (ws : List (List ℕ)) (x : Who × List (List ℕ)) → who_in ws ≡ Some x → IsKnownWho x.0
    → ws ≡ who_text x.0 ∷ x.1
who_takes ws x e known = grind (arith, word_takes, who_is)

pub is_plain-who : (who : Who) → IsWho who → is_plain (who_text who) ≡ true
is_plain-who who h = grind (arith, is_plain-decimal, is_plain-append, letter_is_plain)
