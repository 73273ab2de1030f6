-- What became active is listed one after the other.
use Rattle.cmwq_state.specs.Common.{◌≡◌, ℕ, zero, suc, ◌+◌, ◌*◌, ◌<◌, ◌||◌, Bool, true, false, List, [], ◌∷◌, ◌++◌}
use Rattle.cmwq_state.specs.Common.{length, filter, take, drop, cond, get_or, refl, sym, ap, ap₂, ◌∙◌, arith, subst}
use Rattle.cmwq_state.specs.Common.{IsTrue, not, nat_lt, eq-eqb, ◌&&◌, if◌then◌else◌, list_any, drop_more, and_parts}
use Rattle.cmwq_state.specs.Common.{not-true, PoolId, Queueing, QueueShape, Layout, pool_at, is_in, PoolState, Task}
use Rattle.cmwq_state.specs.Common.{lists_item, may_add, pool_numbered, pool_with_task, pool_after_activation}
use Rattle.cmwq_state.specs.Common.{MayAllBeAdded, task_for}
use Rattle.std.proofs.lemmas.Bool.{false_from_ne_true, false≢true}
use Rattle.std.proofs.lemmas.List.{take-append-drop}
use Rattle.std.proofs.lemmas.List.Elements.{filter-append}
use Rattle.cmwq_lemmas.proofs.Truth.{or_true}
use Rattle.cmwq_pool.specs.Slots.{is_task_of}
use Rattle.cmwq_refinement.proofs.PoolSlots.{pool_itself}
use Rattle.cmwq_state.specs.Tables.{only, those_in, pool_in, pool_place, pool_listing, EachPool, ListEachItemOnce}
use Rattle.cmwq_state.specs.Tables.{MayListOne, IsListable}

may_first : (queues : List QueueShape) (p : PoolId) (x : Queueing) (xs : List Queueing) (l : PoolState)
    → is_in (only queues) p x ≡ true → MayAllBeAdded (only queues) (those_in queues p (x ∷ xs)) l
    → IsTrue (may_add l x.item.0)
may_first queues p x xs l here may =
    (subst (λ b.
    MayAllBeAdded (only queues) (cond b (x ∷ filter (is_in (only queues) p) xs) (filter (is_in (only queues) p) xs)) l)
    here may).0

-- ---- each place is that of a pool

pub record IsPlace (k : ℕ) : Type 0 where
  pub pool : PoolId
  pub place : pool_place pool ≡ k

pub pool_of_place : (k : ℕ) → IsPlace k
pool_of_place zero = record { pool = record { cpu = record { 0 = 0 }; high = false }; place = refl }
pool_of_place (suc k) = let last = pool_of_place k in by last.pool.cpu.0 last.pool.high last.place
  where
    by : (c : ℕ) (b : Bool) → 2 * c + (if b then 1 else 0) ≡ k → IsPlace (suc k)
    by c true h = record { pool = record { cpu = record { 0 = c + 1 }; high = false }; place = omega arith }
    by c false h = record { pool = record { cpu = record { 0 = c }; high = true }; place = omega arith }

none_listing : (test : PoolState → Bool) (pools : List PoolState)
    → ((k : ℕ) → k < length pools → test (pool_numbered pools k) ≡ false) → list_any test pools ≡ false
none_listing test [] h = refl
none_listing test (l ∷ pools) h =
    ap₂ (λ a b. a || b) (h 0 (omega arith)) (none_listing test pools (λ k less. h (suc k) (omega arith)))

-- ---- what is listed stays listed

any_more : (p : Task → Bool) (ts us : List Task) → list_any p ts ≡ true → list_any p (ts ++ us) ≡ true
any_more p [] us h = cc
any_more p (t ∷ ts) us h = grind (arith, any_more p ts us)

stays_listed : (s : Layout) (i : ℕ) (xs : List Queueing) (l : PoolState) → lists_item i l ≡ true
    → lists_item i (pool_after_activation s xs l) ≡ true
stays_listed s i [] l h = h
stays_listed s i (x ∷ xs) l h =
    stays_listed s i xs (pool_with_task l (task_for s x)) (any_more (is_task_of i) l.listed (task_for s x ∷ []) h)

any_last : (p : Task → Bool) (ts : List Task) (t : Task) → p t ≡ true → list_any p (ts ++ t ∷ []) ≡ true
any_last p [] t h = ap (λ b. b || false) h
any_last p (u ∷ ts) t h = ap (λ b. p u || b) (any_last p ts t h) ∙ or_true (p u)

activation_joined : (s : Layout) (xs ys : List Queueing) (l : PoolState) → pool_after_activation s (xs ++ ys) l
    ≡ pool_after_activation s ys (pool_after_activation s xs l)
activation_joined s [] ys l = refl
activation_joined s (x ∷ xs) ys l = activation_joined s xs ys (pool_with_task l (task_for s x))

-- ---- one after the other

module _ (queues : List QueueShape) (old pools : List PoolState) (xs : List Queueing) (i : ℕ)
    (applied : EachPool (λ p. pool_after_activation (only queues) (those_in queues p (take i xs))) old pools) where
  later : (p : PoolId)
      → pool_listing queues xs old p
      ≡ pool_after_activation (only queues) (those_in queues p (drop i xs)) (pool_in pools p)
  later p =
      ap (λ ys. pool_after_activation (only queues) (those_in queues p ys) (pool_in old p))
      (sym (take-append-drop i xs))
      ∙ (ap (λ ys. pool_after_activation (only queues) ys (pool_in old p))
      (filter-append (is_in (only queues) p) (take i xs) (drop i xs))
      ∙ (activation_joined (only queues) (those_in queues p (take i xs)) (those_in queues p (drop i xs)) (pool_in old p)
      ∙ ap (pool_after_activation (only queues) (those_in queues p (drop i xs))) (sym (applied.each p))))

  pub may_list_next : (d : Queueing) → i < length xs → IsListable queues pools (get_or xs i d)
      → ((p : PoolId) → MayAllBeAdded (only queues) (those_in queues p (drop i xs)) (pool_in pools p))
      → ListEachItemOnce queues xs old → MayListOne queues (get_or xs i d) pools
  may_list_next d inside there may once =
      record {
        there = there;
        may =
            ap₂ (λ a b. a && not b) parts.0 (none_listing (lists_item x.item.0) pools unlisted);
      }
    where
      x : Queueing
      x = get_or xs i d

      own : PoolId
      own = pool_at (only queues) x.place

      is_own : is_in (only queues) own x ≡ true
      is_own = pool_itself (record { pool = own; index = 0 })

      may_own : MayAllBeAdded (only queues) (those_in queues own (x ∷ drop (i + 1) xs)) (pool_in pools own)
      may_own =
          subst (λ ys. MayAllBeAdded (only queues) (those_in queues own ys) (pool_in pools own))
          (drop_more xs i d inside) (may own)

      first : IsTrue (may_add (pool_in pools own) x.item.0)
      first = may_first queues own x (drop (i + 1) xs) (pool_in pools own) is_own may_own

      parts : (nat_lt x.item.0 (pool_in pools own).items ≡ true)
          × (not (lists_item x.item.0 (pool_in pools own)) ≡ true)
      parts = and_parts _ _ first

      -- in the end its own pool lists it
      own_lists : lists_item x.item.0 (pool_listing queues xs old own) ≡ true
      own_lists =
          ap (lists_item x.item.0)
          (later own
          ∙ (ap (λ ys. pool_after_activation (only queues) (those_in queues own ys) (pool_in pools own))
          (drop_more xs i d inside)
          ∙ ap (λ b. pool_after_activation (only queues)
          (cond b (x ∷ those_in queues own (drop (i + 1) xs)) (those_in queues own (drop (i + 1) xs)))
          (pool_in pools own)) is_own))
          ∙ stays_listed (only queues) x.item.0 (those_in queues own (drop (i + 1) xs))
          (pool_with_task (pool_in pools own) (task_for (only queues) x))
          (any_last (is_task_of x.item.0) (pool_in pools own).listed (task_for (only queues) x)
          (eq-eqb x.item.0 x.item.0 refl))

      unlisted_in : (p : PoolId) → lists_item x.item.0 (pool_in pools p) ≡ false
      unlisted_in p = false_from_ne_true (lists_item x.item.0 (pool_in pools p)) (λ here.
          let in_end : lists_item x.item.0 (pool_listing queues xs old p) ≡ true =
          ap (lists_item x.item.0) (later p)
          ∙ stays_listed (only queues) x.item.0 (those_in queues p (drop i xs)) (pool_in pools p) here in
          let same : p ≡ own = once p own x.item.0 in_end own_lists in
          false≢true (sym (not-true (lists_item x.item.0 (pool_in pools own)) parts.1)
          ∙ (ap (λ (q : PoolId). lists_item x.item.0 (pool_in pools q)) (sym same) ∙ here)))

      unlisted : (k : ℕ) → k < length pools → lists_item x.item.0 (pool_numbered pools k) ≡ false
      unlisted k less = let at = pool_of_place k in ap (λ j. lists_item x.item.0 (pool_numbered pools j)) (sym at.place)
          ∙ unlisted_in at.pool

-- what may be listed is the same for a layout and for its queues alone
pub may_all_same : (s : Layout) (xs : List Queueing) (l : PoolState) → MayAllBeAdded s xs l
    → MayAllBeAdded (only s.queues) xs l
may_all_same s [] l may = tt
may_all_same s (x ∷ xs) l may = (may.0, may_all_same s xs (pool_with_task l (task_for s x)) may.1)
