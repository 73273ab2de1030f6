-- No run waits at two places.
use Rattle.std.specs.Prelude.{◌≡◌, ◌≢◌, ◌⊎◌, ◌<◌, ◌==◌, [], ◌∷◌, ℕ, Bool, true, false, not, zero, suc, List}
use Rattle.std.specs.Prelude.{Option, Some, None, if◌then◌else◌, length, replicate, slice_index_or, slice_set}
use Rattle.std.specs.List.{list_any}
use Rattle.std.proofs.Common.{true≢false, refl, sym, ap, ◌∙◌, subst, arith, ⊎_elim, inl, inr}
use Rattle.std.proofs.lemmas.Bool.{and_parts, eq-eqb, eqb-true}
use Rattle.std.proofs.lemmas.List.{get_or-set_other, get_or-set_same}
use Rattle.cmwq_model.specs.Prelude.{gives_ticket, has_run}
use Rattle.cmwq_model.specs.declared.id.WorkerId.{WorkerId}
use Rattle.cmwq_model.specs.declared.record.Ticket.{Ticket}
use Rattle.cmwq_model.specs.declared.reply.Reply.{Reply}
use Rattle.cmwq_theory_steps.proofs.ItemRuns.{same_worker-true}
use Rattle.cmwq_board.specs.Boarded.{Boarded, past_of_board}
use Rattle.cmwq_board.specs.Lent.{MayBecome, RunsWaitOnce, is_wait_of}
use Rattle.cmwq_board.specs.Waits.{has_its_run, lending_by}
use Rattle.cmwq_board.specs.declared.lending.Lending.{Lending}
use Rattle.cmwq_board.specs.declared.lending.Lending.TheVariants.{Free, Waits}

-- ---- the caller of a place does something else

-- which place a run has then
place_set : (w : WorkerId) (lent : List Lending) (place : ℕ) (l : Lending) (i : ℕ) → place < length lent
    → is_wait_of w (slice_index_or (slice_set lent place l) i Free) ≡ true
    → ((i ≡ place) × (is_wait_of w l ≡ true)) ⊎ (is_wait_of w (slice_index_or lent i Free) ≡ true)
place_set w lent place l i less is = by (i == place) refl
  where
    by : (b : Bool) → (i == place) ≡ b
        → ((i ≡ place) × (is_wait_of w l ≡ true)) ⊎ (is_wait_of w (slice_index_or lent i Free) ≡ true)
    by true same =
        let at = eqb-true i place same in
        inl (
          at,
          ap (is_wait_of w) (sym (get_or-set_same lent place l Free less))
              ∙ ap (λ k. is_wait_of w (slice_index_or (slice_set lent place l) k Free)) (sym at) ∙ is,
        )
    by false differs =
        let other : i ≢ place = λ e. true≢false (sym (eq-eqb i place e) ∙ differs) in
        inr (ap (is_wait_of w) (sym (get_or-set_other lent place i l Free other)) ∙ is)

-- where the run had no other place
pub once_set : (lent : List Lending) (place : ℕ) (l : Lending) → RunsWaitOnce lent → place < length lent
    → ((w : WorkerId) (j : ℕ) → is_wait_of w l ≡ true → is_wait_of w (slice_index_or lent j Free) ≡ true → j ≡ place)
    → RunsWaitOnce (slice_set lent place l)
once_set lent place l once less own w i j a b =
    ⊎_elim
    (λ here. ⊎_elim (λ there. here.0 ∙ sym there.0) (λ was. here.0 ∙ sym (own w j here.1 was))
    (place_set w lent place l j less b))
    (λ was. ⊎_elim (λ there. own w i there.1 was ∙ sym there.0) (λ also. once w i j was also)
    (place_set w lent place l j less b))
    (place_set w lent place l i less a)

-- nobody waits by it, or no run does
pub once_freed : (lent : List Lending) (place : ℕ) → RunsWaitOnce lent → place < length lent
    → RunsWaitOnce (slice_set lent place Free)
once_freed lent place once less =
    once_set lent place Free once less (λ w j is was. absurd (true≢false (sym is)))

pub once_resumed : (lent : List Lending) (place : ℕ) (t : Ticket) → RunsWaitOnce lent → place < length lent
    → RunsWaitOnce (slice_set lent place (Waits t None false))
once_resumed lent place t once less =
    once_set lent place (Waits t None false) once less (λ w j is was. absurd (true≢false (sym is)))

-- a ticket of it is ended
pub once_ended : (t : Ticket) (lent : List Lending) (place : ℕ) (l : Lending) → RunsWaitOnce lent → place < length lent
    → MayBecome t (slice_index_or lent place Free) l → RunsWaitOnce (slice_set lent place l)
once_ended t lent place Free once less may = once_freed lent place once less
once_ended t lent place (Waits u run slept) once less may =
    once_set lent place (Waits u run slept) once less
    (λ w j is was. once w j place was (ap (is_wait_of w) may.0 ∙ is))

-- a run begins to wait by it, which does not wait yet
any_at : (w : WorkerId) (lent : List Lending) (j : ℕ) → is_wait_of w (slice_index_or lent j Free) ≡ true
    → list_any (is_wait_of w) lent ≡ true
any_at w [] j is = absurd (true≢false (sym is))
any_at w (l ∷ ls) zero is = rw is refl
any_at w (l ∷ ls) (suc j) is = grind (arith, any_at w ls j is)

not_waiting : (b : Boarded) (w v : WorkerId) (t : Ticket) (slept : Bool) (j : ℕ) → has_its_run b (Some v) ≡ true
    → is_wait_of w (Waits t (Some v) slept) ≡ true → is_wait_of w (slice_index_or b.lent j Free) ≡ true → ⊥
not_waiting b w v t slept j has is was =
    let same : v ≡ w = same_worker-true v w is in
    let none = (and_parts (has_run (past_of_board b) v) (not (list_any (is_wait_of v) b.lent)) has).1 in
    let any = any_at v b.lent j (subst (λ u. is_wait_of u (slice_index_or b.lent j Free) ≡ true) (sym same) was) in
    true≢false (sym none ∙ ap not any)

pub once_lent : (b : Boarded) (place : ℕ) (run : Option WorkerId) (slept : Bool) (t : Ticket) (r : Reply)
    → RunsWaitOnce b.lent → place < length b.lent → has_its_run b run ≡ true
    → RunsWaitOnce (slice_set b.lent place (lending_by run slept t r))
once_lent b place run slept t r once less has = by (gives_ticket r) run has
  where
    by : (gives : Bool) (o : Option WorkerId) → has_its_run b o ≡ true
        → RunsWaitOnce (slice_set b.lent place (if gives then Waits t o slept else Free))
    by false o its = once_freed b.lent place once less
    by true None its =
        once_set b.lent place (Waits t None slept) once less (λ w j is was. absurd (true≢false (sym is)))
    by true (Some v) its =
        once_set b.lent place (Waits t (Some v) slept) once less
        (λ w j is was. absurd (not_waiting b w v t slept j its is was))

-- ---- nobody waits

pub free_at : (n place : ℕ) → slice_index_or (replicate n Free) place Free ≡ Free
free_at zero place = refl
free_at (suc n) zero = refl
free_at (suc n) (suc place) = free_at n place

pub once_new : (n : ℕ) → RunsWaitOnce (replicate n Free)
once_new n w i j a b = absurd (true≢false (sym (sym (ap (is_wait_of w) (free_at n i)) ∙ a)))
