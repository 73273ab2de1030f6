-- Histories of which nothing was started, ended or waited for.
use Rattle.cmwq_resume.specs.Common.{◌≡◌, ◌||◌, ◌&&◌, ◌++◌, ℕ, Bool, false, List, [], ◌∷◌, length, filter}
use Rattle.cmwq_resume.specs.Common.{None, refl, ap, ap₂, ◌∙◌, arith, nat_lt, AllByRecursion, option_and_then}
use Rattle.cmwq_resume.specs.Common.{option_map_or, option_to_list, if◌then◌else◌, Reply, Entry, Start, is_at}
use Rattle.cmwq_resume.specs.Common.{number_started, number_finished, number_cancelled, replaces, gives_ticket, is_done}
use Rattle.cmwq_resume.specs.Common.{worker_of, is_started, is_finished, is_cancelled, is_open, item_start, item_run}
use Rattle.std.proofs.Math.Bool.{or-false}
use Rattle.cmwq_theory_steps.specs.TicketSteps.{is_kept}
use Rattle.cmwq_theory_steps.proofs.TicketSteps.{unended_go_on}
use Rattle.cmwq_resume.specs.Common.{Layout, IsLegal}
use Rattle.cmwq_resume.specs.Common.{item_at, ticket_for, unended_tickets, ends_destroy, is_gone}

pub record Says (r : Reply) : Type 0 where
  pub starts : number_started r ≡ None
  pub finishes : number_finished r ≡ None
  pub cancels : number_cancelled r ≡ None
  pub replaces : replaces r ≡ false

pub record IsSafe (e : Entry) : Type 0 where
  pub who : worker_of e.who ≡ None
  pub says : Says e.reply

pub record AreSafe (past : List Entry) : Type 0 where
  pub never_started : (n : ℕ) → is_started past n ≡ false
  pub never_finished : (n : ℕ) → is_finished past n ≡ false
  pub never_cancelled : (i n : ℕ) → is_cancelled past i n ≡ false
  pub no_item_start : (i : ℕ) → item_start past i ≡ None

pub are_safe : (past : List Entry) → AllByRecursion IsSafe past → AreSafe past
unfolding is_cancelled item_start
are_safe [] all =
    record {
      never_started = λ n. refl;
      never_finished = λ n. refl;
      never_cancelled = λ i n. refl;
      no_item_start = λ i. refl;
    }
are_safe (e ∷ past) all =
    let k = are_safe past all.1 in
    record {
      never_started = λ n. ap₂ (λ o b. is_at o n || b) all.0.says.starts (k.never_started n);
      never_finished = λ n. ap₂ (λ o b. is_at o n || b) all.0.says.finishes (k.never_finished n);
      never_cancelled = λ i n. grind (arith, all.0.says.cancels, all.0.says.replaces, k.never_cancelled i n);
      no_item_start =
          λ i. ap₂ (λ o l. if option_map_or (λ (start : Start). is_at (item_at past start.number) i) o false then o
          else l) (ap (option_and_then _) all.0.who) (k.no_item_start i);
    }

pub stays_open : (past : List Entry) (i n : ℕ) → AllByRecursion IsSafe past → is_open past i n ≡ nat_lt n (length past)
stays_open past i n all = let k = are_safe past all in grind (arith, k.never_finished n, k.never_cancelled i n)

pub no_run : (past : List Entry) (i : ℕ) → AllByRecursion IsSafe past → item_run past i ≡ None
no_run past i all = ap (option_and_then _) ((are_safe past all).no_item_start i)

-- nobody waits, and these queues are gone
pub record Closed (gone : ℕ → Bool) (past : List Entry) : Type 0 where
  pub unended : unended_tickets past ≡ []
  pub are_gone : (q : ℕ) → is_gone past q ≡ gone q

pub still_closed : (s : Layout) (past : List Entry) (e : Entry) (gone : ℕ → Bool) → IsLegal s (e ∷ past)
    → gives_ticket e.reply ≡ false → is_done e.reply ≡ false → Closed gone past → Closed gone (e ∷ past)
unfolding is_gone
still_closed s past e gone legal given done k =
    record {
      unended =
          unended_go_on s past e legal
          ∙ ap₂ (λ ts b. filter (is_kept e) ts
          ++ option_to_list (if b then ticket_for e.who e.call (length past) else None)) k.unended given;
      are_gone =
          λ q. ap₂ (λ a b. a || (b && ends_destroy past q e.who e.call)) (k.are_gone q) done ∙ or-false (gone q);
    }
