-- A wait that ends is made of the core.
use Rattle.std.specs.Prelude.{◌≡◌, ℕ, Bool, true, false, if◌then◌else◌, Option, Some, None, Ok, slice_set}
use Rattle.std.proofs.Common.{ap, ◌∙◌}
use Rattle.cmwq_core.specs.History.{is_done_waiting}
use Rattle.cmwq_dispatch.specs.declared.wakes.Wakes.{Wakes}
use Rattle.cmwq_model.specs.Prelude.{IsLegal}
use Rattle.cmwq_model.specs.declared.id.CallerId.{CallerId}
use Rattle.cmwq_model.specs.declared.id.WorkerId.{WorkerId}
use Rattle.cmwq_model.specs.declared.record.Ticket.{Ticket}
use Rattle.cmwq_board.specs.Boarded.{Boarded, layout_of, past_of_board}
use Rattle.cmwq_board.specs.Machine.{bare, cleared, ended, ends, ends_at, step, stepped, unless}
use Rattle.cmwq_board.specs.Machine.Move.{Ends}
use Rattle.cmwq_board.specs.NewsAfter.{after_end}
use Rattle.cmwq_board.specs.Waits.{EndsAt, IsAwakeThen, ThenClears, end_fault, if_slept, lending_at}
use Rattle.cmwq_board.specs.Waits.{place_of}
use Rattle.cmwq_board.specs.declared.lending.Lending.TheVariants.{Free, Waits}
use Rattle.cmwq_board.proofs.Cores.{on_board}
use Rattle.cmwq_board.proofs.Moves.{clear_core}

-- the core after the end of a wait
abbrev pub ended_at : Boarded → ℕ → Ticket → Option WorkerId → Boarded
ended_at b place t run = cleared (ended t run (slice_set b.lent place Free) (after_end t.call b.news) b)

-- what the move comes to, where the wait is ready or not
module _ (b : Boarded) (c : CallerId) (place : ℕ) (t : Ticket) (run : Option WorkerId) (slept : Bool)
    (none : end_fault b c ≡ None) (is_place : place_of b c ≡ Some place)
    (lending : lending_at b place ≡ Waits t run slept) where
  pub step_is : (ready : Bool) → is_done_waiting (past_of_board b) t ≡ ready → step (bare b) (Ends c)
      ≡ (if ready then stepped (ended_at (bare b) place t (if_slept slept run)) (Ok true)
      else stepped (bare b) (Ok false))
  step_is ready is =
      ap (λ o. unless o (bare b) (ends (bare b) (place_of b c))) none ∙ ap (ends (bare b)) is_place
      ∙ ap (ends_at (bare b) place) lending
      ∙ ap (λ x. if x then stepped (ended_at (bare b) place t (if_slept slept run)) (Ok true)
      else stepped (bare b) (Ok false)) is

pub ended_core : (c : CallerId) (place : ℕ) (t : Ticket) (run : Option WorkerId) (old new : Boarded) (v u : Wakes)
    → IsAwakeThen c (λ awake. ThenClears (EndsAt place t run) awake new v u) old
    → IsLegal (layout_of new) (past_of_board new) → bare new ≡ ended_at (bare old) place t run
ended_core c place t run old new v u is legal =
    let clears = is.next in
    clear_core clears.mid new clears.meanwhile u clears.clears legal
    ∙ ap cleared
    (on_board t run (slice_set is.awake.lent place Free) (after_end t.call is.awake.news) is.awake clears.mid v
    clears.meanwhile clears.step
    ∙ ap (λ (x : Boarded). ended t run (slice_set x.lent place Free) (after_end t.call x.news) (bare x)) is.awakes.same)
