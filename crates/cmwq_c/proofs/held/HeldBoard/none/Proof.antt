-- Nothing is held at null.
use Rattle.cmwq_c.specs.Common.{refl, Val, SProp, emp, ‵, raw, ◌⊛◌, ◌$◌, ◌∵◌, !, qed, by, keep, split, fjoin, use0, lit}
use Rattle.cmwq_c.specs.Common.{and_then, no_more, returns, enter, alloc_all, pass_all, free_all, look_at, sets, agg}
use Rattle.cmwq_c.specs.Common.{fact, fact_i, tables, owns, null_ptr, types_at, nothing, alive, Stays, walk_of, proved}
use Rattle.cmwq_c.specs.Common.{leaves}
use mathlib.Core.Bool.{false}
use Rattle.std.proofs.Common.{◌≡◌, [], ◌∷◌}
use Rattle.cmwq_c.specs.contracts.held.HeldBoard as held
use Rattle.cmwq_c.proofs.HeldValues.{held_of, held_good, HeldBoard, held_made_board}
use Rattle.cmwq_c.specs.contracts.held.HeldBoard.none.{ended, clauses}
use Rattle.cmwq_c.specs.contracts.held.HeldBoard.none.Key.{name as #self}
use Rattle.cmwq_c.proofs.held.HeldBoard.none.Statement.{statement}
use Rattle.cmwq_c.proofs.held.HeldBoard.none.Code as code

pub none_spec : {M : Type 1} → statement M
none_spec 𝓤 𝓛 𝓜 𝓡 wired =
    let H = 𝓛.H in let 𝓣 = tables 𝓤 H 𝓜 𝓡 𝓡.env in let En = ended in let c = clauses 𝓛 𝓜.mem 𝓡.returns in let fn =
    code.function in
    let hs : Stays En.signature.params En.kept = tt in
    proved 𝓛 En hs c 𝓜 𝓡 tt #self fn (code.unfolded 𝓤 H 𝓜 𝓡 wired) (λ κs. tt) (λ κs. tt) (λ κs qs bounds a gh are.
    let r : (held.the_row).Denot =
    record {
      at = null_ptr;
      full = false;
      board =
          record {
            dispatch =
                record {
                  history =
                      record {
                        layout = record { cpus = 0; workers = 0; callers = 0; items = 0; room = 0; queues = [] };
                        room = 0;
                        entries = [];
                      };
                  closed = false;
                  failed = false;
                  crowded = false;
                  firing = 0;
                  first_lent = 0;
                  asleep = record { tickets = []; pools = [] };
                };
            given = 0;
            keeps = 0;
            lent = [];
            news = record { left_ended = false; due_earlier = false };
          };
    } in
    let y : (walk_of 𝓛 En hs c).Ghost = ((κs, qs, bounds, a, tt), gh) in let Post : Val → SProp 𝓤 =
    (walk_of 𝓛 En hs c).post y in
    qed 𝓛 ((raw (alive 𝓛 En.signature κs qs) ⊛ ‵ (owns (types_at En.signature.params κs) a y.0.4))
    ∷ raw ((c κs a).requires gh) ∷ []) ∵
    split ! $ keep ! (0 ∷ []) $ nothing ! $ use0 𝓛 (‵ (HeldBoard.own_val (null_ptr, tt) (held_of null_ptr ∷ [])))
    (held_made_board 𝓛 null_ptr) $ fjoin ! $
    enter ! 𝓣.C 𝓣.Λ fn [] Post $ alloc_all ! (λ l. pass_all ! refl tt $
    sets ! (agg ! (and_then ! (lit ! tt) (no_more !))) refl (held_good null_ptr) $
    use0 𝓛 (raw (fact 𝓤 (false ≡ false))) (fact_i 𝓤 (false ≡ false) (emp 𝓤) refl) $ nothing ! $
    returns ! (look_at ! 0 refl) $ free_all ! refl $ keep ! (3 ∷ 0 ∷ 2 ∷ 1 ∷ []) $ by !
    (leaves 𝓛 En hs c y (held_of null_ptr) r tt tt)))
