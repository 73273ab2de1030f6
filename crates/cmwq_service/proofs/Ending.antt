-- What the end of a hub says of a service whose threads have ended.
use Rattle.std.proofs.Common.{◌≡◌, ◌∙◌, ℕ, zero, suc, List, [], Result, Ok, Err, arith, ap, sym, subst, drop, length}
use Rattle.std.specs.Prelude.{OnOk, IfOk, ◌+◌, ◌-◌, ◌<◌, ◌≤◌}
use Rattle.std.proofs.Math.Logic.{∥∥₁_map}
use Rattle.cmwq_core.specs.Relied.{IsReliable}
use Rattle.cmwq_core.proofs.Relied.{reliable}
use Rattle.cmwq_model.specs.Prelude.{Layout, past_of}
unfoldable use Rattle.cmwq_model.specs.Prelude.{IsLegal}
use Rattle.cmwq_model.specs.declared.entry.Entry.{Entry}
use Rattle.cmwq_model.proofs.Growing.{nothing_is_legal}
use Rattle.cmwq_monitor.proofs.Entries.{made_length, made_same}
use Rattle.cmwq_monitor.specs.Participants.{View, newcomer, made_by}
use Rattle.cmwq_rt.specs.declared.left_out.LeftOut.{LeftOut}
use Rattle.cmwq_engine.specs.Conduct.{caller_numbered}
use Rattle.cmwq_engine.specs.Conduct.{Conduct as CrewConduct}
use Rattle.cmwq_engine.specs.Ended.{AllCalled, IsLeft, IsRest, IsRestOfLeft}
use Rattle.cmwq_engine.specs.Ended.{CalledIn as HasDone}
use Rattle.cmwq_engine.specs.declared.crew.Roster.{Roster}
use Rattle.cmwq_engine.specs.declared.gather.Tally.{Tally}
use Rattle.cmwq_monitor.specs.declared.fault.RunFault.{RunFault}
use Rattle.cmwq_service.specs.declared.fault.Fault.{Fault}
use Rattle.cmwq_service.specs.Calls.{GoesOn}
use Rattle.cmwq_service.specs.Serving.{CalledIn, Conduct, HasCalled, HasOnlyTicked, IsRestOfServed, IsServed}
use Rattle.cmwq_service.specs.Serving.{ItemConduct, TickedIn, behaves, may_end, own_callers}
use Rattle.cmwq_service.specs.Serving.{Ending as EndConduct}

-- what the callers of a service do, as a crew
abbrev pub calls_of : ℕ → Conduct → EndConduct → CrewConduct
calls_of waits does ends s k full v = (k + own_callers + waits < s.callers → ∥ HasCalled s does k v ∥₁)
    × (k + own_callers + waits ≡ s.callers → HasOnlyTicked s (newcomer (caller_numbered k)) v)
    × (k + 1 + waits ≡ s.callers → ∥ HasCalled s (may_end ends) k v ∥₁)

-- and which callers it uses
abbrev pub roles_of : ℕ → Layout → Roster
roles_of waits s = record { threads = s.callers - waits; lent = waits }

pub has_called : (s : Layout) (does : Conduct) (k : ℕ) (a v : View) (o : Result (Unit {0}) Fault)
    → a ≡ newcomer (caller_numbered k) → GoesOn a v → OnOk o (does k s a v) → OnOk o (∥ HasCalled s does k v ∥₁)
has_called s does k a v (Ok u) fresh so did =
    ∥∥₁_map (subst (λ b. GoesOn b v) fresh so).1
    (λ x. record { continues = x; did = subst (λ b. does k s b v) fresh did })
has_called s does k a v (Err f) fresh so did = tt

-- a caller's entries in the whole history are those that it has made
served : (s : Layout) (calls : CrewConduct) (does : Conduct) (k full : ℕ) (h : List Entry)
    (x : HasDone s calls k full h) → HasCalled s does k x.last → CalledIn s does k h
served s calls does k full h x called =
    let who = caller_numbered k in
    let gains = called.continues.gains in
    let whole : made_by who h ≡ made_by who x.last.seen =
    made_same who x.last.seen h x.older (let a = made_length who h in let b = gains.serial in let c =
    ap length gains.made in let d = x.own in omega (arith, a, b, c, d)) in
    record {
      last = x.last;
      did = called.did;
      entries = called.continues.entries;
      gains = gains;
      older = x.older;
      own = whole ∙ gains.made;
    }

-- the caller that stands so far behind one of these
called_from : (s : Layout) (calls : CrewConduct) (first many full : ℕ) (h : List Entry)
    → AllCalled s calls first many full h → (j : ℕ) → j < many → (n : ℕ) × HasDone s calls (first + j) n h
called_from s calls first zero full h all j few = absurd (omega (arith, few))
called_from s calls first (suc many) full h (a, b, here, rest, sum) zero few =
    let same : first ≡ first + 0 = omega arith in
    subst (λ (k : ℕ). (n : ℕ) × HasDone s calls k n h) same (a, here)
called_from s calls first (suc many) full h (a, b, here, rest, sum) (suc j) few =
    let same : suc first + j ≡ first + suc j = omega arith in
    subst (λ (k : ℕ). (n : ℕ) × HasDone s calls k n h) same
    (called_from s calls (suc first) many b h rest j (omega (arith, few)))

called_at : (s : Layout) (calls : CrewConduct) (many full : ℕ) (h : List Entry) → AllCalled s calls 0 many full h
    → (k : ℕ) → k < many → (n : ℕ) × HasDone s calls k n h
called_at s calls many full h all k few =
    let same : 0 + k ≡ k = omega arith in
    subst (λ (i : ℕ). (n : ℕ) × HasDone s calls i n h) same (called_from s calls 0 many full h all k few)

-- the clock's entries in the whole history are those of its ticks
ticked_in : (s : Layout) (calls : CrewConduct) (k full : ℕ) (h : List Entry) (x : HasDone s calls k full h)
    → HasOnlyTicked s (newcomer (caller_numbered k)) x.last → TickedIn s k h
ticked_in s calls k full h x ticked = record { last = x.last; ticked = ticked; older = x.older; own = x.own }

pub is_served : (s : Layout) (waits : ℕ) (does : ItemConduct) (calls : Conduct) (ends : EndConduct) (full : ℕ)
    (l : LeftOut) (h : List Entry)
    → IsLeft s (behaves does s) (calls_of waits calls ends) (roles_of waits s) full l h
    → IsServed s waits calls ends does h
is_served s waits does calls ends full l h left =
    let crew = calls_of waits calls ends in
    let many = s.callers - waits in
    record {
      reliable = reliable s (past_of h) left.legal;
      finished = left.finished;
      called = (λ k own.
          let at = called_at s crew many full h left.called k (omega (arith, own)) in
          ∥∥₁_map (at.1.did.0 own) (served s crew calls k at.0 h at.1));
      ticked = (λ k is.
          let at = called_at s crew many full h left.called k (omega (arith, is)) in
          ticked_in s crew k at.0 h at.1 (at.1.did.1 is));
      ended = (λ k is.
          let at = called_at s crew many full h left.called k (omega (arith, is)) in
          ∥∥₁_map (at.1.did.2 is) (served s crew (may_end ends) k at.0 h at.1));
      waited = left.waited;
      worked = (l, left.worked);
    }

pub rest_of_served : (s : Layout) (waits : ℕ) (does : ItemConduct) (calls : Conduct) (ends : EndConduct)
    (entries full : ℕ) (l : LeftOut) (first : ℕ) (es : List Entry)
    → IsRestOfLeft s (behaves does s) (calls_of waits calls ends) (roles_of waits s) entries full l first es
    → IsRestOfServed s waits calls ends does first es
rest_of_served s waits does calls ends entries full l first es rest =
    record {
      history = rest.history;
      served = is_served s waits does calls ends full l rest.history rest.left;
      rest_is =
          rest.rest_is;
    }

-- how a service ended whose hub's threads ended so
pub served_outcome : (s : Layout) (waits : ℕ) (does : ItemConduct) (calls : Conduct) (ends : EndConduct)
    (first : ℕ) (es : List Entry) (ended : Result Tally RunFault) (o : Result Tally Fault)
    → IfOk o (λ t. ended ≡ Ok t)
    → IfOk ended (λ t. IsRestOfLeft s (behaves does s) (calls_of waits calls ends) (roles_of waits s) t.answered t.full
    t.left_out first es)
    → OnOk o (IsRestOfServed s waits calls ends does first es)
served_outcome s waits does calls ends first es ended (Ok t) same left =
    rest_of_served s waits does calls ends t.answered t.full t.left_out first es
    (subst (λ r.
    IfOk r (λ t. IsRestOfLeft s (behaves does s) (calls_of waits calls ends) (roles_of waits s) t.answered t.full
    t.left_out first es))
    same left)
served_outcome s waits does calls ends first es ended (Err f) same left = tt

-- what is told to the hub's other threads
pub told_called : (s : Layout) (waits : ℕ) (does : Conduct) (ends : EndConduct) (k all : ℕ) (v : View)
    (o : Result (Unit {0}) Fault) (told : Result ℕ RunFault) → all ≡ s.callers - waits - own_callers → k < all
    → OnOk told (o ≡ Ok tt) → OnOk o (∥ HasCalled s does k v ∥₁)
    → IfOk told (λ full. calls_of waits does ends s k full v)
told_called s waits does ends k all v o (Ok n) is less ok called = (
  λ own. subst (λ r. OnOk r (∥ HasCalled s does k v ∥₁)) ok called,
  λ same. absurd (omega (arith, is, less, same)),
  λ last. absurd (omega (arith, is, less, last)),
)
told_called s waits does ends k all v o (Err f) is less ok called = tt

pub told_ticked : (s : Layout) (waits : ℕ) (does : Conduct) (ends : EndConduct) (k all threads : ℕ) (a v : View)
    (o : Result (Unit {0}) Fault) (told : Result ℕ RunFault) → all ≡ s.callers - waits - own_callers
    → threads ≡ s.callers - waits → all ≤ k → k + 1 < threads → OnOk told (o ≡ Ok tt)
    → a ≡ newcomer (caller_numbered k) → OnOk o (HasOnlyTicked s a v)
    → IfOk told (λ full. calls_of waits does ends s k full v)
told_ticked s waits does ends k all threads a v o (Ok n) is many more less ok fresh ticked = (
  λ own. absurd (omega (arith, is, more, own)),
  λ clock. subst (λ b. HasOnlyTicked s b v) fresh (subst (λ r. OnOk r (HasOnlyTicked s a v)) ok ticked),
  λ last. absurd (omega (arith, many, less, last)),
)
told_ticked s waits does ends k all threads a v o (Err f) is many more less ok fresh ticked = tt

pub told_ended : (s : Layout) (waits : ℕ) (does : Conduct) (ends : EndConduct) (k all threads : ℕ) (v : View)
    (o : Result (Unit {0}) Fault) (told : Result ℕ RunFault) → all ≡ s.callers - waits - own_callers
    → threads ≡ s.callers - waits → all ≤ k → threads ≤ k + 1 → OnOk told (o ≡ Ok tt)
    → OnOk o (∥ HasCalled s (may_end ends) k v ∥₁) → IfOk told (λ full. calls_of waits does ends s k full v)
told_ended s waits does ends k all threads v o (Ok n) is many more most ok ended = (
  λ own. absurd (omega (arith, is, more, own)),
  λ same. absurd (omega (arith, many, most, same)),
  λ last. subst (λ r. OnOk r (∥ HasCalled s (may_end ends) k v ∥₁)) ok ended,
)
told_ended s waits does ends k all threads v o (Err f) is many more most ok ended = tt

pub nothing_made : (s : Layout) (es : List Entry) → es ≡ [] → IsReliable s (past_of es)
nothing_made s es none =
    subst (λ xs. IsReliable s (past_of xs)) (sym none) (reliable s (past_of []) (nothing_is_legal s))

-- nothing was handed over before the rest
all_is_rest : (h es : List Entry) (first : ℕ) → es ≡ drop first h → first ≡ 0 → h ≡ es
all_is_rest h es first is none = sym (subst (λ (n : ℕ). es ≡ drop n h) none is)

pub whole_rest : (s : Layout) (first : ℕ) (es : List Entry) → first ≡ 0 → IsRest s first es → IsReliable s (past_of es)
whole_rest s first es none rest =
    subst (λ xs. IsReliable s (past_of xs)) (all_is_rest rest.history es first rest.rest_is none)
    (reliable s (past_of rest.history) rest.legal)

pub whole_served : (s : Layout) (waits : ℕ) (calls : Conduct) (ends : EndConduct) (does : ItemConduct)
    (first : ℕ) (es : List Entry) → first ≡ 0 → IsRestOfServed s waits calls ends does first es
    → IsServed s waits calls ends does es
whole_served s waits calls ends does first es none rest =
    subst (λ xs. IsServed s waits calls ends does xs) (all_is_rest rest.history es first rest.rest_is none)
    rest.served
