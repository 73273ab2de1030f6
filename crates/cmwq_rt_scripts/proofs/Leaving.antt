-- What a crew that follows scripts leaves, as what the scripts leave.
use Rattle.std.proofs.lemmas.List.{length-map}
use Rattle.std.proofs.lemmas.List.Elements.{All-from_recursion, All-map, recursion_from_All}
use Rattle.std.proofs.lemmas.Option.{same_Some, slice_get-get_or, slice_get-map, slice_get_within}
use Rattle.std.specs.List.{AllByRecursion}
use Rattle.std.proofs.Common.{get_or, option_map}
use Rattle.cmwq_model.specs.Prelude.{most_callers}
use Rattle.cmwq_monitor.proofs.Entries.{made_length, made_same}
use Rattle.cmwq_monitor.specs.declared.fault.RunFault.{RunFault}
use Rattle.cmwq_monitor.specs.declared.fault.RunFault.TheVariants.{Full, NoPlace, Unfinished}
use Rattle.cmwq_rt.proofs.Following.{follows_later}
use Rattle.cmwq_engine.specs.Ended.{AllCalled, AreSilent}
use Rattle.cmwq_engine.specs.Ended.{FailsAs as CrewFails, IsLeft as CrewLeaves}
use Rattle.cmwq_engine.specs.declared.crew.Roster.{Roster}
use Rattle.cmwq_rt_journal.specs.Journaled.{WritesLeft}
use Rattle.cmwq_rt_journal.specs.Journaled.{TellsOf as CrewTells}
use Rattle.cmwq_rt_journal.specs.declared.fault.Unwritten.{Unwritten}
use Rattle.cmwq_rt_journal.specs.declared.fault.Unwritten.TheVariants as unwritten
use Rattle.cmwq_rt_scripts.specs.Common.{◌≡◌, ◌+◌, ◌<◌, ◌≤◌, ◌^◌, ◌∙◌, ◌∷◌, ℕ, suc, List, []}
use Rattle.cmwq_rt_scripts.specs.Common.{Some, Option, Result, Ok, Err}
use Rattle.cmwq_rt_scripts.specs.Common.{IfOk, IfErr, Vec, Global, length, map, drop, slice_get, refl, sym, ap, subst}
use Rattle.cmwq_rt_scripts.specs.Common.{arith, IsPrefix, All, IsScripted, Call, Entry, Layout, serial_of, past_of}
use Rattle.cmwq_rt_scripts.specs.Common.{View, made_by}
use Rattle.cmwq_rt_scripts.specs.Common.{Follows, Behavior, LeftOut, caller_numbered}
use Rattle.cmwq_rt_scripts.specs.Followed.{AreFit, FollowedAt, follows, lists}
use Rattle.cmwq_rt_scripts.specs.Ended.{AllFollow, FailsAs, FollowsIn, IsLeft}
use Rattle.cmwq_rt_scripts.specs.Journaled.{TellsOf, WritesAll}

-- one caller for each script, and so many that are lent
abbrev pub roles : List (List Call) → ℕ → Roster
roles scripts lent = record { threads = length scripts; lent = lent }

-- the whole history has no more entries of the caller than it has seen
followed_in : (s : Layout) (k : ℕ) (script : List Call) (full : ℕ) (v : View) (h : List Entry)
    → FollowedAt s k script full v → IsPrefix v.seen h → serial_of (past_of h) (caller_numbered k) ≡ v.serial
    → FollowsIn s k script full h
followed_in s k script full v h f pre counted =
    let who = caller_numbered k in
    let same : made_by who h ≡ made_by who v.seen =
    made_same who v.seen h pre (let a = made_length who h in let b = f.gains.serial in let c = ap length f.gains.made in
    omega (arith, a, b, c, counted)) in
    subst (λ all. Follows s who h [] script all full) (sym (same ∙ f.gains.made))
    (follows_later s who v.seen h pre script [] f.entries full f.follows)

-- the scripts from this place on
follow_from : (s : Layout) (all rest : List (List Call)) (k full : ℕ) (h : List Entry)
    → ((j : ℕ) (x : List Call) → slice_get rest j ≡ Some x → slice_get all (k + j) ≡ Some x)
    → AllCalled s (follows all) k (length rest) full h → AllFollow s k rest full h
follow_from s all [] k full h there so = so
follow_from s all (x ∷ xs) k full h there (n, m, one, rest, sum) =
    let at : slice_get all k ≡ Some x =
    (let same : k + 0 ≡ k = omega arith in subst (λ (i : ℕ). slice_get all i ≡ Some x) same (there 0 x refl)) in (
      n,
      m,
      followed_in s k x n one.last h (one.did x at) one.older one.own,
      follow_from s all xs (suc k) m h
          (λ j y is. (let next : k + suc j ≡ suc k + j = omega arith in
          subst (λ (i : ℕ). slice_get all i ≡ Some y) next (there (suc j) y is))) rest,
      sum,
    )

pub all_follow : (s : Layout) (all : List (List Call)) (full : ℕ) (h : List Entry)
    → AllCalled s (follows all) 0 (length all) full h → AllFollow s 0 all full h
all_follow s all full h so =
    follow_from s all all 0 full h
    (λ j x is. (let same : j ≡ 0 + j = omega arith in subst (λ (i : ℕ). slice_get all i ≡ Some x) same is)) so

pub leaves : (s : Layout) (does : Behavior) (all : List (List Call)) (lent full : ℕ) (l : LeftOut)
    (h : List Entry) → CrewLeaves s does (follows all) (roles all lent) full l h → IsLeft s does all lent full l h
leaves s does all lent full l h left = record {
  legal = left.legal;
  follow = all_follow s all full h left.called;
  waited = left.waited;
  worked = left.worked;
  silent = left.silent;
  finished = left.finished;
}

pub fails : (s : Layout) (all : List (List Call)) (lent : ℕ) (f : RunFault)
    → CrewFails s (follows all) (roles all lent) f → FailsAs s all lent f
fails s all lent Unfinished (h, legal, (full, called, active)) =
    (h, legal, (full, all_follow s all full h called, active))
fails s all lent NoPlace few = few
fails s all lent Full none = none
fails s all lent f so = record {}

-- what a report says is what is left
pub if_ok : {T F : Type 0} (P Q : T → Type 0) (r : Result T F) → ((x : T) → P x → Q x) → IfOk r P → IfOk r Q
if_ok P Q (Ok x) f given = f x given
if_ok P Q (Err e) f given = tt

pub if_err : {T F : Type 0} (P Q : F → Type 0) (r : Result T F) → ((x : F) → P x → Q x) → IfErr r P → IfErr r Q
if_err P Q (Ok x) f given = tt
if_err P Q (Err e) f given = f e given

-- the list of this place
pub list_at : (all : List (Vec Call Global)) (k : ℕ) (x d : Vec Call Global) (script : List Call)
    → x ≡ get_or all k d → slice_get (lists all) k ≡ Some script → x.items ≡ script
list_at all k x d script is at =
    let same = length-map all (λ (y : Vec Call Global). y.items) in
    let within = slice_get_within (lists all) k script at in
    let lt : k < length all = omega arith in
    ap (λ (y : Vec Call Global). y.items) is
    ∙ same_Some _ script
    (sym (slice_get-map (λ (y : Vec Call Global). y.items) all k
    ∙ ap (option_map (λ (y : Vec Call Global). y.items)) (slice_get-get_or all k d lt)) ∙ at)

unmapped : {X Y : Type 0} (P : Y → Type 0) (f : X → Y) (xs : List X) → AllByRecursion P (map f xs)
    → AllByRecursion (λ x. P (f x)) xs
unmapped P f [] all = tt
unmapped P f (x ∷ xs) all = (all.0, unmapped P f xs all.1)

-- is one that fits
pub fit_at : (s : Layout) (all : List (Vec Call Global)) (k : ℕ) (x d : Vec Call Global) → AreFit s (lists all)
    → k < length (lists all) → x ≡ get_or all k d → All (IsScripted s) x.items × (length x.items < 2 ^ 32)
fit_at s all k x d (few, fit) within is =
    let same = length-map all (λ (y : Vec Call Global). y.items) in
    let lt : k < length all = omega arith in
    let each : All (λ (y : Vec Call Global). All (IsScripted s) y.items × (length y.items < 2 ^ 32)) all =
    All-from_recursion _ all
    (unmapped (λ calls. All (IsScripted s) calls × (length calls < 2 ^ 32)) (λ (y : Vec Call Global). y.items) all
    (recursion_from_All _ (lists all) fit)) in
    subst (λ (y : Vec Call Global). All (IsScripted s) y.items × (length y.items < 2 ^ 32)) (sym is) (each k d lt)

-- the lists are those of fit scripts
pub lists_fit : (s : Layout) (all : List (Vec Call Global)) → length all ≤ most_callers
    → All (λ x. All (IsScripted s) x.items × (length x.items < 2 ^ 32)) all → AreFit s (lists all)
lists_fit s all few calls =
    let same = length-map all (λ x. x.items) in
    (omega arith, All-map (λ calls. All (IsScripted s) calls × (length calls < 2 ^ 32)) (λ x. x.items) all calls)

pub silent_of : (s : Layout) (all : List (Vec Call Global)) (h : List Entry) → AreSilent s (length (lists all) + 0) h
    → AreSilent s (length all) h
silent_of s all h silent =
    let same = length-map all (λ x. x.items) in
    let none : length (lists all) + 0 ≡ length all = omega arith in
    subst (λ (n : ℕ). AreSilent s n h) none silent

pub writes : (s : Layout) (does : Behavior) (all : List (List Call)) (lent entries full : ℕ) (l : LeftOut)
    (a b : Option (List ℕ)) → WritesLeft s does (follows all) (roles all lent) entries full l a b
    → WritesAll s does all lent entries full l a b
writes s does all lent entries full l a b (h, left, many, text) =
    (h, leaves s does all lent full l h left, many, text)

pub tells : (s : Layout) (all : List (List Call)) (lent : ℕ) (f : Unwritten)
    → CrewTells s (follows all) (roles all lent) f → TellsOf s all lent f
tells s all lent unwritten.Sink so = so
tells s all lent (unwritten.Run f) so = fails s all lent f so

-- nothing was handed over before the rest
pub all_is_rest : (h es : List Entry) (first : ℕ) → es ≡ drop first h → first ≡ 0 → h ≡ es
all_is_rest h es first is none = sym (subst (λ (n : ℕ). es ≡ drop n h) none is)
