-- What holds of all that a reading gives.
use Rattle.cmwq_json_script.specs.Common.{◌≡◌, ℕ, Bool, true, false, List, [], ◌∷◌, map, Option, Some, None, Result, Ok}
use Rattle.cmwq_json_script.specs.Common.{Err, refl, subst, if◌then◌else◌, same_Some, option_and_then, IfSome}
use Rattle.cmwq_json_script.specs.Common.{AllByRecursion, result_ok, Data, Items, no_items, item, in_turn, kept, ap, ◌∙◌}
use Rattle.cmwq_json_script.specs.Common.{nat_lt, ◌<◌, lt-ltb, Refused}
use Rattle.cmwq_json_script.specs.Runs.{some_of}
use Rattle.cmwq_json_script.specs.Lists.{has_no_item, part_in, whole, items_one, items_two, items_three, items_four}

pub then_holds : {A B : Type 0} (Q : A → Type 0) (R : B → Type 0) (f : A → Option B) (o : Option A) → IfSome o Q
    → ((a : A) → Q a → IfSome (f a) R) → IfSome (option_and_then f o) R
then_holds Q R f None h each = tt
then_holds Q R f (Some a) h each = each a h

pub any_read : {A : Type 0} (o : Option A) → IfSome o (λ _. Unit {0})
any_read None = tt
any_read (Some a) = tt

pub when_read : {A : Type 0} (P : A → Type 0) (o : Option A) (a : A) → IfSome o P → o ≡ Some a → P a
when_read P None a h is = cc
when_read P (Some b) a h is = subst P (same_Some b a is) h

pub list_read : {S : Type 0} (P : S → Type 0) (adds : S → Data → Option S) (before : S)
    → ((s : S) (d : Data) (after : S) → P s → adds s d ≡ Some after → P after) → P before → (ds : Items)
    → IfSome (result_ok (in_turn adds 0 before ds)) P
list_read {S} P adds before keeps first ds =
    at (in_turn adds 0 before ds) (λ after is. kept P adds keeps 0 before ds after first is)
  where
    at : (r : Result S ℕ) → ((after : S) → r ≡ Ok after → P after) → IfSome (result_ok r) P
    at (Ok s) h = h s refl
    at (Err i) h = tt

pub all_unmapped : {X Y : Type 0} (P : Y → Type 0) (f : X → Y) (xs : List X) → AllByRecursion P (map f xs)
    → AllByRecursion (λ x. P (f x)) xs
all_unmapped P f [] all = tt
all_unmapped P f (x ∷ xs) all = (all.0, all_unmapped P f xs all.1)

-- ---- parts of a list

pub whole_holds : {A : Type 0} (P : A → Type 0) (o : Option (A × Items)) → IfSome o (λ r. P r.0) → IfSome (whole o) P
whole_holds P None h = tt
whole_holds P (Some r) h = at (has_no_item r.1)
  where
    at : (b : Bool) → IfSome (if b then Some r.0 else None) P
    at true = h
    at false = tt

pub part_holds : {A : Type 0} (Q : A → Type 0) (says : Data → Option A) → ((d : Data) → IfSome (says d) Q)
    → (ds : Items) → IfSome (part_in says ds) (λ r. Q r.0)
part_holds Q says each no_items = tt
part_holds {A} Q says each (item d ds) = at (says d) (each d)
  where
    at : (o : Option A) → IfSome o Q → IfSome {T = A × Items} (option_and_then (λ a. Some (a, ds)) o) (λ r. Q r.0)
    at None h = tt
    at (Some a) h = h

pub one_holds : {A Y : Type 0} (Q : A → Type 0) (R : Y → Type 0) (says : Data → Option A) (make : A → Y)
    → ((d : Data) → IfSome (says d) Q) → ((a : A) → Q a → R (make a)) → (ds : Items)
    → IfSome (items_one says make ds) (λ r. R r.0)
one_holds Q R says make each made ds =
    then_holds (λ r. Q r.0) (λ r. R r.0) (λ a. Some (make a.0, a.1)) (part_in says ds) (part_holds Q says each ds)
    (λ a h. made a.0 h)

pub two_holds : {A B Y : Type 0} (Q : A → Type 0) (Q' : B → Type 0) (R : Y → Type 0) (says_a : Data → Option A)
    (says_b : Data → Option B) (make : A → B → Y) → ((d : Data) → IfSome (says_a d) Q)
    → ((d : Data) → IfSome (says_b d) Q')
    → ((a : A) (b : B) → Q a → Q' b → R (make a b)) → (ds : Items)
    → IfSome (items_two says_a says_b make ds) (λ r. R r.0)
two_holds Q Q' R says_a says_b make each_a each_b made ds =
    then_holds (λ r. Q r.0) (λ r. R r.0) (λ a. option_and_then (λ b. Some (make a.0 b.0, b.1)) (part_in says_b a.1))
    (part_in says_a ds) (part_holds Q says_a each_a ds)
    (λ a h. one_holds Q' R says_b (make a.0) each_b (λ b k. made a.0 b h k) a.1)

pub three_holds : {A B C Y : Type 0} (Q : A → Type 0) (Q' : B → Type 0) (Q'' : C → Type 0) (R : Y → Type 0)
    (says_a : Data → Option A) (says_b : Data → Option B) (says_c : Data → Option C) (make : A → B → C → Y)
    → ((d : Data) → IfSome (says_a d) Q) → ((d : Data) → IfSome (says_b d) Q') → ((d : Data) → IfSome (says_c d) Q'')
    → ((a : A) (b : B) (c : C) → Q a → Q' b → Q'' c → R (make a b c)) → (ds : Items)
    → IfSome (items_three says_a says_b says_c make ds) (λ r. R r.0)
three_holds Q Q' Q'' R says_a says_b says_c make each_a each_b each_c made ds =
    then_holds (λ r. Q r.0) (λ r. R r.0) (λ a. items_two says_b says_c (make a.0) a.1) (part_in says_a ds)
    (part_holds Q says_a each_a ds)
    (λ a h. two_holds Q' Q'' R says_b says_c (make a.0) each_b each_c (λ b c k l. made a.0 b c h k l) a.1)

pub four_holds : {A B C D Y : Type 0} (Q : A → Type 0) (Q' : B → Type 0) (Q'' : C → Type 0) (Q''' : D → Type 0)
    (R : Y → Type 0) (says_a : Data → Option A) (says_b : Data → Option B) (says_c : Data → Option C) (says_d : Data
    → Option D)
    (make : A → B → C → D → Y) → ((d : Data) → IfSome (says_a d) Q) → ((d : Data) → IfSome (says_b d) Q')
    → ((d : Data) → IfSome (says_c d) Q'') → ((d : Data) → IfSome (says_d d) Q''')
    → ((a : A) (b : B) (c : C) (d : D) → Q a → Q' b → Q'' c → Q''' d → R (make a b c d)) → (ds : Items)
    → IfSome (items_four says_a says_b says_c says_d make ds) (λ r. R r.0)
four_holds Q Q' Q'' Q''' R says_a says_b says_c says_d make each_a each_b each_c each_d made ds =
    then_holds (λ r. Q r.0) (λ r. R r.0) (λ a. items_three says_b says_c says_d (make a.0) a.1) (part_in says_a ds)
    (part_holds Q says_a each_a ds)
    (λ a h. three_holds Q' Q'' Q''' R says_b says_c says_d (make a.0) each_b each_c each_d
    (λ b c d k l m. made a.0 b c d h k l m) a.1)

-- ---- lists with at least one member

pub none_are_read : {S : Type 0} (refused : ℕ → Refused) (count : S → ℕ) (r : Result S ℕ) (s : S) → r ≡ Ok s
    → count s ≡ 0 → some_of refused count r ≡ Err (refused 0)
none_are_read refused count r s is none =
    ap (some_of refused count) is ∙ ap (λ n. if nat_lt 0 n then Ok s else Err (refused 0)) none

pub some_are_read : {S : Type 0} (refused : ℕ → Refused) (count : S → ℕ) (r : Result S ℕ) (s : S) → r ≡ Ok s
    → 0 < count s → some_of refused count r ≡ Ok s
some_are_read refused count r s is some =
    ap (some_of refused count) is ∙ ap (λ b. if b then Ok s else Err (refused 0)) (lt-ltb 0 (count s) some)
