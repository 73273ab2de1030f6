-- Values that stand after one another are spelled as they were read.
use Rattle.cmwq_text.specs.Common.{◌≡◌, ℕ, ◌<◌, List, [], ◌∷◌, ◌++◌, Option, Some, ap, sym, ◌∙◌, subst, append_assoc}
use Rattle.cmwq_text.specs.Common.{decimal, same_Some, ItemId, QueueId, CpuId, greatest_byte, greatest_short}
use Rattle.cmwq_text.specs.Words.{◌>>=◌, take_none, take_one, take_two, take_three, take_four, byte_in, number_in}
use Rattle.cmwq_text.specs.Words.{wide_in, long_in}
use Rattle.cmwq_text.specs.IdText.{item_in, queue_in, cpu_in}
use Rattle.cmwq_text.proofs.Steps.{bind_some}
use Rattle.cmwq_text.proofs.IdLaws.{item_takes, queue_takes, cpu_takes, number_in_takes, wide_in_takes, long_in_takes}
use Rattle.cmwq_text.proofs.IdLaws.{byte_in_takes}

-- a reader of one word, how its values are spelled, and of which values it is said
pub record Token (A : Type 0) : Type 1 where
  pub read : List (List ℕ) → Option (A × List (List ℕ))
  pub spell : A → List ℕ
  pub IsKnown : A → Type 0
  pub takes : (ws : List (List ℕ)) (x : A × List (List ℕ)) → read ws ≡ Some x → IsKnown x.0 → ws ≡ spell x.0 ∷ x.1

abbrev pub an_item : Token ItemId
an_item = record { read = item_in; spell = λ i. decimal i.0; IsKnown = λ i. i.0 < greatest_short; takes = item_takes }

abbrev pub a_queue : Token QueueId
a_queue = record { read = queue_in; spell = λ q. decimal q.0; IsKnown = λ q. q.0 < greatest_byte; takes = queue_takes }

abbrev pub a_cpu : Token CpuId
a_cpu = record { read = cpu_in; spell = λ c. decimal c.0; IsKnown = λ c. c.0 < greatest_byte; takes = cpu_takes }

abbrev pub a_number : Token ℕ
a_number =
    record { read = number_in; spell = decimal; IsKnown = λ _. Unit {0}; takes = λ ws x e _. number_in_takes ws x e }

abbrev pub a_wide : Token ℕ
a_wide = record { read = wide_in; spell = decimal; IsKnown = λ _. Unit {0}; takes = λ ws x e _. wide_in_takes ws x e }

abbrev pub a_long : Token ℕ
a_long = record { read = long_in; spell = decimal; IsKnown = λ _. Unit {0}; takes = λ ws x e _. long_in_takes ws x e }

abbrev pub an_index : Token ℕ
an_index = record { read = byte_in; spell = decimal; IsKnown = λ n. n < greatest_byte; takes = byte_in_takes }

pub none_takes : {Y : Type 0} (y : Y) (front : List (List ℕ)) (spell : Y → List (List ℕ)) → spell y ≡ front
    → (ws : List (List ℕ)) (x : Y × List (List ℕ)) → take_none y ws ≡ Some x → front ++ ws ≡ spell x.0 ++ x.1
none_takes {Y} y front spell same ws x e =
    subst (λ (z : Y × List (List ℕ)). front ++ ws ≡ spell z.0 ++ z.1) (same_Some (y, ws) x e)
    (ap (λ (t : List (List ℕ)). t ++ ws) (sym same))

-- one more value after what is spelled
more : (front ws rest : List (List ℕ)) (w : List ℕ) → ws ≡ w ∷ rest → front ++ ws ≡ (front ++ w ∷ []) ++ rest
more front ws rest w e = ap (λ (t : List (List ℕ)). front ++ t) e ∙ sym (append_assoc front (w ∷ []) rest)

pub one_takes : {A Y : Type 0} (t : Token A) (make : A → Y) (front : List (List ℕ)) (IsKnown : Y → Type 0)
    (spell : Y → List (List ℕ))
    → ((a : A) → spell (make a) ≡ front ++ t.spell a ∷ []) → ((a : A) → IsKnown (make a) → t.IsKnown a)
    → (ws : List (List ℕ)) (x : Y × List (List ℕ)) → take_one t.read make ws ≡ Some x → IsKnown x.0
    → front ++ ws ≡ spell x.0 ++ x.1
one_takes {A} {Y} t make front IsKnown spell same parts ws x e =
    let a = bind_some (t.read ws) (λ (a : A × List (List ℕ)). Some (make a.0, a.1)) x e in
    subst (λ (z : Y × List (List ℕ)). IsKnown z.0 → front ++ ws ≡ spell z.0 ++ z.1)
    (same_Some (make a.0.0, a.0.1) x a.2)
    (λ known. more front ws a.0.1 (t.spell a.0.0) (t.takes ws a.0 a.1 (parts a.0.0 known))
    ∙ ap (λ (s : List (List ℕ)). s ++ a.0.1) (sym (same a.0.0)))

pub two_takes : {A B Y : Type 0} (t : Token A) (u : Token B) (make : A → B → Y) (front : List (List ℕ)) (IsKnown : Y
    → Type 0) (spell : Y → List (List ℕ))
    → ((a : A) (b : B) → spell (make a b) ≡ front ++ t.spell a ∷ u.spell b ∷ [])
    → ((a : A) (b : B) → IsKnown (make a b) → t.IsKnown a × u.IsKnown b)
    → (ws : List (List ℕ)) (x : Y × List (List ℕ)) → take_two t.read u.read make ws ≡ Some x → IsKnown x.0
    → front ++ ws ≡ spell x.0 ++ x.1
two_takes {A} {B} {Y} t u make front IsKnown spell same parts ws x e =
    let a = bind_some (t.read ws)
    (λ (a : A × List (List ℕ)). u.read a.1 >>= λ (b : B × List (List ℕ)). Some (make a.0 b.0, b.1)) x e in
    let b = bind_some (u.read a.0.1) (λ (b : B × List (List ℕ)). Some (make a.0.0 b.0, b.1)) x a.2 in
    subst (λ (z : Y × List (List ℕ)). IsKnown z.0 → front ++ ws ≡ spell z.0 ++ z.1)
    (same_Some (make a.0.0 b.0.0, b.0.1) x b.2)
    (λ known.
    let k = parts a.0.0 b.0.0 known in
    more (front) ws a.0.1 (t.spell a.0.0) (t.takes ws a.0 a.1 k.0)
    ∙ more (front ++ t.spell a.0.0 ∷ []) a.0.1 b.0.1 (u.spell b.0.0) (u.takes a.0.1 b.0 b.1 k.1)
    ∙ ap (λ (s : List (List ℕ)). s ++ b.0.1) (append_assoc front (t.spell a.0.0 ∷ []) (u.spell b.0.0 ∷ [])
    ∙ sym (same a.0.0 b.0.0)))

pub three_takes : {A B C Y : Type 0} (t : Token A) (u : Token B) (v : Token C) (make : A → B → C → Y)
    (front : List (List ℕ)) (IsKnown : Y → Type 0) (spell : Y → List (List ℕ))
    → ((a : A) (b : B) (c : C) → spell (make a b c) ≡ front ++ t.spell a ∷ u.spell b ∷ v.spell c ∷ [])
    → ((a : A) (b : B) (c : C) → IsKnown (make a b c) → t.IsKnown a × u.IsKnown b × v.IsKnown c)
    → (ws : List (List ℕ)) (x : Y × List (List ℕ)) → take_three t.read u.read v.read make ws ≡ Some x → IsKnown x.0
    → front ++ ws ≡ spell x.0 ++ x.1
three_takes {A} {B} {C} {Y} t u v make front IsKnown spell same parts ws x e =
    let a = bind_some (t.read ws)
    (λ (a : A × List (List ℕ)). u.read a.1 >>= λ (b : B × List (List ℕ)). v.read b.1 >>= λ (c : C × List (List ℕ)).
    Some (make a.0 b.0 c.0, c.1)) x e in
    let b = bind_some (u.read a.0.1)
    (λ (b : B × List (List ℕ)). v.read b.1 >>= λ (c : C × List (List ℕ)). Some (make a.0.0 b.0 c.0, c.1)) x a.2 in
    let c = bind_some (v.read b.0.1) (λ (c : C × List (List ℕ)). Some (make a.0.0 b.0.0 c.0, c.1)) x b.2 in
    subst (λ (z : Y × List (List ℕ)). IsKnown z.0 → front ++ ws ≡ spell z.0 ++ z.1)
    (same_Some (make a.0.0 b.0.0 c.0.0, c.0.1) x c.2)
    (λ known.
    let k = parts a.0.0 b.0.0 c.0.0 known in
    more (front) ws a.0.1 (t.spell a.0.0) (t.takes ws a.0 a.1 k.0)
    ∙ more (front ++ t.spell a.0.0 ∷ []) a.0.1 b.0.1 (u.spell b.0.0) (u.takes a.0.1 b.0 b.1 k.1)
    ∙ more ((front ++ t.spell a.0.0 ∷ []) ++ u.spell b.0.0 ∷ []) b.0.1 c.0.1 (v.spell c.0.0) (v.takes b.0.1 c.0 c.1 k.2)
    ∙ ap (λ (s : List (List ℕ)). s ++ c.0.1)
    (append_assoc (front ++ t.spell a.0.0 ∷ []) (u.spell b.0.0 ∷ []) (v.spell c.0.0 ∷ [])
    ∙ append_assoc front (t.spell a.0.0 ∷ []) (u.spell b.0.0 ∷ v.spell c.0.0 ∷ []) ∙ sym (same a.0.0 b.0.0 c.0.0)))

pub four_takes : {A B C D Y : Type 0} (t : Token A) (u : Token B) (v : Token C) (w : Token D) (make : A → B → C → D → Y)
    (front : List (List ℕ)) (IsKnown : Y → Type 0) (spell : Y → List (List ℕ))
    → ((a : A) (b : B) (c : C) (d : D) → spell (make a b c d) ≡ front ++ t.spell a ∷ u.spell b ∷ v.spell c ∷ w.spell d
    ∷ []) → ((a : A) (b : B) (c : C) (d : D) → IsKnown (make a b c d) → t.IsKnown a × u.IsKnown b × v.IsKnown c
    × w.IsKnown d)
    → (ws : List (List ℕ)) (x : Y × List (List ℕ)) → take_four t.read u.read v.read w.read make ws ≡ Some x
    → IsKnown x.0 → front ++ ws ≡ spell x.0 ++ x.1
four_takes {A} {B} {C} {D} {Y} t u v w make front IsKnown spell same parts ws x e =
    let a = bind_some (t.read ws)
    (λ (a : A × List (List ℕ)). u.read a.1 >>= λ (b : B × List (List ℕ)). v.read b.1 >>= λ (c : C × List (List ℕ)).
    w.read c.1 >>= λ (d : D × List (List ℕ)). Some (make a.0 b.0 c.0 d.0, d.1)) x e in
    let b = bind_some (u.read a.0.1)
    (λ (b : B × List (List ℕ)). v.read b.1 >>= λ (c : C × List (List ℕ)). w.read c.1 >>= λ (d : D × List (List ℕ)).
    Some (make a.0.0 b.0 c.0 d.0, d.1)) x a.2 in
    let c = bind_some (v.read b.0.1)
    (λ (c : C × List (List ℕ)). w.read c.1 >>= λ (d : D × List (List ℕ)). Some (make a.0.0 b.0.0 c.0 d.0, d.1)) x
    b.2 in
    let d = bind_some (w.read c.0.1) (λ (d : D × List (List ℕ)). Some (make a.0.0 b.0.0 c.0.0 d.0, d.1)) x c.2 in
    subst (λ (z : Y × List (List ℕ)). IsKnown z.0 → front ++ ws ≡ spell z.0 ++ z.1)
    (same_Some (make a.0.0 b.0.0 c.0.0 d.0.0, d.0.1) x d.2)
    (λ known.
    let k = parts a.0.0 b.0.0 c.0.0 d.0.0 known in
    more (front) ws a.0.1 (t.spell a.0.0) (t.takes ws a.0 a.1 k.0)
    ∙ more (front ++ t.spell a.0.0 ∷ []) a.0.1 b.0.1 (u.spell b.0.0) (u.takes a.0.1 b.0 b.1 k.1)
    ∙ more ((front ++ t.spell a.0.0 ∷ []) ++ u.spell b.0.0 ∷ []) b.0.1 c.0.1 (v.spell c.0.0) (v.takes b.0.1 c.0 c.1 k.2)
    ∙ more (((front ++ t.spell a.0.0 ∷ []) ++ u.spell b.0.0 ∷ []) ++ v.spell c.0.0 ∷ []) c.0.1 d.0.1 (w.spell d.0.0)
    (w.takes c.0.1 d.0 d.1 k.3)
    ∙ ap (λ (s : List (List ℕ)). s ++ d.0.1)
    (append_assoc ((front ++ t.spell a.0.0 ∷ []) ++ u.spell b.0.0 ∷ []) (v.spell c.0.0 ∷ []) (w.spell d.0.0 ∷ [])
    ∙ append_assoc (front ++ t.spell a.0.0 ∷ []) (u.spell b.0.0 ∷ []) (v.spell c.0.0 ∷ w.spell d.0.0 ∷ [])
    ∙ append_assoc front (t.spell a.0.0 ∷ []) (u.spell b.0.0 ∷ v.spell c.0.0 ∷ w.spell d.0.0 ∷ [])
    ∙ sym (same a.0.0 b.0.0 c.0.0 d.0.0)))
