-- What a reader returned is what a definition gives, unless memory ran out or the source failed.
use Rattle.std.specs.Prelude.{◌≡◌, Result, Ok, Err}
use Rattle.cmwq_base.specs.declared.refusal.Refusal.{Refusal}
use Rattle.cmwq_base.specs.declared.refusal.Refusal.TheVariants as refusal

-- the refusal is the definition's, unless memory ran out
abbrev pub Refuses : {Y : Type 0} → Refusal → Result Y Refusal → Type 0
Refuses refusal.NoMemory read = Unit {0}
Refuses refusal.ReadFault read = ⊥
Refuses refusal.WriteFault read = ⊥
Refuses refusal.TooLong read = read ≡ Err refusal.TooLong
Refuses (refusal.BadLine n) read = read ≡ Err (refusal.BadLine n)
Refuses (refusal.BadShape n) read = read ≡ Err (refusal.BadShape n)
Refuses (refusal.NoSuchId n) read = read ≡ Err (refusal.NoSuchId n)

abbrev pub GivesAs : {X Y : Type 0} → (X → Y) → Result X Refusal → Result Y Refusal → Type 0
GivesAs view (Ok x) read = read ≡ Ok (view x)
GivesAs view (Err e) read = Refuses e read

-- the same, unless the source failed
abbrev pub Fails : {Y : Type 0} → Refusal → Result Y Refusal → Type 0
Fails refusal.ReadFault read = Unit {0}
Fails e read = Refuses e read

abbrev pub Gives : {X Y : Type 0} → (X → Y) → Result X Refusal → Result Y Refusal → Type 0
Gives view (Ok x) read = read ≡ Ok (view x)
Gives view (Err e) read = Fails e read
