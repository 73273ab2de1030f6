-- The last entries of each kind, as more come.
use Rattle.std.proofs.Common.{◌≡◌, ℕ, ◌<◌, Bool, List, [], ◌∷◌, length, eqb, Option, Some, None, refl, sym}
use Rattle.std.proofs.Common.{ap, ◌∙◌, subst, replicate, length-set, true, false, arith}
use Rattle.std.proofs.lemmas.Option.{same_Some}
use Rattle.std.proofs.lemmas.List.{length-replicate, get_or-replicate}
use Rattle.std.specs.Prelude.{if◌then◌else◌}
use Rattle.cmwq_model.specs.declared.entry.Entry.{Entry}
use Rattle.cmwq_model.specs.Prelude.{Layout, is_at}
use Rattle.cmwq_summary.proofs.Tables.{updated}
use Rattle.cmwq_views.specs.declared.beginnings.Beginnings.{Beginnings}
use Rattle.cmwq_views.specs.declared.beginnings.Lasts.{Lasts}
use Rattle.cmwq_views.specs.declared.deed.Deed.{Deed}
use Rattle.cmwq_views.specs.declared.deed.Deed.TheVariants as deed
use Rattle.cmwq_views.specs.declared.since.Since.{Since}
use Rattle.cmwq_views.specs.Since.{AreBeginnings, AreLasts, IsTable, key_of, last, last_at, noted, rows_of, since_entry}
use Rattle.cmwq_views.specs.Since.{table_of}

pub none_noted : (d : Deed) (many : ℕ) → IsTable d many [] (replicate many None)
unfolding last
none_noted d many = record {
  many_are = length-replicate many None;
  each = λ k h. get_or-replicate many k None None h;
}

pub no_lasts : (first second : Deed) (rows many : ℕ) (l : Lasts) → l.first.items ≡ replicate rows None
    → l.second.items ≡ replicate rows None → rows ≡ many → AreLasts first second many [] l
no_lasts first second rows many l p q same = subst (λ n. AreLasts first second n [] l) same
    (record {
      firsts = subst (IsTable first rows []) (sym p) (none_noted first rows);
      seconds = subst (IsTable second rows []) (sym q) (none_noted second rows);
    })

module _ (d : Deed) (past : List Entry) (e : Entry) where
  abbrev last_or : Option ℕ → ℕ → Option Since
  last_or o k = if is_at o k then Some (since_entry past e) else last d past k

  last_more : (k : ℕ) → last d (e ∷ past) k ≡ last_or (key_of d e) k
  unfolding last
  last_more k = refl

  pub table_goes_on : (many : ℕ) (rows : List (Option Since)) → IsTable d many past rows
      → IsTable d many (e ∷ past) (noted rows (key_of d e) (since_entry past e))
  table_goes_on many rows is = by (key_of d e) refl
    where
      by : (o : Option ℕ) → key_of d e ≡ o → IsTable d many (e ∷ past) (noted rows o (since_entry past e))
      by None key = record {
        many_are = is.many_are;
        each = λ k h. is.each k h ∙ sym (last_more k ∙ ap (λ o. last_or o k) key);
      }
      by (Some j) key = record {
        many_are = length-set rows j (Some (since_entry past e)) ∙ is.many_are;
        each = λ k h.
            updated (λ o. Some (since_entry past e)) rows j k None (subst (λ n. k < n) (sym is.many_are) h)
            ∙ ap (λ o. if eqb j k then Some (since_entry past e) else o) (is.each k h)
            ∙ sym (last_more k ∙ ap (λ o. last_or o k) key);
      }

pub lasts_go_on : (first second : Deed) (many : ℕ) (past : List Entry) (e : Entry) (l m : Lasts)
    → m.first.items ≡ noted l.first.items (key_of first e) (since_entry past e)
    → m.second.items ≡ noted l.second.items (key_of second e) (since_entry past e)
    → AreLasts first second many past l → AreLasts first second many (e ∷ past) m
lasts_go_on first second many past e l m p q are = record {
  firsts = subst (IsTable first many (e ∷ past)) (sym p)
      (table_goes_on first past e many l.first.items are.firsts);
  seconds = subst (IsTable second many (e ∷ past)) (sym q)
      (table_goes_on second past e many l.second.items are.seconds);
}

-- what is read of the tables of a history
table_is : (s : Layout) (past : List Entry) (b : Beginnings) → AreBeginnings s past b → (d : Deed)
    → IsTable d (rows_of s d) past (table_of b d)
table_is s past b are deed.Start = are.workers.firsts
table_is s past b are deed.Sleep = are.workers.seconds
table_is s past b are deed.Queue = are.items.firsts
table_is s past b are deed.Book = are.items.seconds
table_is s past b are deed.Wait = are.callers.firsts
table_is s past b are deed.Other = are.callers.seconds

pub last_is : (s : Layout) (past : List Entry) (b : Beginnings) (d : Deed) (k : ℕ) → AreBeginnings s past b
    → k < rows_of s d → last_at (table_of b d) k ≡ last d past k
last_is s past b d k are h = (table_is s past b are d).each k h

-- the last entry is one of them
below_of : (d : Deed) (past : List Entry) (e : Entry) (k : ℕ) (x : Since) (b : Bool) → is_at (key_of d e) k ≡ b
    → (if b then Some (since_entry past e) else last d past k) ≡ Some x
    → (last d past k ≡ Some x → x.entry < length past) → x.entry < length (e ∷ past)
below_of d past e k x true is h before =
    let same : since_entry past e ≡ x = same_Some (since_entry past e) x h in
    let entry : length past ≡ x.entry = ap (λ (y : Since). y.entry) same in
    omega arith
below_of d past e k x false is h before = let less = before h in omega arith

pub last_below : (d : Deed) (past : List Entry) (k : ℕ) (x : Since) → last d past k ≡ Some x → x.entry < length past
unfolding last
last_below d [] k x h = absurd (let never : None ≡ Some x = h in cc)
last_below d (e ∷ past) k x h = below_of d past e k x (is_at (key_of d e) k) refl h (last_below d past k x)
