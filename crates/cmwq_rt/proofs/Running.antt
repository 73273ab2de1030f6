-- A worker's runs, one after another.
use Rattle.cmwq_rt.specs.Common.{◌≡◌, refl, ap, sym, subst, List, false, true, inl, inr, Entry, Call, Layout, View}
use Rattle.cmwq_rt.specs.Common.{Settles, Refused, IsStranger, is_full, BrokeOff, RunFault, NoMemory, Full, Unfinished}
use Rattle.cmwq_rt.specs.Common.{NoPlace, Closed, Stranger, NoThread}
use Rattle.cmwq_monitor.specs.Sleeping.{WhetherDone}
use Rattle.cmwq_monitor.specs.declared.monitor.Ended.{Ended}
use Rattle.cmwq_monitor.specs.declared.monitor.Ended.TheVariants.{Done, Not}
use Rattle.cmwq_rt.specs.Running.{breaks_off}

-- who settles on a history sees it
pub settles_seen : (h : List Entry) (v w : View) → Settles h v w → Settles w.seen v w
settles_seen h v w settled = subst (λ xs. Settles xs v w) (sym (ap (λ (u : View). u.seen) settled.0)) settled

-- what a call answers, other than want of room, breaks off
pub refused_breaks_off : (s : Layout) (v w : View) (c : Call) (f : RunFault) → Refused s v c f w → is_full f ≡ false
    → breaks_off f ≡ true
refused_breaks_off s v w c (NoMemory ticket) r other = refl
refused_breaks_off s v w c Full r other = absurd (cc other)
refused_breaks_off s v w c Unfinished r other = absurd r.1
refused_breaks_off s v w c NoPlace r other = absurd r.1
refused_breaks_off s v w c Closed r other = refl
refused_breaks_off s v w c (Stranger own book) r other = refl
refused_breaks_off s v w c NoThread r other = absurd r.1

pub stranger_breaks_off : (v : View) (f : RunFault) → IsStranger v f → breaks_off f ≡ true
stranger_breaks_off v f (own, book, is, differs) = ap breaks_off is

pub broke_breaks_off : (s : Layout) (v w : View) (c : Call) (f : RunFault) → BrokeOff s v c f w → is_full f ≡ false
    → breaks_off f ≡ true
broke_breaks_off s v w c f (inl r) other = refused_breaks_off s v w c f r other
broke_breaks_off s v w c f (inr (e, es, gains, part, inl memory)) other = ap breaks_off memory
broke_breaks_off s v w c f (inr (e, es, gains, part, inr (own, book, stranger, differs))) other = ap breaks_off stranger

-- what is promised of an end that is done
pub when_done : (A B : Type 0) (e : Ended) → e ≡ Done → WhetherDone e A B → A
when_done A B Done is h = h
when_done A B (Not instead) is h = cc is
