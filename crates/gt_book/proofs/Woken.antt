-- Who is woken, by the mode of a goroutine.
use Rattle.std.proofs.Common.{◌≡◌, ℕ, cond, refl, ap, ◌∙◌, Option, None, Some, Bool, true, false, not, IsTrue}
use Rattle.gt_model.specs.declared.script.Script.{Script}
use Rattle.gt_model.specs.declared.script.Instr.{Instr}
use Rattle.gt_model.specs.declared.script.What.{What}
use Rattle.gt_model.specs.declared.entry.Entry.{Entry}
use Rattle.gt_model.specs.declared.entry.Party.{Party}
use Rattle.gt_model.specs.declared.state.Goroutine.{Goroutine}
use Rattle.gt_model.specs.declared.state.Mode.{Mode}
use Rattle.gt_model.specs.Script.{instr_at, names_mutex, names_cond}
use Rattle.gt_rules.specs.State.{State, goroutine_at, mode_of, is_locked, stands_at}
use Rattle.gt_rules.specs.Ready.{is_ready_recv, no_timer}
use Rattle.gt_facts.proofs.Lookups.{Standing, standing, InMode, in-mode}
use Rattle.gt_book.specs.Woken.{alone_of, relocks, woken_in, woken_by}
use Rattle.gt_book.proofs.Firm.{not-false}

-- a Cond is never ready, and a mutex that is locked is not
pub cond-unready : (s : State) (o : ℕ) (w : Option What) → IsTrue (names_cond w) → is_ready_recv s no_timer o w ≡ false
cond-unready s o (Some (What.Cond mutex)) cond = refl
cond-unready s o _ cond = cc

pub locked-unready : (s : State) (o : ℕ) (w : Option What) → IsTrue (names_mutex w) → is_locked s o ≡ true → is_ready_recv s no_timer o w ≡ false
locked-unready s o (Some What.Mutex) mutex locked = ap not locked
locked-unready s o _ mutex locked = cc

pub unready-locked : (s : State) (o : ℕ) (w : Option What) → IsTrue (names_mutex w) → is_ready_recv s no_timer o w ≡ false → is_locked s o ≡ true
unready-locked s o (Some What.Mutex) mutex h = not-false (is_locked s o) h
unready-locked s o _ mutex h = cc

-- ---- who is woken, by its mode

abbrev pub woken_as : Script → State → ℕ → Goroutine → Mode → Option Entry
woken_as script s g r mode = elim mode [
  | Mode.At ↦ alone_of script s g (instr_at script r.place)
  | Mode.Sleeping until ↦ None
  | Mode.Suspended k ↦ None
  | Mode.Relocking k ↦ relocks script s g k
  | Mode.Ended ↦ None
]

pub woken-there : (script : Script) (s : State) (p : Party) (r : Goroutine) (mode : Mode) → goroutine_at s p.g ≡ Some r → r.mode ≡ mode → woken_by script s (Some p) ≡ woken_as script s p.g r mode
woken-there script s p r mode there is =
    ap (λ (o : Option Goroutine). elim o as (λ o. Option Entry) [ None ↦ None | Some r ↦ woken_in script s p.g r ]) there ∙ ap (woken_as script s p.g r) is

pub woken-stands : (script : Script) (s : State) (p : Party) (i : Instr) → stands_at script s p.g ≡ Some i → woken_by script s (Some p) ≡ alone_of script s p.g (Some i)
woken-stands script s p i stands =
    let st : Standing script s p.g i = standing script s p.g i stands in
    woken-there script s p st.who Mode.At st.there st.at ∙ ap (alone_of script s p.g) st.on

pub woken-relocks : (script : Script) (s : State) (p : Party) (k : ℕ) → mode_of s p.g ≡ Some (Mode.Relocking k) → woken_by script s (Some p) ≡ relocks script s p.g k
woken-relocks script s p k mode =
    let a : InMode s p.g (Mode.Relocking k) = in-mode s p.g (Mode.Relocking k) mode in
    woken-there script s p a.who (Mode.Relocking k) a.there a.its

pub locked-none : (locked : Bool) (x : Entry) → cond locked None (Some x) ≡ None → locked ≡ true
locked-none true x h = refl
locked-none false x h = cc
