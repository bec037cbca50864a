-- A legal history can be printed: what its entries name is declared as such.
use Rattle.std.proofs.Common.{◌≡◌, ℕ, zero, suc, ◌≤◌, List, [], ◌∷◌, sym, subst, arith, cond, Option, None, Some, Bool, true, false, option_map, IsTrue, IfSome, IsSomeAnd}
use Rattle.gt_model.specs.declared.script.Script.{Script}
use Rattle.gt_model.specs.declared.script.Instr.{Instr}
use Rattle.gt_model.specs.declared.script.CaseKind.{CaseKind}
use Rattle.gt_model.specs.Script.{is_chan}
use Rattle.gt_model.specs.declared.context.CauseVal.{CauseVal}
use Rattle.gt_model.specs.declared.context.End.{End}
use Rattle.gt_model.specs.declared.state.Mode.{Mode}
use Rattle.gt_model.specs.declared.entry.Entry.{Entry}
use Rattle.gt_model.specs.declared.entry.Limits.{Limits}
use Rattle.gt_model.specs.declared.entry.Reason.{Reason}
use Rattle.gt_model.specs.Good.{IsGood}
use Rattle.gt_model.specs.Named.{IsNamed, IsNamedCause, AllNamed}
use Rattle.gt_rules.specs.State.{State, stands_at, mode_of, sleeps_until, next_number, end_at}
use Rattle.gt_rules.specs.Contexts.{hook_is_due}
use Rattle.gt_rules.specs.declared.change.Move.{Move}
use Rattle.gt_rules.specs.Change.{change_of}
use Rattle.gt_rules.specs.After.{after}
use Rattle.gt_rules.specs.Legal.{May, MayPanic, Operates, Signals, operation_at}
use Rattle.gt_rules.specs.Finish.{Legal}
use Rattle.gt_rules.specs.History.{AllLegal}
use Rattle.gt_facts.specs.Formed.{IsFormed}
use Rattle.gt_facts.proofs.Formed.{formed-Legal}
use Rattle.gt_facts.proofs.Within.{relocking-cond, cancels-ctx}
use Rattle.gt_facts.proofs.Makers.{Maker, calls, receives, trades, pairs, wakes, panics, retakes, signals, maker, sets, trades-May}
use Rattle.gt_facts.proofs.Starts.{starts}
use Rattle.gt_facts.proofs.Contexts.{end-named, expired-fits}
pub use Rattle.gt_facts.proofs.Lookups.{names-instr_at, names-Does, names-Operates}

-- goroutines are numbered from 1: there is none with the number 0
one-stands_at : (script : Script) (s : State) (g : ℕ) (i : Instr) → stands_at script s g ≡ Some i → 1 ≤ g
one-stands_at script s zero i e = cc
one-stands_at script s (suc g) i e = omega arith

one-sleeps_until : (s : State) (g : ℕ) (P : ℕ → Type 0) → IsSomeAnd (sleeps_until s g) P → 1 ≤ g
one-sleeps_until s zero P h = absurd h
one-sleeps_until s (suc g) P h = omega arith

one-operation_at : (script : Script) (s : State) (g case_no : ℕ) (kind : CaseKind) → operation_at script s (record { g = g; case_no = case_no }) ≡ Some kind → 1 ≤ g
one-operation_at script s zero case_no kind e = cc
one-operation_at script s (suc g) case_no kind e = omega arith

one-mode_of : (s : State) (g : ℕ) (mode : Mode) → mode_of s g ≡ Some mode → 1 ≤ g
one-mode_of s zero mode e = cc
one-mode_of s (suc g) mode e = omega arith

one-may_panic : (script : Script) (s : State) (g case_no : ℕ) (reason : Reason) → MayPanic script s (record { g = g; case_no = case_no }) reason → 1 ≤ g
one-may_panic script s zero case_no reason may = absurd may
one-may_panic script s (suc g) case_no reason may = omega arith

one-next_number : (s : State) (child : ℕ) → child ≡ next_number s → 1 ≤ child
one-next_number s child e = omega arith

-- who makes an entry has a number
one-Maker : (script : Script) (s : State) (m p : Option (ℕ × Move)) (k : Option (ℕ × ℕ)) → Maker script s m p k → IfSome m (λ (m : ℕ × Move). 1 ≤ m.0)
one-Maker script s m q k (calls g i n does goes leaves) = one-stands_at script s g i does.stands
one-Maker script s m q k (receives p t due call timer is come) = one-operation_at script s p.g p.case_no (CaseKind.Recv t) call.stands
one-Maker script s m q k (trades p kind call ready) = one-operation_at script s p.g p.case_no kind call.stands
one-Maker script s m q k (pairs from to c v sends gets chan none other waits) = one-operation_at script s from.g from.case_no (CaseKind.Send c v) sends.stands
one-Maker script s m q k (wakes g h) = one-sleeps_until s g _ h
one-Maker script s m q k (panics p reason h) = one-may_panic script s p.g p.case_no reason h
one-Maker script s m q k (retakes g c relocks free) = one-mode_of s g (Mode.Relocking c) relocks
one-Maker script s m q k (signals g c h does waits) = one-stands_at script s g (Instr.Signal c) does.stands
one-Maker script s m q k _ = tt

-- and so has who is signalled
one-signalled : (s : State) (k : ℕ) (woken : Option ℕ) → Signals s k woken → IfSome woken (λ g. 1 ≤ g)
one-signalled s k None h = tt
one-signalled s k (Some g) h = one-mode_of s g (Mode.Suspended k) h

-- and who is started at once by a hook
one-child : (s : State) (child : Option ℕ) (due : Bool) → child ≡ cond due (Some (next_number s)) None → IfSome child (λ g. 1 ≤ g)
one-child s None due e = tt
one-child s (Some g) true e = let is : g ≡ next_number s = cc in one-next_number s g is
one-child s (Some g) false e = cc

-- and the cause of an end is named
cause-named : (script : Script) (s : State) (x : ℕ) (cause : Option CauseVal) → IsFormed script s
    → cause ≡ option_map (λ (end : End). end.cause) (end_at s x) → IsNamedCause script cause
cause-named script s x cause formed is =
    elim (end_at s x)
    as (λ o. IfSome o (λ (end : End). IsNamedCause script (Some end.cause)) → cause ≡ option_map (λ (end : End). end.cause) o → IsNamedCause script cause) [
      | None ↦ λ h e. subst (IsNamedCause script) (sym e) tt
      | Some end ↦ λ h e. subst (IsNamedCause script) (sym e) h
    ] (end-named script s x formed) is

-- an entry that may come next can be printed: its goroutines have numbers, and its timer, its channel and its function are declared
pub named-May : (script : Script) (s : State) (e : Entry) → IsGood script → IsFormed script s → May script s e → IsNamed script e
named-May script s (Entry.Go g child f) good formed may =
    (tt, (one-Maker script s _ _ _ (maker script s (Entry.Go g child f) may), (one-next_number s child may.1, ((starts script s (Entry.Go g child f) good formed may).0, tt))))
named-May script s (Entry.FireFunc t child) good formed may = (tt, (may.0, (one-next_number s child may.2, tt)))
named-May script s (Entry.Recv p c v) good formed may = (tt, (one-operation_at script s p.g p.case_no (CaseKind.Recv c) may.0.stands, (may.1, (tt, tt))))
named-May script s (Entry.Pair from to c v) good formed may =
    let sends : Operates script s from (CaseKind.Send c v) = may.0 in
    let gets : Operates script s to (CaseKind.Recv c) = may.1 in
    let chan : IsTrue (is_chan script c) = names-Operates script s from (CaseKind.Send c v) good sends in (
      tt,
      (
        one-operation_at script s from.g from.case_no (CaseKind.Send c v) sends.stands,
        (one-operation_at script s to.g to.case_no (CaseKind.Recv c) gets.stands, (chan, (tt, tt))),
      ),
    )
named-May script s (Entry.Lock g m) good formed may = (tt, (one-stands_at script s g (Instr.Lock m) may.0.stands, (may.1, tt)))
named-May script s (Entry.Unlock g m) good formed may = (tt, (one-stands_at script s g (Instr.Unlock m) may.stands, (names-Does script s g (Instr.Unlock m) good may, tt)))
named-May script s (Entry.Add g w n) good formed may = (tt, (one-stands_at script s g (Instr.Add w n) may.stands, ((names-Does script s g (Instr.Add w n) good may).0, (tt, tt))))
named-May script s (Entry.WgWait g w) good formed may = (tt, (one-stands_at script s g (Instr.Wait w) may.0.stands, (may.1, tt)))
named-May script s (Entry.CondWait g k) good formed may = (tt, (one-stands_at script s g (Instr.CWait k) may.stands, (names-Does script s g (Instr.CWait k) good may, tt)))
named-May script s (Entry.CondWake g k) good formed may = (tt, (one-mode_of s g (Mode.Relocking k) may.0, (relocking-cond script s g k formed may.0, tt)))
named-May script s (Entry.Signal g k woken) good formed may =
    (tt, (one-stands_at script s g (Instr.Signal k) may.0.stands, (names-Does script s g (Instr.Signal k) good may.0, (one-signalled s k woken may.1, tt))))
named-May script s (Entry.Broadcast g k count) good formed may =
    (tt, (one-stands_at script s g (Instr.Broadcast k) may.0.stands, (names-Does script s g (Instr.Broadcast k) good may.0, (tt, tt))))
named-May script s (Entry.CtxMake g x ended) good formed may =
    (tt, (one-stands_at script s g (Instr.With x) may.0.stands, (names-Does script s g (Instr.With x) good may.0, (tt, tt))))
named-May script s (Entry.Cancel g x newly count) good formed may = (
  tt,
  (one-stands_at script s g (Instr.Cancel x may.0) may.1.stands, (cancels-ctx script x may.0 (names-Does script s g (Instr.Cancel x may.0) good may.1), (tt, (tt, tt)))),
)
named-May script s (Entry.Expire x count) good formed may = (tt, ((expired-fits script s x formed may.0).named, (tt, tt)))
named-May script s (Entry.CtxErr g x err) good formed may =
    (tt, (one-stands_at script s g (Instr.ErrOf x) may.0.stands, (names-Does script s g (Instr.ErrOf x) good may.0, (tt, tt))))
named-May script s (Entry.Cause g x cause) good formed may =
    (tt, (one-stands_at script s g (Instr.CauseOf x) may.0.stands, (names-Does script s g (Instr.CauseOf x) good may.0, (cause-named script s x cause formed may.1, tt))))
named-May script s (Entry.CtxDone p x) good formed may = (tt, (one-operation_at script s p.g p.case_no (CaseKind.Recv x) may.0.stands, (may.1, tt)))
named-May script s (Entry.CtxAfter g h child) good formed may = (
  tt,
  (
    one-stands_at script s g (Instr.After h) may.0.stands,
    (names-Does script s g (Instr.After h) good may.0, (one-child s child (hook_is_due script s h) may.1, tt)),
  ),
)
named-May script s (Entry.CtxStop g h stopped) good formed may =
    (tt, (one-stands_at script s g (Instr.Unhook h) may.0.stands, (names-Does script s g (Instr.Unhook h) good may.0, (tt, tt))))
named-May script s e good formed may =
    assumption (
      one-Maker script s (change_of e).mover (change_of e).partner (change_of e).clock (maker script s e may),
      sets script s e good may,
      trades-May script s e good may,
    )

named-Legal : (script : Script) (limits : Limits) (s : State) (e : Entry) → IsGood script → IsFormed script s → Legal script limits s e → IsNamed script e
named-Legal script limits s (Entry.Finish outcome) good formed legal = (tt, tt)
named-Legal script limits s e good formed legal = named-May script s e good formed legal.1

-- a legal history can be printed
pub AllNamed-legal : (script : Script) (limits : Limits) (s : State) (h : List Entry)
    → IsGood script → IsFormed script s → AllLegal script limits s h → AllNamed script h
AllNamed-legal script limits s [] good formed legal = tt
AllNamed-legal script limits s (e ∷ h) good formed legal =
    (named-Legal script limits s e good formed legal.0, AllNamed-legal script limits (after script s e) h good (formed-Legal script limits s e good formed legal.0) legal.1)
