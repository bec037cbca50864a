-- Who can go on, and where nobody can: what the entries tell is what the machine's state after them says.
use Rattle.std.proofs.Common.{◌≡◌, ℕ, suc, ◌+◌, ◌<◌, ◌==◌, List, [], ◌∷◌, ◌++◌, length, map, slice_get, refl, sym, ap, subst, ◌∙◌, arith, cond, if◌then◌else◌, Option, None, Some, option_map, Bool, true, false, not, ◌&&◌, ◌||◌, is_some, is_none, nat_le, nat_lt}
use Rattle.std.proofs.lemmas.Bool.{ltb-true, lt-ltb}
use Rattle.std.specs.List.{filter_map, list_any, enumerate_from, cons_option}
use Rattle.gt_model.specs.declared.script.Script.{Script}
use Rattle.gt_model.specs.declared.script.Instr.{Instr}
use Rattle.gt_model.specs.declared.script.Case.{Case}
use Rattle.gt_model.specs.declared.script.CaseKind.{CaseKind}
use Rattle.gt_model.specs.declared.script.What.{What}
use Rattle.gt_model.specs.declared.entry.Entry.{Entry}
use Rattle.gt_model.specs.declared.entry.Limits.{Limits}
use Rattle.gt_model.specs.declared.entry.Reason.{Reason}
use Rattle.gt_model.specs.declared.state.Goroutine.{Goroutine}
use Rattle.gt_model.specs.declared.state.Mode.{Mode}
use Rattle.gt_model.specs.declared.state.Timer.{Timer}
use Rattle.gt_model.specs.declared.context.Context.{Context}
use Rattle.gt_model.specs.declared.context.End.{End}
use Rattle.gt_model.specs.Good.{IsGood}
use Rattle.gt_model.specs.Script.{instr_at, what_at, is_func, is_chan, mutex_of, capacity_of, parent_of, ctx_of}
use Rattle.gt_model.specs.Tables.{flatten}
use Rattle.gt_rules.specs.State.{State, clock, goroutine_at, timer_at, due_of, stands, channel_at, item_count, is_closed, is_made, context_at}
use Rattle.gt_rules.specs.Panics.{fault, fault_at, fault_case, falls_below, case_fault, choice_fault, faulty_case, open_fault, or_else, when, zero_ticker, unmade_parent}
use Rattle.gt_rules.specs.Ready.{is_due, is_ready, is_ready_in, is_ready_at, is_ready_instr, is_ready_case, is_ready_alone, is_ready_recv, is_partner, partner_waits, has_partner, has_come, everyone}
use Rattle.gt_rules.specs.Operations.{receives_from, sends_to, offers, polls}
use Rattle.gt_rules.specs.Counted.{sleep_of, awaits, is_awaited, counted_timer, deadline_in, counted}
use Rattle.gt_rules.specs.After.{first_state, timer_world}
use Rattle.gt_rules.specs.History.{AllLegal}
use Rattle.gt_facts.specs.Still.{IsStill}
use Rattle.gt_laws.specs.Told.{world_in, place_of, wait_of, ToldGoroutine, Everyone, clock_told, due_told, made_told, opened_told, closed_told, sent_told, taken_told, owner_told, stands_in, derived_told, registered_told}
use Rattle.gt_laws.specs.Contexts.{end_told, ended_told, own_told}
use Rattle.gt_laws.specs.GoesOn.{has_told, underived, own_counted, case_misuse, choice_misuse, misused_from, misuse_told, misused_case, meets_at, is_partner_told, partner_told, gives_told, alone_told, meets_told, can_operate, can_be_done, goes_on_at, goes_on_in, goes_on_told, IsStillTold, waits_at, waited_told, sleep_in, due_counted, counted_told, IsStuckTold}
pub use Rattle.gt_laws.proofs.Shown.{reached}
use Rattle.gt_laws.proofs.Shown.{clock-told, due-told, made-told, derived-told, registered-told}
use Rattle.gt_laws.proofs.Channels.{opened-told, closed-told, count-told}
use Rattle.gt_laws.proofs.Syncs.{held-told, counter-told}
use Rattle.gt_laws.proofs.Everyone.{shown, place_in, wait_in, timer_in, until-shown, stands-shown, everyone-told, goroutine-told, owner-told, ctx_in}
use Rattle.gt_laws.proofs.FirstEnds.{end_of, end-told, ended-told, own-told, own_due-told}

-- ---- an instruction

none-not : {X : Type 0} (o : Option X) → is_none o ≡ not (is_some o)
none-not None = refl
none-not (Some x) = refl

-- whether a timer was made, in the words of a misuse; and a channel
unmade-told : (script : Script) (limits : Limits) (h : List Entry) (t : ℕ) → IsGood script → AllLegal script limits (first_state script) h
    → when (is_none (timer_at (reached script h) t)) Reason.Unmade ≡ when (not (made_told t h)) Reason.Unmade
unmade-told script limits h t good legal =
    ap (λ b. when b Reason.Unmade) (none-not (timer_at (reached script h) t) ∙ ap not (made-told script limits t h good legal))

unopened-told : (script : Script) (limits : Limits) (h : List Entry) (c : ℕ) → IsGood script → AllLegal script limits (first_state script) h
    → open_fault (reached script h) c ≡ or_else (when (not (opened_told c h)) Reason.Unmade) (when (closed_told c h) Reason.Closed)
unopened-told script limits h c good legal =
    ap (λ b. or_else (when b Reason.Unmade) (when (is_closed (reached script h) c) Reason.Closed))
    (none-not (channel_at (reached script h) c) ∙ ap not (opened-told script limits c h good legal))
    ∙ ap (λ b. or_else (when (not (opened_told c h)) Reason.Unmade) (when b Reason.Closed)) (closed-told script limits c h good legal)

has-told : (script : Script) (limits : Limits) (h : List Entry) (o : ℕ) → IsGood script → AllLegal script limits (first_state script) h
    → is_made (reached script h) o ≡ has_told h o
has-told script limits h o good legal =
    ap (λ b. b || is_some (channel_at (reached script h) o) || is_some (context_at (reached script h) o)) (made-told script limits o h good legal)
    ∙ (ap (λ b. made_told o h || b || is_some (context_at (reached script h) o)) (opened-told script limits o h good legal)
    ∙ ap (λ b. made_told o h || opened_told o h || b) (derived-told script limits o h good legal))

underived-told : (script : Script) (limits : Limits) (h : List Entry) (o : Option ℕ) → IsGood script → AllLegal script limits (first_state script) h
    → unmade_parent (reached script h) o ≡ underived h o
underived-told script limits h None good legal = refl
underived-told script limits h (Some x) good legal =
    ap (λ b. when b Reason.Unmade) (none-not (context_at (reached script h) x) ∙ ap not (derived-told script limits x h good legal))

case-told : (script : Script) (limits : Limits) (h : List Entry) (kind : CaseKind) → IsGood script → AllLegal script limits (first_state script) h
    → case_fault (reached script h) kind ≡ case_misuse h kind
case-told script limits h (CaseKind.Recv o) good legal = ap (λ b. when (not b) Reason.Unmade) (has-told script limits h o good legal)
case-told script limits h (CaseKind.Send c v) good legal =
    ap (λ b. when b Reason.Unmade) (none-not (channel_at (reached script h) c) ∙ ap not (opened-told script limits c h good legal))

choice-told : (script : Script) (limits : Limits) (h : List Entry) (cases : List Case) → IsGood script → AllLegal script limits (first_state script) h
    → choice_fault (reached script h) cases ≡ choice_misuse h cases
choice-told script limits h [] good legal = refl
choice-told script limits h (c ∷ cases) good legal =
    ap (λ (o : Option Reason). or_else o (choice_fault (reached script h) cases)) (case-told script limits h c.kind good legal)
    ∙ ap (λ (o : Option Reason). or_else (case_misuse h c.kind) o) (choice-told script limits h cases good legal)

-- and the number of the first case with a misuse
number-told : (script : Script) (limits : Limits) (h : List Entry) (n : ℕ) (cases : List Case) → IsGood script → AllLegal script limits (first_state script) h
    → faulty_case (reached script h) n cases ≡ misused_from h n cases
number-told script limits h n [] good legal = refl
number-told script limits h n (c ∷ cases) good legal =
    ap (λ (o : Option Reason). cond (is_some o) n (faulty_case (reached script h) (n + 1) cases)) (case-told script limits h c.kind good legal)
    ∙ ap (λ m. cond (is_some (case_misuse h c.kind)) n m) (number-told script limits h (n + 1) cases good legal)

pub misuse-told : (script : Script) (limits : Limits) (h : List Entry) (i : Instr) → IsGood script → AllLegal script limits (first_state script) h
    → fault script (reached script h) i ≡ misuse_told script h i
misuse-told script limits h (Instr.New t d) good legal = ap (λ b. or_else (when b Reason.Twice) (zero_ticker script t d)) (made-told script limits t h good legal)
misuse-told script limits h (Instr.Stop t) good legal = unmade-told script limits h t good legal
misuse-told script limits h (Instr.Reset t d) good legal = ap (λ (o : Option Reason). or_else o (zero_ticker script t d)) (unmade-told script limits h t good legal)
misuse-told script limits h (Instr.Recv o) good legal = ap (λ b. when (not b) Reason.Unmade) (has-told script limits h o good legal)
misuse-told script limits h (Instr.Make c) good legal = ap (λ b. when b Reason.Twice) (opened-told script limits c h good legal)
misuse-told script limits h (Instr.Send c v) good legal = unopened-told script limits h c good legal
misuse-told script limits h (Instr.Close c) good legal = unopened-told script limits h c good legal
misuse-told script limits h (Instr.Unlock m) good legal = ap (λ b. when (not b) Reason.Unlocked) (held-told script limits m h good legal)
misuse-told script limits h (Instr.CWait k) good legal = ap (λ b. when (not b) Reason.Unlocked) (held-told script limits (mutex_of script k) h good legal)
misuse-told script limits h (Instr.Add w n) good legal = ap (λ counter. when (falls_below counter n) Reason.Negative) (counter-told script limits w h good legal)
misuse-told script limits h (Instr.With x) good legal =
    ap (λ b. or_else (when b Reason.Twice) (unmade_parent (reached script h) (parent_of script x))) (derived-told script limits x h good legal)
    ∙ ap (or_else (when (derived_told x h) Reason.Twice)) (underived-told script limits h (parent_of script x) good legal)
misuse-told script limits h (Instr.Cancel x cause) good legal = underived-told script limits h (Some x) good legal
misuse-told script limits h (Instr.ErrOf x) good legal = underived-told script limits h (Some x) good legal
misuse-told script limits h (Instr.CauseOf x) good legal = underived-told script limits h (Some x) good legal
misuse-told script limits h (Instr.After s) good legal =
    ap (λ b. or_else (when b Reason.Twice) (unmade_parent (reached script h) (ctx_of script s))) (registered-told script limits s h good legal)
    ∙ ap (or_else (when (registered_told s h) Reason.Twice)) (underived-told script limits h (ctx_of script s) good legal)
misuse-told script limits h (Instr.Unhook s) good legal = ap (λ b. when (not b) Reason.Unmade) (registered-told script limits s h good legal)
misuse-told script limits h (Instr.Select cases default_to) good legal = choice-told script limits h cases good legal
misuse-told script limits h _ good legal = refl

pub misused-told : (script : Script) (limits : Limits) (h : List Entry) (i : Instr) → IsGood script → AllLegal script limits (first_state script) h
    → fault_case (reached script h) i ≡ misused_case h i
misused-told script limits h (Instr.Select cases default_to) good legal = number-told script limits h 1 cases good legal
misused-told script limits h _ good legal = refl

-- ---- the partner of who stands at a channel that keeps no values

-- no panic is no misuse
calm-told : (n : ℕ) (o : Option Reason) → is_none (elim o as (λ o. Option (ℕ × Reason)) [ None ↦ None | Some reason ↦ Some (n, reason) ]) ≡ is_none o
calm-told n None = refl
calm-told n (Some reason) = refl

none-there : (b : Bool) → (((b && true) && true) && false) ≡ (b && false)
none-there true = refl
none-there false = refl

some-there : (b c p d : Bool) → (((b && true) && c) && (p && d)) ≡ (b && ((c && p) && d))
some-there true true p d = refl
some-there true false p d = refl
some-there false c p d = refl

-- who stands at an instruction, in the words of the state and of the entries
partner-at : (script : Script) (limits : Limits) (h : List Entry) (b : Bool) (test : CaseKind → Bool) (o : Option Instr) → IsGood script
    → AllLegal script limits (first_state script) h
    → (b && true && is_none (elim o as (λ o. Option (ℕ × Reason)) [ None ↦ None | Some i ↦ fault_at script (reached script h) i ])
    && (elim o as (λ o. Bool) [ None ↦ false | Some i ↦ not (polls i) && offers test i ])) ≡ (b && meets_at script h (offers test) o)
partner-at script limits h b test None good legal = none-there b
partner-at script limits h b test (Some i) good legal =
    some-there b (is_none (fault_at script (reached script h) i)) (not (polls i)) (offers test i)
    ∙ ap (λ c. b && ((c && not (polls i)) && offers test i))
    (calm-told (fault_case (reached script h) i) (fault script (reached script h) i) ∙ ap is_none (misuse-told script limits h i good legal))

partner-one : (script : Script) (limits : Limits) (h : List Entry) (me : ℕ) (test : CaseKind → Bool) → IsGood script
    → AllLegal script limits (first_state script) h → (g : ℕ) (r : Goroutine)
    → is_partner script (reached script h) everyone me test (g, r) ≡ is_partner_told script h me (offers test) (g, shown r)
partner-one script limits h me test good legal g r =
    partner-at script limits h (not (g == me)) test (stands script r) good legal
    ∙ ap (λ (o : Option Instr). not (g == me) && meets_at script h (offers test) o) (stands-shown script r.place r.mode)

any-enumerated_map : {X Y : Type 0} (f : ℕ × X → Bool) (k : ℕ × Y → Bool) (m : X → Y) (n : ℕ) (xs : List X) → ((i : ℕ) (x : X) → f (i, x) ≡ k (i, m x))
    → list_any f (enumerate_from n xs) ≡ list_any k (enumerate_from n (map m xs))
any-enumerated_map f k m n [] same = refl
any-enumerated_map f k m n (x ∷ xs) same =
    ap (λ b. b || list_any f (enumerate_from (n + 1) xs)) (same n x) ∙ ap (λ b. k (n, m x) || b) (any-enumerated_map f k m (n + 1) xs same)

waits-told : (script : Script) (limits : Limits) (h : List Entry) (me : ℕ) (test : CaseKind → Bool) → IsGood script
    → AllLegal script limits (first_state script) h
    → partner_waits script (reached script h) everyone me test ≡ partner_told script h me (offers test)
waits-told script limits h me test good legal =
    any-enumerated_map (is_partner script (reached script h) everyone me test) (is_partner_told script h me (offers test)) shown 1 (reached script h).goroutines
    (partner-one script limits h me test good legal)
    ∙ ap (λ (all : Everyone). list_any (is_partner_told script h me (offers test)) (enumerate_from 1 all.goroutines)) (everyone-told script limits h good legal)

-- ---- what can be done

-- two comparisons that follow from one another
same-lt : (a b c d : ℕ) → (a < b → c < d) → (c < d → a < b) → nat_lt a b ≡ nat_lt c d
same-lt a b c d on back =
    elim (nat_lt a b) as (λ x. nat_lt a b ≡ x → x ≡ nat_lt c d) [
      | true ↦ λ e. sym (lt-ltb c d (on (ltb-true a b e)))
      | false ↦ λ e.
          elim (nat_lt c d) as (λ y. nat_lt c d ≡ y → false ≡ y) [
            | true ↦ λ f. let yes : nat_lt a b ≡ true = lt-ltb a b (back (ltb-true c d f)) in let both : false ≡ true = sym e ∙ yes in both
            | false ↦ λ f. refl
          ] refl
    ] refl

some-told : (script : Script) (limits : Limits) (h : List Entry) (c : ℕ) → IsGood script → AllLegal script limits (first_state script) h
    → nat_lt 0 (item_count (reached script h) c) ≡ nat_lt (taken_told c h) (length (sent_told c h))
some-told script limits h c good legal =
    let n : ℕ = item_count (reached script h) c in
    let k : n + taken_told c h ≡ length (sent_told c h) = count-told script limits c h good legal in
    same-lt 0 n (taken_told c h) (length (sent_told c h)) (λ l. omega arith) (λ l. omega arith)

room-told : (script : Script) (limits : Limits) (h : List Entry) (c room : ℕ) → IsGood script → AllLegal script limits (first_state script) h
    → nat_lt (item_count (reached script h) c) room ≡ nat_lt (length (sent_told c h)) (room + taken_told c h)
room-told script limits h c room good legal =
    let n : ℕ = item_count (reached script h) c in
    let k : n + taken_told c h ≡ length (sent_told c h) = count-told script limits c h good legal in
    same-lt n room (length (sent_told c h)) (room + taken_told c h) (λ l. omega arith) (λ l. omega arith)

gives-told : (script : Script) (limits : Limits) (h : List Entry) (w o : ℕ) (what : Option What) → IsGood script → AllLegal script limits (first_state script) h
    → is_ready_recv (reached script h) (has_come (reached script h) w) o what ≡ gives_told script h (clock_told w h) o what
gives-told script limits h w o None good legal = refl
gives-told script limits h w o (Some What.Timer) good legal =
    ap (λ (due : Option ℕ). is_due due (clock (reached script h) w)) (due-told script limits o h good legal)
    ∙ ap (λ now. is_due (due_told o h) now) (clock-told script limits w h good legal)
gives-told script limits h w o (Some What.Ticker) good legal =
    ap (λ (due : Option ℕ). is_due due (clock (reached script h) w)) (due-told script limits o h good legal)
    ∙ ap (λ now. is_due (due_told o h) now) (clock-told script limits w h good legal)
gives-told script limits h w o (Some (What.AfterFunc func)) good legal = refl
gives-told script limits h w o (Some (What.Chan room)) good legal =
    ap (λ b. b || is_closed (reached script h) o) (some-told script limits h o good legal)
    ∙ ap (λ b. nat_lt (taken_told o h) (length (sent_told o h)) || b) (closed-told script limits o h good legal)
gives-told script limits h w o (Some What.Mutex) good legal = ap not (held-told script limits o h good legal)
gives-told script limits h w o (Some What.Wg) good legal = ap (λ n. n == 0) (counter-told script limits o h good legal)
gives-told script limits h w o (Some (What.Cond mutex)) good legal = refl
gives-told script limits h w o (Some (What.Ctx parent form)) good legal = ended-told script limits o h good legal
gives-told script limits h w o (Some (What.Hook ctx func)) good legal = refl
gives-told script limits h w o (Some What.Error) good legal = refl
gives-told script limits h w o (Some What.Function) good legal = refl

pub alone-told : (script : Script) (limits : Limits) (h : List Entry) (w : ℕ) (kind : CaseKind) → IsGood script → AllLegal script limits (first_state script) h
    → is_ready_alone script (reached script h) (has_come (reached script h) w) kind ≡ alone_told script h (clock_told w h) kind
alone-told script limits h w (CaseKind.Recv o) good legal = gives-told script limits h w o (what_at script o) good legal
alone-told script limits h w (CaseKind.Send c v) good legal =
    ap (λ b. b || nat_lt (item_count (reached script h) c) (capacity_of script c)) (closed-told script limits c h good legal)
    ∙ ap (λ b. closed_told c h || b) (room-told script limits h c (capacity_of script c) good legal)

pair-told : (script : Script) (limits : Limits) (h : List Entry) (g : ℕ) (kind : CaseKind) → IsGood script → AllLegal script limits (first_state script) h
    → has_partner script (reached script h) everyone g kind ≡ meets_told script h g kind
pair-told script limits h g (CaseKind.Recv o) good legal =
    ap (λ b. is_chan script o && capacity_of script o == 0 && b) (waits-told script limits h g (sends_to o) good legal)
pair-told script limits h g (CaseKind.Send c v) good legal = ap (λ b. capacity_of script c == 0 && b) (waits-told script limits h g (receives_from c) good legal)

operate-told : (script : Script) (limits : Limits) (h : List Entry) (g w : ℕ) (kind : CaseKind) → IsGood script → AllLegal script limits (first_state script) h
    → is_ready_case script (reached script h) (has_come (reached script h) w) everyone g kind ≡ can_operate script h g (clock_told w h) kind
operate-told script limits h g w kind good legal =
    ap (λ b. b || has_partner script (reached script h) everyone g kind) (alone-told script limits h w kind good legal)
    ∙ ap (λ b. alone_told script h (clock_told w h) kind || b) (pair-told script limits h g kind good legal)

any-same : {X : Type 0} (f k : X → Bool) (xs : List X) → ((x : X) → f x ≡ k x) → list_any f xs ≡ list_any k xs
any-same f k [] same = refl
any-same f k (x ∷ xs) same = ap (λ b. b || list_any f xs) (same x) ∙ ap (λ b. k x || b) (any-same f k xs same)

done-told : (script : Script) (limits : Limits) (h : List Entry) (g w : ℕ) (i : Instr) → IsGood script → AllLegal script limits (first_state script) h
    → is_ready_instr script (reached script h) (has_come (reached script h) w) everyone g i ≡ can_be_done script h g (clock_told w h) i
done-told script limits h g w (Instr.Recv o) good legal = operate-told script limits h g w (CaseKind.Recv o) good legal
done-told script limits h g w (Instr.Send c v) good legal = operate-told script limits h g w (CaseKind.Send c v) good legal
done-told script limits h g w (Instr.Select cases default_to) good legal =
    ap (λ b. is_some default_to || b)
    (any-same (λ (c : Case). is_ready_case script (reached script h) (has_come (reached script h) w) everyone g c.kind)
    (λ (c : Case). can_operate script h g (clock_told w h) c.kind) cases (λ c. operate-told script limits h g w c.kind good legal))
done-told script limits h g w (Instr.Lock m) good legal = operate-told script limits h g w (CaseKind.Recv m) good legal
done-told script limits h g w (Instr.Wait o) good legal = operate-told script limits h g w (CaseKind.Recv o) good legal
done-told script limits h g w (Instr.LoopTop depth count past) good legal = refl
done-told script limits h g w (Instr.LoopEnd depth top) good legal = refl
done-told script limits h g w (Instr.Jump to) good legal = refl
done-told script limits h g w _ good legal = refl

-- ---- who goes on

at-told : (script : Script) (limits : Limits) (h : List Entry) (g w : ℕ) (o : Option Instr) → IsGood script → AllLegal script limits (first_state script) h
    → is_ready_at script (reached script h) (has_come (reached script h) w) everyone g o ≡ goes_on_at script h g (clock_told w h) o
at-told script limits h g w None good legal = refl
at-told script limits h g w (Some i) good legal =
    ap (λ (o : Option Reason). is_some o || is_ready_instr script (reached script h) (has_come (reached script h) w) everyone g i) (misuse-told script limits h i good legal)
    ∙ ap (λ b. is_some (misuse_told script h i) || b) (done-told script limits h g w i good legal)

ready-told : (script : Script) (limits : Limits) (h : List Entry) (g : ℕ) (r : Goroutine) (mode : Mode) → IsGood script → AllLegal script limits (first_state script) h
    → is_ready_in script (reached script h) g r mode ≡ goes_on_in script h g (clock_told r.world h) (place_in r.place mode) (wait_in mode)
ready-told script limits h g r Mode.At good legal = at-told script limits h g r.world (instr_at script r.place) good legal
ready-told script limits h g r (Mode.Sleeping until) good legal = ap (λ now. nat_le until now) (clock-told script limits r.world h good legal)
ready-told script limits h g r (Mode.Suspended k) good legal = refl
ready-told script limits h g r (Mode.Relocking k) good legal = ap not (held-told script limits (mutex_of script k) h good legal)
ready-told script limits h g r Mode.Ended good legal = refl

abbrev ready_in : Script → State → ℕ → Option Goroutine → Bool
ready_in script s g None = false
ready_in script s g (Some r) = is_ready script s g r

abbrev goes_on_of : Script → List Entry → ℕ → Option ToldGoroutine → Bool
goes_on_of script h g o = goes_on_in script h g (clock_told (world_in o) h) (place_of o) (wait_of o)

goes-on : (script : Script) (limits : Limits) (h : List Entry) (g : ℕ) → IsGood script → AllLegal script limits (first_state script) h
    → ready_in script (reached script h) g (goroutine_at (reached script h) g) ≡ goes_on_told script g h
goes-on script limits h g good legal =
    elim (goroutine_at (reached script h) g) as (λ o. ready_in script (reached script h) g o ≡ goes_on_of script h g (option_map shown o)) [
      | None ↦ refl
      | Some r ↦ ready-told script limits h g r r.mode good legal
    ]
    ∙ ap (λ (o : Option ToldGoroutine). goes_on_of script h g o) (goroutine-told script limits g h good legal)

-- ---- AfterFunc timers

come-told : (script : Script) (limits : Limits) (h : List Entry) (t : ℕ) → IsGood script → AllLegal script limits (first_state script) h
    → is_due (due_of (reached script h) t) (clock (reached script h) (timer_world (reached script h) t)) ≡ is_due (due_told t h) (clock_told (owner_told script t h) h)
come-told script limits h t good legal =
    ap (λ (o : Option ℕ). is_due o (clock (reached script h) (timer_world (reached script h) t))) (due-told script limits t h good legal)
    ∙ (ap (λ now. is_due (due_told t h) now) (clock-told script limits (timer_world (reached script h) t) h good legal)
    ∙ ap (λ w. is_due (due_told t h) (clock_told w h)) (owner-told script limits t h good legal))

abbrev come_in : State → Option Timer → Bool
come_in s o = is_due (elim o as (λ o. Option ℕ) [ None ↦ None | Some r ↦ r.due ]) (clock s (elim o as (λ o. ℕ) [ None ↦ 0 | Some r ↦ r.world ]))

-- and contexts
abbrev own_due_in : State → Option Context → Bool
own_due_in s o = is_due (elim o as (λ o. Option ℕ) [ None ↦ None | Some r ↦ r.own ]) (clock s (elim o as (λ o. ℕ) [ None ↦ 0 | Some r ↦ r.world ]))

some-none : (o : Option End) → is_some o ≡ false → o ≡ None
some-none None h = refl
some-none (Some end) h = cc

-- ---- the program stands still

pub still-told : (script : Script) (limits : Limits) (h : List Entry) → IsGood script → AllLegal script limits (first_state script) h
    → IsStill script (reached script h) → IsStillTold script h
still-told script limits h good legal still = record {
  nobody = λ g. sym (goes-on script limits h g good legal)
      ∙ elim (goroutine_at (reached script h) g) as (λ o. goroutine_at (reached script h) g ≡ o → ready_in script (reached script h) g o ≡ false) [
        | None ↦ λ e. refl
        | Some r ↦ λ e. still.nobody_ready g r e
      ] refl;
  no_func = λ t func. sym (come-told script limits h t good legal)
      ∙ elim (timer_at (reached script h) t) as (λ o. timer_at (reached script h) t ≡ o → come_in (reached script h) o ≡ false) [
        | None ↦ λ e. refl
        | Some r ↦ λ e. still.no_func_due t r e func
      ] refl;
  no_deadline = λ x going. sym (own_due-told script limits x h good legal)
      ∙ elim (context_at (reached script h) x) as (λ o. context_at (reached script h) x ≡ o → own_due_in (reached script h) o ≡ false) [
        | None ↦ λ e. refl
        | Some r ↦ λ e.
            let end : r.end ≡ end_told script x h = sym (ap end_of e) ∙ end-told script limits x h good legal (ap is_some e) in
            still.no_deadline_due x r e (end ∙ some-none (end_told script x h) going)
      ] refl;
}

pub told-still : (script : Script) (limits : Limits) (h : List Entry) → IsGood script → AllLegal script limits (first_state script) h
    → IsStillTold script h → IsStill script (reached script h)
told-still script limits h good legal still = record {
  nobody_ready = λ g r e. sym (ap (λ (o : Option Goroutine). ready_in script (reached script h) g o) e) ∙ (goes-on script limits h g good legal ∙ still.nobody g);
  no_func_due = λ t r e func. sym (ap (λ (o : Option Timer). come_in (reached script h) o) e) ∙ (come-told script limits h t good legal ∙ still.no_func t func);
  no_deadline_due = λ x r e none.
      let going : ended_told script x h ≡ false = ap is_some (sym (end-told script limits x h good legal (ap is_some e)) ∙ (ap end_of e ∙ none)) in
      sym (ap (λ (o : Option Context). own_due_in (reached script h) o) e) ∙ (own_due-told script limits x h good legal ∙ still.no_deadline x going);
}

-- ---- the counted times

given-map : {X Y : Type 0} (f : X → Option ℕ) (k : Y → Option ℕ) (m : X → Y) (xs : List X) → ((x : X) → f x ≡ k (m x)) → filter_map f xs ≡ filter_map k (map m xs)
given-map f k m [] same = refl
given-map f k m (x ∷ xs) same =
    ap (λ (o : Option ℕ). cons_option o (filter_map f xs)) (same x) ∙ ap (λ times. cons_option (k (m x)) times) (given-map f k m xs same)

any-map : {X Y : Type 0} (f : X → Bool) (k : Y → Bool) (m : X → Y) (xs : List X) → ((x : X) → f x ≡ k (m x)) → list_any f xs ≡ list_any k (map m xs)
any-map f k m [] same = refl
any-map f k m (x ∷ xs) same = ap (λ b. b || list_any f xs) (same x) ∙ ap (λ b. k (m x) || b) (any-map f k m xs same)

given-enumerated : {X Y : Type 0} (f : ℕ × X → Option ℕ) (k : ℕ × Y → Option ℕ) (m : X → Y) (n : ℕ) (xs : List X)
    → ((i : ℕ) (x : X) → slice_get xs i ≡ Some x → f (n + i, x) ≡ k (n + i, m x)) → filter_map f (enumerate_from n xs) ≡ filter_map k (enumerate_from n (map m xs))
given-enumerated f k m n [] same = refl
given-enumerated f k m n (x ∷ xs) same =
    let here : n + 0 ≡ n = omega arith in
    ap (λ (o : Option ℕ). cons_option o (filter_map f (enumerate_from (n + 1) xs))) (subst (λ j. f (j, x) ≡ k (j, m x)) here (same 0 x refl))
    ∙ ap (λ times. cons_option (k (n, m x)) times)
    (given-enumerated f k m (n + 1) xs (λ i y e. subst (λ j. f (j, y) ≡ k (j, m y)) (next n i) (same (suc i) y e)))
  where
    next : (n i : ℕ) → n + suc i ≡ (n + 1) + i
    next n i = omega arith

sleep-told : (w : ℕ) (r : Goroutine) → sleep_of w r ≡ sleep_in w (shown r)
sleep-told w r = ap (λ (o : Option ℕ). if r.world == w then o else None) (until-shown r.mode)

waits-there : (t : ℕ) (o : Option Instr) → (elim o as (λ o. Bool) [ None ↦ false | Some i ↦ offers (receives_from t) i ]) ≡ waits_at t o
waits-there t None = refl
waits-there t (Some i) = refl

abbrev waits_of : Script → ℕ → ℕ → ToldGoroutine → Bool
waits_of script w t r = r.world == w && waits_at t (stands_in script r.place r.wait)

awaits-told : (script : Script) (w t : ℕ) (r : Goroutine) → awaits script w t r ≡ waits_of script w t (shown r)
awaits-told script w t r =
    ap (λ b. r.world == w && b) (waits-there t (stands script r) ∙ ap (waits_at t) (stands-shown script r.place r.mode))

waited-told : (script : Script) (limits : Limits) (h : List Entry) (w t : ℕ) → IsGood script → AllLegal script limits (first_state script) h
    → is_awaited script (reached script h) w t ≡ waited_told script w t h
waited-told script limits h w t good legal =
    any-map (awaits script w t) (waits_of script w t) shown (reached script h).goroutines (awaits-told script w t)
    ∙ ap (λ (all : Everyone). list_any (waits_of script w t) all.goroutines) (everyone-told script limits h good legal)

timer-counted : (script : Script) (limits : Limits) (h : List Entry) (w t : ℕ) (o : Option Timer) → IsGood script → AllLegal script limits (first_state script) h
    → slice_get (reached script h).timers t ≡ Some o → counted_timer script (reached script h) w (t, o) ≡ due_counted script w h (t, timer_in o)
timer-counted script limits h w t None good legal there = refl
timer-counted script limits h w t (Some r) good legal there =
    let due : r.due ≡ due_told t h = sym (ap (λ (o : Option (Option Timer)). elim (flatten o) as (λ o. Option ℕ) [ None ↦ None | Some r ↦ r.due ]) there) ∙ due-told script limits t h good legal in
    ap (λ b. cond (r.world == w && (is_func script t || b)) r.due None) (waited-told script limits h w t good legal)
    ∙ ap (λ (o : Option ℕ). cond (r.world == w && (is_func script t || waited_told script w t h)) o None) due

given-numbered : {X Y : Type 0} (f : X → Option ℕ) (k : ℕ × Y → Option ℕ) (m : X → Y) (n : ℕ) (xs : List X)
    → ((i : ℕ) (x : X) → slice_get xs i ≡ Some x → f x ≡ k (n + i, m x)) → filter_map f xs ≡ filter_map k (enumerate_from n (map m xs))
given-numbered f k m n [] same = refl
given-numbered f k m n (x ∷ xs) same =
    let here : n + 0 ≡ n = omega arith in
    ap (λ (o : Option ℕ). cons_option o (filter_map f xs)) (subst (λ j. f x ≡ k (j, m x)) here (same 0 x refl))
    ∙ ap (λ times. cons_option (k (n, m x)) times)
    (given-numbered f k m (n + 1) xs (λ i y e. subst (λ j. f y ≡ k (j, m y)) (next n i) (same (suc i) y e)))
  where
    next : (n i : ℕ) → n + suc i ≡ (n + 1) + i
    next n i = omega arith

deadline-counted : (script : Script) (limits : Limits) (h : List Entry) (w x : ℕ) (o : Option Context) → IsGood script → AllLegal script limits (first_state script) h
    → slice_get (reached script h).contexts x ≡ Some o → deadline_in w o ≡ own_counted script w h (x, ctx_in o)
deadline-counted script limits h w x None good legal there = refl
deadline-counted script limits h w x (Some r) good legal there =
    let is : context_at (reached script h) x ≡ Some r = ap (λ (o : Option (Option Context)). flatten o) there in
    let end : r.end ≡ end_told script x h = sym (ap end_of is) ∙ end-told script limits x h good legal (ap is_some is) in
    let own : r.own ≡ own_told script x h = sym (ap (λ (o : Option Context). elim o as (λ o. Option ℕ) [ None ↦ None | Some r ↦ r.own ]) is) ∙ own-told script limits x h good legal in
    ap (λ b. cond (r.world == w && b) r.own None) (none-not r.end ∙ ap (λ o. not (is_some o)) end)
    ∙ ap (λ (o : Option ℕ). cond (r.world == w && not (ended_told script x h)) o None) own

pub counted-told : (script : Script) (limits : Limits) (h : List Entry) (w : ℕ) → IsGood script → AllLegal script limits (first_state script) h
    → counted script (reached script h) w ≡ counted_told script w h
counted-told script limits h w good legal =
    let s : State = reached script h in
    ap (λ times. times ++ filter_map (counted_timer script s w) (enumerate_from 0 s.timers) ++ filter_map (deadline_in w) s.contexts)
    (given-map (sleep_of w) (sleep_in w) shown s.goroutines (sleep-told w))
    ∙ (ap (λ times. filter_map (sleep_in w) (map shown s.goroutines) ++ times ++ filter_map (deadline_in w) s.contexts)
    (given-enumerated (counted_timer script s w) (due_counted script w h) timer_in 0 s.timers
    (λ t o e. subst (λ j. counted_timer script s w (j, o) ≡ due_counted script w h (j, timer_in o)) (zero-more t) (timer-counted script limits h w t o good legal e)))
    ∙ (ap (λ times. filter_map (sleep_in w) (map shown s.goroutines) ++ filter_map (due_counted script w h) (enumerate_from 0 (map timer_in s.timers)) ++ times)
    (given-numbered (deadline_in w) (own_counted script w h) ctx_in 0 s.contexts
    (λ x o e. subst (λ j. deadline_in w o ≡ own_counted script w h (j, ctx_in o)) (zero-more x) (deadline-counted script limits h w x o good legal e)))
    ∙ ap (λ (all : Everyone). filter_map (sleep_in w) all.goroutines ++ filter_map (due_counted script w h) (enumerate_from 0 all.timers)
    ++ filter_map (own_counted script w h) (enumerate_from 0 all.contexts)) (everyone-told script limits h good legal)))
  where
    zero-more : (t : ℕ) → t ≡ 0 + t
    zero-more t = omega arith

-- ---- nothing can go on

pub stuck-told : (script : Script) (limits : Limits) (h : List Entry) → IsGood script → AllLegal script limits (first_state script) h
    → IsStill script (reached script h) → counted script (reached script h) 0 ≡ [] → IsStuckTold script h
stuck-told script limits h good legal still none =
    record { still = still-told script limits h good legal still; none_counted = sym (counted-told script limits h 0 good legal) ∙ none }

pub told-stuck : (script : Script) (limits : Limits) (h : List Entry) → IsGood script → AllLegal script limits (first_state script) h
    → IsStuckTold script h → IsStill script (reached script h) × (counted script (reached script h) 0 ≡ [])
told-stuck script limits h good legal stuck =
    (told-still script limits h good legal stuck.still, counted-told script limits h 0 good legal ∙ stuck.none_counted)
