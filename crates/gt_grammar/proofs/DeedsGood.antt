-- Deeds that follow one another rightly make a good script.
use Rattle.std.proofs.Common.{◌≡◌, ◌⊎◌, inl, inr, ℕ, zero, suc, ◌+◌, ◌<◌, ◌≤◌, ltb, Bool, true, false, cond, ◌&&◌, ◌||◌, IsSome, List, [], ◌∷◌, length, slice_get, sum_by, filter, Option, Some, None, refl, sym, ap, subst, ◌∙◌, arith, codes}
use Rattle.std.specs.Option.{option_map, option_and_then}
use Rattle.std.specs.List.{All}
use Rattle.std.proofs.lemmas.List.Elements.{All-cons}
use Rattle.std.proofs.lemmas.List.Sums.{sum_by-cons}
use Rattle.std.proofs.lemmas.Option.{slice_get_within}
use Rattle.std.proofs.lemmas.Bool.{eq-eqb, ne_eqb, ltb-false, both_ways}
use Rattle.gt_model.specs.declared.script.Script.{Script}
use Rattle.gt_model.specs.declared.script.Func.{Func}
use Rattle.gt_model.specs.declared.script.Decl.{Decl}
use Rattle.gt_model.specs.declared.script.What.{What}
use Rattle.gt_model.specs.declared.script.Instr.{Instr}
use Rattle.gt_model.specs.declared.script.Case.{Case}
use Rattle.gt_model.specs.declared.script.CaseKind.{CaseKind}
use Rattle.gt_model.specs.declared.context.Form.{Form}
use Rattle.gt_model.specs.Script.{what_at, names_timer, names_func, names_chan, names_mutex, names_wg, names_cond, names_ctx, names_hook, names_error, named_form, can_end, takes_cause, form_of, is_ctx as model_is_ctx, is_endable as model_is_endable, is_hook as model_is_hook, is_error as model_is_error, is_chan as model_is_chan, is_timer as model_is_timer, is_mutex as model_is_mutex, is_wg as model_is_wg, is_cond as model_is_cond}
use Rattle.gt_model.specs.Good.{is_setting as model_is_setting, gives_values as model_gives_values, awaits_timer as model_awaits, OperatesRightly, IsGoodChoice, is_finish, is_line, NamesRightly, FormsRightly, DeclaresRightly, IsGoodInstr, IsGoodCode, IsGood, function_name}
use Rattle.gt_table.specs.declared.form.Kind.{Kind}
use Rattle.gt_table.specs.Forms.{is_kind_function, is_kind_setting, is_kind_timer, is_kind_chan, is_kind_source, is_kind_mutex, is_kind_wg, is_kind_cond, is_kind_ctx, is_kind_endable, is_kind_causable, is_kind_hook, is_kind_error}
use Rattle.gt_names.specs.declared.names.Declared.{Declared}
use Rattle.gt_names.specs.Names.{Names, find}
use Rattle.gt_grammar.specs.declared.progress.OpenBlock.{OpenBlock}
use Rattle.gt_grammar.specs.declared.progress.Held.{Held}
use Rattle.gt_grammar.specs.Faults.{count_if, holding, ended_in, block_ended, case_added, default_added}
use Rattle.gt_grammar.specs.Deeds.{Deed, declares, opens, does, loops, selects, chooses, defaults, closes, decl_of, func_of, decls_in, case_at, cases_from, default_from, Block as Open, in_loop, in_select, in_body, code_from, code_in, funcs_in, script_in}
use Rattle.gt_grammar.proofs.Rightly.{kind_in, names_in, IsPlace, IsFunc, Refers, RefersCase, StartsForm, Starts, Precedes, Right, opened, chosen_in}
use Rattle.gt_grammar.proofs.KindTests.{is_of_kind, by_kind}
use Rattle.gt_grammar.proofs.OpenLoops.{Alike, alike-holding, alike-ended}
use Rattle.gt_grammar.proofs.DeedNames.{Placed, placed, has_names, functions_are, HasFunc, Found, found}
use Rattle.gt_grammar.proofs.LoopsGood.{HasGoodLoops, loops-good}

-- what a script has at the place of a name that is declared
record Knows (script : Script) (q : List ℕ) (d : Declared) : Type 0 where
  kind : option_map kind_in (what_at script d.place) ≡ Some d.kind
  name : option_map (λ (x : Decl). x.name) (slice_get script.decls d.place) ≡ Some q
  func : is_kind_function d.kind ≡ true → HasFunc script.funcs 0 d

abbrev AllKnown : Names → Script → Type 0
AllKnown names script = (q : List ℕ) (d : Declared) → names q ≡ Some d → Knows script q d

knows-found : (deeds : List Deed) (main : ℕ) (q : List ℕ) (d : Declared) → Found (decls_in deeds) (funcs_in deeds) 0 0 q d → Knows (script_in deeds main) q d
knows-found deeds main q d w =
    let here : d.place ≡ w.at = omega (arith, w.place) in
    let there : slice_get (decls_in deeds) d.place ≡ Some w.decl = ap (slice_get (decls_in deeds)) here ∙ w.there in
    record {
      kind = ap (λ o. option_map kind_in (option_map (λ (x : Decl). x.what) o)) there ∙ ap (λ k. Some k) w.kind;
      name = ap (option_map (λ (x : Decl). x.name)) there ∙ ap (λ n. Some n) w.name;
      func = w.func;
    }

-- a function that is known is there
func-within : (script : Script) (q : List ℕ) (d : Declared) → Knows script q d → is_kind_function d.kind ≡ true → d.func < length script.funcs
func-within script q d k t =
    let w : HasFunc script.funcs 0 d = k.func t in
    omega (arith, w.is, slice_get_within script.funcs w.at w.func w.there)

-- and has the name
func-name : (script : Script) (q : List ℕ) (d : Declared) → Knows script q d → is_kind_function d.kind ≡ true → function_name script d.func ≡ Some q
func-name script q d k t =
    let w : HasFunc script.funcs 0 d = k.func t in
    let at : d.func ≡ w.at = omega (arith, w.is) in
    ap (option_and_then (λ (g : Func). option_map (λ (x : Decl). x.name) (slice_get script.decls g.decl))) (ap (slice_get script.funcs) at ∙ w.there)
    ∙ ap (λ i. option_map (λ (x : Decl). x.name) (slice_get script.decls i)) w.decl ∙ k.name

-- what refers to an object of a kind names one: what is declared at its place passes the test of that kind
names-object : (names : Names) (script : Script) → AllKnown names script → (holds : Kind → Bool) (test : Option What → Bool)
    → ((what : What) → test (Some what) ≡ holds (kind_in what)) → (x : ℕ) → IsPlace names holds x → test (what_at script x) ≡ true
names-object names script known holds test each x p =
    let P : ℕ → Type 0 = λ y. test (what_at script y) ≡ true in
    subst P (sym p.is) (by_kind test holds each (what_at script p.ref.declared.place) p.ref.declared.kind (known p.ref.name p.ref.declared p.ref.known).kind ∙ p.kind)

names-setting : (names : Names) (script : Script) → AllKnown names script → (t : ℕ) → IsPlace names is_kind_setting t → model_is_setting script t ≡ true
names-setting names script known t p = names-object names script known is_kind_setting (λ o. names_timer o || names_func o) (λ what. (is_of_kind what).setting) t p

names-chan : (names : Names) (script : Script) → AllKnown names script → (c : ℕ) → IsPlace names is_kind_chan c → model_is_chan script c ≡ true
names-chan names script known c p = names-object names script known is_kind_chan names_chan (λ what. (is_of_kind what).chan) c p

names-source : (names : Names) (script : Script) → AllKnown names script → (o : ℕ) → IsPlace names is_kind_source o → model_gives_values script o ≡ true
names-source names script known o p = names-object names script known is_kind_source (λ w. names_timer w || names_chan w || can_end (named_form w)) (λ what. (is_of_kind what).source) o p

names-mutex : (names : Names) (script : Script) → AllKnown names script → (m : ℕ) → IsPlace names is_kind_mutex m → model_is_mutex script m ≡ true
names-mutex names script known m p = names-object names script known is_kind_mutex names_mutex (λ what. (is_of_kind what).mutex) m p

names-wg : (names : Names) (script : Script) → AllKnown names script → (w : ℕ) → IsPlace names is_kind_wg w → model_is_wg script w ≡ true
names-wg names script known w p = names-object names script known is_kind_wg names_wg (λ what. (is_of_kind what).wg) w p

names-cond : (names : Names) (script : Script) → AllKnown names script → (k : ℕ) → IsPlace names is_kind_cond k → model_is_cond script k ≡ true
names-cond names script known k p = names-object names script known is_kind_cond names_cond (λ what. (is_of_kind what).condition) k p

names-ctx : (names : Names) (script : Script) → AllKnown names script → (x : ℕ) → IsPlace names is_kind_ctx x → model_is_ctx script x ≡ true
names-ctx names script known x p = names-object names script known is_kind_ctx names_ctx (λ what. (is_of_kind what).context) x p

names-endable : (names : Names) (script : Script) → AllKnown names script → (x : ℕ) → IsPlace names is_kind_endable x → model_is_endable script x ≡ true
names-endable names script known x p = names-object names script known is_kind_endable (λ w. can_end (named_form w)) (λ what. (is_of_kind what).endable) x p

names-causable : (names : Names) (script : Script) → AllKnown names script → (x : ℕ) → IsPlace names is_kind_causable x → takes_cause (form_of script x) ≡ true
names-causable names script known x p = names-object names script known is_kind_causable (λ w. takes_cause (named_form w)) (λ what. (is_of_kind what).causable) x p

names-hook : (names : Names) (script : Script) → AllKnown names script → (s : ℕ) → IsPlace names is_kind_hook s → model_is_hook script s ≡ true
names-hook names script known s p = names-object names script known is_kind_hook names_hook (λ what. (is_of_kind what).hook) s p

names-error : (names : Names) (script : Script) → AllKnown names script → (e : ℕ) → IsPlace names is_kind_error e → model_is_error script e ≡ true
names-error names script known e p = names-object names script known is_kind_error names_error (λ what. (is_of_kind what).error) e p

names-func : (names : Names) (script : Script) → AllKnown names script → (f : ℕ) → IsFunc names f → f < length script.funcs
names-func names script known f r = omega (arith, r.2, func-within script r.0.name r.0.declared (known r.0.name r.0.declared r.0.known) r.1)

-- what stands last is of each instruction that sets a timer
names_rightly-by : (names : Names) (script : Script) → AllKnown names script → (i : Instr) → Refers names i → NamesRightly script i
names_rightly-by names script known (Instr.Sleep d) r = r
names_rightly-by names script known (Instr.Go f) r = names-func names script known f r
names_rightly-by names script known (Instr.Stop t) r = names-setting names script known t r
names_rightly-by names script known (Instr.Recv o) r = names-source names script known o r
names_rightly-by names script known (Instr.Make c) r = names-chan names script known c r
names_rightly-by names script known (Instr.Send c v) r = names-chan names script known c r
names_rightly-by names script known (Instr.Close c) r = names-chan names script known c r
names_rightly-by names script known (Instr.Lock m) r = names-mutex names script known m r
names_rightly-by names script known (Instr.Unlock m) r = names-mutex names script known m r
names_rightly-by names script known (Instr.Add w n) r = (names-wg names script known w r.0, r.1)
names_rightly-by names script known (Instr.Wait w) r = names-wg names script known w r
names_rightly-by names script known (Instr.CWait k) r = names-cond names script known k r
names_rightly-by names script known (Instr.Signal k) r = names-cond names script known k r
names_rightly-by names script known (Instr.Broadcast k) r = names-cond names script known k r
names_rightly-by names script known (Instr.With x) r = names-ctx names script known x r
names_rightly-by names script known (Instr.Cancel x None) r = names-endable names script known x r
names_rightly-by names script known (Instr.Cancel x (Some e)) r = (names-causable names script known x r.0, names-error names script known e r.1)
names_rightly-by names script known (Instr.ErrOf x) r = names-ctx names script known x r
names_rightly-by names script known (Instr.CauseOf x) r = names-ctx names script known x r
names_rightly-by names script known (Instr.After s) r = names-hook names script known s r
names_rightly-by names script known (Instr.Unhook s) r = names-hook names script known s r
names_rightly-by names script known (Instr.LoopTop depth count past) r = absurd r
names_rightly-by names script known (Instr.LoopEnd depth top) r = absurd r
names_rightly-by names script known (Instr.Select cases default_to) r = absurd r
names_rightly-by names script known (Instr.Jump to) r = absurd r
names_rightly-by names script known Instr.Finish r = absurd r
names_rightly-by names script known (Instr.New t d) r = (names-setting names script known t r.0, r.1)
names_rightly-by names script known (Instr.Reset t d) r = (names-setting names script known t r.0, r.1)
names_rightly-by names script known _ r = tt

no_finish : (names : Names) (i : Instr) → Refers names i → is_finish i ≡ false
no_finish names Instr.Finish r = absurd r
no_finish names _ r = refl

a-line : (names : Names) (i : Instr) → Refers names i → is_line i ≡ true
a-line names (Instr.LoopTop depth count past) r = absurd r
a-line names (Instr.LoopEnd depth top) r = absurd r
a-line names (Instr.Jump to) r = absurd r
a-line names Instr.Finish r = absurd r
a-line names _ r = refl

-- ---- the cases of selects

operates : (names : Names) (script : Script) → AllKnown names script → (awaits : Bool) (kind : CaseKind) → RefersCase names awaits kind → OperatesRightly script kind
operates names script known awaits (CaseKind.Recv o) r = names-source names script known o r.0
operates names script known awaits (CaseKind.Send c v) r = names-chan names script known c r.0

awaits-is : (names : Names) (script : Script) → AllKnown names script → (awaits : Bool) (kind : CaseKind) → RefersCase names awaits kind → model_awaits script kind ≡ awaits
awaits-is names script known awaits (CaseKind.Recv o) r =
    let p = r.0 in
    ap (model_is_timer script) p.is ∙ by_kind names_timer is_kind_timer (λ what. (is_of_kind what).timer) (what_at script p.ref.declared.place) p.ref.declared.kind (known p.ref.name p.ref.declared p.ref.known).kind ∙ sym r.1
awaits-is names script known awaits (CaseKind.Send c v) r = sym r.1

-- how many of these cases receive from timers
abbrev awaiting : Script → List Case → ℕ
awaiting script cases = length (filter (λ (c : Case). model_awaits script c.kind) cases)

-- what is still to come of a select fits what it has: so many cases, of which so many receive from timers, and its default or not
record Fitting (script : Script) (cases timers : ℕ) (has_default : Bool) (later : List Case) (default : Option ℕ) : Type 0 where
  few : cases ≤ 16 → cases + length later ≤ 16
  each : All (λ (c : Case). OperatesRightly script c.kind) later
  polls : IsSome default → timers + awaiting script later ≤ 1
  done : has_default ≡ true → (later ≡ []) × (default ≡ None)

abbrev Fittings : Script → List OpenBlock → (ℕ → List Case) → (ℕ → Option ℕ) → Type 0
Fittings script [] later default = Unit {0}
Fittings script (OpenBlock.Loop repeats held ∷ outer) later default = Fittings script outer (λ m. later (suc m)) (λ m. default (suc m))
Fittings script (OpenBlock.Choice cases timers has_default ∷ outer) later default =
    Fitting script cases timers has_default (later 0) (default 0) × Fittings script outer (λ m. later (suc m)) (λ m. default (suc m))

fittings-holding : (script : Script) (held : Held) (blocks : List OpenBlock) (later : ℕ → List Case) (default : ℕ → Option ℕ) → Fittings script (holding held blocks) later default → Fittings script blocks later default
fittings-holding script held [] later default h = h
fittings-holding script held (OpenBlock.Loop repeats before ∷ outer) later default h = h
fittings-holding script held (OpenBlock.Choice cases timers has_default ∷ outer) later default h = h

fittings-ended : (script : Script) (repeats : Bool) (blocks : List OpenBlock) (later : ℕ → List Case) (default : ℕ → Option ℕ) → Fittings script (ended_in repeats blocks) later default → Fittings script blocks later default
fittings-ended script repeats [] later default h = h
fittings-ended script repeats (OpenBlock.Loop again before ∷ outer) later default h = h
fittings-ended script repeats (OpenBlock.Choice cases timers has_default ∷ outer) later default h = h

awaiting-more : (script : Script) (c : Case) (later : List Case) (awaits : Bool) → model_awaits script c.kind ≡ awaits → awaiting script (c ∷ later) ≡ cond awaits (awaiting script later + 1) (awaiting script later)
awaiting-more script c later true e = ap (λ b. length (cond b (c ∷ filter (λ (x : Case). model_awaits script x.kind) later) (filter (λ (x : Case). model_awaits script x.kind) later))) e ∙ omega arith
awaiting-more script c later false e = ap (λ b. length (cond b (c ∷ filter (λ (x : Case). model_awaits script x.kind) later) (filter (λ (x : Case). model_awaits script x.kind) later))) e

-- of timers two are counted
counted-by : (less : Bool) (timers rest : ℕ) → ltb timers 2 ≡ less → count_if less timers + rest ≤ 1 → timers + (rest + 1) ≤ 1
counted-by true timers rest e h = omega (arith, h)
counted-by false timers rest e h = absurd (omega (arith, h, ltb-false timers 2 e))

counted : (awaits : Bool) (timers rest : ℕ) → count_if (awaits && ltb timers 2) timers + rest ≤ 1 → timers + cond awaits (rest + 1) rest ≤ 1
counted false timers rest h = h
counted true timers rest h = counted-by (ltb timers 2) timers rest refl h

fitting-case : (names : Names) (script : Script) → AllKnown names script → (cases timers : ℕ) (has_default awaits : Bool) (kind : CaseKind) (to : ℕ) (later : List Case) (default : Option ℕ) → has_default ≡ false → cases < 16 → RefersCase names awaits kind
    → Fitting script (cases + 1) (count_if (awaits && ltb timers 2) timers) has_default later default → Fitting script cases timers has_default (case_at kind to ∷ later) default
fitting-case names script known cases timers has_default awaits kind to later default none few r h = record {
  few = λ w. omega (arith, few, h.few (omega (arith, few)));
  each = All-cons (λ (c : Case). OperatesRightly script c.kind) (case_at kind to) later (operates names script known awaits kind r) h.each;
  polls = λ is. omega (arith, counted awaits timers (awaiting script later) (h.polls is), awaiting-more script (case_at kind to) later awaits (awaits-is names script known awaits kind r));
  done = λ e. absurd (both_ways has_default none e);
}

fitting-default : (script : Script) (cases timers : ℕ) (has_default : Bool) (to : ℕ) (later : List Case) (default : Option ℕ) → has_default ≡ false → timers < 2
    → Fitting script cases timers true later default → Fitting script cases timers has_default later (Some to)
fitting-default script cases timers has_default to later default none few h =
    let e : later ≡ [] = (h.done refl).0 in
    record {
      few = h.few;
      each = h.each;
      polls = λ is. omega (arith, few, ap (awaiting script) e);
      done = λ is. absurd (both_ways has_default none is);
    }

cases-fit : (names : Names) (script : Script) → AllKnown names script → (deeds : List Deed) (i : ℕ) (blocks : List OpenBlock) (n f k : ℕ) → Right names true blocks n f k deeds → Fittings script blocks (λ m. cases_from m i deeds) (λ m. default_from m i deeds)
cases-fit names script known [] i blocks n f k r = cc
cases-fit names script known (declares name what ∷ rest) i blocks n f k r = absurd (both_ways true r.0 refl)
cases-fit names script known (opens name decl ∷ rest) i blocks n f k r = absurd (both_ways true r.0 refl)
cases-fit names script known (does instr ∷ rest) i blocks n f k r =
    fittings-holding script Held.Entered blocks (λ m. cases_from m (i + 1) rest) (λ m. default_from m (i + 1) rest) (cases-fit names script known rest (i + 1) (holding Held.Entered blocks) n f (k + 1) r.3)
cases-fit names script known (loops count ∷ rest) i blocks n f k r = cases-fit names script known rest (i + 1) (opened count blocks) n f k r.3
cases-fit names script known (selects ∷ rest) i blocks n f k r =
    fittings-holding script Held.Entered blocks (λ m. cases_from (suc m) i rest) (λ m. default_from (suc m) i rest) (cases-fit names script known rest i (chosen_in blocks) n f (k + 1) r.3).1
cases-fit names script known (chooses kind ∷ rest) i [] n f k r = absurd r.1
cases-fit names script known (chooses kind ∷ rest) i (OpenBlock.Loop repeats held ∷ outer) n f k r = absurd r.1
cases-fit names script known (chooses kind ∷ rest) i (OpenBlock.Choice cases timers has_default ∷ outer) n f k r =
    let ih = cases-fit names script known rest (i + 1) (case_added r.2.0 (OpenBlock.Choice cases timers has_default ∷ outer)) n f k r.2.2 in
    (fitting-case names script known cases timers has_default r.2.0 kind (i + 1) (cases_from 0 (i + 1) rest) (default_from 0 (i + 1) rest) r.1.0 r.1.1 r.2.1 ih.0, ih.1)
cases-fit names script known (defaults ∷ rest) i [] n f k r = absurd r.1
cases-fit names script known (defaults ∷ rest) i (OpenBlock.Loop repeats held ∷ outer) n f k r = absurd r.1
cases-fit names script known (defaults ∷ rest) i (OpenBlock.Choice cases timers has_default ∷ outer) n f k r =
    let ih = cases-fit names script known rest (i + 1) (default_added (OpenBlock.Choice cases timers has_default ∷ outer)) n f k r.2 in
    (fitting-default script cases timers has_default (i + 1) (cases_from 0 (i + 1) rest) (default_from 0 (i + 1) rest) r.1.0 r.1.1 ih.0, ih.1)
cases-fit names script known (closes ∷ rest) i [] n f k r = tt
cases-fit names script known (closes ∷ rest) i (OpenBlock.Loop repeats held ∷ outer) n f k r =
    fittings-ended script repeats outer (λ m. cases_from m (i + 1) rest) (λ m. default_from m (i + 1) rest) (cases-fit names script known rest (i + 1) (ended_in repeats outer) n f k r.2)
cases-fit names script known (closes ∷ rest) i (OpenBlock.Choice cases timers has_default ∷ outer) n f k r =
    (record { few = λ w. omega (arith, w); each = λ j d h. absurd (omega arith); polls = λ is. cc; done = λ e. (refl, refl) }, cases-fit names script known rest (i + 1) outer n f k r.2)

-- the choice of a select names rightly what its cases are on
good-choice : (names : Names) (script : Script) → AllKnown names script → (kind : CaseKind) (rest : List Deed) (i : ℕ) (blocks : List OpenBlock) (n f k : ℕ) → Right names true (chosen_in blocks) n f k (chooses kind ∷ rest)
    → IsGoodChoice script (case_at kind (i + 1) ∷ cases_from 0 (i + 1) rest) (default_from 0 (i + 1) rest)
good-choice names script known kind rest i blocks n f k r =
    let w = (cases-fit names script known (chooses kind ∷ rest) i (chosen_in blocks) n f k r).0 in
    record {
      some = omega arith;
      few = omega (arith, w.few (omega arith));
      each = w.each;
      polls = λ is. omega (arith, w.polls is);
    }

-- a code whose last instruction alone is the end
abbrev Ends : Script → List Instr → Type 0
Ends script [] = ⊥
Ends script (i ∷ is) = ((is_finish i ≡ true) × NamesRightly script i × (is ≡ [])) ⊎ ((is_finish i ≡ false) × NamesRightly script i × Ends script is)

ends-some : (script : Script) (is : List Instr) → Ends script is → 0 < length is
ends-some script [] h = absurd h
ends-some script (i ∷ is) h = omega arith

ends : (names : Names) (script : Script) → AllKnown names script → (deeds : List Deed) (blocks : List OpenBlock) (stack : List Open) (at n f k : ℕ) → Right names true blocks n f k deeds
    → Alike stack blocks → Ends script (code_from stack at deeds)
ends names script known [] blocks stack at n f k r same = absurd (both_ways true r refl)
ends names script known (declares name what ∷ rest) blocks stack at n f k r same = absurd (both_ways true r.0 refl)
ends names script known (opens name decl ∷ rest) blocks stack at n f k r same = absurd (both_ways true r.0 refl)
ends names script known (does i ∷ rest) blocks stack at n f k r same =
    inr (
      no_finish names i r.2,
      names_rightly-by names script known i r.2,
      ends names script known rest (holding Held.Entered blocks) stack (at + 1) n f (k + 1) r.3 (alike-holding Held.Entered stack blocks same),
    )
ends names script known (loops count ∷ rest) blocks stack at n f k r same =
    inr (refl, r.1, ends names script known rest (opened count blocks) (in_loop at ∷ stack) (at + 1) n f k r.3 same)
ends names script known (selects ∷ chooses kind ∷ rest) blocks stack at n f k r same =
    inr (
      refl,
      good-choice names script known kind rest at blocks n f (k + 1) r.3,
      ends names script known rest (case_added r.3.2.0 (chosen_in blocks)) (in_body ∷ stack) (at + 1) n f (k + 1) r.3.2.2 (alike-holding Held.Entered stack blocks same),
    )
ends names script known (selects ∷ []) blocks stack at n f k r same = absurd r.2
ends names script known (selects ∷ declares name what ∷ rest) blocks stack at n f k r same = absurd r.2
ends names script known (selects ∷ opens name decl ∷ rest) blocks stack at n f k r same = absurd r.2
ends names script known (selects ∷ does instr ∷ rest) blocks stack at n f k r same = absurd r.2
ends names script known (selects ∷ loops count ∷ rest) blocks stack at n f k r same = absurd r.2
ends names script known (selects ∷ selects ∷ rest) blocks stack at n f k r same = absurd r.2
ends names script known (selects ∷ defaults ∷ rest) blocks stack at n f k r same = absurd r.2
ends names script known (selects ∷ closes ∷ rest) blocks stack at n f k r same = absurd r.2
ends names script known (chooses kind ∷ rest) [] stack at n f k r same = absurd r.1
ends names script known (chooses kind ∷ rest) (OpenBlock.Loop repeats held ∷ outer) stack at n f k r same = absurd r.1
ends names script known (chooses kind ∷ rest) (OpenBlock.Choice cases timers has_default ∷ outer) [] at n f k r same = absurd same
ends names script known (chooses kind ∷ rest) (OpenBlock.Choice cases timers has_default ∷ outer) (in_loop top ∷ stack) at n f k r same = absurd same
ends names script known (chooses kind ∷ rest) (OpenBlock.Choice cases timers has_default ∷ outer) (in_select ∷ stack) at n f k r same = absurd same
ends names script known (chooses kind ∷ rest) (OpenBlock.Choice cases timers has_default ∷ outer) (in_body ∷ stack) at n f k r same =
    inr (refl, tt, ends names script known rest (case_added r.2.0 (OpenBlock.Choice cases timers has_default ∷ outer)) (in_body ∷ stack) (at + 1) n f k r.2.2 same)
ends names script known (defaults ∷ rest) [] stack at n f k r same = absurd r.1
ends names script known (defaults ∷ rest) (OpenBlock.Loop repeats held ∷ outer) stack at n f k r same = absurd r.1
ends names script known (defaults ∷ rest) (OpenBlock.Choice cases timers has_default ∷ outer) [] at n f k r same = absurd same
ends names script known (defaults ∷ rest) (OpenBlock.Choice cases timers has_default ∷ outer) (in_loop top ∷ stack) at n f k r same = absurd same
ends names script known (defaults ∷ rest) (OpenBlock.Choice cases timers has_default ∷ outer) (in_select ∷ stack) at n f k r same = absurd same
ends names script known (defaults ∷ rest) (OpenBlock.Choice cases timers has_default ∷ outer) (in_body ∷ stack) at n f k r same =
    inr (refl, tt, ends names script known rest (default_added (OpenBlock.Choice cases timers has_default ∷ outer)) (in_body ∷ stack) (at + 1) n f k r.2 same)
ends names script known (closes ∷ rest) [] [] at n f k r same = inl (refl, tt, refl)
ends names script known (closes ∷ rest) (inner ∷ outer) [] at n f k r same = absurd same
ends names script known (closes ∷ rest) blocks (in_select ∷ stack) at n f k r same = absurd same
ends names script known (closes ∷ rest) [] (in_loop top ∷ stack) at n f k r same = absurd same
ends names script known (closes ∷ rest) [] (in_body ∷ stack) at n f k r same = absurd same
ends names script known (closes ∷ rest) (OpenBlock.Loop repeats held ∷ outer) (in_body ∷ stack) at n f k r same = absurd same
ends names script known (closes ∷ rest) (OpenBlock.Choice cases timers has_default ∷ outer) (in_loop top ∷ stack) at n f k r same = absurd same
ends names script known (closes ∷ rest) (OpenBlock.Choice cases timers has_default ∷ outer) (in_body ∷ stack) at n f k r same =
    inr (refl, tt, ends names script known rest outer stack (at + 1) n f k r.2 same)
ends names script known (closes ∷ rest) (OpenBlock.Loop repeats held ∷ outer) (in_loop top ∷ stack) at n f k r same =
    inr (refl, tt, ends names script known rest (ended_in repeats outer) stack (at + 1) n f k r.2 (alike-ended repeats stack outer same))

each-good : (script : Script) (code : List Instr) (front i : ℕ) (x : Instr) → Ends script code → slice_get code i ≡ Some x → (n j : ℕ) → n ≡ front + length code → j ≡ front + i → IsGoodInstr script n j x
each-good script [] front i x h is n j e g = absurd h
each-good script (y ∷ ys) front zero x h is n j e g =
    let same : y ≡ x = cc in
    let P : Instr → Type 0 = IsGoodInstr script n j in
    subst P same (elim h [
      | inl w ↦ let none : length ys ≡ 0 = ap length w.2 in record { names = w.1; last = w.0 ∙ sym (eq-eqb (j + 1) n (omega (arith, none))) }
      | inr w ↦ let some : 0 < length ys = ends-some script ys w.2 in record { names = w.1; last = w.0 ∙ sym (ne_eqb (j + 1) n (λ q. absurd (omega (arith, q, some)))) }
    ])
each-good script (y ∷ ys) front (suc i) x h is n j e g =
    elim h [
      | inl w ↦ let none : slice_get ys i ≡ None = ap (λ zs. slice_get zs i) w.2 in cc
      | inr w ↦ each-good script ys (suc front) i x w.2 is n j (omega arith) (omega arith)
    ]

code-good : (script : Script) (code : List Instr) → Ends script code → HasGoodLoops code → IsGoodCode script code
code-good script code h good = record {
  some = ends-some script code h;
  short = good.short;
  each = λ i x is. each-good script code 0 i x h is (length code) i (omega arith) (omega arith);
  loops = good.loops;
  ends = good.ends;
  choices = good.choices;
  jumps = good.jumps;
}

All-none : {X : Type 0} (P : X → Type 0) → All P []
All-none P = λ k d h. absurd (omega arith)

funcs-good : (names : Names) (script : Script) → AllKnown names script → (deeds : List Deed) (inside : Bool) (blocks : List OpenBlock) (n f k : ℕ) → Right names inside blocks n f k deeds → All (λ (g : Func). IsGoodCode script g.code) (funcs_in deeds)
funcs-good names script known [] inside blocks n f k r = All-none (λ (g : Func). IsGoodCode script g.code)
funcs-good names script known (declares name what ∷ rest) inside blocks n f k r = funcs-good names script known rest false blocks (n + 1) f k r.5
funcs-good names script known (opens name decl ∷ rest) inside blocks n f k r =
    All-cons (λ (g : Func). IsGoodCode script g.code) (func_of decl (code_in rest)) (funcs_in rest)
    (code-good script (code_in rest) (ends names script known rest [] [] 0 (n + 1) (f + 1) k r.6 tt) (loops-good names rest (n + 1) (f + 1) k r.6)) (funcs-good names script known rest true [] (n + 1) (f + 1) k r.6)
funcs-good names script known (does i ∷ rest) inside blocks n f k r = funcs-good names script known rest true (holding Held.Entered blocks) n f (k + 1) r.3
funcs-good names script known (loops count ∷ rest) inside blocks n f k r = funcs-good names script known rest true (opened count blocks) n f k r.3
funcs-good names script known (selects ∷ rest) inside blocks n f k r = funcs-good names script known rest true (chosen_in blocks) n f (k + 1) r.3
funcs-good names script known (chooses kind ∷ rest) inside blocks n f k r = funcs-good names script known rest true (case_added r.2.0 blocks) n f k r.2.2
funcs-good names script known (defaults ∷ rest) inside blocks n f k r = funcs-good names script known rest true (default_added blocks) n f k r.2
funcs-good names script known (closes ∷ rest) inside [] n f k r = funcs-good names script known rest false [] n f k r.1
funcs-good names script known (closes ∷ rest) inside (inner ∷ outer) n f k r = funcs-good names script known rest true (block_ended (inner ∷ outer)) n f k r.2

forms-by : (names : Names) (script : Script) → AllKnown names script → (form : Form) → StartsForm names form → FormsRightly script form
forms-by names script known Form.Cancel s = tt
forms-by names script known Form.Cause s = tt
forms-by names script known (Form.Timeout d None) s = (s.0, tt)
forms-by names script known (Form.Timeout d (Some e)) s = (s.0, names-error names script known e s.1)
forms-by names script known Form.Without s = tt

declares-by : (names : Names) (script : Script) → AllKnown names script → (what : What) → Starts names what → DeclaresRightly script what
declares-by names script known (What.AfterFunc f) s = names-func names script known f s
declares-by names script known (What.Chan cap) s = s
declares-by names script known (What.Cond mutex) s = names-mutex names script known mutex s
declares-by names script known (What.Ctx None form) s = (tt, forms-by names script known form s.1)
declares-by names script known (What.Ctx (Some p) form) s = (names-ctx names script known p s.0, forms-by names script known form s.1)
declares-by names script known (What.Hook ctx func) s = (names-ctx names script known ctx s.0, names-func names script known func s.1)
declares-by names script known What.Function s = absurd s
declares-by names script known _ s = tt

declares-good : (names : Names) (script : Script) → AllKnown names script → (deeds : List Deed) (inside : Bool) (blocks : List OpenBlock) (n f k : ℕ) → Right names inside blocks n f k deeds → All (λ (d : Decl). DeclaresRightly script d.what) (decls_in deeds)
declares-good names script known [] inside blocks n f k r = All-none (λ (d : Decl). DeclaresRightly script d.what)
declares-good names script known (declares name what ∷ rest) inside blocks n f k r = All-cons (λ (d : Decl). DeclaresRightly script d.what) (decl_of name what) (decls_in rest) (declares-by names script known what r.3) (declares-good names script known rest false blocks (n + 1) f k r.5)
declares-good names script known (opens name decl ∷ rest) inside blocks n f k r = All-cons (λ (d : Decl). DeclaresRightly script d.what) (decl_of name What.Function) (decls_in rest) tt (declares-good names script known rest true [] (n + 1) (f + 1) k r.6)
declares-good names script known (does i ∷ rest) inside blocks n f k r = declares-good names script known rest true (holding Held.Entered blocks) n f (k + 1) r.3
declares-good names script known (loops count ∷ rest) inside blocks n f k r = declares-good names script known rest true (opened count blocks) n f k r.3
declares-good names script known (selects ∷ rest) inside blocks n f k r = declares-good names script known rest true (chosen_in blocks) n f (k + 1) r.3
declares-good names script known (chooses kind ∷ rest) inside blocks n f k r = declares-good names script known rest true (case_added r.2.0 blocks) n f k r.2.2
declares-good names script known (defaults ∷ rest) inside blocks n f k r = declares-good names script known rest true (default_added blocks) n f k r.2
declares-good names script known (closes ∷ rest) inside [] n f k r = declares-good names script known rest false [] n f k r.1
declares-good names script known (closes ∷ rest) inside (inner ∷ outer) n f k r = declares-good names script known rest true (block_ended (inner ∷ outer)) n f k r.2

-- each context is derived from one in front of it
abbrev parent-of : Option Decl → Option ℕ
parent-of o = elim (option_map (λ (d : Decl). d.what) o) [ None ↦ None | Some what ↦ elim what [ What.Ctx parent form ↦ parent | _ ↦ None ] ]

parents-good : (names : Names) (deeds : List Deed) (inside : Bool) (blocks : List OpenBlock) (n f k : ℕ) → Right names inside blocks n f k deeds → (x p : ℕ) → parent-of (slice_get (decls_in deeds) x) ≡ Some p → p < n + x
parents-good names [] inside blocks n f k r x p e = cc
parents-good names (declares name what ∷ rest) inside blocks n f k r zero p e = before what r.4 e
  where
    before : (what : What) → Precedes n what → parent-of (Some (decl_of name what)) ≡ Some p → p < n + 0
    before (What.Ctx (Some q) form) h e = let same : q ≡ p = cc in omega (arith, h, same)
    before (What.Ctx None form) h e = cc
    before _ h e = cc
parents-good names (declares name what ∷ rest) inside blocks n f k r (suc x) p e = omega (arith, parents-good names rest false blocks (n + 1) f k r.5 x p e)
parents-good names (opens name decl ∷ rest) inside blocks n f k r zero p e = cc
parents-good names (opens name decl ∷ rest) inside blocks n f k r (suc x) p e = omega (arith, parents-good names rest true [] (n + 1) (f + 1) k r.6 x p e)
parents-good names (does i ∷ rest) inside blocks n f k r x p e = parents-good names rest true (holding Held.Entered blocks) n f (k + 1) r.3 x p e
parents-good names (loops count ∷ rest) inside blocks n f k r x p e = parents-good names rest true (opened count blocks) n f k r.3 x p e
parents-good names (selects ∷ rest) inside blocks n f k r x p e = parents-good names rest true (chosen_in blocks) n f (k + 1) r.3 x p e
parents-good names (chooses kind ∷ rest) inside blocks n f k r x p e = parents-good names rest true (case_added r.2.0 blocks) n f k r.2.2 x p e
parents-good names (defaults ∷ rest) inside blocks n f k r x p e = parents-good names rest true (default_added blocks) n f k r.2 x p e
parents-good names (closes ∷ rest) inside [] n f k r x p e = parents-good names rest false [] n f k r.1 x p e
parents-good names (closes ∷ rest) inside (inner ∷ outer) n f k r x p e = parents-good names rest true (block_ended (inner ∷ outer)) n f k r.2 x p e

few-names : (names : Names) (deeds : List Deed) (inside : Bool) (blocks : List OpenBlock) (n f k : ℕ) → Right names inside blocks n f k deeds → n ≤ 4096 → n + length (decls_in deeds) ≤ 4096
few-names names [] inside blocks n f k r h = omega arith
few-names names (declares name what ∷ rest) inside blocks n f k r h = omega (arith, few-names names rest false blocks (n + 1) f k r.5 (omega (arith, r.1)))
few-names names (opens name decl ∷ rest) inside blocks n f k r h = omega (arith, few-names names rest true [] (n + 1) (f + 1) k r.6 (omega (arith, r.1)))
few-names names (does i ∷ rest) inside blocks n f k r h = few-names names rest true (holding Held.Entered blocks) n f (k + 1) r.3 h
few-names names (loops count ∷ rest) inside blocks n f k r h = few-names names rest true (opened count blocks) n f k r.3 h
few-names names (selects ∷ rest) inside blocks n f k r h = few-names names rest true (chosen_in blocks) n f (k + 1) r.3 h
few-names names (chooses kind ∷ rest) inside blocks n f k r h = few-names names rest true (case_added r.2.0 blocks) n f k r.2.2 h
few-names names (defaults ∷ rest) inside blocks n f k r h = few-names names rest true (default_added blocks) n f k r.2 h
few-names names (closes ∷ rest) inside [] n f k r h = few-names names rest false [] n f k r.1 h
few-names names (closes ∷ rest) inside (inner ∷ outer) n f k r h = few-names names rest true (block_ended (inner ∷ outer)) n f k r.2 h

few-functions : (names : Names) (deeds : List Deed) (inside : Bool) (blocks : List OpenBlock) (n f k : ℕ) → Right names inside blocks n f k deeds → f ≤ 256 → f + length (funcs_in deeds) ≤ 256
few-functions names [] inside blocks n f k r h = omega arith
few-functions names (declares name what ∷ rest) inside blocks n f k r h = few-functions names rest false blocks (n + 1) f k r.5 h
few-functions names (opens name decl ∷ rest) inside blocks n f k r h = omega (arith, few-functions names rest true [] (n + 1) (f + 1) k r.6 (omega (arith, r.2)))
few-functions names (does i ∷ rest) inside blocks n f k r h = few-functions names rest true (holding Held.Entered blocks) n f (k + 1) r.3 h
few-functions names (loops count ∷ rest) inside blocks n f k r h = few-functions names rest true (opened count blocks) n f k r.3 h
few-functions names (selects ∷ rest) inside blocks n f k r h = few-functions names rest true (chosen_in blocks) n f (k + 1) r.3 h
few-functions names (chooses kind ∷ rest) inside blocks n f k r h = few-functions names rest true (case_added r.2.0 blocks) n f k r.2.2 h
few-functions names (defaults ∷ rest) inside blocks n f k r h = few-functions names rest true (default_added blocks) n f k r.2 h
few-functions names (closes ∷ rest) inside [] n f k r h = few-functions names rest false [] n f k r.1 h
few-functions names (closes ∷ rest) inside (inner ∷ outer) n f k r h = few-functions names rest true (block_ended (inner ∷ outer)) n f k r.2 h

-- how many lines with an instruction a code has
abbrev lines_in : List Instr → ℕ
lines_in code = length (filter is_line code)

abbrev size_of : Func → ℕ
size_of f = lines_in f.code

-- how many the function has that is open
abbrev open_size : Bool → List Instr → ℕ
open_size inside code = cond inside (lines_in code) 0

lines-more : (i : Instr) (code : List Instr) → is_line i ≡ true → lines_in (i ∷ code) ≡ lines_in code + 1
lines-more i code e = ap (λ b. length (cond b (i ∷ filter is_line code) (filter is_line code))) e ∙ omega arith

few-instructions : (names : Names) (deeds : List Deed) (inside : Bool) (blocks : List OpenBlock) (stack : List Open) (at n f k : ℕ) → Right names inside blocks n f k deeds → Alike stack blocks → k ≤ 100000
    → k + open_size inside (code_from stack at deeds) + sum_by size_of (funcs_in deeds) ≤ 100000
few-instructions names [] true blocks stack at n f k r same h = cc
few-instructions names [] false blocks stack at n f k r same h = omega arith
few-instructions names (declares name what ∷ rest) true blocks stack at n f k r same h = let e = r.0 in cc
few-instructions names (declares name what ∷ rest) false blocks stack at n f k r same h = few-instructions names rest false blocks stack at (n + 1) f k r.5 same h
few-instructions names (opens name decl ∷ rest) true blocks stack at n f k r same h = let e = r.0 in cc
few-instructions names (opens name decl ∷ rest) false blocks stack at n f k r same h =
    omega (arith, few-instructions names rest true [] [] 0 (n + 1) (f + 1) k r.6 tt h, sum_by-cons size_of (func_of decl (code_in rest)) (funcs_in rest))
few-instructions names (does i ∷ rest) false blocks stack at n f k r same h = let e = r.0 in cc
few-instructions names (does i ∷ rest) true blocks stack at n f k r same h =
    omega (
      arith,
      lines-more i (code_from stack (at + 1) rest) (a-line names i r.2),
      few-instructions names rest true (holding Held.Entered blocks) stack (at + 1) n f (k + 1) r.3 (alike-holding Held.Entered stack blocks same) (omega (arith, r.1)),
    )
few-instructions names (loops count ∷ rest) false blocks stack at n f k r same h = let e = r.0 in cc
few-instructions names (loops count ∷ rest) true blocks stack at n f k r same h =
    few-instructions names rest true (opened count blocks) (in_loop at ∷ stack) (at + 1) n f k r.3 same h
few-instructions names (selects ∷ rest) false blocks stack at n f k r same h = let e = r.0 in cc
few-instructions names (selects ∷ chooses kind ∷ rest) true blocks stack at n f k r same h =
    let x : Instr = Instr.Select (case_at kind (at + 1) ∷ cases_from 0 (at + 1) rest) (default_from 0 (at + 1) rest) in
    omega (
      arith,
      lines-more x (code_from (in_body ∷ stack) (at + 1) rest) refl,
      few-instructions names rest true (case_added r.3.2.0 (chosen_in blocks)) (in_body ∷ stack) (at + 1) n f (k + 1) r.3.2.2 (alike-holding Held.Entered stack blocks same) (omega (arith, r.1)),
    )
few-instructions names (selects ∷ []) true blocks stack at n f k r same h = absurd r.2
few-instructions names (selects ∷ declares name what ∷ rest) true blocks stack at n f k r same h = absurd r.2
few-instructions names (selects ∷ opens name decl ∷ rest) true blocks stack at n f k r same h = absurd r.2
few-instructions names (selects ∷ does instr ∷ rest) true blocks stack at n f k r same h = absurd r.2
few-instructions names (selects ∷ loops count ∷ rest) true blocks stack at n f k r same h = absurd r.2
few-instructions names (selects ∷ selects ∷ rest) true blocks stack at n f k r same h = absurd r.2
few-instructions names (selects ∷ defaults ∷ rest) true blocks stack at n f k r same h = absurd r.2
few-instructions names (selects ∷ closes ∷ rest) true blocks stack at n f k r same h = absurd r.2
few-instructions names (chooses kind ∷ rest) false blocks stack at n f k r same h = let e = r.0 in cc
few-instructions names (chooses kind ∷ rest) true [] stack at n f k r same h = absurd r.1
few-instructions names (chooses kind ∷ rest) true (OpenBlock.Loop repeats held ∷ outer) stack at n f k r same h = absurd r.1
few-instructions names (chooses kind ∷ rest) true (OpenBlock.Choice cases timers has_default ∷ outer) [] at n f k r same h = absurd same
few-instructions names (chooses kind ∷ rest) true (OpenBlock.Choice cases timers has_default ∷ outer) (in_loop top ∷ stack) at n f k r same h = absurd same
few-instructions names (chooses kind ∷ rest) true (OpenBlock.Choice cases timers has_default ∷ outer) (in_select ∷ stack) at n f k r same h = absurd same
few-instructions names (chooses kind ∷ rest) true (OpenBlock.Choice cases timers has_default ∷ outer) (in_body ∷ stack) at n f k r same h =
    few-instructions names rest true (case_added r.2.0 (OpenBlock.Choice cases timers has_default ∷ outer)) (in_body ∷ stack) (at + 1) n f k r.2.2 same h
few-instructions names (defaults ∷ rest) false blocks stack at n f k r same h = let e = r.0 in cc
few-instructions names (defaults ∷ rest) true [] stack at n f k r same h = absurd r.1
few-instructions names (defaults ∷ rest) true (OpenBlock.Loop repeats held ∷ outer) stack at n f k r same h = absurd r.1
few-instructions names (defaults ∷ rest) true (OpenBlock.Choice cases timers has_default ∷ outer) [] at n f k r same h = absurd same
few-instructions names (defaults ∷ rest) true (OpenBlock.Choice cases timers has_default ∷ outer) (in_loop top ∷ stack) at n f k r same h = absurd same
few-instructions names (defaults ∷ rest) true (OpenBlock.Choice cases timers has_default ∷ outer) (in_select ∷ stack) at n f k r same h = absurd same
few-instructions names (defaults ∷ rest) true (OpenBlock.Choice cases timers has_default ∷ outer) (in_body ∷ stack) at n f k r same h =
    few-instructions names rest true (default_added (OpenBlock.Choice cases timers has_default ∷ outer)) (in_body ∷ stack) (at + 1) n f k r.2 same h
few-instructions names (closes ∷ rest) false [] stack at n f k r same h = let e = r.0 in cc
few-instructions names (closes ∷ rest) false (inner ∷ outer) stack at n f k r same h = let e = r.0 in cc
few-instructions names (closes ∷ rest) true [] [] at n f k r same h = omega (arith, few-instructions names rest false [] [] (at + 1) n f k r.1 tt h)
few-instructions names (closes ∷ rest) true [] (in_loop top ∷ stack) at n f k r same h = absurd same
few-instructions names (closes ∷ rest) true [] (in_select ∷ stack) at n f k r same h = absurd same
few-instructions names (closes ∷ rest) true [] (in_body ∷ stack) at n f k r same h = absurd same
few-instructions names (closes ∷ rest) true (inner ∷ outer) [] at n f k r same h = absurd same
few-instructions names (closes ∷ rest) true (inner ∷ outer) (in_select ∷ stack) at n f k r same h = absurd same
few-instructions names (closes ∷ rest) true (OpenBlock.Loop repeats held ∷ outer) (in_body ∷ stack) at n f k r same h = absurd same
few-instructions names (closes ∷ rest) true (OpenBlock.Choice cases timers has_default ∷ outer) (in_loop top ∷ stack) at n f k r same h = absurd same
few-instructions names (closes ∷ rest) true (OpenBlock.Choice cases timers has_default ∷ outer) (in_body ∷ stack) at n f k r same h =
    few-instructions names rest true outer stack (at + 1) n f k r.2 same h
few-instructions names (closes ∷ rest) true (OpenBlock.Loop repeats held ∷ outer) (in_loop top ∷ stack) at n f k r same h =
    few-instructions names rest true (ended_in repeats outer) stack (at + 1) n f k r.2 (alike-ended repeats stack outer same) h

pub deeds-good : (names : Names) (deeds : List Deed) (main : Declared) → names ≡ find (names_in 0 0 deeds) → Right names false [] 0 0 0 deeds
    → names (codes "main") ≡ Some main → is_kind_function main.kind ≡ true → IsGood (script_in deeds main.func)
deeds-good names deeds main are r is function =
    let script : Script = script_in deeds main.func in
    let places : Placed names 0 0 deeds = placed names deeds are r in
    let known : AllKnown names script = λ q d e. knows-found deeds main.func q d (found names deeds false [] 0 0 0 r places q d (sym (ap (λ (m : Names). m q) are) ∙ e)) in
    record {
      main = func-name script (codes "main") main (known (codes "main") main is) function;
      names = has_names names deeds r places;
      declares = declares-good names script known deeds false [] 0 0 0 r;
      parents = λ x p e. omega (arith, parents-good names deeds false [] 0 0 0 r x p e);
      functions = functions_are names deeds false [] 0 0 0 r places;
      code = funcs-good names script known deeds false [] 0 0 0 r;
      few_names = omega (arith, few-names names deeds false [] 0 0 0 r (omega arith));
      few_functions = omega (arith, few-functions names deeds false [] 0 0 0 r (omega arith));
      few_instructions = omega (arith, few-instructions names deeds false [] [] 0 0 0 0 r tt (omega arith));
    }
