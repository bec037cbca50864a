-- What is said of the contents of a tree is what the rules say of the state that has it.
use Rattle.std.proofs.Common.{◌≡◌, ℕ, zero, suc, ◌+◌, ◌==◌, not, ◌&&◌, if◌then◌else◌, Bool, true, false, cond, min, Option, None, Some, List, [], ◌∷◌, length, map, set, slice_get, slice_index_or, is_some, is_none, refl, sym, ◌∙◌, ap, subst, zero-add, arith}
use Rattle.std.specs.List.{filter, list_any, range_with_len, enumerate_from}
use Rattle.std.specs.Option.{option_map, option_map_or, option_and_then, option_or}
use Rattle.std.proofs.lemmas.List.{ext_get_or, get_or-map, length-map}
use Rattle.std.proofs.lemmas.List.FromFn.{length-range_with_len, get_or-range_with_len, length-enumerate_from, get_or-enumerate_from}
use Rattle.std.proofs.Math.Nat.{min_comm}
use Rattle.gt_model.specs.declared.script.Script.{Script}
use Rattle.gt_model.specs.declared.script.Decl.{Decl}
use Rattle.gt_model.specs.declared.script.What.{What}
use Rattle.gt_model.specs.declared.context.Form.{Form}
use Rattle.gt_model.specs.declared.context.Context.{Context}
use Rattle.gt_model.specs.declared.context.End.{End}
use Rattle.gt_model.specs.declared.context.ErrVal.{ErrVal}
use Rattle.gt_model.specs.declared.context.HookState.{HookState}
use Rattle.gt_model.specs.Script as names
use Rattle.gt_model.specs.Good.{IsGood, DeclaresRightly}
use Rattle.gt_model.proofs.GoodCode.{all_at}
use Rattle.gt_model.specs.Times.{greatest_time}
use Rattle.gt_model.specs.Tables.{flatten, change}
use Rattle.gt_model.specs.Tables as tables
use Rattle.gt_rules.specs.State as at
use Rattle.gt_rules.specs.Contexts as rules
use Rattle.gt_rules.specs.Contexts.{line_of, is_waiting_hook}
use Rattle.gt_ctx.specs.declared.decl.CtxDecl.{CtxDecl}
use Rattle.gt_ctx.specs.Decls.{AreOrdered, decl_by, decls_of, decl_at, is_context, parent_by, ctx_by, heeded_in, heeded_by, heeded, expiry_by}
use Rattle.gt_ctx.specs.Tree.{line, lineage, first_found}
use Rattle.gt_ctx.specs.Contents.{Contents, context_at, end_at, own_at, hook_at, deadline, reached_from, is_reached}
use Rattle.gt_ctx.specs.Calls.{cut, unless_earlier, own_by, kept_by, parents_deadline, parents_end, form_by, form_at, made_context, ended_kept, cut_context, cut_contexts, ctx_of, hooks_end, is_starting, starting, cut_hook, cut_hooks, after_registering, after_stop}
use Rattle.gt_ctx.specs.Rules.{IsTreeOf}

-- ---- lists

at_or : {X : Type 0} (xs : List X) (i : ℕ) (d : X) → slice_index_or xs i d ≡ elim (slice_get xs i) [ None ↦ d | Some x ↦ x ]
at_or [] i d = refl
at_or (x ∷ xs) zero d = refl
at_or (x ∷ xs) (suc i) d = at_or xs i d

flattened : {X : Type 0} (o : Option (Option X)) → elim o as (λ _. Option X) [ None ↦ None | Some x ↦ x ] ≡ flatten o
flattened None = refl
flattened (Some o) = refl

-- what may be missing at a place
pub at-is : {X : Type 0} (xs : List (Option X)) (i : ℕ) → slice_index_or xs i None ≡ tables.at xs i
at-is xs i = at_or xs i None ∙ flattened (slice_get xs i)

change_const : {X : Type 0} (xs : List X) (i : ℕ) (v : X) → set xs i v ≡ change xs i (λ _. v)
change_const [] i v = refl
change_const (x ∷ xs) zero v = refl
change_const (x ∷ xs) (suc i) v = ap (λ ys. x ∷ ys) (change_const xs i v)

-- by number, or by the items with their numbers
map_numbers : {X Y : Type 0} (f : ℕ → Y) (g : ℕ × X → Y) (xs : List X) (n : ℕ) (d : X) (e : Y) → length xs ≡ n → ((i : ℕ) → f i ≡ g (i, slice_index_or xs i d)) → map f (range_with_len 0 n) ≡ map g (enumerate_from 0 xs)
map_numbers f g xs n d e size same =
    let a = length-map (range_with_len 0 n) f in
    let b = length-range_with_len 0 n in
    let k = length-map (enumerate_from 0 xs) g in
    let m = length-enumerate_from 0 xs in
    ext_get_or e (map f (range_with_len 0 n)) (map g (enumerate_from 0 xs)) (omega arith)
    (λ i l.
    get_or-map f (range_with_len 0 n) i 0 e (omega arith) ∙ ap f (get_or-range_with_len 0 n i 0 (omega arith) ∙ zero-add i) ∙ same i
    ∙ ap (λ j. g (j, slice_index_or xs i d)) (sym (zero-add i)) ∙ ap g (sym (get_or-enumerate_from 0 xs i (0, d) (omega arith)))
    ∙ sym (get_or-map g (enumerate_from 0 xs) i (0, d) e (omega arith)))

keep_if : {X : Type 0} (b : Bool) (x : X) (xs ys : List X) → xs ≡ ys → cond b (x ∷ xs) xs ≡ cond b (x ∷ ys) ys
keep_if true x xs ys e = ap (λ zs. x ∷ zs) e
keep_if false x xs ys e = e

filter_numbers : {X : Type 0} (p : ℕ → Bool) (q : ℕ × X → Bool) (xs : List X) (k : ℕ) (d : X) → ((i : ℕ) → p (k + i) ≡ q (k + i, slice_index_or xs i d)) → filter p (range_with_len k (length xs)) ≡ map (λ (e : ℕ × X). e.0) (filter q (enumerate_from k xs))
filter_numbers p q [] k d same = refl
filter_numbers {X = X} p q (x ∷ xs) k d same =
    let rest = filter_numbers p q xs (k + 1) d (λ i. let is : k + 1 + i ≡ k + suc i = omega arith in ap p is ∙ same (suc i) ∙ ap (λ j. q (j, slice_index_or xs i d)) (sym is)) in
    let is : k + 0 ≡ k = omega arith in
    let here : p k ≡ q (k, x) = ap p (sym is) ∙ same 0 ∙ ap (λ j. q (j, x)) is in
    elim (q (k, x)) as (λ b. p k ≡ b → q (k, x) ≡ b → filter p (k ∷ range_with_len (k + 1) (length xs)) ≡ map (λ (e : ℕ × X). e.0) (filter q ((k, x) ∷ enumerate_from (k + 1) xs))) [
      | true ↦ λ a b. rw (a, b) (ap (λ zs. k ∷ zs) rest)
      | false ↦ λ a b. rw (a, b) rest
    ] here refl

-- ---- what is declared

abbrev decl_in : Option What → CtxDecl
decl_in None = CtxDecl.Other
decl_in (Some what) = decl_by what

decl_of : (ds : List Decl) (x : ℕ) → slice_index_or (decls_of ds) x CtxDecl.Other ≡ decl_in (option_map (λ (d : Decl). d.what) (slice_get ds x))
decl_of [] x = refl
decl_of (d ∷ ds) zero = refl
decl_of (d ∷ ds) (suc x) = decl_of ds x

pub decl_is : (script : Script) (x : ℕ) → decl_at (decls_of script.decls) x ≡ decl_in (names.what_at script x)
decl_is script x = decl_of script.decls x

abbrev parent_in : Option What → Option ℕ
parent_in w = elim w [ None ↦ None | Some what ↦ elim what [ What.Ctx parent form ↦ parent | _ ↦ None ] ]

abbrev ctx_in : Option What → Option ℕ
ctx_in w = elim w [ None ↦ None | Some what ↦ elim what [ What.Hook ctx func ↦ Some ctx | _ ↦ None ] ]

context_by : (w : Option What) → is_context (decl_in w) ≡ names.names_ctx w
context_by None = refl
context_by (Some What.Timer) = refl
context_by (Some What.Ticker) = refl
context_by (Some (What.AfterFunc func)) = refl
context_by (Some (What.Chan most)) = refl
context_by (Some What.Mutex) = refl
context_by (Some What.Wg) = refl
context_by (Some (What.Cond mutex)) = refl
context_by (Some (What.Ctx parent form)) = refl
context_by (Some (What.Hook ctx func)) = refl
context_by (Some What.Error) = refl
context_by (Some What.Function) = refl

parent_by-in : (w : Option What) → parent_by (decl_in w) ≡ parent_in w
parent_by-in None = refl
parent_by-in (Some What.Timer) = refl
parent_by-in (Some What.Ticker) = refl
parent_by-in (Some (What.AfterFunc func)) = refl
parent_by-in (Some (What.Chan most)) = refl
parent_by-in (Some What.Mutex) = refl
parent_by-in (Some What.Wg) = refl
parent_by-in (Some (What.Cond mutex)) = refl
parent_by-in (Some (What.Ctx parent form)) = refl
parent_by-in (Some (What.Hook ctx func)) = refl
parent_by-in (Some What.Error) = refl
parent_by-in (Some What.Function) = refl

ctx_by-in : (w : Option What) → ctx_by (decl_in w) ≡ ctx_in w
ctx_by-in None = refl
ctx_by-in (Some What.Timer) = refl
ctx_by-in (Some What.Ticker) = refl
ctx_by-in (Some (What.AfterFunc func)) = refl
ctx_by-in (Some (What.Chan most)) = refl
ctx_by-in (Some What.Mutex) = refl
ctx_by-in (Some What.Wg) = refl
ctx_by-in (Some (What.Cond mutex)) = refl
ctx_by-in (Some (What.Ctx parent form)) = refl
ctx_by-in (Some (What.Hook ctx func)) = refl
ctx_by-in (Some What.Error) = refl
ctx_by-in (Some What.Function) = refl

heeded_by_form : (form : Form) (parent : Option ℕ) → heeded_in form parent ≡ cond (names.can_end (Some form)) parent None
heeded_by_form Form.Cancel parent = refl
heeded_by_form Form.Cause parent = refl
heeded_by_form (Form.Timeout d cause) parent = refl
heeded_by_form Form.Without parent = refl

heeded_by-in : (w : Option What) → heeded_by (decl_in w) ≡ cond (names.can_end (names.named_form w)) (parent_in w) None
heeded_by-in None = refl
heeded_by-in (Some What.Timer) = refl
heeded_by-in (Some What.Ticker) = refl
heeded_by-in (Some (What.AfterFunc func)) = refl
heeded_by-in (Some (What.Chan most)) = refl
heeded_by-in (Some What.Mutex) = refl
heeded_by-in (Some What.Wg) = refl
heeded_by-in (Some (What.Cond mutex)) = refl
heeded_by-in (Some (What.Ctx parent form)) = heeded_by_form form parent
heeded_by-in (Some (What.Hook ctx func)) = refl
heeded_by-in (Some What.Error) = refl
heeded_by-in (Some What.Function) = refl

-- the form, where one that is no context counts as `cancel`
abbrev form_in : Option Form → Form
form_in None = Form.Cancel
form_in (Some form) = form

form_by-in : (w : Option What) → form_by (decl_in w) ≡ form_in (names.named_form w)
form_by-in None = refl
form_by-in (Some What.Timer) = refl
form_by-in (Some What.Ticker) = refl
form_by-in (Some (What.AfterFunc func)) = refl
form_by-in (Some (What.Chan most)) = refl
form_by-in (Some What.Mutex) = refl
form_by-in (Some What.Wg) = refl
form_by-in (Some (What.Cond mutex)) = refl
form_by-in (Some (What.Ctx parent form)) = refl
form_by-in (Some (What.Hook ctx func)) = refl
form_by-in (Some What.Error) = refl
form_by-in (Some What.Function) = refl

module _ (script : Script) where
  abbrev decls : List CtxDecl
  decls = decls_of script.decls

  pub is_context-is : (x : ℕ) → is_context (decl_at decls x) ≡ names.is_ctx script x
  is_context-is x = ap is_context (decl_is script x) ∙ context_by (names.what_at script x)

  pub parent_by-is : (x : ℕ) → parent_by (decl_at decls x) ≡ names.parent_of script x
  parent_by-is x = ap parent_by (decl_is script x) ∙ parent_by-in (names.what_at script x)

  pub ctx_of-is : (h : ℕ) → ctx_of decls h ≡ names.ctx_of script h
  ctx_of-is h = ap ctx_by (decl_is script h) ∙ ctx_by-in (names.what_at script h)

  pub heeded-is : (x : ℕ) → heeded decls x ≡ rules.heeded script x
  heeded-is x = ap heeded_by (decl_is script x) ∙ heeded_by-in (names.what_at script x)

  form_at-is : (x : ℕ) → form_at decls x ≡ form_in (names.form_of script x)
  form_at-is x = ap form_by (decl_is script x) ∙ form_by-in (names.what_at script x)

-- ---- who is above whom

above_is : {X : Type 0} (f : ℕ → X) (g : ℕ → X) (o : Option ℕ) (d : X) → ((p : ℕ) → f p ≡ g p) → option_map_or f o d ≡ elim o [ None ↦ d | Some p ↦ g p ]
above_is f g None d same = refl
above_is f g (Some p) d same = same p

line-is : (f g : ℕ → Option ℕ) → ((y : ℕ) → f y ≡ g y) → (n y : ℕ) → line f n y ≡ rules.line_of g n y
unfolding line line_of
line-is f g same zero y = refl
line-is f g same (suc n) y =
    ap (λ o. y ∷ option_map_or (λ p. line f n p) o []) (same y)
    ∙ ap (λ ys. y ∷ ys) (above_is (λ p. line f n p) (λ p. rules.line_of g n p) (g y) [] (λ p. line-is f g same n p))

lineage-is : (f g : ℕ → Option ℕ) → ((y : ℕ) → f y ≡ g y) → (y : ℕ) → lineage f y ≡ rules.above g y
lineage-is f g same y = line-is f g same y y

-- ---- the same look-ups

then_is : {X : Type 0} (f g : ℕ → Option X) (o : Option ℕ) → ((p : ℕ) → f p ≡ g p) → option_and_then f o ≡ elim o as (λ _. Option X) [ None ↦ None | Some p ↦ g p ]
then_is f g None same = refl
then_is f g (Some p) same = same p

end_in-is : (kept : Option Context) → option_and_then (λ (k : Context). k.end) kept ≡ elim kept as (λ _. Option End) [ None ↦ None | Some r ↦ r.end ]
end_in-is None = refl
end_in-is (Some kept) = refl

own_in-is : (kept : Option Context) → option_and_then (λ (k : Context). k.own) kept ≡ elim kept as (λ _. Option ℕ) [ None ↦ None | Some r ↦ r.own ]
own_in-is None = refl
own_in-is (Some kept) = refl

reached_in-is : (kept : Option Context) (o : Option ℕ) → option_and_then (λ (_ : Context). o) kept ≡ cond (is_some kept) o None
reached_in-is None o = refl
reached_in-is (Some kept) o = refl

none-is : (o : Option End) → is_none o ≡ not (is_some o)
none-is None = refl
none-is (Some end) = refl

module _ (s : at.State) where
  pub context_at-is : (x : ℕ) → context_at s.contexts x ≡ at.context_at s x
  context_at-is x = at-is s.contexts x

  pub end_at-is : (x : ℕ) → end_at s.contexts x ≡ at.end_at s x
  end_at-is x = ap (option_and_then (λ (k : Context). k.end)) (context_at-is x) ∙ end_in-is (at.context_at s x)

  pub own_at-is : (x : ℕ) → own_at s.contexts x ≡ at.own_at s x
  own_at-is x = ap (option_and_then (λ (k : Context). k.own)) (context_at-is x) ∙ own_in-is (at.context_at s x)

module _ (script : Script) (s : at.State) where
  reached_from-is : (y : ℕ) → reached_from (decls script) s.contexts y ≡ rules.reached_from script s y
  reached_from-is y =
      ap (option_and_then (λ (_ : Context). heeded (decls script) y)) (context_at-is s y)
      ∙ reached_in-is (at.context_at s y) (heeded (decls script) y)
      ∙ ap (λ o. cond (is_some (at.context_at s y)) o None) (heeded-is script y)

  pub is_reached-is : (x y : ℕ) → is_reached (decls script) s.contexts x y ≡ rules.is_reached script s x y
  is_reached-is x y =
      ap (list_any (λ z. z == x)) (lineage-is (reached_from (decls script) s.contexts) (rules.reached_from script s) reached_from-is y)

  found-is : (ys : List ℕ) → first_found (own_at s.contexts) ys ≡ rules.first_own s ys
  found-is [] = refl
  found-is (y ∷ ys) =
      ap (λ o. option_or o (first_found (own_at s.contexts) ys)) (own_at-is s y)
      ∙ ap (option_or (at.own_at s y)) (found-is ys)
      ∙ or-is (at.own_at s y) (rules.first_own s ys)
    where
      or-is : (o p : Option ℕ) → option_or o p ≡ elim o [ None ↦ p | Some due ↦ Some due ]
      or-is None p = refl
      or-is (Some due) p = refl

-- ---- a context that is made

unless_earlier-is : (due : ℕ) (parents : Option ℕ) → unless_earlier due parents ≡ rules.unless_earlier parents due
unless_earlier-is due None = refl
unless_earlier-is due (Some other) = refl

own_by-is : (o : Option Form) (now : ℕ) (parents : Option ℕ) → own_by (form_in o) parents now ≡ rules.own_by o now parents
own_by-is None now parents = refl
own_by-is (Some Form.Cancel) now parents = refl
own_by-is (Some Form.Cause) now parents = refl
own_by-is (Some (Form.Timeout d cause)) now parents =
    ap (λ due. unless_earlier due parents) (min_comm greatest_time (now + d)) ∙ unless_earlier-is (min (now + d) greatest_time) parents
own_by-is (Some Form.Without) now parents = refl

expiry-is : (o : Option Form) → expiry_by (form_in o) ≡ record { err = ErrVal.DeadlineExceeded; cause = rules.expiry_cause o }
expiry-is None = refl
expiry-is (Some Form.Cancel) = refl
expiry-is (Some Form.Cause) = refl
expiry-is (Some (Form.Timeout d None)) = refl
expiry-is (Some (Form.Timeout d (Some e))) = refl
expiry-is (Some Form.Without) = refl

kept_by-is : (form : Form) (w now : ℕ) (own : Option ℕ) (end : Option End) → kept_by form w now own end ≡ rules.made_below w end own (expiry_by form) now
kept_by-is form w now own (Some end) = refl
kept_by-is form w now None None = refl
kept_by-is form w now (Some due) None = refl

module _ (script : Script) (s : at.State) (c : Contents) (t : IsTreeOf script s c) where
  -- what is known of the tree, by its parts
  by_parts : {X : Type 0} (f : List CtxDecl → List (Option Context) → List HookState → X) → f c.decls c.contexts c.hooks ≡ f (decls script) s.contexts s.hooks
  by_parts f =
      ap (λ ds. f ds c.contexts c.hooks) t.declared ∙ ap (λ ks. f (decls script) ks c.hooks) t.contexts ∙ ap (f (decls script) s.contexts) t.hooks

  pub deadline-is : (x : ℕ) → deadline c x ≡ rules.deadline_of script s x
  deadline-is x =
      by_parts (λ ds ks hs. first_found (own_at ks) (lineage (heeded ds) x))
      ∙ ap (first_found (own_at s.contexts)) (lineage-is (heeded (decls script)) (rules.heeded script) (heeded-is script) x)
      ∙ found-is script s (rules.above (rules.heeded script) x)

  parents_deadline-is : (x : ℕ) → parents_deadline c x ≡ rules.deadline_above script s x
  parents_deadline-is x =
      ap (λ ds. option_and_then (deadline c) (heeded ds x)) t.declared
      ∙ ap (option_and_then (deadline c)) (heeded-is script x)
      ∙ then_is (deadline c) (rules.deadline_of script s) (rules.heeded script x) deadline-is

  parents_end-is : (x : ℕ) → parents_end c x ≡ rules.end_above script s x
  parents_end-is x =
      by_parts (λ ds ks hs. option_and_then (end_at ks) (heeded ds x))
      ∙ ap (option_and_then (end_at s.contexts)) (heeded-is script x)
      ∙ then_is (end_at s.contexts) (at.end_at s) (rules.heeded script x) (end_at-is s)

  pub made_context-is : (x w now : ℕ) → now ≡ at.clock s w → made_context c x w now ≡ rules.made_context script s w x
  made_context-is x w now is =
      let o : Option Form = names.form_of script x in
      let form : form_at c.decls x ≡ form_in o = ap (λ ds. form_at ds x) t.declared ∙ form_at-is script x in
      ap (λ f. kept_by f w now (own_by f (parents_deadline c x) now) (parents_end c x)) form
      ∙ ap (λ p. kept_by (form_in o) w now (own_by (form_in o) p now) (parents_end c x)) (parents_deadline-is x)
      ∙ ap (kept_by (form_in o) w now (own_by (form_in o) (rules.deadline_above script s x) now)) (parents_end-is x)
      ∙ ap (λ own. kept_by (form_in o) w now own (rules.end_above script s x)) (own_by-is o now (rules.deadline_above script s x))
      ∙ kept_by-is (form_in o) w now (rules.own_by o now (rules.deadline_above script s x)) (rules.end_above script s x)
      ∙ ap (λ end. rules.made_below w (rules.end_above script s x) (rules.own_by o now (rules.deadline_above script s x)) end now) (expiry-is o)
      ∙ ap (λ t. rules.made_below w (rules.end_above script s x) (rules.own_by o t (rules.deadline_above script s x)) (rules.expiry_end script x) t) is

-- ---- what an end reaches and starts

ended_by-is : (end : End) (kept : Option Context) → option_map (ended_kept end) kept ≡ option_map (rules.ended_by end) kept
ended_by-is end None = refl
ended_by-is end (Some k) = ap (λ (o : Option End). Some (record k { end = o })) (or-is k.end)
  where
    or-is : (o : Option End) → option_or o (Some end) ≡ elim o [ None ↦ Some end | Some first ↦ Some first ]
    or-is None = refl
    or-is (Some first) = refl

cut_context-is : (b : Bool) (end : End) (kept : Option Context) → cut_context b end kept ≡ cond b (option_map (rules.ended_by end) kept) kept
cut_context-is true end kept = ended_by-is end kept
cut_context-is false end kept = refl

module _ (script : Script) (s : at.State) (c : Contents) (t : IsTreeOf script s c) (many : length s.contexts ≡ length script.decls) (hooks_too : length s.hooks ≡ length script.decls) where
  size : length c.decls ≡ length script.decls
  size = ap length t.declared ∙ length-map script.decls (λ (d : Decl). decl_by d.what)

  reached-is : (x y : ℕ) → is_reached c.decls c.contexts x y ≡ rules.is_reached script s x y
  reached-is x y = by_parts script s c t (λ ds ks hs. is_reached ds ks x y) ∙ is_reached-is script s x y

  pub cut_contexts-is : (x : ℕ) (end : End) → cut_contexts c x end ≡ rules.cut_contexts script s x end
  cut_contexts-is x end =
      map_numbers (λ y. cut_context (is_reached c.decls c.contexts x y) end (context_at c.contexts y)) (rules.cut_one script s x end) s.contexts (length c.decls) None None (many ∙ sym size)
      (λ y.
      ap (λ b. cut_context b end (context_at c.contexts y)) (reached-is x y)
      ∙ ap (λ ks. cut_context (rules.is_reached script s x y) end (context_at ks y)) t.contexts
      ∙ cut_context-is (rules.is_reached script s x y) end (context_at s.contexts y))

  waits_on-is : (x : ℕ) (o : Option ℕ) → option_map_or (λ y. is_reached c.decls c.contexts x y && is_none (end_at c.contexts y)) o false ≡ rules.waits_on script s x o
  waits_on-is x None = refl
  waits_on-is x (Some y) =
      ap (λ b. b && is_none (end_at c.contexts y)) (reached-is x y)
      ∙ ap (λ e. rules.is_reached script s x y && is_none e) (ap (λ ks. end_at ks y) t.contexts ∙ end_at-is s y)
      ∙ ap (λ b. rules.is_reached script s x y && b) (none-is (at.end_at s y))

  is_starting-is : (x h : ℕ) → is_starting c x h ≡ rules.is_starting script s x (h, hook_at s.hooks h)
  is_starting-is x h =
      ap (λ hs. is_waiting_hook (hook_at hs h) && option_map_or (λ y. is_reached c.decls c.contexts x y && is_none (end_at c.contexts y)) (ctx_of c.decls h) false) t.hooks
      ∙ ap (λ b. is_waiting_hook (hook_at s.hooks h) && b)
      (waits_on-is x (ctx_of c.decls h) ∙ ap (rules.waits_on script s x) (ap (λ ds. ctx_of ds h) t.declared ∙ ctx_of-is script h))

  -- the hooks that an end starts, and how many they are
  pub starting-is : (x : ℕ) → starting c x ≡ rules.starting script s x
  starting-is x =
      ap (λ n. filter (is_starting c x) (range_with_len 0 n)) (size ∙ sym hooks_too)
      ∙ filter_numbers (is_starting c x) (rules.is_starting script s x) s.hooks 0 HookState.Unregistered
      (λ i. ap (is_starting c x) (zero-add i) ∙ is_starting-is x i ∙ ap (λ j. rules.is_starting script s x (j, hook_at s.hooks i)) (sym (zero-add i)))

  pub start_count-is : (x : ℕ) → at.has_ended s x ≡ false → length (starting c x) ≡ rules.start_count script s x
  start_count-is x going = ap length (starting-is x) ∙ ap (λ b. let n : ℕ = cond b 0 (length (rules.starting script s x)) in n) (sym going)

  pub cut_hooks-is : (x : ℕ) → cut_hooks c x ≡ rules.cut_hooks script s x
  cut_hooks-is x =
      map_numbers (λ h. cut_hook (is_starting c x h) (hook_at c.hooks h)) (rules.cut_hook script s x) s.hooks (length c.decls) HookState.Unregistered HookState.Unregistered (hooks_too ∙ sym size)
      (λ h. ap (λ b. cut_hook b (hook_at c.hooks h)) (is_starting-is x h) ∙ ap (λ hs. cut_hook (rules.is_starting script s x (h, hook_at s.hooks h)) (hook_at hs h)) t.hooks)

  -- the tree after a cut
  pub tree-cut : (x : ℕ) (end : End) → IsTreeOf script (record s { contexts = rules.cut_contexts script s x end; hooks = rules.cut_hooks script s x }) (cut c x end)
  tree-cut x end = record { declared = t.declared; contexts = cut_contexts-is x end; hooks = cut_hooks-is x }

-- ---- hooks

module _ (script : Script) (s : at.State) (c : Contents) (t : IsTreeOf script s c) where
  hook_is_due-is : (h : ℕ) → is_some (hooks_end c h) ≡ rules.hook_is_due script s h
  hook_is_due-is h =
      by_parts script s c t (λ ds ks hs. is_some (option_and_then (end_at ks) (ctx_of ds h)))
      ∙ ap (λ o. is_some (option_and_then (end_at s.contexts) o)) (ctx_of-is script h)
      ∙ due_at (names.ctx_of script h)
    where
      due_at : (o : Option ℕ) → is_some (option_and_then (end_at s.contexts) o) ≡ elim o [ None ↦ false | Some x ↦ at.has_ended s x ]
      due_at None = refl
      due_at (Some x) = ap is_some (end_at-is s x)

  registered-is : (b : Bool) → (if b then HookState.Started else HookState.Waiting) ≡ cond b HookState.Started HookState.Waiting
  registered-is true = refl
  registered-is false = refl

  -- a hook that is registered
  pub hooks-registered : (h : ℕ) → (after_registering c h).hooks ≡ change s.hooks h (λ _. rules.registered script s h)
  hooks-registered h =
      ap (λ hs. set hs h (if is_some (hooks_end c h) then HookState.Started else HookState.Waiting)) t.hooks
      ∙ ap (set s.hooks h) (ap (λ b. if b then HookState.Started else HookState.Waiting) (hook_is_due-is h) ∙ registered-is (rules.hook_is_due script s h))
      ∙ change_const s.hooks h (rules.registered script s h)

  -- and one that is taken back
  pub hooks-stopped : (h : ℕ) → (after_stop c h).hooks ≡ change s.hooks h rules.unhooked
  hooks-stopped h = stopped-parts c h ∙ ap (λ hs. if is_waiting_hook (hook_at hs h) then set hs h HookState.Stopped else hs) t.hooks ∙ unhooked-is s.hooks h
    where
      stopped-parts : (c : Contents) (h : ℕ) → (after_stop c h).hooks ≡ (if is_waiting_hook (hook_at c.hooks h) then set c.hooks h HookState.Stopped else c.hooks)
      stopped-parts c h = elim (is_waiting_hook (hook_at c.hooks h)) as (λ b. (let d : Contents = if b then record c { hooks = set c.hooks h HookState.Stopped } else c in d.hooks) ≡ (if b then set c.hooks h HookState.Stopped else c.hooks)) [ true ↦ refl | false ↦ refl ]

      unhooked-is : (hs : List HookState) (h : ℕ) → (if is_waiting_hook (hook_at hs h) then set hs h HookState.Stopped else hs) ≡ change hs h rules.unhooked
      unhooked-is [] h = refl
      unhooked-is (HookState.Unregistered ∷ hs) zero = refl
      unhooked-is (HookState.Waiting ∷ hs) zero = refl
      unhooked-is (HookState.Started ∷ hs) zero = refl
      unhooked-is (HookState.Stopped ∷ hs) zero = refl
      unhooked-is (k ∷ hs) (suc h) = keeps-first (is_waiting_hook (hook_at hs h)) k (set hs h HookState.Stopped) hs ∙ ap (λ ks. k ∷ ks) (unhooked-is hs h)
        where
          keeps-first : (b : Bool) (k : HookState) (xs ys : List HookState) → (if b then k ∷ xs else k ∷ ys) ≡ k ∷ (if b then xs else ys)
          keeps-first true k xs ys = refl
          keeps-first false k xs ys = refl

pub stopped-contexts : (c : Contents) (h : ℕ) → (after_stop c h).contexts ≡ c.contexts
stopped-contexts c h = elim (is_waiting_hook (hook_at c.hooks h)) as (λ b. (let d : Contents = if b then record c { hooks = set c.hooks h HookState.Stopped } else c in d.contexts) ≡ c.contexts) [ true ↦ refl | false ↦ refl ]

-- ---- a script that the reader accepts declares them in order

module _ (script : Script) (good : IsGood script) where
  what_declared : (x : ℕ) (w : What) → names.what_at script x ≡ Some w → DeclaresRightly script w
  what_declared x w e =
      elim (slice_get script.decls x) as (λ o. slice_get script.decls x ≡ o → option_map (λ (d : Decl). d.what) o ≡ Some w → DeclaresRightly script w) [
        | None ↦ λ _ h. absurd (cc)
        | Some d ↦ λ there h. let is : d.what ≡ w = cc in subst (DeclaresRightly script) is (all_at (λ (d : Decl). DeclaresRightly script d.what) script.decls x d good.declares there)
      ] refl e

  parent_is_context : (w : Option What) (p : ℕ) → ((what : What) → w ≡ Some what → DeclaresRightly script what) → parent_in w ≡ Some p → names.is_ctx script p ≡ true
  parent_is_context (Some (What.Ctx (Some q) form)) p rightly e = let is : q ≡ p = cc in subst (λ k. names.is_ctx script k ≡ true) is (rightly (What.Ctx (Some q) form) refl).0
  parent_is_context _ p rightly e = absurd (cc)

  ctx_is_context : (w : Option What) (x : ℕ) → ((what : What) → w ≡ Some what → DeclaresRightly script what) → ctx_in w ≡ Some x → names.is_ctx script x ≡ true
  ctx_is_context (Some (What.Hook ctx func)) x rightly e = let is : ctx ≡ x = cc in subst (λ k. names.is_ctx script k ≡ true) is (rightly (What.Hook ctx func) refl).0
  ctx_is_context _ x rightly e = absurd (cc)

  pub ordered-good : AreOrdered (decls_of script.decls)
  ordered-good = record {
    parent_earlier = λ y p e. good.parents y p (sym (parent_by-is script y) ∙ e);
    parent_context = λ y p e. is_context-is script p ∙ parent_is_context (names.what_at script y) p (what_declared y) (sym (parent_by-is script y) ∙ e);
    ctx_context = λ h x e. is_context-is script x ∙ ctx_is_context (names.what_at script h) x (what_declared h) (sym (ctx_of-is script h) ∙ e);
  }
