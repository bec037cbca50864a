-- How contexts end, and by which time: what the entries tell is what the machine's state after them says.
use Rattle.std.proofs.Common.{◌≡◌, ◌≢◌, ℕ, zero, suc, ◌||◌, ◌&&◌, List, [], ◌∷◌, ◌++◌, map, set, refl, sym, ap, subst, ◌∙◌, cond, Option, None, Some, option_map, Bool, true, false, eqb, is_some, IfSome, nat_le, append_assoc, append-nil}
use Rattle.std.proofs.lemmas.Bool.{true≢false, eqb-true, eqb-false}
use Rattle.std.proofs.lemmas.List.{map-set}
use Rattle.gt_model.specs.declared.script.Script.{Script}
use Rattle.gt_model.specs.declared.script.Decl.{Decl}
use Rattle.gt_model.specs.declared.script.Instr.{Instr}
use Rattle.gt_model.specs.declared.entry.Entry.{Entry}
use Rattle.gt_model.specs.declared.entry.Limits.{Limits}
use Rattle.gt_model.specs.declared.context.Context.{Context}
use Rattle.gt_model.specs.declared.context.End.{End}
use Rattle.gt_model.specs.Good.{IsGood}
use Rattle.gt_model.specs.Script.{form_of, parent_of, is_endable}
use Rattle.gt_model.specs.Tables.{at}
use Rattle.gt_model.proofs.Items.{at-set_same, at-set_other}
use Rattle.gt_rules.specs.State.{State, clock, context_at, end_at, own_at, has_ended, world_of}
use Rattle.gt_rules.specs.Contexts.{heeded, above, first_own, deadline_of, deadline_above, own_by, cancel_end, named_by, expiry_end, end_above, made_below, made_context, is_reached, ended_by, cut_contexts}
use Rattle.gt_rules.specs.Ready.{is_due}
use Rattle.gt_rules.specs.After.{after, first_state}
use Rattle.gt_rules.specs.History.{AllLegal}
use Rattle.gt_facts.proofs.Histories.{AllLegal-append, state_after-append}
use Rattle.gt_facts.proofs.Contexts.{at-cut, FitsDerived}
use Rattle.gt_laws.specs.Told.{reaches, reaches_some, ctx_world_told, derived_told, now_told, stands_told}
use Rattle.gt_laws.specs.Contexts.{end_by, end_for, first_of, end_from, end_told, ended_told, first_time, parent_time, own_given, owns_by, owns_from, owns_told, own_told, ends_at_once, own_is_due}
use Rattle.gt_laws.proofs.Above.{reaches-itself, reaches-other}
use Rattle.gt_laws.proofs.Trees.{IsTree, reached-reaches, reaches-made, none-at}
use Rattle.gt_laws.proofs.Shown.{Step, step-legal, reached, tree-reached, formed-reached, clock-told, derived-told}
use Rattle.gt_laws.proofs.Everyone.{stands-told, now-told, ctx_world-told, cut-unseen, none-map}

-- ---- a front with one more entry

pub front-on : (P : List Entry → Type 0) (script : Script) (limits : Limits)
    → ((front : List Entry) (e : Entry) → AllLegal script limits (first_state script) front → Step script limits (reached script front) e → P front → P (front ++ e ∷ []))
    → IsGood script → (front rest : List Entry) → AllLegal script limits (first_state script) front → AllLegal script limits (reached script front) rest → P front → P (front ++ rest)
front-on P script limits one good front [] before legal is = subst P (sym (append-nil front)) is
front-on P script limits one good front (e ∷ rest) before legal is =
    let step : Step script limits (reached script front) e =
    step-legal script limits (reached script front) e good (formed-reached script limits front good before) (tree-reached script limits front good before) legal.0 in
    subst P (append_assoc front (e ∷ []) rest)
    (front-on P script limits one good (front ++ e ∷ []) rest (AllLegal-append script limits (first_state script) front e before legal.0)
    (subst (λ s. AllLegal script limits s rest) (sym (state_after-append script (first_state script) front e)) legal.1) (one front e before step is))

-- what each entry keeps holds of all legal lists
pub each-front : (P : List Entry → Type 0) (script : Script) (limits : Limits)
    → ((front : List Entry) (e : Entry) → AllLegal script limits (first_state script) front → Step script limits (reached script front) e → P front → P (front ++ e ∷ []))
    → P [] → (h : List Entry) → IsGood script → AllLegal script limits (first_state script) h → P h
each-front P script limits one first h good legal = front-on P script limits one good [] h tt legal first

-- ---- the first end

pub first-assoc : (a b c : Option End) → first_of (first_of a b) c ≡ first_of a (first_of b c)
first-assoc None b c = refl
first-assoc (Some a) b c = refl

first-none : (a : Option End) → first_of a None ≡ a
first-none None = refl
first-none (Some a) = refl

end_from-on : (script : Script) (x : ℕ) (front h : List Entry) (e : Entry)
    → end_from script x front (h ++ e ∷ []) ≡ first_of (end_from script x front h) (end_for script x (end_by script (front ++ h) e))
end_from-on script x front [] e =
    first-none (end_for script x (end_by script front e)) ∙ ap (λ fs. end_for script x (end_by script fs e)) (sym (append-nil front))
end_from-on script x front (d ∷ h) e =
    ap (first_of (end_for script x (end_by script front d))) (end_from-on script x (front ++ d ∷ []) h e)
    ∙ (sym (first-assoc (end_for script x (end_by script front d)) (end_from script x (front ++ d ∷ []) h) (end_for script x (end_by script ((front ++ d ∷ []) ++ h) e)))
    ∙ ap (λ fs. first_of (first_of (end_for script x (end_by script front d)) (end_from script x (front ++ d ∷ []) h)) (end_for script x (end_by script fs e)))
    (append_assoc front (d ∷ []) h))

-- one more entry brings an end where none came before
pub end_told-on : (script : Script) (x : ℕ) (h : List Entry) (e : Entry) → end_told script x (h ++ e ∷ []) ≡ first_of (end_told script x h) (end_for script x (end_by script h e))
end_told-on script x h e = end_from-on script x [] h e

-- ---- what an entry brings to a context that was made, and to one that was not

abbrev pub end_of : Option Context → Option End
end_of o = elim o [ None ↦ None | Some r ↦ r.end ]

-- the end that reaches the context which another one heeds
abbrev over : Script → (ℕ → Option End) → Option ℕ → Option End
over script ends None = None
over script ends (Some p) = ends p

-- the end of a made context is told; that of one which is not made is told by the one that it heeds
record AreEnds (script : Script) (front : List Entry) (s : State) : Type 0 where
  made : (y : ℕ) → is_some (context_at s y) ≡ true → end_at s y ≡ end_told script y front
  unmade : (y : ℕ) → is_some (context_at s y) ≡ false → end_told script y front ≡ over script (λ p. end_told script p front) (heeded script y)

over-first : (script : Script) (f k : ℕ → Option End) (o : Option ℕ) → over script (λ p. first_of (f p) (k p)) o ≡ first_of (over script f o) (over script k o)
over-first script f k None = refl
over-first script f k (Some p) = refl

over-same : (script : Script) (f k : ℕ → Option End) (o : Option ℕ) → ((p : ℕ) → f p ≡ k p) → over script f o ≡ over script k o
over-same script f k None same = refl
over-same script f k (Some p) same = same p

for-over : (script : Script) (x : ℕ) (end : End) (o : Option ℕ) → cond (reaches_some script x o) (Some end) None ≡ over script (λ p. end_for script p (Some (x, end))) o
for-over script x end None = refl
for-over script x end (Some p) = refl

-- an end of another context reaches one as it reaches the one that it heeds
for-other : (script : Script) (y : ℕ) (o : Option (ℕ × End)) → IsGood script → IfSome o (λ (e : ℕ × End). y ≢ e.0)
    → end_for script y o ≡ over script (λ p. end_for script p o) (heeded script y)
for-other script y None good other = elim (heeded script y) as (λ o. None ≡ over script (λ p. None) o) [ None ↦ refl | Some p ↦ refl ]
for-other script y (Some e) good other =
    ap (λ b. cond b (Some e.1) None) (reaches-other script e.0 y good other) ∙ for-over script e.0 e.1 (heeded script y)

-- a brought end, by what the entry makes of the contexts
abbrev IsMade : State → Option (ℕ × End) → Type 0
IsMade s o = IfSome o (λ (e : ℕ × End). is_some (context_at s e.0) ≡ true)

made-other : (s : State) (y : ℕ) (o : Option (ℕ × End)) → is_some (context_at s y) ≡ false → IsMade s o → IfSome o (λ (e : ℕ × End). y ≢ e.0)
made-other s y None unmade made = tt
made-other s y (Some e) unmade made = λ same. true≢false (sym made ∙ (ap (λ x. is_some (context_at s x)) (sym same) ∙ unmade))

-- what an entry does to the contexts of state was, which becomes s, in the words of the ends
record Brings (script : Script) (front : List Entry) (was s : State) (by : Option (ℕ × End)) : Type 0 where
  -- who brings an end was made
  maker : IsMade s by
  -- no context is lost
  stays : (y : ℕ) → is_some (context_at s y) ≡ false → is_some (context_at was y) ≡ false
  -- the end of each that is made is the first one
  ends : (y : ℕ) → is_some (context_at s y) ≡ true → end_at s y ≡ first_of (end_told script y front) (end_for script y by)

next-ends : (script : Script) (front : List Entry) (e : Entry) (was s : State) → IsGood script → AreEnds script front was → Brings script front was s (end_by script front e)
    → AreEnds script (front ++ e ∷ []) s
next-ends script front e was s good are brings = record {
  made = λ y made. brings.ends y made ∙ sym (end_told-on script y front e);
  unmade = λ y unmade.
      let by : Option (ℕ × End) = end_by script front e in
      end_told-on script y front e
      ∙ (ap (λ o. first_of o (end_for script y by)) (are.unmade y (brings.stays y unmade))
      ∙ (ap (first_of (over script (λ p. end_told script p front) (heeded script y))) (for-other script y by good (made-other s y by unmade brings.maker))
      ∙ (sym (over-first script (λ p. end_told script p front) (λ p. end_for script p by) (heeded script y))
      ∙ over-same script _ _ (heeded script y) (λ p. sym (end_told-on script p front e)))));
}

-- ---- a cut

cut-end : (b : Bool) (end : End) (o : Option Context) → is_some o ≡ true → end_of (cond b (option_map (ended_by end) o) o) ≡ first_of (end_of o) (cond b (Some end) None)
cut-end b end None made = cc
cut-end true end (Some r) made = elim r.end as (λ o. (elim o as (λ o. Option End) [ None ↦ Some end | Some first ↦ Some first ]) ≡ first_of o (Some end)) [ None ↦ refl | Some first ↦ refl ]
cut-end false end (Some r) made = sym (first-none r.end)

cut-some : (b : Bool) (end : End) (o : Option Context) → is_some (cond b (option_map (ended_by end) o) o) ≡ is_some o
cut-some true end None = refl
cut-some true end (Some r) = refl
cut-some false end o = refl

-- of context x, which was made
cuts : (script : Script) (front : List Entry) (x : ℕ) (end : End) (was s : State) → IsTree script was → AreEnds script front was
    → is_some (context_at was x) ≡ true → s.contexts ≡ cut_contexts script was x end → Brings script front was s (Some (x, end))
cuts script front x end was s tree are made is =
    let there : (y : ℕ) → context_at s y ≡ cond (is_reached script was x y) (option_map (ended_by end) (context_at was y)) (context_at was y) =
    λ y. ap (λ cs. at cs y) is ∙ at-cut script was x end y in
    let same : (y : ℕ) → is_some (context_at s y) ≡ is_some (context_at was y) =
    λ y. ap is_some (there y) ∙ cut-some (is_reached script was x y) end (context_at was y) in
    record {
      maker = same x ∙ made;
      stays = λ y none. sym (same y) ∙ none;
      ends = λ y is_made.
          let before : is_some (context_at was y) ≡ true = sym (same y) ∙ is_made in
          ap end_of (there y)
          ∙ (cut-end (is_reached script was x y) end (context_at was y) before
          ∙ (ap (λ b. first_of (end_at was y) (cond b (Some end) None)) (reached-reaches script was x y tree before)
          ∙ ap (λ o. first_of o (cond (reaches script x y) (Some end) None)) (are.made y before)));
    }

-- an entry that leaves the contexts as they are
leaves-all : (script : Script) (front : List Entry) (was s : State) → AreEnds script front was → s.contexts ≡ was.contexts → Brings script front was s None
leaves-all script front was s are is =
    let same : (y : ℕ) → context_at s y ≡ context_at was y = λ y. ap (λ cs. at cs y) is in
    record {
      maker = tt;
      stays = λ y none. sym (ap is_some (same y)) ∙ none;
      ends = λ y made. ap end_of (same y) ∙ (are.made y (sym (ap is_some (same y)) ∙ made) ∙ sym (first-none (end_told script y front)));
    }

-- ---- a context that is made

heeded-made : (script : Script) (s : State) (x : ℕ) → IfSome (parent_of script x) (λ p. is_some (context_at s p) ≡ true)
    → IfSome (heeded script x) (λ p. is_some (context_at s p) ≡ true)
heeded-made script s x parent =
    elim (is_endable script x) as (λ b. IfSome (cond b (parent_of script x) None) (λ p. is_some (context_at s p) ≡ true)) [ true ↦ parent | false ↦ tt ]

-- the end of a context that is not made yet is that of the one that it heeds
above-ends : (script : Script) (front : List Entry) (s : State) (x : ℕ) → AreEnds script front s → is_some (context_at s x) ≡ false
    → IfSome (parent_of script x) (λ p. is_some (context_at s p) ≡ true) → end_above script s x ≡ end_told script x front
above-ends script front s x are unmade parent =
    elim (heeded script x) as (λ o. IfSome o (λ p. is_some (context_at s p) ≡ true)
    → (elim o as (λ o. Option End) [ None ↦ None | Some p ↦ end_at s p ]) ≡ over script (λ p. end_told script p front) o) [
      | None ↦ λ h. refl
      | Some p ↦ λ h. are.made p h
    ] (heeded-made script s x parent)
    ∙ sym (are.unmade x unmade)

made-ended : (w : ℕ) (above : Option End) (own : Option ℕ) (expiry : End) (now : ℕ) → true ≡ is_some (made_below w above own expiry now).end
    → (made_below w above own expiry now).end ≡ first_of above (Some expiry)
made-ended w (Some end) own expiry now h = refl
made-ended w None None expiry now h = cc
made-ended w None (Some due) expiry now h =
    elim (nat_le due now) as (λ b. true ≡ is_some (cond b (Some expiry) None) → cond b (Some expiry) None ≡ Some expiry) [ true ↦ λ h. refl | false ↦ λ h. cc ] h

made-going : (w : ℕ) (above : Option End) (own : Option ℕ) (expiry : End) (now : ℕ) → false ≡ is_some (made_below w above own expiry now).end
    → (made_below w above own expiry now).end ≡ above
made-going w (Some end) own expiry now h = cc
made-going w None None expiry now h = refl
made-going w None (Some due) expiry now h =
    elim (nat_le due now) as (λ b. false ≡ is_some (cond b (Some expiry) None) → cond b (Some expiry) None ≡ None) [ true ↦ λ h. cc | false ↦ λ h. refl ] h

-- the end with which a context is made, and the one that its making brings
abbrev once : Script → ℕ → Bool → Option (ℕ × End)
once script x ended = cond ended (Some (x, expiry_end script x)) None

made-once : (script : Script) (front : List Entry) (was : State) (w x : ℕ) (ended : Bool) → AreEnds script front was → FitsDerived script was x
    → ended ≡ is_some (made_context script was w x).end → (made_context script was w x).end ≡ first_of (end_told script x front) (end_for script x (once script x ended))
made-once script front was w x true are fits is =
    made-ended w (end_above script was x) _ (expiry_end script x) _ is
    ∙ (ap (λ o. first_of o (Some (expiry_end script x))) (above-ends script front was x are fits.fresh fits.parent)
    ∙ ap (λ b. first_of (end_told script x front) (cond b (Some (expiry_end script x)) None)) (sym (reaches-itself script x)))
made-once script front was w x false are fits is =
    made-going w (end_above script was x) _ (expiry_end script x) _ is
    ∙ (above-ends script front was x are fits.fresh fits.parent ∙ sym (first-none (end_told script x front)))

-- it reaches none that was made
once-other : (script : Script) (s : State) (x y : ℕ) (ended : Bool) → IsTree script s → is_some (context_at s y) ≡ true → is_some (context_at s x) ≡ false
    → end_for script y (once script x ended) ≡ None
once-other script s x y true tree made unmade = ap (λ b. cond b (Some (expiry_end script x)) None) (reaches-made script s x y tree made unmade)
once-other script s x y false tree made unmade = refl

derives-one : (script : Script) (front : List Entry) (was s : State) (w x : ℕ) (ended : Bool) → IsTree script was → AreEnds script front was → FitsDerived script was x
    → ended ≡ is_some (made_context script was w x).end → s.contexts ≡ set was.contexts x (Some (made_context script was w x)) → Brings script front was s (once script x ended)
derives-one script front was s w x ended tree are fits is set_to =
    let new : Option Context = Some (made_context script was w x) in
    let here : context_at s x ≡ new = ap (λ cs. at cs x) set_to ∙ at-set_same was.contexts x new fits.within in
    let there : (y : ℕ) → y ≢ x → context_at s y ≡ context_at was y = λ y other. ap (λ cs. at cs y) set_to ∙ at-set_other was.contexts x y new other in
    record {
      maker = elim ended as (λ b. IsMade s (once script x b)) [ true ↦ ap is_some here | false ↦ tt ];
      stays = λ y none.
          elim (eqb y x) as (λ b. eqb y x ≡ b → is_some (context_at was y) ≡ false) [
            | true ↦ λ e. ap (λ y. is_some (context_at was y)) (eqb-true y x e) ∙ fits.fresh
            | false ↦ λ e. sym (ap is_some (there y (eqb-false y x e))) ∙ none
          ] refl;
      ends = λ y made.
          elim (eqb y x) as (λ b. eqb y x ≡ b → end_at s y ≡ first_of (end_told script y front) (end_for script y (once script x ended))) [
            | true ↦ λ e.
                subst (λ y. end_at s y ≡ first_of (end_told script y front) (end_for script y (once script x ended))) (sym (eqb-true y x e))
                (ap end_of here ∙ made-once script front was w x ended are fits is)
            | false ↦ λ e.
                let same : context_at s y ≡ context_at was y = there y (eqb-false y x e) in
                let before : is_some (context_at was y) ≡ true = sym (ap is_some same) ∙ made in
                ap end_of same
                ∙ (are.made y before
                ∙ (sym (first-none (end_told script y front)) ∙ ap (first_of (end_told script y front)) (sym (once-other script was x y ended tree before fits.fresh))))
          ] refl;
    }

-- ---- each entry

brings : (script : Script) (limits : Limits) (front : List Entry) (e : Entry) → AllLegal script limits (first_state script) front → Step script limits (reached script front) e
    → AreEnds script front (reached script front) → Brings script front (reached script front) (after script (reached script front) e) (end_by script front e)
brings script limits front (Entry.CtxMake g x true) before step are =
    derives-one script front (reached script front) _ (world_of (reached script front) g) x true step.tree are step.fits.tree step.legal.1.1 refl
brings script limits front (Entry.CtxMake g x false) before step are =
    derives-one script front (reached script front) _ (world_of (reached script front) g) x false step.tree are step.fits.tree step.legal.1.1 refl
brings script limits front (Entry.Cancel g x true starts) before step are =
    let s : State = reached script front in
    cuts script front x (cancel_end (named_by (stands_told script g front))) s _ step.tree are step.fits.tree.made
    (ap (λ (o : Option Instr). cut_contexts script s x (cancel_end (named_by o))) (stands-told script limits g front step.good before))
brings script limits front (Entry.Cancel g x false starts) before step are = leaves-all script front (reached script front) _ are refl
brings script limits front (Entry.Expire x starts) before step are =
    cuts script front x (expiry_end script x) (reached script front) _ step.tree are step.fits.tree.made refl
brings script limits front _ before step are = leaves-all script front (reached script front) _ are refl

none-ended : (script : Script) → AreEnds script [] (first_state script)
none-ended script = record {
  made = λ y made. absurd (true≢false (sym made ∙ none-at is_some script.decls y));
  unmade = λ y unmade. elim (heeded script y) as (λ o. None ≡ over script (λ p. None) o) [ None ↦ refl | Some p ↦ refl ];
}

are-ends : (script : Script) (limits : Limits) (h : List Entry) → IsGood script → AllLegal script limits (first_state script) h → AreEnds script h (reached script h)
are-ends script limits h good legal =
    each-front (λ front. AreEnds script front (reached script front)) script limits
    (λ front e before step are. subst (AreEnds script (front ++ e ∷ [])) (sym (state_after-append script (first_state script) front e))
    (next-ends script front e (reached script front) (after script (reached script front) e) good are (brings script limits front e before step are)))
    (none-ended script) h good legal

-- the end of a context that was made
pub end-told : (script : Script) (limits : Limits) (x : ℕ) (h : List Entry) → IsGood script → AllLegal script limits (first_state script) h
    → is_some (context_at (reached script h) x) ≡ true → end_at (reached script h) x ≡ end_told script x h
end-told script limits x h good legal made = (are-ends script limits h good legal).made x made

-- and of the one that a context heeds which is not made yet
pub above-told : (script : Script) (limits : Limits) (x : ℕ) (h : List Entry) → IsGood script → AllLegal script limits (first_state script) h
    → is_some (context_at (reached script h) x) ≡ false → IfSome (parent_of script x) (λ p. is_some (context_at (reached script h) p) ≡ true)
    → end_above script (reached script h) x ≡ end_told script x h
above-told script limits x h good legal unmade parent = above-ends script h (reached script h) x (are-ends script limits h good legal) unmade parent

-- whether a context has ended
pub ended-told : (script : Script) (limits : Limits) (x : ℕ) (h : List Entry) → IsGood script → AllLegal script limits (first_state script) h
    → has_ended (reached script h) x ≡ (derived_told x h && ended_told script x h)
ended-told script limits x h good legal =
    elim (is_some (context_at (reached script h) x)) as (λ b. is_some (context_at (reached script h) x) ≡ b → has_ended (reached script h) x ≡ (b && ended_told script x h)) [
      | true ↦ λ made. ap is_some (end-told script limits x h good legal made)
      | false ↦ λ unmade. no-end (context_at (reached script h) x) unmade
    ] refl
    ∙ ap (λ b. b && ended_told script x h) (derived-told script limits x h good legal)
  where
    no-end : (o : Option Context) → is_some o ≡ false → is_some (end_of o) ≡ false
    no-end None unmade = refl
    no-end (Some r) unmade = cc

-- ---- the own deadlines

abbrev pub own_in : Option Context → Option ℕ
own_in None = None
own_in (Some r) = r.own

owns_from-on : (script : Script) (front : List Entry) (owns : List (Option ℕ)) (h : List Entry) (e : Entry)
    → owns_from script front owns (h ++ e ∷ []) ≡ owns_by script (front ++ h) (owns_from script front owns h) e
owns_from-on script front owns [] e = ap (λ fs. owns_by script fs owns e) (sym (append-nil front))
owns_from-on script front owns (d ∷ h) e =
    owns_from-on script (front ++ d ∷ []) (owns_by script front owns d) h e
    ∙ ap (λ fs. owns_by script fs (owns_from script (front ++ d ∷ []) (owns_by script front owns d) h) e) (append_assoc front (d ∷ []) h)

made-own : (w : ℕ) (above : Option End) (own : Option ℕ) (expiry : End) (now : ℕ) → (made_below w above own expiry now).own ≡ cond (is_some above) None own
made-own w (Some end) own expiry now = refl
made-own w None own expiry now = refl

own-of : (o : Option Context) → (elim o as (λ o. Option ℕ) [ None ↦ None | Some r ↦ r.own ]) ≡ own_in o
own-of None = refl
own-of (Some r) = refl

at-own : (contexts : List (Option Context)) (x : ℕ) → own_in (at contexts x) ≡ at (map own_in contexts) x
at-own [] x = refl
at-own (o ∷ contexts) zero = refl
at-own (o ∷ contexts) (suc x) = at-own contexts x

shown-own : (s : State) (x : ℕ) → own_at s x ≡ at (map own_in s.contexts) x
shown-own s x = own-of (context_at s x) ∙ at-own s.contexts x

first-time : (s : State) (xs : List ℕ) → first_own s xs ≡ first_time (map own_in s.contexts) xs
first-time s [] = refl
first-time s (x ∷ xs) =
    ap (λ (o : Option ℕ). elim o as (λ o. Option ℕ) [ None ↦ first_own s xs | Some due ↦ Some due ]) (shown-own s x)
    ∙ ap (λ (time : Option ℕ). elim (at (map own_in s.contexts) x) as (λ o. Option ℕ) [ None ↦ time | Some due ↦ Some due ]) (first-time s xs)

parent-time : (script : Script) (s : State) (o : Option ℕ) → (elim o as (λ o. Option ℕ) [ None ↦ None | Some p ↦ deadline_of script s p ]) ≡ parent_time script (map own_in s.contexts) o
parent-time script s None = refl
parent-time script s (Some p) = first-time s (above (heeded script) p)

-- that of a context that is made
own-given : (script : Script) (limits : Limits) (front : List Entry) (g x : ℕ) → IsGood script → AllLegal script limits (first_state script) front
    → is_some (context_at (reached script front) x) ≡ false → IfSome (parent_of script x) (λ p. is_some (context_at (reached script front) p) ≡ true)
    → (made_context script (reached script front) (world_of (reached script front) g) x).own ≡ own_given script front (map own_in (reached script front).contexts) g x
own-given script limits front g x good before unmade parent =
    let s : State = reached script front in
    made-own (world_of s g) (end_above script s x) (own_by (form_of script x) (clock s (world_of s g)) (deadline_above script s x)) (expiry_end script x) (clock s (world_of s g))
    ∙ (ap (λ o. cond (is_some o) None (own_by (form_of script x) (clock s (world_of s g)) (deadline_above script s x))) (above-told script limits x front good before unmade parent)
    ∙ (ap (λ time. cond (ended_told script x front) None (own_by (form_of script x) time (deadline_above script s x))) (now-told script limits g front good before)
    ∙ ap (λ o. cond (ended_told script x front) None (own_by (form_of script x) (now_told script g front) o)) (parent-time script s (heeded script x))))

owns-one : (script : Script) (limits : Limits) (front : List Entry) (e : Entry) → AllLegal script limits (first_state script) front → Step script limits (reached script front) e
    → map own_in (after script (reached script front) e).contexts ≡ owns_by script front (map own_in (reached script front).contexts) e
owns-one script limits front (Entry.CtxMake g x ended) before step =
    let s : State = reached script front in
    map-set own_in s.contexts x (Some (made_context script s (world_of s g) x))
    ∙ ap (λ own. set (map own_in s.contexts) x own) (own-given script limits front g x step.good before step.fits.tree.fresh step.fits.tree.parent)
owns-one script limits front (Entry.Cancel g x true starts) before step = cut-unseen own_in (λ end r. refl) script (reached script front) x 0 _ (reached script front).contexts
owns-one script limits front (Entry.Cancel g x false starts) before step = refl
owns-one script limits front (Entry.Expire x starts) before step = cut-unseen own_in (λ end r. refl) script (reached script front) x 0 _ (reached script front).contexts
owns-one script limits front _ before step = refl

pub owns-told : (script : Script) (limits : Limits) (h : List Entry) → IsGood script → AllLegal script limits (first_state script) h
    → map own_in (reached script h).contexts ≡ owns_told script h
owns-told script limits h good legal =
    each-front (λ front. map own_in (reached script front).contexts ≡ owns_told script front) script limits
    (λ front e before step is.
    ap (λ (s : State). map own_in s.contexts) (state_after-append script (first_state script) front e)
    ∙ (owns-one script limits front e before step
    ∙ (ap (λ owns. owns_by script front owns e) is ∙ sym (owns_from-on script [] (map (λ (d : Decl). None) script.decls) front e))))
    (none-map own_in script.decls refl) h good legal

pub own-told : (script : Script) (limits : Limits) (x : ℕ) (h : List Entry) → IsGood script → AllLegal script limits (first_state script) h
    → own_at (reached script h) x ≡ own_told script x h
own-told script limits x h good legal = shown-own (reached script h) x ∙ ap (λ owns. at owns x) (owns-told script limits h good legal)

-- ---- whether a context that is made ends at once

due-once : (w : ℕ) (above : Option End) (own : Option ℕ) (expiry : End) (now : ℕ)
    → is_some (made_below w above own expiry now).end ≡ (is_some above || is_due (made_below w above own expiry now).own now)
due-once w (Some end) own expiry now = refl
due-once w None None expiry now = refl
due-once w None (Some due) expiry now = elim (nat_le due now) as (λ b. is_some (cond b (Some expiry) None) ≡ b) [ true ↦ refl | false ↦ refl ]

-- whether a context has come to its own deadline
pub own_due-told : (script : Script) (limits : Limits) (x : ℕ) (h : List Entry) → IsGood script → AllLegal script limits (first_state script) h
    → is_due (own_at (reached script h) x) (clock (reached script h) (elim (context_at (reached script h) x) as (λ o. ℕ) [ None ↦ 0 | Some r ↦ r.world ])) ≡ own_is_due script x h
own_due-told script limits x h good legal =
    let s : State = reached script h in
    ap (λ (o : Option ℕ). is_due o (clock s (elim (context_at s x) as (λ o. ℕ) [ None ↦ 0 | Some r ↦ r.world ]))) (own-told script limits x h good legal)
    ∙ (ap (λ w. is_due (own_told script x h) (clock s w)) (ctx_world-told script limits x h good legal)
    ∙ ap (λ time. is_due (own_told script x h) time) (clock-told script limits (ctx_world_told script x h) h good legal))

pub once-told : (script : Script) (limits : Limits) (front : List Entry) (g x : ℕ) → IsGood script → AllLegal script limits (first_state script) front
    → is_some (context_at (reached script front) x) ≡ false → IfSome (parent_of script x) (λ p. is_some (context_at (reached script front) p) ≡ true)
    → is_some (made_context script (reached script front) (world_of (reached script front) g) x).end ≡ ends_at_once script g x front
once-told script limits front g x good before unmade parent =
    let s : State = reached script front in
    due-once (world_of s g) (end_above script s x) (own_by (form_of script x) (clock s (world_of s g)) (deadline_above script s x)) (expiry_end script x) (clock s (world_of s g))
    ∙ (ap (λ o. is_some o || is_due (made_context script s (world_of s g) x).own (clock s (world_of s g))) (above-told script limits x front good before unmade parent)
    ∙ (ap (λ own. ended_told script x front || is_due own (clock s (world_of s g)))
    (own-given script limits front g x good before unmade parent ∙ ap (λ owns. own_given script front owns g x) (owns-told script limits front good before))
    ∙ ap (λ now. ended_told script x front || is_due (own_given script front (owns_told script front) g x) now) (now-told script limits g front good before)))
