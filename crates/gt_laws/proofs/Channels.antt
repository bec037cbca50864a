-- Of a channel the entries of a history tell whether it was made, whether it was closed, and what it keeps: those of the sent values that were not yet received.
use Rattle.std.proofs.Common.{◌≡◌, ℕ, zero, suc, ◌+◌, ◌-◌, ◌<◌, ◌≤◌, ◌==◌, List, [], ◌∷◌, ◌++◌, length, map, drop, slice_get, refl, sym, ap, subst, ◌∙◌, arith, if◌then◌else◌, Option, None, Some, Bool, true, false, is_some, IfSome}
use Rattle.std.proofs.lemmas.List.{length-append, length-drop, drop-append-le}
use Rattle.gt_model.specs.declared.script.Script.{Script}
use Rattle.gt_model.specs.declared.script.Decl.{Decl}
use Rattle.gt_model.specs.declared.entry.Entry.{Entry}
use Rattle.gt_model.specs.declared.entry.Limits.{Limits}
use Rattle.gt_model.specs.Good.{IsGood}
use Rattle.gt_model.specs.Tables.{at, change}
use Rattle.gt_model.proofs.Items.{at-change_other}
use Rattle.gt_rules.specs.State.{State, Channel, channel_at, item_count, is_closed, world_of}
use Rattle.gt_rules.specs.declared.change.Move.{Move}
use Rattle.gt_rules.specs.declared.change.Trade.{Trade}
use Rattle.gt_rules.specs.Change.{change_of}
use Rattle.gt_rules.specs.After.{after, first_state, number_of, traded, with_traded, with_items, shut}
use Rattle.gt_rules.specs.History.{AllLegal, state_after}
use Rattle.gt_facts.specs.Formed.{IsFormed}
use Rattle.gt_facts.proofs.Formed.{at-change_within, formed-first, formed-Legal}
use Rattle.gt_facts.proofs.Fits.{FitsChannel, fits-Legal}
use Rattle.gt_facts.proofs.Makers.{HasTrade}
use Rattle.gt_laws.specs.Told.{told, sends, sent_by, sent_told, takes, taken_by, taken_told, opens, opened_by, opened_told, shuts, closed_by, closed_told}
use Rattle.gt_laws.proofs.Numbers.{by-number}
use Rattle.gt_laws.proofs.Shown.{shown-told}

-- ---- one channel, in a state

abbrev pub items_in : Option Channel → List ℕ
items_in o = elim o [ None ↦ [] | Some r ↦ r.items ]

abbrev pub closed_in : Option Channel → Bool
closed_in o = elim o [ None ↦ false | Some r ↦ r.closed ]

-- what holds of channel k after a trade of channel c, if it holds of channel c after the trade and of another as it was
traded-holds : (script : Script) (s : State) (w c k : ℕ) (x : Trade) (P : Bool → Option Channel → Type 0) → FitsChannel script s c x
    → (c ≡ k → P true (traded w x (channel_at s k))) → P false (channel_at s k) → P (c == k) (at (change s.channels c (traded w x)) k)
traded-holds script s w c k x P fits here there = by-number c k (λ b. P b (at (change s.channels c (traded w x)) k))
    (λ same.
    subst (λ j. P true (traded w x (channel_at s j)) → P true (at (change s.channels c (traded w x)) j)) same
    (λ h. subst (P true) (sym (at-change_within s.channels c (traded w x) fits.within)) h) (here same))
    (λ other. subst (P false) (sym (at-change_other s.channels c k (traded w x) other)) there)

-- a channel that fits a trade, by its other name
has-same : (script : Script) (s : State) (c k : ℕ) (x : Trade) → FitsChannel script s c x → c ≡ k → HasTrade script s k x
has-same script s c k x fits same = subst (λ j. HasTrade script s j x) same fits.has

-- ---- whether it was made, and closed

opened-traded : (w : ℕ) (x : Trade) (o : Option Channel) → is_some (traded w x o) ≡ opens x (is_some o)
opened-traded w Trade.Opened o = refl
opened-traded w (Trade.Puts v) None = refl
opened-traded w (Trade.Puts v) (Some r) = refl
opened-traded w Trade.Takes None = refl
opened-traded w Trade.Takes (Some r) = refl
opened-traded w Trade.Shut None = refl
opened-traded w Trade.Shut (Some r) = refl

says-opened : (script : Script) (s : State) (m : Option (ℕ × Move)) (k : ℕ) (o : Option (ℕ × Trade)) → IfSome o (λ (x : ℕ × Trade). FitsChannel script s x.0 x.1)
    → is_some (at (with_traded s m s.channels o) k)
    ≡ (elim o as (λ o. Bool) [ None ↦ is_some (channel_at s k) | Some x ↦ if x.0 == k then opens x.1 (is_some (channel_at s k)) else is_some (channel_at s k) ])
says-opened script s m k None fits = refl
says-opened script s m k (Some x) fits =
    traded-holds script s (world_of s (number_of m)) x.0 k x.1 (λ b o. is_some o ≡ (if b then opens x.1 (is_some (channel_at s k)) else is_some (channel_at s k))) fits
    (λ same. opened-traded (world_of s (number_of m)) x.1 (channel_at s k)) refl

none-closed : (o : Option Channel) → is_some o ≡ false → false ≡ closed_in o
none-closed None h = refl
none-closed (Some r) h = cc

some-shut : (o : Option Channel) → is_some o ≡ true → closed_in (shut o) ≡ true
some-shut None h = cc
some-shut (Some r) h = refl

kept-closed : (f : List ℕ → List ℕ) (o : Option Channel) → closed_in (with_items f o) ≡ closed_in o
kept-closed f None = refl
kept-closed f (Some r) = refl

closed-traded : (script : Script) (s : State) (w k : ℕ) (x : Trade) → HasTrade script s k x → closed_in (traded w x (channel_at s k)) ≡ shuts x (is_closed s k)
closed-traded script s w k Trade.Opened has = none-closed (channel_at s k) has
closed-traded script s w k (Trade.Puts v) has = kept-closed _ (channel_at s k)
closed-traded script s w k Trade.Takes has = kept-closed _ (channel_at s k)
closed-traded script s w k Trade.Shut has = some-shut (channel_at s k) has.0

says-closed : (script : Script) (s : State) (m : Option (ℕ × Move)) (k : ℕ) (o : Option (ℕ × Trade)) → IfSome o (λ (x : ℕ × Trade). FitsChannel script s x.0 x.1)
    → closed_in (at (with_traded s m s.channels o) k)
    ≡ (elim o as (λ o. Bool) [ None ↦ is_closed s k | Some x ↦ if x.0 == k then shuts x.1 (is_closed s k) else is_closed s k ])
says-closed script s m k None fits = refl
says-closed script s m k (Some x) fits =
    traded-holds script s (world_of s (number_of m)) x.0 k x.1 (λ b o. closed_in o ≡ (if b then shuts x.1 (is_closed s k) else is_closed s k)) fits
    (λ same. closed-traded script s (world_of s (number_of m)) k x.1 (has-same script s x.0 k x.1 fits same)) refl

none-opened : {V : Type 0} (show : Option Channel → V) (decls : List Decl) (k : ℕ) → show (at (map (λ (d : Decl). None) decls) k) ≡ show None
none-opened show [] k = refl
none-opened show (d ∷ ds) zero = refl
none-opened show (d ∷ ds) (suc k) = none-opened show ds k

pub opened-told : (script : Script) (limits : Limits) (k : ℕ) (h : List Entry) → IsGood script → AllLegal script limits (first_state script) h
    → is_some (channel_at (state_after script (first_state script) h) k) ≡ opened_told k h
opened-told script limits k = shown-told script limits (λ (s : State). is_some (channel_at s k)) (opened_by k) false
    (λ s e step. says-opened script s (change_of e).mover k (change_of e).channel step.fits.channel) (none-opened is_some script.decls k)

pub closed-told : (script : Script) (limits : Limits) (k : ℕ) (h : List Entry) → IsGood script → AllLegal script limits (first_state script) h
    → is_closed (state_after script (first_state script) h) k ≡ closed_told k h
closed-told script limits k = shown-told script limits (λ (s : State). is_closed s k) (closed_by k) false
    (λ s e step. says-closed script s (change_of e).mover k (change_of e).channel step.fits.channel) (none-opened closed_in script.decls k)

-- ---- what it keeps

-- of the values that were sent to a channel it keeps all but so many; nothing was sent to one that is not made
pub record HasKept (o : Option Channel) (sent : List ℕ) (taken : ℕ) : Type 0 where
  pub few : taken ≤ length sent
  pub items : items_in o ≡ drop taken sent
  pub before : is_some o ≡ false → sent ≡ []

drop-none : (n : ℕ) → drop {A = ℕ} n [] ≡ []
drop-none zero = refl
drop-none (suc n) = refl

pub drop-next : {X : Type 0} (xs : List X) (n : ℕ) → drop 1 (drop n xs) ≡ drop (suc n) xs
drop-next xs zero = refl
drop-next [] (suc n) = refl
drop-next (x ∷ xs) (suc n) = drop-next xs n

pub drop-first : {X : Type 0} (xs : List X) (n : ℕ) → slice_get (drop n xs) 0 ≡ slice_get xs n
drop-first xs zero = refl
drop-first [] (suc n) = refl
drop-first (x ∷ xs) (suc n) = drop-first xs n

with-items : (f : List ℕ → List ℕ) (o : Option Channel) → is_some o ≡ true → items_in (with_items f o) ≡ f (items_in o)
with-items f None h = cc
with-items f (Some r) h = refl

shut-items : (o : Option Channel) → items_in (shut o) ≡ items_in o
shut-items None = refl
shut-items (Some r) = refl

-- a channel that was made stays so
still-made : (w : ℕ) (x : Trade) (o : Option Channel) (sent : List ℕ) → is_some o ≡ true → is_some (traded w x o) ≡ false → sent ≡ []
still-made w Trade.Opened o sent made h = cc
still-made w (Trade.Puts v) None sent made h = cc
still-made w (Trade.Puts v) (Some r) sent made h = cc
still-made w Trade.Takes None sent made h = cc
still-made w Trade.Takes (Some r) sent made h = cc
still-made w Trade.Shut None sent made h = cc
still-made w Trade.Shut (Some r) sent made h = cc

kept-traded : (script : Script) (s : State) (w k : ℕ) (x : Trade) (sent : List ℕ) (taken : ℕ) → HasTrade script s k x → HasKept (channel_at s k) sent taken
    → HasKept (traded w x (channel_at s k)) (sends x sent) (takes x taken)
kept-traded script s w k Trade.Opened sent taken has kept = record {
  few = kept.few;
  items = sym (ap (λ (vs : List ℕ). drop taken vs) (kept.before has) ∙ drop-none taken);
  before = λ h. cc;
}
kept-traded script s w k (Trade.Puts v) sent taken has kept = record {
  few =
      let few : taken ≤ length sent = kept.few in
      let more : length (sent ++ v ∷ []) ≡ length sent + 1 = length-append sent (v ∷ []) in
      omega arith;
  items = with-items _ (channel_at s k) has.0 ∙ (ap (λ (vs : List ℕ). vs ++ v ∷ []) kept.items ∙ sym (drop-append-le taken sent (v ∷ []) kept.few));
  before = still-made w (Trade.Puts v) (channel_at s k) _ has.0;
}
kept-traded script s w k Trade.Takes sent taken has kept = record {
  few =
      let some : 0 < item_count s k = has.1 in
      let count : item_count s k ≡ length sent - taken = ap (λ (vs : List ℕ). length vs) kept.items ∙ length-drop taken sent in
      omega arith;
  items = with-items _ (channel_at s k) has.0 ∙ (ap (drop 1) kept.items ∙ (drop-next sent taken ∙ ap (λ n. drop n sent) (next taken)));
  before = still-made w Trade.Takes (channel_at s k) sent has.0;
}
  where
    next : (n : ℕ) → suc n ≡ n + 1
    next n = omega arith
kept-traded script s w k Trade.Shut sent taken has kept = record {
  few = kept.few;
  items = shut-items (channel_at s k) ∙ kept.items;
  before = still-made w Trade.Shut (channel_at s k) sent has.0;
}

kept-after : (script : Script) (s : State) (m : Option (ℕ × Move)) (k : ℕ) (o : Option (ℕ × Trade)) (sent : List ℕ) (taken : ℕ)
    → IfSome o (λ (x : ℕ × Trade). FitsChannel script s x.0 x.1) → HasKept (channel_at s k) sent taken
    → HasKept (at (with_traded s m s.channels o) k)
    (elim o as (λ o. List ℕ) [ None ↦ sent | Some x ↦ if x.0 == k then sends x.1 sent else sent ])
    (elim o as (λ o. ℕ) [ None ↦ taken | Some x ↦ if x.0 == k then takes x.1 taken else taken ])
kept-after script s m k None sent taken fits kept = kept
kept-after script s m k (Some x) sent taken fits kept =
    traded-holds script s (world_of s (number_of m)) x.0 k x.1 (λ b o. HasKept o (if b then sends x.1 sent else sent) (if b then takes x.1 taken else taken)) fits
    (λ same. kept-traded script s (world_of s (number_of m)) k x.1 sent taken (has-same script s x.0 k x.1 fits same) kept) kept

kept-from : (script : Script) (limits : Limits) (k : ℕ) (s : State) (sent : List ℕ) (taken : ℕ) (h : List Entry) → IsGood script → IsFormed script s → AllLegal script limits s h
    → HasKept (channel_at s k) sent taken → HasKept (channel_at (state_after script s h) k) (told (sent_by k) sent h) (told (taken_by k) taken h)
kept-from script limits k s sent taken [] good formed legal kept = kept
kept-from script limits k s sent taken (e ∷ h) good formed legal kept =
    kept-from script limits k (after script s e) (sent_by k sent (change_of e)) (taken_by k taken (change_of e)) h good (formed-Legal script limits s e good formed legal.0) legal.1
    (kept-after script s (change_of e).mover k (change_of e).channel sent taken (fits-Legal script limits s e good formed legal.0).channel kept)

pub kept-told : (script : Script) (limits : Limits) (k : ℕ) (h : List Entry) → IsGood script → AllLegal script limits (first_state script) h
    → HasKept (channel_at (state_after script (first_state script) h) k) (sent_told k h) (taken_told k h)
kept-told script limits k h good legal =
    kept-from script limits k (first_state script) [] 0 h good (formed-first script good) legal
    (record { few = omega arith; items = none-opened items_in script.decls k; before = λ e. refl })

-- how many those are
pub count-told : (script : Script) (limits : Limits) (k : ℕ) (h : List Entry) → IsGood script → AllLegal script limits (first_state script) h
    → item_count (state_after script (first_state script) h) k + taken_told k h ≡ length (sent_told k h)
count-told script limits k h good legal =
    let kept : HasKept (channel_at (state_after script (first_state script) h) k) (sent_told k h) (taken_told k h) = kept-told script limits k h good legal in
    let few : taken_told k h ≤ length (sent_told k h) = kept.few in
    let count : item_count (state_after script (first_state script) h) k ≡ length (sent_told k h) - taken_told k h =
    ap (λ (vs : List ℕ). length vs) kept.items ∙ length-drop (taken_told k h) (sent_told k h) in
    omega arith
