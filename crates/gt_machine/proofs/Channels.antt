-- Channels: what becomes of one where it stands is what becomes of it in the state, and its capacity stays.
use Rattle.std.proofs.Common.{◌≡◌, ◌<◌, ℕ, zero, suc, Bool, true, false, List, [], ◌∷◌, map, length, refl, sym, ◌∙◌, ap, subst, set, slice_get, Option, None, Some, is_some, IsSome, IsSomeAnd, IfSome, get_or, arith}
use Rattle.std.specs.Option.{option_map}
use Rattle.std.proofs.lemmas.List.{map-set, length-map}
use Rattle.std.proofs.lemmas.Option.{slice_get-map, slice_get_within, slice_get_read}
use Rattle.gt_model.specs.declared.script.Script.{Script}
use Rattle.gt_model.specs.declared.script.Decl.{Decl}
use Rattle.gt_model.specs.declared.script.What.{What}
use Rattle.gt_model.specs.Tables.{change, flatten}
use Rattle.gt_model.specs.Script.{capacity_of}
use Rattle.gt_model.proofs.Tables.{change-set}
use Rattle.gt_rules.specs.State.{Channel, channel_at, item_count, is_closed}
use Rattle.gt_rules.specs.declared.change.Trade.{Trade}
use Rattle.gt_rules.specs.Change.{change_of}
use Rattle.gt_rules.specs.Legal.{May}
use Rattle.gt_model.specs.declared.entry.Entry.{Entry}
use Rattle.gt_model.specs.Good.{IsGood}
use Rattle.gt_facts.specs.Formed.{IsFormed}
use Rattle.gt_facts.proofs.Makers.{HasTrade}
use Rattle.gt_facts.proofs.Fits.{FitsChannel, fits-May}
use Rattle.gt_chan.specs.Channel as chan
use Rattle.gt_machine.specs.declared.machine.Machine.{Machine}
use Rattle.gt_machine.specs.Machine.{state_of, channel_by, channel_of, capacity_in, capacities, HasChannels, MayTrade, IsTradable}

-- ---- a channel that is changed where it stands

-- a write at a place is a change there
pub traded-set : (chs : List chan.Channel) (c : ℕ) (f : Option Channel → Option Channel) (was new : chan.Channel)
    → slice_get chs c ≡ Some was → channel_of new ≡ f (channel_of was) → map channel_of (set chs c new) ≡ change (map channel_of chs) c f
traded-set chs c f was new e is =
    let read : slice_get (map channel_of chs) c ≡ Some (channel_of was) = slice_get-map channel_of chs c ∙ ap (option_map channel_of) e in
    map-set channel_of chs c new ∙ (ap (λ x. set (map channel_of chs) c x) is ∙ sym (change-set (map channel_of chs) c f (channel_of was) read))

-- and where it keeps the capacity that was there, all capacities stay
pub capacities-set : (chs : List chan.Channel) (c : ℕ) (was new : chan.Channel) → slice_get chs c ≡ Some was → new.capacity ≡ was.capacity → capacities (set chs c new) ≡ capacities chs
capacities-set [] c was new e same = refl
capacities-set (x ∷ xs) zero was new e same = let is : x ≡ was = cc in ap (λ n. n ∷ capacities xs) (same ∙ ap (λ (ch : chan.Channel). ch.capacity) (sym is))
capacities-set (x ∷ xs) (suc i) was new e same = ap (λ ns. x.capacity ∷ ns) (capacities-set xs i was new e same)

-- one that may be changed is there, and is what is read
tradable_within : (chs : List chan.Channel) (c : ℕ) (how : Trade) → IsTradable chs c how → c < length chs
tradable_within chs c how h =
    elim (slice_get chs c) as (λ o. slice_get chs c ≡ o → IsSomeAnd o (MayTrade how) → c < length chs) [
      | None ↦ λ e h. absurd h
      | Some ch ↦ λ e h. slice_get_within chs c ch e
    ] refl h

pub tradable-read : (chs : List chan.Channel) (c : ℕ) (how : Trade) (ch : chan.Channel) → IsTradable chs c how → ch ≡ get_or chs c ch → slice_get chs c ≡ Some ch
tradable-read chs c how ch h read = slice_get_read chs (length chs) c ch refl (tradable_within chs c how h) read

-- ---- the first channels

pub channels_unmade : (ds : List Decl) → map channel_of (map (λ (d : Decl). chan.unmade (capacity_in d.what) 0) ds) ≡ map (λ (d : Decl). None) ds
channels_unmade [] = refl
channels_unmade (d ∷ ds) = ap (λ chs. None ∷ chs) (channels_unmade ds)

pub capacities_unmade : (ds : List Decl) → capacities (map (λ (d : Decl). chan.unmade (capacity_in d.what) 0) ds) ≡ map (λ (d : Decl). capacity_in d.what) ds
capacities_unmade [] = refl
capacities_unmade (d ∷ ds) = ap (λ ns. capacity_in d.what ∷ ns) (capacities_unmade ds)

-- ---- the capacity of a channel is that of its declaration

-- what leaves the capacities leaves this so
pub channels-kept : (script : Script) (m n : Machine) → capacities n.channels.items ≡ capacities m.channels.items → HasChannels script m → HasChannels script n
channels-kept script m n same kept = record { declared = same ∙ kept.declared }

capacity_declared : (what : What) → capacity_in what ≡ elim what [ What.Chan cap ↦ cap | _ ↦ 0 ]
capacity_declared What.Timer = refl
capacity_declared What.Ticker = refl
capacity_declared What.Mutex = refl
capacity_declared What.Wg = refl
capacity_declared (What.Cond mutex) = refl
capacity_declared (What.AfterFunc func) = refl
capacity_declared (What.Chan cap) = refl
capacity_declared (What.Ctx parent form) = refl
capacity_declared (What.Hook ctx func) = refl
capacity_declared What.Error = refl
capacity_declared What.Function = refl

pub capacity-of : (script : Script) (m : Machine) (c : ℕ) (ch : chan.Channel) → HasChannels script m → slice_get m.channels.items c ≡ Some ch → capacity_of script c ≡ ch.capacity
capacity-of script m c ch kept e =
    let read : slice_get (capacities m.channels.items) c ≡ Some ch.capacity =
    slice_get-map (λ (ch : chan.Channel). ch.capacity) m.channels.items c ∙ ap (option_map (λ (ch : chan.Channel). ch.capacity)) e in
    let declared : option_map (λ (d : Decl). capacity_in d.what) (slice_get script.decls c) ≡ Some ch.capacity =
    sym (slice_get-map (λ (d : Decl). capacity_in d.what) script.decls c) ∙ (ap (λ ns. slice_get ns c) (sym kept.declared) ∙ read) in
    by_declaration (slice_get script.decls c) ch.capacity declared
  where
    by_declaration : (d : Option Decl) (n : ℕ) → option_map (λ (d : Decl). capacity_in d.what) d ≡ Some n
        → elim (option_map (λ (d : Decl). d.what) d) as (λ (o : Option What). ℕ) [ None ↦ 0 | Some what ↦ elim what as (λ w. ℕ) [ What.Chan cap ↦ cap | _ ↦ 0 ] ] ≡ n
    by_declaration None n e = cc
    by_declaration (Some d) n e = let same : capacity_in d.what ≡ n = cc in sym (capacity_declared d.what) ∙ same

-- ---- the channel of an entry

none_past : {X : Type 0} (xs : List X) (i : ℕ) → slice_get xs i ≡ None → i < length xs → ⊥
none_past [] i none within = omega arith
none_past (x ∷ xs) zero none within = cc
none_past (x ∷ xs) (suc i) none within = none_past xs i none (omega arith)

-- what the state tells of a channel that was made, or was not, is so of the machine's
unmade_world : (w : Option ℕ) (items : List ℕ) (closed : Bool) → is_some (channel_by w items closed) ≡ false → w ≡ None
unmade_world None items closed h = refl
unmade_world (Some world) items closed h = cc

made_world : (w : Option ℕ) (items : List ℕ) (closed : Bool) → is_some (channel_by w items closed) ≡ true → IsSome w
made_world None items closed h = cc
made_world (Some world) items closed h = refl

made_closed : (w : Option ℕ) (items : List ℕ) (closed : Bool) → is_some (channel_by w items closed) ≡ true
    → elim (channel_by w items closed) as (λ (o : Option Channel). Bool) [ None ↦ false | Some r ↦ r.closed ] ≡ closed
made_closed None items closed h = cc
made_closed (Some world) items closed h = refl

made_items : (w : Option ℕ) (items : List ℕ) (closed : Bool) → is_some (channel_by w items closed) ≡ true
    → elim (channel_by w items closed) as (λ (o : Option Channel). List ℕ) [ None ↦ [] | Some r ↦ r.items ] ≡ items
made_items None items closed h = cc
made_items (Some world) items closed h = refl

-- a machine's channel, and what the state has in its place
record AreSame (m : Machine) (c : ℕ) (ch : chan.Channel) : Type 0 where
  pub there : slice_get m.channels.items c ≡ Some ch
  pub is : channel_at (state_of m) c ≡ channel_of ch

same_channel : (m : Machine) (c : ℕ) (ch : chan.Channel) → slice_get m.channels.items c ≡ Some ch → AreSame m c ch
same_channel m c ch e = record { there = e; is = ap flatten (slice_get-map channel_of m.channels.items c ∙ ap (option_map channel_of) e) }

same-made : (m : Machine) (c : ℕ) (ch : chan.Channel) → AreSame m c ch → is_some (channel_at (state_of m) c) ≡ true → is_some (channel_of ch) ≡ true
same-made m c ch same made = sym (ap is_some same.is) ∙ made

same-closed : (m : Machine) (c : ℕ) (ch : chan.Channel) → AreSame m c ch → is_some (channel_at (state_of m) c) ≡ true → is_closed (state_of m) c ≡ ch.closed
same-closed m c ch same made =
    ap (λ (o : Option Channel). elim o as (λ x. Bool) [ None ↦ false | Some r ↦ r.closed ]) same.is ∙ made_closed ch.world ch.items ch.closed (same-made m c ch same made)

same-count : (m : Machine) (c : ℕ) (ch : chan.Channel) → AreSame m c ch → is_some (channel_at (state_of m) c) ≡ true → item_count (state_of m) c ≡ length ch.items
same-count m c ch same made =
    ap (λ (o : Option Channel). length (elim o as (λ x. List ℕ) [ None ↦ [] | Some r ↦ r.items ])) same.is
    ∙ ap length (made_items ch.world ch.items ch.closed (same-made m c ch same made))

-- what fits the state fits the machine's channel
trade_here : (script : Script) (m : Machine) (c : ℕ) (ch : chan.Channel) (how : Trade) → HasChannels script m → AreSame m c ch → HasTrade script (state_of m) c how → MayTrade how ch
trade_here script m c ch Trade.Opened kept same h = unmade_world ch.world ch.items ch.closed (sym (ap is_some same.is) ∙ h)
trade_here script m c ch (Trade.Puts v) kept same h =
    let few : item_count (state_of m) c < capacity_of script c = h.2 in
    let count : item_count (state_of m) c ≡ length ch.items = same-count m c ch same h.0 in
    let most : capacity_of script c ≡ ch.capacity = capacity-of script m c ch kept same.there in
    (made_world ch.world ch.items ch.closed (same-made m c ch same h.0), sym (same-closed m c ch same h.0) ∙ h.1, omega arith)
trade_here script m c ch Trade.Takes kept same h = made_world ch.world ch.items ch.closed (same-made m c ch same h.0)
trade_here script m c ch Trade.Shut kept same h = made_world ch.world ch.items ch.closed (same-made m c ch same h.0)

tradable : (script : Script) (m : Machine) (c : ℕ) (how : Trade) → HasChannels script m → FitsChannel script (state_of m) c how → IsTradable m.channels.items c how
tradable script m c how kept fits =
    elim (slice_get m.channels.items c) as (λ o. slice_get m.channels.items c ≡ o → IsSomeAnd o (MayTrade how)) [
      | None ↦ λ e. absurd (none_past m.channels.items c e (subst (λ n. c < n) (length-map m.channels.items channel_of) fits.within))
      | Some ch ↦ λ e. trade_here script m c ch how kept (same_channel m c ch e) fits.has
    ] refl

-- the channel of an entry may be changed so
pub tradable-May : (script : Script) (m : Machine) (e : Entry) → IsGood script → IsFormed script (state_of m) → May script (state_of m) e → HasChannels script m
    → IfSome (change_of e).channel (λ x. IsTradable m.channels.items x.0 x.1)
tradable-May script m e good formed may kept =
    elim (change_of e).channel as (λ o. IfSome o (λ x. FitsChannel script (state_of m) x.0 x.1) → IfSome o (λ x. IsTradable m.channels.items x.0 x.1)) [
      | None ↦ λ h. tt
      | Some x ↦ λ h. tradable script m x.0 x.1 kept h
    ] (fits-May script (state_of m) e good formed may).channel
