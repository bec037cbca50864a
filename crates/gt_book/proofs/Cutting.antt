-- The entry of the end of a context is made: what the end reaches is cut, the hooks that wait there start, and who makes the entry moves on.
use Rattle.std.proofs.Common.{◌≡◌, ℕ, zero, suc, ◌+◌, ◌<◌, ◌≤◌, ◌^◌, ◌-◌, List, [], ◌∷◌, ◌++◌, length, map, refl, sym, ap, subst, ◌∙◌, slice_get, Option, None, Some, true, IsSomeAnd}
use Rattle.std.specs.List.{range_with_len}
use Rattle.gt_model.specs.declared.script.Script.{Script}
use Rattle.gt_model.specs.declared.entry.Entry.{Entry}
use Rattle.gt_model.specs.declared.entry.Limits.{Limits}
use Rattle.gt_model.specs.declared.state.Goroutine.{Goroutine}
use Rattle.gt_model.specs.declared.context.End.{End}
use Rattle.gt_model.specs.Tables.{numbered, change, change_numbered}
use Rattle.gt_rules.specs.State.{State, stands_at}
use Rattle.gt_rules.specs.After.{after, moved, started_by, with_starts, with_mover}
use Rattle.gt_rules.specs.Change.{change_of, by_end}
use Rattle.gt_rules.specs.Contexts.{start_count, cut_contexts, cut_hooks, cancel_end, named_by, expiry_end}
use Rattle.gt_rules.specs.declared.change.Move.{Move}
use Rattle.gt_rules.specs.declared.change.Start.{Start}
use Rattle.gt_machine.specs.declared.machine.Machine.{Machine}
use Rattle.gt_machine.specs.Machine.{state_of, IsInside, HasChannels, capacities}
use Rattle.gt_machine.proofs.Machines.{inside-May}
use Rattle.gt_book.specs.declared.run.Run.{Run}
use Rattle.gt_book.specs.Run.{CanMake}
use Rattle.gt_book.proofs.Books.{can_make-room}

-- ---- who is started stands behind the others

get-more : {X : Type 0} (xs ys : List X) (i : ℕ) (x : X) → slice_get xs i ≡ Some x → slice_get (xs ++ ys) i ≡ Some x
get-more [] ys i x there = cc
get-more (z ∷ xs) ys zero x there = there
get-more (z ∷ xs) ys (suc i) x there = get-more xs ys i x there

change-more : {X : Type 0} (xs ys : List X) (i : ℕ) (f : X → X) (x : X) → slice_get xs i ≡ Some x → change (xs ++ ys) i f ≡ change xs i f ++ ys
change-more [] ys i f x there = cc
change-more (z ∷ xs) ys zero f x there = refl
change-more (z ∷ xs) ys (suc i) f x there = ap (λ zs. z ∷ zs) (change-more xs ys i f x there)

numbered-more : {X : Type 0} (xs ys : List X) (g : ℕ) (x : X) → numbered xs g ≡ Some x → numbered (xs ++ ys) g ≡ Some x
numbered-more xs ys zero x there = cc
numbered-more xs ys (suc i) x there = get-more xs ys i x there

change_numbered-more : {X : Type 0} (xs ys : List X) (g : ℕ) (f : X → X) (x : X) → numbered xs g ≡ Some x → change_numbered (xs ++ ys) g f ≡ change_numbered xs g f ++ ys
change_numbered-more xs ys zero f x there = cc
change_numbered-more xs ys (suc i) f x there = change-more xs ys i f x there

-- so one who is there already stays where it was
numbered-started : (script : Script) (s : State) (gs : List Goroutine) (xs : List Start) (g : ℕ) (r : Goroutine) → numbered gs g ≡ Some r → numbered (with_starts script s gs xs) g ≡ Some r
numbered-started script s gs [] g r there = there
numbered-started script s gs (x ∷ xs) g r there =
    numbered-started script s (gs ++ started_by script s x ∷ []) xs g r (numbered-more gs (started_by script s x ∷ []) g r there)

-- and moves on after them as before them
moved-started : (script : Script) (s : State) (gs : List Goroutine) (xs : List Start) (g : ℕ) (f : Goroutine → Goroutine) (r : Goroutine) → numbered gs g ≡ Some r
    → change_numbered (with_starts script s gs xs) g f ≡ with_starts script s (change_numbered gs g f) xs
moved-started script s gs [] g f r there = refl
moved-started script s gs (x ∷ xs) g f r there =
    moved-started script s (gs ++ started_by script s x ∷ []) xs g f r (numbered-more gs (started_by script s x ∷ []) g r there)
    ∙ ap (λ hs. with_starts script s hs xs) (change_numbered-more gs (started_by script s x ∷ []) g f r there)

record There (gs : List Goroutine) (g : ℕ) : Type 0 where
  who : Goroutine
  there : numbered gs g ≡ Some who
  short : who.place.at < 2 ^ 32 - 1

inside-there : (gs : List Goroutine) (g : ℕ) → IsInside gs g → There gs g
inside-there gs g h =
    elim (numbered gs g) as (λ o. numbered gs g ≡ o → IsSomeAnd o (λ (r : Goroutine). r.place.at < 2 ^ 32 - 1) → There gs g) [
      | None ↦ λ e k. absurd k
      | Some r ↦ λ e k. record { who = r; there = e; short = k }
    ] refl h

still-inside : (script : Script) (s : State) (gs : List Goroutine) (xs : List Start) (g : ℕ) → IsInside gs g → IsInside (with_starts script s gs xs) g
still-inside script s gs xs g h =
    let one : There gs g = inside-there gs g h in
    subst (λ o. IsSomeAnd o (λ (r : Goroutine). r.place.at < 2 ^ 32 - 1)) (sym (numbered-started script s gs xs g one.who one.there)) one.short

-- as many start as are counted
length-by_end : (x count : ℕ) → length (by_end x count) ≡ count
length-by_end x count = from 0 count
  where
    from : (n count : ℕ) → length (map (Start.ByEnd x) (range_with_len n count)) ≡ count
    from n zero = refl
    from n (suc count) = ap suc (from (n + 1) count)

-- there is room for them
pub end-room : (script : Script) (limits : Limits) (r : Run) (e : Entry) (x count : ℕ) → CanMake script limits r e → (change_of e).starts ≡ by_end x count → count ≤ r.machine.goroutines.spare
end-room script limits r e x count can starts =
    subst (λ n. n ≤ r.machine.goroutines.spare) (ap length starts ∙ length-by_end x count) (can_make-room script limits r e can)

-- ---- the state after the entry

-- the state once the end of x has cut what it reaches, and its hooks have started
abbrev pub cut_state : Script → State → ℕ → End → State
cut_state script s x end = record s {
  goroutines = with_starts script s s.goroutines (by_end x (start_count script s x));
  contexts = cut_contexts script s x end;
  hooks = cut_hooks script s x;
}

-- there are the same channels
pub same-channels : (script : Script) (old new : Machine) → new.channels ≡ old.channels → HasChannels script old → HasChannels script new
same-channels script old new same has = record { declared = ap (λ chs. (let m : Machine = record old { channels = chs } in capacities m.channels.items)) same ∙ has.declared }

-- who makes the entry of a cancellation is there
pub maker-inside : (script : Script) (limits : Limits) (r : Run) (g x : ℕ) → CanMake script limits r (Entry.Cancel g x true (start_count script (state_of r.machine) x))
    → IsInside (state_of r.machine).goroutines g
maker-inside script limits r g x can =
    inside-May script (state_of r.machine) (Entry.Cancel g x true (start_count script (state_of r.machine) x)) can.kept.way.sound.good can.kept.way.sound.formed can.may

-- and so it is after the cut
pub cancel-inside : (script : Script) (limits : Limits) (r : Run) (g x : ℕ) (gs : List Goroutine)
    → CanMake script limits r (Entry.Cancel g x true (start_count script (state_of r.machine) x))
    → gs ≡ with_starts script (state_of r.machine) (state_of r.machine).goroutines (by_end x (start_count script (state_of r.machine) x)) → IsInside gs g
cancel-inside script limits r g x gs can is =
    let s : State = state_of r.machine in
    subst (λ gs. IsInside gs g) (sym is) (still-inside script s s.goroutines (by_end x (start_count script s x)) g (maker-inside script limits r g x can))

-- and moves on as before it
pub cancel-after : (script : Script) (s : State) (g x : ℕ) (named : Option ℕ) (cut went new : State) → IsInside s.goroutines g → named ≡ named_by (stands_at script s g)
    → cut ≡ cut_state script s x (cancel_end named) → went ≡ record cut { goroutines = with_mover script cut.goroutines (Some (g, Move.GoesOn 0)) }
    → new ≡ record went { entries = went.entries + 1 } → new ≡ after script s (Entry.Cancel g x true (start_count script s x))
cancel-after script s g x named cut went new inside is_named is_cut is_went is_new =
    let one : There s.goroutines g = inside-there s.goroutines g inside in
    let n : ℕ = start_count script s x in
    is_new
    ∙ (ap (λ (t : State). let u : State = record t { entries = t.entries + 1 } in u) is_went
    ∙ (ap (λ (t : State). let u : State = record t { goroutines = with_mover script t.goroutines (Some (g, Move.GoesOn 0)); entries = t.entries + 1 } in u) is_cut
    ∙ (ap (λ (o : Option ℕ). let u : State = record (cut_state script s x (cancel_end o)) {
      goroutines = with_mover script (with_starts script s s.goroutines (by_end x n)) (Some (g, Move.GoesOn 0));
      entries = s.entries + 1;
    } in u) is_named
    ∙ ap (λ gs. let u : State = record (after script s (Entry.Cancel g x true n)) { goroutines = gs } in u)
    (moved-started script s s.goroutines (by_end x n) g (moved script (Move.GoesOn 0)) one.who one.there))))

-- the entry of a deadline is counted
pub expiry-after : (script : Script) (s : State) (x : ℕ) (end : End) (cut new : State) → end ≡ expiry_end script x → cut ≡ cut_state script s x end
    → new ≡ record cut { entries = cut.entries + 1 } → new ≡ after script s (Entry.Expire x (start_count script s x))
expiry-after script s x end cut new is_end is_cut is_new =
    is_new
    ∙ (ap (λ (t : State). let u : State = record t { entries = t.entries + 1 } in u) is_cut
    ∙ ap (λ (e : End). let u : State = record (cut_state script s x e) { entries = s.entries + 1 } in u) is_end)
