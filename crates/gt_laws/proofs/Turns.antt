-- Each goroutine is where its moves lead through its function's code.
use Rattle.std.proofs.Common.{◌≡◌, ◌≢◌, ℕ, zero, suc, ◌+◌, ◌<◌, List, [], ◌∷◌, ◌++◌, append-nil, length, slice_index, refl, sym, ap, subst, ◌∙◌, arith, cond, if◌then◌else◌, slice_get, ◌==◌, Option, None, Some, IfSome, option_map, true, false, eqb}
use Rattle.std.proofs.lemmas.Bool.{eqb-true, eqb-false}
use Rattle.std.proofs.lemmas.Option.{slice_get_past}
use Rattle.gt_model.specs.declared.script.Script.{Script}
use Rattle.gt_model.specs.declared.script.Func.{Func}
use Rattle.gt_model.specs.declared.script.Instr.{Instr}
use Rattle.gt_model.specs.declared.script.Place.{Place}
use Rattle.gt_model.specs.declared.entry.Entry.{Entry}
use Rattle.gt_model.specs.declared.entry.Limits.{Limits}
use Rattle.gt_model.specs.declared.entry.Outcome.{Outcome}
use Rattle.gt_model.specs.declared.state.Goroutine.{Goroutine}
use Rattle.gt_model.specs.declared.state.Mode.{Mode}
use Rattle.gt_model.specs.Good.{IsGood, IsGoodCode}
use Rattle.gt_model.specs.Script.{code_of, instr_at, func_of, hook_func}
use Rattle.gt_model.specs.Tables.{numbered}
use Rattle.gt_model.proofs.GoodCode.{all_at}
use Rattle.gt_model.proofs.Items.{numbered-change_same, numbered-change_other, numbered-push_same, numbered-push_other}
use Rattle.gt_rules.specs.Places.{silent_at, first_place, go_on, next_index, next_of, place_after}
use Rattle.gt_rules.specs.State.{State, goroutine_at}
use Rattle.gt_rules.specs.Contexts.{starting}
use Rattle.gt_rules.specs.declared.change.Move.{Move}
use Rattle.gt_rules.specs.declared.change.Start.{Start}
use Rattle.gt_rules.specs.Change.{change_of}
use Rattle.gt_rules.specs.After.{after, begun, first_state, moved, signalled, started_by, with_mover, with_signalled, with_starts}
use Rattle.gt_rules.specs.History.{AllLegal, History, state_after}
use Rattle.gt_facts.specs.Formed.{IsFormed, IsPlacedIn}
use Rattle.gt_facts.proofs.Fits.{Fits, IsLive, fits-Legal}
use Rattle.gt_facts.proofs.Formed.{formed-first, formed-Legal, placed_inside}
use Rattle.gt_laws.specs.Told.{ToldGoroutine, place_of, told}
use Rattle.gt_laws.specs.Laws.{AtEach}
use Rattle.gt_laws.specs.Unrolled.{InTurn, led_by, moved_by, moved_with, moves_told, turn_of}
use Rattle.gt_laws.proofs.Comes.{Comes, each}
use Rattle.gt_laws.proofs.Everyone.{goroutine-told, numbered-map, place_in, shown}
use Rattle.gt_laws.proofs.GoesOn.{reached}
use Rattle.gt_laws.proofs.Numbers.{by-number}
use Rattle.gt_laws.proofs.Shown.{AreTwo, two-Legal}
use Rattle.gt_laws.proofs.Unrolled.{Follows, acts, func-stays, follows-on, follows-turn, joined, not_past, wider}

-- ---- lists

numbered-past : {X : Type 0} (xs : List X) (g : ℕ) → g ≡ length xs + 1 → numbered xs g ≡ None
numbered-past xs zero e = refl
numbered-past xs (suc g) e = slice_get_past xs g (omega arith)

-- ---- whose turn it is

-- where a function begins
abbrev begin_of : ℕ → Place
begin_of f = record { func = f; at = 0; loops = 0 ∷ 0 ∷ 0 ∷ 0 ∷ [] }

-- by these moves somebody comes to this place from where its function begins
abbrev IsTurn : Script → Place → List ℕ → Type 0
IsTurn script place moves = Follows (code_of script place.func) place [] (begin_of place.func) moves

-- at a place in the same function
turn-same : (script : Script) (p q : Place) (moves : List ℕ) → q.func ≡ p.func → Follows (code_of script p.func) q [] (begin_of p.func) moves → IsTurn script q moves
turn-same script p q moves same follows = subst (λ f. Follows (code_of script f) q [] (begin_of f) moves) (sym same) follows

turn-next : (script : Script) (p : Place) (moves : List ℕ) (n : ℕ) → IsTurn script p moves → p.at < length (code_of script p.func) → silent_at (code_of script p.func) p ≡ None
    → IsTurn script (place_after script n p) (moves ++ n ∷ [])
turn-next script p moves n turn within quiet =
    let code : List Instr = code_of script p.func in
    let further : Follows code p (n ∷ []) (begin_of p.func) (moves ++ n ∷ []) = wider code p [] (n ∷ []) (begin_of p.func) moves turn in
    elim (slice_get code p.at) as (λ o. slice_get code p.at ≡ o → IsTurn script (place_after script n p) (moves ++ n ∷ [])) [
      | None ↦ λ on. absurd (not_past code p.at on within)
      | Some x ↦ λ on.
          let behind : Place = record p { at = next_index x n (p.at + 1) } in
          let last : Place = go_on (length code + length code) code behind in
          let same : place_after script n p ≡ last =
          ap (λ (o : Option Instr). go_on (length code + length code) code (record p { at = next_of o n (p.at + 1) })) on in
          let step : Follows code last [] p (n ∷ []) = acts p x n [] on quiet (follows-on (length code + length code) code behind []) in
          subst (λ (q : Place). IsTurn script q (moves ++ n ∷ [])) (sym same)
          (turn-same script p last (moves ++ n ∷ []) (func-stays (length code + length code) code behind)
          (joined code p last (n ∷ []) [] (begin_of p.func) (moves ++ n ∷ []) further step))
    ] refl

turn-first : (script : Script) (f : ℕ) → IsTurn script (first_place script f) []
turn-first script f =
    let code : List Instr = code_of script f in
    turn-same script (begin_of f) (first_place script f) [] (func-stays (length code + length code) code (begin_of f)) (follows-on (length code + length code) code (begin_of f) [])

-- ---- a goroutine that has made these moves

abbrev IsThere : Script → List ℕ → Place → Mode → Type 0
IsThere script moves place Mode.At = IsTurn script place moves
IsThere script moves place (Mode.Sleeping until) = IsTurn script place moves × (silent_at (code_of script place.func) place ≡ None)
IsThere script moves place (Mode.Suspended k) = IsTurn script place moves × (silent_at (code_of script place.func) place ≡ None)
IsThere script moves place (Mode.Relocking k) = IsTurn script place moves × (silent_at (code_of script place.func) place ≡ None)
IsThere script moves place Mode.Ended = Unit {0}

-- nobody has moved before it is started
abbrev HasDone : Script → List ℕ → Option Goroutine → Type 0
HasDone script moves None = moves ≡ []
HasDone script moves (Some r) = IsThere script moves r.place r.mode

-- who makes no move has made the same ones
turn-stays : (script : Script) (place : Place) (moves : List ℕ) → IsTurn script place moves → IsTurn script place (moves ++ [])
turn-stays script place moves turn = subst (IsTurn script place) (sym (append-nil moves)) turn

-- where somebody is that lives, its turn is
there-turn : (script : Script) (moves : List ℕ) (place : Place) (mode : Mode) → (mode ≡ Mode.Ended → ⊥) → IsPlacedIn (code_of script place.func) place mode
    → IsThere script moves place mode → IsTurn script place moves × (silent_at (code_of script place.func) place ≡ None)
there-turn script moves place Mode.At live placed there = (there, placed.1)
there-turn script moves place (Mode.Sleeping until) live placed there = there
there-turn script moves place (Mode.Suspended k) live placed there = there
there-turn script moves place (Mode.Relocking k) live placed there = there
there-turn script moves place Mode.Ended live placed there = absurd (live refl)

-- who waits where its turn is has made no move
stays : (script : Script) (place : Place) (moves : List ℕ) → IsTurn script place moves × (silent_at (code_of script place.func) place ≡ None)
    → IsTurn script place (moves ++ []) × (silent_at (code_of script place.func) place ≡ None)
stays script place moves turn = (turn-stays script place moves turn.0, turn.1)

moved-done : (script : Script) (m : Move) (w : ℕ) (moves : List ℕ) (place : Place) (mode : Mode) → (mode ≡ Mode.Ended → ⊥) → IsPlacedIn (code_of script place.func) place mode
    → IsThere script moves place mode → HasDone script (moves ++ led_by m) (Some (moved script m (record { world = w; place = place; mode = mode })))
moved-done script (Move.GoesOn case_no) w moves place mode live placed there =
    let turn = there-turn script moves place mode live placed there in
    turn-next script place moves case_no turn.0 (placed_inside (code_of script place.func) place mode placed).within turn.1
moved-done script (Move.FallsAsleep until) w moves place mode live placed there = stays script place moves (there-turn script moves place mode live placed there)
moved-done script (Move.Suspends k) w moves place mode live placed there = stays script place moves (there-turn script moves place mode live placed there)
moved-done script (Move.Relocks k) w moves place mode live placed there = stays script place moves (there-turn script moves place mode live placed there)
moved-done script Move.Ends w moves place mode live placed there = tt
moved-done script Move.Panics w moves place mode live placed there = subst (λ ms. IsThere script ms place mode) (sym (append-nil moves)) there

-- ---- all goroutines

abbrev AllDone : Script → (ℕ → List ℕ) → List Goroutine → Type 0
AllDone script n gs = (g : ℕ) → HasDone script (n g) (numbered gs g)

-- who moves, where it stands as in a state
mover-done : (script : Script) (s : State) (n : ℕ → List ℕ) (gs : List Goroutine) (m : ℕ × Move) (who : IsLive s m.0) → IsFormed script s → numbered gs m.0 ≡ Some who.who → AllDone script n gs
    → AllDone script (λ g. moved_with g (n g) (Some m)) (with_mover script gs (Some m))
mover-done script s n gs m who formed here all g =
    by-number m.0 g (λ b. HasDone script (if b then n g ++ led_by m.1 else n g) (numbered (with_mover script gs (Some m)) g))
    (λ same.
    let there : HasDone script (n m.0) (Some who.who) = subst (HasDone script (n m.0)) here (all m.0) in
    let moves : HasDone script (n m.0 ++ led_by m.1) (Some (moved script m.1 who.who)) =
    moved-done script m.1 who.who.world (n m.0) who.who.place who.who.mode who.live (formed.placed m.0 who.who who.there) there in
    subst (λ k. HasDone script (n k ++ led_by m.1) (numbered (with_mover script gs (Some m)) k)) same
    (subst (HasDone script (n m.0 ++ led_by m.1)) (sym (numbered-change_same gs m.0 (moved script m.1) who.who here)) moves))
    (λ other. subst (HasDone script (n g)) (sym (numbered-change_other gs m.0 g (moved script m.1) other)) (all g))

first-moved : (script : Script) (s : State) (n : ℕ → List ℕ) (m : Option (ℕ × Move)) → IsFormed script s → IfSome m (λ (m : ℕ × Move). IsLive s m.0) → AllDone script n s.goroutines
    → AllDone script (λ g. moved_with g (n g) m) (with_mover script s.goroutines m)
first-moved script s n None formed live all = all
first-moved script s n (Some m) formed live all = let who : IsLive s m.0 = live in mover-done script s n s.goroutines m who formed who.there all

-- who does not move stands as it stood
unmoved : (script : Script) (gs : List Goroutine) (m : Option (ℕ × Move)) (g : ℕ) → IfSome m (λ (m : ℕ × Move). g ≢ m.0) → numbered (with_mover script gs m) g ≡ numbered gs g
unmoved script gs None g other = refl
unmoved script gs (Some m) g other = numbered-change_other gs m.0 g (moved script m.1) other

movers-done : (script : Script) (s : State) (n : ℕ → List ℕ) (m p : Option (ℕ × Move)) → IsFormed script s → IfSome m (λ (m : ℕ × Move). IsLive s m.0)
    → IfSome p (λ (m : ℕ × Move). IsLive s m.0) → AreTwo m p → AllDone script n s.goroutines
    → AllDone script (λ g. moved_with g (moved_with g (n g) m) p) (with_mover script (with_mover script s.goroutines m) p)
movers-done script s n m None formed live alive two all = first-moved script s n m formed live all
movers-done script s n m (Some p) formed live alive two all =
    let who : IsLive s p.0 = alive in
    mover-done script s (λ g. moved_with g (n g) m) (with_mover script s.goroutines m) p who formed (unmoved script s.goroutines m p.0 two ∙ who.there)
    (first-moved script s n m formed live all)

-- ---- who is signalled by a broadcast stays where it is

one-signalled : (script : Script) (moves : List ℕ) (k w : ℕ) (place : Place) (mode : Mode) → HasDone script moves (Some (record { world = w; place = place; mode = mode }))
    → HasDone script moves (Some (signalled k (record { world = w; place = place; mode = mode })))
one-signalled script moves k w place (Mode.Suspended at) there =
    elim (at == k) as (λ b. HasDone script moves (Some (cond b (record { world = w; place = place; mode = Mode.Relocking k }) (record { world = w; place = place; mode = Mode.Suspended at })))) [
      | true ↦ there
      | false ↦ there
    ]
one-signalled script moves k w place _ there = there

signalled-there : (script : Script) (moves : List ℕ) (k : ℕ) (o : Option Goroutine) → HasDone script moves o → HasDone script moves (option_map (signalled k) o)
signalled-there script moves k None done = done
signalled-there script moves k (Some r) done = one-signalled script moves k r.world r.place r.mode done

signalled-done : (script : Script) (n : ℕ → List ℕ) (gs : List Goroutine) (o : Option ℕ) → AllDone script n gs → AllDone script n (with_signalled gs o)
signalled-done script n gs None all g = all g
signalled-done script n gs (Some k) all g =
    subst (HasDone script (n g)) (sym (numbered-map (signalled k) gs g)) (signalled-there script (n g) k (numbered gs g) (all g))

-- ---- who is started

push-done : (script : Script) (n : ℕ → List ℕ) (gs : List Goroutine) (r : Goroutine) → HasDone script [] (Some r) → AllDone script n gs → AllDone script n (gs ++ r ∷ [])
push-done script n gs r new all g =
    elim (eqb g (length gs + 1)) as (λ b. eqb g (length gs + 1) ≡ b → HasDone script (n g) (numbered (gs ++ r ∷ []) g)) [
      | true ↦ λ e.
          let next : g ≡ length gs + 1 = eqb-true g (length gs + 1) e in
          let none : n g ≡ [] = subst (HasDone script (n g)) (numbered-past gs g next) (all g) in
          subst (HasDone script (n g)) (sym (numbered-push_same gs r g next)) (subst (λ moves. HasDone script moves (Some r)) (sym none) new)
      | false ↦ λ e. subst (HasDone script (n g)) (sym (numbered-push_other gs r g (eqb-false g (length gs + 1) e))) (all g)
    ] refl

started-done : (script : Script) (s : State) (x : Start) → HasDone script [] (Some (started_by script s x))
started-done script s (Start.ByGoroutine g f) = turn-first script f
started-done script s (Start.ByTimer t) = turn-first script (func_of script t)
started-done script s (Start.ByHook k) = turn-first script (hook_func script k)
started-done script s (Start.ByEnd x i) = turn-first script (hook_func script (slice_index (starting script s x) i))

starts-done : (script : Script) (s : State) (n : ℕ → List ℕ) (gs : List Goroutine) (xs : List Start) → AllDone script n gs → AllDone script n (with_starts script s gs xs)
starts-done script s n gs [] all = all
starts-done script s n gs (x ∷ xs) all =
    starts-done script s n (gs ++ started_by script s x ∷ []) xs (push-done script n gs (started_by script s x) (started-done script s x) all)

first-done : (script : Script) → AllDone script (λ g. []) (first_state script).goroutines
first-done script = push-done script (λ g. []) [] (begun script 0 script.main) (turn-first script script.main) nobody
  where
    nobody : AllDone script (λ g. []) []
    nobody zero = refl
    nobody (suc g) = refl

-- ---- through a history

after-done : (script : Script) (s : State) (n : ℕ → List ℕ) (e : Entry) → IsFormed script s → Fits script s (change_of e)
    → AreTwo (change_of e).mover (change_of e).partner → AllDone script n s.goroutines
    → AllDone script (λ g. moved_by g (n g) (change_of e)) (after script s e).goroutines
after-done script s n e formed fits two all =
    let gs : List Goroutine = with_mover script (with_mover script s.goroutines (change_of e).mover) (change_of e).partner in
    starts-done script s (λ g. moved_by g (n g) (change_of e)) (with_signalled gs (change_of e).broadcast) (change_of e).starts
    (signalled-done script (λ g. moved_by g (n g) (change_of e)) gs (change_of e).broadcast
    (movers-done script s n (change_of e).mover (change_of e).partner formed fits.mover fits.partner two all))

record IsDone (script : Script) (s : State) (n : ℕ → List ℕ) : Type 0 where
  formed : IsFormed script s
  all : AllDone script n s.goroutines

done-from : (script : Script) (limits : Limits) (s : State) (n : ℕ → List ℕ) (h : List Entry) → IsGood script → AllLegal script limits s h → IsDone script s n
    → IsDone script (state_after script s h) (λ g. told (moved_by g) (n g) h)
done-from script limits s n [] good legal is = is
done-from script limits s n (e ∷ h) good legal is =
    done-from script limits (after script s e) (λ g. moved_by g (n g) (change_of e)) h good legal.1 (record {
      formed = formed-Legal script limits s e good is.formed legal.0;
      all = after-done script s n e is.formed (fits-Legal script limits s e good is.formed legal.0) (two-Legal script limits s e legal.0) is.all;
    })

-- ---- the law

abbrev Stands : Script → List ℕ → Option Place → Type 0
Stands script moves o = IfSome o (λ (p : Place). instr_at script p ≡ turn_of (code_of script p.func) moves)

turn-stands : (script : Script) (moves : List ℕ) (p : Place) → IsGood script → IsTurn script p moves → silent_at (code_of script p.func) p ≡ None → Stands script moves (Some p)
turn-stands script moves p good turn quiet =
    let code_in : Option Func → List Instr = λ o. elim o [ None ↦ [] | Some func ↦ func.code ] in
    elim (slice_get script.funcs p.func) as (λ o. slice_get script.funcs p.func ≡ o → Follows (code_in o) p [] (begin_of p.func) moves → silent_at (code_in o) p ≡ None
    → slice_get (code_in o) p.at ≡ turn_of (code_in o) moves) [
      | None ↦ λ e turn quiet. refl
      | Some func ↦ λ e turn quiet.
          follows-turn script func.code (begin_of p.func) p moves (all_at (λ (f : Func). IsGoodCode script f.code) script.funcs p.func func good.code e) refl refl turn quiet
    ] refl turn quiet

there-stands : (script : Script) (moves : List ℕ) (p : Place) (mode : Mode) → IsGood script → IsPlacedIn (code_of script p.func) p mode → IsThere script moves p mode
    → Stands script moves (place_in p mode)
there-stands script moves p Mode.At good placed there = turn-stands script moves p good there placed.1
there-stands script moves p (Mode.Sleeping until) good placed there = turn-stands script moves p good there.0 there.1
there-stands script moves p (Mode.Suspended k) good placed there = turn-stands script moves p good there.0 there.1
there-stands script moves p (Mode.Relocking k) good placed there = turn-stands script moves p good there.0 there.1
there-stands script moves p Mode.Ended good placed there = tt

in-turn : (script : Script) (limits : Limits) (front : List Entry) (e : Entry) → Comes script limits front e → InTurn script front e
in-turn script limits front e c g =
    let s : State = reached script front in
    let moves : List ℕ = moves_told g front in
    let is : IsDone script s (λ g. moves_told g front) =
    done-from script limits (first_state script) (λ g. []) front c.good c.before (record { formed = formed-first script c.good; all = first-done script }) in
    subst (λ (o : Option ToldGoroutine). Stands script moves (place_of o)) (goroutine-told script limits g front c.good c.before)
    (elim (goroutine_at s g) as (λ o. goroutine_at s g ≡ o → HasDone script moves o → Stands script moves (place_of (option_map shown o))) [
      | None ↦ λ e h. tt
      | Some r ↦ λ e h. there-stands script moves r.place r.mode c.good (is.formed.placed g r e) h
    ] refl (is.all g))

pub each-in_turn : (script : Script) (limits : Limits) (h : List Entry) (outcome : Outcome) → IsGood script → History script limits h outcome → AtEach (InTurn script) h
each-in_turn = each (λ script limits. InTurn script) in-turn
