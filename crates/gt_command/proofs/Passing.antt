-- What the answer of the top call says of the sink below, once all that was kept back is passed on.
use Rattle.std.proofs.Common.{◌≡◌, ◌≢◌, ℕ, List, [], take, Option, IfSome, OnErr, refl, ◌∙◌, ap}
use Rattle.std.specs.declared.result.Result.{Result}
use Rattle.std.specs.declared.result.Result.TheVariants.{Ok, Err}
use Rattle.gt_io.specs.Bytes.{Appended}
use Rattle.gt_io.specs.Buffer.{and_then}
use Rattle.gt_io.specs.Counts.{Rose}
use Rattle.gt_model.specs.declared.entry.Outcome.{Outcome}
use Rattle.gt_top.specs.Answer.{AnswersOrder, Answers}
use Rattle.gt_top.specs.Call.{Call, SourceState, SinkState}
use Rattle.gt_top.specs.Words.{order_of}
use Rattle.gt_top.specs.declared.status.Status.{Status}
use Rattle.gt_top.specs.declared.words.Order.{Order}
use Rattle.gt_top.specs.declared.words.WordFault.{WordFault}
use Rattle.gt_command.proofs.Below.{prefix_below-of_prefix, prefix_below-passed_on, whole_below, same_below}

-- a call, by what its source and its sink were before and after it
abbrev pub between : SourceState → SourceState → SinkState → SinkState → Call
between from to before after = record { source_before = from; source_after = to; sink_before = before; sink_after = after }

-- a sink that has this, and keeps that back
abbrev pub keeping : SinkState → List ℕ → SinkState
keeping s kept = record { written = and_then s.written kept; faults = s.faults }

same_sink : (before after : SinkState) (kept₀ kept : List ℕ) → IfSome before.written (λ xs. xs ≡ []) → kept₀ ≡ [] → keeping after kept ≡ keeping before kept₀ → after ≡ before
same_sink before after kept₀ kept empty nothing same =
    let written : after.written ≡ before.written = same_below before.written after.written kept₀ kept empty nothing (ap (λ (s : SinkState). s.written) same) in
    let faults : after.faults ≡ before.faults = ap (λ (s : SinkState). s.faults) same in
    ap (λ (w : Option (List ℕ)). record after { written = w }) written ∙ ap (λ (f : ℕ). record before { faults = f }) faults

-- a run that is done, and then passed on
done : (o : Result Order WordFault) (from to : SourceState) (before middle after : SinkState) (kept₀ kept : List ℕ) (outcome : Outcome) → kept₀ ≡ [] → AnswersOrder o (between from to (keeping before kept₀) (keeping middle kept)) (Status.Done outcome) → Appended middle.written after.written kept → AnswersOrder o (between from to before after) (Status.Done outcome)
done (Err fault) from to before middle after kept₀ kept outcome nothing answered passed = let wrong = answered.0 in cc
done (Ok (Order.Sim limit)) from to before middle after kept₀ kept outcome nothing answered passed = record {
  bytes = answered.bytes;
  script = answered.script;
  read = answered.read;
  spelled = answered.spelled;
  holds = record {
    history = answered.holds.history;
    run = answered.holds.run;
    written = whole_below before.written middle.written after.written kept₀ kept _ nothing answered.holds.written passed;
  };
}

-- a run that is done, of which not all could be passed on
cut : (o : Result Order WordFault) (from to : SourceState) (before middle after : SinkState) (kept₀ kept : List ℕ) (n : ℕ) (outcome : Outcome) → IfSome before.written (λ xs. xs ≡ []) → kept₀ ≡ [] → AnswersOrder o (between from to (keeping before kept₀) (keeping middle kept)) (Status.Done outcome) → Appended middle.written after.written (take n kept) → Rose before.faults after.faults → AnswersOrder o (between from to before after) Status.WriteFault
cut (Err fault) from to before middle after kept₀ kept n outcome empty nothing answered passed rose = let wrong = answered.0 in cc
cut (Ok (Order.Sim limit)) from to before middle after kept₀ kept n outcome empty nothing answered passed rose =
    let found = prefix_below-passed_on before.written middle.written after.written kept₀ kept _ n empty nothing answered.holds.written passed in record {
      bytes = answered.bytes;
      script = answered.script;
      read = answered.read;
      spelled = answered.spelled;
      holds = record {
        history = answered.holds.history;
        outcome = outcome;
        run = answered.holds.run;
        count = found.0;
        written = found.2;
        cause = rose;
      };
    }

-- an answer that is no run that is done, after which nothing is passed on
other : (o : Result Order WordFault) (status : Status) (from to : SourceState) (before after : SinkState) (kept₀ kept : List ℕ) → ((outcome : Outcome) → status ≢ Status.Done outcome) → IfSome before.written (λ xs. xs ≡ []) → kept₀ ≡ [] → AnswersOrder o (between from to (keeping before kept₀) (keeping after kept)) status → AnswersOrder o (between from to before after) status
other (Err fault) status from to before after kept₀ kept apart empty nothing answered =
    (answered.0, record { source = answered.1.source; sink = same_sink before after kept₀ kept empty nothing answered.1.sink })
other (Ok (Order.Sim limit)) (Status.Done outcome) from to before after kept₀ kept apart empty nothing answered = absurd (apart outcome refl)
other (Ok (Order.Sim limit)) Status.WriteFault from to before after kept₀ kept apart empty nothing answered =
    let found = prefix_below-of_prefix before.written after.written kept₀ kept _ answered.holds.count empty nothing answered.holds.written in record {
      bytes = answered.bytes;
      script = answered.script;
      read = answered.read;
      spelled = answered.spelled;
      holds = record {
        history = answered.holds.history;
        outcome = answered.holds.outcome;
        run = answered.holds.run;
        count = found.0;
        written = found.2;
        cause = answered.holds.cause;
      };
    }
other (Ok (Order.Sim limit)) (Status.BadScript fault) from to before after kept₀ kept apart empty nothing answered = record {
  bytes = answered.bytes;
  read = answered.read;
  refused = answered.refused;
  unwritten = same_sink before after kept₀ kept empty nothing answered.unwritten;
}
other (Ok (Order.Sim limit)) (Status.TooLong most) from to before after kept₀ kept apart empty nothing answered =
    (answered.0, same_sink before after kept₀ kept empty nothing answered.1)
other (Ok (Order.Sim limit)) Status.ReadFault from to before after kept₀ kept apart empty nothing answered =
    (answered.0, same_sink before after kept₀ kept empty nothing answered.1)
other (Ok (Order.Sim limit)) Status.NoMemory from to before after kept₀ kept apart empty nothing answered =
    same_sink before after kept₀ kept empty nothing answered
other (Ok (Order.Sim limit)) (Status.Usage fault) from to before after kept₀ kept apart empty nothing answered = absurd answered

-- the same of any words
pub answered-done : (words : List (List ℕ)) (from to : SourceState) (before middle after : SinkState) (kept₀ kept : List ℕ) (outcome : Outcome) → kept₀ ≡ [] → Answers words (between from to (keeping before kept₀) (keeping middle kept)) (Status.Done outcome) → Appended middle.written after.written kept → Answers words (between from to before after) (Status.Done outcome)
answered-done words from to before middle after kept₀ kept outcome = done (order_of words) from to before middle after kept₀ kept outcome

pub answered-cut : (words : List (List ℕ)) (from to : SourceState) (before middle after : SinkState) (kept₀ kept : List ℕ) (n : ℕ) (outcome : Outcome) → IfSome before.written (λ xs. xs ≡ []) → kept₀ ≡ [] → Answers words (between from to (keeping before kept₀) (keeping middle kept)) (Status.Done outcome) → Appended middle.written after.written (take n kept) → Rose before.faults after.faults → Answers words (between from to before after) Status.WriteFault
answered-cut words from to before middle after kept₀ kept n outcome = cut (order_of words) from to before middle after kept₀ kept n outcome

pub answered-other : (words : List (List ℕ)) (status : Status) (from to : SourceState) (before after : SinkState) (kept₀ kept : List ℕ) → ((outcome : Outcome) → status ≢ Status.Done outcome) → IfSome before.written (λ xs. xs ≡ []) → kept₀ ≡ [] → Answers words (between from to (keeping before kept₀) (keeping after kept)) status → Answers words (between from to before after) status
answered-other words status from to before after kept₀ kept = other (order_of words) status from to before after kept₀ kept

-- what holds in any case holds after an error
pub on_err : {V E P : Type 0} (r : Result V E) → P → OnErr r P
on_err (Ok v) p = tt
on_err (Err e) p = p

-- what follows from two facts of an error
pub on_err-map : {V E P Q R : Type 0} (r : Result V E) → OnErr r P → OnErr r Q → (P → Q → R) → OnErr r R
on_err-map (Ok v) p q follows = tt
on_err-map (Err e) p q follows = follows p q
