-- What a call of the program saw and did.
use Rattle.std.specs.Prelude.{◌≡◌, ℕ, ◌≤◌, List, [], length, Option, Some, IfSome}
use Rattle.gt_io.specs.Counts.{RoseBy}

-- the most bytes that an input may have: 64 MiB
abbrev pub input_limit : ℕ
input_limit = 67108864

-- a source: the bytes that are left, where it tells them, how often it failed, and how many bytes it gave
pub record SourceState : Type 0 where
  pub left : Option (List ℕ)
  pub faults : ℕ
  pub given : ℕ

-- a sink: the bytes that were written, where it tells them, and how often it failed
pub record SinkState : Type 0 where
  pub written : Option (List ℕ)
  pub faults : ℕ

-- the source and the sink, before the call and after it
pub record Call : Type 0 where
  pub source_before : SourceState
  pub source_after : SourceState
  pub sink_before : SinkState
  pub sink_after : SinkState

abbrev pub source_state : {S : Type 0} → (S → Option (List ℕ)) → (S → ℕ) → (S → ℕ) → S → SourceState
source_state left faults given s = record { left = left s; faults = faults s; given = given s }

abbrev pub sink_state : {K : Type 0} → (K → Option (List ℕ)) → (K → ℕ) → K → SinkState
sink_state written faults k = record { written = written k; faults = faults k }

abbrev pub call_of : {S K : Type 0} → (S → Option (List ℕ)) → (S → ℕ) → (S → ℕ) → (K → Option (List ℕ)) → (K → ℕ) → S → S → K → K → Call
call_of left faults given written sink_faults s s' k k' = record {
  source_before = source_state left faults given s;
  source_after = source_state left faults given s';
  sink_before = sink_state written sink_faults k;
  sink_after = sink_state written sink_faults k';
}

-- these bytes were read, within the limit. They are all that the source had, where it tells that
pub record ReadsAll (before after : SourceState) (bytes : List ℕ) : Type 0 where
  pub short : length bytes ≤ input_limit
  pub given : RoseBy (length bytes) before.given after.given
  pub told : IfSome before.left (λ left. (bytes ≡ left) × (after.left ≡ Some []))

-- the call left both as they were
pub record IsUntouched (c : Call) : Type 0 where
  pub source : c.source_after ≡ c.source_before
  pub sink : c.sink_after ≡ c.sink_before
