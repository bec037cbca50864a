-- What seats know, and how each of their steps changes it.
use Rattle.std.specs.Prelude.{ℕ, ◌+◌, ◌*◌, ◌==◌, ◌≡◌, ◌<◌, ◌≤◌, ◌⊎◌, nat_lt, true, false, ◌&&◌, if◌then◌else◌, List, length, slice_index_or, slice_set, Some}
use Rattle.std.specs.Option.{option_map}
use Rattle.gt_word_table.specs.declared.view.Load.{Load}
use Rattle.gt_word_table.specs.declared.view.Note.{Note}
use Rattle.gt_word_table.specs.declared.view.Worker.{Worker}
use Rattle.gt_word_table.specs.declared.view.Phase.{Phase}
use Rattle.gt_word_table.specs.declared.worker.Wake.{Wake}

-- a word that was never loaded
abbrev pub no_load : Load
no_load = record { word = 0; loads = 0 }

abbrev pub load_at : List Load → ℕ → Load
load_at loads q = slice_index_or loads q no_load

-- one more load of heap q's word, which gave n
abbrev pub loaded : List Load → ℕ → ℕ → List Load
loaded loads q n = slice_set loads q (record { word = n; loads = (load_at loads q).loads + 1 })

abbrev pub with_count : Worker → ℕ → ℕ → Worker
with_count w q n = record w { counts = loaded w.counts q n }

-- a modified word above the note at its heap has passed it
abbrev pub passed_at : ℕ → ℕ → Note → Note
passed_at q n m = if m.heap == q then record m { passed = nat_lt m.when n } else m

abbrev pub with_mod : Worker → ℕ → ℕ → Worker
with_mod w q n = record w { mods = loaded w.mods q n; note = option_map (passed_at q n) w.note }

-- where the heap word is above it too, the count has risen
abbrev pub behind_at : ℕ → ℕ → Note → Note
behind_at q n m = if m.heap == q && (m.passed && nat_lt m.when n) then record m { behind = true } else m

abbrev pub with_heap : Worker → ℕ → ℕ → Worker
with_heap w q n = record w { heaps = loaded w.heaps q n; note = option_map (behind_at q n) w.note }

-- a note, with the count of its heap as it was loaded last
abbrev pub with_note : Worker → ℕ → ℕ → Worker
with_note w q when =
    record w { note = Some (record { heap = q; when = when; count = (load_at w.counts q).word; passed = false; behind = false }) }

-- a phase after the heap word was lowered to v
abbrev pub lowered : Phase → ℕ → Phase
lowered (Phase.Seen u) v = if u == v then Phase.Low u else Phase.Seen u
lowered Phase.Free v = Phase.Free
lowered (Phase.Low u) v = Phase.Low u
lowered Phase.Cleared v = Phase.Cleared
lowered Phase.Bumped v = Phase.Bumped

-- a worker knows something of each heap, where each heap has three of these words
pub record IsSized (words : ℕ) (w : Worker) : Type 0 where
  pub counts : 3 * length w.counts ≡ words
  pub mods : 3 * length w.mods ≡ words
  pub heaps : 3 * length w.heaps ≡ words

-- what a worker found answers a note: it is not below what was found, or the heap was looked through since
abbrev pub AnswersNote : Wake → Note → Type 0
AnswersNote wake m = (wake.at ≤ m.when) ⊎ (m.count < wake.count)
