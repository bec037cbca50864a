-- The records of a run before its first entry.
use Rattle.std.specs.Prelude.{ℕ, ◌≡◌, length, slice_get}
use Rattle.std.specs.declared.option.Option.TheVariants.{Some}
use Rattle.gt_model.specs.declared.script.Script.{Script}
use Rattle.gt_model.specs.declared.script.Decl.{Decl}
use Rattle.gt_model.specs.declared.script.What.{What}
use Rattle.gt_rec.specs.declared.RecKind.{RecKind}
use Rattle.gt_rec.specs.Rec.{Rec, BitsRight}
use Rattle.gt_rec.specs.Changes.{unset_rec}
use Rattle.gt_room.specs.Contents.{Contents}

-- the records of what is no timer and no context are never set; their kind is none of their numbers'
abbrev pub kind_at : What → RecKind
kind_at What.Timer = RecKind.Timer
kind_at What.Ticker = RecKind.Ticker
kind_at (What.AfterFunc f) = RecKind.Func
kind_at (What.Chan cap) = RecKind.Func
kind_at What.Mutex = RecKind.Func
kind_at What.Wg = RecKind.Func
kind_at (What.Cond mutex) = RecKind.Func
kind_at (What.Ctx parent form) = RecKind.Deadline
kind_at (What.Hook ctx func) = RecKind.Func
kind_at What.Error = RecKind.Func
kind_at What.Function = RecKind.Func

-- each declaration has a record with nothing set
pub record AreFirst (script : Script) (records : Contents Rec) : Type 0 where
  pub many : length records.items ≡ length script.decls
  pub each : (id : ℕ) (r : Rec) (d : Decl) → slice_get records.items id ≡ Some r → slice_get script.decls id ≡ Some d → (r ≡ unset_rec id (kind_at d.what)) × BitsRight r

-- the same of the first of them
pub record AreUpTo (script : Script) (count : ℕ) (records : Contents Rec) : Type 0 where
  pub many : length records.items ≡ count
  pub each : (id : ℕ) (r : Rec) (d : Decl) → slice_get records.items id ≡ Some r → slice_get script.decls id ≡ Some d → (r ≡ unset_rec id (kind_at d.what)) × BitsRight r
