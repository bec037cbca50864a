-- What callers see of a table and of its ties.
use Rattle.std.specs.Prelude.{ℕ, List, Option}
use Rattle.atomic_table.specs.Seated.{TableId}
use Rattle.gt_tie.specs.declared.view.Setting.{Setting}
use Rattle.gt_tie.specs.declared.view.Place.{Place}

pub record ShownTies : Type 0 where
  pub table : TableId
  pub records : ℕ
  pub heaps : ℕ

pub record ShownBook : Type 0 where
  pub table : TableId
  pub settings : List Setting

pub record ShownRec : Type 0 where
  pub table : TableId
  pub number : ℕ
  pub due : Option ℕ
  pub period : ℕ
  pub place : Option Place

pub record ShownHeap : Type 0 where
  pub table : TableId
  pub number : ℕ
  pub keys : List (Option ℕ)
