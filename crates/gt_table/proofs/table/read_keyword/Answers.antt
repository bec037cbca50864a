use Rattle.std.proofs.Common.{rules, ◌≡◌, codes, List, ℕ, arith}
use Rattle.std.proofs.lemmas.Slice.Eq.{text_from_reads}
use Rattle.gt_table.proofs.table.read_keyword.Goals as goal

pub returns-in-timer : goal.returns-in-timer
returns-in-timer c =
    let word : List ℕ = c.args.word.now in
    let is : word ≡ codes "timer" = text_from_reads word (codes "timer") (omega arith) (search rules) in
    rw is

pub returns-in-afterfunc : goal.returns-in-afterfunc
returns-in-afterfunc c =
    let word : List ℕ = c.args.word.now in
    let is : word ≡ codes "afterfunc" = text_from_reads word (codes "afterfunc") (omega arith) (search rules) in
    rw is

pub returns-in-ticker : goal.returns-in-ticker
returns-in-ticker c =
    let word : List ℕ = c.args.word.now in
    let is : word ≡ codes "ticker" = text_from_reads word (codes "ticker") (omega arith) (search rules) in
    rw is

pub returns-in-mutex : goal.returns-in-mutex
returns-in-mutex c =
    let word : List ℕ = c.args.word.now in
    let is : word ≡ codes "mutex" = text_from_reads word (codes "mutex") (omega arith) (search rules) in
    rw is

pub returns-in-reset : goal.returns-in-reset
returns-in-reset c =
    let word : List ℕ = c.args.word.now in
    let is : word ≡ codes "reset" = text_from_reads word (codes "reset") (omega arith) (search rules) in
    rw is

pub returns-in-close : goal.returns-in-close
returns-in-close c =
    let word : List ℕ = c.args.word.now in
    let is : word ≡ codes "close" = text_from_reads word (codes "close") (omega arith) (search rules) in
    rw is

pub returns-in-sleep : goal.returns-in-sleep
returns-in-sleep c =
    let word : List ℕ = c.args.word.now in
    let is : word ≡ codes "sleep" = text_from_reads word (codes "sleep") (omega arith) (search rules) in
    rw is

pub returns-in-select : goal.returns-in-select
returns-in-select c =
    let word : List ℕ = c.args.word.now in
    let is : word ≡ codes "select" = text_from_reads word (codes "select") (omega arith) (search rules) in
    rw is

pub returns-in-unlock : goal.returns-in-unlock
returns-in-unlock c =
    let word : List ℕ = c.args.word.now in
    let is : word ≡ codes "unlock" = text_from_reads word (codes "unlock") (omega arith) (search rules) in
    rw is

pub returns-in-cwait : goal.returns-in-cwait
returns-in-cwait c =
    let word : List ℕ = c.args.word.now in
    let is : word ≡ codes "cwait" = text_from_reads word (codes "cwait") (omega arith) (search rules) in
    rw is

pub returns-in-signal : goal.returns-in-signal
returns-in-signal c =
    let word : List ℕ = c.args.word.now in
    let is : word ≡ codes "signal" = text_from_reads word (codes "signal") (omega arith) (search rules) in
    rw is

pub returns-in-broadcast : goal.returns-in-broadcast
returns-in-broadcast c =
    let word : List ℕ = c.args.word.now in
    let is : word ≡ codes "broadcast" = text_from_reads word (codes "broadcast") (omega arith) (search rules) in
    rw is

-- `default`
pub returns-in-100 : goal.returns-in-100
returns-in-100 c =
    let word : List ℕ = c.args.word.now in
    let is : word ≡ codes "default" = text_from_reads word (codes "default") (omega arith) (search rules) in
    rw is

pub returns-in-error : goal.returns-in-error
returns-in-error c =
    let word : List ℕ = c.args.word.now in
    let is : word ≡ codes "error" = text_from_reads word (codes "error") (omega arith) (search rules) in
    rw is

pub returns-in-cause : goal.returns-in-cause
returns-in-cause c =
    let word : List ℕ = c.args.word.now in
    let is : word ≡ codes "cause" = text_from_reads word (codes "cause") (omega arith) (search rules) in
    rw is

pub returns-in-after : goal.returns-in-after
returns-in-after c =
    let word : List ℕ = c.args.word.now in
    let is : word ≡ codes "after" = text_from_reads word (codes "after") (omega arith) (search rules) in
    rw is

pub returns-in-unhook : goal.returns-in-unhook
returns-in-unhook c =
    let word : List ℕ = c.args.word.now in
    let is : word ≡ codes "unhook" = text_from_reads word (codes "unhook") (omega arith) (search rules) in
    rw is
