-- What a table of names knows.
use Rattle.std.specs.Prelude.{List}
use Rattle.std.specs.BTreeMap.{get_by}
use Rattle.std.specs.Cmp.Lexicographic.{slice_cmp}
use Rattle.std.specs.Ordering.{nat_cmp}
use Rattle.std.specs.declared.option.Option.{Option}
use Rattle.std.specs.declared.option.Option.TheVariants.{None, Some}
use Rattle.gt_lines.specs.Words.{NumberedLine}
use Rattle.gt_names.specs.declared.names.NameTable.{NameTable}
use Rattle.gt_names.specs.Names.{Names, find, declarations_from}

abbrev pub known : NameTable → Names
known table name = get_by (λ k. slice_cmp nat_cmp name k.now) table.map

-- a value, or else another
abbrev pub or_else : {X : Type 0} → Option X → Option X → Option X
or_else None o = o
or_else (Some x) o = Some x

-- what is known together with what lines declare that are still to be read
abbrev pub known_with : NameTable → List NumberedLine → Names
known_with table lines name = or_else (known table name) (find (declarations_from table.names table.functions lines) name)
