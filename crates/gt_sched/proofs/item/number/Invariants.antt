use Rattle.std.proofs.Common.{◌≡◌, ◌-◌, ◌^◌, min, take, true}
use Rattle.std.specs.List.{list_all}
use Rattle.std.specs.Char.{is_ascii_digit}
use Rattle.gt_sched.specs.Numbers.{value_of}
use Rattle.gt_sched.proofs.item.number.Given as goal

abbrev pub invariant-loop-digit : goal.invariant-loop-digit
invariant-loop-digit l = record {
  value : l.value ≡ min (value_of (take l.digit-index l.bytes)) (2 ^ 64 - 1);
  digits : list_all is_ascii_digit (take l.digit-index l.bytes) ≡ true;
}
