-- Lists of entries that break a law.
use Rattle.std.specs.Prelude.{pos, negsuc, List, [], ◌∷◌, ◌++◌, true, false, codes}
use Rattle.std.specs.declared.option.Option.TheVariants.{None, Some}
use Rattle.gt_model.specs.declared.script.Script.{Script}
use Rattle.gt_model.specs.declared.script.Instr.{Instr}
use Rattle.gt_model.specs.declared.script.CaseKind.{CaseKind}
use Rattle.gt_model.specs.declared.script.What.{What}
use Rattle.gt_model.specs.declared.context.Form.{Form}
use Rattle.gt_model.specs.declared.context.CauseVal.{CauseVal}
use Rattle.gt_model.specs.declared.entry.Entry.{Entry}
use Rattle.gt_model.specs.declared.entry.Outcome.{Outcome}
use Rattle.gt_model.specs.declared.entry.Reason.{Reason}

-- func main / say 1 / say 2 / end
abbrev pub two_calls : Script
two_calls = record {
  decls = (record { name = codes "main"; what = What.Function }) ∷ [];
  funcs = (record { decl = 0; code = Instr.Say 1 ∷ Instr.Say 2 ∷ Instr.Finish ∷ [] }) ∷ [];
  main = 0;
}

-- the second call before the first; the first one twice; the second one left out
abbrev pub swapped : List Entry
swapped = Entry.Say 1 2 ∷ Entry.Say 1 1 ∷ Entry.End 1 ∷ []

abbrev pub twice : List Entry
twice = Entry.Say 1 1 ∷ Entry.Say 1 1 ∷ Entry.End 1 ∷ []

abbrev pub left_out : List Entry
left_out = Entry.Say 1 1 ∷ Entry.End 1 ∷ []

-- func main / sleep 9ns / end; func main / go main / end
abbrev pub one_sleep : Script
one_sleep = record {
  decls = (record { name = codes "main"; what = What.Function }) ∷ [];
  funcs = (record { decl = 0; code = Instr.Sleep 9 ∷ Instr.Finish ∷ [] }) ∷ [];
  main = 0;
}

abbrev pub one_start : Script
one_start = record {
  decls = (record { name = codes "main"; what = What.Function }) ∷ [];
  funcs = (record { decl = 0; code = Instr.Go 0 ∷ Instr.Finish ∷ [] }) ∷ [];
  main = 0;
}

-- func main / timer t / new t 5ns / stop t / recv t / end
abbrev pub one_wait : Script
one_wait = record {
  decls = (record { name = codes "main"; what = What.Function }) ∷ (record { name = codes "t"; what = What.Timer }) ∷ [];
  funcs = (record { decl = 0; code = Instr.New 1 5 ∷ Instr.Stop 1 ∷ Instr.Recv 1 ∷ Instr.Finish ∷ [] }) ∷ [];
  main = 0;
}

-- func main / timer t / stop t / end
abbrev pub one_stop : Script
one_stop = record {
  decls = (record { name = codes "main"; what = What.Function }) ∷ (record { name = codes "t"; what = What.Timer }) ∷ [];
  funcs = (record { decl = 0; code = Instr.Stop 1 ∷ Instr.Finish ∷ [] }) ∷ [];
  main = 0;
}

-- func main / loop 2 / say 1 / end / end
abbrev pub two_passes : Script
two_passes = record {
  decls = (record { name = codes "main"; what = What.Function }) ∷ [];
  funcs = (record { decl = 0; code = Instr.LoopTop 0 2 3 ∷ Instr.Say 1 ∷ Instr.LoopEnd 0 0 ∷ Instr.Finish ∷ [] }) ∷ [];
  main = 0;
}

-- the loop of two is passed once, and three times
abbrev pub one_pass : List Entry
one_pass = Entry.Say 1 1 ∷ Entry.End 1 ∷ []

abbrev pub third_pass : List Entry
third_pass = Entry.Say 1 1 ∷ Entry.Say 1 1 ∷ Entry.Say 1 1 ∷ []

-- a goroutine makes a call before it is started
abbrev pub unstarted : List Entry
unstarted = Entry.Say 2 1 ∷ Entry.Go 1 2 0 ∷ Entry.End 1 ∷ []

-- it falls asleep while it sleeps; the sleep is shorter than its call says
abbrev pub asleep_twice : List Entry
asleep_twice = Entry.Sleep 1 (Some 9) ∷ Entry.Sleep 1 (Some 9) ∷ []

abbrev pub cut_short : List Entry
cut_short = Entry.Sleep 1 (Some 4) ∷ Entry.Clock 0 4 ∷ Entry.Wake 1 ∷ []

-- who is awake wakes
abbrev pub wakes_awake : List Entry
wakes_awake = Entry.Wake 1 ∷ []

-- who is started has a number that is taken
abbrev pub number_twice : List Entry
number_twice = Entry.Go 1 1 0 ∷ Entry.Go 1 2 0 ∷ Entry.End 1 ∷ []

-- a timer that is made twice; one that is stopped and was not made; a panic at a call that is no misuse; a panic for another reason
abbrev pub made_twice : List Entry
made_twice = Entry.New 1 0 5 ∷ Entry.New 1 0 5 ∷ []

abbrev pub unmade : List Entry
unmade = Entry.Stop 1 1 (Some false) ∷ []

abbrev pub for_nothing : List Entry
for_nothing = Entry.Panic (record { g = 1; case_no = 0 }) Reason.Unmade ∷ []

abbrev pub for_another_reason : List Entry
for_another_reason = Entry.Panic (record { g = 1; case_no = 0 }) Reason.Twice ∷ []

-- a deadlock while a sleep goes on; a call after the end of main's function
abbrev pub given_up : List Entry
given_up = Entry.Sleep 1 (Some 9) ∷ Entry.Finish Outcome.Deadlock ∷ []

abbrev pub after_the_end : List Entry
after_the_end = Entry.Say 1 1 ∷ Entry.End 1 ∷ Entry.Say 1 2 ∷ []

-- time goes on after it; an exit before it; a limit before its count of entries
abbrev pub time_after_the_end : List Entry
time_after_the_end = Entry.End 1 ∷ Entry.Clock 0 5 ∷ []

abbrev pub exits_early : List Entry
exits_early = Entry.Say 1 1 ∷ Entry.Finish Outcome.Exit ∷ []

abbrev pub limit_early : List Entry
limit_early = Entry.Finish Outcome.Limit ∷ []

-- the clock jumps past the end of a sleep, and where main could go on
abbrev pub jumps_far : List Entry
jumps_far = Entry.Sleep 1 (Some 9) ∷ Entry.Clock 0 11 ∷ []

abbrev pub jumps_early : List Entry
jumps_early = Entry.Clock 0 9 ∷ []

-- it waits for a timer that was stopped; and time goes on without a deadlock
abbrev pub waits_in_vain : List Entry
waits_in_vain = Entry.New 1 1 5 ∷ Entry.Stop 1 1 (Some true) ∷ []

abbrev pub goes_on_in_vain : List Entry
goes_on_in_vain = waits_in_vain ++ Entry.Clock 0 9 ∷ []

-- a sleep that ends too early; a clock that falls; a clock above the greatest time, 2^63 - 1; a look at the clock that sees another time
abbrev pub early : List Entry
early = Entry.Sleep 1 (Some 9) ∷ Entry.Clock 0 8 ∷ Entry.Wake 1 ∷ []

abbrev pub falls_back : List Entry
falls_back = Entry.Clock 0 5 ∷ Entry.Clock 0 4 ∷ []

abbrev pub past_all_time : List Entry
past_all_time = Entry.Clock 0 9223372036854775808 ∷ []

abbrev pub wrong_time : List Entry
wrong_time = Entry.Clock 0 5 ∷ Entry.Now 1 6 ∷ []

-- timer t / func main / end: the law of values looks at what is declared, and not at the code
abbrev pub one_timer : Script
one_timer = record {
  decls = (record { name = codes "t"; what = What.Timer }) ∷ (record { name = codes "main"; what = What.Function }) ∷ [];
  funcs = (record { decl = 1; code = Instr.Finish ∷ [] }) ∷ [];
  main = 0;
}

-- ticker k / func main / new k 10ns / sleep 35ns / recv k / end, and a tick that is no whole number of periods later, or is two periods ahead of the clock
abbrev pub one_ticker : Script
one_ticker = record {
  decls = (record { name = codes "k"; what = What.Ticker }) ∷ (record { name = codes "main"; what = What.Function }) ∷ [];
  funcs = (record { decl = 1; code = Instr.New 0 10 ∷ Instr.Sleep 35 ∷ Instr.Recv 0 ∷ Instr.Finish ∷ [] }) ∷ [];
  main = 0;
}

abbrev pub slept_over : List Entry
slept_over = Entry.New 1 0 10 ∷ Entry.Sleep 1 (Some 35) ∷ Entry.Clock 0 35 ∷ Entry.Wake 1 ∷ []

abbrev pub off_tick : List Entry
off_tick = slept_over ++ Entry.TRecv (record { g = 1; case_no = 0 }) 0 10 (Some 45) ∷ []

abbrev pub far_tick : List Entry
far_tick = slept_over ++ Entry.TRecv (record { g = 1; case_no = 0 }) 0 10 (Some 50) ∷ []

-- a stop of a ticker that answers that it was set
abbrev pub ticker_answers : List Entry
ticker_answers = Entry.New 1 0 10 ∷ Entry.Stop 1 0 (Some true) ∷ []

-- ticker k / func main / new k 0 / end, and no panic
abbrev pub no_period : Script
no_period = record {
  decls = (record { name = codes "k"; what = What.Ticker }) ∷ (record { name = codes "main"; what = What.Function }) ∷ [];
  funcs = (record { decl = 1; code = Instr.New 0 0 ∷ Instr.Finish ∷ [] }) ∷ [];
  main = 0;
}

abbrev pub without_a_period : List Entry
without_a_period = Entry.New 1 0 0 ∷ []

-- a stop that answers that a timer which is set is not; an AfterFunc timer that fires after it was stopped
abbrev pub denied : List Entry
denied = Entry.New 1 0 1 ∷ Entry.Sleep 1 (Some 5) ∷ Entry.Clock 0 5 ∷ Entry.Wake 1 ∷ Entry.Stop 1 0 (Some false) ∷ []

abbrev pub fires_stopped : List Entry
fires_stopped = Entry.New 1 0 5 ∷ Entry.Stop 1 0 (Some true) ∷ Entry.Clock 0 5 ∷ Entry.FireFunc 0 2 ∷ []

-- a timer that is set anew, and due; a receive of the value of its first setting, which the reset ended
abbrev pub set_again : List Entry
set_again = Entry.New 1 0 1 ∷ Entry.Reset 1 0 (Some true) 15 ∷ Entry.Clock 0 15 ∷ []

abbrev pub stale : List Entry
stale = set_again ++ Entry.TRecv (record { g = 1; case_no = 0 }) 0 1 None ∷ []

-- ---- channels

-- func main / chan c 2 / make c / send c 1 / send c 2 / recv c / recv c / end
abbrev pub two_values : Script
two_values = record {
  decls = (record { name = codes "main"; what = What.Function }) ∷ (record { name = codes "c"; what = What.Chan 2 }) ∷ [];
  funcs = (record { decl = 0; code = Instr.Make 1 ∷ Instr.Send 1 1 ∷ Instr.Send 1 2 ∷ Instr.Recv 1 ∷ Instr.Recv 1 ∷ Instr.Finish ∷ [] }) ∷ [];
  main = 0;
}

-- func main / chan c 1 / make c / send c 1 / send c 2 / end
abbrev pub one_room : Script
one_room = record {
  decls = (record { name = codes "main"; what = What.Function }) ∷ (record { name = codes "c"; what = What.Chan 1 }) ∷ [];
  funcs = (record { decl = 0; code = Instr.Make 1 ∷ Instr.Send 1 1 ∷ Instr.Send 1 2 ∷ Instr.Finish ∷ [] }) ∷ [];
  main = 0;
}

-- func main / chan c 1 / make c / go f / recv c / end; func f / send c 1 / end
abbrev pub one_passed : Script
one_passed = record {
  decls = (record { name = codes "main"; what = What.Function }) ∷ (record { name = codes "c"; what = What.Chan 1 }) ∷ (record { name = codes "f"; what = What.Function }) ∷ [];
  funcs = (record { decl = 0; code = Instr.Make 1 ∷ Instr.Go 1 ∷ Instr.Recv 1 ∷ Instr.Finish ∷ [] })
      ∷ (record { decl = 2; code = Instr.Send 1 1 ∷ Instr.Finish ∷ [] }) ∷ [];
  main = 0;
}

-- func main / chan c 1 / make c / recv c / end; func main / chan c 1 / make c / close c / send c 1 / end
abbrev pub one_receive : Script
one_receive = record {
  decls = (record { name = codes "main"; what = What.Function }) ∷ (record { name = codes "c"; what = What.Chan 1 }) ∷ [];
  funcs = (record { decl = 0; code = Instr.Make 1 ∷ Instr.Recv 1 ∷ Instr.Finish ∷ [] }) ∷ [];
  main = 0;
}

abbrev pub one_close : Script
one_close = record {
  decls = (record { name = codes "main"; what = What.Function }) ∷ (record { name = codes "c"; what = What.Chan 1 }) ∷ [];
  funcs = (record { decl = 0; code = Instr.Make 1 ∷ Instr.Close 1 ∷ Instr.Send 1 1 ∷ Instr.Finish ∷ [] }) ∷ [];
  main = 0;
}

-- the values of main are sent; the second one is received before the first; the first one is received twice
abbrev pub both_sent : List Entry
both_sent = Entry.Make 1 1 ∷ Entry.Send (record { g = 1; case_no = 0 }) 1 1 ∷ Entry.Send (record { g = 1; case_no = 0 }) 1 2 ∷ []

abbrev pub overtaken : List Entry
overtaken = both_sent ++ Entry.Recv (record { g = 1; case_no = 0 }) 1 (Some 2) ∷ []

abbrev pub first_received : List Entry
first_received = both_sent ++ Entry.Recv (record { g = 1; case_no = 0 }) 1 (Some 1) ∷ []

abbrev pub received_twice : List Entry
received_twice = first_received ++ Entry.Recv (record { g = 1; case_no = 0 }) 1 (Some 1) ∷ []

-- two values in a channel for one; a value that is passed on past the room of its channel
abbrev pub overfull : List Entry
overfull = both_sent

abbrev pub passed_by : List Entry
passed_by = Entry.Make 1 1 ∷ Entry.Go 1 2 1 ∷ Entry.Pair (record { g = 2; case_no = 0 }) (record { g = 1; case_no = 0 }) 1 1 ∷ []

-- a receive that gives nothing from a channel that is open; a send after the close
abbrev pub nothing_while_open : List Entry
nothing_while_open = Entry.Make 1 1 ∷ Entry.Recv (record { g = 1; case_no = 0 }) 1 None ∷ []

abbrev pub sent_after_close : List Entry
sent_after_close = Entry.Make 1 1 ∷ Entry.Close 1 1 ∷ Entry.Send (record { g = 1; case_no = 0 }) 1 1 ∷ []

-- ---- choices

-- func main / chan c 1 / make c / send c 7 / select / case recv c / say 1 / default / say 2 / end / end
abbrev pub one_choice : Script
one_choice = record {
  decls = (record { name = codes "main"; what = What.Function }) ∷ (record { name = codes "c"; what = What.Chan 1 }) ∷ [];
  funcs = (record {
    decl = 0;
    code = Instr.Make 1 ∷ Instr.Send 1 7 ∷ Instr.Select ((record { kind = CaseKind.Recv 1; to = 3 }) ∷ []) (Some 5) ∷ Instr.Say 1 ∷ Instr.Jump 7 ∷ Instr.Say 2
        ∷ Instr.Jump 7 ∷ Instr.Finish ∷ [];
  }) ∷ [];
  main = 0;
}

-- func main / chan c 1 / make c / loop 2 / select / case recv c / say 1 / default / say 2 / end / end / end
abbrev pub choice : Instr
choice = Instr.Select ((record { kind = CaseKind.Recv 1; to = 3 }) ∷ []) (Some 5)

abbrev pub two_choices : Script
two_choices = record {
  decls = (record { name = codes "main"; what = What.Function }) ∷ (record { name = codes "c"; what = What.Chan 1 }) ∷ [];
  funcs = (record {
    decl = 0;
    code = Instr.Make 1 ∷ Instr.LoopTop 0 2 8 ∷ choice ∷ Instr.Say 1 ∷ Instr.Jump 7 ∷ Instr.Say 2 ∷ Instr.Jump 7 ∷ Instr.LoopEnd 0 1 ∷ Instr.Finish ∷ [];
  }) ∷ [];
  main = 0;
}

-- func main / chan c 1 / make c / close c / select / case recv c / default / end / end
abbrev pub one_shut : Script
one_shut = record {
  decls = (record { name = codes "main"; what = What.Function }) ∷ (record { name = codes "c"; what = What.Chan 1 }) ∷ [];
  funcs = (record {
    decl = 0;
    code = Instr.Make 1 ∷ Instr.Close 1 ∷ Instr.Select ((record { kind = CaseKind.Recv 1; to = 3 }) ∷ []) (Some 4) ∷ Instr.Jump 5 ∷ Instr.Jump 5 ∷ Instr.Finish ∷ [];
  }) ∷ [];
  main = 0;
}

-- func main / chan c 0 / make c / go f / select / case recv c / default / end / end; func f / select / case send c 1 / default / end / end
abbrev pub two_polls : Script
two_polls = record {
  decls = (record { name = codes "main"; what = What.Function }) ∷ (record { name = codes "c"; what = What.Chan 0 }) ∷ (record { name = codes "f"; what = What.Function }) ∷ [];
  funcs = (record {
    decl = 0;
    code = Instr.Make 1 ∷ Instr.Go 1 ∷ Instr.Select ((record { kind = CaseKind.Recv 1; to = 3 }) ∷ []) (Some 4) ∷ Instr.Jump 5 ∷ Instr.Jump 5 ∷ Instr.Finish ∷ [];
  })
      ∷ (record { decl = 2; code = Instr.Select ((record { kind = CaseKind.Send 1 1; to = 1 }) ∷ []) (Some 2) ∷ Instr.Jump 3 ∷ Instr.Jump 3 ∷ Instr.Finish ∷ [] }) ∷ [];
  main = 0;
}

-- func main / chan c 1 / chan d 1 / make c / select / case send c 7 / case recv d / end / end
abbrev pub one_unmade : Script
one_unmade = record {
  decls = (record { name = codes "main"; what = What.Function }) ∷ (record { name = codes "c"; what = What.Chan 1 }) ∷ (record { name = codes "d"; what = What.Chan 1 }) ∷ [];
  funcs = (record {
    decl = 0;
    code = Instr.Make 1 ∷ Instr.Select ((record { kind = CaseKind.Send 1 7; to = 2 }) ∷ (record { kind = CaseKind.Recv 2; to = 3 }) ∷ []) None ∷ Instr.Jump 4 ∷ Instr.Jump 4
        ∷ Instr.Finish ∷ [];
  }) ∷ [];
  main = 0;
}

-- a value waits in main's channel; the body of the default comes after the case; the case has the number of a plain call; the default is taken over the value
abbrev pub value_waits : List Entry
value_waits = Entry.Make 1 1 ∷ Entry.Send (record { g = 1; case_no = 0 }) 1 7 ∷ []

abbrev pub case_taken : List Entry
case_taken = value_waits ++ Entry.Recv (record { g = 1; case_no = 1 }) 1 (Some 7) ∷ []

abbrev pub other_body : List Entry
other_body = case_taken ++ Entry.Say 1 2 ∷ []

abbrev pub other_case : List Entry
other_case = value_waits ++ Entry.Recv (record { g = 1; case_no = 0 }) 1 (Some 7) ∷ []

abbrev pub over_a_value : List Entry
over_a_value = value_waits ++ Entry.Default 1 ∷ []

-- a default over a channel that was closed; a value that passes between two who both stand at choices with defaults
abbrev pub over_a_close : List Entry
over_a_close = Entry.Make 1 1 ∷ Entry.Close 1 1 ∷ Entry.Default 1 ∷ []

abbrev pub neither_waits : List Entry
neither_waits = Entry.Make 1 1 ∷ Entry.Go 1 2 1 ∷ Entry.Pair (record { g = 2; case_no = 1 }) (record { g = 1; case_no = 1 }) 1 1 ∷ []

-- the send is chosen, while the other case receives from a channel that was not made
abbrev pub beside_a_misuse : List Entry
beside_a_misuse = Entry.Make 1 1 ∷ Entry.Send (record { g = 1; case_no = 1 }) 1 7 ∷ []

-- a panic that has the number of the other case; one that has chosen the send, for a close, while its channel is open
abbrev pub for_another_case : List Entry
for_another_case = Entry.Make 1 1 ∷ Entry.Panic (record { g = 1; case_no = 1 }) Reason.Unmade ∷ []

abbrev pub for_no_close : List Entry
for_no_close = Entry.Make 1 1 ∷ Entry.Go 1 2 1 ∷ Entry.Panic (record { g = 2; case_no = 1 }) Reason.Closed ∷ []

-- ---- mutexes, Conds and WaitGroups

-- func main / mutex m / cond k m / go f / lock m / cwait k / unlock m / end; func f / lock m / signal k / signal k / unlock m / end
abbrev pub one_cond : Script
one_cond = record {
  decls = (record { name = codes "main"; what = What.Function }) ∷ (record { name = codes "m"; what = What.Mutex }) ∷ (record { name = codes "k"; what = What.Cond 1 })
      ∷ (record { name = codes "f"; what = What.Function }) ∷ [];
  funcs = (record { decl = 0; code = Instr.Go 1 ∷ Instr.Lock 1 ∷ Instr.CWait 2 ∷ Instr.Unlock 1 ∷ Instr.Finish ∷ [] })
      ∷ (record { decl = 3; code = Instr.Lock 1 ∷ Instr.Signal 2 ∷ Instr.Signal 2 ∷ Instr.Unlock 1 ∷ Instr.Finish ∷ [] }) ∷ [];
  main = 0;
}

-- main waits at the Cond, and f has the mutex; then f signals main
abbrev pub waits : List Entry
waits = Entry.Go 1 2 1 ∷ Entry.Lock 1 1 ∷ Entry.CondWait 1 2 ∷ Entry.Lock 2 1 ∷ []

abbrev pub is_signalled : List Entry
is_signalled = waits ++ Entry.Signal 2 2 (Some 1) ∷ []

-- f signals nobody, though main waits; it signals main, which was signalled before; its broadcast says that two were waiting
abbrev pub nobody_signalled : List Entry
nobody_signalled = waits ++ Entry.Signal 2 2 None ∷ []

abbrev pub signalled_twice : List Entry
signalled_twice = is_signalled ++ Entry.Signal 2 2 (Some 1) ∷ []

abbrev pub miscounted : List Entry
miscounted = waits ++ Entry.Broadcast 2 2 2 ∷ []

-- main goes on behind its wait without a signal; it does so twice; it has the mutex, which f has; it waits without the mutex
abbrev pub wakes_unsignalled : List Entry
wakes_unsignalled = Entry.Go 1 2 1 ∷ Entry.Lock 1 1 ∷ Entry.CondWait 1 2 ∷ Entry.CondWake 1 2 ∷ []

abbrev pub is_woken : List Entry
is_woken = is_signalled ++ Entry.Unlock 2 1 ∷ Entry.CondWake 1 2 ∷ []

abbrev pub wakes_twice : List Entry
wakes_twice = is_woken ++ Entry.CondWake 1 2 ∷ []

abbrev pub woken_over_a_lock : List Entry
woken_over_a_lock = is_signalled ++ Entry.CondWake 1 2 ∷ []

abbrev pub without_a_lock : List Entry
without_a_lock = Entry.Go 1 2 1 ∷ Entry.CondWait 1 2 ∷ []

-- mutex 1 is locked by two; and unlocked where it is free
abbrev pub two_hold : List Entry
two_hold = Entry.Go 1 2 1 ∷ Entry.Lock 1 1 ∷ Entry.Lock 2 1 ∷ []

abbrev pub unlocked_free : List Entry
unlocked_free = Entry.Lock 1 1 ∷ Entry.Unlock 1 1 ∷ Entry.Unlock 1 1 ∷ []

-- a wait for WaitGroup 1 goes on at 1; and -1 is added to it at 0
abbrev pub above_zero : List Entry
above_zero = Entry.Add 1 1 (pos 1) ∷ Entry.WgWait 1 1 ∷ []

abbrev pub below_zero : List Entry
below_zero = Entry.Add 1 1 (pos 1) ∷ Entry.Add 1 1 (negsuc 0) ∷ Entry.Add 1 1 (negsuc 0) ∷ []

-- ---- contexts

-- error e / error f / ctx x root cause / func main / with x / cancel x e / cancel x f / cause x / end
abbrev pub two_causes : Script
two_causes = record {
  decls = (record { name = codes "e"; what = What.Error }) ∷ (record { name = codes "f"; what = What.Error }) ∷ (record { name = codes "x"; what = What.Ctx None Form.Cause })
      ∷ (record { name = codes "main"; what = What.Function }) ∷ [];
  funcs = (record { decl = 3; code = Instr.With 2 ∷ Instr.Cancel 2 (Some 0) ∷ Instr.Cancel 2 (Some 1) ∷ Instr.CauseOf 2 ∷ Instr.Finish ∷ [] }) ∷ [];
  main = 0;
}

-- x is canceled twice; the second cancellation says that it brought the end; or its cause overwrites the first one
abbrev pub is_canceled : List Entry
is_canceled = Entry.CtxMake 1 2 false ∷ Entry.Cancel 1 2 true 0 ∷ []

abbrev pub ends_twice : List Entry
ends_twice = is_canceled ++ Entry.Cancel 1 2 true 0 ∷ []

abbrev pub canceled_twice : List Entry
canceled_twice = is_canceled ++ Entry.Cancel 1 2 false 0 ∷ []

abbrev pub overwritten : List Entry
overwritten = canceled_twice ++ Entry.Cause 1 2 (Some (CauseVal.Named 1)) ∷ []

-- a look that shows nothing of an end that came; one that shows a cause before the end; a wait that ends before it; two looks that show two causes
abbrev pub shows_nothing : List Entry
shows_nothing = is_canceled ++ Entry.CtxErr 1 2 None ∷ []

abbrev pub shows_early : List Entry
shows_early = Entry.CtxMake 1 2 false ∷ Entry.Cause 1 2 (Some (CauseVal.Named 0)) ∷ []

abbrev pub found_early : List Entry
found_early = Entry.CtxMake 1 2 false ∷ Entry.CtxDone (record { g = 1; case_no = 0 }) 2 ∷ []

abbrev pub shows_two : List Entry
shows_two = canceled_twice ++ Entry.Cause 1 2 (Some (CauseVal.Named 0)) ∷ Entry.Cause 1 2 (Some (CauseVal.Named 1)) ∷ []

-- ctx x root timeout 5ns / ctx y x timeout 9ns / func main / with x / with y / sleep 9ns / cancel x / end
abbrev pub two_deadlines : Script
two_deadlines = record {
  decls = (record { name = codes "x"; what = What.Ctx None (Form.Timeout 5 None) }) ∷ (record { name = codes "y"; what = What.Ctx (Some 0) (Form.Timeout 9 None) })
      ∷ (record { name = codes "main"; what = What.Function }) ∷ [];
  funcs = (record { decl = 2; code = Instr.With 0 ∷ Instr.With 1 ∷ Instr.Sleep 9 ∷ Instr.Cancel 0 None ∷ Instr.Finish ∷ [] }) ∷ [];
  main = 0;
}

abbrev pub both_made : List Entry
both_made = Entry.CtxMake 1 0 false ∷ Entry.CtxMake 1 1 false ∷ Entry.Sleep 1 (Some 9) ∷ []

-- x expires before its deadline; y expires by its own, though that of x is earlier; and x expires twice
abbrev pub almost_due : List Entry
almost_due = both_made ++ Entry.Clock 0 4 ∷ []

abbrev pub expires_early : List Entry
expires_early = almost_due ++ Entry.Expire 0 0 ∷ []

abbrev pub slept_past : List Entry
slept_past = both_made ++ Entry.Clock 0 9 ∷ []

abbrev pub expires_below : List Entry
expires_below = slept_past ++ Entry.Expire 1 0 ∷ []

abbrev pub has_expired : List Entry
has_expired = slept_past ++ Entry.Expire 0 0 ∷ []

abbrev pub expires_twice : List Entry
expires_twice = has_expired ++ Entry.Expire 0 0 ∷ []

-- below x, which was canceled, y is made without an end
abbrev pub ended_above : List Entry
ended_above = Entry.CtxMake 1 0 false ∷ Entry.Cancel 1 0 true 0 ∷ []

abbrev pub made_live : List Entry
made_live = ended_above ++ Entry.CtxMake 1 1 false ∷ []

-- y is made before its parent; and x is made twice
abbrev pub made_above : List Entry
made_above = Entry.CtxMake 1 1 false ∷ []

abbrev pub context_twice : List Entry
context_twice = Entry.CtxMake 1 0 false ∷ Entry.CtxMake 1 0 false ∷ []

-- ---- hooks

-- ctx x root cancel / hook s x f / func main / with x / after s / unhook s / cancel x / end; func f / end
abbrev pub one_hook : Script
one_hook = record {
  decls = (record { name = codes "x"; what = What.Ctx None Form.Cancel }) ∷ (record { name = codes "s"; what = What.Hook 0 1 }) ∷ (record { name = codes "main"; what = What.Function })
      ∷ (record { name = codes "f"; what = What.Function }) ∷ [];
  funcs = (record { decl = 2; code = Instr.With 0 ∷ Instr.After 1 ∷ Instr.Unhook 1 ∷ Instr.Cancel 0 None ∷ Instr.Finish ∷ [] })
      ∷ (record { decl = 3; code = Instr.Finish ∷ [] }) ∷ [];
  main = 0;
}

-- s waits; it was taken back; its context ends and starts it
abbrev pub hook_waits : List Entry
hook_waits = Entry.CtxMake 1 0 false ∷ Entry.CtxAfter 1 1 None ∷ []

abbrev pub hook_stopped : List Entry
hook_stopped = hook_waits ++ Entry.CtxStop 1 1 true ∷ []

abbrev pub hook_started : List Entry
hook_started = hook_waits ++ Entry.Cancel 1 0 true 1 ∷ []

-- a hook that was taken back starts; one that waits is left out, and its taking back is denied; one that was started starts again, and is taken back
abbrev pub starts_stopped : List Entry
starts_stopped = hook_stopped ++ Entry.Cancel 1 0 true 1 ∷ []

abbrev pub hook_left_out : List Entry
hook_left_out = hook_waits ++ Entry.Cancel 1 0 true 0 ∷ []

abbrev pub stop_denied : List Entry
stop_denied = hook_waits ++ Entry.CtxStop 1 1 false ∷ []

abbrev pub starts_again : List Entry
starts_again = hook_started ++ Entry.Cancel 1 0 false 1 ∷ []

abbrev pub stopped_late : List Entry
stopped_late = hook_started ++ Entry.CtxStop 1 1 true ∷ []

-- one that is registered starts before the end, or waits after it; one that was taken back is registered again
abbrev pub starts_early : List Entry
starts_early = Entry.CtxMake 1 0 false ∷ Entry.CtxAfter 1 1 (Some 2) ∷ []

abbrev pub waits_late : List Entry
waits_late = Entry.CtxMake 1 0 false ∷ Entry.Cancel 1 0 true 0 ∷ Entry.CtxAfter 1 1 None ∷ []

abbrev pub registered_again : List Entry
registered_again = hook_stopped ++ Entry.CtxAfter 1 1 None ∷ []

-- one is taken back that was not registered
abbrev pub stopped_unregistered : List Entry
stopped_unregistered = Entry.CtxMake 1 0 false ∷ Entry.CtxStop 1 1 false ∷ []

-- the same, with another call: func main / with x / after s / cancel x / go f / end. Who is started next has the number of the one that the hook started
abbrev pub hook_and_start : Script
hook_and_start = record one_hook {
  funcs = (record { decl = 2; code = Instr.With 0 ∷ Instr.After 1 ∷ Instr.Cancel 0 None ∷ Instr.Go 1 ∷ Instr.Finish ∷ [] }) ∷ (record { decl = 3; code = Instr.Finish ∷ [] }) ∷ [];
}

abbrev pub number_of_a_hook : List Entry
number_of_a_hook = hook_started ++ Entry.Go 1 2 1 ∷ []
