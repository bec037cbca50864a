-- What comes of a send, of a receive and of a close, and what each makes of the channel and of those that wait.
use Rattle.std.specs.Prelude.{ℕ, Bool, true, false, Option, Some, None, List, [], ◌∷◌, ◌++◌, length, drop, nat_lt}
use Rattle.gt_model.specs.declared.entry.Party.{Party}
use Rattle.gt_select.specs.Waiting.{Waiting, left}
use Rattle.gt_chan.specs.declared.steps.SendStep.{SendStep}
use Rattle.gt_chan.specs.declared.steps.RecvStep.{RecvStep}
use Rattle.gt_chan.specs.declared.steps.CloseStep.{CloseStep}
use Rattle.gt_chan.specs.Channel.{Channel, senders, receivers, partner_in, parked}

-- by whether it is closed, whether it has room, and which receiver takes the value
abbrev pub send_by : Bool → Bool → Option Party → SendStep
send_by true room receiver = SendStep.Closed
send_by false true receiver = SendStep.Done
send_by false false (Some q) = SendStep.With q
send_by false false None = SendStep.Park

abbrev pub send_step : Channel → Waiting → Party → SendStep
send_step ch w p =
    send_by ch.closed (nat_lt (length ch.items) ch.capacity) (partner_in ch.capacity w (receivers ch) p.g)

abbrev pub channel_after_send : SendStep → Channel → ℕ → Channel
channel_after_send SendStep.Done ch v = record ch { items = ch.items ++ v ∷ [] }
channel_after_send (SendStep.With q) ch v = ch
channel_after_send SendStep.Park ch v = ch
channel_after_send SendStep.Closed ch v = ch

abbrev pub waiters_after_send : SendStep → Channel → Waiting → Party → Waiting
waiters_after_send SendStep.Done ch w p = w
waiters_after_send (SendStep.With q) ch w p = left w q
waiters_after_send SendStep.Park ch w p = parked w (senders ch) p
waiters_after_send SendStep.Closed ch w p = w

-- by the items, whether it is closed, and which sender's value is received
abbrev pub recv_by : List ℕ → Bool → Option Party → RecvStep
recv_by (v ∷ others) closed sender = RecvStep.Got v
recv_by [] true sender = RecvStep.Zero
recv_by [] false (Some q) = RecvStep.With q
recv_by [] false None = RecvStep.Park

abbrev pub recv_step : Channel → Waiting → Party → RecvStep
recv_step ch w p = recv_by ch.items ch.closed (partner_in ch.capacity w (senders ch) p.g)

abbrev pub channel_after_recv : RecvStep → Channel → Channel
channel_after_recv (RecvStep.Got v) ch = record ch { items = drop 1 ch.items }
channel_after_recv (RecvStep.With q) ch = ch
channel_after_recv RecvStep.Zero ch = ch
channel_after_recv RecvStep.Park ch = ch

abbrev pub waiters_after_recv : RecvStep → Channel → Waiting → Party → Waiting
waiters_after_recv (RecvStep.Got v) ch w p = w
waiters_after_recv (RecvStep.With q) ch w p = left w q
waiters_after_recv RecvStep.Zero ch w p = w
waiters_after_recv RecvStep.Park ch w p = parked w (receivers ch) p

-- by whether it was closed
abbrev pub close_step : Bool → CloseStep
close_step true = CloseStep.Closed
close_step false = CloseStep.Woken
