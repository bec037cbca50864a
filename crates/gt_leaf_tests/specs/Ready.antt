-- What the tests of channels keep from step to step.
use Rattle.std.specs.Prelude.{◌≡◌, None, IsSome}
use Rattle.gt_select.specs.Waiting.{Waiting, ticket_of}
use Rattle.gt_chan.specs.Channel.{Channel, HasLists}

-- the channel is made and has its lists, and goroutine 1 has no ticket, so that it never waits there
pub record IsReady (w : Waiting) (ch : Channel) : Type 0 where
  pub made : IsSome ch.world
  pub lists : HasLists w ch
  pub none : ticket_of w 1 ≡ None
