-- The one-stream rules are lawful, and so is the sender's side.
-- Assumes nothing.
use Prim.Native.Nat.{ℕ}
use mathlib.Core.Path.{◌≡◌, refl}
use mathlib.Core.List.{[]}
use Rattle.std.specs.Prelude.{Option, Some, None}
use Rattle.stream.proofs.Keeps.{For, keeps}
use Rattle.stream.specs.Events.{send_row}
use Rattle.stream.specs.Rules.{Event, entry, time, local_pause, local_resume, report, send, ruled}
use Rattle.stream.specs.declared.State.{State}
use Rattle.stream.specs.declared.State.TheVariants.{Playing, Pausing, Paused, LocalPaused}
use Rattle.stream.specs.declared.Stream.{Stream}
use Rattle.stream.specs.declared.ReplyEntry.{ReplyEntry}
use Rattle.serving.proofs.Faithful.{AllFrom, Lawful}
use Rattle.sides.proofs.Side.{LawfulSide}
use Rattle.sender.specs.Calls.{sender}
use Rattle.sender.specs.Serve.{listed, said_of, streams}

from_own : (x : ℕ) (r : Option ReplyEntry) → For x r → AllFrom streams x (listed r)
from_own x None h = tt
from_own x (Some e) h = (h, tt)

-- Held changes nothing
held_stays : (state : State) (s : Stream) → ¬ ((send_row state s).1.0 ≡ 0) → (send_row state s).0 ≡ s
held_stays Playing s held = absurd (held refl)
held_stays (Pausing d) s held = absurd (held refl)
held_stays Paused s held = refl
held_stays LocalPaused s held = refl

-- an event that says anything but Done changes nothing and sends nothing
refused_stays : (e : Event) (s : Stream) → ¬ ((said_of e (ruled e s)).0 ≡ 0) → ((ruled e s).stream ≡ s) × (listed (ruled e s).reply ≡ [])
unfolding ruled
refused_stays (entry m p t) s refused = absurd (refused refl)
refused_stays (time t) s refused = absurd (refused refl)
refused_stays local_pause s refused = absurd (refused refl)
refused_stays local_resume s refused = absurd (refused refl)
refused_stays report s refused = absurd (refused refl)
refused_stays send s refused = (held_stays s.state s refused, refl)

pub streams_lawful : Lawful streams
streams_lawful =
    record {
      used = λ e s. (keeps e s).used;
      ssrc = λ e s. (keeps e s).ssrc;
      own = λ e s. from_own s.ssrc (ruled e s).reply (keeps e s).own;
      stays = λ e s refused. (refused_stays e s refused).0;
      quiet = λ e s refused. (refused_stays e s refused).1;
    }

pub sender_lawful : LawfulSide sender
sender_lawful = record { rules = streams_lawful; entered = λ t e. refl }
