-- "no reply is written": no entry of a datagram sends a message, and neither does media seen.
-- Assumes nothing.
use Rattle.std.specs.Prelude.{◌≡◌, refl, None}
use Rattle.counters.specs.declared.PauseId.{PauseId}
use Rattle.counters.specs.declared.Message.{Message}
use Rattle.counters.specs.declared.Message.TheVariants as message
use Rattle.remote.specs.Events.{paused_row, refused_row, media_row, received}
use Rattle.remote.specs.declared.State.{State}
use Rattle.remote.specs.declared.State.TheVariants.{Receiving, AskedToPause, Paused, AskedToResume}
use Rattle.remote.specs.declared.Remote.{Remote}

paused_silent : (id : PauseId) (state : State) (s : Remote) → (paused_row id state s).sent ≡ None
paused_silent id Receiving s = refl
paused_silent id (AskedToPause left) s = refl
paused_silent id Paused s = refl
paused_silent id (AskedToResume left) s = refl

refused_silent : (id : PauseId) (state : State) (s : Remote) → (refused_row id state s).sent ≡ None
refused_silent id Receiving s = refl
refused_silent id (AskedToPause left) s = refl
refused_silent id Paused s = refl
refused_silent id (AskedToResume left) s = refl

pub received_silent : (m : Message) (id : PauseId) (s : Remote) → (received m id s).sent ≡ None
received_silent message.Pause id s = refl
received_silent message.Resume id s = refl
received_silent message.Paused id s = paused_silent id s.state s
received_silent message.Refused id s = refused_silent id s.state s
received_silent message.Reserved id s = refl

pub media_silent : (state : State) (s : Remote) → (media_row state s).sent ≡ None
media_silent Receiving s = refl
media_silent (AskedToPause left) s = refl
media_silent Paused s = refl
media_silent (AskedToResume left) s = refl
