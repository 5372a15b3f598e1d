-- Each call of a table as the call of a run that `apart` makes of it, its arguments in the order of its function.
use Rattle.std.specs.Prelude.{List, ℕ}
use Rattle.sender.specs.Calls.{Came}
use Rattle.sender.specs.Keeping.{Keeping}
use Rattle.apart.specs.Calls.{datagram, local_pause, time, report, local_resume, send, made}

module _ {A : Type 0} (K : Keeping A) (t : List A) where
  abbrev pub datagram_made : List ℕ → ℕ → List ℕ → Came A
  datagram_made bytes at buffer = made K (datagram bytes at buffer) t

  abbrev pub local_pause_made : ℕ → List ℕ → Came A
  local_pause_made ssrc buffer = made K (local_pause ssrc buffer) t

  abbrev pub time_made : ℕ → ℕ → List ℕ → Came A
  time_made ssrc at buffer = made K (time ssrc at buffer) t

  abbrev pub report_made : ℕ → List ℕ → Came A
  report_made ssrc buffer = made K (report ssrc buffer) t

  abbrev pub local_resume_made : ℕ → Came A
  local_resume_made ssrc = made K (local_resume ssrc) t

  abbrev pub send_made : ℕ → Came A
  send_made ssrc = made K (send ssrc) t
