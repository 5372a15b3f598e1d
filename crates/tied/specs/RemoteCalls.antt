-- Each call of the receiver's table as the call of a run that `remote_apart` makes of it, its arguments in the order of its function. A datagram and media seen name
-- no house; they are calls of a run from any.
use Rattle.std.specs.Prelude.{List, ℕ}
use Rattle.receiver.specs.Calls.{Came}
use Rattle.receiver.specs.Keeping.{Keeping}
use Rattle.remote_apart.specs.Calls.{datagram, ask_to_pause, ask_to_resume, report, media_seen, made}

module _ {A : Type 0} (K : Keeping A) (t : List A) where
  abbrev pub datagram_made : List ℕ → ℕ → Came A
  datagram_made bytes house = made K house (datagram bytes) t

  abbrev pub ask_to_pause_made : ℕ → List ℕ → ℕ → Came A
  ask_to_pause_made ssrc buffer house = made K house (ask_to_pause ssrc buffer) t

  abbrev pub ask_to_resume_made : ℕ → List ℕ → ℕ → Came A
  ask_to_resume_made ssrc buffer house = made K house (ask_to_resume ssrc buffer) t

  abbrev pub report_made : ℕ → List ℕ → ℕ → Came A
  report_made ssrc buffer house = made K house (report ssrc buffer) t

  abbrev pub media_seen_made : ℕ → ℕ → Came A
  media_seen_made ssrc house = made K house (media_seen ssrc) t
