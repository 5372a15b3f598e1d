-- Document 02, "One": a message as it is written, one packet (document 01, "The RTCP datagram"). "The house SSRC stays only for request One's messages" ("Two").
use Rattle.std.specs.Prelude.{List, ℕ}
use Rattle.writer.specs.Writer.{packet_bytes}
use Rattle.remote.specs.Record.{type_of}
use Rattle.remote.specs.declared.AskEntry.{AskEntry}

abbrev pub packet_of : ℕ → AskEntry → List ℕ
packet_of house e = packet_bytes house e.target (type_of e.ask) e.id.0
