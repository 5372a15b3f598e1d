-- Document 01, "The line program": a frame served on a table, with a reply buffer lent.
use Rattle.std.specs.Prelude.{List, ℕ, Option, Some, None, drop}
use Rattle.stream.specs.Rules.{Event, time, local_pause, local_resume, report, send}
use Rattle.sender.specs.Calls.{Came, datagram_call, reply_call, quiet_call, add_call}
use Rattle.rows.specs.Rows.{rows}
use Rattle.frames.specs.Output.{case_head, datagram_head, reply_head, quiet_head, number_head}
use Rattle.frames.specs.Frame.{frame_of}
use Rattle.frames.specs.declared.answer.Head.{Head}
use Rattle.frames.specs.declared.frame.Adding.{Adding}
use Rattle.frames.specs.declared.frame.Frame.{Frame}
use Rattle.frames.specs.declared.frame.Frame.TheVariants.{Datagram, Add, LocalPause, LocalResume, Time, Report, Send}

-- the rows of the table
abbrev pub Table : Type 0
Table = List (List ℕ)

-- what a frame leads to: the table and the reply buffer after it, and the head of its answer
pub record Served : Type 0 where
  pub table : Table
  pub reply : List ℕ
  pub head : Head

-- a call that came back, with the head of what it said
abbrev pub came : (ℕ × List ℕ → Head) → Came (List ℕ) → Served
came head c = record { table = c.table; reply = c.buffer; head = head c.said }

-- the same of a call that is lent no buffer
abbrev pub came_quietly : (ℕ × List ℕ → Head) → Came (List ℕ) → List ℕ → Served
came_quietly head c reply = record { table = c.table; reply = reply; head = head c.said }

-- a datagram is the frame's bytes after the time
abbrev pub datagram_served : ℕ → List ℕ → Table → List ℕ → Served
datagram_served t bytes rs reply = came datagram_head (datagram_call rows (drop 5 bytes) t rs reply)

abbrev pub adding : Adding → Table → List ℕ → Served
adding a rs reply =
    came_quietly quiet_head (add_call rows a.ssrc a.id a.next a.rtt a.dither a.nowait rs) reply

abbrev pub replying : Event → ℕ → Table → List ℕ → Served
replying event ssrc rs reply = came reply_head (reply_call rows event ssrc rs reply)

abbrev pub resuming : ℕ → Table → List ℕ → Served
resuming ssrc rs reply = came_quietly quiet_head (quiet_call rows local_resume ssrc rs) reply

abbrev pub sending : ℕ → Table → List ℕ → Served
sending ssrc rs reply = came_quietly number_head (quiet_call rows send ssrc rs) reply

-- case 17, Line
abbrev pub unframed : Table → List ℕ → Served
unframed rs reply = record { table = rs; reply = reply; head = case_head 17 0 }

abbrev pub served : Option Frame → List ℕ → Table → List ℕ → Served
served (Some (Datagram t)) bytes rs reply = datagram_served t bytes rs reply
served (Some (Add a)) bytes rs reply = adding a rs reply
served (Some (LocalPause ssrc)) bytes rs reply = replying local_pause ssrc rs reply
served (Some (LocalResume ssrc)) bytes rs reply = resuming ssrc rs reply
served (Some (Time ssrc t)) bytes rs reply = replying (time t) ssrc rs reply
served (Some (Report ssrc)) bytes rs reply = replying report ssrc rs reply
served (Some (Send ssrc)) bytes rs reply = sending ssrc rs reply
served None bytes rs reply = unframed rs reply

unfoldable pub bytes_served : List ℕ → Table → List ℕ → Served
bytes_served bytes t reply = served (frame_of bytes) bytes t reply
