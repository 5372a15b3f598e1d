-- Document 01, "The line program": the frames. "Line is given for another first byte, a wrong length (an empty line too; for 00, under 5 bytes), a nowait byte
-- over 01".
use Rattle.std.specs.Prelude.{cond, List, ℕ, Option, Some, None, length, eqb, ltb}
use Rattle.rtcp.specs.Number.{byte, two, four}
use Rattle.frames.specs.declared.frame.Frame.{Frame}
use Rattle.frames.specs.declared.frame.Frame.TheVariants.{Datagram, Add, LocalPause, LocalResume, Time, Report, Send}

-- "00 datagram (time 4, then the bytes)"
abbrev pub datagram_frame : List ℕ → Option Frame
datagram_frame bytes = cond (ltb (length bytes) 5) None (Some (Datagram (four bytes 1)))

-- "01 add (SSRC 4, PauseID 2, sequence 2, RTT 4, dither 4, nowait 00 or 01)"
abbrev pub add_frame : List ℕ → Option Frame
add_frame bytes =
    cond (eqb (length bytes) 18)
    (cond (ltb 1 (byte bytes 17)) None
    (Some
    (Add
    (record {
      ssrc = four bytes 1;
      id = record { 0 = two bytes 5 };
      next = record { 0 = two bytes 7 };
      rtt = four bytes 9;
      dither = four bytes 13;
      nowait = eqb (byte bytes 17) 1;
    }))))
    None

-- "04 time (SSRC 4, time 4)"
abbrev pub time_frame : List ℕ → Option Frame
time_frame bytes = cond (eqb (length bytes) 9) (Some (Time (four bytes 1) (four bytes 5))) None

-- "02 local pause, 03 local resume, 05 report, 06 send (SSRC 4)"
abbrev pub local_frame : List ℕ → Option Frame
local_frame bytes =
    cond (eqb (length bytes) 5)
    (cond (eqb (byte bytes 0) 2) (Some (LocalPause (four bytes 1)))
    (cond (eqb (byte bytes 0) 3) (Some (LocalResume (four bytes 1)))
    (cond (eqb (byte bytes 0) 5) (Some (Report (four bytes 1)))
    (cond (eqb (byte bytes 0) 6) (Some (Send (four bytes 1))) None))))
    None

-- the frame of a line's bytes
unfoldable pub frame_of : List ℕ → Option Frame
frame_of bytes =
    cond (eqb (length bytes) 0) None
    (cond (eqb (byte bytes 0) 0) (datagram_frame bytes)
    (cond (eqb (byte bytes 0) 1) (add_frame bytes)
    (cond (eqb (byte bytes 0) 4) (time_frame bytes) (local_frame bytes))))
