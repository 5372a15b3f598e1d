-- Document 01, "The RTCP datagram": "The step with number k gives entry k in order, counted from 0, with its place and
-- parameter length, or End when there is none."
use Rattle.std.specs.Prelude.{ℕ, Option, None, slice_get}
use Rattle.rtcp.specs.Datagram.{Reading, refused, entries}
use Rattle.rtcp.specs.declared.Entry.{Entry}

-- entry k, or End: past the last, and of a refused datagram
abbrev pub numbered : Reading → ℕ → Option Entry
numbered (refused fault place) k = None
numbered (entries es) k = slice_get es k
