-- Document 01, "The RTCP datagram", last paragraph: "A host may also walk a datagram's entries one at a time."
use Rattle.std.specs.Prelude.{List, ℕ, ◌+◌, ◌-◌, ◌^◌, eqb, Option}
use Rattle.std.specs.Borrow.{Bor}
use Rattle.rtcp.specs.Pick.{pick}
use Rattle.rtcp.specs.Datagram.{reading, counted}
use Rattle.rtcp.specs.Cursor.{numbered}
use Rattle.rtcp.specs.declared.Entry.{Entry}
use Rattle.walk.specs.declared.Walk.{Walk}

-- "Opening a walk checks the whole datagram." Its answer is the refusal, or how many entries there are.
abbrev pub opened : Bor (List ℕ) → Walk
opened d = record { datagram = d; number = 0; answer = counted (reading d.now) }

-- "The step with number k gives entry k in order, counted from 0, with its place and parameter length, or End when there is none."
abbrev pub gives : Walk → Option Entry
gives w = numbered (reading w.datagram.now) w.number

-- the same walk before its step with number k
abbrev pub moved : Walk → ℕ → Walk
moved w k = record { datagram = w.datagram; number = k; answer = w.answer }

abbrev pub largest : ℕ
largest = 2 ^ 64 - 1

-- the number after this one; the largest stays
abbrev pub following : ℕ → ℕ
following k = pick (eqb k largest) k (k + 1)
