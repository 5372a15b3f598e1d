-- The datagram call from how the datagram opens: a refused one runs no entry and writes no byte, an accepted one runs them all.
-- Assumes nothing.
use Rattle.std.proofs.Common.{◌≡◌, ℕ, Bool, true, false, cond, Result, Ok, Err, List, length, take, sym, refl, subst, arith, take_all}
use Rattle.rtcp.specs.Datagram.{counted, reading}
use Rattle.rtcp.specs.declared.Entry.{Entry}
use Rattle.rtcp.specs.declared.Refusal.{Refusal}
use Rattle.sides.specs.code.Counted.{entries_of}
use Rattle.sender.specs.Said.{datagram_said}
use Rattle.sender.specs.Calls.{datagram_call, no_room, wrong_size}
use Rattle.sender.specs.Keeping.{Keeping}
use Rattle.sender.specs.Serve.{Between, turns, starts}
use Rattle.sender.specs.declared.DatagramRefusal.{DatagramRefusal}
use Rattle.sender.specs.declared.DatagramRefusal.TheVariants as refusal
use Rattle.decide.specs.code.Turning.{Accepted, Through}
use Rattle.decide.specs.declared.datagram.Turning.{Turning}
use Rattle.decide.proofs.Called.{datagram_size, datagram_refused, datagram_room, datagram_accepted, datagram_done_lem}
use Rattle.decide.specs.code.Decide.{opened, opened_by, roomed}

module _ {A : Type 0} (K : Keeping A) (d : List ℕ) (time : ℕ) (t : List A) (buffer : List ℕ) where
  -- what stands after n entries
  abbrev now : ℕ → Between A
  now n = turns K time (starts t) (take n (entries_of (reading d)))

  -- what the call leaves that runs an accepted datagram
  abbrev Runs : ℕ → Type 0
  Runs n =
      (r : Turning) (table : List A) (bytes : List ℕ) → Through (now n) buffer r table bytes
      → datagram_call K d time t buffer ≡ record { said = datagram_said (Ok (record { length = r.written; entries = n; unknown = r.unknown })); table = table; buffer = bytes }

  -- the call with a datagram that is judged so
  abbrev Way : Result ℕ DatagramRefusal → Type 0
  Way (Err x) = datagram_call K d time t buffer ≡ record { said = datagram_said (Err x); table = t; buffer = buffer }
  Way (Ok n) = Accepted d n (length buffer) × Runs n

  runs_all : wrong_size (length t) ≡ false → (n : ℕ) → Ok n ≡ counted (reading d) → no_room n (length buffer) ≡ false → Way (Ok n)
  runs_all fits n count room = (ok, λ r table bytes through. datagram_done_lem K d time t buffer fits n count room r table bytes (whole r table bytes through))
    where
      ok : Accepted d n (length buffer)
      ok = datagram_accepted K d time t buffer fits n count room

      whole : (r : Turning) (table : List A) (bytes : List ℕ) → Through (now n) buffer r table bytes → Through (turns K time (starts t) (entries_of (reading d))) buffer r table bytes
      whole r table bytes through = subst (λ (es : List Entry). Through (turns K time (starts t) es) buffer r table bytes) (take_all n (entries_of (reading d)) (rw ok.counted.count (omega arith))) through

  by_room : wrong_size (length t) ≡ false → (n : ℕ) → Ok n ≡ counted (reading d) → (b : Bool) → no_room n (length buffer) ≡ b → Way (cond b (Err refusal.Room) (Ok n))
  by_room fits n count true e = datagram_room K d time t buffer fits n count e
  by_room fits n count false e = runs_all fits n count e

  by_check : wrong_size (length t) ≡ false → (c : Result ℕ Refusal) → c ≡ counted (reading d) → Way (roomed (opened_by c) (length buffer))
  by_check fits (Err x) e = datagram_refused K d time t buffer fits x e
  by_check fits (Ok n) e = by_room fits n e (no_room n (length buffer)) refl

  by_size : (b : Bool) → wrong_size (length t) ≡ b → Way (roomed (cond b (Err refusal.Size) (opened_by (counted (reading d)))) (length buffer))
  by_size true e = datagram_size K d time t buffer e
  by_size false e = by_check e (counted (reading d)) refl

  -- a call's promise, from what open, with_room and run each promise
  module _ (o : Result ℕ DatagramRefusal) (checks : o ≡ opened (length t) (counted (reading d))) where
    its_way : (r : Result ℕ DatagramRefusal) → r ≡ roomed o (length buffer) → Way r
    its_way r p = subst Way (sym p) (subst (λ (x : Result ℕ DatagramRefusal). Way (roomed x (length buffer))) (sym checks) (by_size (wrong_size (length t)) refl))

    -- refused, for what opens or for the room
    pub declined_by : (x : DatagramRefusal) → Err x ≡ roomed o (length buffer)
        → datagram_call K d time t buffer ≡ record { said = datagram_said (Err x); table = t; buffer = buffer }
    declined_by x p = its_way (Err x) p

    module _ (m : ℕ) (p : Ok m ≡ roomed o (length buffer)) where
      pub accepted_by : Accepted d m (length buffer)
      accepted_by = (its_way (Ok m) p).0

      pub datagram_by : (r : Turning) (table : List A) (bytes : List ℕ) → Through (now m) buffer r table bytes
          → datagram_call K d time t buffer ≡ record { said = datagram_said (Ok (record { length = r.written; entries = m; unknown = r.unknown })); table = table; buffer = bytes }
      datagram_by = (its_way (Ok m) p).1

  pub refused_by : (x : DatagramRefusal) → Err x ≡ opened (length t) (counted (reading d))
      → datagram_call K d time t buffer ≡ record { said = datagram_said (Err x); table = t; buffer = buffer }
  refused_by x checks = declined_by (Err x) checks x refl

  pub short_by : (n : ℕ) → Ok n ≡ opened (length t) (counted (reading d)) → (x : DatagramRefusal) → Err x ≡ roomed (Ok n) (length buffer)
      → datagram_call K d time t buffer ≡ record { said = datagram_said (Err x); table = t; buffer = buffer }
  short_by n checks x p = declined_by (Ok n) checks x p
