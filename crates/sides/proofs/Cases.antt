-- Each case of a datagram call and of a local call, in the document's order: which it is, exactly when it is given, and that a refusal leaves the table and the
-- buffer as they were lent.
-- Assumes nothing.
use Prim.Native.Nat.{ℕ}
use mathlib.Core.Path.{◌≡◌, ap, ◌∙◌}
use mathlib.Core.Bool.{true, false, not, ◌&&◌}
use mathlib.Core.List.{List}
use lib.ListN.{length}
use Rattle.rtcp.specs.Said.{number}
use Rattle.rtcp.specs.Datagram.{Reading, refused, entries, reading}
use Rattle.rtcp.specs.declared.Entry.{Entry}
use Rattle.rtcp.specs.declared.Fault.{Fault}
use Rattle.serving.specs.Keeping.{Keeping}
use Rattle.serving.specs.Serve.{answers, serve}
use Rattle.sides.specs.Calls.{Side, wrong_size, refusal, finished, after_reading, datagram_call, spoken, allowed, local_call}
use Rattle.sides.specs.Entries.{starts, turns}
use Rattle.sides.proofs.Chain.{accepted}
use Rattle.sides.proofs.Chain

module _ {S E R A : Type 0} (D : Side S E R) (K : Keeping S A) (t : List A) (buffer : List ℕ) where
  module _ (bytes : List ℕ) (time : ℕ) where
    -- 11, Size
    pub datagram_size : wrong_size (length t) ≡ true → datagram_call D K bytes time t buffer ≡ refusal 11 0 t buffer
    unfolding datagram_call
    datagram_size e = Chain.refused (wrong_size (length t)) 11 t buffer _ e

    module _ (sized : wrong_size (length t) ≡ false) where
      read : (r : Reading) → reading bytes ≡ r → datagram_call D K bytes time t buffer ≡ after_reading D K r time t buffer
      unfolding datagram_call
      read r e = accepted (wrong_size (length t)) 11 t buffer _ sized ∙ ap (λ r. after_reading D K r time t buffer) e

      -- 1 to 9
      pub datagram_refused : (fault : Fault) (place : ℕ) → reading bytes ≡ refused fault place
          → datagram_call D K bytes time t buffer ≡ refusal (number fault) place t buffer
      datagram_refused fault place e = read (refused fault place) e

      module _ (es : List Entry) (e : reading bytes ≡ entries es) where
        -- 10, Room, judged on n
        pub datagram_room : D.no_room (length es) (length buffer) ≡ true → datagram_call D K bytes time t buffer ≡ refusal 10 0 t buffer
        datagram_room room = read (entries es) e ∙ Chain.refused (D.no_room (length es) (length buffer)) 10 t buffer _ room

        -- 0, Done
        pub datagram_done_lem : D.no_room (length es) (length buffer) ≡ false
            → datagram_call D K bytes time t buffer ≡ finished D (turns D.rules D.entered K time (starts t) es) (length es) buffer
        datagram_done_lem room = read (entries es) e ∙ accepted (D.no_room (length es) (length buffer)) 10 t buffer _ room

  module _ (e : E) (x : ℕ) where
    -- 11, Size
    pub local_size : wrong_size (length t) ≡ true → local_call D K e x t buffer ≡ refusal 11 0 t buffer
    unfolding local_call
    local_size wrong = Chain.refused (wrong_size (length t)) 11 t buffer _ wrong

    module _ (sized : wrong_size (length t) ≡ false) where
      -- 12, NoStream
      pub local_stranger : answers D.rules K t x ≡ false → local_call D K e x t buffer ≡ refusal 12 0 t buffer
      unfolding local_call
      local_stranger none = accepted (wrong_size (length t)) 11 t buffer _ sized ∙ Chain.refused (not (answers D.rules K t x)) 12 t buffer _ (ap not none)

      module _ (found : answers D.rules K t x ≡ true) where
        -- 10, Room, where the rules refuse nothing
        pub local_room : allowed D K e x t ≡ true → D.short e (length buffer) ≡ true → local_call D K e x t buffer ≡ refusal 10 0 t buffer
        unfolding local_call
        local_room may short =
            accepted (wrong_size (length t)) 11 t buffer _ sized
            ∙ accepted (not (answers D.rules K t x)) 12 t buffer _ (ap not found)
            ∙ Chain.refused (allowed D K e x t && D.short e (length buffer)) 10 t buffer _ (rw (may, short))

        -- Done, or what the rules refuse
        pub local_spoken : allowed D K e x t && D.short e (length buffer) ≡ false
            → local_call D K e x t buffer ≡ spoken D (serve D.rules K (record { ssrc = x; event = e }) t) buffer
        unfolding local_call
        local_spoken room =
            accepted (wrong_size (length t)) 11 t buffer _ sized
            ∙ accepted (not (answers D.rules K t x)) 12 t buffer _ (ap not found)
            ∙ accepted (allowed D K e x t && D.short e (length buffer)) 10 t buffer _ room
