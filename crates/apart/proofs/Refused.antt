-- A refusal changes no record and no byte, and so a run of refused calls changes nothing.
-- Assumes nothing.
use Prim.Native.Nat.{ℕ}
use mathlib.Core.Path.{◌≡◌}
use mathlib.Core.Bool.{Bool}
use mathlib.Core.List.{List, []}
use Rattle.stream.specs.Start.{starting}
use Rattle.counters.specs.declared.PauseId.{PauseId}
use Rattle.counters.specs.declared.Seq.{Seq}
use Rattle.sides.proofs.Refused as side
use Rattle.sender.specs.Calls.{sender, add_call, remove_call}
use Rattle.sender.specs.Keeping.{Keeping}
use Rattle.sender.specs.Serve.{streams}
use Rattle.apart.specs.Calls.{Call, as_call, as_calls, made, buffer_of}
use Rattle.apart.specs.Run.{run, AllRefused}
use Rattle.apart.proofs.Faithful.{Faithful}
use Rattle.apart.proofs.Lawful.{sender_lawful}

module _ {A : Type 0} (K : Keeping A) (F : Faithful K) where
  -- a call that says anything but Done
  pub refused_stays : (call : Call) (t : List A) → ¬ ((made K call t).said.0 ≡ 0)
      → ((made K call t).table ≡ t) × ((made K call t).buffer ≡ buffer_of call)
  refused_stays call t = side.refused_stays sender sender_lawful K F (as_call call) t

  pub refused_run : (calls : List Call) (t : List A) → AllRefused K calls t → ((run K calls t).table ≡ t) × ((run K calls t).replies ≡ [])
  refused_run calls t = side.refused_run sender sender_lawful K F (as_calls calls) t

module _ {A : Type 0} (K : Keeping A) (t : List A) where
  pub refused_remove : (ssrc : ℕ) → ¬ ((remove_call K ssrc t).said.0 ≡ 0) → (remove_call K ssrc t).table ≡ t
  refused_remove = side.refused_remove streams K t

  pub refused_add : (ssrc : ℕ) (c : PauseId) (q : Seq) (rtt dither : ℕ) (nowait : Bool)
      → ¬ ((add_call K ssrc c q rtt dither nowait t).said.0 ≡ 0) → (add_call K ssrc c q rtt dither nowait t).table ≡ t
  unfolding add_call
  refused_add ssrc c q rtt dither nowait = side.refused_add streams K t (starting ssrc c q rtt dither nowait)
