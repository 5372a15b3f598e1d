-- "No two in use share an SSRC" is kept by every call, add and remove too, with any table and any buffer; and so is the table's size.
-- Assumes nothing.
use Prim.Native.Nat.{ℕ}
use mathlib.Core.Path.{◌≡◌}
use mathlib.Core.Bool.{Bool}
use mathlib.Core.List.{List}
use lib.ListN.{length}
use Rattle.stream.specs.Start.{starting}
use Rattle.counters.specs.declared.PauseId.{PauseId}
use Rattle.counters.specs.declared.Seq.{Seq}
use Rattle.sides.proofs.Invariant as side
use Rattle.sender.specs.Calls.{sender, add_call, remove_call}
use Rattle.sender.specs.Keeping.{Keeping}
use Rattle.sender.specs.Serve.{streams}
use Rattle.apart.specs.Apart.{NoTwo}
use Rattle.apart.specs.Calls.{Call, as_call, as_calls, made}
use Rattle.apart.specs.Run.{run}
use Rattle.apart.proofs.Faithful.{Faithful}
use Rattle.apart.proofs.Lawful.{sender_lawful}

module _ {A : Type 0} (K : Keeping A) (F : Faithful K) where
  pub call_keeps_no_two : (call : Call) (t : List A) → NoTwo K t → NoTwo K (made K call t).table
  call_keeps_no_two call t = side.call_keeps_no_two sender sender_lawful K F (as_call call) t

  pub call_keeps_size : (call : Call) (t : List A) → length (made K call t).table ≡ length t
  call_keeps_size call t = side.call_keeps_size sender sender_lawful K F (as_call call) t

  pub run_keeps_no_two : (calls : List Call) (t : List A) → NoTwo K t → NoTwo K (run K calls t).table
  run_keeps_no_two calls t = side.run_keeps_no_two sender sender_lawful K F (as_calls calls) t

module _ {A : Type 0} (K : Keeping A) (t : List A) where
  pub remove_keeps_size : (ssrc : ℕ) → length (remove_call K ssrc t).table ≡ length t
  remove_keeps_size = side.remove_keeps_size streams K t

  pub add_keeps_size : (ssrc : ℕ) (c : PauseId) (q : Seq) (rtt dither : ℕ) (nowait : Bool) → length (add_call K ssrc c q rtt dither nowait t).table ≡ length t
  unfolding add_call
  add_keeps_size ssrc c q rtt dither nowait = side.add_keeps_size streams K t (starting ssrc c q rtt dither nowait)

module _ {A : Type 0} (K : Keeping A) (F : Faithful K) (t : List A) (no_two : NoTwo K t) where
  pub remove_keeps_no_two : (ssrc : ℕ) → NoTwo K (remove_call K ssrc t).table
  remove_keeps_no_two = side.remove_keeps_no_two streams K t F no_two

  pub add_keeps_no_two : (ssrc : ℕ) (c : PauseId) (q : Seq) (rtt dither : ℕ) (nowait : Bool) → NoTwo K (add_call K ssrc c q rtt dither nowait t).table
  unfolding add_call
  add_keeps_no_two ssrc c q rtt dither nowait = side.add_keeps_no_two streams K t F no_two (starting ssrc c q rtt dither nowait)
