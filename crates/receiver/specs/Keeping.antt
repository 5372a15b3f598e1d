-- Document 02, "One": "a table of its own of 1 to 64 remote streams". How a host keeps a remote stream's record is its own matter: as five numbers, in the crate
-- `remote_rows`.
use Rattle.std.specs.Prelude.{false}
use Rattle.remote.specs.declared.State.TheVariants.{Receiving}
use Rattle.remote.specs.declared.Remote.{Remote}
use Rattle.serving.specs.Keeping as serving

abbrev pub Keeping : Type 0 → Type 0
Keeping A = serving.Keeping Remote A

-- a record that is not in use, with every number 0
abbrev pub blank : Remote
blank = record { ssrc = 0; id = record { 0 = 0 }; state = Receiving; used = false }
