-- The reply that follows lies in the buffer that was lent to its call.
use Rattle.decide.specs.declared.Call.TheVariants as call
use Rattle.frames.proofs.Fits.{datagram_fits, reply_fits}
use Rattle.frames.proofs.serve.serve.Goals as goal

pub returns-in-Some-Datagram-clause-within : goal.returns-in-Some-Datagram-clause-within
returns-in-Some-Datagram-clause-within c = datagram_fits _ _ _ _ c.datagram.ensures c.datagram_said.ensures

pub returns-in-Some-LocalPause-clause-within : goal.returns-in-Some-LocalPause-clause-within
returns-in-Some-LocalPause-clause-within c = reply_fits call.LocalPause _ _ _ c.local_pause.ensures c.reply_said.ensures

pub returns-in-Some-Time-clause-within : goal.returns-in-Some-Time-clause-within
returns-in-Some-Time-clause-within c = reply_fits (call.Time _) _ _ _ c.time.ensures c.reply_said-in-Some-Time.ensures

pub returns-in-Some-Report-clause-within : goal.returns-in-Some-Report-clause-within
returns-in-Some-Report-clause-within c = reply_fits call.Report _ _ _ c.report.ensures c.reply_said-in-Some-Report.ensures
