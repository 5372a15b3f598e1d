-- With room for the longest answer the line is answered.
use Rattle.std.proofs.Common.{sym, ◌∙◌, arith, leb-true}
use Rattle.frames.proofs.Printing.{said_answers}
use Rattle.frames.proofs.whole.answer.Goals as goal

pub returns-then-has_room : goal.returns-then-has_room
returns-then-has_room c =
    let served = c.serve_line-head in
    let told = said_answers _ _ _ _ _ _ _ served.result (omega arith) (omega arith) served.ensures.serving served.ensures.reading (leb-true _ _ (sym c.has_room.ensures ∙ c.if-has_room.true)) _ _ c.say.ensures.saying in
    record { answering = told.0; within = told.1 }
