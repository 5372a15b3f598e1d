-- What is gathered of a line, and then its line feed.
use Rattle.feed.proofs.Passing.{line_answered, line_held}
use Rattle.feed.proofs.feed_line.Goals as goal

pub returns-then-now-input : goal.returns-then-now-input
returns-then-now-input c =
    let a = c.args in
    let now = c.gather-now in
    let told = c.answer-written.ensures in
    line_answered a.table.now (record { bytes = a.bytes.now; reply = a.reply.now }) a.line.now a.input.now a.out.now a.fed now.result _ now.ensures.gathering now.ensures.within.1 c.requires.1 _ _ _ _ told.answering c.if-now-input.true told.within

pub returns-else-now-input : goal.returns-else-now-input
returns-else-now-input c =
    let a = c.args in
    let now = c.gather-now in
    line_held a.table.now (record { bytes = a.bytes.now; reply = a.reply.now }) a.line.now a.input.now a.out.now a.fed now.result _ now.ensures.gathering now.ensures.within.1 c.requires.1 c.requires.0 c.if-now-input.false
