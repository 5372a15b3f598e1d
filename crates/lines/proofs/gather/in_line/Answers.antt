-- Where the 16 bytes with a line feed begin, and the first of them.
use Rattle.std.proofs.Common.{◌≡◌, drop, ◌∙◌, arith}
use Rattle.std.proofs.lemmas.List.{take_rest}
use Rattle.lines.specs.Gather.{in_line}
use Rattle.lines.proofs.Gathering.{after_within, first_after}
use Rattle.lines.proofs.gather.in_line.Goals as goal

pub overflow_add-result : goal.overflow_add-result
overflow_add-result c =
    let bytes = c.args.bytes.now in
    let n = c.clear-clear.result in
    let e : c.unwrap_or.result ≡ in_line (drop n bytes) = c.unwrap_or.ensures ∙ rw (c.first_feed.ensures, take_rest bytes n) (first_after bytes n) in
    let within = after_within bytes n c.clear-clear.ensures.within in
    omega arith

pub returns : goal.returns
returns c =
    let bytes = c.args.bytes.now in
    let n = c.clear-clear.result in
    let e : c.unwrap_or.result ≡ in_line (drop n bytes) = c.unwrap_or.ensures ∙ rw (c.first_feed.ensures, take_rest bytes n) (first_after bytes n) in
    let clear = c.clear-clear.ensures.clear in
    omega arith
