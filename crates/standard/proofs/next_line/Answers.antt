use Rattle.std.proofs.Common.{true≢false, refl, sym, ◌∙◌, ap, arith, inl, inr, ⊎_elim}
use Rattle.standard.proofs.First.{has_feed, line_rests, nothing_held, rest_line, same_at, same_end, used_up, whole_line_lem}
use Rattle.standard.proofs.Turns.{fewer_turns}
use Rattle.standard.proofs.next_line.Goals as goal

pub loop-input-smaller : goal.loop-input-smaller
loop-input-smaller c =
    fewer_turns _ _ (used_up c.loop-input.piece c.loop-input.got.at (sym c.goes_on.ensures ∙ c.loop-input-test.true)).1 c.next-piece-in-loop-input.ensures.turn

pub loop-input-preserved : goal.loop-input-preserved
loop-input-preserved c =
    let inv = c.loop-input.invariant in
    let next = c.next-piece-in-loop-input in
    let used = used_up c.loop-input.piece c.loop-input.got.at (sym c.goes_on.ensures ∙ c.loop-input-test.true) in
    record {
      lent = next.auto.input ∙ inv.lent;
      end = refl;
      within = next.ensures.within;
      turns = omega (arith, inv.turns, next.ensures.turn);
      first = λ stays. absurd
          (⊎_elim
          (λ feed. let same = inv.first (inl feed) in omega (arith, feed, same.at, same.end, inv.end, used.0))
          (λ none. omega (arith, none, inv.turns, fewer_turns c.loop-input.piece _ used.1 refl))
          stays);
    }

pub returns-then-got-end : goal.returns-then-got-end
returns-then-got-end c =
    let inv = c.loop-input.invariant in
    let next = c.next-piece in
    let gathered = c.gather-got.ensures.gathering in
    record {
      over = λ none. absurd (c.if-last-eq0.false none);
      ended = λ ends.
          let rests = line_rests _ _ _ ends in
          let feed = has_feed _ _ _ _ _ _ next.ensures gathered rests ends.feed in
          whole_line_lem _ _ _ _ _ _ next.ensures gathered rests _ _ _ _ _ _ _ (inv.first (inl feed));
      last_turn = λ one rests long.
          let same = inv.first (inr (omega (arith, one, next.ensures.turn))) in
          absurd (omega (arith, long, same.at, same.end, same_at _ _ _ _ _ _ next.ensures gathered rests, same_end _ _ _ _ _ _ next.ensures gathered rests, c.if-got-end.true));
      turn = λ e. omega (arith, inv.turns, next.ensures.turn, c.if-last-eq0.false);
      none = λ e. absurd (true≢false e);
      empty = λ e f. absurd (true≢false e);
      failed = λ e. absurd (true≢false (sym e));
    }

pub returns : goal.returns
returns c =
    let inv = c.loop-input.invariant in
    let next = c.next-piece in
    let gathered = c.gather-got.ensures.gathering in
    let reading = c.last_line.ensures in
    let turns = ap (λ r. r.piece.turns) reading in
    record {
      over = λ none. absurd (c.if-last-eq0.false none);
      ended = λ ends.
          let rests = line_rests _ _ _ ends in
          let feed = has_feed _ _ _ _ _ _ next.ensures gathered rests ends.feed in
          let same = inv.first (inl feed) in
          absurd (omega (arith, feed, same.at, same.end, c.if-got-end.false));
      last_turn = λ one rests long.
          let same = inv.first (inr (omega (arith, one, next.ensures.turn))) in
          let line = rest_line _ _ _ _ _ _ next.ensures gathered rests _ _ _ _ _ _ _ same in
          (reading ∙ line.0, line.1, line.2);
      turn = λ e. omega (arith, turns, c.if-last-eq0.false);
      none = λ e. turns;
      empty = λ e f. ap (λ r. r.held) reading ∙ nothing_held _ _ (sym (ap (λ r. r.whole) reading) ∙ e) (sym (ap (λ r. r.piece.failed) reading) ∙ f);
      failed = λ e. ap (λ r. r.whole) reading ∙ rw (sym (ap (λ r. r.piece.failed) reading) ∙ e);
    }
