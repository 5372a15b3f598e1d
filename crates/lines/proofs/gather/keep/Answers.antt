-- What fits is copied, if anything does.
use Rattle.std.proofs.Common.{◌≡◌, ℕ, ◌+◌, ◌-◌, length, take, drop, ap, ◌∙◌, arith, length-take, length-drop}
use Rattle.std.proofs.lemmas.List.Edits.{sets}
use Rattle.lines.proofs.Gathering.{copied}
use Rattle.lines.proofs.gather.keep.Goals as goal
use Rattle.lines.proofs.gather.keep.Goals.{then-fits-gt0, else-fits-gt0}

pub returns : goal.returns
returns c =
    let a = c.args in
    let n = c.fitting-fits.result in
    let many = c.fitting-fits.ensures in
    let same = ap (λ (k : ℕ). sets a.line.now a.held (take k (drop a.from a.input.now))) many in (
      ap (λ (k : ℕ). a.held + k) many,
      elim c.if-fits-gt0.branch [
        | then-fits-gt0 w ↦
            let cut : a.from + n - a.from ≡ n = omega arith in
            let part : w.copy_from_slice.new.self ≡ take n (drop a.from a.input.now) = w.copy_from_slice.ensures.after ∙ ap (λ (k : ℕ). take k (drop a.from a.input.now)) cut in
            let long : length (take n (drop a.from a.input.now)) ≡ n = simp (length-take, length-drop) (omega arith) in
            w.line-is ∙ rw part (copied a.line.now a.held n (take n (drop a.from a.input.now)) long (omega arith)) ∙ same
        | else-fits-gt0 w ↦ let none : n ≡ 0 = omega arith in w.line-is ∙ rw none at same
      ],
    )
