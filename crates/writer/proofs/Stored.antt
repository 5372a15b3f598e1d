-- Bytes copied over a part of a buffer are stored there one after the other.
-- Assumes nothing.
use Rattle.std.proofs.Common.{◌≡◌, ℕ, ◌+◌, ◌-◌, ◌≤◌, List, length, refl, sym, ◌∙◌, arith}
use Rattle.std.proofs.Math.Seq.{take-length}
use Rattle.std.proofs.lemmas.List.Edits.{sets, sets-eq}
use Rattle.std.proofs.lemmas.Slice.{put_mid-paste}
use borrow.Rule.Slice.PartMut.{put_mid}

pub stored : (l : List ℕ) (at : ℕ) (vs : List ℕ) → at + length vs ≤ length l → put_mid at (at + length vs - at) l vs ≡ sets l at vs
stored l at vs fits =
    put_mid-paste at (at + length vs - at) l vs vs (length vs) refl (omega arith) refl
    ∙ rw take-length (sym (sets-eq vs l at fits))
