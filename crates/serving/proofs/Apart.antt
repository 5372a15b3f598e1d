-- Streams are apart: for every table where no two in use share an SSRC and all requests, each stream follows the rules on its own requests alone.
-- Assumes nothing.
use mathlib.Core.Path.{refl, ap, ◌∙◌}
use mathlib.Core.List.{List}
use Rattle.serving.specs.Apart.{ssrc_at, NoTwo, Apart}
use Rattle.serving.specs.History.{own, events}
use Rattle.serving.specs.Keeping.{Keeping}
use Rattle.serving.specs.Rules.{Rules}
use Rattle.serving.specs.Run.{serving}
use Rattle.serving.specs.Serve.{Request, kept_at}
use Rattle.serving.proofs.Faithful.{Lawful, Faithful}
use Rattle.serving.proofs.Serving.{kept_by_rules, serving_length, follows, unused_stays, ignores}

module _ {S E R A : Type 0} (M : Rules S E R) (K : Keeping S A) (L : Lawful M) (F : Faithful M K) where
  pub serving_apart : (rs : List (Request E)) (t : List A) → NoTwo M K t → Apart M K rs t (serving M K rs t)
  serving_apart rs t no_two =
      record {
        record_by_rules = λ i used.
            ap K.read (follows M K L F rs t (ssrc_at M K t i) i no_two used refl).kept
            ∙ kept_by_rules M K F (events (own (ssrc_at M K t i) rs)) (kept_at K t i);
        replies_by_rules = λ i used. (follows M K L F rs t (ssrc_at M K t i) i no_two used refl).replies;
        answers_by_rules = λ i used. (follows M K L F rs t (ssrc_at M K t i) i no_two used refl).answers;
        unused_stay = λ i unused. unused_stays M K L F rs t i unused;
        size_stays = serving_length M K rs t;
        strangers_answered = λ x stranger. (ignores M K L F rs t x stranger).answers;
        strangers_silent = λ x stranger. (ignores M K L F rs t x stranger).replies;
      }
