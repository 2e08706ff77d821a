-- A capture's pieces, translated.
use Rattle.std.proofs.Common.{◌≡◌, ℕ, List, [], ◌++◌, Option, Result, Ok, Err, IfOk, sym, ap, subst, ◌∙◌}
use Rattle.std.proofs.lemmas.List.{append-nil}
use Rattle.audit_model.specs.Sink.{followed_by}
use Rattle.prep_translate.specs.declared.renaming.Renaming.{Renaming}
use Rattle.prep_translate.specs.declared.translator.Translator.{Translator}
use Rattle.prep_translate.specs.declared.tally.Tally.{Tally}
use Rattle.prep_translate.specs.Translating.{translated, IsTranslating, IsDone, GoesOn}
use Rattle.prep_translate.proofs.Going.{translated-append}
use Rattle.prep_program.specs.declared.stop.Stop.{Stop}
use Rattle.prep_program.specs.Translations.{TranslatesSoFar, Translates}
use Rattle.prep_program.proofs.Captures.{followed_twice, followed_none}

pub nothing_yet : (renaming : Renaming) (translator : Translator) (before : Option (List ℕ)) → IsTranslating renaming translator [] [] → TranslatesSoFar renaming translator [] before before
nothing_yet renaming translator before t = record { blocks = []; translating = t; added = followed_none before }

-- a piece more
pub piece_more : (renaming : Renaming) (old new : Translator) (text piece out : List ℕ) (before middle after : Option (List ℕ)) → (s : TranslatesSoFar renaming old text before middle)
    → GoesOn renaming new text s.blocks piece [] [] out → after ≡ followed_by middle out → TranslatesSoFar renaming new (text ++ piece) before after
piece_more renaming old new text piece out before middle after s on put =
    let all : text ++ on.taken ≡ text ++ piece = ap (λ (t : List ℕ). text ++ t) (sym (append-nil on.taken) ∙ sym on.cut) in
    record {
      blocks = s.blocks ++ on.more;
      translating = subst (λ (t : List ℕ). IsTranslating renaming new t (s.blocks ++ on.more)) all on.translating;
      added = put ∙ ap (λ (o : List ℕ). followed_by middle o) on.added ∙ ap (λ (m : Option (List ℕ)). followed_by m (translated renaming on.more)) s.added
          ∙ followed_twice before (translated renaming s.blocks) (translated renaming on.more) ∙ ap (λ (o : List ℕ). followed_by before o) (sym (translated-append renaming s.blocks on.more));
    }

-- the end of a capture
pub ended : (renaming : Renaming) (translator : Translator) (text whole : List ℕ) (before after : Option (List ℕ)) (r : Result Tally Stop) → text ≡ whole → (s : TranslatesSoFar renaming translator text before after)
    → IfOk r (λ tally. IsDone renaming text s.blocks tally) → IfOk r (λ tally. Translates renaming whole tally before after)
ended renaming translator text whole before after (Ok tally) e s is = record { blocks = s.blocks; ended = subst (λ (t : List ℕ). IsDone renaming t s.blocks tally) e is; added = s.added }
ended renaming translator text whole before after (Err stop) e s is = tt
