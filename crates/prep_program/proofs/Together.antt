-- A capture's pieces, reassembled.
use Rattle.std.proofs.Common.{◌≡◌, ℕ, List, [], ◌++◌, Option, Result, Ok, Err, OnOk, sym, ap, subst, ◌∙◌}
use Rattle.std.proofs.lemmas.List.{append-nil}
use Rattle.audit_model.specs.Sink.{followed_by}
use Rattle.prep_fragments.specs.declared.reassembler.Reassembler.{Reassembler}
use Rattle.prep_fragments.specs.declared.feeding.Reassembled.{Reassembled}
use Rattle.prep_fragments.specs.Reassembling.{reassembled, IsReassembling, IsDone, GoesOn}
use Rattle.prep_fragments.proofs.Going.{reassembled-append}
use Rattle.prep_program.specs.declared.stop.Stop.{Stop}
use Rattle.prep_program.specs.Reassemblies.{ReassemblesSoFar, Reassembles}
use Rattle.prep_program.proofs.Captures.{followed_twice, followed_none}

pub nothing_yet : (r : Reassembler) (before : Option (List ℕ)) → IsReassembling r [] [] → ReassemblesSoFar r [] before before
nothing_yet r before t = record { blocks = []; reassembling = t; added = followed_none before }

-- a piece more
pub piece_more : (old new : Reassembler) (text piece out : List ℕ) (before middle after : Option (List ℕ)) → (s : ReassemblesSoFar old text before middle)
    → GoesOn new text s.blocks piece [] [] out → after ≡ followed_by middle out → ReassemblesSoFar new (text ++ piece) before after
piece_more old new text piece out before middle after s on put =
    let all : text ++ on.taken ≡ text ++ piece = ap (λ (t : List ℕ). text ++ t) (sym (append-nil on.taken) ∙ sym on.cut) in
    record {
      blocks = s.blocks ++ on.more;
      reassembling = subst (λ (t : List ℕ). IsReassembling new t (s.blocks ++ on.more)) all on.reassembling;
      added = put ∙ ap (λ (o : List ℕ). followed_by middle o) on.added ∙ ap (λ (m : Option (List ℕ)). followed_by m (reassembled s.blocks on.more)) s.added
          ∙ followed_twice before (reassembled [] s.blocks) (reassembled s.blocks on.more) ∙ ap (λ (o : List ℕ). followed_by before o) (sym (reassembled-append [] s.blocks on.more));
    }

-- the end of a capture
pub ended : (r : Reassembler) (text whole : List ℕ) (before after : Option (List ℕ)) (found : Result Reassembled Stop) → text ≡ whole → (s : ReassemblesSoFar r text before after)
    → OnOk found (IsDone text s.blocks) → OnOk found (Reassembles whole before after)
ended r text whole before after (Ok count) e s is = record { blocks = s.blocks; ended = subst (λ (t : List ℕ). IsDone t s.blocks) e is; added = s.added }
ended r text whole before after (Err stop) e s is = tt
