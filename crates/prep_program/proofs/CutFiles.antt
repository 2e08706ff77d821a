-- The pieces of a capture that is cut.
use Rattle.std.proofs.Common.{◌≡◌, ℕ, List, [], ◌++◌, Option, Result, Ok, Err, IfOk, sym, ap, subst, ◌∙◌}
use Rattle.std.proofs.lemmas.List.{append-nil}
use Rattle.audit_model.specs.Sink.{followed_by}
use Rattle.prep_cut.specs.declared.cutter.Cutter.{Cutter}
use Rattle.prep_cut.specs.declared.cutter.WasCut.{WasCut}
use Rattle.prep_cut.specs.declared.plan.Plan.{Plan}
use Rattle.prep_cut.specs.declared.plan.Proposal.{Proposal}
use Rattle.prep_cut.specs.Marks.{Marked, marked, proposals_behind, written_of}
use Rattle.prep_cut.specs.Cutting.{IsCutting, IsCut, GoesOn}
use Rattle.prep_cut.proofs.Marked.{written_of-append}
use Rattle.prep_program.specs.declared.stop.Stop.{Stop}
use Rattle.prep_program.specs.Cuts.{CutSoFar, Cuts}
use Rattle.prep_program.proofs.Captures.{followed_twice, followed_none}

pub nothing_cut : (cutter : Cutter) (plan : Plan) (proposals : List Proposal) (earlier : List Marked) (before : Option (List ℕ)) → IsCutting cutter plan proposals earlier [] []
    → CutSoFar cutter plan proposals earlier [] before before
nothing_cut cutter plan proposals earlier before cutting = record { current = []; cutting = cutting; added = followed_none before }

-- a piece more
pub cut_more : (cutter new : Cutter) (plan : Plan) (proposals : List Proposal) (earlier : List Marked) (text piece out : List ℕ) (before middle after : Option (List ℕ))
    → (s : CutSoFar cutter plan proposals earlier text before middle)
    → GoesOn new plan proposals earlier text s.current piece [] [] out → after ≡ followed_by middle out → CutSoFar new plan proposals earlier (text ++ piece) before after
cut_more cutter new plan proposals earlier text piece out before middle after s on put =
    let all : text ++ on.taken ≡ text ++ piece = ap (λ (t : List ℕ). text ++ t) (sym (append-nil on.taken) ∙ sym on.cut) in
    let first = marked plan proposals s.current in
    let second = marked plan (proposals_behind proposals s.current) on.more in
    record {
      current = s.current ++ on.more;
      cutting = subst (λ (t : List ℕ). IsCutting new plan proposals earlier t (s.current ++ on.more)) all on.cutting;
      added = put ∙ ap (λ (o : List ℕ). followed_by middle o) on.added ∙ ap (λ (m : Option (List ℕ)). followed_by m (written_of second)) s.added
          ∙ followed_twice before (written_of first) (written_of second) ∙ ap (λ (o : List ℕ). followed_by before o) (sym (written_of-append plan proposals s.current on.more));
    }

-- the end of a capture
pub cut_ended : (cutter : Cutter) (plan : Plan) (proposals : List Proposal) (earlier : List Marked) (text whole : List ℕ) (before after : Option (List ℕ)) (r : Result WasCut Stop) → text ≡ whole
    → (s : CutSoFar cutter plan proposals earlier text before after)
    → IfOk r (λ cut. IsCut cut plan proposals earlier text s.current) → IfOk r (λ cut. Cuts cut plan proposals earlier whole before after)
cut_ended cutter plan proposals earlier text whole before after (Ok cut) e s is = record { current = s.current; ended = subst (λ (t : List ℕ). IsCut cut plan proposals earlier t s.current) e is; added = s.added }
cut_ended cutter plan proposals earlier text whole before after (Err stop) e s is = tt
