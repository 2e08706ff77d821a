-- What was read is recorded.
use Rattle.std.proofs.Common.{◌≡◌, ℕ, List, Some, sym, subst, Bor}
use Rattle.std.specs.List.{AllZip}
use Rattle.prep_cut.specs.declared.allocations.Allocations.{Allocations}
use Rattle.prep_program.specs.Recordings.{RecordedAll}
use Rattle.prep_program.proofs.planning.decide_by.Goals as goal

pub returns-clause-noted : goal.returns-clause-noted
returns-clause-noted g c = λ captures texts.
    let named = subst (λ (names : List (Bor (List ℕ))). AllZip (λ (name : Bor (List ℕ)) (text : List ℕ). g.S.Source.holds c.args.source.now name.now ≡ Some text) names captures)
    (sym c.deref.ensures.value) texts in
    let noted : RecordedAll captures c.args.policy.now c.args.request.now.stated.since c.in_ok-records.records.allocations = c.in_ok-records.ensures.noted captures named in
    subst (λ (all : Allocations). RecordedAll captures c.args.policy.now c.args.request.now.stated.since all) (sym c.replace-allocations.ensures.value) noted
