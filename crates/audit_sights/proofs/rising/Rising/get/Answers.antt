use Rattle.std.proofs.Common.{sym, ap, ◌∙◌, subst}
use Rattle.audit_sights.specs.Pairs.{value_at, Rises}
use Rattle.audit_sights.proofs.Lookups.{not_before, found_at, not_found}
use Rattle.audit_sights.proofs.rising.Rising.get.Goals as goal

pub returns-in-Some : goal.returns-in-Some
returns-in-Some g c =
    let pairs = c.as_slice-pairs.result.now in
    let rises = subst Rises (sym c.as_slice-pairs.ensures.value) c.self.invariant in
    let before = not_before pairs c.args.index c.in-Some.place rises c.in-Some.ensures in
    sym (found_at pairs c.args.index c.in-Some.place c.index-pairs-place.result c.in-Some.ensures before)
    ∙ ap (λ found. value_at found c.args.index) (c.as_slice-pairs.ensures.value ∙ c.self.view_is)

pub returns-in-None : goal.returns-in-None
returns-in-None g c =
    sym (not_found c.as_slice-pairs.result.now c.args.index c.in-None.ensures) ∙ ap (λ found. value_at found c.args.index) (c.as_slice-pairs.ensures.value ∙ c.self.view_is)
