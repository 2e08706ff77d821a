use Rattle.std.proofs.Common.{Some, cond, eqb, refl, sym, ap, ◌∙◌, subst}
use Rattle.audit_sights.specs.Pairs.{value_at, IsAt, IsPast}
use Rattle.audit_sights.proofs.Lookups.{not_before, not_found, set_at, set_past, rises_set}
use Rattle.audit_sights.proofs.rising.Rising.put.Goals as goal

pub returns-then-is_past-clause-set : goal.returns-then-is_past-clause-set
returns-then-is_past-clause-set g c = λ q.
    let index = c.args.index in
    let past = subst (λ pairs. IsPast pairs index) c.deref.ensures.value (c.if-is_past.ensures.0 refl) in
    ap (λ pairs. value_at pairs q) c.in_ok-push.ensures.items
    ∙ set_past c.self.inside.pairs.items index c.args.value past q
    ∙ ap (λ pairs. cond (eqb q index) (Some c.args.value) (value_at pairs q)) c.self.view_is

pub invariant_of-self-in-Some : goal.invariant_of-self-in-Some
invariant_of-self-in-Some g c =
    let at = subst (λ pairs. IsAt pairs c.args.index c.in-Some.place) c.deref-2.ensures.value c.in-Some.ensures in
    rises_set c.self.inside.pairs.items c.args.index c.in-Some.place c.args.value c.self.invariant at

pub returns-in-Some-clause-set : goal.returns-in-Some-clause-set
returns-in-Some-clause-set g c = λ q.
    let pairs = c.self.inside.pairs.items in
    let index = c.args.index in
    let place = c.in-Some.place in
    let at = subst (λ found. IsAt found index place) c.deref-2.ensures.value c.in-Some.ensures in
    set_at pairs index place c.args.value at (not_before pairs index place c.self.invariant at) q
    ∙ ap (λ found. cond (eqb q index) (Some c.args.value) (value_at found q)) c.self.view_is

pub returns-in-None-clause-absent : goal.returns-in-None-clause-absent
returns-in-None-clause-absent g c =
    sym (ap (λ pairs. value_at pairs c.args.index) (c.deref-2.ensures.value ∙ c.self.view_is)) ∙ not_found c.deref-2.result.now c.args.index c.in-None.ensures
