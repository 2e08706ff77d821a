use Rattle.std.proofs.Common.{◌≡◌, sym, subst, List, rules}
use Rattle.std.proofs.lemmas.Fn.{always_returns_same}
use Rattle.std.specs.List.Sorted.{IsSortedByKey}
use Rattle.audit_model.specs.declared.event.Event.{Event}
use Rattle.audit_model.specs.Event.{key_of}
use Rattle.audit_model.specs.Breach.{key_cmp}
use Rattle.audit_finder.proofs.finding.sorted.Goals as goal

pub returns-clause-order : goal.returns-clause-order
returns-clause-order c =
    subst (λ (es : List Event). IsSortedByKey key_of key_cmp es) (sym c.from.ensures)
    (c.sort_unstable_by_key.ensures.sorted key_of (always_returns_same _ (λ a r. r ≡ key_of a.0.now) _ (λ a r q k. search rules)))
