use Rattle.std.proofs.Common.{sym, subst}
use Rattle.std.specs.Prelude.{Contains}
use Rattle.prep_cut.specs.declared.events.Events.{Events}
use Rattle.prep_cut.specs.Noted.{events_at}
use Rattle.prep_cut.proofs.leases.Leases.add.Goals as goal

pub returns-clause-kept : goal.returns-clause-kept
returns-clause-kept c = λ other had. record {
  of_client = subst (λ (es : Events). Contains (events_at es other.client other.listen) other) (sym c.add_grant.ensures.clients)
      (c.in_ok-add.ensures.kept other.client other.listen other had.of_client);
  granted = c.in_ok-add_grant.ensures.kept other other.said.act had.granted;
}

pub returns-clause-only : goal.returns-clause-only
returns-clause-only c = λ other client listen has.
    c.in_ok-add.ensures.only client listen other (subst (λ (es : Events). Contains (events_at es client listen) other) c.add_grant.ensures.clients has)
