use Rattle.std.proofs.Common.{subst, sym}
use Rattle.audit_rules.specs.Allocation.{Change}
use Rattle.audit_rules.specs.Changes.{IsChanged}
use Rattle.audit_rules.specs.Effect.{standing, change_of}
use Rattle.audit_rules.specs.Seen.{situation_of}
use Rattle.audit_rules.proofs.Said.{may_says, may_as_said}
use Rattle.audit_rules.proofs.acting.act.Goals as goal

pub returns-clause-ok : goal.returns-clause-ok
returns-clause-ok c =
    let x = situation_of c.args.table.now c.args.users.now c.args.policy.now c.args.arrives.now c.args.leaves.now c.args.at.key.moment in
    let change = change_of c.args.at.key.moment c.in_ok-effect.effect in (
      may_as_said x change c.in_ok-effect.ensures,
      subst (λ (said : Change). IsChanged c.args.policy.now.grace c.args.at c.args.arrives.now.id said (standing c.args.table.now) (standing c.change.new.table) c.in_ok-change.field-0)
          (sym (may_says x change c.in_ok-effect.ensures)) c.in_ok-change.ensures.ok,
    )
