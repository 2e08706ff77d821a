use Rattle.std.proofs.Common.{sym}
use Rattle.audit_tenancy.proofs.Addresses.{addresses_same}
use Rattle.audit_tenancy.proofs.Keeping.{keeps_some}
use Rattle.audit_tenancy.proofs.Found.{none_kept, found_other, none_other}
use Rattle.audit_tenancy.proofs.kept.Kept.clashes.Goals as goal

pub returns-in_default-clause-none : goal.returns-in_default-clause-none
returns-in_default-clause-none c = λ earlier keeps before _.
    none_kept earlier c.args.new.now c.args.self.now.longest c.args.self.now.other c.in_default.not-Some keeps

pub returns-in-Some-other-clause-some : goal.returns-in-Some-other-clause-some
returns-in-Some-other-clause-some c = λ earlier keeps before still.
    found_other earlier c.args.new.now before c.in-Some.longest c.args.self.now.other (keeps_some earlier _ _ _ c.in-Some.is keeps)
    (addresses_same _ _ (sym c.if-ne.ensures)) c.if-longest-new.false c.in-Some-other.other c.in-Some-other.is (c.still_held-in-Some-other.ensures.0 still)

pub returns-in-None-clause-none : goal.returns-in-None-clause-none
returns-in-None-clause-none c = λ earlier keeps before _.
    none_other earlier c.args.new.now before c.in-Some.longest c.args.self.now.other (keeps_some earlier _ _ _ c.in-Some.is keeps)
    (addresses_same _ _ (sym c.if-ne.ensures)) c.if-longest-new.false c.in-None.is
