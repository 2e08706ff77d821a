use Rattle.std.proofs.Common.{sym, refl, ◌∙◌}
use Rattle.audit_tenancy.proofs.Addresses.{addresses_same, addresses_differ}
use Rattle.audit_tenancy.proofs.Keeping.{keeps_some, restart_first, restart_after, keeps_lane, keeps_first_other, keeps_longer_other, keeps_new}
use Rattle.audit_tenancy.proofs.kept.Kept.with.Goals as goal

pub returns-in_default : goal.returns-in_default
returns-in_default c = λ earlier keeps before.
    rw (c.one.ensures.longest, c.one.ensures.other) (restart_first earlier c.args.new before c.args.self.longest c.args.self.other c.in_default.not-Some keeps)

pub returns-then-ne : goal.returns-then-ne
returns-then-ne c = λ earlier keeps before.
    rw (c.one-then-ne.ensures.longest, c.one-then-ne.ensures.other)
    (restart_after earlier c.args.new before c.in-Some.longest c.args.self.other (keeps_some earlier _ _ _ c.in-Some.is keeps)
    (addresses_differ _ _ (sym c.ne.ensures ∙ c.if-ne.true)))

pub returns-then-longest-new : goal.returns-then-longest-new
returns-then-longest-new c = λ earlier keeps before.
    keeps_lane earlier c.args.new before c.in-Some.longest c.args.self.other (keeps_some earlier _ _ _ c.in-Some.is keeps)
    (sym (addresses_same _ _ (sym c.if-ne.ensures))) (sym c.if-longest-new.true) c.longer.result c.longer.ensures

pub returns-in-Some-other : goal.returns-in-Some-other
returns-in-Some-other c = λ earlier keeps before.
    rw c.in-Some.is
    (keeps_longer_other earlier c.args.new before c.in-Some.longest c.args.self.other (keeps_some earlier _ _ _ c.in-Some.is keeps)
    (sym (addresses_same _ _ (sym c.if-ne.ensures))) (λ same. c.if-longest-new.false (sym same)) (c.if-outlasts.ensures.longer refl)
    c.in-Some-other.other c.longer-other.result c.in-Some-other.is c.longer-other.ensures)

pub returns-in-None : goal.returns-in-None
returns-in-None c = λ earlier keeps before.
    rw c.in-Some.is
    (keeps_first_other earlier c.args.new before c.in-Some.longest c.args.self.other (keeps_some earlier _ _ _ c.in-Some.is keeps)
    (sym (addresses_same _ _ (sym c.if-ne.ensures))) (λ same. c.if-longest-new.false (sym same)) (c.if-outlasts.ensures.longer refl) c.in-None.is)

pub returns : goal.returns
returns c = λ earlier keeps before.
    rw c.in-Some.is
    (keeps_new earlier c.args.new before c.in-Some.longest c.args.self.other (keeps_some earlier _ _ _ c.in-Some.is keeps)
    (sym (addresses_same _ _ (sym c.if-ne.ensures))) (λ same. c.if-longest-new.false (sym same)) (c.if-outlasts.ensures.shorter refl))
