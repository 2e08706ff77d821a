use Rattle.std.proofs.Common.{◌≡◌, sym, subst}
use Rattle.audit_model.specs.declared.policy.Policy.{Policy}
use Rattle.audit_sightings.specs.Sightings.{AreSightings}
use Rattle.audit_machine.specs.Carrying.{base_at}
use Rattle.audit_watch.proofs.Later.{still_there, the_same}
use Rattle.audit_watch.proofs.laws.later_packets_are_the_rest.Goals as goal

pub returns-clause-captured : goal.returns-clause-captured
returns-clause-captured c all rest w earlier later more policy same of_all of_rest bases = record {
  policy = policy;
  has = still_there all.policy (base_at w.bases.items) earlier later bases all rest more of_all (subst (λ (p : Policy). AreSightings p rest.interfaces later) same of_rest);
}

pub returns-clause-all : goal.returns-clause-all
returns-clause-all c all rest w earlier later policy same of_all of_rest bases = record {
  policy = policy;
  same = the_same all.policy (base_at w.bases.items) earlier later bases all rest of_all (subst (λ (p : Policy). AreSightings p rest.interfaces later) same of_rest);
}
