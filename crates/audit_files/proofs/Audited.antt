-- What an audit of files gives.
use Rattle.std.proofs.Common.{◌≡◌, ℕ, List, Option, arith}
use Rattle.audit_files.specs.Judged.{IsAudited, status_of}
use Rattle.audit_model.specs.Policy.{AreApart}
use Rattle.audit_model.specs.declared.certificate.Certificate.{Certificate}
use Rattle.audit_model.specs.declared.verdict.Verdict.{Verdict}
use Rattle.audit_model.specs.declared.verdict.Verdict.TheVariants.{Conforming, NotShown}
use Rattle.audit_model.proofs.Endpoints.{read_apart}
use Rattle.audit_verdict.specs.Verdicts.{IsConforming}
use Rattle.audit_whole.specs.Departures.{AreRelayed}
use Rattle.audit_whole.specs.Glued.{glued_steps}

-- status 0 is a verdict that conforms
pub told_conforming : (verdict : Verdict) → 0 ≡ status_of verdict → IsConforming verdict
told_conforming (Conforming datagrams lanes) e = tt
told_conforming (NotShown breach) e = absurd (omega (arith, e))

module _ (policy users : List ℕ) (captures : List (List ℕ)) (certificate : Certificate) (before after : Option (List ℕ)) where
  pub audited_apart : (status : ℕ) (audited : IsAudited policy users captures certificate before after status) → AreApart audited.taken.policy
  audited_apart status audited = read_apart policy audited.taken.policy audited.read.policy'

  pub audited_relayed : (audited : IsAudited policy users captures certificate before after 0) → AreRelayed audited.taken audited.key_for (glued_steps certificate)
  audited_relayed audited = (audited.judged.headline (told_conforming audited.judged.verdict audited.judged.told)).relayed (audited_apart 0 audited)
