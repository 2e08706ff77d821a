use Rattle.audit_files.proofs.Audited.{audited_apart}
use Rattle.audit_files.proofs.laws.no_listen_address_is_a_relay.Goals as goal

pub returns : goal.returns
returns c policy users captures certificate before after status audited = audited_apart policy users captures certificate before after status audited
