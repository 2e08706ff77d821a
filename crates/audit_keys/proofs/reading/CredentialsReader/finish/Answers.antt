use Rattle.std.proofs.Common.{[]}
use Rattle.audit_keys.specs.CredText.{credentials_of}
use Rattle.audit_keys.proofs.reading.CredentialsReader.finish.Goals as goal

pub returns-in-Ok : goal.returns-in-Ok
unfolding credentials_of
returns-in-Ok c text stands =
    let took = c.in-Ok.ensures [] text stands in
    (took.0, took.1, rw c.into_credentials.ensures took.2.0)
