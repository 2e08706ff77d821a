-- The text that a reader of credentials has read.
use Rattle.std.specs.Prelude.{ℕ, List, []}
use Rattle.audit_text.specs.Reading.{within}
use Rattle.audit_text.specs.Readers as readers
use Rattle.audit_keys.specs.declared.reading.CredentialsReader.{CredentialsReader}
use Rattle.audit_keys.specs.CredText.{after, overlong}
use Rattle.audit_keys.specs.CredentialLines.{Says}

-- it was fed this text, which has no fault so far
abbrev pub StandsFor : CredentialsReader → List ℕ → Type 0
StandsFor reader text = readers.StandsFor Says (within overlong after) [] reader.reader text
