-- The text of a certificate, of which a part is read.
use Rattle.std.specs.Prelude.{◌≡◌, ◌++◌, ℕ, List}
use Rattle.audit_cert.specs.CertText.{StandsFor}
use Rattle.audit_files.specs.declared.certificate_text.CertificateText.{CertificateText}

-- the text that the reader was fed, and the rest after it
abbrev pub HasText : CertificateText → List ℕ → Type 0
HasText kept text = (first : List ℕ) × StandsFor kept.reader first × (text ≡ first ++ kept.rest.items)
