-- The pages of help, and the line of the release.
use Rattle.std.specs.Prelude.{Bool, List, ℕ, codes, take}
use Rattle.std.specs.Str.{bytes_eq}
use Rattle.audit_program.specs.declared.pages.Page.{Page}
use Rattle.audit_program.specs.declared.pages.Page.TheVariants.{Program, Audit, Find, Live, Check}
use Rattle.audit_program.specs.declared.pages.TheConstants as texts

abbrev pub page_text : Page → List ℕ
page_text Program = texts.PROGRAM.now
page_text Audit = texts.AUDIT.now
page_text Find = texts.FIND.now
page_text Live = texts.LIVE.now
page_text Check = texts.CHECK.now

abbrev pub release_text : List ℕ
release_text = texts.RELEASE.now

-- a report begins with these bytes
abbrev pub begins_a_report : List ℕ → Bool
begins_a_report text = bytes_eq (take 16 text) (codes "turnaudit-report")
