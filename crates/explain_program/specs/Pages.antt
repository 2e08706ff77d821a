-- The pages of help, and the line of the release.
use Rattle.std.specs.Prelude.{Bool, List, ℕ, codes, take}
use Rattle.std.specs.Str.{bytes_eq}
use Rattle.explain_program.specs.declared.pages.Page.{Page}
use Rattle.explain_program.specs.declared.pages.Page.TheVariants.{Program, Verdict, Lanes, Client, Faults, Evidence}
use Rattle.explain_program.specs.declared.pages.TheConstants as texts

abbrev pub page_text : Page → List ℕ
page_text Program = texts.PROGRAM.now
page_text Verdict = texts.VERDICT.now
page_text Lanes = texts.LANES.now
page_text Client = texts.CLIENT.now
page_text Faults = texts.FAULTS.now
page_text Evidence = texts.EVIDENCE.now

abbrev pub release_text : List ℕ
release_text = texts.RELEASE.now

-- a report begins with these bytes
abbrev pub begins_a_report : List ℕ → Bool
begins_a_report text = bytes_eq (take 16 text) (codes "turnaudit-report")
