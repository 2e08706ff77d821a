-- The pages of help, and the line of the release.
use Rattle.std.specs.Prelude.{Bool, List, ℕ, codes, take}
use Rattle.std.specs.Str.{bytes_eq}
use Rattle.prep_program.specs.declared.pages.Page.{Page}
use Rattle.prep_program.specs.declared.pages.Page.TheVariants.{Program, Policy, Users, Join, Reassemble, Translate, Look, Cut, Ready}
use Rattle.prep_program.specs.declared.pages.TheConstants as texts

abbrev pub page_text : Page → List ℕ
page_text Program = texts.PROGRAM.now
page_text Policy = texts.POLICY.now
page_text Users = texts.USERS.now
page_text Join = texts.JOIN.now
page_text Reassemble = texts.REASSEMBLE.now
page_text Translate = texts.TRANSLATE.now
page_text Look = texts.LOOK.now
page_text Cut = texts.CUT.now
page_text Ready = texts.READY.now

abbrev pub release_text : List ℕ
release_text = texts.RELEASE.now

-- a report of turnaudit begins with these bytes
abbrev pub begins_a_report : List ℕ → Bool
begins_a_report text = bytes_eq (take 16 text) (codes "turnaudit-report")
