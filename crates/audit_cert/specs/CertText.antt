-- A certificate text: a heading, lines of skews in version 2, lines of lanes and drops, and `end`,
-- each ended by an LF.
use Rattle.std.specs.Prelude.{◌≡◌, ℕ, ◌==◌, if◌then◌else◌, List, length, Option, Some, None, Result, Ok, Err, codes}
use Rattle.std.specs.Str.{bytes_eq}
use Rattle.audit_text.specs.declared.line_fault.LineFault.{LineFault}
use Rattle.audit_text.specs.Token.{◌>>=◌, halves_of}
use Rattle.audit_text.specs.declared.token.TokenFault.{TokenFault}
use Rattle.audit_text.specs.Reading.{SoFar, within, read_text}
use Rattle.audit_text.specs.Readers as readers
use Rattle.audit_cert.specs.declared.lines.Stage.{Stage}
use Rattle.audit_cert.specs.declared.lines.Stage.TheVariants as stage
use Rattle.audit_cert.specs.declared.fault.CertFaultKind.{CertFaultKind}
use Rattle.audit_cert.specs.declared.fault.CertFaultKind.TheVariants.{Heading, Line, EndMissing}
use Rattle.audit_cert.specs.DraftView.{Drafted, Progress, nothing_said}
use Rattle.audit_cert.specs.CertLines.{after_line, after_skew}

abbrev pub begun : Progress
begun = record { stage = stage.Heading; said = nothing_said }

-- version 1 has no skews, and version 2 has some
abbrev pub after_heading : Drafted → List ℕ → Result Progress CertFaultKind
after_heading said line =
    if bytes_eq line (codes "turnaudit-certificate 1") then Ok (record { stage = stage.Lines; said = said })
    else (if bytes_eq line (codes "turnaudit-certificate 2") then Ok (record { stage = stage.Skews; said = said }) else Err Heading)

-- a line of a lane or a drop, or `end`
abbrev pub after_other : Drafted → List ℕ → Result Progress CertFaultKind
after_other said line =
    if bytes_eq line (codes "end") then Ok (record { stage = stage.Ended; said = said })
    else (do
      next ← after_line said line
      Ok (record { stage = stage.Lines; said = next }))

-- the first line that is no skew comes after one
abbrev pub after_skews : Drafted → List ℕ → Result Progress CertFaultKind
after_skews said line = if length said.skews == 0 then Err Line else after_other said line

-- while the skews go on, with the line's first word and the rest after it
abbrev pub among_skews : Result (List ℕ × List ℕ) TokenFault → Drafted → List ℕ → Result Progress CertFaultKind
among_skews (Ok halves) said line =
    if bytes_eq halves.0 (codes "skew") then (do
      next ← after_skew said halves.1
      Ok (record { stage = stage.Skews; said = next }))
    else after_skews said line
among_skews (Err fault) said line = after_skews said line

-- the heading comes first, and no line follows `end`
abbrev pub after_in : Stage → Drafted → List ℕ → Result Progress CertFaultKind
after_in stage.Heading said line = after_heading said line
after_in stage.Skews said line = among_skews (halves_of 32 line) said line
after_in stage.Lines said line = after_other said line
after_in stage.Ended said line = Err Line

unfoldable pub after : Progress → List ℕ → Result Progress CertFaultKind
after progress line = after_in progress.stage progress.said line

-- each line ends with an LF
abbrev pub unended_in : Stage → CertFaultKind
unended_in stage.Heading = Heading
unended_in stage.Skews = Line
unended_in stage.Lines = Line
unended_in stage.Ended = Line

abbrev pub unended : Progress → List ℕ → CertFaultKind
unended progress rest = unended_in progress.stage

-- a line of too many bytes has the same fault
abbrev pub overlong : Progress → CertFaultKind
overlong progress = unended_in progress.stage

-- the heading and `end` are required
abbrev pub lacks_in : Stage → Option CertFaultKind
lacks_in stage.Heading = Some Heading
lacks_in stage.Skews = Some EndMissing
lacks_in stage.Lines = Some EndMissing
lacks_in stage.Ended = None

abbrev pub lacks : Progress → Option CertFaultKind
lacks progress = lacks_in progress.stage

-- the reader has the content of its lines
abbrev pub Says : Progress → Progress → Type 0
Says lines progress = lines ≡ progress

-- a reader was fed this text, which has no fault so far
abbrev pub StandsFor : SoFar Progress → List ℕ → Type 0
StandsFor reader text = readers.StandsFor Says (within overlong after) begun reader text

abbrev pub said_in : Result Progress (LineFault CertFaultKind) → Result Drafted (LineFault CertFaultKind)
said_in (Ok progress) = Ok progress.said
said_in (Err fault) = Err fault

-- the content of a text, or its first fault
unfoldable pub cert_of : List ℕ → Result Drafted (LineFault CertFaultKind)
cert_of text = said_in (read_text overlong after unended lacks begun text)
