-- A policy text: a heading, then lines, each ended by an LF.
use Rattle.std.specs.Prelude.{◌≡◌, ℕ, true, false, ◌==◌, if◌then◌else◌, List, [], length, Option, Some, None, unwrap_or, Result, Ok, Err, codes}
use Rattle.std.specs.Str.{bytes_eq}
use Rattle.audit_text.specs.Reading.{SoFar, within, read_text}
use Rattle.audit_text.specs.Readers as readers
use Rattle.audit_model.specs.declared.policy.Policy.{Policy}
use Rattle.audit_text.specs.declared.line_fault.LineFault.{LineFault}
use Rattle.audit_model.specs.declared.policy_fault.PolicyFaultKind.{PolicyFaultKind}
use Rattle.audit_model.specs.declared.policy_fault.PolicyFaultKind.TheVariants.{Line, Missing}
use Rattle.audit_model.specs.PolicyLines.{Said, after_word}

abbrev pub nothing_said : Said
nothing_said = record { listen = []; relay = []; skew = None; skews = []; grace = None; hold = None; headed = false; by_interface = false }

-- after the heading of version 2 a line may set the skew of an interface
abbrev pub after_heading : Said → List ℕ → Result Said PolicyFaultKind
after_heading said line =
    if bytes_eq line (codes "turnaudit-policy 2") then Ok (record said { headed = true; by_interface = true })
    else (if bytes_eq line (codes "turnaudit-policy 1") then Ok (record said { headed = true }) else Err Line)

-- the heading is the first line
unfoldable pub after : Said → List ℕ → Result Said PolicyFaultKind
after said line = if said.headed then after_word said line else after_heading said line

-- each line ends with an LF
abbrev pub unended : Said → List ℕ → PolicyFaultKind
unended said rest = Line

-- a line of too many bytes is a line fault
abbrev pub overlong : Said → PolicyFaultKind
overlong said = Line

-- a listen line is required
abbrev pub lacks : Said → Option PolicyFaultKind
lacks said = if said.headed then (if length said.listen == 0 then Some Missing else None) else Some Line

-- the policy of the lines, with the defaults of 500 us, 1,000 ms and 2,000 ms
abbrev pub policy_said : Said → Policy
policy_said said = record {
  listen = said.listen;
  relay = said.relay;
  skew = unwrap_or said.skew 500000;
  skews = said.skews;
  grace = unwrap_or said.grace 1000000000;
  hold = unwrap_or said.hold 2000000000;
}

-- a draft has the settings of its lines
abbrev pub Says : Said → Said → Type 0
Says draft said = draft ≡ said

-- a reader was fed this text, which has no fault so far
abbrev pub StandsFor : SoFar Said → List ℕ → Type 0
StandsFor reader text = readers.StandsFor Says (within overlong after) nothing_said reader text

-- the policy of a whole text's settings
abbrev pub policy_read : Result Said (LineFault PolicyFaultKind) → Result Policy (LineFault PolicyFaultKind)
policy_read (Ok said) = Ok (policy_said said)
policy_read (Err fault) = Err fault

-- the policy of a text, or its first fault
unfoldable pub policy_of : List ℕ → Result Policy (LineFault PolicyFaultKind)
policy_of text = policy_read (read_text overlong after unended lacks nothing_said text)
