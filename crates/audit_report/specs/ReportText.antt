-- The report of a verdict, line by line. A decimal number has no leading zero.
use Rattle.std.specs.Prelude.{ℕ, List, ◌++◌, codes, decimal, length, Option, Some, None}
use Rattle.audit_model.specs.declared.verdict.Verdict.{Verdict}
use Rattle.audit_model.specs.declared.verdict.Verdict.TheVariants.{Conforming, NotShown}
use Rattle.audit_model.specs.declared.verdict.Breach.{Breach}
use Rattle.audit_model.specs.declared.sighting.SightId.{SightId}
use Rattle.audit_model.specs.declared.sighting.Sighting.{Sighting}
use Rattle.audit_model.specs.Addr.{addr_text}
use Rattle.audit_sightings.specs.Intake.{Taken, sighting_at}
use Rattle.audit_report.specs.RuleText.{text_of_rule}

-- `FROM to TO L bytes`
abbrev pub datagram_text : Sighting → List ℕ
datagram_text s = addr_text s.from ++ (codes " to " ++ (addr_text s.to ++ (codes " " ++ (decimal (length s.payload) ++ codes " bytes\n"))))

-- `datagram I.N`
abbrev pub name_text : SightId → List ℕ
name_text id = codes "datagram " ++ (decimal id.iface ++ (codes "." ++ (decimal id.index ++ codes " ")))

-- the sighting that shows a breach, or that no capture has it
abbrev pub sighting_line : SightId → Option Sighting → List ℕ
sighting_line id None = name_text id ++ codes "unknown\n"
sighting_line id (Some s) = name_text id ++ datagram_text s

-- `phase P lane L event E moment M tie T`
abbrev pub place_line : Breach → List ℕ
place_line b =
    codes "phase "
    ++ (decimal b.phase
    ++ (codes " lane "
    ++ (decimal b.at.lane
    ++ (codes " event "
    ++ (decimal b.at.place ++ (codes " moment " ++ (decimal b.at.key.moment ++ (codes " tie " ++ (decimal b.at.key.tie ++ codes "\n")))))))))

-- `rule R17 mapped address`
abbrev pub rule_line : Breach → List ℕ
rule_line b = codes "not shown\nrule " ++ (text_of_rule b.rule ++ codes "\n")

-- the lines after the heading
abbrev pub verdict_lines : Verdict → Taken → List ℕ
verdict_lines (Conforming datagrams lanes) taken =
    codes "conforming " ++ (decimal datagrams ++ (codes " datagrams " ++ (decimal lanes ++ codes " lanes\n")))
verdict_lines (NotShown b) taken = rule_line b ++ (place_line b ++ sighting_line b.sight (sighting_at taken b.sight))

-- the whole report
abbrev pub report_text : Verdict → Taken → List ℕ
report_text verdict taken = codes "turnaudit-report 1\n" ++ verdict_lines verdict taken
