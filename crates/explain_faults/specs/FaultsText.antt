-- The report of shown faults, line by line. A decimal number has no leading zero, and moments are
-- nanoseconds.
use Rattle.std.specs.Prelude.{ℕ, Bool, ◌&&◌, not, List, [], ◌∷◌, ◌++◌, Option, None, Some, codes, decimal, count_by, length, string_bytes}
use Rattle.audit_faults.specs.declared.fault.Fault.{Fault}
use Rattle.audit_faults.specs.declared.fault.Fault.TheVariants.{Unasked, Unallocated, Unpermitted, Unbound, Unfit, Unauthentic}
use Rattle.audit_faults.specs.declared.fault.LastGrant.{LastGrant}
use Rattle.audit_faults.specs.declared.fault.ShownFault.{ShownFault}
use Rattle.audit_model.specs.declared.policy.Policy.{Policy}
use Rattle.audit_report.specs.ReportText.{sighting_line}
use Rattle.audit_sightings.specs.Intake.{Taken, sighting_at}
use Rattle.audit_sightings.specs.ByInterface.{count_of}
use Rattle.explain_faults.specs.declared.reported.Reported.{Reported}
use Rattle.explain_faults.specs.Wording.{title_of, beginning_of, reason_of, same_fault}

-- `fault I.N TITLE`, and whether the start was captured
abbrev pub title_lines : ShownFault → Bool → List ℕ
title_lines shown is_misdelivered = codes "fault " ++ (decimal shown.sight.iface ++ (codes "." ++ (decimal shown.sight.index ++ (codes " " ++ (title_of shown.fault ++ (codes "\n" ++ beginning_of shown.fault shown.may_predate is_misdelivered))))))

-- the last success response that granted the lease, and by how much it is too early for the
-- datagram that needed it
abbrev pub last_line : Option LastGrant → List ℕ
last_line None = []
last_line (Some last) =
    codes "last granted by datagram "
    ++ (decimal last.success.iface
    ++ (codes "." ++ (decimal last.success.index ++ (codes ", too early by " ++ (decimal last.too_early ++ (codes " nanoseconds for datagram " ++ (decimal last.arrival.iface ++ (codes "." ++ (decimal last.arrival.index ++ codes "\n")))))))))

-- a fault, its datagram, its reason, the last grant, and its note
abbrev pub fault_lines : Taken → Reported → List ℕ
fault_lines taken reported =
    title_lines reported.shown reported.is_misdelivered ++ sighting_line reported.shown.sight (sighting_at taken reported.shown.sight) ++ reason_of reported.shown.fault reported.shown.granted ++ last_line reported.shown.last ++ string_bytes reported.note

abbrev pub all_lines : Taken → List Reported → List ℕ
all_lines taken [] = []
all_lines taken (reported ∷ faults) = fault_lines taken reported ++ all_lines taken faults

-- the tolerances, on which each fault depends
abbrev pub heading : Policy → List ℕ
heading policy =
    codes "turnaudit-faults 1\ntolerances hold "
    ++ (decimal policy.hold ++ (codes " grace " ++ (decimal policy.grace ++ (codes " skew " ++ (decimal policy.skew ++ codes " nanoseconds\nin no order of the captured datagrams, at any moments within the tolerances, may the server have sent:\n")))))

abbrev pub number_of_fault : Fault → List Reported → ℕ
number_of_fault fault faults = count_by (λ reported. same_fault reported.shown.fault fault) faults

-- the captures began too late for it, and its data wasn't for another client
abbrev pub is_not_begun : Reported → Bool
is_not_begun reported = reported.shown.may_predate && not reported.is_misdelivered

-- the numbers of faults, of each kind and of datagrams
abbrev pub first_counts : List Reported → List ℕ
first_counts faults =
    codes "shown "
    ++ (decimal (length faults)
    ++ (codes " unasked "
    ++ (decimal (number_of_fault Unasked faults)
    ++ (codes " unallocated " ++ (decimal (number_of_fault Unallocated faults) ++ (codes " of which not begun " ++ decimal (count_by is_not_begun faults)))))))

abbrev pub last_counts : Taken → List Reported → List ℕ
last_counts taken faults =
    codes " unpermitted "
    ++ (decimal (number_of_fault Unpermitted faults)
    ++ (codes " unbound "
    ++ (decimal (number_of_fault Unbound faults)
    ++ (codes " unfit "
    ++ (decimal (number_of_fault Unfit faults)
    ++ (codes " unauthentic " ++ (decimal (number_of_fault Unauthentic faults) ++ (codes " of " ++ (decimal (count_of taken.interfaces) ++ codes " datagrams\n")))))))))

abbrev pub counts_line : Taken → List Reported → List ℕ
counts_line taken faults = first_counts faults ++ last_counts taken faults

-- after the heading a note on all of them
abbrev pub faults_text : Taken → List ℕ → List Reported → List ℕ
faults_text taken first faults = heading taken.policy ++ first ++ all_lines taken faults ++ counts_line taken faults

-- 1 if there is one
abbrev pub status_of : List Reported → ℕ
status_of [] = 0
status_of (shown ∷ faults) = 1
