-- The list of what is excluded, line by line. A decimal number has no leading zero, and moments are
-- nanoseconds.
use Rattle.std.specs.Prelude.{ℕ, ◌+◌, ◌*◌, ◌-◌, ◌/◌, nat_lt, ◌==◌, if◌then◌else◌, Bool, true, false, not, List, [], ◌∷◌, ◌++◌, Option, Some, None, codes, decimal}
use Rattle.prep_cut.specs.declared.plan.Plan.{Plan}
use Rattle.prep_cut.specs.declared.reason.Reason.{Reason}
use Rattle.prep_cut.specs.declared.reason.Reason.TheVariants as reasons
use Rattle.prep_cut.specs.declared.stated.Stated.{Stated}
use Rattle.prep_cut.specs.declared.tally.Count.{Count}
use Rattle.prep_cut.specs.declared.tallies.Tallies.{Tallies}
use Rattle.prep_cut.specs.declared.tally.Tally.{Tally}
use Rattle.prep_cut.specs.declared.tally.Totals.{Totals}
use Rattle.prep_causes.specs.Slots.{pairs_in}
use Rattle.prep_cut.specs.Marking.{carried_of}
use Rattle.prep_cut.specs.ReasonText.{reason_text}
use Rattle.prep_causes.specs.Groups.{capped}
use Rattle.prep_cut.specs.Tallied.{counted_both, is_counted, no_count}
use Rattle.prep_program.specs.declared.cutting.AllCut.{AllCut}
use Rattle.prep_program.specs.declared.list_totals.Departures.{Departures}
use Rattle.prep_program.specs.declared.list_totals.Sums.{Sums}
use Rattle.prep_program.specs.declared.list_totals.Notes.{Notes}

-- `WORD MOMENT`, if a moment is stated
abbrev pub moment_line : List ℕ → Option ℕ → List ℕ
moment_line word None = []
moment_line word (Some moment) = word ++ (codes " " ++ (decimal moment ++ codes "\n"))

-- `WORD NUMBER`, if it is printed
abbrev pub number_line : List ℕ → Bool → ℕ → List ℕ
number_line word false number = []
number_line word true number = word ++ (codes " " ++ (decimal number ++ codes "\n"))

-- the line, if it is printed
abbrev pub printed_line : Bool → List ℕ → List ℕ
printed_line false line = []
printed_line true line = line

-- `begin MOMENT`, and the stated moments
abbrev pub moments_text : Stated → ℕ → List ℕ
moments_text stated begin =
    ((codes "turnprep-set-aside 1\nbegin " ++ (decimal begin ++ codes "\n")) ++ moment_line (codes "since") stated.since) ++ moment_line (codes "until") stated.until

-- all options that the operator states; a lifetime only if it isn't the default
abbrev pub head_text : Stated → ℕ → List ℕ
head_text stated begin =
    ((((moments_text stated begin
    ++ printed_line stated.is_from_start (codes "from-start\n"))
    ++ printed_line stated.has_no_tcp (codes "no-tcp\n"))
    ++ number_line (codes "lifetime") (not (stated.lifetime == 3600)) stated.lifetime)
    ++ number_line (codes "released-ms") (nat_lt 0 stated.released_ms) stated.released_ms)
    ++ printed_line stated.keeps_inner (codes "keep-inner\n")

-- ` in DATAGRAMS BYTES out DATAGRAMS BYTES`
abbrev pub counts_text : Count → Count → List ℕ
counts_text arrived left =
    codes " in " ++ (decimal arrived.datagrams ++ (codes " " ++ (decimal arrived.bytes ++ (codes " out " ++ (decimal left.datagrams ++ (codes " " ++ decimal left.bytes))))))

-- packets that aren't datagrams of the service, if there are any
abbrev pub others_text : Bool → ℕ → List ℕ
others_text false others = []
others_text true others = codes " other " ++ decimal others

-- the longest time after a deletion, in microseconds
abbrev pub longest_text : Reason → ℕ → List ℕ
longest_text (reasons.Released pair relayed moment) last = codes " longest-us " ++ decimal ((last - moment) / 1000)
longest_text other last = []

-- `REASON from FIRST to LAST`, and what it counts
abbrev pub line_text : Reason → Tally → List ℕ
line_text reason tally =
    ((((reason_text reason ++ (codes " from " ++ (decimal tally.first ++ (codes " to " ++ decimal tally.last))))
    ++ counts_text tally.arrived tally.left)
    ++ others_text (nat_lt 0 tally.others) tally.others)
    ++ longest_text reason tally.last)
    ++ codes "\n"

-- a line that counts nothing is absent
abbrev pub counted_line : Bool → Reason → Tally → List ℕ
counted_line false reason tally = []
counted_line true reason tally = line_text reason tally

abbrev pub lines_text : List Reason → List Tally → List ℕ
lines_text [] tallies = []
lines_text (reason ∷ lines) [] = []
lines_text (reason ∷ lines) (tally ∷ tallies) = counted_line (is_counted tally) reason tally ++ lines_text lines tallies

-- `capture NUMBER packets WRITTEN left LEFT`
abbrev pub capture_text : ℕ → Totals → List ℕ
capture_text number totals =
    codes "capture " ++ (decimal number ++ (codes " packets " ++ (decimal totals.written ++ (codes " left " ++ (decimal totals.left ++ codes "\n")))))

-- numbered in order
abbrev pub captures_text : ℕ → List Totals → List ℕ
captures_text number [] = []
captures_text number (first ∷ others) = capture_text number first ++ captures_text (capped (number + 1)) others

-- with these tallies
abbrev pub sums_with : Sums → List Tally → Sums
sums_with sums [] = sums
sums_with sums (first ∷ others) =
    sums_with
    (record { arrived = counted_both sums.arrived first.arrived; left = counted_both sums.left first.left; others = capped (sums.others + first.others) })
    others

abbrev pub sums_of : List Tally → Sums
sums_of tallies = sums_with (record { arrived = no_count; left = no_count; others = 0 }) tallies

-- the sums of all that is excluded
abbrev pub sums_text : Sums → List ℕ
sums_text sums = ((codes "aside" ++ counts_text sums.arrived sums.left) ++ others_text (nat_lt 0 sums.others) sums.others) ++ codes "\n"

-- the datagrams that are kept, with these
abbrev pub kept_with : ℕ → List Totals → ℕ
kept_with kept [] = kept
kept_with kept (first ∷ others) = kept_with (capped (kept + first.datagrams)) others

abbrev pub kept_of : List Totals → ℕ
kept_of totals = kept_with 0 totals

-- the departures that no state from before allows, the kept datagrams, and the lanes
abbrev pub kept_text : Notes → ℕ → List ℕ
kept_text notes kept =
    codes "beyond " ++ (decimal notes.beyond ++ (codes "\nkept " ++ (decimal kept ++ (codes " datagrams " ++ (decimal notes.lanes ++ codes " lanes\n")))))

-- in percent, rounded up
abbrev pub share_of : ℕ → ℕ → ℕ
share_of part whole = if whole == 0 then 0 else (part * 100 + (whole - 1)) / whole

-- the line names a client from before, and counts something
abbrev pub is_client : Reason → Tally → Bool
is_client (reasons.Client pair) tally = is_counted tally
is_client other tally = false

-- the number of such lines, added to these
abbrev pub clients_with : ℕ → List Reason → List Tally → ℕ
clients_with clients [] tallies = clients
clients_with clients (reason ∷ lines) [] = clients
clients_with clients (reason ∷ lines) (tally ∷ tallies) = clients_with (if is_client reason tally then capped (clients + 1) else clients) lines tallies

-- The excluded departures: those that lack both an arrival and a packet that may have carried their
-- data, and those whose data unread packets may have carried.
abbrev pub departures_of : List Reason → Tallies → Departures
departures_of lines tallies = record { unpaired = (tallies.owing - pairs_in tallies.causes.slots.items) - carried_of tallies; unread = carried_of tallies; clients = clients_with 0 lines tallies.lines.items }

-- the excluded datagrams
abbrev pub excluded_of : Sums → ℕ
excluded_of sums = capped (sums.arrived.datagrams + sums.left.datagrams)

-- `excluded N of ALL datagrams SHARE percent`
abbrev pub share_text : ℕ → ℕ → List ℕ
share_text excluded all =
    codes "excluded " ++ (decimal excluded ++ (codes " of " ++ (decimal all ++ (codes " datagrams " ++ (decimal (share_of excluded all) ++ codes " percent")))))

-- ` departures N unpaired N unread N clients N`
abbrev pub departures_text : ℕ → Departures → List ℕ
departures_text all departures =
    codes " departures " ++ (decimal all ++ (codes " unpaired " ++ (decimal departures.unpaired ++ (codes " unread " ++ (decimal departures.unread ++ (codes " clients " ++ (decimal departures.clients ++ codes "\n")))))))

-- both, as one line
abbrev pub excluded_text : Sums → ℕ → Departures → List ℕ
excluded_text sums all departures = share_text (excluded_of sums) all ++ departures_text sums.left.datagrams departures

-- the lines of all of them together
abbrev pub totals_text : Notes → Sums → ℕ → Departures → List ℕ
totals_text notes sums kept departures = (sums_text sums ++ excluded_text sums (capped (excluded_of sums + kept)) departures) ++ kept_text notes kept

-- the whole list of a plan and of its captures
abbrev pub list_text : Plan → Notes → AllCut → List ℕ
list_text plan notes all =
    ((head_text plan.stated notes.begin ++ lines_text plan.lines all.tallies.lines.items)
    ++ captures_text 0 all.totals.items)
    ++ totals_text notes (sums_of all.tallies.lines.items) (kept_of all.totals.items) (departures_of plan.lines all.tallies)
