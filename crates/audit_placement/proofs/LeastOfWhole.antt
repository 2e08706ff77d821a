-- The least breach of a whole certificate, from those of its lanes, its drops and the interfaces.
use Rattle.std.proofs.Common.{◌≡◌, [], Option, Some, None, length}
use Rattle.std.specs.Prelude.{IfNone}
use Rattle.audit_model.specs.declared.certificate.Certificate.{Certificate}
use Rattle.audit_model.specs.declared.verdict.Breach.{Breach}
use Rattle.audit_model.specs.Breach.{lesser}
use Rattle.audit_model.specs.Least.{IsLeast}
use Rattle.audit_model.proofs.Breaches.{none_more}
use Rattle.audit_sightings.specs.Intake.{Taken}
use Rattle.audit_placement.specs.Cuts.{ShowsCut}
use Rattle.audit_placement.specs.Entries.{entries, lanes_entries, drop_entries}
use Rattle.audit_placement.specs.Shows.{Shows, ShowsByStamps, ShowsFrom, ShowsOutOfOrder, ShowsPlaced, ShowsAnUnplaced}
use Rattle.audit_placement.proofs.LeastOfTwo.{least_both}
use Rattle.audit_placement.proofs.Turns.{least_append}

-- what is placed, from its lanes, its drops and the neighbours
pub least_placed : (taken : Taken) (certificate : Certificate) (of_lanes of_drops of_neighbours of_entries least : Option Breach)
    → IsLeast (ShowsFrom taken [] (lanes_entries 0 certificate.lanes)) of_lanes
    → IsLeast (ShowsFrom taken (lanes_entries 0 certificate.lanes) (drop_entries (length certificate.lanes) certificate.drops)) of_drops
    → of_entries ≡ lesser of_lanes of_drops
    → IsLeast (ShowsOutOfOrder taken (entries certificate)) of_neighbours
    → least ≡ lesser of_entries of_neighbours
    → IsLeast (ShowsPlaced taken certificate) least
least_placed taken certificate of_lanes of_drops of_neighbours of_entries least by_lanes by_drops entries_is by_neighbours is =
    rw (is, entries_is)
    (least_both (ShowsFrom taken [] (entries certificate)) (ShowsOutOfOrder taken (entries certificate)) (lesser of_lanes of_drops) of_neighbours
    (least_append taken [] (lanes_entries 0 certificate.lanes) (drop_entries (length certificate.lanes) certificate.drops) of_lanes of_drops by_lanes by_drops) by_neighbours)

-- and of what isn't placed
pub least_whole : (taken : Taken) (certificate : Certificate) (of_placed of_unplaced least : Option Breach)
    → IsLeast (ShowsPlaced taken certificate) of_placed → IsLeast (ShowsAnUnplaced taken certificate) of_unplaced → least ≡ lesser of_placed of_unplaced
    → IsLeast (ShowsByStamps taken certificate) least
least_whole taken certificate of_placed of_unplaced least placed unplaced is =
    rw is (least_both (ShowsPlaced taken certificate) (ShowsAnUnplaced taken certificate) of_placed of_unplaced placed unplaced)

-- and of what its skews cut off
pub least_cut_too : (taken : Taken) (certificate : Certificate) (by_stamps of_cuts least : Option Breach)
    → IsLeast (ShowsByStamps taken certificate) by_stamps → IsLeast (ShowsCut taken certificate) of_cuts → least ≡ lesser by_stamps of_cuts
    → IsLeast (Shows taken certificate) least
least_cut_too taken certificate by_stamps of_cuts least stamps cuts is =
    rw is (least_both (ShowsByStamps taken certificate) (ShowsCut taken certificate) by_stamps of_cuts stamps cuts)

nothing_known : (o : Option Breach) → IfNone o (Unit {0})
nothing_known None = tt
nothing_known (Some b) = tt

-- what holds where the first has none
pub none_of_first : (P : Type 0) (first second least : Option Breach) → least ≡ lesser first second → IfNone first P → IfNone least P
none_of_first P first second least is holds = none_more P (Unit {0}) P first second least is holds (nothing_known second) (λ p u. p)
