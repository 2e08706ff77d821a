use Rattle.std.proofs.Common.{sym, subst}
use Rattle.std.specs.Prelude.{Contains}
use Rattle.prep_cut.specs.declared.leases.Leases.{Leases}
use Rattle.prep_cut.specs.Held.{HasEvent}
use Rattle.prep_cut.specs.Noted.{events_at}
use Rattle.prep_cut.proofs.allocations.Allocations.note.Goals as goal

pub returns-clause-events_kept : goal.returns-clause-events_kept
returns-clause-events_kept c = λ event had. subst (λ (ls : Leases). HasEvent ls event) (sym c.note_datagrams.ensures.leases) (c.in_ok-note.ensures.kept event had)

pub returns-clause-events_only : goal.returns-clause-events_only
returns-clause-events_only c = λ event client listen has.
    c.in_ok-note.ensures.only event client listen (subst (λ (ls : Leases). Contains (events_at ls.clients client listen) event) c.note_datagrams.ensures.leases has)
