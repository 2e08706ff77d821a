use Rattle.std.proofs.Common.{◌∙◌, get_or, is_none, refl, ap, Bor}
use Rattle.prep_causes.specs.declared.groups.Groups.{Groups}
use Rattle.prep_causes.specs.Groups.{no_group}
use Rattle.prep_cut.specs.declared.plan.Plan.{Plan}
use Rattle.prep_cut.specs.declared.tallies.Tallies.{Tallies}
use Rattle.prep_cut.specs.Datagrams.{datagram_of_block}
use Rattle.prep_cut.specs.Marks.{line_of, proposed_for, proposed_line}
use Rattle.prep_cut.specs.Marking.{tallied_with}
use Rattle.prep_cut.specs.Tallied.{no_tally, totals_with}
use Rattle.prep_cut.proofs.Marked.{is_at-one, group_parts, owing_parts}
use Rattle.prep_cut.proofs.Pairing.{notes_by}
use Rattle.prep_cut.proofs.marker.Marker.take.Goals as goal

pub returns-clause-ok : goal.returns-clause-ok
returns-clause-ok c = λ plan proposals earlier current at.
    let next = c.next_proposal-proposal.ensures in
    let noted = c.note_cause.ensures in
    let unread = c.note_unread.ensures in
    let counted = c.count.ensures in
    let proposal = proposed_for c.args.block.now.packet c.args.self.now.proposals.now in
    let same_plan = ap (λ (p : Bor Plan). p.now) next.plan in
    is_at-one c.args.self.now _ plan proposals earlier current c.args.block.now at
    (rw (counted.plan, unread.plan, noted.plan, next.plan) refl)
    (rw (counted.rest, unread.rest, noted.rest, next.rest) refl)
    (rw (counted.totals, unread.totals, noted.totals, next.totals, c.line_of-line.ensures, c.line_in.ensures, next.proposal, c.datagram_in-datagram.ensures) (ap (λ (p : Bor Plan). totals_with c.args.self.now.totals
    (is_none (line_of p.now (proposed_line proposal) c.args.block.now)) c.args.block.now.packet (datagram_of_block p.now.policy c.args.block.now)) next.plan))
    (rw (counted.len, unread.lines, noted.lines, next.tallies) refl)
    (λ other within. counted.tallies other (rw (unread.lines, noted.lines, next.tallies) within)
    ∙ rw (c.line_of-line.ensures, c.line_in.ensures, next.proposal, c.datagram_in-datagram.ensures, unread.lines, noted.lines, next.tallies) (ap (λ (p : Bor Plan). tallied_with (line_of p.now (proposed_line proposal) c.args.block.now) c.args.block.now.packet (datagram_of_block p.now.policy c.args.block.now) other (get_or c.args.self.now.tallies.lines.items other no_tally)) next.plan))
    (notes_by c.args.self.now.plan.now c.next_proposal-proposal.new.self.plan.now c.args.block.now proposal c.line_of-line.result c.cause_in-cause.result c.args.self.now.tallies.causes c.next_proposal-proposal.new.self.tallies.causes c.note_cause.new.self.tallies.causes c.count.new.self.tallies.causes
    same_plan (rw (c.line_of-line.ensures, c.line_in.ensures, next.proposal) refl) (rw (c.cause_in-cause.ensures, next.proposal) refl)
    (ap (λ (t : Tallies). t.causes) next.tallies)
    (counted.causes ∙ unread.causes)
    (noted.causes c.datagram_in-datagram.ensures))
    (record {
      len = rw (counted.groups, unread.len, noted.groups, next.tallies) refl;
      groups = λ other within.
          ap (λ (g : Groups). get_or g.groups.items other no_group) counted.groups
          ∙ group_parts c.args.self.now.plan.now c.note_cause.new.self.plan.now c.next_proposal-proposal.new.self.plan.now c.args.block.now proposal c.line_of-line.result c.cause_in-cause.result c.datagram_in-datagram.result other
          _ (get_or c.note_cause.new.self.tallies.groups.groups.items other no_group) (get_or c.args.self.now.tallies.groups.groups.items other no_group)
          (rw (noted.plan, next.plan) refl) same_plan (rw (c.line_of-line.ensures, c.line_in.ensures, next.proposal) refl) (rw (c.cause_in-cause.ensures, next.proposal) refl) c.datagram_in-datagram.ensures
          (rw (noted.groups, next.tallies) refl)
          (unread.groups other (rw (noted.groups, next.tallies) within));
      owing = counted.owing
          ∙ owing_parts c.args.self.now.plan.now c.note_cause.new.self.plan.now c.next_proposal-proposal.new.self.plan.now c.args.block.now proposal c.line_of-line.result c.datagram_in-datagram.result
          _ c.note_cause.new.self.tallies.owing c.args.self.now.tallies.owing
          (rw (noted.plan, next.plan) refl) same_plan (rw (c.line_of-line.ensures, c.line_in.ensures, next.proposal) refl) c.datagram_in-datagram.ensures
          (rw (noted.owing, next.tallies) refl)
          unread.owing;
    })
