use Rattle.std.proofs.Common.{List, ◌∙◌, sym, ap}
use Rattle.indexmap.specs.IndexSet.{insert_key}
use Rattle.audit_clients.specs.Clients.{Pair, same, joined}
use Rattle.audit_clients.proofs.Joining.{joined_next, passed_next}
use Rattle.audit_clients.proofs.clients.join.Goals as goal
use Rattle.audit_clients.proofs.clients.join.Goals.{then-arrives_at_listen+in_ok-insert, else-arrives_at_listen}

pub loop-sighting-preserved : goal.loop-sighting-preserved
loop-sighting-preserved c =
    let policy = c.args.policy.now in
    let row = c.args.row.now in
    let i = c.loop-sighting.sighting-index in
    let s = c.sighting-item.result in
    let known = c.args.pairs.now in
    elim c.if-arrives_at_listen.branch [
      | then-arrives_at_listen+in_ok-insert w ↦
          rw w.pairs-is (w.in_ok-insert.ensures.ok
          ∙ ap (λ (ks : List Pair). insert_key same ks (s.from, s.to)) c.loop-sighting.invariant
          ∙ sym (joined_next policy row i s c.loop-sighting-test.true c.sighting-item.is known (sym c.arrives_at_listen.ensures ∙ w.if-arrives_at_listen.true)))
      | else-arrives_at_listen w ↦
          rw w.pairs-is (c.loop-sighting.invariant
          ∙ ap (joined known) (sym (passed_next policy row i s c.loop-sighting-test.true c.sighting-item.is (sym c.arrives_at_listen.ensures ∙ w.if-arrives_at_listen.false))))
    ]
