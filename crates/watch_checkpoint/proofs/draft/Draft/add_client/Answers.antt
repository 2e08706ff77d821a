use Rattle.std.proofs.Common.{[], Some, refl, sym, ap, subst, ◌∙◌}
use Rattle.watch_checkpoint.specs.Adding.{Progress, Knows, clients_of, progress_of}
use Rattle.watch_checkpoint.proofs.Drafts.{client_added}
use Rattle.watch_checkpoint.proofs.draft.Draft.add_client.Goals as goal

pub returns : goal.returns
returns c before says =
    let p = progress_of c.args.self.now in
    let h = c.args.holder in
    let knows = subst (λ (q : Progress). Knows c.args.self.now.known q.grace q.moment (clients_of q)) (sym says.same) says.knows in
    let claim = c.in_ok-claim.ensures (clients_of p) knows in
    let made =
    ap (λ (x : Progress). record x { last = Some (record { holder = h; permissions = c.new.result.items; channels = c.new-2.result.items }) }) c.in_ok-end_client.ensures.ok
    ∙ ap (λ ps. record p { before = clients_of p; last = Some (record { holder = h; permissions = ps; channels = c.new-2.result.items }) }) c.new.ensures.items
    ∙ ap (λ cs. record p { before = clients_of p; last = Some (record { holder = h; permissions = []; channels = cs }) }) c.new-2.ensures.items in
    let all = client_added p before _ h c.claim.new.self c.end_client.new.self.known says.same (sym c.has_no_times.ensures ∙ c.if-not-has_no_times.false) claim.0 claim.1 made c.in_ok-end_client.ensures.known in
    (all.0, record { same = refl; knows = all.1 })
