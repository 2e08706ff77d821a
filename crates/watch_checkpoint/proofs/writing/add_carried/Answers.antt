use Rattle.std.proofs.Common.{sym, map, ap, ◌∙◌, ◌++◌}
use Rattle.watch_checkpoint.specs.declared.entry.Entry.TheVariants as entry
use Rattle.watch_checkpoint.specs.Content.{numbered, tenants_entries, tenant_of}
use Rattle.watch_checkpoint.specs.Spelling.{lines_of}
use Rattle.watch_checkpoint.proofs.Texts.{four, on_ok_is, lines_four, clients_as}
use Rattle.watch_checkpoint.proofs.writing.add_carried.Goals as goal

pub returns : goal.returns
returns c =
    let carried = c.args.carried.now in
    let a = numbered 0 carried.interfaces.items in
    let b = tenants_entries (map tenant_of carried.clients.items) in
    let d = map entry.Waits carried.waiting.items in
    let e = map entry.Owed carried.owed.items in
    on_ok_is c.add_all_owed.result _ _ _ _ (sym (lines_four a b d e))
    (four c.add_all_owed.result _ _ _ _ _ (lines_of a) (lines_of b) (lines_of d) (lines_of e)
    (rw c.as_slice.ensures.value at c.in_ok-add_interfaces.ensures)
    ((rw c.as_slice-2.ensures.value at c.in_ok-add_tenants.ensures) ∙ ap (λ t. c.add_interfaces.new.text.items ++ t) (clients_as carried.clients.items)) (rw c.as_slice-3.ensures.value at c.in_ok-add_waiting.ensures) (rw c.as_slice-4.ensures.value at c.add_all_owed.ensures))
