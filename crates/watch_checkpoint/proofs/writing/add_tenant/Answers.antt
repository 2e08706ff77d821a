use Rattle.std.proofs.Common.{sym, codes, map}
use Rattle.watch_checkpoint.specs.declared.entry.Entry.TheVariants as entry
use Rattle.watch_checkpoint.specs.Content.{permission_entry, channel_entry, holder_of}
use Rattle.watch_checkpoint.specs.Spelling.{entry_text, lines_of}
use Rattle.watch_checkpoint.proofs.Texts.{four, on_ok_is, lines_after}
use Rattle.watch_checkpoint.proofs.writing.add_tenant.Goals as goal

pub returns : goal.returns
returns c =
    let client = c.args.client.now in
    on_ok_is c.add_channels.result _ _ _ _ (sym (lines_after (entry.Client (holder_of client)) (map permission_entry client.permissions.items) (map channel_entry client.channels.items)))
    (four c.add_channels.result _ _ _ _ _ (entry_text (entry.Client (holder_of client))) (codes "\n") (lines_of (map permission_entry client.permissions.items)) (lines_of (map channel_entry client.channels.items))
    c.in_ok-add_client.ensures c.in_ok-extend_from_slice.ensures.items (rw c.as_slice.ensures.value at c.in_ok-add_permissions.ensures) (rw c.as_slice-2.ensures.value at c.add_channels.ensures))
