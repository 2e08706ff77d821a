-- The content of a checkpoint, wherever it is in memory, and the entries that it has in order.
use Rattle.std.specs.Prelude.{ℕ, ◌+◌, List, [], ◌∷◌, ◌++◌, map}
use Rattle.audit_expiry.specs.declared.lease.Lease.{Lease}
use Rattle.audit_rules.specs.declared.table.Channel.{Channel}
use Rattle.audit_cuts.specs.declared.carried.Came.{Came}
use Rattle.audit_cuts.specs.declared.carried.Carried.{Carried}
use Rattle.audit_cuts.specs.declared.carried.Client.{Client}
use Rattle.audit_cuts.specs.declared.carried.Interface.{Interface}
use Rattle.watch_checkpoint.specs.declared.checkpoint.Checkpoint.{Checkpoint}
use Rattle.watch_checkpoint.specs.declared.checkpoint.Header.{Header}
use Rattle.watch_checkpoint.specs.declared.entry.Entry.{Entry}
use Rattle.watch_checkpoint.specs.declared.entry.Entry.TheVariants as entry
use Rattle.watch_checkpoint.specs.declared.entry.Holder.{Holder}

-- a client with its permissions and channels
pub record Tenant : Type 0 where
  pub holder : Holder
  pub permissions : List (ℕ × Lease)
  pub channels : List (ℕ × Channel)

-- the header without the proofs that its file's numbers are in range
pub record HeaderContent : Type 0 where
  pub policy : List ℕ
  pub users : List ℕ
  pub begin : ℕ
  pub number : ℕ
  pub opened : ℕ

pub record Content : Type 0 where
  pub header : HeaderContent
  pub moment : ℕ
  pub interfaces : List Interface
  pub clients : List Tenant
  pub waiting : List Came
  pub owed : List Came

abbrev pub holder_of : Client → Holder
holder_of client = record { pair = client.pair; relayed = client.relayed; user = client.user; id = client.id; lease = client.lease }

abbrev pub tenant_of : Client → Tenant
tenant_of client = record { holder = holder_of client; permissions = client.permissions.items; channels = client.channels.items }

abbrev pub header_content : Header → HeaderContent
header_content h = record { policy = h.policy; users = h.users; begin = h.begin; number = h.file.number; opened = h.file.opened }

abbrev pub content_of : Checkpoint → Content
content_of c = record {
  header = header_content c.header;
  moment = c.carried.moment;
  interfaces = c.carried.interfaces.items;
  clients = map tenant_of c.carried.clients.items;
  waiting = c.carried.waiting.items;
  owed = c.carried.owed.items;
}

-- the interfaces with their numbers, from this number on
abbrev pub numbered : ℕ → List Interface → List Entry
numbered n [] = []
numbered n (i ∷ more) = entry.Interface n i ∷ numbered (n + 1) more

abbrev pub permission_entry : ℕ × Lease → Entry
permission_entry p = entry.Permission p.0 p.1

abbrev pub channel_entry : ℕ × Channel → Entry
channel_entry c = entry.Channel c.0 c.1

-- a client's line, and then those of its permissions and channels
abbrev pub tenant_entries : Tenant → List Entry
tenant_entries t = entry.Client t.holder ∷ (map permission_entry t.permissions ++ map channel_entry t.channels)

abbrev pub tenants_entries : List Tenant → List Entry
tenants_entries [] = []
tenants_entries (t ∷ more) = tenant_entries t ++ tenants_entries more

abbrev pub entries_of : Content → List Entry
entries_of c = numbered 0 c.interfaces ++ (tenants_entries c.clients ++ (map entry.Waits c.waiting ++ map entry.Owed c.owed))

abbrev pub carried_entries : Carried → List Entry
carried_entries c = numbered 0 c.interfaces.items ++ (tenants_entries (map tenant_of c.clients.items) ++ (map entry.Waits c.waiting.items ++ map entry.Owed c.owed.items))
