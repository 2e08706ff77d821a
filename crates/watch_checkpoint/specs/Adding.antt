-- What the lines so far say, and one line more.
use Rattle.std.specs.Prelude.{◌≡◌, ℕ, Bool, ◌&&◌, ◌==◌, if◌then◌else◌, nat_lt, nat_le, List, [], ◌∷◌, ◌++◌, length, map, slice_get, Option, Some, None, Result, Ok, Err}
use Rattle.std.specs.BTreeSet.{BTreeSet, contains}
use Rattle.std.specs.List.{list_any}
use Rattle.audit_expiry.specs.Lease.{is_usable}
use Rattle.audit_expiry.specs.declared.lease.Lease.{Lease}
use Rattle.audit_text.specs.Token.{◌>>=◌}
use Rattle.audit_model.specs.declared.address.Addr.{Addr}
use Rattle.audit_model.specs.declared.lane_pairs.LanePairs.{LanePairs}
use Rattle.audit_model.specs.declared.pair.Pair.{Pair}
use Rattle.audit_model.specs.LanePairs.{addr_cmp, has}
use Rattle.audit_model.specs.Lanes.{same_addr}
use Rattle.audit_model.specs.Sames.{same_client}
use Rattle.audit_rules.specs.declared.table.Channel.{Channel}
use Rattle.audit_cuts.specs.declared.carried.Came.{Came}
use Rattle.audit_cuts.specs.declared.carried.Client.{Client}
use Rattle.audit_cuts.specs.declared.carried.Interface.{Interface}
use Rattle.watch_checkpoint.specs.declared.draft.Draft.{Draft}
use Rattle.watch_checkpoint.specs.declared.entry.Entry.{Entry}
use Rattle.watch_checkpoint.specs.declared.entry.Entry.TheVariants as entry
use Rattle.watch_checkpoint.specs.declared.entry.Holder.{Holder}
use Rattle.watch_checkpoint.specs.declared.fault.LineKind.{LineKind}
use Rattle.watch_checkpoint.specs.declared.fault.LineKind.TheVariants.{Order, ClientDouble, AddressHeld, Placement}
use Rattle.watch_checkpoint.specs.declared.client_set.ClientSet.{ClientSet}
use Rattle.watch_checkpoint.specs.Content.{Content, HeaderContent, Tenant, header_content, tenant_of}
use Rattle.watch_checkpoint.specs.Words.{entry_of}

-- what the lines so far say: the last client is apart, since its permissions and channels may
-- follow
pub record Progress : Type 0 where
  pub grace : ℕ
  pub header : HeaderContent
  pub moment : ℕ
  pub interfaces : List Interface
  pub before : List Tenant
  pub last : Option Tenant
  pub waiting : List Came
  pub owed : List Came

-- no line yet
abbrev pub begun : ℕ → HeaderContent → ℕ → Progress
begun grace header moment = record { grace = grace; header = header; moment = moment; interfaces = []; before = []; last = None; waiting = []; owed = [] }

abbrev pub with_last : List Tenant → Option Tenant → List Tenant
with_last before None = before
with_last before (Some t) = before ++ t ∷ []

abbrev pub clients_of : Progress → List Tenant
clients_of p = with_last p.before p.last

abbrev pub content_at : Progress → Content
content_at p = record { header = p.header; moment = p.moment; interfaces = p.interfaces; clients = clients_of p; waiting = p.waiting; owed = p.owed }

abbrev pub is_client : Pair → Tenant → Bool
is_client pair t = same_client t.holder.pair pair

-- the client has a usable allocation with the relayed address
abbrev pub is_holder : (grace moment : ℕ) → Addr → Tenant → Bool
is_holder grace moment relayed t = is_usable t.holder.lease.until moment grace && same_addr t.holder.relayed relayed

-- none of the clients has the 5-tuple
abbrev pub new_client : Holder → List Tenant → Result Unit LineKind
new_client h clients = if list_any (is_client h.pair) clients then Err ClientDouble else Ok tt

-- none of the clients has a usable allocation with the relayed address, if the allocation is usable
abbrev pub free_address : (grace moment : ℕ) → Holder → List Tenant → Result Unit LineKind
free_address grace moment h clients = if is_usable h.lease.until moment grace && list_any (is_holder grace moment h.relayed) clients then Err AddressHeld else Ok tt

-- whether a client may come after these
abbrev pub claimed : (grace moment : ℕ) → Holder → List Tenant → Result Unit LineKind
claimed grace moment h clients = do
  _ ← new_client h clients
  free_address grace moment h clients

-- a client without permissions and channels
abbrev pub tenant : Holder → Tenant
tenant h = record { holder = h; permissions = []; channels = [] }

-- the set has the 5-tuples of these clients
abbrev pub HasPairs : LanePairs → List Tenant → Type 0
HasPairs pairs clients = (c l : Addr) → has pairs c l ≡ list_any (is_client (record { client = c; listen = l })) clients

-- the set has the relayed addresses of their usable allocations
abbrev pub HasHeld : BTreeSet Addr → (grace moment : ℕ) → List Tenant → Type 0
HasHeld held grace moment clients = (a : Addr) → contains addr_cmp held a ≡ list_any (is_holder grace moment a) clients

abbrev pub Knows : ClientSet → (grace moment : ℕ) → List Tenant → Type 0
Knows known grace moment clients = HasPairs known.pairs clients × HasHeld known.held grace moment clients

-- neither an arrival that waits nor a departure that is owed
abbrev pub has_no_times : Progress → Bool
has_no_times p = (length p.waiting == 0) && (length p.owed == 0)

abbrev pub has_no_clients : Progress → Bool
has_no_clients p = (length (clients_of p) == 0) && has_no_times p

abbrev pub with_interface : Progress → ℕ → Interface → Result Progress LineKind
with_interface p n i = if (n == length p.interfaces) && has_no_clients p then Ok (record p { interfaces = p.interfaces ++ i ∷ [] }) else Err Order

abbrev pub with_client : Progress → Holder → Result Progress LineKind
with_client p h =
    if has_no_times p then (do
      _ ← claimed p.grace p.moment h (clients_of p)
      Ok (record p { before = clients_of p; last = Some (tenant h) }))
    else Err Order

-- permissions come before channels
abbrev pub permitted : Option Tenant → ℕ → Lease → Result Tenant LineKind
permitted None ip lease = Err Order
permitted (Some t) ip lease = if length t.channels == 0 then Ok (record t { permissions = t.permissions ++ (ip, lease) ∷ [] }) else Err Order

abbrev pub with_permission : Progress → ℕ → Lease → Result Progress LineKind
with_permission p ip lease =
    if has_no_times p then (do
      t ← permitted p.last ip lease
      Ok (record p { last = Some t }))
    else Err Order

abbrev pub bound : Option Tenant → ℕ → Channel → Result Tenant LineKind
bound None n c = Err Order
bound (Some t) n c = Ok (record t { channels = t.channels ++ (n, c) ∷ [] })

abbrev pub with_channel : Progress → ℕ → Channel → Result Progress LineKind
with_channel p n c =
    if has_no_times p then (do
      t ← bound p.last n c
      Ok (record p { last = Some t }))
    else Err Order

abbrev pub count_of : Option Interface → ℕ
count_of None = 0
count_of (Some i) = i.placed

-- how many sightings of the interface are placed
abbrev pub placed_at : List Interface → ℕ → ℕ
placed_at interfaces iface = count_of (slice_get interfaces iface)

-- an arrival that waits is placed
abbrev pub with_waits : Progress → Came → Result Progress LineKind
with_waits p came =
    if length p.owed == 0 then (if nat_lt came.sight.index (placed_at p.interfaces came.sight.iface) then Ok (record p { waiting = p.waiting ++ came ∷ [] }) else Err Placement)
    else Err Order

-- a departure that is owed isn't placed
abbrev pub with_owed : Progress → Came → Result Progress LineKind
with_owed p came = if nat_le (placed_at p.interfaces came.sight.iface) came.sight.index then Ok (record p { owed = p.owed ++ came ∷ [] }) else Err Placement

unfoldable pub with_entry : Progress → Entry → Result Progress LineKind
with_entry p (entry.Interface n i) = with_interface p n i
with_entry p (entry.Client h) = with_client p h
with_entry p (entry.Permission ip lease) = with_permission p ip lease
with_entry p (entry.Channel n c) = with_channel p n c
with_entry p (entry.Waits came) = with_waits p came
with_entry p (entry.Owed came) = with_owed p came

-- the content with one line more, or the line's fault
unfoldable pub after : Progress → List ℕ → Result Progress LineKind
after p line = do
  entry ← entry_of line
  with_entry p entry

abbrev pub last_of : Option Client → Option Tenant
last_of None = None
last_of (Some client) = Some (tenant_of client)

abbrev pub progress_of : Draft → Progress
progress_of d = record {
  grace = d.grace;
  header = header_content d.header;
  moment = d.moment;
  interfaces = d.interfaces.items;
  before = map tenant_of d.clients.items;
  last = last_of d.last;
  waiting = d.waiting.items;
  owed = d.owed.items;
}

-- the draft has what the lines say
pub record Says (draft : Draft) (p : Progress) : Type 0 where
  pub same : progress_of draft ≡ p
  pub knows : Knows draft.known p.grace p.moment (clients_of p)
