-- The checkpoints that are read again: their numbers and bytes fit their types, no user has more
-- than 32,000 bytes, and no line lies about the lines before it.
use Rattle.std.specs.Prelude.{ℕ, ◌≡◌, ◌≤◌, ◌<◌, ◌^◌, List, ◌∷◌, ◌++◌, length, Ok}
use Rattle.std.specs.List.{AllByRecursion}
use Rattle.hex.specs.Hex.{IsBytes}
use Rattle.audit_model.specs.Fits.{AddrFits}
use Rattle.audit_cert.specs.Fits.{SightFits}
use Rattle.audit_cuts.specs.declared.carried.Came.{Came}
use Rattle.watch_checkpoint.specs.declared.entry.Entry.{Entry}
use Rattle.watch_checkpoint.specs.declared.entry.Entry.TheVariants as entry
use Rattle.watch_checkpoint.specs.declared.entry.Holder.{Holder}
use Rattle.watch_checkpoint.specs.Content.{Content, HeaderContent, Tenant, entries_of}
use Rattle.watch_checkpoint.specs.Adding.{claimed, placed_at}

-- bytes of a fixed number
abbrev pub BytesFit : ℕ → List ℕ → Type 0
BytesFit n bytes = (length bytes ≡ n) × IsBytes bytes

pub record HolderFits (h : Holder) : Type 0 where
  pub client : AddrFits h.pair.client
  pub listen : AddrFits h.pair.listen
  pub relayed : AddrFits h.relayed
  pub user : IsBytes h.user
  pub short : length h.user ≤ 32000
  pub id : BytesFit 12 h.id
  pub until : h.lease.until < 2 ^ 64

abbrev pub CameFits : Came → Type 0
CameFits came = SightFits came.sight × (came.moment < 2 ^ 64)

abbrev pub EntryFits : Entry → Type 0
EntryFits (entry.Interface n i) = (n < 2 ^ 64) × ((i.base < 2 ^ 64) × (i.placed < 2 ^ 32))
EntryFits (entry.Client h) = HolderFits h
EntryFits (entry.Permission ip lease) = (ip < 2 ^ 32) × (lease.until < 2 ^ 64)
EntryFits (entry.Channel n c) = (n < 2 ^ 16) × (AddrFits c.peer × (c.lease.until < 2 ^ 64))
EntryFits (entry.Waits came) = CameFits came
EntryFits (entry.Owed came) = CameFits came

pub record HeaderFits (h : HeaderContent) : Type 0 where
  pub policy : BytesFit 32 h.policy
  pub users : BytesFit 32 h.users
  pub begin : h.begin < 2 ^ 64
  pub number : h.number < 10 ^ 5
  pub opened : h.opened < 10 ^ 14

-- each client may come after those before it: no two are at one 5-tuple, or have usable allocations
-- with one relayed address
abbrev pub MayFollow : (grace moment : ℕ) → List Tenant → Type 0
MayFollow grace moment clients = (before : List Tenant) (t : Tenant) (more : List Tenant) → clients ≡ before ++ t ∷ more → claimed grace moment t.holder before ≡ Ok tt

pub record IsCheckpoint (grace : ℕ) (c : Content) : Type 0 where
  pub header : HeaderFits c.header
  pub moment : c.moment < 2 ^ 64
  pub entries : AllByRecursion EntryFits (entries_of c)
  pub clients : MayFollow grace c.moment c.clients
  pub waiting : AllByRecursion (λ (came : Came). came.sight.index < placed_at c.interfaces came.sight.iface) c.waiting
  pub owed : AllByRecursion (λ (came : Came). placed_at c.interfaces came.sight.iface ≤ came.sight.index) c.owed
