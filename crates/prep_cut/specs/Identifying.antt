-- An Allocate, by its transaction.
use Rattle.std.specs.Prelude.{ℕ, Bool, true, false, ◌&&◌, ◌==◌, if◌then◌else◌, List, length, take, Option, Some, None, nat_le, slice_range}
use Rattle.std.specs.Int.{w16, from_be_bytes}
use Rattle.audit_model.specs.declared.address.Addr.{Addr}
use Rattle.prep_cut.specs.declared.transaction.Transaction.{Transaction}

-- The transaction id of a payload that begins like a message of this type (RFC 8489, section 5). An
-- Allocate request has the type 3, and its success response 259.
abbrev pub id_of : ℕ → List ℕ → Option (List ℕ)
id_of kind payload = if nat_le 20 (length payload) && (from_be_bytes w16 (take 2 payload) == kind) then Some (slice_range payload 8 20) else None

-- an Allocate with this id, if a listen address sends or gets it
abbrev pub transaction_of : Bool → Addr → Addr → Option (List ℕ) → Option Transaction
transaction_of false client listen id = None
transaction_of true client listen None = None
transaction_of true client listen (Some id) = Some (record { client = client; listen = listen; tid = id })
