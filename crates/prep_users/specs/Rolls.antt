-- Users whose requests are signed.
use Rattle.std.specs.Prelude.{◌≡◌, ℕ, List, [], ◌∷◌, ◌++◌, All, Option, Some, None}
use Rattle.std.specs.List.{flat_map}
use Rattle.audit_packets.specs.Reading.{Datagram}
use Rattle.audit_packets.specs.Reading as seen
use Rattle.prep_blocks.specs.declared.block.Block.{Block}
use Rattle.prep_blocks.specs.declared.block.PacketHead.{PacketHead}
use Rattle.prep_blocks.specs.declared.splitter.BlockSplitter.{BlockSplitter}
use Rattle.prep_blocks.specs.Splitting.{StandsFor}
use Rattle.prep_frames.specs.Frames.{frame_in, seen_in}
use Rattle.prep_users.specs.declared.account.Account.{Account}
use Rattle.prep_users.specs.declared.claim.Secret.{Secret}
use Rattle.prep_users.specs.Claims.{Proves}

-- one of the payloads is the user's signed request
pub record IsProved (secrets : List Secret) (payloads : List (List ℕ)) (account : Account) : Type 0 where
  pub before : List (List ℕ)
  pub payload : List ℕ
  pub after : List (List ℕ)
  pub among : payloads ≡ before ++ payload ∷ after
  pub proves : Proves secrets account payload

-- each of the users has a signed request among the payloads
abbrev pub AreProved : List Secret → List Account → List (List ℕ) → Type 0
AreProved secrets accounts payloads = All (IsProved secrets payloads) accounts

-- the payload of a frame with a UDP datagram
abbrev pub payload_of : Datagram → List (List ℕ)
payload_of (seen.Udp from to payload) = payload ∷ []
payload_of seen.Other = []
payload_of (seen.Fragment from to) = []
payload_of (seen.Cut ips) = []

abbrev pub payload_at : Block → Option PacketHead → List (List ℕ)
payload_at block None = []
payload_at block (Some head) = payload_of (seen_in (frame_in block head) head)

-- the payloads of the UDP datagrams in blocks
abbrev pub payloads_in : List Block → List (List ℕ)
payloads_in blocks = flat_map (λ (b : Block). payload_at b b.packet) blocks

-- After this text of a capture, which has these complete blocks, and after other payloads: each of
-- the users has a signed request among the other payloads or those of the capture.
pub record IsScanning (splitter : BlockSplitter) (secrets : List Secret) (accounts : List Account) (text : List ℕ) (blocks : List Block) (earlier : List (List ℕ)) : Type 0 where
  pub splits : StandsFor splitter text blocks
  pub proved : AreProved secrets accounts (earlier ++ payloads_in blocks)

-- the piece was read up to the rest
pub record ScansOn (splitter : BlockSplitter) (secrets : List Secret) (accounts : List Account) (text : List ℕ) (blocks : List Block) (earlier : List (List ℕ)) (piece rest : List ℕ) : Type 0 where
  pub taken : List ℕ
  pub more : List Block
  pub cut : piece ≡ taken ++ rest
  pub scanning : IsScanning splitter secrets accounts (text ++ taken) (blocks ++ more) earlier
