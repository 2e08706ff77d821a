-- A section header with only a comment (pcapng, sections 3.5 and 4.1).
use Rattle.std.specs.Prelude.{ℕ, ◌+◌, ◌-◌, List, [], ◌∷◌, ◌++◌, length, replicate, take, Some, None}
use Rattle.std.specs.Int.{w16, w32, to_le_bytes}
use Rattle.audit_pcapng.specs.declared.block_kind.BlockKind.TheVariants as kinds
use Rattle.audit_pcapng.specs.declared.byte_order.ByteOrder.TheVariants.{Little}
use Rattle.audit_pcapng.specs.declared.scope.Scope.{Scope}
use Rattle.audit_pcapng.specs.Numbers.{padded}
use Rattle.prep_blocks.specs.declared.block.Block.{Block}

-- the option of a comment: its code, its length, and its text, padded to a multiple of 4
abbrev pub option_of : List ℕ → List ℕ
option_of text = (1 ∷ 0 ∷ []) ++ (to_le_bytes w16 (length text) ++ (text ++ replicate (padded (length text) - length text) 0))

-- the magic of a little-endian section, version 1.0, no stated length, the comment, and the end of
-- the options
abbrev pub body_of : List ℕ → List ℕ
body_of text =
    (0x4D ∷ 0x3C ∷ 0x2B ∷ 0x1A ∷ 1 ∷ 0 ∷ 0 ∷ 0 ∷ 255 ∷ 255 ∷ 255 ∷ 255 ∷ 255 ∷ 255 ∷ 255 ∷ 255 ∷ [])
    ++ (option_of text ++ (0 ∷ 0 ∷ 0 ∷ 0 ∷ []))

-- the block's length, which is before its body and after it
abbrev pub total_of : List ℕ → ℕ
total_of text = 36 + padded (length text)

abbrev pub whole_of : List ℕ → List ℕ
whole_of text = (0x0A ∷ 0x0D ∷ 0x0D ∷ 0x0A ∷ []) ++ (to_le_bytes w32 (total_of text) ++ (body_of text ++ to_le_bytes w32 (total_of text)))

-- only the first 4,096 bytes of a longer comment
unfoldable pub section_of : List ℕ → List ℕ
section_of comment = whole_of (take 4096 comment)

abbrev pub block_of : List ℕ → Block
block_of comment = record { bytes = section_of comment; kind = kinds.Section; order = Little; packet = None }

-- the interfaces before are of an earlier section
abbrev pub scope_behind : Scope → Scope
scope_behind scope = record { interfaces = scope.interfaces; earlier = length scope.interfaces; order = Some Little }
