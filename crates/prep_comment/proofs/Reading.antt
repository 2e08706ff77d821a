-- A section with a comment, as it is read.
use Rattle.std.proofs.Common.{◌≡◌, ◌≤◌, ◌+◌, ◌-◌, ◌*◌, ◌/◌, ◌%◌, ℕ, min, List, length, take, Option, Some, None, Ok, refl, sym, arith}
use Rattle.std.specs.Int.{w16, w32}
use Rattle.std.proofs.lemmas.List.{length-take}
use Rattle.std.proofs.lemmas.Bool.{le-ltb, eq-eqb}
use Rattle.audit_pcapng.specs.declared.block_kind.BlockKind.TheVariants as kinds
use Rattle.audit_pcapng.specs.declared.byte_order.ByteOrder.{ByteOrder}
use Rattle.audit_pcapng.specs.declared.byte_order.ByteOrder.TheVariants.{Little, Big}
use Rattle.audit_pcapng.specs.declared.heading.Heading.{Heading}
use Rattle.audit_pcapng.specs.declared.scope.Scope.{Scope}
use Rattle.audit_pcapng.specs.Blocks.{block, content}
use Rattle.audit_pcapng.specs.Headings.{heading, section_heading, heading_of}
use Rattle.audit_pcapng.specs.Numbers.{number_at}
use Rattle.audit_pcapng.specs.Sections.{section}
use Rattle.prep_blocks.specs.Read.{IsRead}
use Rattle.prep_comment.specs.Sections.{block_of, scope_behind, section_of, total_of, whole_of}
use Rattle.prep_comment.proofs.Lengths.{front_of, whole_long}
use Rattle.prep_comment.proofs.Spelled.{kind_shown, magic_shown, version_shown, first_shown, second_shown, front_taken, total_small}

abbrev head_by : ℕ → Heading
head_by total = record { length = total; kind = kinds.Section; order = Little }

heading_by : (order : Option ByteOrder) (bytes : List ℕ) (total : ℕ) → 12 ≤ length bytes → number_at Big w32 0 bytes ≡ 0x0A0D0D0A → number_at Little w32 8 bytes ≡ 0x1A2B3C4D
    → number_at Little w32 4 bytes ≡ total → total % 4 ≡ 0 → 28 ≤ total → total ≤ 16777216 → heading order bytes ≡ Ok (Some (head_by total))
unfolding heading section_heading heading_of
heading_by order bytes total long kind magic is four least most =
    rw (
      le-ltb (length bytes) 4 (omega (arith, long)),
      eq-eqb (number_at Big w32 0 bytes) 0x0A0D0D0A kind,
      le-ltb (length bytes) 12 long,
      eq-eqb (number_at Little w32 8 bytes) 0x1A2B3C4D magic,
      is,
      eq-eqb (total % 4) 0 four,
      le-ltb total 28 least,
      le-ltb 16777216 total most,
    ) refl

block_by : (scope : Scope) (bytes body : List ℕ) (total : ℕ) → take (length bytes - 4) bytes ≡ body → number_at Little w32 (length bytes - 4) bytes ≡ length bytes
    → number_at Little w16 12 body ≡ 1 → block scope (head_by total) bytes ≡ Ok (scope_behind scope, None)
unfolding block content section
block_by scope bytes body total front second version =
    rw (eq-eqb (number_at Little w32 (length bytes - 4) bytes) (length bytes) second, front, eq-eqb (number_at Little w16 12 body) 1 version) refl

four : (n : ℕ) → (36 + (n + 3) / 4 * 4) % 4 ≡ 0
four n = omega arith

whole_read : (scope : Scope) (text : List ℕ) → length text ≤ 4096
    → IsRead scope (record { bytes = whole_of text; kind = kinds.Section; order = Little; packet = None }) None (scope_behind scope)
whole_read scope text few = record {
  head = head_by (total_of text);
  shown = heading_by scope.order (whole_of text) (total_of text) (omega (arith, whole_long text)) (kind_shown text) (magic_shown text) (first_shown text few)
      (four (length text)) (omega arith) (total_small text few);
  size = sym (whole_long text);
  taken = block_by scope (whole_of text) (front_of text) (total_of text) (front_taken text) (second_shown text few) (version_shown text);
  kind = refl;
  order = refl;
  packet = refl;
}

pub taken_few : (comment : List ℕ) → length (take 4096 comment) ≤ 4096
taken_few comment = let e : length (take 4096 comment) ≡ min 4096 (length comment) = length-take 4096 comment in omega (arith, e)

pub section_read : (scope : Scope) (comment : List ℕ) → IsRead scope (block_of comment) None (scope_behind scope)
unfolding section_of
section_read scope comment = whole_read scope (take 4096 comment) (taken_few comment)
