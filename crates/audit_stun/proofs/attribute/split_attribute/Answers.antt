use Rattle.std.proofs.Common.{◌≡◌, ℕ, ◌-◌, List, ◌∷◌, length, drop, take, ap, ◌∙◌, arith}
use Rattle.std.proofs.lemmas.List.{take_rest, take-take}
use Rattle.audit_stun.specs.Attribute.{StartsWith, padded}
use Rattle.audit_stun.specs.Parts.{attributes_in}
use Rattle.audit_stun.proofs.Attributes.{nothing_in_short, nothing_in_cut, first_of_whole, starts_with_first}
use Rattle.audit_stun.proofs.attribute.split_attribute.Goals as goal

-- a fact of the value and the rest, where the code has split them off in two steps
as_split : (P : List ℕ → List ℕ → Type 0) (bytes front back : List ℕ) (n : ℕ) → front ≡ take (padded n) (take (length bytes - 4) (drop 4 bytes)) → back ≡ drop (padded n) (take (length bytes - 4) (drop 4 bytes))
    → P (take n (drop 4 bytes)) (drop (padded n) (drop 4 bytes)) → P (take n front) back
as_split P bytes front back n f b h =
    let whole : take (length bytes - 4) (drop 4 bytes) ≡ drop 4 bytes = take_rest bytes 4 in
    let f2 : front ≡ take (padded n) (drop 4 bytes) = rw whole at f in
    let b2 : back ≡ drop (padded n) (drop 4 bytes) = rw whole at b in
    let v : take n front ≡ take n (drop 4 bytes) = ap (take n) f2 ∙ take-take n (padded n) (drop 4 bytes) (omega arith) in
    rw (v, b2) h

pub returns-in_default-clause-none : goal.returns-in_default-clause-none
returns-in_default-clause-none c = nothing_in_short c.args.bytes.now c.in_default.len_below

pub returns-then-rest-padded-clause-none : goal.returns-then-rest-padded-clause-none
returns-then-rest-padded-clause-none c =
    nothing_in_cut c.args.bytes.now _ c.from_be_bytes-length.ensures (rw take_rest at c.if-rest-padded.true) c.in-len4-up.len_at_least

pub returns-clause-first : goal.returns-clause-first
returns-clause-first c =
    let bytes = c.args.bytes.now in
    let kind = c.from_be_bytes-kind.result in
    as_split (λ value rest. StartsWith bytes (record { kind = kind; value = value }) rest) bytes _ _ c.from_be_bytes-length.result c.split_at.ensures.front c.split_at.ensures.back
    (starts_with_first bytes _ kind (λ i. omega (arith, c.type_inv.bytes i)) c.from_be_bytes-length.ensures c.from_be_bytes-kind.ensures (rw take_rest at c.if-rest-padded.false) c.in-len4-up.len_at_least)

pub returns-clause-rest : goal.returns-clause-rest
returns-clause-rest c =
    let bytes = c.args.bytes.now in
    let kind = c.from_be_bytes-kind.result in
    as_split (λ value rest. attributes_in bytes ≡ record { kind = kind; value = value } ∷ attributes_in rest) bytes _ _ c.from_be_bytes-length.result c.split_at.ensures.front c.split_at.ensures.back
    (first_of_whole bytes _ kind c.from_be_bytes-length.ensures c.from_be_bytes-kind.ensures (rw take_rest at c.if-rest-padded.false) c.in-len4-up.len_at_least)
