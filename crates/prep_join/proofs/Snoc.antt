-- One block more at the end.
use Rattle.std.proofs.Common.{◌≡◌, Bool, true, false, List, [], ◌∷◌, ◌++◌, map, filter, refl, sym, ap, ◌∙◌, append_assoc, ◌||◌}
use Rattle.std.specs.List.{list_any}
use Rattle.std.proofs.lemmas.List.{append-nil}
use Rattle.std.proofs.lemmas.List.Elements.{filter-append}
use Rattle.prep_blocks.specs.declared.block.Block.{Block}
use Rattle.prep_blocks.specs.Read.{bytes_of}
use Rattle.prep_blocks.proofs.Splitters.{bytes_of-one}
use Rattle.audit_pcapng.specs.declared.block_kind.BlockKind.{BlockKind}
use Rattle.audit_pcapng.specs.declared.block_kind.BlockKind.TheVariants as kinds
use Rattle.prep_join.specs.Rings.{section_kind, interface_kind, data_kind, is_section, is_interface, is_data, interfaces_of, orders_of, all_of}

pub filter_yes : (p : Block → Bool) (xs : List Block) (b : Block) → p b ≡ true → filter p (xs ++ b ∷ []) ≡ filter p xs ++ b ∷ []
filter_yes p xs b e = let one : filter p (b ∷ []) ≡ b ∷ [] = rw e refl in filter-append p xs (b ∷ []) ∙ ap (λ (t : List Block). filter p xs ++ t) one

pub filter_no : (p : Block → Bool) (xs : List Block) (b : Block) → p b ≡ false → filter p (xs ++ b ∷ []) ≡ filter p xs
filter_no p xs b e = let none : filter p (b ∷ []) ≡ [] = rw e refl in filter-append p xs (b ∷ []) ∙ ap (λ (t : List Block). filter p xs ++ t) none ∙ append-nil (filter p xs)

pub any_yes : (p : Block → Bool) (xs : List Block) (b : Block) → p b ≡ true → list_any p (xs ++ b ∷ []) ≡ true
any_yes p [] b e = rw e refl
any_yes p (x ∷ xs) b e = by_test (p x) (any_yes p xs b e) where
  by_test : (t : Bool) → list_any p (xs ++ b ∷ []) ≡ true → (t || list_any p (xs ++ b ∷ [])) ≡ true
  by_test true h = refl
  by_test false h = h

pub any_no : (p : Block → Bool) (xs : List Block) (b : Block) → p b ≡ false → list_any p (xs ++ b ∷ []) ≡ list_any p xs
any_no p [] b e = rw e refl
any_no p (x ∷ xs) b e = ap (λ (t : Bool). p x || t) (any_no p xs b e)

or_first : (a b : Bool) → (a || b) ≡ false → a ≡ false
or_first true b e = e
or_first false b e = refl

or_second : (a b : Bool) → (a || b) ≡ false → b ≡ false
or_second true b e = absurd cc
or_second false b e = e

pub none_passes : (p : Block → Bool) (xs : List Block) → list_any p xs ≡ false → filter p xs ≡ []
none_passes p [] e = refl
none_passes p (x ∷ xs) e =
    let first : p x ≡ false = or_first (p x) (list_any p xs) e in
    let later : list_any p xs ≡ false = or_second (p x) (list_any p xs) e in
    rw first (none_passes p xs later)

section_no_data : (kind : BlockKind) → section_kind kind ≡ true → data_kind kind ≡ false
section_no_data kinds.Section e = refl
section_no_data kinds.Interface e = absurd cc
section_no_data kinds.Statistics e = absurd cc
section_no_data kinds.Packet e = absurd cc
section_no_data kinds.NoStamp e = absurd cc
section_no_data kinds.Other e = absurd cc

section_no_interface : (kind : BlockKind) → section_kind kind ≡ true → interface_kind kind ≡ false
section_no_interface kinds.Section e = refl
section_no_interface kinds.Interface e = absurd cc
section_no_interface kinds.Statistics e = absurd cc
section_no_interface kinds.Packet e = absurd cc
section_no_interface kinds.NoStamp e = absurd cc
section_no_interface kinds.Other e = absurd cc

interface_no_data : (kind : BlockKind) → interface_kind kind ≡ true → data_kind kind ≡ false
interface_no_data kinds.Section e = absurd cc
interface_no_data kinds.Interface e = refl
interface_no_data kinds.Statistics e = absurd cc
interface_no_data kinds.Packet e = absurd cc
interface_no_data kinds.NoStamp e = absurd cc
interface_no_data kinds.Other e = absurd cc

interface_no_section : (kind : BlockKind) → interface_kind kind ≡ true → section_kind kind ≡ false
interface_no_section kinds.Section e = absurd cc
interface_no_section kinds.Interface e = refl
interface_no_section kinds.Statistics e = absurd cc
interface_no_section kinds.Packet e = absurd cc
interface_no_section kinds.NoStamp e = absurd cc
interface_no_section kinds.Other e = absurd cc

pub of_section : (b : Block) → is_section b ≡ true → (is_data b ≡ false) × (is_interface b ≡ false)
of_section b e = (section_no_data b.kind e, section_no_interface b.kind e)

pub of_interface : (b : Block) → is_interface b ≡ true → (is_data b ≡ false) × (is_section b ≡ false)
of_interface b e = (interface_no_data b.kind e, interface_no_section b.kind e)

pub same_interfaces : (current : List Block) (b : Block) → is_interface b ≡ false → interfaces_of (current ++ b ∷ []) ≡ interfaces_of current
same_interfaces current b e = ap bytes_of (filter_no is_interface current b e)

pub more_interfaces : (current : List Block) (b : Block) → is_interface b ≡ true → interfaces_of (current ++ b ∷ []) ≡ interfaces_of current ++ b.bytes
more_interfaces current b e = ap bytes_of (filter_yes is_interface current b e) ∙ bytes_of-one (filter is_interface current) b

pub same_orders : (current : List Block) (b : Block) → is_section b ≡ false → orders_of (current ++ b ∷ []) ≡ orders_of current
same_orders current b e = ap (λ (t : List Block). map (λ (x : Block). x.order) t) (filter_no is_section current b e)

pub only_order : (current : List Block) (b : Block) → is_section b ≡ true → list_any is_section current ≡ false → orders_of (current ++ b ∷ []) ≡ b.order ∷ []
only_order current b e none =
    let before : filter is_section (current ++ b ∷ []) ≡ b ∷ [] = filter_yes is_section current b e ∙ ap (λ (t : List Block). t ++ b ∷ []) (none_passes is_section current none) in
    ap (λ (t : List Block). map (λ (x : Block). x.order) t) before

pub all_of-one : (done : List (List Block)) (current : List Block) → all_of (done ++ current ∷ []) ++ [] ≡ all_of done ++ current
all_of-one [] current = append-nil (current ++ []) ∙ append-nil current
all_of-one (first ∷ others) current = append_assoc first (all_of (others ++ current ∷ [])) [] ∙ ap (λ (t : List Block). first ++ t) (all_of-one others current) ∙ sym (append_assoc first (all_of others) current)
