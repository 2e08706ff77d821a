-- What is known of sections and interfaces, one block later.
use Rattle.std.proofs.Common.{◌≡◌, ◌≢◌, ℕ, ◌+◌, ◌-◌, ◌≤◌, true, false, List, [], ◌∷◌, ◌++◌, length, drop, Some, sym, ap, ◌∙◌, append_assoc, arith}
use Rattle.std.specs.Option.{option_to_list}
use Rattle.std.proofs.lemmas.List.{append-nil, length-append}
use Rattle.std.proofs.lemmas.List.Prefix.{front_rest}
use Rattle.prep_blocks.specs.declared.block.Block.{Block}
use Rattle.prep_join.specs.declared.shape.Shape.{Shape}
use Rattle.prep_join.specs.Rings.{is_section, is_interface, is_data, interfaces_of, first_of}
use Rattle.prep_join.specs.Shapes.{IsShaped}
use Rattle.prep_join.proofs.Snoc.{any_yes, any_no, of_section, of_interface, same_interfaces, more_interfaces, same_orders, only_order}

-- the first capture's section
pub first_section : (old new : Shape) (done : List (List Block)) (current : List Block) (b : Block) → IsShaped old done current → is_section b ≡ true → old.has_section ≡ false → old.is_first ≡ true
    → new.is_first ≡ old.is_first → new.order ≡ Some b.order → new.interfaces ≡ old.interfaces → new.shown ≡ old.shown → new.has_section ≡ true → new.has_data ≡ old.has_data → IsShaped new done (current ++ b ∷ [])
first_section old new (first ∷ others) current b at is none begins e-first e-order e-interfaces e-shown e-section e-data = let n = at.number in absurd cc
first_section old new [] current b at is none begins e-first e-order e-interfaces e-shown e-section e-data =
    let kinds = of_section b is in
    let same = same_interfaces current b kinds.1 in
    record {
      number = e-first ∙ at.number;
      sections = e-section ∙ sym (any_yes is_section current b is);
      «data» = e-data ∙ at.«data» ∙ sym (any_no is_data current b kinds.0);
      orders = ap option_to_list e-order ∙ sym (only_order current b is (sym at.sections ∙ none));
      interfaces = rw (e-interfaces, same) at.interfaces;
      shown = rw (e-shown, same) at.shown;
      front = rw (e-interfaces, e-shown, same) at.front;
    }

-- an interface of the first capture
pub first_interface : (old new : Shape) (done : List (List Block)) (current : List Block) (b : Block) → IsShaped old done current → is_interface b ≡ true → old.is_first ≡ true
    → new.is_first ≡ old.is_first → new.order ≡ old.order → new.interfaces.items ≡ old.interfaces.items ++ b.bytes → new.shown ≡ length new.interfaces.items → new.has_section ≡ old.has_section → new.has_data ≡ old.has_data → IsShaped new done (current ++ b ∷ [])
first_interface old new (first ∷ others) current b at is begins e-first e-order e-interfaces e-shown e-section e-data = let n = at.number in absurd cc
first_interface old new [] current b at is begins e-first e-order e-interfaces e-shown e-section e-data =
    let kinds = of_interface b is in
    let more = more_interfaces current b is in
    let all : new.interfaces.items ≡ interfaces_of (current ++ b ∷ []) = e-interfaces ∙ ap (λ (t : List ℕ). t ++ b.bytes) at.interfaces ∙ sym more in
    let nothing : drop (length (interfaces_of (current ++ b ∷ []))) new.interfaces.items ≡ [] = front_rest new.interfaces.items (interfaces_of (current ++ b ∷ [])) [] (all ∙ sym (append-nil (interfaces_of (current ++ b ∷ [])))) in
    let at_end : new.shown ≡ length (interfaces_of (current ++ b ∷ [])) = e-shown ∙ ap length all in
    record {
      number = e-first ∙ at.number;
      sections = e-section ∙ at.sections ∙ sym (any_no is_section current b kinds.1);
      «data» = e-data ∙ at.«data» ∙ sym (any_no is_data current b kinds.0);
      orders = ap option_to_list e-order ∙ at.orders ∙ sym (same_orders current b kinds.1);
      interfaces = all;
      shown = at_end;
      front = all ∙ sym (append-nil (interfaces_of (current ++ b ∷ []))) ∙ ap (λ (t : List ℕ). interfaces_of (current ++ b ∷ []) ++ t) (sym nothing ∙ ap (λ (n : ℕ). drop n new.interfaces.items) (sym at_end));
    }

-- where interfaces of a later capture are looked for
pub looked_at : (old : Shape) (done : List (List Block)) (current : List Block) → IsShaped old done current → old.shown ≤ length old.interfaces.items
looked_at old done current at = omega (arith, at.shown, ap length at.front, length-append (interfaces_of current) (drop old.shown old.interfaces.items))

-- the next interface of a later capture
pub later_interface : (old new : Shape) (done : List (List Block)) (current : List Block) (b : Block) (rest : List ℕ) → IsShaped old done current → is_interface b ≡ true → old.is_first ≡ false
    → drop old.shown old.interfaces.items ≡ b.bytes ++ rest
    → new.is_first ≡ old.is_first → new.order ≡ old.order → new.interfaces ≡ old.interfaces → new.shown ≡ length old.interfaces.items - length rest → new.has_section ≡ old.has_section → new.has_data ≡ old.has_data → IsShaped new done (current ++ b ∷ [])
later_interface old new [] current b rest at is later next e-first e-order e-interfaces e-shown e-section e-data = let n = at.number in absurd cc
later_interface old new (first ∷ others) current b rest at is later next e-first e-order e-interfaces e-shown e-section e-data =
    let kinds = of_interface b is in
    let more = more_interfaces current b is in
    let shown_so = interfaces_of (current ++ b ∷ []) in
    let all : old.interfaces.items ≡ interfaces_of (current ++ b ∷ []) ++ rest = at.front ∙ ap (λ (t : List ℕ). interfaces_of current ++ t) next ∙ sym (append_assoc (interfaces_of current) b.bytes rest) ∙ ap (λ (t : List ℕ). t ++ rest) (sym more) in
    let long : length old.interfaces.items ≡ length (interfaces_of (current ++ b ∷ [])) + length rest = ap length all ∙ length-append (interfaces_of (current ++ b ∷ [])) rest in
    let at_end : new.shown ≡ length (interfaces_of (current ++ b ∷ [])) = omega (arith, e-shown, long) in
    let behind : drop (length (interfaces_of (current ++ b ∷ []))) old.interfaces.items ≡ rest = front_rest old.interfaces.items (interfaces_of (current ++ b ∷ [])) rest all in
    record {
      number = e-first ∙ at.number;
      sections = e-section ∙ at.sections ∙ sym (any_no is_section current b kinds.1);
      «data» = e-data ∙ at.«data» ∙ sym (any_no is_data current b kinds.0);
      orders = ap option_to_list e-order ∙ at.orders;
      interfaces = rw e-interfaces at.interfaces;
      shown = at_end;
      front = rw (e-interfaces, at_end, behind) all;
    }

-- it isn't the next one
pub not_next : (old : Shape) (done : List (List Block)) (current : List Block) (b : Block) → IsShaped old done current → ((rest : List ℕ) → drop old.shown old.interfaces.items ≢ b.bytes ++ rest)
    → (rest : List ℕ) → interfaces_of (first_of done current) ≢ (interfaces_of current ++ b.bytes) ++ rest
not_next old done current b at other rest e =
    let all : old.interfaces.items ≡ interfaces_of current ++ (b.bytes ++ rest) = at.interfaces ∙ e ∙ append_assoc (interfaces_of current) b.bytes rest in
    other rest (ap (λ (n : ℕ). drop n old.interfaces.items) at.shown ∙ front_rest old.interfaces.items (interfaces_of current) (b.bytes ++ rest) all)
