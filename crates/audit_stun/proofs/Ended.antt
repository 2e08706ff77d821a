-- A message cut behind an integrity attribute.
use Rattle.std.proofs.Common.{◌≡◌, ◌≢◌, ◌⊎◌, ℕ, ◌+◌, ◌-◌, ◌%◌, ◌<◌, List, [], ◌∷◌, ◌++◌, length, take, drop, Option, Some, None, inl, inr, refl, sym, ap, subst, ◌∙◌, arith}
use Rattle.std.specs.List.{All}
use Rattle.std.specs.Prelude.{slice_range, option_map}
use Rattle.std.specs.Int.{w16, w32, to_be_bytes}
use Rattle.std.proofs.lemmas.Bool.{cases_eq}
use Rattle.std.proofs.lemmas.List.Elements.{All-cons, All-nil}
use Rattle.std.proofs.lemmas.List.{take_at, length-append, append_assoc, append-nil}
use Rattle.audit_stun.specs.Attribute.{Attribute, StartsWith, AreAttributes, padded, size}
use Rattle.audit_stun.specs.Counted.{first_of}
use Rattle.audit_stun.specs.Covered.{size_before, covered_of}
use Rattle.audit_stun.specs.Ended.{integrity, IsCovered}
use Rattle.audit_stun.specs.Message.{IsMessage}
use Rattle.audit_stun.specs.Parts.{parts_of}
use Rattle.audit_stun.proofs.Covered.{found_by, first_found, size_past, found_past, size_at, found_at, none_at_end, none_at_sha256}

-- the bytes of an attribute
abbrev pub attribute_bytes : Attribute → List ℕ → List ℕ
attribute_bytes a padding = to_be_bytes w16 a.kind ++ to_be_bytes w16 (length a.value) ++ a.value ++ padding

-- some attributes, cut behind the first one of a type
pub record Cut (kind : ℕ) (bytes : List ℕ) (attributes : List Attribute) (value : List ℕ) : Type 0 where
  pub before : List Attribute
  pub after : List Attribute
  pub front : List ℕ
  pub padding : List ℕ
  pub rest : List ℕ
  pub bytes_are : bytes ≡ front ++ (attribute_bytes (integrity kind value) padding ++ rest)
  pub attributes_are : attributes ≡ before ++ integrity kind value ∷ after
  pub first : All (λ a. a.kind ≢ kind) before
  pub front_size : length front ≡ size_before kind attributes
  pub few : length padding < 4
  pub aligned : (length value + length padding) % 4 ≡ 0
  pub fits : length value < 65536
  pub are_attributes : AreAttributes (front ++ attribute_bytes (integrity kind value) padding) (before ++ integrity kind value ∷ [])

start_parts : (bytes : List ℕ) (a : Attribute) (rest : List ℕ) (s : StartsWith bytes a rest) → bytes ≡ attribute_bytes a s.padding ++ rest
start_parts bytes a rest s = s.spelled

-- the same start, with another rest
start_again : (bytes : List ℕ) (a : Attribute) (rest other : List ℕ) (s : StartsWith bytes a rest) → StartsWith (attribute_bytes a s.padding ++ other) a other
start_again bytes a rest other s = record { padding = s.padding; spelled = refl; few = s.few; aligned = s.aligned; kind_fits = s.kind_fits; length_fits = s.length_fits }

start_size : (bytes : List ℕ) (a : Attribute) (rest : List ℕ) (s : StartsWith bytes a rest) → length (attribute_bytes a s.padding) ≡ size a
start_size bytes a rest s =
    let few = s.few in
    let aligned = s.aligned in
    omega (arith, length-append a.value s.padding)

abbrev attribute_of : ℕ → List ℕ → Attribute
attribute_of kind value = record { kind = kind; value = value }

abbrev just : List ℕ → Option (List ℕ)
just x = Some x

some_is : (x y : List ℕ) → just x ≡ just y → x ≡ y
some_is x y e = cc

same_attribute : (kind kind' : ℕ) (value value' : List ℕ) → kind ≡ kind' → value ≡ value' → attribute_of kind value ≡ attribute_of kind' value'
same_attribute kind kind' value value' p q = rw (p, q) refl

cut_here : (kind : ℕ) (bytes : List ℕ) (others : List Attribute) (value rest : List ℕ) → StartsWith bytes (integrity kind value) rest → Cut kind bytes (integrity kind value ∷ others) value
cut_here kind bytes others value rest s =
    let whole = attribute_bytes (integrity kind value) s.padding in
    let alone : StartsWith whole (integrity kind value) [] = subst (λ (x : List ℕ). StartsWith x (integrity kind value) []) (append-nil whole) (start_again bytes (integrity kind value) rest [] s) in
    record {
      before = [];
      after = others;
      front = [];
      padding = s.padding;
      rest = rest;
      bytes_are = s.spelled;
      attributes_are = refl;
      first = All-nil (λ (x : Attribute). x.kind ≢ kind);
      front_size = sym (size_at kind (integrity kind value) others refl);
      few = s.few;
      aligned = s.aligned;
      fits = s.length_fits;
      are_attributes = ([], alone, refl);
    }

cut_later : (kind : ℕ) (bytes : List ℕ) (a : Attribute) (others : List Attribute) (value rest : List ℕ) → a.kind ≢ kind → StartsWith bytes a rest → Cut kind rest others value → Cut kind bytes (a ∷ others) value
cut_later kind bytes a others value rest other s c =
    let whole = attribute_bytes a s.padding in
    let ending = attribute_bytes (integrity kind value) c.padding in
    let again : StartsWith ((whole ++ c.front) ++ ending) a (c.front ++ ending) = subst (λ (x : List ℕ). StartsWith x a (c.front ++ ending)) (sym (append_assoc whole c.front ending)) (start_again bytes a rest (c.front ++ ending) s) in
    let whole_size : length whole ≡ size a = start_size bytes a rest s in
    let front_size : length c.front ≡ size_before kind others = c.front_size in
    record {
      before = a ∷ c.before;
      after = c.after;
      front = whole ++ c.front;
      padding = c.padding;
      rest = c.rest;
      bytes_are = s.spelled ∙ ap (λ (x : List ℕ). whole ++ x) c.bytes_are ∙ sym (append_assoc whole c.front (ending ++ c.rest));
      attributes_are = ap (λ (x : List Attribute). a ∷ x) c.attributes_are;
      first = All-cons (λ (x : Attribute). x.kind ≢ kind) a c.before other c.first;
      front_size = omega (arith, length-append whole c.front, size_past kind a others other);
      few = c.few;
      aligned = c.aligned;
      fits = c.fits;
      are_attributes = (c.front ++ ending, again, c.are_attributes);
    }

pub cut_at_integrity : (kind : ℕ) (bytes : List ℕ) (attributes : List Attribute) (value : List ℕ) → AreAttributes bytes attributes → found_by kind attributes ≡ Some value → Cut kind bytes attributes value
cut_at_integrity kind bytes [] value h e = let none : None ≡ just value = sym (none_at_end kind) ∙ e in absurd cc
cut_at_integrity kind bytes (a ∷ others) value h e =
    let later = cut_at_integrity kind h.0 others value h.2 in
    elim (cases_eq a.kind kind) [
      | inl k ↦ (let is : a ≡ integrity kind value = same_attribute a.kind kind a.value value k (some_is a.value value (sym (found_at kind a others k) ∙ e)) in
          let P : Attribute → Type 0 = λ x. StartsWith bytes x h.0 → Cut kind bytes (x ∷ others) value in
          subst P (sym is) (cut_here kind bytes others value h.0) h.1)
      | inr k ↦ elim (cases_eq a.kind 28) [
        | inl sha ↦ (let none : None ≡ just value = sym (none_at_sha256 kind a others k sha) ∙ e in absurd cc)
        | inr other ↦ cut_later kind bytes a others value h.0 k h.1 (later (sym (found_past kind a others k other) ∙ e))
      ]
    ]

-- two numbers' bytes, the cookie's, and what is left of a message
abbrev message_bytes : ℕ → ℕ → List ℕ → List ℕ → List ℕ
message_bytes number len tid body = to_be_bytes w16 number ++ to_be_bytes w16 len ++ to_be_bytes w32 554869826 ++ tid ++ body

abbrev cookie_and : List ℕ → List ℕ
cookie_and rest = 33 ∷ 18 ∷ 164 ∷ 66 ∷ rest

pub covered_ended : (kind : ℕ) (b value : List ℕ) → (kind ≡ 8) ⊎ (kind ≡ 28) → IsMessage b (parts_of b) → first_of kind (parts_of b).attributes ≡ Some value
    → IsCovered kind b (take 2 b ++ to_be_bytes w16 (size_before kind (parts_of b).attributes + 4 + padded (length value))) (slice_range b 4 (20 + size_before kind (parts_of b).attributes)) value
covered_ended kind b value one m e =
    let attributes = (parts_of b).attributes in
    let tid = (parts_of b).tid in
    let n = size_before kind attributes in
    let c = cut_at_integrity kind m.body attributes value m.attributes (sym (first_found kind one attributes) ∙ e) in
    let mine = attribute_bytes (integrity kind value) c.padding in
    let rest = mine ++ c.rest in
    let spelled : b ≡ message_bytes m.number (length m.body) tid m.body = m.spelled in
    let in_two : take 2 b ≡ to_be_bytes w16 m.number = ap (take 2) spelled in
    let behind : drop 4 b ≡ cookie_and (tid ++ m.body) = ap (drop 4) spelled in
    let regrouped : cookie_and (tid ++ m.body) ≡ cookie_and (tid ++ c.front) ++ rest = ap (λ (x : List ℕ). cookie_and (tid ++ x)) c.bytes_are ∙ ap cookie_and (sym (append_assoc tid c.front rest)) in
    let few = c.few in
    let aligned = c.aligned in
    let front_size : length c.front ≡ n = c.front_size in
    let twelve : length tid ≡ 12 = m.twelve in
    let text_length : length (cookie_and (tid ++ c.front)) ≡ 20 + n - 4 = omega (arith, length-append tid c.front) in
    let text_is : slice_range b 4 (20 + n) ≡ cookie_and (tid ++ c.front) = ap (take (20 + n - 4)) (behind ∙ regrouped) ∙ take_at (cookie_and (tid ++ c.front)) rest (20 + n - 4) text_length in
    let mine_length : length mine ≡ 4 + padded (length value) = omega (arith, length-append value c.padding) in
    let body_length : length (c.front ++ mine) ≡ n + 4 + padded (length value) = omega (arith, length-append c.front mine) in
    let body_fits : length m.body < 65536 = m.length_fits in
    let body_whole : length m.body ≡ length c.front + (length mine + length c.rest) = ap length c.bytes_are ∙ omega (arith, length-append c.front rest, length-append mine c.rest) in
    let head_is : take 2 b ++ to_be_bytes w16 (n + 4 + padded (length value)) ≡ to_be_bytes w16 m.number ++ to_be_bytes w16 (length (c.front ++ mine)) = ap (λ (x : List ℕ). x ++ to_be_bytes w16 (n + 4 + padded (length value))) in_two ∙ ap (λ (x : ℕ). to_be_bytes w16 m.number ++ to_be_bytes w16 x) (sym body_length) in
    let start = to_be_bytes w16 m.number ++ to_be_bytes w16 (length m.body) in
    let text = slice_range b 4 (20 + n) in
    record {
      before = c.before;
      after = c.after;
      start = start;
      rest = rest;
      padding = c.padding;
      attributes = c.attributes_are;
      first = c.first;
      in_place = spelled ∙ ap (λ (x : List ℕ). start ++ x) regrouped ∙ sym (append_assoc start (cookie_and (tid ++ c.front)) rest) ∙ ap (λ (x : List ℕ). start ++ x ++ rest) (sym text_is);
      four = refl;
      ended = record {
        number = m.number;
        body = c.front ++ mine;
        spelled = ap (λ (x : List ℕ). x ++ text ++ to_be_bytes w16 kind ++ to_be_bytes w16 (length value) ++ value ++ c.padding) head_is
            ∙ ap (λ (x : List ℕ). to_be_bytes w16 m.number ++ to_be_bytes w16 (length (c.front ++ mine)) ++ x ++ to_be_bytes w16 kind ++ to_be_bytes w16 (length value) ++ value ++ c.padding) text_is
            ∙ simp append_assoc;
        typed = m.typed;
        twelve = m.twelve;
        length_fits = omega (arith, length-append c.front mine);
        attributes = c.are_attributes;
      };
    }

abbrev Three : Type 0
Three = List ℕ × List ℕ × List ℕ

abbrev found : Three → Option Three
found x = Some x

found_is : (x y : Three) → found x ≡ found y → x ≡ y
found_is x y e = cc

by_value : (kind : ℕ) (b head text value : List ℕ) (o : Option (List ℕ)) → (kind ≡ 8) ⊎ (kind ≡ 28) → IsMessage b (parts_of b) → first_of kind (parts_of b).attributes ≡ o
    → found (head, text, value) ≡ option_map (λ v. (take 2 b ++ to_be_bytes w16 (size_before kind (parts_of b).attributes + 4 + padded (length v)), slice_range b 4 (20 + size_before kind (parts_of b).attributes), v)) o
    → IsCovered kind b head text value
by_value kind b head text value None one m p e = absurd cc
by_value kind b head text value (Some v) one m p e =
    let before = size_before kind (parts_of b).attributes in
    let now : Three = (take 2 b ++ to_be_bytes w16 (before + 4 + padded (length v)), slice_range b 4 (20 + before), v) in
    let said : Three = (head, text, value) in
    let same : now ≡ said = sym (found_is said now e) in
    let head_is : take 2 b ++ to_be_bytes w16 (before + 4 + padded (length v)) ≡ head = ap (λ (x : Three). x.0) same in
    let text_is : slice_range b 4 (20 + before) ≡ text = ap (λ (x : Three). x.1) same in
    let value_is : v ≡ value = ap (λ (x : Three). x.2) same in
    let Head : List ℕ → Type 0 = λ x. IsCovered kind b x (slice_range b 4 (20 + before)) v in
    let Text : List ℕ → Type 0 = λ x. IsCovered kind b head x v in
    let Value : List ℕ → Type 0 = λ x. IsCovered kind b head text x in
    subst Value value_is (subst Text text_is (subst Head head_is (covered_ended kind b v one m p)))

pub covered_by_places : (kind : ℕ) (b head text value : List ℕ) → (kind ≡ 8) ⊎ (kind ≡ 28) → IsMessage b (parts_of b) → Some (head, text, value) ≡ covered_of kind b → IsCovered kind b head text value
unfolding covered_of
covered_by_places kind b head text value one m e = by_value kind b head text value (first_of kind (parts_of b).attributes) one m refl e
