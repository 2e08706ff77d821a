-- What the header of a message says.
use Rattle.std.proofs.Common.{◌≡◌, ℕ, ◌+◌, ◌-◌, ◌*◌, ◌<◌, ◌≤◌, List, [], ◌∷◌, ◌++◌, length, get_or, take, drop, lit<, refl, sym, ap, subst, ◌∙◌, arith}
use Rattle.std.specs.Int.{w16, w32, to_be_bytes, from_be_bytes}
use Rattle.std.proofs.lemmas.List.{take_at, drop_at, take-append-drop, drop-drop, length-take-le, length-append, length-drop, get_or-take}
use Rattle.std.proofs.lemmas.Nat.{be_bytes_2, be_bytes_4, from_be_bytes-to_be_bytes_2}
use Rattle.audit_stun.specs.declared.class.Class.{Class}
use Rattle.audit_stun.specs.Attribute.{Attribute, AreAttributes}
use Rattle.audit_stun.specs.MessageType.{IsType, class_of, method_of}
use Rattle.audit_stun.specs.Message.{Parts, IsMessage}
use Rattle.audit_stun.specs.Parts.{attributes_in, parts_of}
use Rattle.audit_stun.proofs.Attributes.{IsBytes, only_attributes}
use Rattle.audit_stun.proofs.Cells.{first_eight, two_fit, four_fit}
use Rattle.audit_stun.proofs.MessageTypes.{type_of_small, type_reads}

-- the tests of a message, by the places of its bytes
pub record HasHeader (bytes : List ℕ) : Type 0 where
  pub long : 20 ≤ length bytes
  pub small : get_or bytes 0 0 * 256 + get_or bytes 1 0 < 16384
  pub length_is : get_or bytes 2 0 * 256 + get_or bytes 3 0 ≡ length bytes - 20
  pub cookie_is : from_be_bytes w32 (get_or bytes 4 0 ∷ get_or bytes 5 0 ∷ get_or bytes 6 0 ∷ get_or bytes 7 0 ∷ []) ≡ 554869826
  pub attributes : AreAttributes (drop 20 bytes) (attributes_in (drop 20 bytes))

read_number : (b : List ℕ) → from_be_bytes w16 (take 2 b) ≡ get_or b 0 0 * 256 + get_or b 1 0
read_number b =
    let high = get_or-take 2 b 0 0 (lit< tt) in
    let low = get_or-take 2 b 1 0 (lit< tt) in
    cc

pub message_of_header : (b : List ℕ) → IsBytes b → HasHeader b → IsMessage b (parts_of b)
unfolding parts_of
message_of_header b fits h =
    let g = get_or b in
    let number = g 0 0 * 256 + g 1 0 in
    let body = drop 20 b in
    let tid = take 12 (drop 8 b) in
    let long = h.long in
    let len : length body ≡ length b - 20 = length-drop 20 b in
    let len_is : g 2 0 * 256 + g 3 0 ≡ length b - 20 = h.length_is in
    let g2 : g 2 0 < 256 = fits 2 in
    let g3 : g 3 0 < 256 = fits 3 in
    let e0 : to_be_bytes w16 number ≡ g 0 0 ∷ g 1 0 ∷ [] = be_bytes_2 (g 0 0 ∷ g 1 0 ∷ []) number refl (two_fit _ _ (fits 0) (fits 1)) refl in
    let e1 : to_be_bytes w16 (length body) ≡ g 2 0 ∷ g 3 0 ∷ [] = be_bytes_2 (g 2 0 ∷ g 3 0 ∷ []) (length body) refl (two_fit _ _ (fits 2) (fits 3)) (len ∙ sym h.length_is) in
    let e2 : to_be_bytes w32 554869826 ≡ g 4 0 ∷ g 5 0 ∷ g 6 0 ∷ g 7 0 ∷ [] = be_bytes_4 (g 4 0 ∷ g 5 0 ∷ g 6 0 ∷ g 7 0 ∷ []) 554869826 refl (four_fit _ _ _ _ (fits 4) (fits 5) (fits 6) (fits 7)) (sym h.cookie_is) in
    let e3 : tid ++ body ≡ drop 8 b = ap (λ (t : List ℕ). tid ++ t) (sym (drop-drop 12 8 b)) ∙ take-append-drop 12 (drop 8 b) in
    record {
      number = number;
      body = body;
      spelled = first_eight b (omega arith) ∙ sym (ap (λ (t : List ℕ). t ++ to_be_bytes w16 (length body) ++ to_be_bytes w32 554869826 ++ tid ++ body) e0 ∙ ap (λ (t : List ℕ). g 0 0 ∷ g 1 0 ∷ t ++ to_be_bytes w32 554869826 ++ tid ++ body) e1 ∙ ap (λ (t : List ℕ). g 0 0 ∷ g 1 0 ∷ g 2 0 ∷ g 3 0 ∷ t ++ tid ++ body) e2 ∙ ap (λ (t : List ℕ). g 0 0 ∷ g 1 0 ∷ g 2 0 ∷ g 3 0 ∷ g 4 0 ∷ g 5 0 ∷ g 6 0 ∷ g 7 0 ∷ t) e3);
      typed = subst (λ (n : ℕ). IsType number (class_of n) (method_of n)) (sym (read_number b)) (type_of_small number h.small);
      twelve = length-take-le 12 (drop 8 b) (omega (arith, length-drop 8 b));
      length_fits = omega arith;
      attributes = h.attributes;
    }

abbrev made : Class → ℕ → List ℕ → List Attribute → Parts
made class method tid attributes = record { class = class; method = method; tid = tid; attributes = attributes }

same_parts : (c c' : Class) (m m' : ℕ) (t t' : List ℕ) (a a' : List Attribute) → c ≡ c' → m ≡ m' → t ≡ t' → a ≡ a' → made c m t a ≡ made c' m' t' a'
same_parts c c' m m' t t' a a' p q r s = rw (p, q, r, s) refl

pub header_of_message : (b : List ℕ) (p : Parts) → IsMessage b p → HasHeader b × (p ≡ parts_of b)
unfolding parts_of
header_of_message b p m =
    let t = type_reads m.number p.class p.method m.typed in
    let small = t.small in
    let spelled = to_be_bytes w16 m.number ++ to_be_bytes w16 (length m.body) ++ to_be_bytes w32 554869826 ++ p.tid ++ m.body in
    let number_is : from_be_bytes w16 (to_be_bytes w16 m.number) ≡ m.number = from_be_bytes-to_be_bytes_2 m.number (omega arith) in
    let length_is : from_be_bytes w16 (to_be_bytes w16 (length m.body)) ≡ length m.body = from_be_bytes-to_be_bytes_2 (length m.body) m.length_fits in
    let body_is : drop 20 spelled ≡ m.body = drop_at p.tid m.body 12 m.twelve in
    let tid_is : take 12 (drop 8 spelled) ≡ p.tid = take_at p.tid m.body 12 m.twelve in
    let read_is : attributes_in m.body ≡ p.attributes = sym (only_attributes m.body p.attributes m.attributes) in
    let whole : length (p.tid ++ m.body) ≡ 12 + length m.body = length-append p.tid m.body ∙ ap (λ (n : ℕ). n + length m.body) m.twelve in
    let total : length spelled ≡ 20 + length m.body = omega (arith, whole) in
    let header : HasHeader spelled = record {
      long = omega arith;
      small = rw number_is small;
      length_is = length_is ∙ omega arith;
      cookie_is = refl;
      attributes = subst (λ (x : List ℕ). AreAttributes x (attributes_in x)) (sym body_is) (rw read_is m.attributes);
    } in
    let parts : p ≡ parts_of spelled = same_parts p.class (class_of (from_be_bytes w16 (to_be_bytes w16 m.number))) p.method (method_of (from_be_bytes w16 (to_be_bytes w16 m.number))) p.tid (take 12 (drop 8 spelled)) p.attributes (attributes_in (drop 20 spelled)) (t.class_is ∙ ap class_of (sym number_is)) (t.method_is ∙ ap method_of (sym number_is)) (sym tid_is) (sym (ap attributes_in body_is ∙ read_is)) in
    subst (λ (x : List ℕ). HasHeader x × (p ≡ parts_of x)) (sym m.spelled) (header, parts)

-- what the code read of a payload: its header and its body, and the numbers in the header
pub record IsRead (b header body : List ℕ) (number len cookie : ℕ) : Type 0 where
  pub header_is : header ≡ take 20 b
  pub body_is : body ≡ drop 20 b
  pub number_is : number ≡ get_or header 0 0 * 256 + get_or header 1 0
  pub len_is : len ≡ get_or header 2 0 * 256 + get_or header 3 0
  pub cookie_is : cookie ≡ from_be_bytes w32 (get_or header 4 0 ∷ get_or header 5 0 ∷ get_or header 6 0 ∷ get_or header 7 0 ∷ [])

-- the same numbers in the payload
read_in_place : (b header body : List ℕ) (number len cookie : ℕ) → IsRead b header body number len cookie
    → (number ≡ get_or b 0 0 * 256 + get_or b 1 0) × (len ≡ get_or b 2 0 * 256 + get_or b 3 0) × (cookie ≡ from_be_bytes w32 (get_or b 4 0 ∷ get_or b 5 0 ∷ get_or b 6 0 ∷ get_or b 7 0 ∷ []))
read_in_place b header body number len cookie r =
    let same : (i : ℕ) → i < 20 → get_or header i 0 ≡ get_or b i 0 = λ i h. ap (λ (x : List ℕ). get_or x i 0) r.header_is ∙ get_or-take 20 b i 0 h in
    let s0 = same 0 (lit< tt) in
    let s1 = same 1 (lit< tt) in
    let s2 = same 2 (lit< tt) in
    let s3 = same 3 (lit< tt) in
    let s4 = same 4 (lit< tt) in
    let s5 = same 5 (lit< tt) in
    let s6 = same 6 (lit< tt) in
    let s7 = same 7 (lit< tt) in
    let n = r.number_is in
    let l = r.len_is in
    let k = r.cookie_is in
    (rw (← s0, ← s1) n, rw (← s2, ← s3) l, rw (← s4, ← s5, ← s6, ← s7) k)

pub header_from : (b header body : List ℕ) (number len cookie : ℕ) → IsRead b header body number len cookie → 20 ≤ length b → number < 16384 → len ≡ length body → cookie ≡ 554869826 → AreAttributes body (attributes_in body) → HasHeader b
header_from b header body number len cookie r long small whole is attributes =
    let p = read_in_place b header body number len cookie r in
    record {
      long = long;
      small = rw (← p.0) small;
      length_is = sym p.1 ∙ whole ∙ ap length r.body_is ∙ length-drop 20 b;
      cookie_is = sym p.2 ∙ is;
      attributes = subst (λ (x : List ℕ). AreAttributes x (attributes_in x)) r.body_is attributes;
    }

pub header_tells : (b header body : List ℕ) (number len cookie : ℕ) → IsRead b header body number len cookie → HasHeader b → (number < 16384) × (len ≡ length body) × (cookie ≡ 554869826) × AreAttributes body (attributes_in body)
header_tells b header body number len cookie r h =
    let p = read_in_place b header body number len cookie r in
    (rw p.0 h.small, p.1 ∙ h.length_is ∙ sym (ap length r.body_is ∙ length-drop 20 b), p.2 ∙ h.cookie_is, subst (λ (x : List ℕ). AreAttributes x (attributes_in x)) (sym r.body_is) h.attributes)
