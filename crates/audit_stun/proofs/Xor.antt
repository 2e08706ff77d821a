-- What is xor'd twice with one number.
use Rattle.std.proofs.Common.{◌≡◌, ◌<◌, ◌≤◌, [], ◌∷◌, ◌++◌, List, ℕ, length, get_or, drop, refl, sym, ap, ◌∙◌, lit<, arith}
use Rattle.std.specs.Int.{w16, w32, to_be_bytes, from_be_bytes}
use Rattle.std.specs.Int.Bits.{bit_xor, xor_self, xor_zero_r, xor_assoc}
use Rattle.std.proofs.lemmas.List.{drop_all}
use Rattle.std.proofs.lemmas.Nat.{be_bytes_2, be_bytes_4, xor_lt, from_be_bytes-to_be_bytes_2, from_be_bytes-to_be_bytes_4}
use Rattle.audit_model.specs.declared.address.Addr.{Addr}
use Rattle.audit_stun.specs.XorAddress.{IsXorAddress}
use Rattle.audit_stun.proofs.Attributes.{IsBytes}
use Rattle.audit_stun.proofs.Cells.{first_eight, two_fit, four_fit}

xor_back : (a k : ℕ) → bit_xor (bit_xor a k) k ≡ a
xor_back a k = xor_assoc a k k ∙ ap (bit_xor a) (xor_self k) ∙ xor_zero_r a

abbrev address_of : ℕ → ℕ → Addr
address_of ip port = record { ip = ip; port = port }

pub address_found : (value : List ℕ) (port ip : ℕ) → IsBytes value → 8 ≤ length value → length value < 9 → get_or value 1 0 ≡ 1 → port < 65536 → ip < 4294967296
    → port ≡ from_be_bytes w16 (get_or value 2 0 ∷ get_or value 3 0 ∷ []) → ip ≡ from_be_bytes w32 (get_or value 4 0 ∷ get_or value 5 0 ∷ get_or value 6 0 ∷ get_or value 7 0 ∷ [])
    → IsXorAddress value (address_of (bit_xor ip 554869826) (bit_xor port 8466))
address_found value port ip fits long short family port_lt ip_lt port_is ip_is =
    let g = get_or value in
    let end : drop 8 value ≡ [] = drop_all 8 value (omega arith) in
    let e0 : to_be_bytes w16 (bit_xor (bit_xor port 8466) 8466) ≡ g 2 0 ∷ g 3 0 ∷ [] = ap (to_be_bytes w16) (xor_back port 8466) ∙ be_bytes_2 (g 2 0 ∷ g 3 0 ∷ []) port refl (two_fit _ _ (fits 2) (fits 3)) port_is in
    let e1 : to_be_bytes w32 (bit_xor (bit_xor ip 554869826) 554869826) ≡ g 4 0 ∷ g 5 0 ∷ g 6 0 ∷ g 7 0 ∷ [] = ap (to_be_bytes w32) (xor_back ip 554869826) ∙ be_bytes_4 (g 4 0 ∷ g 5 0 ∷ g 6 0 ∷ g 7 0 ∷ []) ip refl (four_fit _ _ _ _ (fits 4) (fits 5) (fits 6) (fits 7)) ip_is in
    record {
      reserved = g 0 0;
      spelled = first_eight value long
          ∙ ap (λ (t : List ℕ). g 0 0 ∷ g 1 0 ∷ g 2 0 ∷ g 3 0 ∷ g 4 0 ∷ g 5 0 ∷ g 6 0 ∷ g 7 0 ∷ t) end
          ∙ ap (λ (x : ℕ). g 0 0 ∷ x ∷ g 2 0 ∷ g 3 0 ∷ g 4 0 ∷ g 5 0 ∷ g 6 0 ∷ g 7 0 ∷ []) family
          ∙ sym (ap (λ (t : List ℕ). g 0 0 ∷ 1 ∷ t ++ to_be_bytes w32 (bit_xor (bit_xor ip 554869826) 554869826)) e0 ∙ ap (λ (t : List ℕ). g 0 0 ∷ 1 ∷ g 2 0 ∷ g 3 0 ∷ t) e1);
      port_fits = xor_lt 16 port 8466 port_lt (lit< tt);
      ip_fits = xor_lt 32 ip 554869826 ip_lt (lit< tt);
    }

pub address_only : (value : List ℕ) (port ip : ℕ) (address : Addr) → IsXorAddress value address
    → port ≡ from_be_bytes w16 (get_or value 2 0 ∷ get_or value 3 0 ∷ []) → ip ≡ from_be_bytes w32 (get_or value 4 0 ∷ get_or value 5 0 ∷ get_or value 6 0 ∷ get_or value 7 0 ∷ [])
    → address_of (bit_xor ip 554869826) (bit_xor port 8466) ≡ address
address_only value port ip address a port_is ip_is =
    let x_port = bit_xor address.port 8466 in
    let x_ip = bit_xor address.ip 554869826 in
    let e0 : from_be_bytes w16 (to_be_bytes w16 x_port) ≡ x_port = from_be_bytes-to_be_bytes_2 x_port (xor_lt 16 address.port 8466 a.port_fits (lit< tt)) in
    let e1 : from_be_bytes w32 (to_be_bytes w32 x_ip) ≡ x_ip = from_be_bytes-to_be_bytes_4 x_ip (xor_lt 32 address.ip 554869826 a.ip_fits (lit< tt)) in
    let at_port : port ≡ x_port = port_is ∙ ap (λ (v : List ℕ). from_be_bytes w16 (get_or v 2 0 ∷ get_or v 3 0 ∷ [])) a.spelled ∙ e0 in
    let at_ip : ip ≡ x_ip = ip_is ∙ ap (λ (v : List ℕ). from_be_bytes w32 (get_or v 4 0 ∷ get_or v 5 0 ∷ get_or v 6 0 ∷ get_or v 7 0 ∷ [])) a.spelled ∙ e1 in
    ap (λ (x : ℕ). address_of (bit_xor x 554869826) (bit_xor port 8466)) at_ip ∙ ap (λ (x : ℕ). address_of (bit_xor x_ip 554869826) (bit_xor x 8466)) at_port ∙ ap (λ (x : ℕ). address_of x (bit_xor x_port 8466)) (xor_back address.ip 554869826) ∙ ap (λ (x : ℕ). address_of address.ip x) (xor_back address.port 8466)
