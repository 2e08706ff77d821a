-- Ethernet and its tags, spelled out and by places.
use Rattle.std.proofs.Common.{◌≡◌, ◌⊎◌, ℕ, ◌+◌, ◌-◌, ◌*◌, ◌<◌, ◌≤◌, Bool, true, false, ◌||◌, cond, eqb, List, [], ◌∷◌, ◌++◌, length, get_or, take, drop, inl, inr, refl, sym, ap, ◌∙◌, arith}
use Rattle.std.proofs.lemmas.Bool.{eqb-true}
use Rattle.std.proofs.lemmas.List.{drop_at, drop_more, take-append-drop, length-take-le, length-drop, append_assoc, drop-drop}
use Rattle.audit_packets.specs.Frame.{number, is_tag, ethernet_length}
use Rattle.audit_packets.specs.Spelled.{IsTag, HoldsIpv4}
use Rattle.audit_packets.proofs.Shifts.{number_from}
use Rattle.audit_packets.proofs.UdpHeaders.{IsBytes}

-- the tests of a frame with an IPv4 datagram
pub record Leads (frame datagram : List ℕ) : Type 0 where
  pub long : ethernet_length frame ≤ length frame
  pub kind : number frame (ethernet_length frame - 2) ≡ 2048
  pub datagram_is : datagram ≡ drop (ethernet_length frame) frame

-- two bytes, as a number tells them
pair_is : (a b n m : ℕ) → b < 256 → m < 256 → a * 256 + b ≡ n * 256 + m → (a ≡ n) × (b ≡ m)
pair_is a b n m hb hm e = (omega arith, omega arith)

next_two : (b : List ℕ) (i : ℕ) → i + 2 ≤ length b → drop i b ≡ get_or b i 0 ∷ get_or b (i + 1) 0 ∷ drop (i + 1 + 1) b
next_two b i h = drop_more b i 0 (omega arith) ∙ ap (λ (t : List ℕ). get_or b i 0 ∷ t) (drop_more b (i + 1) 0 (omega arith))

is_tag_cases : (n : ℕ) → is_tag n ≡ true → (n ≡ 33024) ⊎ (n ≡ 34984)
is_tag_cases n e = either (eqb n 33024) (eqb n 34984) n refl refl e where
  either : (a b : Bool) (n : ℕ) → eqb n 33024 ≡ a → eqb n 34984 ≡ b → (a || b) ≡ true → (n ≡ 33024) ⊎ (n ≡ 34984)
  either true b n p q e = inl (eqb-true n 33024 p)
  either false true n p q e = inr (eqb-true n 34984 q)
  either false false n p q e = absurd cc

-- four bytes of a frame with a tag's type are a tag
tag_at : (frame : List ℕ) (i : ℕ) → IsBytes frame → is_tag (number frame i) ≡ true → IsTag (get_or frame i 0 ∷ get_or frame (i + 1) 0 ∷ get_or frame (i + 1 + 1) 0 ∷ get_or frame (i + 1 + 1 + 1) 0 ∷ [])
tag_at frame i fits e =
    let x = get_or frame (i + 1 + 1) 0 in
    let y = get_or frame (i + 1 + 1 + 1) 0 in
    let low = fits (i + 1) in (
      x,
      y,
      elim (is_tag_cases (number frame i) e) [
        | inl h ↦ (let p = pair_is (get_or frame i 0) (get_or frame (i + 1) 0) 129 0 low (omega arith) h in inl (ap (λ (a : ℕ). a ∷ get_or frame (i + 1) 0 ∷ x ∷ y ∷ []) p.0 ∙ ap (λ (b : ℕ). 129 ∷ b ∷ x ∷ y ∷ []) p.1))
        | inr h ↦ (let p = pair_is (get_or frame i 0) (get_or frame (i + 1) 0) 136 168 low (omega arith) h in inr (ap (λ (a : ℕ). a ∷ get_or frame (i + 1) 0 ∷ x ∷ y ∷ []) p.0 ∙ ap (λ (b : ℕ). 136 ∷ b ∷ x ∷ y ∷ []) p.1))
      ],
    )

-- the type of IPv4 at a place
kind_at : (frame : List ℕ) (i : ℕ) → IsBytes frame → i + 2 ≤ length frame → number frame i ≡ 2048 → drop i frame ≡ 8 ∷ 0 ∷ drop (i + 1 + 1) frame
kind_at frame i fits long e =
    let p = pair_is (get_or frame i 0) (get_or frame (i + 1) 0) 8 0 (fits (i + 1)) (omega arith) e in
    next_two frame i long ∙ ap (λ (a : ℕ). a ∷ get_or frame (i + 1) 0 ∷ drop (i + 1 + 1) frame) p.0 ∙ ap (λ (b : ℕ). 8 ∷ b ∷ drop (i + 1 + 1) frame) p.1

-- a tag, and what is left of the frame
tag_off : (frame : List ℕ) (i : ℕ) → i + 4 ≤ length frame → drop i frame ≡ (get_or frame i 0 ∷ get_or frame (i + 1) 0 ∷ get_or frame (i + 1 + 1) 0 ∷ get_or frame (i + 1 + 1 + 1) 0 ∷ []) ++ drop (i + 1 + 1 + 1 + 1) frame
tag_off frame i long = next_two frame i (omega arith) ∙ ap (λ (t : List ℕ). get_or frame i 0 ∷ get_or frame (i + 1) 0 ∷ t) (next_two frame (i + 1 + 1) (omega arith))

spelled_from : (frame first second datagram : List ℕ) → drop 12 frame ≡ first ++ (second ++ (8 ∷ 0 ∷ datagram)) → frame ≡ take 12 frame ++ first ++ second ++ (8 ∷ 0 ∷ []) ++ datagram
spelled_from frame first second datagram e =
    sym (take-append-drop 12 frame) ∙ ap (λ (t : List ℕ). take 12 frame ++ t) e ∙ simp append_assoc

pub ethernet_spelled : (frame : List ℕ) → IsBytes frame → ethernet_length frame ≤ length frame → number frame (ethernet_length frame - 2) ≡ 2048 → HoldsIpv4 frame (drop (ethernet_length frame) frame)
unfolding ethernet_length
ethernet_spelled frame fits = go (is_tag (number frame 12)) (is_tag (number frame 16)) refl refl where
  go : (a b : Bool) → is_tag (number frame 12) ≡ a → is_tag (number frame 16) ≡ b → cond a (cond b 22 18) 14 ≤ length frame → number frame (cond a (cond b 22 18) 14 - 2) ≡ 2048 → HoldsIpv4 frame (drop (cond a (cond b 22 18) 14) frame)
  go false b p q long kind = record {
    addresses = take 12 frame;
    first = [];
    second = [];
    twelve = length-take-le 12 frame (omega arith);
    tags = inl (refl, refl);
    spelled = spelled_from frame [] [] (drop 14 frame) (kind_at frame 12 fits (omega arith) kind);
  }
  go true false p q long kind = record {
    addresses = take 12 frame;
    first = get_or frame 12 0 ∷ get_or frame 13 0 ∷ get_or frame 14 0 ∷ get_or frame 15 0 ∷ [];
    second = [];
    twelve = length-take-le 12 frame (omega arith);
    tags = inr (inl (tag_at frame 12 fits p, refl));
    spelled = spelled_from frame _ [] (drop 18 frame) (tag_off frame 12 (omega arith) ∙ ap (λ (t : List ℕ). (get_or frame 12 0 ∷ get_or frame 13 0 ∷ get_or frame 14 0 ∷ get_or frame 15 0 ∷ []) ++ t) (kind_at frame 16 fits (omega arith) kind));
  }
  go true true p q long kind = record {
    addresses = take 12 frame;
    first = get_or frame 12 0 ∷ get_or frame 13 0 ∷ get_or frame 14 0 ∷ get_or frame 15 0 ∷ [];
    second = get_or frame 16 0 ∷ get_or frame 17 0 ∷ get_or frame 18 0 ∷ get_or frame 19 0 ∷ [];
    twelve = length-take-le 12 frame (omega arith);
    tags = inr (inr (tag_at frame 12 fits p, tag_at frame 16 fits q));
    spelled = spelled_from frame _ _ (drop 22 frame) (tag_off frame 12 (omega arith) ∙ ap (λ (t : List ℕ). (get_or frame 12 0 ∷ get_or frame 13 0 ∷ get_or frame 14 0 ∷ get_or frame 15 0 ∷ []) ++ t) (tag_off frame 16 (omega arith) ∙ ap (λ (t : List ℕ). (get_or frame 16 0 ∷ get_or frame 17 0 ∷ get_or frame 18 0 ∷ get_or frame 19 0 ∷ []) ++ t) (kind_at frame 20 fits (omega arith) kind)));
  }

lengths_are : (frame : List ℕ) (x y : ℕ) → number frame 12 ≡ x → number frame 16 ≡ y → ethernet_length frame ≡ cond (is_tag x) (cond (is_tag y) 22 18) 14
unfolding ethernet_length
lengths_are frame x y p q = rw (p, q) refl

leads_at : (frame rest datagram : List ℕ) (n : ℕ) → drop 12 frame ≡ rest → ethernet_length frame ≡ 14 + n → number rest n ≡ 2048 → drop (2 + n) rest ≡ datagram → 2 + n ≤ length rest → Leads frame datagram
leads_at frame rest datagram n is len kind after room =
    let rest_len : length rest ≡ length frame - 12 = sym (ap length is) ∙ length-drop 12 frame in
    let in_frame : number frame (12 + n) ≡ 2048 = number_from frame 12 n (12 + n) refl ∙ ap (λ (x : List ℕ). number x n) is ∙ kind in
    let at : ethernet_length frame - 2 ≡ 12 + n = omega arith in
    let total : 12 + (2 + n) ≡ ethernet_length frame = omega arith in
    record {
      long = omega arith;
      kind = ap (number frame) at ∙ in_frame;
      datagram_is = sym after ∙ ap (drop (2 + n)) (sym is) ∙ drop-drop (2 + n) 12 frame ∙ ap (λ (x : ℕ). drop x frame) total;
    }

in_rest : (frame rest : List ℕ) (i j : ℕ) → drop 12 frame ≡ rest → j ≡ 12 + i → number frame j ≡ number rest i
in_rest frame rest i j is e = number_from frame 12 i j e ∙ ap (λ (x : List ℕ). number x i) is

leads_plain : (frame datagram : List ℕ) → drop 12 frame ≡ 8 ∷ 0 ∷ datagram → Leads frame datagram
leads_plain frame datagram is =
    leads_at frame (8 ∷ 0 ∷ datagram) datagram 0 is (lengths_are frame 2048 (number frame 16) (in_rest frame (8 ∷ 0 ∷ datagram) 0 12 is refl) refl) refl refl (omega arith)

leads_tagged : (frame datagram : List ℕ) (x y a b : ℕ) → is_tag (x * 256 + y) ≡ true → drop 12 frame ≡ x ∷ y ∷ a ∷ b ∷ 8 ∷ 0 ∷ datagram → Leads frame datagram
leads_tagged frame datagram x y a b tag is =
    let rest = x ∷ y ∷ a ∷ b ∷ 8 ∷ 0 ∷ datagram in
    let len : ethernet_length frame ≡ 18 = lengths_are frame (x * 256 + y) 2048 (in_rest frame rest 0 12 is refl) (in_rest frame rest 4 16 is refl) ∙ rw tag refl in
    leads_at frame rest datagram 4 is len refl refl (omega arith)

leads_twice_tagged : (frame datagram : List ℕ) (x y a b z w c d : ℕ) → is_tag (x * 256 + y) ≡ true → is_tag (z * 256 + w) ≡ true → drop 12 frame ≡ x ∷ y ∷ a ∷ b ∷ z ∷ w ∷ c ∷ d ∷ 8 ∷ 0 ∷ datagram → Leads frame datagram
leads_twice_tagged frame datagram x y a b z w c d tag tag' is =
    let rest = x ∷ y ∷ a ∷ b ∷ z ∷ w ∷ c ∷ d ∷ 8 ∷ 0 ∷ datagram in
    let len : ethernet_length frame ≡ 22 = lengths_are frame (x * 256 + y) (z * 256 + w) (in_rest frame rest 0 12 is refl) (in_rest frame rest 4 16 is refl) ∙ rw (tag, tag') refl in
    leads_at frame rest datagram 8 is len refl refl (omega arith)

record Cells (tag : List ℕ) : Type 0 where
  pub x : ℕ
  pub y : ℕ
  pub a : ℕ
  pub b : ℕ
  pub is_tag : is_tag (x * 256 + y) ≡ true
  pub is : tag ≡ x ∷ y ∷ a ∷ b ∷ []

cells_of : (tag : List ℕ) → IsTag tag → Cells tag
cells_of tag (a, b, e) = elim e [
  | inl h ↦ record { x = 129; y = 0; a = a; b = b; is_tag = refl; is = h }
  | inr h ↦ record { x = 136; y = 168; a = a; b = b; is_tag = refl; is = h }
]

behind_addresses : (frame datagram : List ℕ) (h : HoldsIpv4 frame datagram) → drop 12 frame ≡ h.first ++ (h.second ++ (8 ∷ 0 ∷ datagram))
behind_addresses frame datagram h =
    let regrouped : frame ≡ h.addresses ++ (h.first ++ (h.second ++ (8 ∷ 0 ∷ datagram))) = h.spelled ∙ simp append_assoc in
    ap (drop 12) regrouped ∙ drop_at h.addresses (h.first ++ (h.second ++ (8 ∷ 0 ∷ datagram))) 12 h.twelve

pub ethernet_leads : (frame datagram : List ℕ) → HoldsIpv4 frame datagram → Leads frame datagram
ethernet_leads frame datagram h =
    let is = behind_addresses frame datagram h in
    elim h.tags [
      | inl none ↦ leads_plain frame datagram (is ∙ ap (λ (t : List ℕ). t ++ (h.second ++ (8 ∷ 0 ∷ datagram))) none.0 ∙ ap (λ (t : List ℕ). t ++ (8 ∷ 0 ∷ datagram)) none.1)
      | inr some ↦ elim some [
        | inl one ↦ (let t = cells_of h.first one.0 in leads_tagged frame datagram t.x t.y t.a t.b t.is_tag (is ∙ ap (λ (t : List ℕ). t ++ (h.second ++ (8 ∷ 0 ∷ datagram))) t.is ∙ ap (λ (s : List ℕ). t.x ∷ t.y ∷ t.a ∷ t.b ∷ (s ++ (8 ∷ 0 ∷ datagram))) one.1))
        | inr two ↦ (let t = cells_of h.first two.0 in let s = cells_of h.second two.1 in leads_twice_tagged frame datagram t.x t.y t.a t.b s.x s.y s.a s.b t.is_tag s.is_tag (is ∙ ap (λ (x : List ℕ). x ++ (h.second ++ (8 ∷ 0 ∷ datagram))) t.is ∙ ap (λ (x : List ℕ). t.x ∷ t.y ∷ t.a ∷ t.b ∷ (x ++ (8 ∷ 0 ∷ datagram))) s.is))
      ]
    ]
