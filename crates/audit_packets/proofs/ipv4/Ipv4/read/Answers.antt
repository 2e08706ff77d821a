use Rattle.std.proofs.Common.{◌≡◌, ℕ, ◌+◌, ◌-◌, ◌*◌, ◌/◌, ◌%◌, ◌<◌, Bool, not, eqb, List, get_or, take, drop, refl, ap, ◌∙◌, lit<, arith}
use Rattle.std.proofs.lemmas.List.{get_or-take, get_or-drop}
use Rattle.std.proofs.lemmas.Nat.{and_mask}
use Rattle.audit_packets.specs.Frame.{Ipv4, number, long_number}
use Rattle.audit_packets.proofs.ipv4.Ipv4.read.Goals as goal

abbrev made : ℕ → ℕ → ℕ → Bool → ℕ → ℕ → ℕ → Ipv4
made version header_length total_length is_fragment protocol from to = record { version = version; header_length = header_length; total_length = total_length; is_fragment = is_fragment; protocol = protocol; from = from; to = to }

same : (v v' h h' t t' : ℕ) (k k' : Bool) (p p' f f' o o' : ℕ) → v ≡ v' → h ≡ h' → t ≡ t' → k ≡ k' → p ≡ p' → f ≡ f' → o ≡ o' → made v h t k p f o ≡ made v' h' t' k' p' f' o'
same v v' h h' t t' k k' p p' f f' o o' a b c d e g i = rw (a, b, c, d, e, g, i) refl

abbrev header : List ℕ → ℕ → List ℕ
header frame at = take (at + 20 - at) (drop at frame)

-- a byte of the header in the whole frame
in_frame : (frame : List ℕ) (at i j : ℕ) → i < 20 → j ≡ at + i → get_or (header frame at) i 0 ≡ get_or frame j 0
in_frame frame at i j h e = get_or-take (at + 20 - at) (drop at frame) i 0 (omega arith) ∙ get_or-drop at frame i 0 ∙ rw e refl

pair_in_frame : (frame : List ℕ) (at i n : ℕ) → i + 1 < 20 → n ≡ get_or (header frame at) i 0 * 256 + get_or (header frame at) (i + 1) 0 → n ≡ number frame (at + i)
pair_in_frame frame at i n h e =
    let high = in_frame frame at i (at + i) (omega arith) refl in
    let low = in_frame frame at (i + 1) (at + i + 1) h (omega arith) in
    omega arith

quad_in_frame : (frame : List ℕ) (at i n : ℕ) → i + 3 < 20 → n ≡ get_or (header frame at) i 0 * 16777216 + get_or (header frame at) (i + 1) 0 * 65536 + get_or (header frame at) (i + 2) 0 * 256 + get_or (header frame at) (i + 3) 0 → n ≡ long_number frame (at + i)
quad_in_frame frame at i n h e =
    let b0 = in_frame frame at i (at + i) (omega arith) refl in
    let b1 = in_frame frame at (i + 1) (at + i + 1) (omega arith) (omega arith) in
    let b2 = in_frame frame at (i + 2) (at + i + 2) (omega arith) (omega arith) in
    let b3 = in_frame frame at (i + 3) (at + i + 2 + 1) h (omega arith) in
    omega arith

pub returns-clause-fields : goal.returns-clause-fields
returns-clause-fields c =
    let frame = c.args.frame.now in
    let at = c.args.at in
    let first = in_frame frame at 0 at (lit< tt) (omega arith) in
    let fragment = pair_in_frame frame at 6 _ (lit< tt) c.from_be_bytes-fragment.ensures in
    same _ _ _ _ _ _ _ _ _ _ _ _ _ _
    (ap (λ (x : ℕ). x / 16) first)
    (ap (λ (x : ℕ). x * 4) (and_mask _ 4 ∙ ap (λ (x : ℕ). x % 16) first))
    (pair_in_frame frame at 2 _ (lit< tt) c.from_be_bytes.ensures)
    (ap (λ (x : ℕ). not (eqb x 0)) (and_mask _ 14 ∙ ap (λ (x : ℕ). x % 16384) fragment))
    (in_frame frame at 9 (at + 9) (lit< tt) refl)
    (quad_in_frame frame at 12 _ (lit< tt) c.from_be_bytes-2.ensures)
    (quad_in_frame frame at 16 _ (lit< tt) c.from_be_bytes-3.ensures)
