-- The attributes of some bytes, one after the other.
use Rattle.std.proofs.Common.{◌≡◌, ◌↔◌, ℕ, zero, suc, ◌+◌, ◌-◌, ◌*◌, ◌<◌, ◌≤◌, List, [], ◌∷◌, ◌++◌, length, get_or, take, drop, refl, sym, ap, ◌∙◌, arith}
use Rattle.std.specs.Int.{w16, to_be_bytes, from_be_bytes}
use Rattle.std.proofs.lemmas.Bool.{lt-leb, le-leb}
use Rattle.std.proofs.lemmas.List.{take_at, drop_at, take-append-drop, take-take, length-take-le, length-append, length-drop, append_assoc}
use Rattle.std.proofs.lemmas.Nat.{be_bytes_2, from_be_bytes-to_be_bytes_2}
use Rattle.audit_stun.specs.Attribute.{Attribute, StartsWith, AreAttributes, padded, size}
use Rattle.audit_stun.specs.Parts.{attributes_after, attributes_in}

abbrev pub IsBytes : List ℕ → Type 0
IsBytes bytes = (i : ℕ) → get_or bytes i 0 < 256

-- the number in two bytes
abbrev pub number_at : List ℕ → ℕ → ℕ
number_at bytes i = get_or bytes i 0 * 256 + get_or bytes (i + 1) 0

pub nothing_in_short : (bytes : List ℕ) → length bytes < 4 → attributes_in bytes ≡ []
unfolding attributes_after
nothing_in_short [] h = refl
nothing_in_short (a ∷ []) h = refl
nothing_in_short (a ∷ b ∷ []) h = refl
nothing_in_short (a ∷ b ∷ c ∷ []) h = refl
nothing_in_short (a ∷ b ∷ c ∷ d ∷ rest) h = absurd (omega arith)

pub nothing_in_cut : (bytes : List ℕ) (n : ℕ) → n ≡ get_or bytes 2 0 * 256 + get_or bytes 3 0 → length (drop 4 bytes) < padded n → 4 ≤ length bytes → attributes_in bytes ≡ []
unfolding attributes_after
nothing_in_cut [] n e h l = absurd (omega arith)
nothing_in_cut (a ∷ []) n e h l = absurd (omega arith)
nothing_in_cut (a ∷ b ∷ []) n e h l = absurd (omega arith)
nothing_in_cut (a ∷ b ∷ c ∷ []) n e h l = absurd (omega arith)
nothing_in_cut (a ∷ b ∷ c ∷ d ∷ rest) n e h l =
    let is : n ≡ c * 256 + d = e in
    let long : length rest < padded (c * 256 + d) = rw (← is) h in
    rw (lt-leb (padded (c * 256 + d)) (length rest) long) refl

attributes_past : (n : ℕ) (bytes : List ℕ) → attributes_after n bytes ≡ attributes_after 0 (drop n bytes)
unfolding attributes_after
attributes_past zero bytes = refl
attributes_past (suc n) [] = refl
attributes_past (suc n) (x ∷ bytes) = attributes_past n bytes

pair_fits : (a b : ℕ) → a < 256 → b < 256 → IsBytes (a ∷ b ∷ [])
pair_fits a b ha hb zero = ha
pair_fits a b ha hb (suc zero) = hb
pair_fits a b ha hb (suc (suc i)) = omega arith

pub first_of_whole : (bytes : List ℕ) (n kind : ℕ) → n ≡ get_or bytes 2 0 * 256 + get_or bytes 3 0 → kind ≡ get_or bytes 0 0 * 256 + get_or bytes 1 0 → padded n ≤ length (drop 4 bytes) → 4 ≤ length bytes
    → attributes_in bytes ≡ record { kind = kind; value = take n (drop 4 bytes) } ∷ attributes_in (drop (padded n) (drop 4 bytes))
unfolding attributes_after
first_of_whole [] n kind e k h l = absurd (omega arith)
first_of_whole (a ∷ []) n kind e k h l = absurd (omega arith)
first_of_whole (a ∷ b ∷ []) n kind e k h l = absurd (omega arith)
first_of_whole (a ∷ b ∷ c ∷ []) n kind e k h l = absurd (omega arith)
first_of_whole (a ∷ b ∷ c ∷ d ∷ rest) n kind e k h l =
    let is : n ≡ c * 256 + d = e in
    let kind_is : kind ≡ a * 256 + b = k in
    let fits : padded (c * 256 + d) ≤ length rest = rw (← is) h in
    rw (is, kind_is, le-leb (padded (c * 256 + d)) (length rest) fits, attributes_past (padded (c * 256 + d)) rest) refl

pub starts_with_first : (bytes : List ℕ) (n kind : ℕ) → IsBytes bytes → n ≡ get_or bytes 2 0 * 256 + get_or bytes 3 0 → kind ≡ get_or bytes 0 0 * 256 + get_or bytes 1 0 → padded n ≤ length (drop 4 bytes) → 4 ≤ length bytes
    → StartsWith bytes (record { kind = kind; value = take n (drop 4 bytes) }) (drop (padded n) (drop 4 bytes))
starts_with_first [] n kind fits e k h l = absurd (omega arith)
starts_with_first (a ∷ []) n kind fits e k h l = absurd (omega arith)
starts_with_first (a ∷ b ∷ []) n kind fits e k h l = absurd (omega arith)
starts_with_first (a ∷ b ∷ c ∷ []) n kind fits e k h l = absurd (omega arith)
starts_with_first (a ∷ b ∷ c ∷ d ∷ rest) n kind fits e k h l =
    let is : n ≡ c * 256 + d = e in
    let kind_is : kind ≡ a * 256 + b = k in
    let whole : padded n ≤ length rest = h in
    let value = take n rest in
    let after = drop (padded n) rest in
    let len : length value ≡ n = length-take-le n rest (omega arith) in
    let high : to_be_bytes w16 kind ≡ a ∷ b ∷ [] = be_bytes_2 (a ∷ b ∷ []) kind refl (pair_fits a b (fits 0) (fits 1)) kind_is in
    let low : to_be_bytes w16 n ≡ c ∷ d ∷ [] = be_bytes_2 (c ∷ d ∷ []) n refl (pair_fits c d (fits 2) (fits 3)) is in
    let gap = drop n (take (padded n) rest) in
    let gap_len : length gap ≡ padded n - n = length-drop n (take (padded n) rest) ∙ ap (λ (x : ℕ). x - n) (length-take-le (padded n) rest whole) in
    let front : take n rest ++ gap ≡ take (padded n) rest = ap (λ (t : List ℕ). t ++ gap) (sym (take-take n (padded n) rest (omega arith))) ∙ take-append-drop n (take (padded n) rest) in
    let all : (take n rest ++ gap) ++ drop (padded n) rest ≡ rest = ap (λ (t : List ℕ). t ++ drop (padded n) rest) front ∙ take-append-drop (padded n) rest in
    let a_lt : a < 256 = fits 0 in
    let b_lt : b < 256 = fits 1 in
    let c_lt : c < 256 = fits 2 in
    let d_lt : d < 256 = fits 3 in
    record {
      padding = gap;
      spelled = sym (ap (λ (t : List ℕ). t ++ to_be_bytes w16 (length value) ++ value ++ gap ++ after) high ∙ ap (λ (t : List ℕ). a ∷ b ∷ t ++ value ++ gap ++ after) (ap (to_be_bytes w16) len ∙ low) ∙ ap (λ (t : List ℕ). a ∷ b ∷ c ∷ d ∷ t) all);
      few = omega arith;
      aligned = rw len (omega arith);
      kind_fits = omega arith;
      length_fits = rw len (omega arith);
    }

pub first_of_start : (bytes : List ℕ) (a : Attribute) (rest : List ℕ) → StartsWith bytes a rest → attributes_in bytes ≡ a ∷ attributes_in rest
unfolding attributes_after
first_of_start bytes a rest s =
    let v = a.value in
    let n = length v in
    let tail = (v ++ s.padding) ++ rest in
    let kind_is : from_be_bytes w16 (to_be_bytes w16 a.kind) ≡ a.kind = from_be_bytes-to_be_bytes_2 a.kind s.kind_fits in
    let len_is : from_be_bytes w16 (to_be_bytes w16 n) ≡ n = from_be_bytes-to_be_bytes_2 n s.length_fits in
    let few = s.few in
    let aligned = s.aligned in
    let pad : padded n ≡ length (v ++ s.padding) = (omega arith) ∙ sym (length-append v s.padding) in
    let room : padded n ≤ length tail = omega (arith, length-append (v ++ s.padding) rest) in
    let all : attributes_in (to_be_bytes w16 a.kind ++ to_be_bytes w16 n ++ v ++ s.padding ++ rest) ≡ record { kind = from_be_bytes w16 (to_be_bytes w16 a.kind); value = take n tail } ∷ attributes_in (drop (padded n) tail) = first_of_whole (to_be_bytes w16 a.kind ++ to_be_bytes w16 n ++ v ++ s.padding ++ rest) n (from_be_bytes w16 (to_be_bytes w16 a.kind)) (sym len_is) refl room (omega arith) in
    let value : take n tail ≡ v = ap (take n) (append_assoc v s.padding rest) ∙ take_at v (s.padding ++ rest) n refl in
    let after : drop (padded n) tail ≡ rest = rw pad (drop_at (v ++ s.padding) rest _ refl) in
    rw (s.spelled, all, kind_is, value, after) refl

-- no bytes have two readings
pub only_attributes : (bytes : List ℕ) (attributes : List Attribute) → AreAttributes bytes attributes → attributes ≡ attributes_in bytes
unfolding attributes_after
only_attributes bytes [] h = rw h refl
only_attributes bytes (a ∷ others) h = ap (λ (x : List Attribute). a ∷ x) (only_attributes h.0 others h.2) ∙ sym (first_of_start bytes a h.0 h.1)

rest_of_start : (bytes : List ℕ) (a : Attribute) (rest : List ℕ) → StartsWith bytes a rest → rest ≡ drop (size a) bytes
rest_of_start bytes a rest s =
    let v = a.value in
    let few = s.few in
    let aligned = s.aligned in
    let front = to_be_bytes w16 a.kind ++ to_be_bytes w16 (length v) ++ v ++ s.padding in
    let pad : padded (length v) ≡ length (v ++ s.padding) = (omega arith) ∙ sym (length-append v s.padding) in
    let len : length front ≡ size a = omega (arith, pad) in
    rw (s.spelled) (sym (drop_at front rest (size a) len))

-- bytes are attributes where what follows their first one is
pub same_after_start : (Whole : Type 0) (bytes : List ℕ) (a : Attribute) (rest : List ℕ) → StartsWith bytes a rest → attributes_in bytes ≡ a ∷ attributes_in rest
    → AreAttributes bytes (attributes_in bytes) ↔ Whole → AreAttributes rest (attributes_in rest) ↔ Whole
same_after_start Whole bytes a rest s e h =
    let there : AreAttributes rest (attributes_in rest) → AreAttributes bytes (attributes_in bytes) = λ r. rw e (rest, s, r) in
    let back : AreAttributes bytes (attributes_in bytes) → AreAttributes rest (attributes_in rest) = λ r.
    let w : AreAttributes bytes (a ∷ attributes_in rest) = rw e at r in
    let same : w.0 ≡ rest = rest_of_start bytes a w.0 w.1 ∙ sym (rest_of_start bytes a rest s) in
    rw same at w.2
    in (λ r. h.0 (there r), λ w. back (h.1 w))
