-- The headers of a frame, read off what is left of it from their first byte on.
use Rattle.std.proofs.Common.{◌≡◌, ℕ, ◌+◌, ◌-◌, ◌*◌, ◌/◌, ◌%◌, ◌≤◌, Bool, true, false, not, eqb, List, length, get_or, take, drop, refl, sym, ap, ◌∙◌, arith}
use Rattle.std.specs.Prelude.{slice_range}
use Rattle.std.proofs.lemmas.List.{get_or-drop, drop-drop, length-drop}
use Rattle.audit_model.specs.declared.address.Addr.{Addr}
use Rattle.audit_packets.specs.Frame.{Ipv4, Udp_header, number, long_number, ipv4_at, udp_at, carries_udp, fits_in}
use Rattle.audit_packets.specs.Reading.{Udp, ip_datagram}
use Rattle.audit_packets.proofs.Places.{Passes, udp_behind, passes_gives}

abbrev pub made : ℕ → ℕ → ℕ → Bool → ℕ → ℕ → ℕ → Ipv4
made version header_length total_length is_fragment protocol from to = record { version = version; header_length = header_length; total_length = total_length; is_fragment = is_fragment; protocol = protocol; from = from; to = to }

pub same : (v v' h h' t t' : ℕ) (k k' : Bool) (p p' f f' o o' : ℕ) → v ≡ v' → h ≡ h' → t ≡ t' → k ≡ k' → p ≡ p' → f ≡ f' → o ≡ o' → made v h t k p f o ≡ made v' h' t' k' p' f' o'
same v v' h h' t t' k k' p p' f f' o o' a b c d e g i = rw (a, b, c, d, e, g, i) refl

abbrev pub made_udp : ℕ → ℕ → ℕ → Udp_header
made_udp from to len = record { from = from; to = to; length = len }

pub same_udp : (f f' t t' n n' : ℕ) → f ≡ f' → t ≡ t' → n ≡ n' → made_udp f t n ≡ made_udp f' t' n'
same_udp f f' t t' n n' a b c = rw (a, b, c) refl

byte_from : (frame : List ℕ) (at i j : ℕ) → j ≡ at + i → get_or frame j 0 ≡ get_or (drop at frame) i 0
byte_from frame at i j e = rw e (sym (get_or-drop at frame i 0))

pub number_from : (frame : List ℕ) (at i j : ℕ) → j ≡ at + i → number frame j ≡ number (drop at frame) i
number_from frame at i j e =
    let high = byte_from frame at i j e in
    let low = byte_from frame at (i + 1) (j + 1) (omega arith) in
    omega arith

long_from : (frame : List ℕ) (at i j : ℕ) → j ≡ at + i → long_number frame j ≡ long_number (drop at frame) i
long_from frame at i j e =
    let high = number_from frame at i j e in
    let low = number_from frame at (i + 2) (j + 2) (omega arith) in
    omega arith

pub ipv4_from : (frame : List ℕ) (at : ℕ) → ipv4_at frame at ≡ ipv4_at (drop at frame) 0
ipv4_from frame at =
    let first : get_or frame at 0 ≡ get_or (drop at frame) 0 0 = byte_from frame at 0 at (omega arith) in
    same _ _ _ _ _ _ _ _ _ _ _ _ _ _
    (ap (λ (x : ℕ). x / 16) first)
    (ap (λ (x : ℕ). x % 16 * 4) first)
    (number_from frame at 2 (at + 2) refl)
    (ap (λ (x : ℕ). not (eqb (x % 16384) 0)) (number_from frame at 6 (at + 6) refl))
    (byte_from frame at 9 (at + 9) refl)
    (long_from frame at 12 (at + 12) refl)
    (long_from frame at 16 (at + 16) refl)

pub udp_from : (frame : List ℕ) (at : ℕ) → udp_at frame at ≡ udp_at (drop at frame) 0
udp_from frame at = same_udp _ _ _ _ _ _ (number_from frame at 0 at (omega arith)) (number_from frame at 2 (at + 2) refl) (number_from frame at 4 (at + 4) refl)

-- the tests of an IPv4 datagram and of its content, whose headers are ip and udp
pub record Accepts (datagram content : List ℕ) (ip : Ipv4) (udp : Udp_header) (from to : Addr) (payload : List ℕ) : Type 0 where
  pub ip_is : ip ≡ ipv4_at datagram 0
  pub udp_is : udp ≡ udp_at content 0
  pub content_is : content ≡ drop ip.header_length datagram
  pub long : 20 ≤ length datagram
  pub carries : carries_udp ip ≡ true
  pub no_fragment : ip.is_fragment ≡ false
  pub within : ip.header_length + 8 ≤ length datagram
  pub header : 8 ≤ length content
  pub fits : fits_in udp ip ≡ true
  pub whole : udp.length ≤ length content
  pub from_is : from ≡ record { ip = ip.from; port = udp.from }
  pub to_is : to ≡ record { ip = ip.to; port = udp.to }
  pub payload_is : payload ≡ take (udp.length - 8) (drop 8 content)

content_at : (frame : List ℕ) (at n : ℕ) → drop n (drop at frame) ≡ drop (at + n) frame
content_at frame at n = drop-drop n at frame

payload_at : (frame : List ℕ) (u n : ℕ) → slice_range frame (u + 8) (u + n) ≡ take (n - 8) (drop 8 (drop u frame))
payload_at frame u n =
    let count : u + n - (u + 8) ≡ n - 8 = omega arith in
    rw (count, drop-drop 8 u frame) refl

pub accepts_from_passes : (frame : List ℕ) (at : ℕ) (from to : Addr) (payload : List ℕ) → Passes frame at (ipv4_at frame at) (udp_behind frame at (ipv4_at frame at)) from to payload
    → Accepts (drop at frame) (drop (ipv4_at frame at).header_length (drop at frame)) (ipv4_at frame at) (udp_behind frame at (ipv4_at frame at)) from to payload
accepts_from_passes frame at from to payload p =
    let h = (ipv4_at frame at).header_length in
    let n = (udp_behind frame at (ipv4_at frame at)).length in
    let where_content : drop h (drop at frame) ≡ drop (at + h) frame = content_at frame at h in
    let d_len : length (drop at frame) ≡ length frame - at = length-drop at frame in
    let c_len : length (drop h (drop at frame)) ≡ length (drop at frame) - h = length-drop h (drop at frame) in
    let long = p.long in
    let header = p.header in
    let whole = p.whole in
    record {
      ip_is = ipv4_from frame at;
      udp_is = udp_from frame (at + h) ∙ ap (λ (x : List ℕ). udp_at x 0) (sym where_content);
      content_is = refl;
      long = omega arith;
      carries = p.carries;
      no_fragment = p.no_fragment;
      within = omega arith;
      header = omega arith;
      fits = p.fits;
      whole = omega arith;
      from_is = p.from_is;
      to_is = p.to_is;
      payload_is = p.payload_is ∙ payload_at frame (at + h) n ∙ ap (λ (x : List ℕ). take (n - 8) (drop 8 x)) (sym where_content);
    }

pub passes_from_accepts : (frame : List ℕ) (cut : Bool) (at : ℕ) (content : List ℕ) (ip : Ipv4) (udp : Udp_header) (from to : Addr) (payload : List ℕ) → at ≤ length frame → Accepts (drop at frame) content ip udp from to payload → ip_datagram frame cut at ≡ Udp from to payload
passes_from_accepts frame cut at content ip udp from to payload near a =
    let h = ip.header_length in
    let where_content : content ≡ drop (at + h) frame = a.content_is ∙ content_at frame at h in
    let d_len : length (drop at frame) ≡ length frame - at = length-drop at frame in
    let c_len : length content ≡ length (drop at frame) - h = ap length a.content_is ∙ length-drop h (drop at frame) in
    let long = a.long in
    let within = a.within in
    let whole = a.whole in
    let passes : Passes frame at ip udp from to payload = record {
      long = omega arith;
      carries = a.carries;
      no_fragment = a.no_fragment;
      header = omega arith;
      fits = a.fits;
      whole = omega arith;
      from_is = a.from_is;
      to_is = a.to_is;
      payload_is = a.payload_is ∙ ap (λ (x : List ℕ). take (udp.length - 8) (drop 8 x)) where_content ∙ sym (payload_at frame (at + h) udp.length);
    } in
    passes_gives frame cut at ip udp from to payload (a.ip_is ∙ sym (ipv4_from frame at)) (a.udp_is ∙ ap (λ (x : List ℕ). udp_at x 0) where_content ∙ sym (udp_from frame (at + h))) passes
