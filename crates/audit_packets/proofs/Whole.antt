-- A frame holds a UDP datagram by places just where it is spelled so.
use Rattle.std.proofs.Common.{◌≡◌, ◌↔◌, ℕ, ◌+◌, ◌-◌, ◌*◌, ◌≤◌, Bool, true, false, not, ◌&&◌, cond, eqb, ltb, leb, List, length, get_or, drop, None, refl, sym, ap, ◌∙◌, subst, ◌%◌, arith}
use Rattle.std.proofs.lemmas.Bool.{ltb-false, le-ltb, eqb-true, eq-eqb, leb-true, le-leb}
use Rattle.std.proofs.lemmas.List.{get_or-drop}
use Rattle.audit_model.specs.declared.address.Addr.{Addr}
use Rattle.audit_packets.specs.Frame.{Ipv4, Udp_header, number, long_number, ethernet_length, ipv4_at, fits_in, carries_udp}
use Rattle.audit_packets.specs.Reading.{Udp, Other, lacking, ip_datagram, datagram_of}
use Rattle.audit_packets.specs.Spelled.{HoldsUdp, HoldsIpv4}
use Rattle.audit_packets.proofs.Places.{Passes, udp_behind, gives_passes, passed_over, lacking_no_udp}
use Rattle.audit_packets.proofs.Shifts.{made, made_udp, same_udp, Accepts, accepts_from_passes, passes_from_accepts}
use Rattle.audit_packets.proofs.UdpHeaders.{IsBytes, Says, payload_spelled, payload_says}
use Rattle.audit_packets.proofs.IpHeaders.{both, Tells, protocol_spelled, protocol_tells}
use Rattle.audit_packets.proofs.EthernetHeaders.{ethernet_spelled, ethernet_leads}

IsBytes-drop : (n : ℕ) (bytes : List ℕ) → IsBytes bytes → IsBytes (drop n bytes)
IsBytes-drop n bytes h i = rw get_or-drop (h (n + i))

fits_says : (udp : Udp_header) (ip : Ipv4) → fits_in udp ip ≡ true → (ip.header_length + 8 ≤ ip.total_length) × (8 ≤ udp.length) × (ip.header_length + udp.length ≤ ip.total_length)
fits_says udp ip e =
    let s1 = both (leb (ip.header_length + 8) ip.total_length && leb 8 udp.length) (leb (ip.header_length + udp.length) ip.total_length) e in
    let s2 = both (leb (ip.header_length + 8) ip.total_length) (leb 8 udp.length) s1.0 in
    (leb-true _ _ s2.0, leb-true _ _ s2.1, leb-true _ _ s1.1)

not_true : (b : Bool) → not b ≡ false → b ≡ true
not_true true e = refl
not_true false e = absurd cc

held_there : (frame : List ℕ) (at : ℕ) (from to : Addr) (payload : List ℕ) → IsBytes frame → HoldsIpv4 frame (drop at frame) → Passes frame at (ipv4_at frame at) (udp_behind frame at (ipv4_at frame at)) from to payload → HoldsUdp frame from to payload
held_there frame at from to payload fits ethernet p =
    let a = accepts_from_passes frame at from to payload p in
    let d = drop at frame in
    let ip = ipv4_at frame at in
    let udp = udp_behind frame at ip in
    let content = drop ip.header_length d in
    let here : ip ≡ ipv4_at d 0 = a.ip_is in
    let h_is : ip.header_length ≡ (ipv4_at d 0).header_length = ap (λ (i : Ipv4). i.header_length) here in
    let d_fits = IsBytes-drop at frame fits in
    let inside = fits_says udp ip a.fits in
    let least = inside.1 in
    let most = inside.2 in
    let within = a.within in
    let protocol = protocol_spelled d d_fits a.long (subst (λ (i : Ipv4). carries_udp i ≡ true) here a.carries) (subst (λ (i : Ipv4). i.is_fragment ≡ false) here a.no_fragment) (omega arith) in
    let n_is : udp.length ≡ number content 4 = ap (λ (u : Udp_header). u.length) a.udp_is in
    let spelled = payload_spelled content payload udp.length (IsBytes-drop ip.header_length d d_fits) n_is least a.whole a.payload_is in
    let from_ip : from.ip ≡ long_number d 12 = ap (λ (x : Addr). x.ip) a.from_is ∙ ap (λ (i : Ipv4). i.from) here in
    let to_ip : to.ip ≡ long_number d 16 = ap (λ (x : Addr). x.ip) a.to_is ∙ ap (λ (i : Ipv4). i.to) here in
    let from_port : from.port ≡ number content 0 = ap (λ (x : Addr). x.port) a.from_is ∙ ap (λ (u : Udp_header). u.from) a.udp_is in
    let to_port : to.port ≡ number content 2 = ap (λ (x : Addr). x.port) a.to_is ∙ ap (λ (u : Udp_header). u.to) a.udp_is in
    let total_is : ip.total_length ≡ number d 2 = ap (λ (i : Ipv4). i.total_length) here in
    let words_are : ip.header_length ≡ get_or d 0 0 % 16 * 4 = h_is in
    let length_is : 8 + length payload ≡ udp.length = spelled.1 in
    record {
      datagram = d;
      words = get_or d 0 0 % 16;
      total = number d 2;
      content = content;
      ethernet = ethernet;
      ipv4 = rw (from_ip, to_ip, h_is) protocol;
      udp = rw (from_port, to_port) spelled.0;
      within = omega arith;
    }

is_held : (frame : List ℕ) (cut : Bool) (from to : Addr) (payload : List ℕ) → IsBytes frame → datagram_of frame cut ≡ Udp from to payload → HoldsUdp frame from to payload
unfolding datagram_of
is_held frame cut from to payload fits e =
    let at = ethernet_length frame in
    let s1 = passed_over (ltb (length frame) at) (lacking cut None) (cond (not (eqb (number frame (at - 2)) 2048)) Other (ip_datagram frame cut at)) (Udp from to payload) (lacking_no_udp cut None from to payload) e in
    let s2 = passed_over (not (eqb (number frame (at - 2)) 2048)) Other (ip_datagram frame cut at) (Udp from to payload) (λ h. cc) s1.1 in
    let ethernet = ethernet_spelled frame fits (ltb-false (length frame) at s1.0) (eqb-true (number frame (at - 2)) 2048 (not_true _ s2.0)) in
    held_there frame at from to payload fits ethernet (gives_passes frame cut at from to payload s2.1)

accepted : (datagram content : List ℕ) (words total : ℕ) (from to : Addr) (payload : List ℕ) → 5 ≤ words → 4 * words + 8 + length payload ≤ total → Tells datagram words total from.ip to.ip content → Says content from.port to.port payload
    → Accepts datagram content (made 4 (4 * words) total false 17 from.ip to.ip) (made_udp from.port to.port (8 + length payload)) from to payload
accepted datagram content words total from to payload least within t s =
    let after = t.after in
    let long = s.long in
    let count : 8 + length payload - 8 ≡ length payload = omega arith in
    record {
      ip_is = sym t.ip_is;
      udp_is = sym (same_udp _ _ _ _ _ _ s.from_is s.to_is s.length_is);
      content_is = t.content_is;
      long = t.long;
      carries = rw (le-leb 20 (4 * words) (omega arith), le-leb (4 * words) total (omega arith)) refl;
      no_fragment = refl;
      within = omega arith;
      header = omega arith;
      fits = rw (le-leb (4 * words + 8) total (omega arith), le-leb 8 (8 + length payload) (omega arith), le-leb (4 * words + (8 + length payload)) total (omega arith)) refl;
      whole = long;
      from_is = refl;
      to_is = refl;
      payload_is = rw count s.payload_is;
    }

is_given : (frame : List ℕ) (cut : Bool) (from to : Addr) (payload : List ℕ) → HoldsUdp frame from to payload → datagram_of frame cut ≡ Udp from to payload
unfolding datagram_of
is_given frame cut from to payload h =
    let l = ethernet_leads frame h.datagram h.ethernet in
    let within = h.within in
    let total_fits = h.ipv4.total_fits in
    let t = protocol_tells h.datagram h.words h.total from.ip to.ip h.content h.ipv4 in
    let s = payload_says h.content from.port to.port payload (omega arith) h.udp in
    let a = accepted h.datagram h.content h.words h.total from to payload h.ipv4.least within t s in
    let ip = made 4 (4 * h.words) h.total false 17 from.ip to.ip in
    let udp = made_udp from.port to.port (8 + length payload) in
    let there = subst (λ (x : List ℕ). Accepts x h.content ip udp from to payload) l.datagram_is a in
    let inner : ip_datagram frame cut (ethernet_length frame) ≡ Udp from to payload = passes_from_accepts frame cut (ethernet_length frame) h.content ip udp from to payload l.long there in
    rw (le-ltb (length frame) (ethernet_length frame) l.long, eq-eqb (number frame (ethernet_length frame - 2)) 2048 l.kind) inner

-- what is read as a UDP datagram is spelled so, and what is spelled so is read
pub udp_as_spelled : (frame : List ℕ) (cut : Bool) (from to : Addr) (payload : List ℕ) → IsBytes frame → datagram_of frame cut ≡ Udp from to payload ↔ HoldsUdp frame from to payload
udp_as_spelled frame cut from to payload fits = (is_held frame cut from to payload fits, is_given frame cut from to payload)
