-- A datagram's block with other addresses.
use Rattle.std.proofs.Common.{◌≡◌, ℕ, zero, suc, ◌+◌, ◌*◌, ◌-◌, ◌^◌, ◌<◌, ◌≤◌, Bool, true, false, if◌then◌else◌, ltb, List, [], ◌∷◌, ◌++◌, length, take, drop, Option, Some, None, refl, sym, ap, subst, ◌∙◌, append_assoc, arith}
use Rattle.std.specs.Int.{w16, w32, to_be_bytes}
use Rattle.std.proofs.lemmas.List.{take-append-drop, take_at, drop_at, length-append, length-drop}
use Rattle.audit_model.specs.declared.address.Addr.{Addr}
use Rattle.audit_packets.specs.Frame.{ethernet_length}
use Rattle.audit_packets.specs.Spelled.{HoldsIpv4, HoldsProtocol, HoldsUdp}
use Rattle.audit_packets.proofs.EthernetHeaders.{ethernet_leads}
use Rattle.audit_packets.specs.Reading.{Datagram}
use Rattle.audit_packets.specs.Reading as seen
use Rattle.audit_packets.proofs.Whole.{udp_as_spelled}
use Rattle.prep_blocks.specs.declared.block.Block.{Block}
use Rattle.prep_blocks.specs.declared.block.PacketHead.{PacketHead}
use Rattle.prep_frames.specs.Frames.{frame_in, seen_in}
use Rattle.prep_translate.specs.declared.renaming.Renaming.{Renaming}
use Rattle.audit_model.specs.declared.policy.Policy.{Policy}
use Rattle.audit_model.specs.Policy.{relays}
use Rattle.prep_translate.specs.Renaming.{at_ip, public_of, outer_by, outer_of, or_same, renamed}
use Rattle.prep_translate.specs.Frames.{turned, with_ips, moved_to, moved_by, moved_of, written_at, written_of, AreBytes, IsNoDatagram, IsRenamed}

-- a front of a list, and another one of its length
pub front_for : (n : ℕ) (xs f : List ℕ) → length f ≡ length (take n xs) → take n (f ++ drop n xs) ≡ f
front_for zero xs [] e = refl
front_for zero xs (y ∷ f) e = absurd (omega (arith, e))
front_for (suc n) [] [] e = refl
front_for (suc n) [] (y ∷ f) e = absurd (omega (arith, e))
front_for (suc n) (x ∷ xs) [] e = absurd (omega (arith, e))
front_for (suc n) (x ∷ xs) (y ∷ f) e = ap (λ (t : List ℕ). y ∷ t) (front_for n xs f (omega (arith, e)))

-- a front, two addresses and what is behind them
abbrev pub round : List ℕ → ℕ → ℕ → List ℕ → List ℕ
round front from to behind = front ++ to_be_bytes w32 from ++ to_be_bytes w32 to ++ behind

pub other_ips : (at from to from' to' : ℕ) (front behind : List ℕ) → length front ≡ at → with_ips at from' to' (round front from to behind) ≡ round front from' to' behind
other_ips at from to from' to' front behind e =
    let ahead : take at (round front from to behind) ≡ front =
    ap (take at) (append_assoc (front ++ to_be_bytes w32 from) (to_be_bytes w32 to) behind ∙ append_assoc front (to_be_bytes w32 from) (to_be_bytes w32 to ++ behind))
    ∙ take_at front (to_be_bytes w32 from ++ (to_be_bytes w32 to ++ behind)) at e in
    let long : length ((front ++ to_be_bytes w32 from) ++ to_be_bytes w32 to) ≡ at + 8 =
    omega (arith, e, length-append (front ++ to_be_bytes w32 from) (to_be_bytes w32 to), length-append front (to_be_bytes w32 from)) in
    let after : drop (at + 8) (round front from to behind) ≡ behind = drop_at ((front ++ to_be_bytes w32 from) ++ to_be_bytes w32 to) behind (at + 8) long in
    ap (λ (t : List ℕ). t ++ to_be_bytes w32 from' ++ to_be_bytes w32 to' ++ drop (at + 8) (round front from to behind)) ahead
    ∙ ap (λ (t : List ℕ). front ++ to_be_bytes w32 from' ++ to_be_bytes w32 to' ++ t) after

-- what stands before the IPv4 packet
abbrev ahead_of : (frame datagram : List ℕ) → HoldsIpv4 frame datagram → List ℕ
ahead_of frame datagram h = h.addresses ++ h.first ++ h.second ++ 0x08 ∷ 0x00 ∷ []

ahead_long : (frame datagram : List ℕ) (h : HoldsIpv4 frame datagram) → length (ahead_of frame datagram h) ≡ ethernet_length frame
ahead_long frame datagram h =
    let l = ethernet_leads frame datagram h in
    let whole : length frame ≡ length (ahead_of frame datagram h) + length datagram = ap length h.spelled ∙ length-append (ahead_of frame datagram h) datagram in
    let left : length datagram ≡ length frame - ethernet_length frame = ap length l.datagram_is ∙ length-drop (ethernet_length frame) frame in
    omega (arith, whole, left, l.long)

-- what stands in the header before the addresses
abbrev head_of : (datagram : List ℕ) (words total from to : ℕ) (content : List ℕ) → HoldsProtocol datagram words total from to content → List ℕ
head_of datagram words total from to content h = (64 + words) ∷ h.service ∷ to_be_bytes w16 total ++ h.identification ++ (64 * h.flags) ∷ 0 ∷ h.time_to_live ∷ 17 ∷ h.checksum

-- a frame with other addresses
abbrev frame_with : (frame : List ℕ) (from to : Addr) (payload : List ℕ) → HoldsUdp frame from to payload → ℕ → ℕ → List ℕ
frame_with frame from to payload h from' to' =
    ahead_of frame h.datagram h.ethernet ++ (round (head_of h.datagram h.words h.total from.ip to.ip h.content h.ipv4) from' to' h.ipv4.options ++ h.content)

spelled_with : (frame : List ℕ) (from to : Addr) (payload : List ℕ) (h : HoldsUdp frame from to payload) → frame ≡ frame_with frame from to payload h from.ip to.ip
spelled_with frame from to payload h = h.ethernet.spelled ∙ ap (λ (t : List ℕ). ahead_of frame h.datagram h.ethernet ++ t) h.ipv4.spelled

holds_with : (frame : List ℕ) (from to from' to' : Addr) (payload : List ℕ) (h : HoldsUdp frame from to payload) → from'.port ≡ from.port → to'.port ≡ to.port → from'.ip < 2 ^ 32 → to'.ip < 2 ^ 32
    → HoldsUdp (frame_with frame from to payload h from'.ip to'.ip) from' to' payload
holds_with frame from to from' to' payload h same_from same_to fits_from fits_to =
    let head = head_of h.datagram h.words h.total from.ip to.ip h.content h.ipv4 in
    let e = h.ethernet in
    let p = h.ipv4 in
    record {
      datagram = round head from'.ip to'.ip p.options ++ h.content;
      words = h.words;
      total = h.total;
      content = h.content;
      ethernet = record { addresses = e.addresses; first = e.first; second = e.second; twelve = e.twelve; tags = e.tags; spelled = refl };
      ipv4 = record {
        service = p.service;
        identification = p.identification;
        flags = p.flags;
        time_to_live = p.time_to_live;
        checksum = p.checksum;
        options = p.options;
        spelled = refl;
        two = p.two;
        two_more = p.two_more;
        least = p.least;
        most = p.most;
        optional = p.optional;
        total_fits = p.total_fits;
        from_fits = fits_from;
        to_fits = fits_to;
      };
      udp = rw (same_from, same_to) h.udp;
      within = h.within;
    }

round_out : (a ahead h o c r : List ℕ) (from to : ℕ) → a ++ ((ahead ++ (round h from to o ++ c)) ++ r) ≡ round (a ++ (ahead ++ h)) from to ((o ++ c) ++ r)
round_out a ahead h o c r from to = simp append_assoc

length_taken : (n : ℕ) (xs : List ℕ) → length (take n xs) ≤ length xs
length_taken zero xs = omega arith
length_taken (suc n) [] = omega arith
length_taken (suc n) (x ∷ xs) = omega (arith, length_taken n xs)

-- behind the first bytes of a list comes something
some_behind : (n k : ℕ) (bytes : List ℕ) → 1 ≤ length (take n (drop k bytes)) → length (take k bytes) ≡ k
some_behind n k bytes some =
    let whole : length (take k bytes) + length (drop k bytes) ≡ length bytes = sym (length-append (take k bytes) (drop k bytes)) ∙ ap length (take-append-drop k bytes) in
    omega (arith, some, length_taken n (drop k bytes), length-drop k bytes, whole)

port_kept : (addr : Addr) (policy : Policy) (t : Option ℕ) → (or_same addr (outer_by policy addr t)).port ≡ addr.port
port_kept addr policy None = refl
port_kept addr policy (Some ip) = by_test (relays policy (at_ip ip addr)) where
  by_test : (b : Bool) → (or_same addr (if b then Some (at_ip ip addr) else None)).port ≡ addr.port
  by_test true = refl
  by_test false = refl

head_long : (datagram : List ℕ) (words total from to : ℕ) (content : List ℕ) (h : HoldsProtocol datagram words total from to content) → length (head_of datagram words total from to content h) ≡ 12
head_long datagram words total from to content h =
    let start = (64 + words) ∷ h.service ∷ to_be_bytes w16 total in
    let middle = (64 * h.flags) ∷ 0 ∷ h.time_to_live ∷ 17 ∷ h.checksum in
    let four : length start ≡ 4 = refl in
    omega (arith, h.two, h.two_more, four, length-append (start ++ h.identification) middle, length-append start h.identification)

by_ends : (renaming : Renaming) (bytes frame front behind : List ℕ) (from to : Addr) (o p : Option Addr) → bytes ≡ round front from.ip to.ip behind → length front ≡ 28 + ethernet_length frame + 12
    → turned bytes frame (moved_to renaming from to o p) ≡ round front (or_same from o).ip (or_same to p).ip behind
by_ends renaming bytes frame front behind from to None None was long = was
by_ends renaming bytes frame front behind from to (Some outer) p was long =
    ap (with_ips (28 + ethernet_length frame + 12) outer.ip (or_same to p).ip) was ∙ other_ips (28 + ethernet_length frame + 12) from.ip to.ip outer.ip (or_same to p).ip front behind long
by_ends renaming bytes frame front behind from to None (Some outer) was long =
    ap (with_ips (28 + ethernet_length frame + 12) from.ip outer.ip) was ∙ other_ips (28 + ethernet_length frame + 12) from.ip to.ip from.ip outer.ip front behind long

pub renames : (renaming : Renaming) (head : PacketHead) (bytes : List ℕ) (from to : Addr) (payload : List ℕ) → HoldsUdp (take head.captured (drop 28 bytes)) from to payload
    → (renamed renaming from).ip < 2 ^ 32 → (renamed renaming to).ip < 2 ^ 32 → IsRenamed renaming head bytes (turned bytes (take head.captured (drop 28 bytes)) (moved_by renaming from to)) from to payload
renames renaming head bytes from to payload h fits_from fits_to =
    let n = head.captured in
    let frame = take n (drop 28 bytes) in
    let rest = drop n (drop 28 bytes) in
    let ahead = ahead_of frame h.datagram h.ethernet in
    let header = head_of h.datagram h.words h.total from.ip to.ip h.content h.ipv4 in
    let front = take 28 bytes ++ (ahead ++ header) in
    let behind = (h.ipv4.options ++ h.content) ++ rest in
    let from' = renamed renaming from in
    let to' = renamed renaming to in
    let spelled : frame ≡ frame_with frame from to payload h from.ip to.ip = spelled_with frame from to payload h in
    let was : bytes ≡ round front from.ip to.ip behind =
    sym (take-append-drop 28 bytes) ∙ ap (λ (t : List ℕ). take 28 bytes ++ t) (sym (take-append-drop n (drop 28 bytes))) ∙ ap (λ (t : List ℕ). take 28 bytes ++ (t ++ rest)) spelled
    ∙ round_out (take 28 bytes) ahead header h.ipv4.options h.content rest from.ip to.ip in
    let ahead_is = ahead_long frame h.datagram h.ethernet in
    let twelve = head_long h.datagram h.words h.total from.ip to.ip h.content h.ipv4 in
    let size : (f t : ℕ) → length (frame_with frame from to payload h f t) ≡ length ahead + (length header + 8 + length h.ipv4.options + length h.content) = λ f t.
    omega (
      arith,
      length-append ahead (round header f t h.ipv4.options ++ h.content),
      length-append (round header f t h.ipv4.options) h.content,
      length-append ((header ++ to_be_bytes w32 f) ++ to_be_bytes w32 t) h.ipv4.options,
      length-append (header ++ to_be_bytes w32 f) (to_be_bytes w32 t),
      length-append header (to_be_bytes w32 f),
    ) in
    let some : 1 ≤ length frame = omega (arith, ap length spelled, size from.ip to.ip) in
    let eight_and_twenty : length (take 28 bytes) ≡ 28 = some_behind n 28 bytes some in
    let long : length front ≡ 28 + ethernet_length frame + 12 = omega (arith, eight_and_twenty, ahead_is, twelve, length-append (take 28 bytes) (ahead ++ header), length-append ahead header) in
    let is : turned bytes frame (moved_by renaming from to) ≡ round front from'.ip to'.ip behind = by_ends renaming bytes frame front behind from to (outer_of renaming from) (outer_of renaming to) was long in
    let made = frame_with frame from to payload h from'.ip to'.ip in
    let regrouped : round front from'.ip to'.ip behind ≡ take 28 bytes ++ (made ++ rest) = sym (round_out (take 28 bytes) ahead header h.ipv4.options h.content rest from'.ip to'.ip) in
    let same_size : length made ≡ length frame = size from'.ip to'.ip ∙ sym (size from.ip to.ip) ∙ ap length (sym spelled) in
    let framed : take n (drop 28 (turned bytes frame (moved_by renaming from to))) ≡ made =
    ap (λ (t : List ℕ). take n (drop 28 t)) (is ∙ regrouped) ∙ ap (take n) (drop_at (take 28 bytes) (made ++ rest) 28 eight_and_twenty) ∙ front_for n (drop 28 bytes) made same_size in
    record {
      front = front;
      behind = behind;
      was = was;
      is = is;
      holds = subst (λ (t : List ℕ). HoldsUdp t from' to' payload) (sym framed)
          (holds_with frame from to from' to' payload h (port_kept from renaming.policy (public_of renaming from.ip)) (port_kept to renaming.policy (public_of renaming to.ip)) fits_from fits_to);
    }

pub renames_block : (renaming : Renaming) (block : Block) (head : PacketHead) (from to : Addr) (payload : List ℕ) → block.packet ≡ Some head → AreBytes (frame_in block head)
    → HoldsUdp (frame_in block head) from to payload → (renamed renaming from).ip < 2 ^ 32 → (renamed renaming to).ip < 2 ^ 32 → IsRenamed renaming head block.bytes (written_of renaming block) from to payload
renames_block renaming block head from to payload is bytes h fits_from fits_to =
    let read : seen_in (frame_in block head) head ≡ seen.Udp from to payload = (udp_as_spelled (frame_in block head) (ltb head.captured head.original) from to payload bytes).1 h in
    let written : written_of renaming block ≡ turned block.bytes (frame_in block head) (moved_by renaming from to) =
    ap (written_at renaming block) is ∙ ap (λ (d : Datagram). turned block.bytes (frame_in block head) (moved_of renaming d)) read in
    subst (λ (t : List ℕ). IsRenamed renaming head block.bytes t from to payload) (sym written) (renames renaming head block.bytes from to payload h fits_from fits_to)

pub keeps_block : (renaming : Renaming) (block : Block) → ((head : PacketHead) → AreBytes (frame_in block head)) → IsNoDatagram block → written_of renaming block ≡ block.bytes
keeps_block renaming block bytes none = by_packet block.packet refl where
  by_datagram : (head : PacketHead) → block.packet ≡ Some head → (d : Datagram) → seen_in (frame_in block head) head ≡ d → turned block.bytes (frame_in block head) (moved_of renaming d) ≡ block.bytes
  by_datagram head is (seen.Udp from to payload) e = absurd (none head from to payload is ((udp_as_spelled (frame_in block head) (ltb head.captured head.original) from to payload (bytes head)).0 e))
  by_datagram head is seen.Other e = refl
  by_datagram head is (seen.Fragment from to) e = refl
  by_datagram head is (seen.Cut ips) e = refl

  by_packet : (packet : Option PacketHead) → block.packet ≡ packet → written_at renaming block packet ≡ block.bytes
  by_packet None e = refl
  by_packet (Some head) e = by_datagram head e (seen_in (frame_in block head) head) refl
