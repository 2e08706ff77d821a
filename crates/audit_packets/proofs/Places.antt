-- When a frame holds a UDP datagram, by the tests of the definition.
use Rattle.std.proofs.Common.{◌≡◌, ℕ, ◌+◌, ◌≤◌, Bool, true, false, not, cond, ltb, List, length, Option, Some, None, refl, sym, subst}
use Rattle.std.specs.Prelude.{slice_range}
use Rattle.std.proofs.lemmas.Bool.{ltb-false, le-ltb}
use Rattle.audit_model.specs.declared.address.Addr.{Addr}
use Rattle.audit_packets.specs.Frame.{Ipv4, Udp_header, ipv4_at, udp_at, carries_udp, fits_in}
use Rattle.audit_packets.specs.Reading.{Datagram, Udp, Other, Fragment, lacking, udp_datagram, ip_datagram}

-- the tests that such a frame passes, whose headers are ip and udp
pub record Passes (frame : List ℕ) (at : ℕ) (ip : Ipv4) (udp : Udp_header) (from to : Addr) (payload : List ℕ) : Type 0 where
  pub long : at + 20 ≤ length frame
  pub carries : carries_udp ip ≡ true
  pub no_fragment : ip.is_fragment ≡ false
  pub header : at + ip.header_length + 8 ≤ length frame
  pub fits : fits_in udp ip ≡ true
  pub whole : at + ip.header_length + udp.length ≤ length frame
  pub from_is : from ≡ record { ip = ip.from; port = udp.from }
  pub to_is : to ≡ record { ip = ip.to; port = udp.to }
  pub payload_is : payload ≡ slice_range frame (at + ip.header_length + 8) (at + ip.header_length + udp.length)

abbrev pub udp_behind : List ℕ → ℕ → Ipv4 → Udp_header
udp_behind frame at ip = udp_at frame (at + ip.header_length)

passes_gives_there : (frame : List ℕ) (cut : Bool) (at : ℕ) (from to : Addr) (payload : List ℕ) → Passes frame at (ipv4_at frame at) (udp_behind frame at (ipv4_at frame at)) from to payload → ip_datagram frame cut at ≡ Udp from to payload
unfolding ip_datagram udp_datagram
passes_gives_there frame cut at from to payload p =
    rw (le-ltb (length frame) (at + 20) p.long, p.carries, p.no_fragment, le-ltb (length frame) (at + (ipv4_at frame at).header_length + 8) p.header, p.fits, le-ltb (length frame) (at + (ipv4_at frame at).header_length + (udp_at frame (at + (ipv4_at frame at).header_length)).length) p.whole, p.from_is, p.to_is, p.payload_is) refl

pub passes_gives : (frame : List ℕ) (cut : Bool) (at : ℕ) (ip : Ipv4) (udp : Udp_header) (from to : Addr) (payload : List ℕ) → ip ≡ ipv4_at frame at → udp ≡ udp_behind frame at ip → Passes frame at ip udp from to payload → ip_datagram frame cut at ≡ Udp from to payload
passes_gives frame cut at ip udp from to payload ip_is udp_is p =
    let Gives : Ipv4 → Type 0 = λ i. Passes frame at i (udp_behind frame at i) from to payload → ip_datagram frame cut at ≡ Udp from to payload in
    let Takes : Udp_header → Type 0 = λ u. Passes frame at ip u from to payload in
    subst Gives (sym ip_is) (passes_gives_there frame cut at from to payload) (subst Takes udp_is p)

pub lacking_no_udp : (cut : Bool) (ips : Option (ℕ × ℕ)) (from to : Addr) (payload : List ℕ) → lacking cut ips ≡ Udp from to payload → ⊥
lacking_no_udp true ips from to payload e = cc
lacking_no_udp false ips from to payload e = cc

pub passed_over : (b : Bool) (x y z : Datagram) → (x ≡ z → ⊥) → cond b x y ≡ z → (b ≡ false) × (y ≡ z)
passed_over true x y z never e = absurd (never e)
passed_over false x y z never e = (refl, e)

true_from_not : (b : Bool) → not b ≡ false → b ≡ true
true_from_not true e = refl
true_from_not false e = absurd cc

pub gives_passes : (frame : List ℕ) (cut : Bool) (at : ℕ) (from to : Addr) (payload : List ℕ) → ip_datagram frame cut at ≡ Udp from to payload → Passes frame at (ipv4_at frame at) (udp_behind frame at (ipv4_at frame at)) from to payload
unfolding ip_datagram udp_datagram
gives_passes frame cut at from to payload e =
    let ip = ipv4_at frame at in
    let u = at + ip.header_length in
    let udp = udp_at frame u in
    let z = Udp from to payload in
    let s1 = passed_over (ltb (length frame) (at + 20)) (lacking cut None) (cond (not (carries_udp ip)) Other (cond ip.is_fragment (Fragment ip.from ip.to) (udp_datagram frame cut ip u))) z (lacking_no_udp cut None from to payload) e in
    let s2 = passed_over (not (carries_udp ip)) Other (cond ip.is_fragment (Fragment ip.from ip.to) (udp_datagram frame cut ip u)) z (λ h. cc) s1.1 in
    let s3 = passed_over ip.is_fragment (Fragment ip.from ip.to) (udp_datagram frame cut ip u) z (λ h. cc) s2.1 in
    let last = Udp (record { ip = ip.from; port = udp.from }) (record { ip = ip.to; port = udp.to }) (slice_range frame (u + 8) (u + udp.length)) in
    let s4 = passed_over (ltb (length frame) (u + 8)) (lacking cut (Some (ip.from, ip.to))) (cond (not (fits_in udp ip)) Other (cond (ltb (length frame) (u + udp.length)) (lacking cut (Some (ip.from, ip.to))) last)) z (lacking_no_udp cut (Some (ip.from, ip.to)) from to payload) s3.1 in
    let s5 = passed_over (not (fits_in udp ip)) Other (cond (ltb (length frame) (u + udp.length)) (lacking cut (Some (ip.from, ip.to))) last) z (λ h. cc) s4.1 in
    let s6 = passed_over (ltb (length frame) (u + udp.length)) (lacking cut (Some (ip.from, ip.to))) last z (lacking_no_udp cut (Some (ip.from, ip.to)) from to payload) s5.1 in
    let same : last ≡ z = s6.1 in
    record {
      long = ltb-false (length frame) (at + 20) s1.0;
      carries = true_from_not (carries_udp ip) s2.0;
      no_fragment = s3.0;
      header = ltb-false (length frame) (u + 8) s4.0;
      fits = true_from_not (fits_in udp ip) s5.0;
      whole = ltb-false (length frame) (u + udp.length) s6.0;
      from_is = (cc);
      to_is = (cc);
      payload_is = (cc);
    }
