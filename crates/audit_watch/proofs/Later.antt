-- The sightings of later packets, among those of all packets.
use Rattle.std.proofs.Common.{◌≡◌, ◌<◌, ◌+◌, ◌*◌, ◌-◌, ◌/◌, ◌%◌, ◌==◌, ◌++◌, inl, inr, ℕ, zero, suc, false, Option, Some, None, List, [], ◌∷◌, length, map, refl, sym, ◌∙◌, ap, subst, arith}
use Rattle.std.specs.Prelude.{filter, slice_get, option_and_then}
use Rattle.std.specs.List.{filter_map, enumerate_from}
use Rattle.std.proofs.lemmas.Bool.{cases_lt, ltb-false}
use Rattle.std.proofs.lemmas.List.{length-map, get_or_past}
use Rattle.std.proofs.lemmas.List.Elements.{filter-append, filter_map-append}
use Rattle.std.proofs.lemmas.List.FromFn.{length-enumerate_from}
use Rattle.std.proofs.lemmas.Nat.{div-add-mod', mod_below}
use Rattle.std.proofs.lemmas.Option.{none-some, slice_get-get_or, slice_get_past}
use Rattle.audit_model.specs.declared.policy.Policy.{Policy}
use Rattle.audit_model.specs.declared.sighting.SightId.{SightId}
use Rattle.audit_model.specs.declared.sighting.Sighting.{Sighting}
use Rattle.audit_model.specs.Skews.{skew_for}
use Rattle.audit_pcapng.specs.declared.packet.Packet.{Packet}
use Rattle.audit_sightings.specs.ByInterface.{of_interface}
use Rattle.audit_sightings.specs.Intake.{Taken, sighting_at}
use Rattle.audit_sightings.specs.ServiceDatagram.{ServiceDatagram}
use Rattle.audit_sightings.specs.Sightings.{sighting_of, kept_in, sightings_of, AreSightings}
use Rattle.audit_segments.specs.Renamed.{renamed_if}
use Rattle.audit_segments.specs.Shifted.{is_below, unshifted, shifted_view}
use Rattle.audit_watch.specs.Rest.{AreBasesOf}
use Rattle.audit_watch.proofs.Watching.{by_base, under, view_above}

-- ---- places in joined lists

get_behind : {X : Type 0} (xs ys : List X) (j : ℕ) → slice_get (xs ++ ys) (length xs + j) ≡ slice_get ys j
get_behind [] ys j = ap (slice_get ys) (omega arith)
get_behind (x ∷ xs) ys j = let at : length (x ∷ xs) + j ≡ suc (length xs + j) = omega arith in ap (slice_get (x ∷ (xs ++ ys))) at ∙ get_behind xs ys j

get_before : {X : Type 0} (xs ys : List X) (j : ℕ) (x : X) → slice_get xs j ≡ Some x → slice_get (xs ++ ys) j ≡ Some x
get_before [] ys j x h = absurd (none-some x h)
get_before (y ∷ xs) ys zero x h = h
get_before (y ∷ xs) ys (suc j) x h = get_before xs ys j x h

-- ---- the sightings of an interface, by the datagrams that are kept

abbrev made : {X : Type 0} → (ServiceDatagram → X) → Option ServiceDatagram → Option X
made f None = None
made f (Some kept) = Some (f kept)

module _ (policy : Policy) (iface : ℕ) where
  abbrev one : ℕ → ServiceDatagram → Sighting
  one index kept = sighting_of (skew_for policy iface) iface index kept

  abbrev kept_of : List Packet → List ServiceDatagram
  kept_of packets = filter_map (kept_in policy) packets

  numbered : (n : ℕ) (all : List ServiceDatagram) (i : ℕ) → slice_get (map (λ (at : ℕ × ServiceDatagram). one at.0 at.1) (enumerate_from n all)) i ≡ made (one (n + i)) (slice_get all i)
  numbered n [] i = refl
  numbered n (k ∷ ks) zero = ap (λ (m : ℕ). Some (one m k)) (omega arith)
  numbered n (k ∷ ks) (suc i) = numbered (n + 1) ks i ∙ ap (λ (m : ℕ). made (one m) (slice_get ks i)) (omega arith)

  at_index : (packets : List Packet) (i : ℕ) → slice_get (sightings_of policy iface packets) i ≡ made (one i) (slice_get (kept_of packets) i)
  unfolding sightings_of
  at_index packets i = numbered 0 (kept_of packets) i ∙ ap (λ (m : ℕ). made (one m) (slice_get (kept_of packets) i)) (omega arith)

  counted : (packets : List Packet) → length (sightings_of policy iface packets) ≡ length (kept_of packets)
  unfolding sightings_of
  counted packets = length-map (enumerate_from 0 (kept_of packets)) (λ (at : ℕ × ServiceDatagram). one at.0 at.1) ∙ length-enumerate_from 0 (kept_of packets)

  -- those of an interface of a file, of joined packets
  of_number : (number : ℕ) (xs ys : List Packet) → kept_of (filter (λ packet. packet.iface == number) (xs ++ ys)) ≡ kept_of (filter (λ packet. packet.iface == number) xs) ++ kept_of (filter (λ packet. packet.iface == number) ys)
  of_number number xs ys = ap kept_of (filter-append (λ packet. packet.iface == number) xs ys) ∙ filter_map-append (kept_in policy) (filter (λ packet. packet.iface == number) xs) (filter (λ packet. packet.iface == number) ys)

renamed_made : (policy : Policy) (s : SightId) (j : ℕ) (o : Option ServiceDatagram) → renamed_if s (made (one policy s.iface j) o) ≡ made (one policy s.iface s.index) o
renamed_made policy s j None = refl
renamed_made policy s j (Some kept) = refl

in_row : (taken : Taken) (s : SightId) → sighting_at taken s ≡ slice_get (of_interface taken.interfaces s.iface) s.index
in_row taken s = elim (cases_lt s.iface (length taken.interfaces)) [
  | inl within ↦ ap (option_and_then (λ (row : List Sighting). slice_get row s.index)) (slice_get-get_or taken.interfaces s.iface [] within)
  | inr past ↦ ap (option_and_then (λ (row : List Sighting). slice_get row s.index)) (slice_get_past taken.interfaces s.iface past) ∙ ap (λ (row : List Sighting). slice_get row s.index) (sym (get_or_past taken.interfaces s.iface [] past))
]

-- ---- a sighting of an interface, by its file and its number in it

module _ (policy : Policy) (base : ℕ → ℕ) (earlier later : ℕ → List Packet) (bases : AreBasesOf policy earlier base) where
  abbrev file_of : SightId → ℕ
  file_of s = s.iface / 64

  abbrev number_of : SightId → ℕ
  number_of s = s.iface % 64

  is_iface : (s : SightId) → 64 * file_of s + number_of s ≡ s.iface
  is_iface s = omega (arith, div-add-mod' s.iface 64)

  within : (s : SightId) → number_of s < 64
  within s = mod_below s.iface 64 (omega arith)

  abbrev kept_at : (ℕ → List Packet) → SightId → List ServiceDatagram
  kept_at packets s = kept_of policy s.iface (filter (λ packet. packet.iface == number_of s) (packets (file_of s)))

  -- what an intake of these packets has at an id
  by_packets : (taken : Taken) (packets : ℕ → List Packet) → AreSightings policy taken.interfaces packets → (s : SightId) → sighting_at taken s ≡ made (one policy s.iface s.index) (slice_get (kept_at packets s) s.index)
  by_packets taken packets are s =
      let row : of_interface taken.interfaces s.iface ≡ sightings_of policy s.iface (filter (λ packet. packet.iface == number_of s) (packets (file_of s))) =
      subst (λ k. of_interface taken.interfaces k ≡ sightings_of policy k (filter (λ packet. packet.iface == number_of s) (packets (file_of s)))) (is_iface s) (are.each (file_of s) (number_of s) (within s)) in
      in_row taken s ∙ ap (λ r. slice_get r s.index) row ∙ at_index policy s.iface (filter (λ packet. packet.iface == number_of s) (packets (file_of s))) s.index

  is_base : (s : SightId) → base s.iface ≡ length (kept_at earlier s)
  is_base s =
      subst (λ k. base k ≡ length (sightings_of policy k (filter (λ packet. packet.iface == number_of s) (earlier (file_of s))))) (is_iface s) (bases (file_of s) (number_of s) (within s))
      ∙ counted policy s.iface (filter (λ packet. packet.iface == number_of s) (earlier (file_of s)))

  -- an id from the base on, in the list of all that are kept
  behind : (s : SightId) (ys : List ServiceDatagram) → is_below base s ≡ false → slice_get (kept_at earlier s ++ ys) s.index ≡ slice_get ys (s.index - base s.iface)
  behind s ys from =
      let at : s.index ≡ length (kept_at earlier s) + (s.index - base s.iface) = omega (arith, is_base s, ltb-false s.index (base s.iface) from) in
      ap (slice_get (kept_at earlier s ++ ys)) at ∙ get_behind (kept_at earlier s) ys (s.index - base s.iface)

  -- what an intake of the later packets has, by the ids among all
  viewed : (rest : Taken) → AreSightings policy rest.interfaces later → (s : SightId) → is_below base s ≡ false → shifted_view base (sighting_at rest) s ≡ made (one policy s.iface s.index) (slice_get (kept_at later s) (s.index - base s.iface))
  viewed rest are s from =
      view_above base (sighting_at rest) s from ∙ ap (renamed_if s) (by_packets rest later are (unshifted base s)) ∙ renamed_made policy s (s.index - base s.iface) (slice_get (kept_at later s) (s.index - base s.iface))

  pub the_same : (all rest : Taken) → AreSightings policy all.interfaces (λ file. earlier file ++ later file) → AreSightings policy rest.interfaces later → (s : SightId) → is_below base s ≡ false → sighting_at all s ≡ shifted_view base (sighting_at rest) s
  the_same all rest of_all of_rest s from =
      by_packets all (λ file. earlier file ++ later file) of_all s
      ∙ ap (λ ks. made (one policy s.iface s.index) (slice_get ks s.index)) (of_number policy s.iface (number_of s) (earlier (file_of s)) (later (file_of s)))
      ∙ ap (made (one policy s.iface s.index)) (behind s (kept_at later s) from)
      ∙ sym (viewed rest of_rest s from)

  made_more : {X : Type 0} (f : ServiceDatagram → X) (o more : Option ServiceDatagram) (x : X) → ((k : ServiceDatagram) → o ≡ Some k → more ≡ Some k) → made f o ≡ Some x → made f more ≡ Some x
  made_more f None more x h is = absurd (none-some x is)
  made_more f (Some k) more x h is = ap (made f) (h k refl) ∙ is

  pub still_there : (all rest : Taken) (more : ℕ → List Packet) → AreSightings policy all.interfaces (λ file. earlier file ++ (later file ++ more file)) → AreSightings policy rest.interfaces later
      → (s : SightId) (x : Sighting) → shifted_view base (sighting_at rest) s ≡ Some x → sighting_at all s ≡ Some x
  still_there all rest more of_all of_rest s x is = by_base base (λ s. shifted_view base (sighting_at rest) s ≡ Some x → sighting_at all s ≡ Some x) s
      (λ below h. absurd (none-some x (sym (ap (renamed_if s) (under base None (sighting_at rest) s below)) ∙ h)))
      (λ from h.
      by_packets all (λ file. earlier file ++ (later file ++ more file)) of_all s
      ∙ ap (λ ks. made (one policy s.iface s.index) (slice_get ks s.index)) (of_number policy s.iface (number_of s) (earlier (file_of s)) (later (file_of s) ++ more (file_of s)))
      ∙ ap (made (one policy s.iface s.index)) (behind s (kept_of policy s.iface (filter (λ packet. packet.iface == number_of s) (later (file_of s) ++ more (file_of s)))) from)
      ∙ ap (λ ks. made (one policy s.iface s.index) (slice_get ks (s.index - base s.iface))) (of_number policy s.iface (number_of s) (later (file_of s)) (more (file_of s)))
      ∙ made_more (one policy s.iface s.index) (slice_get (kept_at later s) (s.index - base s.iface)) _ x (λ k e. get_before (kept_at later s) (kept_at more s) (s.index - base s.iface) k e) (sym (viewed rest of_rest s from) ∙ h))
      is
