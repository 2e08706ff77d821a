-- Stretches while their packets are read, and packets cut into stretches.
use Rattle.std.proofs.Common.{◌≡◌, ℕ, zero, suc, ◌+◌, ◌*◌, ◌<◌, ◌≤◌, List, [], ◌∷◌, ◌++◌, length, map, take, drop, get_or, Option, Some, None, Result, Ok, Err, refl, sym, ap, ap₂, subst, ◌∙◌, arith, ◌-◌, ◌/◌, min, length-drop, take_all, append_assoc}
use Rattle.std.specs.Prelude.{IfOk, MatchResult}
use Rattle.std.specs.List.{All, AllZip, Contains}
use Rattle.std.proofs.lemmas.List.FromFn.{get_or-range_with_len, length-range_with_len}
use Rattle.std.proofs.lemmas.Slice.Zip.{AllZip-long}
use Rattle.rayon.specs.Numbers.{nat_range}
use Rattle.audit_model.specs.declared.sighting.Sighting.{Sighting}
use Rattle.audit_pcapng.specs.declared.packet.Packet.{Packet}
use Rattle.std.proofs.lemmas.List.Elements.{All-push}
use Rattle.std.proofs.lemmas.List.{map-append, map_more, length-append, take-append-drop}
use Rattle.audit_model.specs.declared.policy.Policy.{Policy}
use Rattle.audit_pcapng.specs.declared.packet.PacketSlice.{PacketSlice}
use Rattle.audit_pcapng.specs.Packets.{packet_of}
use Rattle.audit_sightings.specs.declared.stretch.ArenaDatagram.{ArenaDatagram}
use Rattle.audit_sightings.specs.declared.fault.IntakeFaultKind.{IntakeFaultKind}
use Rattle.audit_sightings.specs.ServiceDatagram.{ServiceDatagram, service_datagram_of}
use Rattle.audit_sightings.specs.Stretch.{found_in, read_of, stretch_at, LiesWithin}
use Rattle.audit_sightings.specs.Sightings.{TakesIn, Stops}
use Rattle.audit_sightings.proofs.AddPacketsSteps.{TakesIn-then}
use Rattle.audit_sightings.proofs.Zipped.{zip_at}

take-within : {X : Type 0} (a b : List X) (s n : ℕ) → s + n ≤ length a → take n (drop s (a ++ b)) ≡ take n (drop s a)
take-within a b zero zero h = refl
take-within [] b zero (suc n) h = absurd (omega arith)
take-within (x ∷ a) b zero (suc n) h = ap (λ more. x ∷ more) (take-within a b zero n (omega arith))
take-within [] b (suc s) n h = absurd (omega arith)
take-within (x ∷ a) b (suc s) n h = take-within a b s n (omega arith)

abbrev Found : Type 0
Found = Result (Option ArenaDatagram) IntakeFaultKind

-- what the arena gets behind a payload leaves it as it is
found_grown : (arena more : List ℕ) (found : Found) → LiesWithin (length arena) found → found_in (arena ++ more) found ≡ found_in arena found
found_grown arena more (Ok None) within = refl
found_grown arena more (Ok (Some kept)) within = ap (λ payload. Ok (Some (record { stamp = kept.stamp; side = kept.side; from = kept.from; to = kept.to; payload = payload })))
    (take-within arena more kept.start kept.len within)
found_grown arena more (Err fault) within = refl

lies_longer : (n m : ℕ) (found : Found) → n ≤ m → LiesWithin n found → LiesWithin m found
lies_longer n m (Ok None) le within = tt
lies_longer n m (Ok (Some kept)) le within = omega (arith, le, within)
lies_longer n m (Err fault) le within = tt

pub founds_grown : (arena more : List ℕ) (founds : List Found) → All (LiesWithin (length arena)) founds → map (found_in (arena ++ more)) founds ≡ map (found_in arena) founds
founds_grown arena more [] within = refl
founds_grown arena more (found ∷ founds) within = ap₂ (λ one others. one ∷ others) (found_grown arena more found (within 0 found (omega arith)))
    (founds_grown arena more founds (λ k d lt. within (suc k) d (omega arith)))

pub lie_longer : (n m : ℕ) (founds : List Found) → n ≤ m → All (LiesWithin n) founds → All (LiesWithin m) founds
lie_longer n m founds le within = λ k d lt. lies_longer n m _ le (within k d lt)

-- one packet more is read, its payload behind those that the arena has
pub read_more : (policy : Policy) (packets : List PacketSlice) (i : ℕ) (d : PacketSlice) (arena more grown : List ℕ) (n m : ℕ) (founds : List Found) (stored : Found) → i < length packets
    → n ≡ length arena → m ≡ length grown → grown ≡ arena ++ more
    → (map (found_in arena) founds ≡ read_of policy (take i packets)) × All (LiesWithin n) founds
    → found_in grown stored ≡ service_datagram_of policy (packet_of (get_or packets i d)) → LiesWithin m stored
    → (map (found_in grown) (founds ++ stored ∷ []) ≡ read_of policy (take (i + 1) packets)) × All (LiesWithin m) (founds ++ stored ∷ [])
read_more policy packets i d arena more grown n m founds stored less n_is m_is grown_is before found within =
    let lie : All (LiesWithin (length arena)) founds = subst (λ (k : ℕ). All (LiesWithin k) founds) n_is before.1 in
    let kept : map (found_in grown) founds ≡ read_of policy (take i packets) = ap (λ (a : List ℕ). map (found_in a) founds) grown_is ∙ founds_grown arena more founds lie ∙ before.0 in (
      map-append (found_in grown) founds (stored ∷ [])
          ∙ ap₂ (λ (front : List (Result (Option ServiceDatagram) IntakeFaultKind)) last. front ++ last ∷ []) kept found
          ∙ sym (map_more (λ (packet : PacketSlice). service_datagram_of policy (packet_of packet)) packets i d less),
      All-push (LiesWithin m) founds stored (lie_longer n m founds (omega (arith, n_is, m_is, ap length grown_is, length-append arena more)) before.1) within,
    )

take-clipped : {X : Type 0} (xs : List X) (n m : ℕ) → n ≡ min m (length xs) → take n xs ≡ take m xs
take-clipped [] zero zero h = refl
take-clipped [] zero (suc m) h = refl
take-clipped [] (suc n) m h = absurd (omega arith)
take-clipped (x ∷ xs) zero zero h = refl
take-clipped (x ∷ xs) zero (suc m) h = absurd (omega arith)
take-clipped (x ∷ xs) (suc n) zero h = absurd (omega arith)
take-clipped (x ∷ xs) (suc n) (suc m) h = ap (λ more. x ∷ more) (take-clipped xs n m (omega arith))

drop-clipped : {X : Type 0} (xs : List X) (n m : ℕ) → n ≡ min m (length xs) → drop n xs ≡ drop m xs
drop-clipped [] zero zero h = refl
drop-clipped [] zero (suc m) h = refl
drop-clipped [] (suc n) m h = absurd (omega arith)
drop-clipped (x ∷ xs) zero zero h = refl
drop-clipped (x ∷ xs) zero (suc m) h = absurd (omega arith)
drop-clipped (x ∷ xs) (suc n) zero h = absurd (omega arith)
drop-clipped (x ∷ xs) (suc n) (suc m) h = drop-clipped xs n m (omega arith)

-- a range that ends with the packets is the stretch
pub part_is : (packets : List PacketSlice) (number start end : ℕ) → start ≡ min (2048 * number) (length packets) → end ≡ min (start + 2048) (length packets)
    → take (end - start) (drop start packets) ≡ stretch_at packets number
part_is packets number start end start_is end_is =
    take-clipped (drop start packets) (end - start) 2048 (omega (arith, start_is, end_is, length-drop start packets))
    ∙ ap (take 2048) (drop-clipped packets start (2048 * number) start_is)

-- the packets of the stretches up to a number, and of the one after them
take-stretch : {X : Type 0} (xs : List X) (n m : ℕ) → take n xs ++ take m (drop n xs) ≡ take (n + m) xs
take-stretch xs zero m = ap (λ k. take k xs) (omega arith)
take-stretch [] (suc n) m = take_all m [] (omega arith) ∙ sym (take_all (suc n + m) [] (omega arith))
take-stretch (x ∷ xs) (suc n) m =
    let on : suc (n + m) ≡ suc n + m = omega arith in
    ap (λ more. x ∷ more) (take-stretch xs n m) ∙ ap (λ k. take k (x ∷ xs)) on

stretch_more : (packets : List PacketSlice) (number : ℕ) → map packet_of (take (2048 * number) packets) ++ map packet_of (stretch_at packets number) ≡ map packet_of (take (2048 * (number + 1)) packets)
stretch_more packets number =
    sym (map-append packet_of (take (2048 * number) packets) (stretch_at packets number))
    ∙ ap (map packet_of) (take-stretch packets (2048 * number) 2048 ∙ ap (λ n. take n packets) (omega arith))

-- all stretches have all packets
pub all_taken : (packets : List PacketSlice) (number : ℕ) → number ≡ length packets / 2048 + 1 → take (2048 * number) packets ≡ packets
all_taken packets number is = take_all (2048 * number) packets (omega (arith, is))

-- what each number gave, where all are there
all_there : {X Y : Type 0} (E : Type 0) (R : X → Y → Type 0) (xs : List X) (ys : List Y) → AllZip (λ x (y : Result Y E). IfOk y (R x)) xs (map Ok ys) → AllZip R xs ys
all_there E R [] [] h = h
all_there E R [] (y ∷ ys) h = absurd h
all_there E R (x ∷ xs) [] h = absurd h
all_there E R (x ∷ xs) (y ∷ ys) h = (h.0, all_there E R xs ys h.1)

pub collected : {X Y E V : Type 0} (R : X → Y → Type 0) (items : V → List Y) (xs numbers : List X) (given : List (Result Y E)) (made : Result V E) → AllZip (λ x (y : Result Y E). IfOk y (R x)) xs given → xs ≡ numbers
    → MatchResult made (λ all. (ys : List Y) × (given ≡ map Ok ys) × (items all ≡ ys)) (λ e. Contains given (Err e)) → IfOk made (λ all. AllZip R numbers (items all))
collected {Y = Y} {E = E} R items xs numbers given (Ok all) h same is =
    let there : AllZip R xs is.0 = all_there E R xs is.0 (subst (λ (l : List (Result Y E)). AllZip (λ x (y : Result Y E). IfOk y (R x)) xs l) is.1 h) in
    subst (λ l. AllZip R l (items all)) same (subst (AllZip R xs) (sym is.2) there)
collected R items xs numbers given (Err e) h same is = tt

-- what was read of the stretch of a number
pub stretch_read : {S : Type 0} (R : ℕ → S → Type 0) (n : ℕ) (stretches : List S) (number : ℕ) (e : S) → AllZip R (nat_range 0 n) stretches → number < n → R number (get_or stretches number e)
stretch_read R n stretches number e zipped less =
    let at : get_or (nat_range 0 n) number 0 ≡ number = get_or-range_with_len 0 (n - 0) number 0 (omega arith) ∙ omega arith in
    subst (λ k. R k (get_or stretches number e)) at (zip_at R (nat_range 0 n) stretches number 0 e zipped (omega (arith, length-range_with_len 0 (n - 0))))

pub stretches_long : {S : Type 0} (R : ℕ → S → Type 0) (n : ℕ) (stretches : List S) → AllZip R (nat_range 0 n) stretches → length stretches ≡ n
stretches_long R n stretches zipped = omega (arith, AllZip-long R (nat_range 0 n) stretches zipped, length-range_with_len 0 (n - 0))

-- where a stretch stops, all packets do
pub stretch_stops : (policy : Policy) (old mid new : List (List Sighting)) (file : ℕ) (packets : List PacketSlice) (number : ℕ) (fault : IntakeFaultKind)
    → TakesIn policy old file (map packet_of (take (2048 * number) packets)) mid → Stops policy mid file (map packet_of (stretch_at packets number)) new fault
    → Stops policy old file (map packet_of packets) new fault
stretch_stops policy old mid new file packets number fault taken stops =
    let front : List Packet = map packet_of (take (2048 * number) packets) in
    let part : List Packet = map packet_of (stretch_at packets number) in
    let behind : List Packet = map packet_of (drop 2048 (drop (2048 * number) packets)) in
    let cut : map packet_of packets ≡ front ++ (part ++ behind) =
    ap (map packet_of) (sym (take-append-drop (2048 * number) packets)) ∙ map-append packet_of (take (2048 * number) packets) (drop (2048 * number) packets)
    ∙ ap (λ (more : List Packet). front ++ more) (ap (map packet_of) (sym (take-append-drop 2048 (drop (2048 * number) packets))) ∙ map-append packet_of (stretch_at packets number) (drop 2048 (drop (2048 * number) packets))) in
    record {
      before = front ++ stops.before;
      packet = stops.packet;
      after = stops.after ++ behind;
      parts = cut ∙ ap (λ (p : List Packet). front ++ (p ++ behind)) stops.parts ∙ ap (λ (p : List Packet). front ++ p) (append_assoc stops.before (stops.packet ∷ stops.after) behind)
          ∙ sym (append_assoc front stops.before (stops.packet ∷ (stops.after ++ behind)));
      taken = TakesIn-then policy old mid new file front stops.before taken stops.taken;
      refused = stops.refused;
    }

-- and where a stretch is taken in, so are all up to it
pub stretch_taken : (policy : Policy) (old mid new : List (List Sighting)) (file : ℕ) (packets : List PacketSlice) (number : ℕ)
    → TakesIn policy old file (map packet_of (take (2048 * number) packets)) mid → TakesIn policy mid file (map packet_of (stretch_at packets number)) new
    → TakesIn policy old file (map packet_of (take (2048 * (number + 1)) packets)) new
stretch_taken policy old mid new file packets number before now =
    subst (λ (ps : List Packet). TakesIn policy old file ps new) (stretch_more packets number)
    (TakesIn-then policy old mid new file (map packet_of (take (2048 * number) packets)) (map packet_of (stretch_at packets number)) before now)
