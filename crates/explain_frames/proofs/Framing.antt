-- What a packet more does to the frames of an interface, and to what is kept for those that are asked for.
use Rattle.std.proofs.Common.{◌≡◌, ◌≢◌, ℕ, zero, suc, ◌+◌, ◌*◌, ◌^◌, ◌<◌, ◌≤◌, ◌==◌, ◌&&◌, ◌||◌, List, [], ◌∷◌, ◌++◌, length, Option, Some, None, Bool, true, false, cond, refl, sym, ap, subst, ◌∙◌, arith, inl, inr, slice_get, length-append, is_some}
use Rattle.std.specs.Prelude.{Result, Ok, Err, OnOk}
use Rattle.std.specs.List.{filter_map, enumerate_from}
use Rattle.std.proofs.lemmas.Bool.{eq-eqb, ne_eqb, cases_lt}
use Rattle.std.proofs.lemmas.Bool.Decides.{eqb_tells}
use Rattle.std.proofs.lemmas.Option.{slice_get_past}
use Rattle.std.proofs.lemmas.List.{append-nil}
use Rattle.std.proofs.lemmas.List.Elements.{filter_map-append}
use Rattle.audit_model.specs.declared.policy.Policy.{Policy}
use Rattle.audit_model.specs.declared.sighting.SightId.{SightId}
use Rattle.audit_model.specs.Sames.{same_sight}
use Rattle.audit_pcapng.specs.declared.packet.Packet.{Packet}
use Rattle.audit_sightings.specs.ServiceDatagram.{ServiceDatagram}
use Rattle.audit_sightings.specs.Sightings.{kept_in, more_of}
use Rattle.audit_sights.specs.declared.map.SightMap.{SightMap}
use Rattle.audit_sights.specs.Found.{found}
use Rattle.explain_frames.specs.declared.frames.Frame.{Frame}
use Rattle.explain_frames.specs.declared.frames.Frames.{Frames}
use Rattle.explain_frames.specs.FramesOf.{frame_of, frame_if, frames_of, kept_for, sight_at, Shows}

enumerate_from-push : {X : Type 0} (n : ℕ) (xs : List X) (x : X) → enumerate_from n (xs ++ x ∷ []) ≡ enumerate_from n xs ++ (n + length xs, x) ∷ []
enumerate_from-push n [] x = ap (λ (i : ℕ). (i, x) ∷ []) (omega arith)
enumerate_from-push n (y ∷ ys) x = ap (λ (r : List (ℕ × _)). (n, y) ∷ r) (enumerate_from-push (n + 1) ys x ∙ ap (λ (i : ℕ). enumerate_from (n + 1) ys ++ (i, x) ∷ []) (omega arith))

filtered-none : {X Y : Type 0} (f : X → Option Y) (xs : List X) (x : X) → f x ≡ None → filter_map f (xs ++ x ∷ []) ≡ filter_map f xs
filtered-none f xs x none = filter_map-append f xs (x ∷ []) ∙ rw none (append-nil (filter_map f xs))

filtered-some : {X Y : Type 0} (f : X → Option Y) (xs : List X) (x : X) (y : Y) → f x ≡ Some y → filter_map f (xs ++ x ∷ []) ≡ filter_map f xs ++ y ∷ []
filtered-some f xs x y some = filter_map-append f xs (x ∷ []) ∙ rw some refl

-- a packet that is no sighting of the interface adds no frame
pub frames_of-none : (policy : Policy) (number : ℕ) (packets : List Packet) (packet : Packet) → frame_if policy number (1 + length packets, packet) ≡ None
    → frames_of policy number (packets ++ packet ∷ []) ≡ frames_of policy number packets
unfolding frames_of
frames_of-none policy number packets packet none =
    ap (filter_map (frame_if policy number)) (enumerate_from-push 1 packets packet) ∙ filtered-none (frame_if policy number) (enumerate_from 1 packets) (1 + length packets, packet) none

-- one that is a sighting of it adds its frame
pub frames_of-some : (policy : Policy) (number : ℕ) (packets : List Packet) (packet : Packet) (frame : Frame) → frame_if policy number (1 + length packets, packet) ≡ Some frame
    → frames_of policy number (packets ++ packet ∷ []) ≡ frames_of policy number packets ++ frame ∷ []
unfolding frames_of
frames_of-some policy number packets packet frame some =
    ap (filter_map (frame_if policy number)) (enumerate_from-push 1 packets packet) ∙ filtered-some (frame_if policy number) (enumerate_from 1 packets) (1 + length packets, packet) frame some

pub frame_if-other : (policy : Policy) (number n : ℕ) (packet : Packet) → packet.iface ≢ number → frame_if policy number (n, packet) ≡ None
frame_if-other policy number n packet ne = rw (ne_eqb packet.iface number ne) refl

pub frame_if-unkept : (policy : Policy) (number n : ℕ) (packet : Packet) → kept_in policy packet ≡ None → frame_if policy number (n, packet) ≡ None
frame_if-unkept policy number n packet none = elim (eqb_tells packet.iface number) [
  | inl same ↦ rw (same.0, none) refl
  | inr ne ↦ rw ne.0 refl
]

pub frame_if-kept : (policy : Policy) (n : ℕ) (packet : Packet) (kept : ServiceDatagram) → kept_in policy packet ≡ Some kept → frame_if policy packet.iface (n, packet) ≡ Some (frame_of n packet)
frame_if-kept policy n packet kept some = rw (eq-eqb packet.iface packet.iface refl, some) refl

pub none_if : {A : Type 0} (o : Option A) → is_some o ≡ false → o ≡ None
none_if None h = refl
none_if (Some x) h = absurd (let k : true ≡ false = h in cc)

pub some_if : {A : Type 0} (o : Option A) → is_some o ≡ true → (x : A) × (o ≡ Some x)
some_if None h = absurd (let k : false ≡ true = h in cc)
some_if (Some x) h = (x, refl)

-- of a list with one more
pub push_before : {X : Type 0} (xs : List X) (y : X) (i : ℕ) → i < length xs → slice_get (xs ++ y ∷ []) i ≡ slice_get xs i
push_before [] y i less = absurd (omega arith)
push_before (x ∷ xs) y zero less = refl
push_before (x ∷ xs) y (suc i) less = push_before xs y i (omega arith)

pub push_at : {X : Type 0} (xs : List X) (y : X) → slice_get (xs ++ y ∷ []) (length xs) ≡ Some y
push_at [] y = refl
push_at (x ∷ xs) y = push_at xs y

pub push_past : {X : Type 0} (xs : List X) (y : X) (i : ℕ) → length xs < i → slice_get (xs ++ y ∷ []) i ≡ None
push_past xs y i past = slice_get_past (xs ++ y ∷ []) i (omega (arith, length-append xs (y ∷ [])))

pub more_of-same : (packets_of : ℕ → List Packet) (file : ℕ) (more : List Packet) → more_of packets_of file more file ≡ packets_of file ++ more
more_of-same packets_of file more = rw (eq-eqb file file refl) refl

pub more_of-other : (packets_of : ℕ → List Packet) (file : ℕ) (more : List Packet) (other : ℕ) → other ≢ file → more_of packets_of file more other ≡ packets_of other
more_of-other packets_of file more other ne = rw (ne_eqb other file ne) refl

-- what an interface has at a place
abbrev pub frame_at : Policy → (ℕ → List Packet) → ℕ → ℕ → ℕ → Option Frame
frame_at policy packets_of file number index = slice_get (frames_of policy number (packets_of file)) index

-- the frames of other files and interfaces stay
same_elsewhere : (policy : Policy) (packets_of : ℕ → List Packet) (file : ℕ) (packet : Packet) (other number index : ℕ)
    → (other ≡ file → frames_of policy number (packets_of file ++ packet ∷ []) ≡ frames_of policy number (packets_of file))
    → frame_at policy packets_of other number index ≡ frame_at policy (more_of packets_of file (packet ∷ [])) other number index
same_elsewhere policy packets_of file packet other number index stay = elim (eqb_tells other file) [
  | inl same ↦ ap (λ (f : ℕ). slice_get (frames_of policy number (packets_of f)) index) same.1
      ∙ ap (λ (fs : List Frame). slice_get fs index) (sym (stay same.1))
      ∙ ap (λ (ps : List Packet). slice_get (frames_of policy number ps) index) (sym (more_of-same packets_of file (packet ∷ [])) ∙ ap (more_of packets_of file (packet ∷ [])) (sym same.1))
  | inr ne ↦ ap (λ (ps : List Packet). slice_get (frames_of policy number ps) index) (sym (more_of-other packets_of file (packet ∷ []) other ne.1))
]

-- what is kept, where the frame stays as it was
kept_same : (o : Option (Option Frame)) (b : Bool) (x y : Option Frame) → o ≡ cond b (Some x) None → x ≡ y → o ≡ cond b (Some y) None
kept_same o b x y is same = is ∙ ap (λ (z : Option Frame). cond b (Some z) None) same

-- nothing that is shown changes where the frames of each interface stay
pub shows_same : (asked noted : Frames) (policy : Policy) (wanted : SightId → Bool) (packets_of : ℕ → List Packet) (file : ℕ) (packet : Packet)
    → ((number : ℕ) → number < 64 → frames_of policy number (packets_of file ++ packet ∷ []) ≡ frames_of policy number (packets_of file))
    → noted.found ≡ asked.found → Shows asked policy wanted packets_of → Shows noted policy wanted (more_of packets_of file (packet ∷ []))
shows_same asked noted policy wanted packets_of file packet stay found shows = λ other number index less small.
    kept_same (kept_for noted (sight_at other number index)) (wanted (sight_at other number index)) (frame_at policy packets_of other number index) _
    (rw found (shows other number index less small))
    (same_elsewhere policy packets_of file packet other number index (λ _. stay number less))

and_false : (b : Bool) → (b && false) ≡ false
and_false true = refl
and_false false = refl

differs_by_index : (a b : SightId) → a.index ≢ b.index → same_sight a b ≡ false
differs_by_index a b ne = rw (ne_eqb a.index b.index ne) (and_false (a.iface == b.iface))

differs_by_iface : (a b : SightId) → a.iface ≢ b.iface → same_sight a b ≡ false
differs_by_iface a b ne = rw (ne_eqb a.iface b.iface ne) refl

same_is : (a : SightId) → same_sight a a ≡ true
same_is a = rw (eq-eqb a.iface a.iface refl, eq-eqb a.index a.index refl) refl

-- what is kept for a sighting once a frame was noted for one
abbrev pub Notes : Frames → Frames → SightId → Frame → Type 0
Notes asked noted sight frame = (other : SightId) → kept_for noted other ≡ cond (same_sight other sight && is_some (kept_for asked sight)) (Some (Some frame)) (kept_for asked other)

pub notes_as : (mid asked noted : Frames) (sight : SightId) (frame : Frame) → mid.found ≡ asked.found → Notes mid noted sight frame → Notes asked noted sight frame
notes_as mid asked noted sight frame same notes = λ other.
    notes other ∙ ap (λ (f : SightMap (Option Frame)). cond (same_sight other sight && is_some (found f sight)) (Some (Some frame)) (found f other)) same

noted_other : (asked noted : Frames) (sight other : SightId) (frame : Frame) → Notes asked noted sight frame → same_sight other sight ≡ false → kept_for noted other ≡ kept_for asked other
noted_other asked noted sight other frame notes h = notes other ∙ ap (λ (b : Bool). cond (b && is_some (kept_for asked sight)) (Some (Some frame)) (kept_for asked other)) h

noted_here : (asked noted : Frames) (sight : SightId) (frame : Frame) → Notes asked noted sight frame → kept_for noted sight ≡ cond (is_some (kept_for asked sight)) (Some (Some frame)) (kept_for asked sight)
noted_here asked noted sight frame notes = notes sight ∙ ap (λ (b : Bool). cond (b && is_some (kept_for asked sight)) (Some (Some frame)) (kept_for asked sight)) (same_is sight)

here_case : (b : Bool) (x : Option Frame) (frame : Frame) → cond (is_some (cond b (Some x) None)) (Some (Some frame)) (cond b (Some x) None) ≡ cond b (Some (Some frame)) None
here_case true x frame = refl
here_case false x frame = refl

here_is : (o : Option (Option Frame)) (b : Bool) (x : Option Frame) (frame : Frame) → o ≡ cond b (Some x) None → cond (is_some o) (Some (Some frame)) o ≡ cond b (Some (Some frame)) None
here_is o b x frame is = ap (λ (k : Option (Option Frame)). cond (is_some k) (Some (Some frame)) k) is ∙ here_case b x frame

-- of the interface that has one frame more
here_shows : (asked noted : Frames) (policy : Policy) (wanted : SightId → Bool) (packets_of : ℕ → List Packet) (file : ℕ) (packet : Packet) (frame : Frame)
    → frame_if policy packet.iface (1 + length (packets_of file), packet) ≡ Some frame → packet.iface < 64
    → Notes asked noted (sight_at file packet.iface (length (frames_of policy packet.iface (packets_of file)))) frame
    → Shows asked policy wanted packets_of → (index : ℕ) → index < 2 ^ 32
    → kept_for noted (sight_at file packet.iface index) ≡ cond (wanted (sight_at file packet.iface index)) (Some (frame_at policy (more_of packets_of file (packet ∷ [])) file packet.iface index)) None
here_shows asked noted policy wanted packets_of file packet frame some within notes shows index small =
    let xs : List Frame = frames_of policy packet.iface (packets_of file) in
    let at : SightId = sight_at file packet.iface (length xs) in
    let now : SightId = sight_at file packet.iface index in
    let new : frames_of policy packet.iface (more_of packets_of file (packet ∷ []) file) ≡ xs ++ frame ∷ [] =
    ap (frames_of policy packet.iface) (more_of-same packets_of file (packet ∷ [])) ∙ frames_of-some policy packet.iface (packets_of file) packet frame some in
    let was : index ≢ length xs → kept_for noted now ≡ cond (wanted now) (Some (slice_get xs index)) None = λ ne.
    noted_other asked noted at now frame notes (differs_by_index now at ne) ∙ shows file packet.iface index within small in
    let told : kept_for noted now ≡ cond (wanted now) (Some (slice_get (xs ++ frame ∷ []) index)) None = elim (cases_lt index (length xs)) [
      | inl lt ↦ kept_same (kept_for noted now) (wanted now) (slice_get xs index) _ (was (λ e. omega (arith, lt, e))) (sym (push_before xs frame index lt))
      | inr ge ↦ elim (eqb_tells index (length xs)) [
        | inl same ↦ rw same.1 (kept_same (kept_for noted at) (wanted at) (Some frame) _
            (noted_here asked noted at frame notes ∙ here_is (kept_for asked at) (wanted at) (slice_get xs (length xs)) frame (shows file packet.iface (length xs) within (omega (arith, small, same.1))))
            (sym (push_at xs frame)))
        | inr ne ↦ kept_same (kept_for noted now) (wanted now) (slice_get xs index) _ (was ne.1) (slice_get_past xs index ge ∙ sym (push_past xs frame index (omega (arith, ge, ne.1))))
      ]
    ] in
    kept_same (kept_for noted now) (wanted now) (slice_get (xs ++ frame ∷ []) index) _ told (ap (λ (fs : List Frame). slice_get fs index) (sym new))

-- a frame that was noted for the sighting that has it
pub shows_noted : (asked noted : Frames) (policy : Policy) (wanted : SightId → Bool) (packets_of : ℕ → List Packet) (file : ℕ) (packet : Packet) (frame : Frame)
    → frame_if policy packet.iface (1 + length (packets_of file), packet) ≡ Some frame → packet.iface < 64
    → Notes asked noted (sight_at file packet.iface (length (frames_of policy packet.iface (packets_of file)))) frame
    → Shows asked policy wanted packets_of → Shows noted policy wanted (more_of packets_of file (packet ∷ []))
shows_noted asked noted policy wanted packets_of file packet frame some within notes shows = λ other number index less small.
    let at : SightId = sight_at file packet.iface (length (frames_of policy packet.iface (packets_of file))) in
    let now : SightId = sight_at other number index in
    let elsewhere : 64 * other + number ≢ 64 * file + packet.iface → (other ≡ file → packet.iface ≢ number)
    → kept_for noted now ≡ cond (wanted now) (Some (frame_at policy (more_of packets_of file (packet ∷ [])) other number index)) None = λ ne away.
    kept_same (kept_for noted now) (wanted now) (frame_at policy packets_of other number index) _
    (noted_other asked noted at now frame notes (differs_by_iface now at ne) ∙ shows other number index less small)
    (same_elsewhere policy packets_of file packet other number index (λ e. frames_of-none policy number (packets_of file) packet (frame_if-other policy number (1 + length (packets_of file)) packet (away e)))) in
    elim (eqb_tells other file) [
      | inl same ↦ elim (eqb_tells packet.iface number) [
        | inl here ↦ rw (same.1, sym here.1) (here_shows asked noted policy wanted packets_of file packet frame some within notes shows index small)
        | inr ne ↦ elsewhere (λ e. ne.1 (omega (arith, e, same.1))) (λ _. ne.1)
      ]
      | inr ne ↦ elsewhere (λ e. ne.1 (omega (arith, e, less, within))) (λ e. absurd (ne.1 e))
    ]

-- a frame past those that can be asked for
pub shows_past : (asked noted : Frames) (policy : Policy) (wanted : SightId → Bool) (packets_of : ℕ → List Packet) (file : ℕ) (packet : Packet) (frame : Frame)
    → frame_if policy packet.iface (1 + length (packets_of file), packet) ≡ Some frame
    → 2 ^ 32 ≤ length (frames_of policy packet.iface (packets_of file)) → noted.found ≡ asked.found
    → Shows asked policy wanted packets_of → Shows noted policy wanted (more_of packets_of file (packet ∷ []))
shows_past asked noted policy wanted packets_of file packet frame some far found shows = λ other number index less small.
    let now : SightId = sight_at other number index in
    let was : kept_for noted now ≡ cond (wanted now) (Some (frame_at policy packets_of other number index)) None = rw found (shows other number index less small) in
    let xs : List Frame = frames_of policy packet.iface (packets_of file) in
    let new : frames_of policy packet.iface (more_of packets_of file (packet ∷ []) file) ≡ xs ++ frame ∷ [] =
    ap (frames_of policy packet.iface) (more_of-same packets_of file (packet ∷ [])) ∙ frames_of-some policy packet.iface (packets_of file) packet frame some in
    let here : frame_at policy packets_of file packet.iface index ≡ frame_at policy (more_of packets_of file (packet ∷ [])) file packet.iface index =
    sym (push_before xs frame index (omega (arith, far, small))) ∙ ap (λ (fs : List Frame). slice_get fs index) (sym new) in
    kept_same (kept_for noted now) (wanted now) (frame_at policy packets_of other number index) _ was (elim (eqb_tells packet.iface number) [
      | inl same ↦ elim (eqb_tells other file) [
        | inl it ↦ rw (it.1, sym same.1) here
        | inr ne ↦ same_elsewhere policy packets_of file packet other number index (λ e. absurd (ne.1 e))
      ]
      | inr ne ↦ same_elsewhere policy packets_of file packet other number index (λ _. frames_of-none policy number (packets_of file) packet (frame_if-other policy number (1 + length (packets_of file)) packet ne.1))
    ])

pub none_of : (policy : Policy) (number index : ℕ) → slice_get (frames_of policy number []) index ≡ None
unfolding frames_of
none_of policy number index = refl

asked_case : (b a : Bool) (x : Option Frame) → x ≡ None → cond b (Some None) (cond a (Some x) None) ≡ cond (b || a) (Some x) None
asked_case true a x none = ap (λ (y : Option Frame). Some y) (sym none)
asked_case false a x none = refl

-- one more is asked for, before any packet is gone over
pub shows_asked : (old new : Frames) (policy : Policy) (wanted : SightId → Bool) (sight : SightId) → ((other : SightId) → kept_for new other ≡ cond (same_sight other sight) (Some None) (kept_for old other))
    → Shows old policy wanted (λ _. []) → Shows new policy (λ other. same_sight other sight || wanted other) (λ _. [])
shows_asked old new policy wanted sight asked shows = λ file number index less small.
    let at : SightId = sight_at file number index in
    asked at ∙ ap (λ (k : Option (Option Frame)). cond (same_sight at sight) (Some None) k) (shows file number index less small)
    ∙ asked_case (same_sight at sight) (wanted at) (slice_get (frames_of policy number []) index) (none_of policy number index)

-- what is kept, where it is kept
abbrev pub what_of : Option (Option Frame) → Option Frame
what_of None = None
what_of (Some x) = x

what_case : (b : Bool) (x : Option Frame) → what_of (cond b (Some x) None) ≡ cond b x None
what_case true x = refl
what_case false x = refl

-- what is kept for a sighting that was asked for is its frame
pub frame_is : (frames : Frames) (policy : Policy) (wanted : SightId → Bool) (packets_of : ℕ → List Packet) (sight : SightId) (file number : ℕ) → Shows frames policy wanted packets_of → number < 64 → sight.index < 2 ^ 32
    → sight.iface ≡ 64 * file + number → what_of (kept_for frames sight) ≡ cond (wanted sight) (slice_get (frames_of policy number (packets_of file)) sight.index) None
frame_is frames policy wanted packets_of sight file number shows less small at =
    let same : sight ≡ sight_at file number sight.index = ap (λ (iface : ℕ). let s : SightId = record { iface = iface; index = sight.index } in s) at in
    let there : kept_for frames sight ≡ cond (wanted sight) (Some (slice_get (frames_of policy number (packets_of file)) sight.index)) None =
    subst (λ (s : SightId). kept_for frames s ≡ cond (wanted s) (Some (slice_get (frames_of policy number (packets_of file)) sight.index)) None) (sym same) (shows file number sight.index less small) in
    ap what_of there ∙ what_case (wanted sight) (slice_get (frames_of policy number (packets_of file)) sight.index)

pub no_frames : (policy : Policy) (number : ℕ) → length (frames_of policy number []) ≡ 0
unfolding frames_of
no_frames policy number = refl

pub on_ok : {T E P : Type 0} (r : Result T E) → P → OnOk r P
on_ok (Ok x) p = p
on_ok (Err e) p = tt
