-- The lanes of a certificate with an extension are its turns.
use Rattle.std.proofs.Common.{◌≡◌, ◌≤◌, ◌<◌, ◌+◌, ℕ, true, false, cond, Option, Some, None, List, [], ◌∷◌, ◌++◌, All, length, map, refl, sym, ◌∙◌, ap, subst, arith, ◌==◌}
use Rattle.std.specs.List.{AllByRecursion, filter}
use Rattle.std.proofs.lemmas.List.Elements.{All-nil, All-cons, All-head, All-tail}
use Rattle.audit_model.specs.declared.address.Addr.{Addr}
use Rattle.audit_model.specs.declared.certificate.Certificate.{Certificate}
use Rattle.audit_model.specs.declared.certificate.CertLane.{CertLane}
use Rattle.audit_model.specs.declared.certificate.CertDrop.{CertDrop}
use Rattle.audit_model.specs.declared.event.Event.{Event}
use Rattle.audit_model.specs.declared.event.Event.TheVariants as events
use Rattle.audit_model.specs.declared.event.Key.{Key}
use Rattle.audit_model.specs.declared.extension.Extension.{Extension}
use Rattle.audit_model.specs.Event.{key_of}
use Rattle.audit_model.specs.declared.pair.Pair.{Pair}
use Rattle.audit_placement.specs.Entries.{entries_from, lane_entries, arrival_of}
use Rattle.audit_order.specs.Grown.{empty_lane, of_lane, with_events, Extends}
use Rattle.audit_server.specs.Rules.{Rules}
use Rattle.audit_server.specs.State.{at_first}
use Rattle.audit_server.specs.Step.{In, Act, Out}
use Rattle.audit_server.specs.Placed.{Placed}
use Rattle.audit_server.specs.Tenancies.{tenancies_in}
use Rattle.audit_server.specs.Whole.{all_tenancies}
use Rattle.audit_server.proofs.Orders.{all_append, all_left, all_right}
use Rattle.audit_server.proofs.Whole.{OnlyOf, acts_of_run}
use Rattle.audit_server.proofs.Sorting.{all_of_joined, all_joined}
use Rattle.audit_whole.specs.Glued.{move_of, placed_of, lanes_from, the_drops, by_lane, all_placed}
use Rattle.audit_whole.proofs.Listing.{joined_is}
use Rattle.audit_prefix.specs.Advance.{StandsBy, OfMoments}
use Rattle.audit_prefix.specs.Prefix.{EachGoes}
use Rattle.audit_prefix.specs.Turn.{Turn, whole, more_of, turns_from, turns_of}
use Rattle.audit_prefix.proofs.Continuing.{LaneTurns, befores, wholes}

-- ---- events after events

any_last : (pair : Option Pair) (n k : ℕ) (last other : Option Key) (es : List Event) → map placed_of (entries_from pair n k last es) ≡ map placed_of (entries_from pair n k other es)
any_last pair n k last other [] = refl
any_last pair n k last other (e ∷ es) = refl

pub cut_events : (pair : Option Pair) (n k m : ℕ) (last other : Option Key) (xs ys : List Event) → m ≡ k + length xs → map placed_of (entries_from pair n k last (xs ++ ys)) ≡ map placed_of (entries_from pair n k last xs) ++ map placed_of (entries_from pair n m other ys)
cut_events pair n k m last other [] ys h = any_last pair n k last other ys ∙ ap (λ (j : ℕ). map placed_of (entries_from pair n j other ys)) (omega (arith, h))
cut_events pair n k m last other (x ∷ xs) ys h = ap (λ ps. record { at = record { key = key_of x; lane = n; place = k }; move = move_of pair x } ∷ ps) (cut_events pair n (k + 1) m (Some (key_of x)) other xs ys (omega (arith, h)))

pub wholes_are : (n : ℕ) (lanes : List CertLane) (es : List (ℕ × Event)) → lanes_from n (with_events n lanes es) ≡ wholes (turns_from n lanes es)
wholes_are n [] es = refl
wholes_are n (lane ∷ lanes) es =
    ap (λ l. l ∷ lanes_from (n + 1) (with_events (n + 1) lanes es)) (cut_events (Some (record { client = lane.client; listen = lane.listen })) n 0 (length lane.events) None None lane.events (of_lane n es) (omega arith))
    ∙ ap (λ ls. whole (record { before = map placed_of (lane_entries n lane); more = more_of n lane es }) ∷ ls) (wholes_are (n + 1) lanes es)

new_lanes : (w : Rules) (n : ℕ) (pairs : List (Addr × Addr)) (es : List (ℕ × Event)) → all_tenancies w (befores (turns_from n (map empty_lane pairs) es)) ≡ []
new_lanes w n [] es = refl
new_lanes w n (pair ∷ pairs) es = new_lanes w (n + 1) pairs es

pub befores_are : (w : Rules) (n : ℕ) (lanes : List CertLane) (pairs : List (Addr × Addr)) (es : List (ℕ × Event)) → all_tenancies w (befores (turns_from n (lanes ++ map empty_lane pairs) es)) ≡ all_tenancies w (lanes_from n lanes)
befores_are w n [] pairs es = new_lanes w n pairs es
befores_are w n (lane ∷ lanes) pairs es = ap (λ ts. tenancies_in w (map placed_of (lane_entries n lane)) ++ ts) (befores_are w (n + 1) lanes pairs es)

-- ---- what the turns are

pub in_lane : (pair : Option Pair) (n k : ℕ) (last : Option Key) (es : List Event) → AllByRecursion (λ (e : Placed). e.at.lane ≡ n) (map placed_of (entries_from pair n k last es))
in_lane pair n k last [] = tt
in_lane pair n k last (e ∷ es) = (refl, in_lane pair n (k + 1) (Some (key_of e)) es)

pub only_of : (pair : Pair) (n k : ℕ) (last : Option Key) (es : List Event) → AllByRecursion (λ (e : Placed). OnlyOf pair e.move) (map placed_of (entries_from (Some pair) n k last es))
only_of pair n k last [] = tt
only_of pair n k last (e ∷ es) = (by_event e, only_of pair n (k + 1) (Some (key_of e)) es) where
  by_event : (d : Event) → OnlyOf pair (move_of (Some pair) d)
  by_event (events.In sight key) c s t h = absurd (let i : In sight ≡ Act c s t = h in cc)
  by_event (events.Act sight gives key) c s t h = let i : Act pair sight gives ≡ Act c s t = h in let j : pair ≡ c = cc in sym j
  by_event (events.Out sight key) c s t h = absurd (let i : Out sight ≡ Act c s t = h in cc)

of_moments : (P : ℕ → Type 0) (pair : Option Pair) (n k : ℕ) (last : Option Key) (es : List Event) → AllByRecursion (λ (e : Event). P (key_of e).moment) es → AllByRecursion (λ (e : Placed). P e.at.key.moment) (map placed_of (entries_from pair n k last es))
of_moments P pair n k last [] h = tt
of_moments P pair n k last (e ∷ es) h = (h.0, of_moments P pair n (k + 1) (Some (key_of e)) es h.1)

lane_moments : (P : ℕ → Type 0) (n : ℕ) (es : List (ℕ × Event)) → All (λ event. P (key_of event.1).moment) es → AllByRecursion (λ (e : Event). P (key_of e).moment) (of_lane n es)
lane_moments P n [] h = tt
lane_moments P n (e ∷ es) h = elim (e.0 == n) as (λ b. AllByRecursion (λ (d : Event). P (key_of d).moment) (map (λ (x : ℕ × Event). x.1) (cond b (e ∷ filter (λ (x : ℕ × Event). x.0 == n) es) (filter (λ (x : ℕ × Event). x.0 == n) es)))) [
  | true ↦ (All-head (λ event. P (key_of event.1).moment) e es h, lane_moments P n es (All-tail (λ event. P (key_of event.1).moment) e es h))
  | false ↦ lane_moments P n es (All-tail (λ event. P (key_of event.1).moment) e es h)
]

module _ (w : Rules) (horizon : ℕ) (es : List (ℕ × Event)) (past : All (λ event. horizon < (key_of event.1).moment) es) where
  lane_turns : (n : ℕ) (lanes : List CertLane) → AllByRecursion (AllByRecursion (λ (e : Placed). e.at.key.moment ≤ horizon)) (lanes_from n lanes) → EachGoes w (wholes (turns_from n lanes es)) → LaneTurns w horizon n (turns_from n lanes es)
  lane_turns n [] b r = tt
  lane_turns n (lane ∷ lanes) b r =
      let pair : Pair = record { client = lane.client; listen = lane.listen } in
      let turn : Turn = record { before = map placed_of (lane_entries n lane); more = more_of n lane es } in (
        record {
          of_lane = all_append (λ (e : Placed). e.at.lane ≡ n) turn.before turn.more (in_lane (Some pair) n 0 None lane.events) (in_lane (Some pair) n (length lane.events) None (of_lane n es));
          acts = acts_of_run w pair (whole turn) at_first (all_append (λ (e : Placed). OnlyOf pair e.move) turn.before turn.more (only_of pair n 0 None lane.events) (only_of pair n (length lane.events) None (of_lane n es))) r.0;
          past = record {
            before = b.0;
            more = of_moments (λ moment. horizon < moment) (Some pair) n (length lane.events) None (of_lane n es) (lane_moments (λ moment. horizon < moment) n es past);
          };
        },
        lane_turns (n + 1) lanes b.1 r.1,
      )

  empty_by : (n : ℕ) (pairs : List (Addr × Addr)) → AllByRecursion (AllByRecursion (λ (e : Placed). e.at.key.moment ≤ horizon)) (lanes_from n (map empty_lane pairs))
  empty_by n [] = tt
  empty_by n (pair ∷ pairs) = (tt, empty_by (n + 1) pairs)

  with_empty : (n : ℕ) (lanes : List CertLane) (pairs : List (Addr × Addr)) → AllByRecursion (AllByRecursion (λ (e : Placed). e.at.key.moment ≤ horizon)) (lanes_from n lanes) → AllByRecursion (AllByRecursion (λ (e : Placed). e.at.key.moment ≤ horizon)) (lanes_from n (lanes ++ map empty_lane pairs))
  with_empty n [] pairs h = empty_by n pairs
  with_empty n (lane ∷ lanes) pairs h = (h.0, with_empty (n + 1) lanes pairs h.1)

pub lanes_by : (P : Placed → Type 0) (certificate : Certificate) → AllByRecursion P (all_placed certificate) → AllByRecursion (AllByRecursion P) (lanes_from 0 certificate.lanes) × AllByRecursion P (the_drops certificate)
lanes_by P certificate h =
    let k : AllByRecursion (AllByRecursion P) (by_lane certificate) = all_of_joined P (by_lane certificate) (subst (AllByRecursion P) (sym (joined_is certificate)) h) in
    (all_left (AllByRecursion P) (lanes_from 0 certificate.lanes) (the_drops certificate ∷ []) k, (all_right (AllByRecursion P) (lanes_from 0 certificate.lanes) (the_drops certificate ∷ []) k).0)

pub by_lanes : (P : Placed → Type 0) (certificate : Certificate) → AllByRecursion (AllByRecursion P) (lanes_from 0 certificate.lanes) → AllByRecursion P (the_drops certificate) → AllByRecursion P (all_placed certificate)
by_lanes P certificate h k = subst (AllByRecursion P) (joined_is certificate) (all_joined P (by_lane certificate) (all_append (AllByRecursion P) (lanes_from 0 certificate.lanes) (the_drops certificate ∷ []) h (k, tt)))

module _ (old : Certificate) (extension : Extension) (new : Certificate) (extends : Extends old extension new) where
  pub new_lanes_are : lanes_from 0 new.lanes ≡ wholes (turns_of old extension)
  new_lanes_are = ap (lanes_from 0) extends.lanes ∙ wholes_are 0 (old.lanes ++ map empty_lane extension.lanes) extension.events

  pub turns_come : (w : Rules) (horizon : ℕ) → StandsBy horizon old → OfMoments (λ moment. horizon < moment) extension → EachGoes w (lanes_from 0 new.lanes) → LaneTurns w horizon 0 (turns_of old extension)
  turns_come w horizon by past goes =
      lane_turns w horizon extension.events past.0 0 (old.lanes ++ map empty_lane extension.lanes)
      (with_empty w horizon extension.events past.0 0 old.lanes extension.lanes (lanes_by (λ (e : Placed). e.at.key.moment ≤ horizon) old by).0)
      (subst (EachGoes w) new_lanes_are goes)

  -- and all of it stands at the new horizon
  pub stands_by : (horizon : ℕ) → StandsBy horizon old → OfMoments (λ moment. moment ≤ horizon) extension → StandsBy horizon new
  stands_by horizon by come =
      let P : Placed → Type 0 = λ (e : Placed). e.at.key.moment ≤ horizon in
      let parts = lanes_by P old by in
      by_lanes P new
      (subst (AllByRecursion (AllByRecursion P)) (sym new_lanes_are) (turns_by 0 (old.lanes ++ map empty_lane extension.lanes) (with_empty' 0 old.lanes extension.lanes parts.0)))
      (drops_by parts.1) where
        turns_by : (n : ℕ) (lanes : List CertLane) → AllByRecursion (AllByRecursion (λ (e : Placed). e.at.key.moment ≤ horizon)) (lanes_from n lanes) → AllByRecursion (AllByRecursion (λ (e : Placed). e.at.key.moment ≤ horizon)) (wholes (turns_from n lanes extension.events))
        turns_by n [] b = tt
        turns_by n (lane ∷ lanes) b = (
          all_append (λ (e : Placed). e.at.key.moment ≤ horizon) (map placed_of (lane_entries n lane)) (more_of n lane extension.events) b.0
              (of_moments (λ moment. moment ≤ horizon) (Some (record { client = lane.client; listen = lane.listen })) n (length lane.events) None (of_lane n extension.events) (lane_moments (λ moment. moment ≤ horizon) n extension.events come.0)),
          turns_by (n + 1) lanes b.1,
        )

        with_empty' : (n : ℕ) (lanes : List CertLane) (pairs : List (Addr × Addr)) → AllByRecursion (AllByRecursion (λ (e : Placed). e.at.key.moment ≤ horizon)) (lanes_from n lanes) → AllByRecursion (AllByRecursion (λ (e : Placed). e.at.key.moment ≤ horizon)) (lanes_from n (lanes ++ map empty_lane pairs))
        with_empty' n [] pairs h = empty_by' n pairs where
          empty_by' : (m : ℕ) (ps : List (Addr × Addr)) → AllByRecursion (AllByRecursion (λ (e : Placed). e.at.key.moment ≤ horizon)) (lanes_from m (map empty_lane ps))
          empty_by' m [] = tt
          empty_by' m (pair ∷ ps) = (tt, empty_by' (m + 1) ps)
        with_empty' n (lane ∷ lanes) pairs h = (h.0, with_empty' (n + 1) lanes pairs h.1)

        drop_moments : (n k : ℕ) (last : Option Key) (ds : List CertDrop) → All (λ dropped. dropped.key.moment ≤ horizon) ds → AllByRecursion (λ (e : Placed). e.at.key.moment ≤ horizon) (map placed_of (entries_from None n k last (map arrival_of ds)))
        drop_moments n k last [] h = tt
        drop_moments n k last (d ∷ ds) h = (All-head (λ dropped. dropped.key.moment ≤ horizon) d ds h, drop_moments n (k + 1) (Some d.key) ds (All-tail (λ dropped. dropped.key.moment ≤ horizon) d ds h))

        moments_drop : (n k : ℕ) (last : Option Key) (ds : List CertDrop) → AllByRecursion (λ (e : Placed). e.at.key.moment ≤ horizon) (map placed_of (entries_from None n k last (map arrival_of ds))) → All (λ dropped. dropped.key.moment ≤ horizon) ds
        moments_drop n k last [] h = All-nil (λ (dropped : CertDrop). dropped.key.moment ≤ horizon)
        moments_drop n k last (d ∷ ds) h = All-cons (λ dropped. dropped.key.moment ≤ horizon) d ds h.0 (moments_drop n (k + 1) (Some d.key) ds h.1)

        both : (xs ys : List CertDrop) → All (λ dropped. dropped.key.moment ≤ horizon) xs → All (λ dropped. dropped.key.moment ≤ horizon) ys → All (λ dropped. dropped.key.moment ≤ horizon) (xs ++ ys)
        both [] ys h k = k
        both (x ∷ xs) ys h k = All-cons (λ dropped. dropped.key.moment ≤ horizon) x (xs ++ ys) (All-head (λ dropped. dropped.key.moment ≤ horizon) x xs h) (both xs ys (All-tail (λ dropped. dropped.key.moment ≤ horizon) x xs h) k)

        drops_by : AllByRecursion (λ (e : Placed). e.at.key.moment ≤ horizon) (the_drops old) → AllByRecursion (λ (e : Placed). e.at.key.moment ≤ horizon) (the_drops new)
        drops_by h = drop_moments (length new.lanes) 0 None new.drops (subst (λ (ds : List CertDrop). All (λ dropped. dropped.key.moment ≤ horizon) ds) (sym extends.drops) (both old.drops extension.drops (moments_drop (length old.lanes) 0 None old.drops h) come.1))
