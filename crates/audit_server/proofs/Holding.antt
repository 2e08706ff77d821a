-- Where a tenancy holds an address by its final end, the allocation is usable there, and the other way round.
use Rattle.std.proofs.Common.{◌≡◌, ◌≤◌, ◌⊎◌, ◌↔◌, inl, inr, ℕ, Option, Some, None, List, [], ◌∷◌, ◌++◌, refl, sym, ◌∙◌, subst, arith}
use Rattle.std.specs.List.{AllByRecursion}
use Rattle.std.specs.declared.cmp.Ordering.TheVariants.{Less}
use Rattle.audit_model.specs.declared.address.Addr.{Addr}
use Rattle.audit_model.specs.declared.event.At.{At}
use Rattle.audit_model.specs.declared.event.Key.{Key}
use Rattle.std.specs.Prelude.{IfSome, option_to_list}
use Rattle.audit_model.specs.declared.sighting.SightId.{SightId}
use Rattle.audit_model.specs.declared.verdict.Tenancy.{Tenancy}
use Rattle.audit_model.specs.Clash.{Precedes, act_cmp}
use Rattle.audit_model.specs.Window.{later}
use Rattle.audit_rules.specs.Allocation.{Allocation, Change, Same, Makes, Renews, Grants, Binds, Removes, applied}
use Rattle.audit_rules.specs.Tenancies.{running_after, ended_by}
use Rattle.audit_server.specs.Holding.{HoldsAt, AnyOf}
use Rattle.audit_server.specs.Lawful.{IsUsableAt, AreLawful}
use Rattle.audit_server.specs.Placed.{at_cmp, Placed}
use Rattle.audit_server.specs.Rules.{Rules}
use Rattle.audit_server.specs.Run.{HasAddress}
use Rattle.audit_server.specs.State.{acted}
use Rattle.audit_server.specs.Step.{Move, In, Act, Out}
use Rattle.audit_server.specs.Tenancies.{running, ended, tenancies_from}
use Rattle.audit_server.proofs.Orders.{moment_le, at_asym}

pub any_append : {A : Type 0} (P : A → Type 0) (xs ys : List A) → AnyOf P (xs ++ ys) → AnyOf P xs ⊎ AnyOf P ys
any_append P [] ys h = inr h
any_append P (x ∷ xs) ys (inl h) = inl (inl h)
any_append P (x ∷ xs) ys (inr h) = elim (any_append P xs ys h) [ inl k ↦ inl (inr k) | inr k ↦ inr k ]

pub any_left : {A : Type 0} (P : A → Type 0) (xs ys : List A) → AnyOf P xs → AnyOf P (xs ++ ys)
any_left P [] ys h = absurd h
any_left P (x ∷ xs) ys (inl h) = inl h
any_left P (x ∷ xs) ys (inr h) = inr (any_left P xs ys h)

pub any_right : {A : Type 0} (P : A → Type 0) (xs ys : List A) → AnyOf P ys → AnyOf P (xs ++ ys)
any_right P [] ys h = h
any_right P (x ∷ xs) ys h = inr (any_right P xs ys h)

-- each act of the lane may come, by the lane's allocation
abbrev pub MayAct : Rules → ℕ → Move → Option Allocation → Type 0
MayAct w moment (In s) x = Unit {0}
MayAct w moment (Act c s t) x = w.MayAnswer c s t moment x
MayAct w moment (Out t) x = Unit {0}

abbrev pub ActsFrom : Rules → Option Allocation → List Placed → Type 0
ActsFrom w x [] = Unit {0}
ActsFrom w x (e ∷ es) = MayAct w e.at.key.moment e.move x × ActsFrom w (acted w e.at.key.moment e.move x) es

-- the tenancy that runs is that of the allocation, born in the lane
pub record IsOf (grace lane : ℕ) (a : Allocation) (t : Tenancy) : Type 0 where
  pub same : t.relayed ≡ a.relayed
  pub last : t.last ≡ later a.until grace
  pub open' : t.stopped ≡ None
  pub lane' : t.born.lane ≡ lane

abbrev pub Sits : ℕ → ℕ → Option Allocation → Option Tenancy → Type 0
Sits grace lane None None = Unit {0}
Sits grace lane None (Some t) = ⊥
Sits grace lane (Some a) None = ⊥
Sits grace lane (Some a) (Some t) = IsOf grace lane a t

sits_after : (grace lane : ℕ) (at : At) (s : SightId) (ch : Change) (x : Option Allocation) (ten : Option Tenancy) → at.lane ≡ lane → Sits grace lane x ten → Sits grace lane (applied ch x) (running_after grace at s ch ten)
sits_after grace lane at s Same x ten l h = h
sits_after grace lane at s (Makes made) x ten l h = record { same = refl; last = refl; open' = refl; lane' = l }
sits_after grace lane at s (Renews until) None None l h = tt
sits_after grace lane at s (Renews until) None (Some t) l h = h
sits_after grace lane at s (Renews until) (Some a) None l h = h
sits_after grace lane at s (Renews until) (Some a) (Some t) l h = record { same = h.same; last = refl; open' = h.open'; lane' = h.lane' }
sits_after grace lane at s (Grants ips until) None ten l h = h
sits_after grace lane at s (Grants ips until) (Some a) None l h = h
sits_after grace lane at s (Grants ips until) (Some a) (Some t) l h = record { same = h.same; last = h.last; open' = h.open'; lane' = h.lane' }
sits_after grace lane at s (Binds number peer until permitted) None ten l h = h
sits_after grace lane at s (Binds number peer until permitted) (Some a) None l h = h
sits_after grace lane at s (Binds number peer until permitted) (Some a) (Some t) l h = record { same = h.same; last = h.last; open' = h.open'; lane' = h.lane' }
sits_after grace lane at s Removes x ten l h = tt

pub sits_move : (w : Rules) (lane : ℕ) (at : At) (move : Move) (x : Option Allocation) (ten : Option Tenancy) → at.lane ≡ lane → Sits w.grace lane x ten → Sits w.grace lane (acted w at.key.moment move x) (running w at move x ten)
sits_move w lane at (In s) x ten l h = h
sits_move w lane at (Act c s t) x ten l h = sits_after w.grace lane at s (w.change c s t at.key.moment x) x ten l h
sits_move w lane at (Out t) x ten l h = h

abbrev pub acted_all : Rules → Option Allocation → List Placed → Option Allocation
acted_all w x [] = x
acted_all w x (e ∷ es) = acted_all w (acted w e.at.key.moment e.move x) es

abbrev pub running_all : Rules → Option Allocation → Option Tenancy → List Placed → Option Tenancy
running_all w x ten [] = ten
running_all w x ten (e ∷ es) = running_all w (acted w e.at.key.moment e.move x) (running w e.at e.move x ten) es

abbrev pub InLane : ℕ → List Placed → Type 0
InLane lane es = AllByRecursion (λ (e : Placed). e.at.lane ≡ lane) es

pub sits_all : (w : Rules) (lane : ℕ) (es : List Placed) (x : Option Allocation) (ten : Option Tenancy) → InLane lane es → Sits w.grace lane x ten → Sits w.grace lane (acted_all w x es) (running_all w x ten es)
sits_all w lane [] x ten l h = h
sits_all w lane (e ∷ es) x ten l h = sits_all w lane es (acted w e.at.key.moment e.move x) (running w e.at e.move x ten) l.1 (sits_move w lane e.at e.move x ten l.0 h)

-- by its tenancy the allocation has the address
abbrev pub HasTenancy : ℕ → Addr → Option Tenancy → Type 0
HasTenancy moment relayed None = ⊥
HasTenancy moment relayed (Some t) = (t.relayed ≡ relayed) × (moment ≤ t.last)

pub tenancy_of : (grace lane moment : ℕ) (relayed : Addr) (x : Option Allocation) (ten : Option Tenancy) → Sits grace lane x ten → HasAddress grace moment relayed x → HasTenancy moment relayed ten
tenancy_of grace lane moment relayed None ten s h = absurd h
tenancy_of grace lane moment relayed (Some a) None s h = s
tenancy_of grace lane moment relayed (Some a) (Some t) s h = (s.same ∙ h.0, subst (λ (n : ℕ). moment ≤ n) (sym s.last) h.1)

pub address_of : (grace lane moment : ℕ) (relayed : Addr) (x : Option Allocation) (ten : Option Tenancy) → Sits grace lane x ten → HasTenancy moment relayed ten → HasAddress grace moment relayed x
address_of grace lane moment relayed x None s h = absurd h
address_of grace lane moment relayed None (Some t) s h = s
address_of grace lane moment relayed (Some a) (Some t) s h = (sym s.same ∙ h.0, subst (λ (n : ℕ). moment ≤ n) s.last h.1)

abbrev pub BornBefore : At → Option Tenancy → Type 0
BornBefore at None = Unit {0}
BornBefore at (Some t) = at_cmp t.born at ≡ Less

abbrev pub BornAfter : At → Option Tenancy → Type 0
BornAfter at None = Unit {0}
BornAfter at (Some t) = at_cmp at t.born ≡ Less

pub acts_drop : (w : Rules) (p q : List Placed) (x : Option Allocation) → ActsFrom w x (p ++ q) → ActsFrom w (acted_all w x p) q
acts_drop w [] q x h = h
acts_drop w (e ∷ p) q x h = acts_drop w p q (acted w e.at.key.moment e.move x) h.1

module _ (w : Rules) (law : AreLawful w) (lane : ℕ) (at : At) (relayed : Addr) where
  abbrev Holding : List Tenancy → Type 0
  Holding ts = AnyOf (HoldsAt at relayed) ts

  -- by cases on what a step changes
  before_after : (ch : Change) (here : At) (s : SightId) (ten : Option Tenancy) → at_cmp here at ≡ Less → BornBefore at ten → BornBefore at (running_after w.grace here s ch ten)
  before_after Same here s ten l b = b
  before_after (Makes made) here s ten l b = l
  before_after (Renews until) here s None l b = tt
  before_after (Renews until) here s (Some t) l b = b
  before_after (Grants ips until) here s ten l b = b
  before_after (Binds number peer until permitted) here s ten l b = b
  before_after Removes here s ten l b = tt

  before_move : (move : Move) (here : At) (x : Option Allocation) (ten : Option Tenancy) → at_cmp here at ≡ Less → BornBefore at ten → BornBefore at (running w here move x ten)
  before_move (In s) here x ten l b = b
  before_move (Act c s t) here x ten l b = before_after (w.change c s t here.key.moment x) here s ten l b
  before_move (Out t) here x ten l b = b

  later_after : (ch : Change) (here : At) (s : SightId) (ten : Option Tenancy) → at_cmp at here ≡ Less → BornAfter at ten → BornAfter at (running_after w.grace here s ch ten)
  later_after Same here s ten l b = b
  later_after (Makes made) here s ten l b = l
  later_after (Renews until) here s None l b = tt
  later_after (Renews until) here s (Some t) l b = b
  later_after (Grants ips until) here s ten l b = b
  later_after (Binds number peer until permitted) here s ten l b = b
  later_after Removes here s ten l b = tt

  later_move : (move : Move) (here : At) (x : Option Allocation) (ten : Option Tenancy) → at_cmp at here ≡ Less → BornAfter at ten → BornAfter at (running w here move x ten)
  later_move (In s) here x ten l b = b
  later_move (Act c s t) here x ten l b = later_after (w.change c s t here.key.moment x) here s ten l b
  later_move (Out t) here x ten l b = b

  -- what was stopped before holds nothing
  stop_is : (here : At) (born : ℕ) → born ≡ here.lane → at_cmp here at ≡ Less → Precedes here.key born at.key at.lane
  stop_is here born e l = subst (λ (n : ℕ). act_cmp here.key n at.key at.lane ≡ Less) (sym e) l

  stopped_before : (here : At) (x : Option Allocation) (ten : Option Tenancy) → here.lane ≡ lane → Sits w.grace lane x ten → at_cmp here at ≡ Less → Holding (option_to_list (ended_by here.key Removes ten)) → ⊥
  stopped_before here x None e s l h = h
  stopped_before here None (Some t) e s l h = s
  stopped_before here (Some a) (Some t) e s l (inl h) = h.still.1 (stop_is here t.born.lane (s.lane' ∙ sym e) l)
  stopped_before here (Some a) (Some t) e s l (inr h) = h

  ended_before : (ch : Change) (here : At) (x : Option Allocation) (ten : Option Tenancy) → here.lane ≡ lane → Sits w.grace lane x ten → at_cmp here at ≡ Less → Holding (option_to_list (ended_by here.key ch ten)) → ⊥
  ended_before Same here x ten e s l h = h
  ended_before (Makes made) here x ten e s l h = stopped_before here x ten e s l h
  ended_before (Renews until) here x ten e s l h = h
  ended_before (Grants ips until) here x ten e s l h = h
  ended_before (Binds number peer until permitted) here x ten e s l h = h
  ended_before Removes here x ten e s l h = stopped_before here x ten e s l h

  moved_before : (move : Move) (here : At) (x : Option Allocation) (ten : Option Tenancy) → here.lane ≡ lane → Sits w.grace lane x ten → at_cmp here at ≡ Less → Holding (option_to_list (ended w here move x ten)) → ⊥
  moved_before (In s) here x ten e i l h = h
  moved_before (Act c s t) here x ten e i l h = ended_before (w.change c s t here.key.moment x) here x ten e i l h
  moved_before (Out t) here x ten e i l h = h

  -- what is born after holds nothing
  none_of : (ten : Option Tenancy) → BornAfter at ten → Holding (option_to_list ten) → ⊥
  none_of None b h = h
  none_of (Some t) b (inl h) = at_asym at t.born b h.born
  none_of (Some t) b (inr h) = h

  none_stopped : (here : At) (ten : Option Tenancy) → BornAfter at ten → Holding (option_to_list (ended_by here.key Removes ten)) → ⊥
  none_stopped here None b h = h
  none_stopped here (Some t) b (inl h) = at_asym at t.born b h.born
  none_stopped here (Some t) b (inr h) = h

  ended_after : (ch : Change) (here : At) (ten : Option Tenancy) → BornAfter at ten → Holding (option_to_list (ended_by here.key ch ten)) → ⊥
  ended_after Same here ten b h = h
  ended_after (Makes made) here ten b h = none_stopped here ten b h
  ended_after (Renews until) here ten b h = h
  ended_after (Grants ips until) here ten b h = h
  ended_after (Binds number peer until permitted) here ten b h = h
  ended_after Removes here ten b h = none_stopped here ten b h

  moved_after : (move : Move) (here : At) (x : Option Allocation) (ten : Option Tenancy) → BornAfter at ten → Holding (option_to_list (ended w here move x ten)) → ⊥
  moved_after (In s) here x ten b h = h
  moved_after (Act c s t) here x ten b h = ended_after (w.change c s t here.key.moment x) here ten b h
  moved_after (Out t) here x ten b h = h

  none_later : (q : List Placed) (x : Option Allocation) (ten : Option Tenancy) → AllByRecursion (λ (d : Placed). at_cmp at d.at ≡ Less) q → BornAfter at ten → Holding (tenancies_from w x ten q) → ⊥
  none_later [] x ten a b h = none_of ten b h
  none_later (e ∷ q) x ten a b h =
      elim (any_append (HoldsAt at relayed) (option_to_list (ended w e.at e.move x ten)) (tenancies_from w (acted w e.at.key.moment e.move x) (running w e.at e.move x ten) q) h) [
        | inl k ↦ moved_after e.move e.at x ten b k
        | inr k ↦ none_later q (acted w e.at.key.moment e.move x) (running w e.at e.move x ten) a.1 (later_move e.move e.at x ten a.0 b) k
      ]

  -- a usable allocation is ended later, and its tenancy holds; or it is still usable
  usable_ended : (here : At) (x : Option Allocation) (ten : Option Tenancy) → here.lane ≡ lane → Sits w.grace lane x ten → at_cmp at here ≡ Less → BornBefore at ten → HasTenancy at.key.moment relayed ten → Holding (option_to_list (ended_by here.key Removes ten))
  usable_ended here x None e s l b h = h
  usable_ended here None (Some t) e s l b h = absurd s
  usable_ended here (Some a) (Some t) e s l b h = inl (record {
    same = h.0;
    born = b;
    still = (h.1, λ k. at_asym at here l (subst (λ (n : ℕ). act_cmp here.key n at.key at.lane ≡ Less) (s.lane' ∙ sym e) k));
  })

  change_on : (ch : Change) (here : At) (s : SightId) (x : Option Allocation) (ten : Option Tenancy) → here.lane ≡ lane → Sits w.grace lane x ten → ((until : ℕ) → ch ≡ Renews until → (time : ℕ) × (until ≡ later here.key.moment time)) →
      at_cmp at here ≡ Less → BornBefore at ten → HasTenancy at.key.moment relayed ten →
      Holding (option_to_list (ended_by here.key ch ten)) ⊎ (HasTenancy at.key.moment relayed (running_after w.grace here s ch ten) × BornBefore at (running_after w.grace here s ch ten))
  change_on Same here s x ten e i f l b h = inr (h, b)
  change_on (Makes made) here s x ten e i f l b h = inl (usable_ended here x ten e i l b h)
  change_on (Renews until) here s x None e i f l b h = absurd h
  change_on (Renews until) here s None (Some t) e i f l b h = absurd i
  change_on (Renews until) here s (Some a) (Some t) e i f l b h =
      let m : at.key.moment ≤ here.key.moment = moment_le at here l in
      let k = f until refl in
      let u : until ≡ later here.key.moment k.0 = k.1 in
      let top : at.key.moment ≤ later a.until w.grace = subst (λ (n : ℕ). at.key.moment ≤ n) i.last h.1 in
      inr ((h.0, omega arith), b)
  change_on (Grants ips until) here s x ten e i f l b h = inr (h, b)
  change_on (Binds number peer until permitted) here s x ten e i f l b h = inr (h, b)
  change_on Removes here s x ten e i f l b h = inl (usable_ended here x ten e i l b h)

  moved_on : (move : Move) (here : At) (x : Option Allocation) (ten : Option Tenancy) → here.lane ≡ lane → Sits w.grace lane x ten → at_cmp at here ≡ Less → BornBefore at ten → HasTenancy at.key.moment relayed ten →
      Holding (option_to_list (ended w here move x ten)) ⊎ (HasTenancy at.key.moment relayed (running w here move x ten) × BornBefore at (running w here move x ten))
  moved_on (In s) here x ten e i l b h = inr (h, b)
  moved_on (Act c s t) here x ten e i l b h = change_on (w.change c s t here.key.moment x) here s x ten e i (λ until k. law.onward c s t here.key.moment until x k) l b h
  moved_on (Out t) here x ten e i l b h = inr (h, b)

  holds_running : (ten : Option Tenancy) (x : Option Allocation) → Sits w.grace lane x ten → BornBefore at ten → HasTenancy at.key.moment relayed ten → Holding (option_to_list ten)
  holds_running None x i b h = h
  holds_running (Some t) None i b h = absurd i
  holds_running (Some t) (Some a) i b h = inl (record { same = h.0; born = b; still = (h.1, subst (λ (o : Option Key). IfSome o (λ stop. ¬ Precedes stop t.born.lane at.key at.lane)) (sym i.open') tt) })

  pub holds_later : (q : List Placed) (x : Option Allocation) (ten : Option Tenancy) → InLane lane q → Sits w.grace lane x ten → AllByRecursion (λ (d : Placed). at_cmp at d.at ≡ Less) q → BornBefore at ten → HasTenancy at.key.moment relayed ten → Holding (tenancies_from w x ten q)
  holds_later [] x ten n i a b h = holds_running ten x i b h
  holds_later (e ∷ q) x ten n i a b h =
      elim (moved_on e.move e.at x ten n.0 i a.0 b h) [
        | inl k ↦ any_left (HoldsAt at relayed) (option_to_list (ended w e.at e.move x ten)) (tenancies_from w (acted w e.at.key.moment e.move x) (running w e.at e.move x ten) q) k
        | inr k ↦ any_right (HoldsAt at relayed) (option_to_list (ended w e.at e.move x ten)) (tenancies_from w (acted w e.at.key.moment e.move x) (running w e.at e.move x ten) q)
            (holds_later q (acted w e.at.key.moment e.move x) (running w e.at e.move x ten) n.1 (sits_move w lane e.at e.move x ten n.0 i) a.1 k.1 k.0)
      ]

  -- and back
  running_had : (ten : Option Tenancy) → Holding (option_to_list ten) → HasTenancy at.key.moment relayed ten
  running_had None h = h
  running_had (Some t) (inl h) = (h.same, h.still.0)
  running_had (Some t) (inr h) = absurd h

  stopped_had : (here : At) (ten : Option Tenancy) → Holding (option_to_list (ended_by here.key Removes ten)) → HasTenancy at.key.moment relayed ten
  stopped_had here None h = h
  stopped_had here (Some t) (inl h) = (h.same, h.still.0)
  stopped_had here (Some t) (inr h) = absurd h

  ended_had : (ch : Change) (here : At) (ten : Option Tenancy) → Holding (option_to_list (ended_by here.key ch ten)) → HasTenancy at.key.moment relayed ten
  ended_had Same here ten h = absurd h
  ended_had (Makes made) here ten h = stopped_had here ten h
  ended_had (Renews until) here ten h = absurd h
  ended_had (Grants ips until) here ten h = absurd h
  ended_had (Binds number peer until permitted) here ten h = absurd h
  ended_had Removes here ten h = stopped_had here ten h

  moved_had : (move : Move) (here : At) (x : Option Allocation) (ten : Option Tenancy) → Holding (option_to_list (ended w here move x ten)) → HasTenancy at.key.moment relayed ten
  moved_had (In s) here x ten h = absurd h
  moved_had (Act c s t) here x ten h = ended_had (w.change c s t here.key.moment x) here ten h
  moved_had (Out t) here x ten h = absurd h

  -- what is usable after a later step was so before it, unless it is new
  change_back : (ch : Change) (here : At) (s : SightId) (x : Option Allocation) (ten : Option Tenancy) → Sits w.grace lane x ten → at_cmp at here ≡ Less → ((until : ℕ) → ch ≡ Renews until → IsUsableAt w.grace here.key.moment x) →
      (HasTenancy at.key.moment relayed (running_after w.grace here s ch ten) → HasTenancy at.key.moment relayed ten) ⊎ BornAfter at (running_after w.grace here s ch ten)
  change_back Same here s x ten i l f = inl (λ h. h)
  change_back (Makes made) here s x ten i l f = inr l
  change_back (Renews until) here s x None i l f = inl (λ h. h)
  change_back (Renews until) here s None (Some t) i l f = absurd i
  change_back (Renews until) here s (Some a) (Some t) i l f =
      let m : at.key.moment ≤ here.key.moment = moment_le at here l in
      let u : here.key.moment ≤ later a.until w.grace = f until refl in
      inl (λ h. (h.0, subst (λ (n : ℕ). at.key.moment ≤ n) (sym i.last) (omega arith)))
  change_back (Grants ips until) here s x ten i l f = inl (λ h. h)
  change_back (Binds number peer until permitted) here s x ten i l f = inl (λ h. h)
  change_back Removes here s x ten i l f = inr tt

  moved_back : (move : Move) (here : At) (x : Option Allocation) (ten : Option Tenancy) → Sits w.grace lane x ten → at_cmp at here ≡ Less → MayAct w here.key.moment move x →
      (HasTenancy at.key.moment relayed (running w here move x ten) → HasTenancy at.key.moment relayed ten) ⊎ BornAfter at (running w here move x ten)
  moved_back (In s) here x ten i l may = inl (λ h. h)
  moved_back (Act c s t) here x ten i l may = change_back (w.change c s t here.key.moment x) here s x ten i l (λ until k. law.usable c s t here.key.moment until x may k)
  moved_back (Out t) here x ten i l may = inl (λ h. h)

  pub held_later : (q : List Placed) (x : Option Allocation) (ten : Option Tenancy) → InLane lane q → Sits w.grace lane x ten → AllByRecursion (λ (d : Placed). at_cmp at d.at ≡ Less) q → ActsFrom w x q → Holding (tenancies_from w x ten q) → HasTenancy at.key.moment relayed ten
  held_later [] x ten n i a acts h = running_had ten h
  held_later (e ∷ q) x ten n i a acts h =
      elim (any_append (HoldsAt at relayed) (option_to_list (ended w e.at e.move x ten)) (tenancies_from w (acted w e.at.key.moment e.move x) (running w e.at e.move x ten) q) h) [
        | inl k ↦ moved_had e.move e.at x ten k
        | inr k ↦ elim (moved_back e.move e.at x ten i a.0 acts.0) [
          | inl f ↦ f (held_later q (acted w e.at.key.moment e.move x) (running w e.at e.move x ten) n.1 (sits_move w lane e.at e.move x ten n.0 i) a.1 acts.1 k)
          | inr b ↦ absurd (none_later q (acted w e.at.key.moment e.move x) (running w e.at e.move x ten) a.1 b k)
        ]
      ]

  -- what ended before holds nothing, so the steps before may be taken for what they lead to
  pub before_drop : (p q : List Placed) (x : Option Allocation) (ten : Option Tenancy) → InLane lane p → Sits w.grace lane x ten → AllByRecursion (λ (d : Placed). at_cmp d.at at ≡ Less) p → BornBefore at ten →
      Holding (tenancies_from w x ten (p ++ q)) → Holding (tenancies_from w (acted_all w x p) (running_all w x ten p) q)
  before_drop [] q x ten n i a b h = h
  before_drop (e ∷ p) q x ten n i a b h =
      elim (any_append (HoldsAt at relayed) (option_to_list (ended w e.at e.move x ten)) (tenancies_from w (acted w e.at.key.moment e.move x) (running w e.at e.move x ten) (p ++ q)) h) [
        | inl k ↦ absurd (moved_before e.move e.at x ten n.0 i a.0 k)
        | inr k ↦ before_drop p q (acted w e.at.key.moment e.move x) (running w e.at e.move x ten) n.1 (sits_move w lane e.at e.move x ten n.0 i) a.1 (before_move e.move e.at x ten a.0 b) k
      ]

  pub before_add : (p q : List Placed) (x : Option Allocation) (ten : Option Tenancy) → Holding (tenancies_from w (acted_all w x p) (running_all w x ten p) q) → Holding (tenancies_from w x ten (p ++ q))
  before_add [] q x ten h = h
  before_add (e ∷ p) q x ten h = any_right (HoldsAt at relayed) (option_to_list (ended w e.at e.move x ten)) (tenancies_from w (acted w e.at.key.moment e.move x) (running w e.at e.move x ten) (p ++ q)) (before_add p q (acted w e.at.key.moment e.move x) (running w e.at e.move x ten) h)

  pub all_born_before : (p : List Placed) (x : Option Allocation) (ten : Option Tenancy) → AllByRecursion (λ (d : Placed). at_cmp d.at at ≡ Less) p → BornBefore at ten → BornBefore at (running_all w x ten p)
  all_born_before [] x ten a b = b
  all_born_before (e ∷ p) x ten a b = all_born_before p (acted w e.at.key.moment e.move x) (running w e.at e.move x ten) a.1 (before_move e.move e.at x ten a.0 b)

  -- the tenancy holds by its final end exactly where the allocation is usable
  pub held_where : (p q : List Placed) → InLane lane p → InLane lane q → AllByRecursion (λ (d : Placed). at_cmp d.at at ≡ Less) p → AllByRecursion (λ (d : Placed). at_cmp at d.at ≡ Less) q → ActsFrom w None (p ++ q) →
      HasAddress w.grace at.key.moment relayed (acted_all w None p) ↔ AnyOf (HoldsAt at relayed) (tenancies_from w None None (p ++ q))
  held_where p q n m a b acts =
      let i : Sits w.grace lane (acted_all w None p) (running_all w None None p) = sits_all w lane p None None n tt in (
        λ h. before_add p q None None (holds_later q (acted_all w None p) (running_all w None None p) m i b (all_born_before p None None a tt) (tenancy_of w.grace lane at.key.moment relayed (acted_all w None p) (running_all w None None p) i h)),
        λ h. address_of w.grace lane at.key.moment relayed (acted_all w None p) (running_all w None None p) i (held_later q (acted_all w None p) (running_all w None None p) m i b (acts_drop w p q None acts) (before_drop p q None None n tt a tt h)),
      )
