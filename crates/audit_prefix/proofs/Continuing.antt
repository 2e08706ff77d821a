-- Which tenancies a turn leaves: those that had ended, those that ran and go on or are stopped, and those that are born in it.
use Rattle.std.proofs.Common.{◌≡◌, ◌≢◌, ◌≤◌, ◌<◌, ◌+◌, ◌⊎◌, ◌↔◌, inl, inr, ℕ, Option, Some, None, List, [], ◌∷◌, ◌++◌, map, refl, sym, ◌∙◌, ap, subst, arith, append_assoc}
use Rattle.std.specs.Prelude.{IfSome, Contains}
use Rattle.std.specs.List.{AllByRecursion}
use Rattle.std.proofs.lemmas.List.{append-nil}
use Rattle.std.proofs.lemmas.List.Elements.{Contains-append_left, Contains-append_right, Contains-append_cases}
use Rattle.std.proofs.lemmas.Bool.Decides.{nat_tests}
use Rattle.audit_model.specs.declared.event.At.{At}
use Rattle.audit_model.specs.declared.event.Key.{Key}
use Rattle.audit_model.specs.declared.sighting.SightId.{SightId}
use Rattle.audit_model.specs.declared.verdict.Breach.{Breach}
use Rattle.audit_model.specs.declared.verdict.Tenancy.{Tenancy}
use Rattle.audit_model.specs.Clash.{Precedes, StillHeld, Clashes, ShowsClash}
use Rattle.audit_model.specs.Window.{later}
use Rattle.audit_rules.specs.Allocation.{Allocation, Change, Same, Makes, Renews, Grants, Binds, Removes}
use Rattle.audit_rules.specs.Tenancies.{running_after, ended_by}
use Rattle.audit_server.specs.Rules.{Rules}
use Rattle.audit_server.specs.Step.{Move, In, Act, Out}
use Rattle.audit_server.specs.State.{acted}
use Rattle.audit_server.specs.Placed.{Placed}
use Rattle.std.specs.Prelude.{option_to_list}
use Rattle.audit_server.specs.Tenancies.{running, ended, tenancies_from, tenancies_in}
use Rattle.audit_server.specs.Lawful.{IsUsableAt, AreLawful}
use Rattle.audit_server.specs.Holding.{AnyOf}
use Rattle.audit_server.specs.Whole.{all_tenancies, ClashNowhere}
use Rattle.audit_server.proofs.Orders.{all_append, all_left, all_right, all_weaker}
use Rattle.audit_server.proofs.Holding.{ActsFrom, MayAct, Sits, sits_move, InLane}
use Rattle.audit_server.proofs.Both.{each_made, all_made}
use Rattle.audit_whole.proofs.Conforming.{contained_any, contained_all}
use Rattle.audit_prefix.specs.Turn.{has_after, runs_after, ended_in, Turn, whole, fresh_in, fresh, IsPast, MayClash, AreEnough}

-- ---- a list of events, cut in two

pub cut : (w : Rules) (p q : List Placed) (x : Option Allocation) (ten : Option Tenancy) → tenancies_from w x ten (p ++ q) ≡ ended_in w x ten p ++ tenancies_from w (has_after w x p) (runs_after w x ten p) q
cut w [] q x ten = refl
cut w (e ∷ p) q x ten =
    ap (λ ts. option_to_list (ended w e.at e.move x ten) ++ ts) (cut w p q (acted w e.at.key.moment e.move x) (running w e.at e.move x ten))
    ∙ sym (append_assoc (option_to_list (ended w e.at e.move x ten)) (ended_in w (acted w e.at.key.moment e.move x) (running w e.at e.move x ten) p) (tenancies_from w (has_after w (acted w e.at.key.moment e.move x) p) (runs_after w (acted w e.at.key.moment e.move x) (running w e.at e.move x ten) p) q))

pub so_far : (w : Rules) (p : List Placed) (x : Option Allocation) (ten : Option Tenancy) → tenancies_from w x ten p ≡ ended_in w x ten p ++ option_to_list (runs_after w x ten p)
so_far w p x ten = ap (tenancies_from w x ten) (sym (append-nil p)) ∙ cut w p [] x ten

pub acts_cut : (w : Rules) (p q : List Placed) (x : Option Allocation) → ActsFrom w x (p ++ q) → ActsFrom w (has_after w x p) q
acts_cut w [] q x h = h
acts_cut w (e ∷ p) q x h = acts_cut w p q (acted w e.at.key.moment e.move x) h.1

pub sits_cut : (w : Rules) (lane : ℕ) (es : List Placed) (x : Option Allocation) (ten : Option Tenancy) → InLane lane es → Sits w.grace lane x ten → Sits w.grace lane (has_after w x es) (runs_after w x ten es)
sits_cut w lane [] x ten l h = h
sits_cut w lane (e ∷ es) x ten l h = sits_cut w lane es (acted w e.at.key.moment e.move x) (running w e.at e.move x ten) l.1 (sits_move w lane e.at e.move x ten l.0 h)

-- ---- what ended before

-- it was stopped at the horizon or before
pub record WasStopped (horizon : ℕ) (t : Tenancy) : Type 0 where
  pub key : Key
  pub stopped : t.stopped ≡ Some key
  pub before : key.moment ≤ horizon

module _ (w : Rules) (horizon : ℕ) where
  stopped_here : (at : At) (ten : Option Tenancy) → at.key.moment ≤ horizon → AllByRecursion (WasStopped horizon) (option_to_list (ended_by at.key Removes ten))
  stopped_here at None l = tt
  stopped_here at (Some t) l = (record { key = at.key; stopped = refl; before = l }, tt)

  ended_here : (ch : Change) (at : At) (ten : Option Tenancy) → at.key.moment ≤ horizon → AllByRecursion (WasStopped horizon) (option_to_list (ended_by at.key ch ten))
  ended_here Same at ten l = tt
  ended_here (Makes made) at ten l = stopped_here at ten l
  ended_here (Renews until) at ten l = tt
  ended_here (Grants ips until) at ten l = tt
  ended_here (Binds number peer until permitted) at ten l = tt
  ended_here Removes at ten l = stopped_here at ten l

  ended_move : (at : At) (move : Move) (x : Option Allocation) (ten : Option Tenancy) → at.key.moment ≤ horizon → AllByRecursion (WasStopped horizon) (option_to_list (ended w at move x ten))
  ended_move at (In s) x ten l = tt
  ended_move at (Act c s t) x ten l = ended_here (w.change c s t at.key.moment x) at ten l
  ended_move at (Out t) x ten l = tt

  pub all_stopped : (es : List Placed) (x : Option Allocation) (ten : Option Tenancy) → AllByRecursion (λ (e : Placed). e.at.key.moment ≤ horizon) es → AllByRecursion (WasStopped horizon) (ended_in w x ten es)
  all_stopped [] x ten h = tt
  all_stopped (e ∷ es) x ten h = all_append (WasStopped horizon) (option_to_list (ended w e.at e.move x ten)) (ended_in w (acted w e.at.key.moment e.move x) (running w e.at e.move x ten) es) (ended_move e.at e.move x ten h.0)
      (all_stopped es (acted w e.at.key.moment e.move x) (running w e.at e.move x ten) h.1)

  pub all_born : (es : List Placed) → AllByRecursion (λ (e : Placed). e.at.key.moment ≤ horizon) es → AllByRecursion (λ (t : Tenancy). t.born.key.moment ≤ horizon) (tenancies_in w es)
  all_born es h = each_made w (λ b _. b.key.moment ≤ horizon) es None None tt
      (all_made w (λ b _. b.key.moment ≤ horizon) es None (all_weaker (λ (e : Placed). e.at.key.moment ≤ horizon) (λ (e : Placed). (relayed : _) → e.at.key.moment ≤ horizon) (λ e k r. k) es h))

-- ---- what ran

-- The second is what became of the first, that ran at the horizon: it isn't stopped before, and where its end was moved, neither is past.
pub record Continues (horizon : ℕ) (r t : Tenancy) : Type 0 where
  pub same_address : t.relayed ≡ r.relayed
  pub born : t.born ≡ r.born
  pub stopped : IfSome t.stopped (λ (key : Key). horizon < key.moment)
  pub last : (t.last ≡ r.last) ⊎ ((horizon < r.last) × (horizon < t.last))

abbrev pub FromTurn : ℕ → Option Tenancy → Tenancy → Type 0
FromTurn horizon ran t = ((r : Tenancy) × (ran ≡ Some r) × Continues horizon r t) ⊎ (horizon < t.born.key.moment)

abbrev pub OfRunning : ℕ → Option Tenancy → Option Tenancy → Type 0
OfRunning horizon ran None = Unit {0}
OfRunning horizon ran (Some t) = FromTurn horizon ran t

module _ (w : Rules) (law : AreLawful w) (lane horizon : ℕ) (ran : Option Tenancy) where
  with_stop : (at : At) (t : Tenancy) → horizon < at.key.moment → FromTurn horizon ran t → FromTurn horizon ran (record t { stopped = Some at.key })
  with_stop at t l (inl (r, is, c)) = inl (r, is, record { same_address = c.same_address; born = c.born; stopped = l; last = c.last })
  with_stop at t l (inr b) = inr b

  renewed_last : (r t : Tenancy) (last : ℕ) → Continues horizon r t → horizon < t.last → horizon < last → FromTurn horizon ran t → (ran ≡ Some r) → FromTurn horizon ran (record t { last = last })
  renewed_last r t last c l m f is = inl (
    r,
    is,
    record {
      same_address = c.same_address;
      born = c.born;
      stopped = c.stopped;
      last = inr (elim c.last [ inl e ↦ subst (λ (n : ℕ). horizon < n) e l | inr k ↦ k.0 ], m);
    },
  )

  with_last : (t : Tenancy) (last : ℕ) → horizon < t.last → horizon < last → FromTurn horizon ran t → FromTurn horizon ran (record t { last = last })
  with_last t last l m (inl (r, is, c)) = renewed_last r t last c l m (inl (r, is, c)) is
  with_last t last l m (inr b) = inr b

  stop_turn : (at : At) (ten : Option Tenancy) → horizon < at.key.moment → OfRunning horizon ran ten → AllByRecursion (FromTurn horizon ran) (option_to_list (ended_by at.key Removes ten))
  stop_turn at None l o = tt
  stop_turn at (Some t) l o = (with_stop at t l o, tt)

  turn_change : (ch : Change) (at : At) (s : SightId) (x : Option Allocation) (ten : Option Tenancy) → horizon < at.key.moment → Sits w.grace lane x ten →
      ((until : ℕ) → ch ≡ Renews until → IsUsableAt w.grace at.key.moment x × ((time : ℕ) × (until ≡ later at.key.moment time))) → OfRunning horizon ran ten →
      AllByRecursion (FromTurn horizon ran) (option_to_list (ended_by at.key ch ten)) × OfRunning horizon ran (running_after w.grace at s ch ten)
  turn_change Same at s x ten l i f o = (tt, o)
  turn_change (Makes made) at s x ten l i f o = (stop_turn at ten l o, inr l)
  turn_change (Renews until) at s x None l i f o = (tt, tt)
  turn_change (Renews until) at s None (Some t) l i f o = absurd i
  turn_change (Renews until) at s (Some a) (Some t) l i f o =
      let k = f until refl in
      let usable : at.key.moment ≤ later a.until w.grace = k.0 in
      let u : until ≡ later at.key.moment k.1.0 = k.1.1 in
      (tt, with_last t (later until w.grace) (subst (λ (n : ℕ). horizon < n) (sym i.last) (omega arith)) (omega arith) o)
  turn_change (Grants ips until) at s x ten l i f o = (tt, o)
  turn_change (Binds number peer until permitted) at s x ten l i f o = (tt, o)
  turn_change Removes at s x ten l i f o = (stop_turn at ten l o, tt)

  turn_move : (at : At) (move : Move) (x : Option Allocation) (ten : Option Tenancy) → horizon < at.key.moment → Sits w.grace lane x ten → MayAct w at.key.moment move x → OfRunning horizon ran ten →
      AllByRecursion (FromTurn horizon ran) (option_to_list (ended w at move x ten)) × OfRunning horizon ran (running w at move x ten)
  turn_move at (In s) x ten l i m o = (tt, o)
  turn_move at (Act c s t) x ten l i m o = turn_change (w.change c s t at.key.moment x) at s x ten l i (λ until e. (law.usable c s t at.key.moment until x m e, law.onward c s t at.key.moment until x e)) o
  turn_move at (Out t) x ten l i m o = (tt, o)

  last_running : (ten : Option Tenancy) → OfRunning horizon ran ten → AllByRecursion (FromTurn horizon ran) (option_to_list ten)
  last_running None o = tt
  last_running (Some t) o = (o, tt)

  pub all_turn : (es : List Placed) (x : Option Allocation) (ten : Option Tenancy) → InLane lane es → AllByRecursion (λ (e : Placed). horizon < e.at.key.moment) es → Sits w.grace lane x ten → ActsFrom w x es → OfRunning horizon ran ten →
      AllByRecursion (FromTurn horizon ran) (tenancies_from w x ten es)
  all_turn [] x ten n h i a o = last_running ten o
  all_turn (e ∷ es) x ten n h i a o =
      let k = turn_move e.at e.move x ten h.0 i a.0 o in
      all_append (FromTurn horizon ran) (option_to_list (ended w e.at e.move x ten)) (tenancies_from w (acted w e.at.key.moment e.move x) (running w e.at e.move x ten) es) k.0
      (all_turn es (acted w e.at.key.moment e.move x) (running w e.at e.move x ten) n.1 h.1 (sits_move w lane e.at e.move x ten n.0 i) a.1 k.1)

itself : (horizon : ℕ) (r : Tenancy) → r.stopped ≡ None → Continues horizon r r
itself horizon r h = record { same_address = refl; born = refl; stopped = subst (λ (o : Option Key). IfSome o (λ (key : Key). horizon < key.moment)) (sym h) tt; last = inl refl }

pub running_itself : (horizon : ℕ) (ten : Option Tenancy) → IfSome ten (λ (r : Tenancy). r.stopped ≡ None) → OfRunning horizon ten ten
running_itself horizon None h = tt
running_itself horizon (Some r) h = inl (r, refl, itself horizon r h)

pub open_of : (grace lane : ℕ) (x : Option Allocation) (ten : Option Tenancy) → Sits grace lane x ten → IfSome ten (λ (r : Tenancy). r.stopped ≡ None)
open_of grace lane x None s = tt
open_of grace lane None (Some t) s = absurd s
open_of grace lane (Some a) (Some t) s = s.open'

-- ---- all lanes

pub record LaneTurn (w : Rules) (horizon lane : ℕ) (turn : Turn) : Type 0 where
  pub of_lane : InLane lane (whole turn)
  pub acts : ActsFrom w None (whole turn)
  pub past : IsPast horizon turn

abbrev pub LaneTurns : Rules → ℕ → ℕ → List Turn → Type 0
LaneTurns w horizon n [] = Unit {0}
LaneTurns w horizon n (turn ∷ turns) = LaneTurn w horizon n turn × LaneTurns w horizon (n + 1) turns

abbrev pub befores : List Turn → List (List Placed)
befores turns = map (λ (t : Turn). t.before) turns

abbrev pub wholes : List Turn → List (List Placed)
wholes turns = map whole turns

-- it ended before; or it ran, and what became of it is fresh; or it is born in the turn
pub data Kind (w : Rules) (horizon : ℕ) (old now : List Tenancy) (t : Tenancy) : Type 0 where
  Done : Contains old t → WasStopped horizon t → t.born.key.moment ≤ horizon → Kind w horizon old now t
  Went : (r : Tenancy) → Contains old r → r.stopped ≡ None → r.born.key.moment ≤ horizon → Continues horizon r t → Contains now t → Kind w horizon old now t
  Born : horizon < t.born.key.moment → Contains now t → Kind w horizon old now t

weaker_kind : (w : Rules) (horizon : ℕ) (old now old' now' : List Tenancy) (t : Tenancy) → ((u : Tenancy) → Contains old u → Contains old' u) → ((u : Tenancy) → Contains now u → Contains now' u) → Kind w horizon old now t → Kind w horizon old' now' t
weaker_kind w horizon old now old' now' t f g (Done c s b) = Done (f t c) s b
weaker_kind w horizon old now old' now' t f g (Went r c s b k n) = Went r (f r c) s b k (g t n)
weaker_kind w horizon old now old' now' t f g (Born b n) = Born b (g t n)

pub in_listed : {A : Type 0} (o : Option A) (x : A) → o ≡ Some x → Contains (option_to_list o) x
in_listed o x e = subst (λ (p : Option _). Contains (option_to_list p) x) (sym e) (0, omega arith, refl)

pub some_open : (ten : Option Tenancy) (r : Tenancy) → IfSome ten (λ (u : Tenancy). u.stopped ≡ None) → ten ≡ Some r → r.stopped ≡ None
some_open None r h e = absurd (let k : None ≡ Some r = e in cc)
some_open (Some u) r h e = let k : u ≡ r = cc in subst (λ (v : Tenancy). v.stopped ≡ None) k h

module _ (w : Rules) (law : AreLawful w) (horizon : ℕ) where
  kind_in : (lane : ℕ) (turn : Turn) → LaneTurn w horizon lane turn → (t : Tenancy) → Contains (tenancies_in w (whole turn)) t → Kind w horizon (tenancies_in w turn.before) (fresh_in w turn) t
  kind_in lane turn l t c =
      let x : Option Allocation = has_after w None turn.before in
      let ten : Option Tenancy = runs_after w None None turn.before in
      let before_in : InLane lane turn.before = all_left (λ (e : Placed). e.at.lane ≡ lane) turn.before turn.more l.of_lane in
      let more_in : InLane lane turn.more = all_right (λ (e : Placed). e.at.lane ≡ lane) turn.before turn.more l.of_lane in
      let sits : Sits w.grace lane x ten = sits_cut w lane turn.before None None before_in tt in
      let open_ten = open_of w.grace lane x ten sits in
      let born : AllByRecursion (λ (u : Tenancy). u.born.key.moment ≤ horizon) (tenancies_in w turn.before) = all_born w horizon turn.before l.past.before in
      let turned : AllByRecursion (FromTurn horizon ten) (fresh_in w turn) = all_turn w law lane horizon ten turn.more x ten more_in l.past.more sits (acts_cut w turn.before turn.more None l.acts) (running_itself horizon ten open_ten) in
      let all : Contains (ended_in w None None turn.before ++ fresh_in w turn) t = subst (λ (ts : List Tenancy). Contains ts t) (cut w turn.before turn.more None None) c in
      elim (Contains-append_cases (ended_in w None None turn.before) (fresh_in w turn) t all) [
        | inl d ↦
            let here : Contains (tenancies_in w turn.before) t = subst (λ (ts : List Tenancy). Contains ts t) (sym (so_far w turn.before None None)) (Contains-append_left (ended_in w None None turn.before) (option_to_list ten) t d) in
            Done here (contained_all (WasStopped horizon) (ended_in w None None turn.before) t (all_stopped w horizon turn.before None None l.past.before) d)
            (contained_all (λ (u : Tenancy). u.born.key.moment ≤ horizon) (tenancies_in w turn.before) t born here)
        | inr f ↦ elim (contained_all (FromTurn horizon ten) (fresh_in w turn) t turned f) [
          | inl k ↦
              let here : Contains (tenancies_in w turn.before) k.0 = subst (λ (ts : List Tenancy). Contains ts k.0) (sym (so_far w turn.before None None)) (Contains-append_right (ended_in w None None turn.before) (option_to_list ten) k.0 (in_listed ten k.0 k.1)) in
              Went k.0 here (some_open ten k.0 open_ten k.1) (contained_all (λ (u : Tenancy). u.born.key.moment ≤ horizon) (tenancies_in w turn.before) k.0 born here) k.2 f
          | inr b ↦ Born b f
        ]
      ]

  pub kinds : (n : ℕ) (turns : List Turn) → LaneTurns w horizon n turns → (t : Tenancy) → Contains (all_tenancies w (wholes turns)) t → Kind w horizon (all_tenancies w (befores turns)) (fresh w turns) t
  kinds n [] l t c = absurd (omega (arith, c.1))
  kinds n (turn ∷ turns) l t c = elim (Contains-append_cases (tenancies_in w (whole turn)) (all_tenancies w (wholes turns)) t c) [
    | inl a ↦ weaker_kind w horizon (tenancies_in w turn.before) (fresh_in w turn) _ _ t
        (λ u h. Contains-append_left (tenancies_in w turn.before) (all_tenancies w (befores turns)) u h)
        (λ u h. Contains-append_left (fresh_in w turn) (fresh w turns) u h) (kind_in n turn l.0 t a)
    | inr b ↦ weaker_kind w horizon (all_tenancies w (befores turns)) (fresh w turns) _ _ t
        (λ u h. Contains-append_right (tenancies_in w turn.before) (all_tenancies w (befores turns)) u h)
        (λ u h. Contains-append_right (fresh_in w turn) (fresh w turns) u h) (kinds (n + 1) turns l.1 t b)
  ]

  -- what holds an address still, held it still by what it was
  earlier_moment : (key other : Key) (lane other_lane : ℕ) → Precedes key lane other other_lane → key.moment ≤ other.moment
  earlier_moment key other lane other_lane h = grind (arith, nat_tests, h)

  stopped_precedes : (key other : Key) (lane other_lane : ℕ) → key.moment < other.moment → Precedes key lane other other_lane
  stopped_precedes key other lane other_lane h = grind (arith, nat_tests, h)

  was_held : (r held : Tenancy) (key : Key) (lane : ℕ) → Continues horizon r held → r.stopped ≡ None → key.moment ≤ horizon → StillHeld held key lane → StillHeld r key lane
  was_held r held key lane c o b s = (
    elim c.last [ inl e ↦ subst (λ (n : ℕ). key.moment ≤ n) e s.0 | inr k ↦ omega (arith, b, k.0) ],
    subst (λ (x : Option Key). IfSome x (λ (stop : Key). ¬ Precedes stop r.born.lane key lane)) (sym o) tt,
  )

  clash_before : (r u new held : Tenancy) → r.relayed ≡ new.relayed → r.born ≡ new.born → u.relayed ≡ held.relayed → u.born ≡ held.born → StillHeld u new.born.key new.born.lane → Clashes new held → Clashes r u
  clash_before r u new held a b d e s k = record {
    same_address = d ∙ k.same_address ∙ sym a;
    other_lane = subst (λ (x : At). u.born.lane ≢ x.lane) (sym b) (subst (λ (x : At). x.lane ≢ new.born.lane) (sym e) k.other_lane);
    born_before = subst (λ (x : At). Precedes u.born.key u.born.lane x.key x.lane) (sym b) (subst (λ (x : At). Precedes x.key x.lane new.born.key new.born.lane) (sym e) k.born_before);
    still_held = subst (λ (x : At). StillHeld u x.key x.lane) (sym b) s;
  }

  -- two that clash where the earlier of them is taken as it was: there was a clash before
  older : (old now : List Tenancy) → ClashNowhere old → (r new held : Tenancy) → Contains old r → r.relayed ≡ new.relayed → r.born ≡ new.born → new.born.key.moment ≤ horizon → Kind w horizon old now held → Clashes new held → ⊥
  older old now none r new held c a b m (Done d s k) q = contained_all (λ (t : Tenancy). AnyOf (Clashes t) old → ⊥) old r none c (contained_any (Clashes r) old held d (clash_before r held new held a b refl refl q.still_held q))
  older old now none r new held c a b m (Went u d o k g n) q =
      contained_all (λ (t : Tenancy). AnyOf (Clashes t) old → ⊥) old r none c (contained_any (Clashes r) old u d (clash_before r u new held a b (sym g.same_address) (sym g.born) (was_held u held new.born.key new.born.lane g o m q.still_held) q))
  older old now none r new held c a b m (Born k n) q = omega (arith, k, m, earlier_moment held.born.key new.born.key held.born.lane new.born.lane q.born_before)

  -- so the later one is born in the turn, and the earlier one was not over when it began
  newer : (old now : List Tenancy) (new held : Tenancy) → horizon < new.born.key.moment → Kind w horizon old now held → Clashes new held → Contains now held
  newer old now new held b (Done d s k) q =
      let stop : Key = s.key in
      let i : IfSome (Some stop) (λ (x : Key). ¬ Precedes x held.born.lane new.born.key new.born.lane) = subst (λ (o : Option Key). IfSome o (λ (x : Key). ¬ Precedes x held.born.lane new.born.key new.born.lane)) s.stopped q.still_held.1 in
      absurd (i (stopped_precedes stop new.born.key held.born.lane new.born.lane (omega (arith, b, s.before))))
  newer old now new held b (Went u d o k g n) q = n
  newer old now new held b (Born k n) q = n

  pub both_fresh : (old now : List Tenancy) → ClashNowhere old → (new held : Tenancy) → Kind w horizon old now new → Kind w horizon old now held → Clashes new held → Contains now new × Contains now held × MayClash horizon new held
  both_fresh old now none new held (Done d s k) h q = absurd (older old now none new new held d refl refl k h q)
  both_fresh old now none new held (Went r d o k g n) h q = absurd (older old now none r new held d (sym g.same_address) (sym g.born) (subst (λ (x : At). x.key.moment ≤ horizon) (sym g.born) k) h q)
  both_fresh old now none new held (Born b n) h q = (n, newer old now new held b h q, record { new_born = b; held_on = omega (arith, b, q.still_held.0); same_address = q.same_address })

  -- tenancies that are enough show what all show
  pub enough : (n : ℕ) (turns : List Turn) → LaneTurns w horizon n turns → ClashNowhere (all_tenancies w (befores turns)) → (checked : List Tenancy) → AreEnough horizon (all_tenancies w (wholes turns)) (fresh w turns) checked →
      (b : Breach) → ShowsClash (all_tenancies w (wholes turns)) b ↔ ShowsClash checked b
  enough n turns l none checked a b = (
    λ s.
        let k = both_fresh (all_tenancies w (befores turns)) (fresh w turns) none s.0 s.1 (kinds n turns l s.0 s.2) (kinds n turns l s.1 s.3) s.4 in
        let both = a.each_two s.0 s.1 k.0 k.1 k.2 in
        (s.0, s.1, both.0, both.1, s.4, s.5),
    λ s. (s.0, s.1, a.no_others s.0 s.2, a.no_others s.1 s.3, s.4, s.5),
  )
