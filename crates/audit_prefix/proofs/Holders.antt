-- Notes of the lanes that hold addresses stay right from one horizon to the next.
use Rattle.std.proofs.Common.{◌≡◌, ◌≢◌, ◌≤◌, ◌<◌, ◌+◌, inl, inr, ℕ, Option, Some, None, List, [], ◌∷◌, ◌++◌, refl, sym, ◌∙◌, ap, subst, arith}
use Rattle.std.specs.Prelude.{Contains}
use Rattle.std.specs.List.{AllByRecursion}
use Rattle.std.proofs.lemmas.List.Elements.{Contains-append_left, Contains-append_right, Contains-append_cases}
use Rattle.audit_model.specs.declared.address.Addr.{Addr}
use Rattle.audit_model.specs.declared.verdict.Breach.{Breach}
use Rattle.audit_model.specs.declared.verdict.Tenancy.{Tenancy}
use Rattle.audit_model.specs.declared.event.At.{At}
use Rattle.audit_model.specs.Clash.{ShowsClash}
use Rattle.audit_rules.specs.Allocation.{Allocation}
use Rattle.audit_server.specs.Rules.{Rules}
use Rattle.audit_server.specs.Placed.{Placed}
use Rattle.std.specs.Prelude.{option_to_list}
use Rattle.audit_server.specs.Tenancies.{tenancies_in}
use Rattle.audit_server.specs.Lawful.{AreLawful}
use Rattle.audit_server.specs.Whole.{all_tenancies}
use Rattle.audit_server.proofs.Orders.{all_left, all_right}
use Rattle.audit_server.proofs.Holding.{InLane, Sits}
use Rattle.audit_whole.proofs.Conforming.{contained_all}
use Rattle.audit_prefix.specs.Turn.{has_after, runs_after, ended_in, Turn, whole, fresh_in, fresh, Covers, KnowsHolders, IsFollowed, NotesHolders}
use Rattle.audit_prefix.proofs.Continuing.{LaneTurn, LaneTurns, wholes, so_far, acts_cut, sits_cut, open_of, some_open, in_listed, running_itself, FromTurn, all_turn, all_born}
use Rattle.audit_prefix.proofs.Later.{over_before}

runs_cut : (w : Rules) (p q : List Placed) → (x : Option Allocation) (ten : Option Tenancy) → runs_after w x ten (p ++ q) ≡ runs_after w (has_after w x p) (runs_after w x ten p) q
runs_cut w [] q x ten = refl
runs_cut w (e ∷ p) q x ten = runs_cut w p q _ _

pub in_lane : (w : Rules) (es : List Placed) (r : Tenancy) → runs_after w None None es ≡ Some r → Contains (tenancies_in w es) r
in_lane w es r h = subst (λ (ts : List Tenancy). Contains ts r) (sym (so_far w es None None)) (Contains-append_right (ended_in w None None es) (option_to_list (runs_after w None None es)) r (in_listed (runs_after w None None es) r h))

pub in_all : (w : Rules) (turns : List Turn) (turn : Turn) (r : Tenancy) → Contains turns turn → Contains (tenancies_in w (whole turn)) r → Contains (all_tenancies w (wholes turns)) r
in_all w [] turn r c k = absurd (omega (arith, c.1))
in_all w (u ∷ us) turn r c k = elim (Contains-append_cases (u ∷ []) us turn c) [
  | inl h ↦ let e : u ≡ turn = contained_all (λ (v : Turn). u ≡ v) (u ∷ []) turn (refl, tt) h in Contains-append_left (tenancies_in w (whole u)) (all_tenancies w (wholes us)) r (subst (λ (v : Turn). Contains (tenancies_in w (whole v)) r) (sym e) k)
  | inr h ↦ Contains-append_right (tenancies_in w (whole u)) (all_tenancies w (wholes us)) r (in_all w us turn r h k)
]

abbrev pub Numbered' : Rules → ℕ → Turn → Type 0
Numbered' w last turn = (lane : ℕ) × LaneTurn w last lane turn

pub each_turn : (w : Rules) (last n : ℕ) (turns : List Turn) → LaneTurns w last n turns → AllByRecursion (Numbered' w last) turns
each_turn w last n [] l = tt
each_turn w last n (turn ∷ turns) l = ((n, l.0), each_turn w last (n + 1) turns l.1)

module _ (w : Rules) (law : AreLawful w) (last horizon : ℕ) (on : last ≤ horizon) (turns : List Turn) (old new : Addr → Option ℕ)
    (lanes : AllByRecursion (Numbered' w last) turns) (by_then : AllByRecursion (λ (turn : Turn). AllByRecursion (λ (e : Placed). e.at.key.moment ≤ horizon) (whole turn)) turns)
    (none : (b : Breach) → ¬ ShowsClash (all_tenancies w (wholes turns)) b) (knew : AllByRecursion (λ (turn : Turn). KnowsHolders w last old turn.before) turns) (notes : NotesHolders w last turns old new) where
  not_followed : (turn : Turn) (r : Tenancy) → Contains turns turn → runs_after w None None (whole turn) ≡ Some r → r.stopped ≡ None → horizon < r.last → IsFollowed w turns r → ⊥
  not_followed turn r c h open' l f =
      let over : r.last < f.next.born.key.moment = over_before (all_tenancies w (wholes turns)) r f.next none (in_all w turns turn r c (in_lane w (whole turn) r h)) (in_all w turns f.turn f.next f.there (in_lane w (whole f.turn) f.next f.runs)) f.same_address f.other_lane f.before open' in
      let born : f.next.born.key.moment ≤ horizon = contained_all (λ (t : Tenancy). t.born.key.moment ≤ horizon) (tenancies_in w (whole f.turn)) f.next (all_born w horizon (whole f.turn) (contained_all (λ (t : Turn). AllByRecursion (λ (e : Placed). e.at.key.moment ≤ horizon) (whole t)) turns f.turn by_then f.there)) (in_lane w (whole f.turn) f.next f.runs) in
      omega (arith, over, born, l)

  pub known_after : (turn : Turn) → Contains turns turn → KnowsHolders w horizon new (whole turn)
  known_after turn c r h l =
      let mine : Numbered' w last turn = contained_all (Numbered' w last) turns turn lanes c in
      let lane : ℕ = mine.0 in
      let t : LaneTurn w last lane turn = mine.1 in
      let x : Option Allocation = has_after w None turn.before in
      let ten : Option Tenancy = runs_after w None None turn.before in
      let before_in : InLane lane turn.before = all_left (λ (e : Placed). e.at.lane ≡ lane) turn.before turn.more t.of_lane in
      let more_in : InLane lane turn.more = all_right (λ (e : Placed). e.at.lane ≡ lane) turn.before turn.more t.of_lane in
      let sits : Sits w.grace lane x ten = sits_cut w lane turn.before None None before_in tt in
      let open_all = open_of w.grace lane (has_after w None (whole turn)) (runs_after w None None (whole turn)) (sits_cut w lane (whole turn) None None t.of_lane tt) in
      let open' : r.stopped ≡ None = some_open (runs_after w None None (whole turn)) r open_all h in
      let turned : AllByRecursion (FromTurn last ten) (fresh_in w turn) = all_turn w law lane last ten turn.more x ten more_in t.past.more sits (acts_cut w turn.before turn.more None t.acts) (running_itself last ten (open_of w.grace lane x ten sits)) in
      let fresh_r : Contains (fresh_in w turn) r = subst (λ (ts : List Tenancy). Contains ts r) (sym (so_far w turn.more x ten)) (Contains-append_right (ended_in w x ten turn.more) (option_to_list (runs_after w x ten turn.more)) r (in_listed (runs_after w x ten turn.more) r (sym (runs_cut w turn.before turn.more None None) ∙ h))) in
      elim (contained_all (FromTurn last ten) (fresh_in w turn) r turned fresh_r) [
        | inl k ↦
            let lasted : last < k.0.last = elim k.2.last [ inl e ↦ omega (arith, on, l, e) | inr m ↦ m.0 ] in
            let known : old k.0.relayed ≡ Some k.0.born.lane = contained_all (λ (u : Turn). KnowsHolders w last old u.before) turns turn knew c k.0 k.1 lasted in
            let born : k.0.born.key.moment ≤ last = contained_all (λ (u : Tenancy). u.born.key.moment ≤ last) (tenancies_in w turn.before) k.0 (all_born w last turn.before t.past.before) (in_lane w turn.before k.0 k.1) in
            elim (notes.kept turn r c h (subst (λ (a : At). a.key.moment ≤ last) (sym k.2.born) born)) [
              | inl e ↦ e ∙ ap old k.2.same_address ∙ known ∙ ap (λ (a : At). Some a.lane) (sym k.2.born)
              | inr f ↦ absurd (not_followed turn r c h open' l f)
            ]
        | inr b ↦ elim (notes.born turn r c h b) [
          | inl e ↦ e
          | inr f ↦ absurd (not_followed turn r c h open' l f)
        ]
      ]

pub of_wholes : (P : Placed → Type 0) (turns : List Turn) → AllByRecursion (AllByRecursion P) (wholes turns) → AllByRecursion (λ (turn : Turn). AllByRecursion P (whole turn)) turns
of_wholes P [] h = tt
of_wholes P (turn ∷ turns) h = (h.0, of_wholes P turns h.1)

-- the lanes that are noted with the addresses of those that are born in the turn are enough
pub covers_of : (w : Rules) (last : ℕ) (turns : List Turn) (holder : Addr → Option ℕ) (checked : List Tenancy) → AllByRecursion (λ (turn : Turn). KnowsHolders w last holder turn.before) turns →
    ((turn : Turn) → Contains turns turn → turn.more ≢ [] → (t : Tenancy) → Contains (fresh_in w turn) t → Contains checked t) →
    ((turn : Turn) → Contains turns turn → turn.more ≡ [] → (held new : Tenancy) → runs_after w None None turn.before ≡ Some held → Contains (fresh w turns) new → last < new.born.key.moment → holder new.relayed ≡ Some held.born.lane → Contains checked held) →
    Covers w (Some last) turns checked
covers_of w last turns holder checked knew touched noted = record {
  touched = touched;
  others = λ turn c q held new h n may. noted turn c q held new h n may.new_born
      (ap holder (sym may.same_address) ∙ contained_all (λ (u : Turn). KnowsHolders w last holder u.before) turns turn knew c held h may.held_on);
}
