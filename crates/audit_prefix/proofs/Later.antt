-- What passes so far passes as the intake grows; and of two clients one alone holds an address.
use Rattle.std.proofs.Common.{◌≡◌, ◌≢◌, ◌<◌, ◌+◌, ◌⊎◌, inl, inr, ℕ, Option, None, List, [], ◌∷◌, ◌++◌, map, refl, sym, ◌∙◌, ap, subst, arith}
use Rattle.std.specs.Prelude.{IfSome, Contains}
use Rattle.std.proofs.lemmas.Bool.{cases_eq, cases_lt, cases_order}
use Rattle.std.proofs.lemmas.Bool.Decides.{nat_tests}
use Rattle.audit_model.specs.declared.certificate.CertLane.{CertLane}
use Rattle.audit_model.specs.declared.event.At.{At}
use Rattle.audit_model.specs.declared.event.Key.{Key}
use Rattle.audit_model.specs.declared.verdict.Breach.{Breach}
use Rattle.audit_model.specs.declared.verdict.Tenancy.{Tenancy}
use Rattle.audit_model.specs.Clash.{Precedes, Clashes, ShowsClash, breach_of}
use Rattle.audit_placement.specs.Entries.{lane_entries}
use Rattle.audit_server.specs.Rules.{Rules}
use Rattle.audit_server.specs.State.{at_first}
use Rattle.audit_server.specs.Placed.{Placed}
use Rattle.audit_server.specs.Tenancies.{tenancies_in}
use Rattle.audit_server.specs.Whole.{all_tenancies}
use Rattle.audit_server.proofs.Whole.{acts_of_run}
use Rattle.audit_whole.specs.Glued.{placed_of, lanes_from}
use Rattle.audit_prefix.specs.Prefix.{EachGoes}
use Rattle.audit_prefix.specs.Turn.{HoldsOn}
use Rattle.audit_prefix.proofs.Growth.{GoOn, runs_still, tenancies_same}
use Rattle.audit_prefix.proofs.Extending.{only_of}

module _ (w v : Rules) (g : GoOn w v) where
  pub goes_later : (ls : List (List Placed)) → EachGoes w ls → EachGoes v ls
  goes_later [] h = tt
  goes_later (l ∷ ls) h = ((runs_still w v g l at_first h.0).0, goes_later ls h.1)

  pub same_tenancies : (n : ℕ) (lanes : List CertLane) → EachGoes w (lanes_from n lanes) → all_tenancies v (lanes_from n lanes) ≡ all_tenancies w (lanes_from n lanes)
  same_tenancies n [] h = refl
  same_tenancies n (lane ∷ lanes) h =
      let l : List Placed = map placed_of (lane_entries n lane) in
      ap (λ ts. ts ++ all_tenancies v (lanes_from (n + 1) lanes)) (tenancies_same w v g l None None (acts_of_run w (record { client = lane.client; listen = lane.listen }) l at_first (only_of (record { client = lane.client; listen = lane.listen }) n 0 None lane.events) h.0))
      ∙ ap (λ ts. tenancies_in w l ++ ts) (same_tenancies (n + 1) lanes h.1)

-- ---- one client alone holds an address

pub lanes_apart : (a b : At) → a.lane ≢ b.lane → (Precedes a.key a.lane b.key b.lane) ⊎ (Precedes b.key b.lane a.key a.lane)
lanes_apart a b ne = elim (cases_order a.key.moment b.key.moment) [
  | inl e ↦ elim (cases_order a.key.tie b.key.tie) [
    | inl i ↦ elim (cases_order a.lane b.lane) [
      | inl q ↦ absurd (ne q)
      | inr r ↦ elim r [ inl lt ↦ inl (grind (arith, nat_tests, e, i, lt)) | inr gt ↦ inr (grind (arith, nat_tests, e, i, gt)) ]
    ]
    | inr r ↦ elim r [ inl lt ↦ inl (grind (arith, nat_tests, e, lt)) | inr gt ↦ inr (grind (arith, nat_tests, e, gt)) ]
  ]
  | inr r ↦ elim r [ inl lt ↦ inl (grind (arith, nat_tests, lt)) | inr gt ↦ inr (grind (arith, nat_tests, gt)) ]
]

clash_of : (horizon : ℕ) (one other : Tenancy) → HoldsOn horizon one → HoldsOn horizon other → one.relayed ≡ other.relayed → one.born.lane ≢ other.born.lane → Precedes one.born.key one.born.lane other.born.key other.born.lane → Clashes other one
clash_of horizon one other a b same ne before = record {
  same_address = same;
  other_lane = ne;
  born_before = before;
  still_held = (
    omega (arith, b.born, a.not_over),
    subst (λ (o : Option Key). IfSome o (λ (stop : Key). ¬ Precedes stop one.born.lane other.born.key other.born.lane)) (sym a.goes_on) tt,
  );
}

pub one_lane : (ts : List Tenancy) (horizon : ℕ) (one other : Tenancy) → ((b : Breach) → ¬ ShowsClash ts b) → Contains ts one → Contains ts other → HoldsOn horizon one → HoldsOn horizon other → one.relayed ≡ other.relayed → one.born.lane ≡ other.born.lane
one_lane ts horizon one other none c d a b same = elim (cases_eq one.born.lane other.born.lane) [
  | inl e ↦ e
  | inr ne ↦ absurd (elim (lanes_apart one.born other.born ne) [
    | inl before ↦ none (breach_of other) (other, one, d, c, clash_of horizon one other a b same ne before, refl)
    | inr after ↦ none (breach_of one) (one, other, c, d, clash_of horizon other one b a (sym same) (λ e. ne (sym e)) after, refl)
  ])
]

pub over_before : (ts : List Tenancy) (one next : Tenancy) → ((b : Breach) → ¬ ShowsClash ts b) → Contains ts one → Contains ts next → one.relayed ≡ next.relayed → one.born.lane ≢ next.born.lane →
    Precedes one.born.key one.born.lane next.born.key next.born.lane → one.stopped ≡ None → one.last < next.born.key.moment
over_before ts one next none c d same ne before open' = elim (cases_lt one.last next.born.key.moment) [
  | inl l ↦ l
  | inr n ↦ absurd (none (breach_of next) (
    next,
    one,
    d,
    c,
    record {
      same_address = same;
      other_lane = ne;
      born_before = before;
      still_held = (n, subst (λ (o : Option Key). IfSome o (λ (stop : Key). ¬ Precedes stop one.born.lane next.born.key next.born.lane)) (sym open') tt);
    },
    refl,
  ))
]
