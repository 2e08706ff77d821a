-- Which lanes are noted with addresses after a turn.
use Rattle.std.proofs.Common.{◌≡◌, ◌≢◌, ◌<◌, ◌⊎◌, inl, inr, ℕ, Bool, true, false, cond, ◌&&◌, List, [], ◌∷◌, Option, Some, None, refl, sym, ap, ◌∙◌, subst, arith}
use Rattle.std.specs.Prelude.{Contains, option_and_then}
use Rattle.std.specs.Bool.{MatchBool}
use Rattle.std.proofs.lemmas.Bool.{cases_eq, ltb-false, ltb-true, true≢false}
use Rattle.std.proofs.lemmas.Bool.Decides.{nat_tests}
use Rattle.std.proofs.lemmas.Option.{same_Some}
use Rattle.std.specs.declared.cmp.Ordering.{Ordering}
use Rattle.std.specs.declared.cmp.Ordering.TheVariants.{Less, Equal, Greater}
use Rattle.audit_model.specs.declared.address.Addr.{Addr}
use Rattle.audit_model.specs.declared.event.Key.{Key}
use Rattle.audit_model.specs.declared.verdict.Tenancy.{Tenancy}
use Rattle.audit_model.specs.Clash.{Precedes}
use Rattle.audit_model.proofs.Sames.{addr_same, addr_true}
use Rattle.audit_prefix.proofs.Later.{lanes_apart}
use Rattle.audit_live.specs.declared.holders.Holders.{Holders}
use Rattle.audit_live.specs.declared.lane.LiveLane.{LiveLane}
use Rattle.audit_live.specs.CheckedTenancies.{is_past_last}
use Rattle.audit_live.specs.Chain.{Chain}
use Rattle.audit_live.specs.Holding.{Notes, held_in, holder_of, is_before, is_held_later, is_less, running_at, same_addr}
use Rattle.audit_live.specs.Turn.{NotesRunning}
use Rattle.audit_live.proofs.Lists.{contains_cases, contains_none}

moment_precedes : (key other : Key) (lane other_lane : ℕ) → key.moment < other.moment → Precedes key lane other other_lane
moment_precedes key other lane other_lane h = grind (arith, nat_tests, h)

not_itself : (key : Key) (lane : ℕ) → Precedes key lane key lane → ⊥
not_itself key lane h = grind (arith, nat_tests, h)

past_later : (last : Option ℕ) (moment other : ℕ) → is_past_last last moment ≡ false → is_past_last last other ≡ true → moment < other
past_later None moment other not_past past = absurd (true≢false not_past)
past_later (Some horizon) moment other not_past past = omega (arith, ltb-false horizon moment not_past, ltb-true horizon other past)

both_true : (a b : Bool) → (a && b) ≡ true → (a ≡ true) × (b ≡ true)
both_true true b h = (refl, h)
both_true false b h = absurd (true≢false (sym h))

not_second : (a b : Bool) → a ≡ true → (a && b) ≡ false → b ≡ false
not_second a b is h = sym (ap (λ c. c && b) is) ∙ h

less_is : (o : Ordering) → is_less o ≡ true → o ≡ Less
less_is Less h = refl
less_is Equal h = absurd (true≢false (sym h))
less_is Greater h = absurd (true≢false (sym h))

module _ (lanes : List LiveLane) where
  -- another lane's current tenancy was granted its address later
  pub record IsLater (t : Tenancy) : Type 0 where
    pub number : ℕ
    pub next : Tenancy
    pub runs : running_at lanes number ≡ Some next
    pub same_address : t.relayed ≡ next.relayed
    pub other_lane : t.born.lane ≢ next.born.lane
    pub before : Precedes t.born.key t.born.lane next.born.key next.born.lane

  abbrev pub Noting : Option ℕ → Holders → ℕ → Holders → Type 0
  Noting last was number is = NotesRunning lanes last was (running_at lanes number) is

module _ (lanes : List LiveLane) (last : Option ℕ) (lane_is : (number : ℕ) (t : Tenancy) → running_at lanes number ≡ Some t → t.born.lane ≡ number) where
  abbrev IsPast : Tenancy → Type 0
  IsPast t = is_past_last last t.born.key.moment ≡ true

  -- two that run in one lane are one
  one_runs : (number other : ℕ) (t u : Tenancy) → running_at lanes number ≡ Some t → running_at lanes other ≡ Some u → t.born.lane ≡ u.born.lane → t ≡ u
  one_runs number other t u runs other_runs same =
      let lanes_same : number ≡ other = sym (lane_is number t runs) ∙ same ∙ lane_is other u other_runs in
      same_Some t u (sym runs ∙ ap (running_at lanes) lanes_same ∙ other_runs)

  -- ---- one note

  -- what is noted with an address, after a note with another or this one
  noted_is : (old new : Holders) (t : Tenancy) → Notes lanes old t new → is_held_later (held_in lanes old t.relayed) t ≡ false → (relayed : Addr) → (b : Bool) → same_addr relayed t.relayed ≡ b
      → holder_of new relayed ≡ cond b (Some t.born.lane) (holder_of old relayed)
  noted_is old new t notes not_later relayed b same = notes.noted not_later relayed ∙ ap (λ c. cond c (Some t.born.lane) (holder_of old relayed)) same

  -- the tenancy itself is noted, or followed
  own_note : (old new : Holders) (number : ℕ) (t : Tenancy) → running_at lanes number ≡ Some t → Notes lanes old t new → (later : Bool) → is_held_later (held_in lanes old t.relayed) t ≡ later
      → (holder_of new t.relayed ≡ Some number) ⊎ IsLater lanes t
  own_note old new number t runs notes false is = inl (noted_is old new t notes is t.relayed true (addr_same t.relayed t.relayed refl) ∙ ap Some (lane_is number t runs))
  own_note old new number t runs notes true is = inr (by_held (holder_of old t.relayed) refl) where
    by_running : (other : ℕ) (o : Option Tenancy) → running_at lanes other ≡ o → is_held_later o t ≡ true → IsLater lanes t
    by_running other None runs_other h = absurd (true≢false (sym h))
    by_running other (Some u) runs_other h =
        let both = both_true (same_addr u.relayed t.relayed) (is_before t u) h in
        let before : Precedes t.born.key t.born.lane u.born.key u.born.lane = less_is _ both.1 in
        record {
          number = other;
          next = u;
          runs = runs_other;
          same_address = sym (addr_true u.relayed t.relayed both.0);
          other_lane = λ same. not_itself t.born.key t.born.lane (subst (λ (v : Tenancy). Precedes t.born.key t.born.lane v.born.key v.born.lane) (sym (one_runs number other t u runs runs_other same)) before);
          before = before;
        }

    by_held : (o : Option ℕ) → holder_of old t.relayed ≡ o → IsLater lanes t
    by_held None held = absurd (true≢false (sym is ∙ ap (λ (o : Option ℕ). is_held_later (option_and_then (running_at lanes) o) t) held))
    by_held (Some other) held =
        by_running other (running_at lanes other) refl (sym (ap (λ (o : Option ℕ). is_held_later (option_and_then (running_at lanes) o) t) held) ∙ is)

  -- one that is noted stays so, or is followed
  other_note : (old new : Holders) (number : ℕ) (t : Tenancy) → running_at lanes number ≡ Some t → holder_of old t.relayed ≡ Some number → (other : ℕ) (u : Tenancy) → running_at lanes other ≡ Some u
      → Notes lanes old u new → (later same : Bool) → is_held_later (held_in lanes old u.relayed) u ≡ later → same_addr t.relayed u.relayed ≡ same → (holder_of new t.relayed ≡ Some number) ⊎ IsLater lanes t
  other_note old new number t runs held other u runs_other notes true same is same_is = inl (ap (λ (h : Holders). holder_of h t.relayed) (notes.kept is) ∙ held)
  other_note old new number t runs held other u runs_other notes false false is same_is = inl (noted_is old new u notes is t.relayed false same_is ∙ held)
  other_note old new number t runs held other u runs_other notes false true is same_is = elim (cases_eq t.born.lane u.born.lane) [
    | inl one ↦ inl (noted_is old new u notes is t.relayed true same_is ∙ ap Some (sym one ∙ lane_is number t runs))
    | inr apart ↦ inr (record {
      number = other;
      next = u;
      runs = runs_other;
      same_address = address;
      other_lane = apart;
      before = elim (lanes_apart t.born u.born apart) [ inl before ↦ before | inr after ↦ absurd (true≢false (sym (ap is_less after) ∙ not_before)) ];
    })
  ] where
    address : t.relayed ≡ u.relayed
    address = addr_true t.relayed u.relayed same_is

    holds : held_in lanes old u.relayed ≡ Some t
    holds = ap (held_in lanes old) (sym address) ∙ ap (option_and_then (running_at lanes)) held ∙ runs

    not_before : is_before u t ≡ false
    not_before = not_second (same_addr t.relayed u.relayed) (is_before u t) same_is (sym (ap (λ o. is_held_later o u) holds) ∙ is)

  -- what is noted with the address of one that was born before stays, or it is followed
  old_note : (old new : Holders) (number : ℕ) (t : Tenancy) → running_at lanes number ≡ Some t → is_past_last last t.born.key.moment ≡ false → (other : ℕ) (u : Tenancy) → running_at lanes other ≡ Some u → IsPast u
      → Notes lanes old u new → (later same : Bool) → is_held_later (held_in lanes old u.relayed) u ≡ later → same_addr t.relayed u.relayed ≡ same → (holder_of new t.relayed ≡ holder_of old t.relayed) ⊎ IsLater lanes t
  old_note old new number t runs not_past other u runs_other past notes true same is same_is = inl (ap (λ (h : Holders). holder_of h t.relayed) (notes.kept is))
  old_note old new number t runs not_past other u runs_other past notes false false is same_is = inl (noted_is old new u notes is t.relayed false same_is)
  old_note old new number t runs not_past other u runs_other past notes false true is same_is = inr (record {
    number = other;
    next = u;
    runs = runs_other;
    same_address = addr_true t.relayed u.relayed same_is;
    other_lane = λ one. true≢false (sym past ∙ ap (λ (v : Tenancy). is_past_last last v.born.key.moment) (sym (one_runs number other t u runs runs_other one)) ∙ not_past);
    before = moment_precedes t.born.key u.born.key t.born.lane u.born.lane (past_later last t.born.key.moment u.born.key.moment not_past past);
  })

  -- ---- all notes

  -- a note, or none
  note_of : (old new : Holders) (number : ℕ) → Noting lanes last old number new → (new ≡ old) ⊎ ((u : Tenancy) × (running_at lanes number ≡ Some u) × IsPast u × Notes lanes old u new)
  note_of old new number noting = by_running (running_at lanes number) refl noting where
    by_past : (u : Tenancy) (b : Bool) → running_at lanes number ≡ Some u → is_past_last last u.born.key.moment ≡ b → MatchBool b (Notes lanes old u new) (new ≡ old)
        → (new ≡ old) ⊎ ((u : Tenancy) × (running_at lanes number ≡ Some u) × IsPast u × Notes lanes old u new)
    by_past u true runs past notes = inr (u, runs, past, notes)
    by_past u false runs past same = inl same

    by_running : (o : Option Tenancy) → running_at lanes number ≡ o → NotesRunning lanes last old o new → (new ≡ old) ⊎ ((u : Tenancy) × (running_at lanes number ≡ Some u) × IsPast u × Notes lanes old u new)
    by_running None runs same = inl same
    by_running (Some u) runs notes = by_past u (is_past_last last u.born.key.moment) runs refl notes

  stays_noted : (touched : List ℕ) (old new : Holders) → Chain (Noting lanes last) old touched new → (number : ℕ) (t : Tenancy) → running_at lanes number ≡ Some t → holder_of old t.relayed ≡ Some number
      → (holder_of new t.relayed ≡ Some number) ⊎ IsLater lanes t
  stays_noted [] old new chain number t runs held = inl (ap (λ (h : Holders). holder_of h t.relayed) chain ∙ held)
  stays_noted (one ∷ touched) old new chain number t runs held = elim (note_of old chain.0 one chain.1) [
    | inl same ↦ stays_noted touched chain.0 new chain.2 number t runs (ap (λ (h : Holders). holder_of h t.relayed) same ∙ held)
    | inr (u, runs_other, past, notes) ↦ elim (other_note old chain.0 number t runs held one u runs_other notes (is_held_later (held_in lanes old u.relayed) u) (same_addr t.relayed u.relayed) refl refl) [
      | inl kept ↦ stays_noted touched chain.0 new chain.2 number t runs kept
      | inr later ↦ inr later
    ]
  ]

  -- the lane of one that is born in the turn is noted
  pub born_noted : (touched : List ℕ) (old new : Holders) → Chain (Noting lanes last) old touched new → (number : ℕ) (t : Tenancy) → Contains touched number → running_at lanes number ≡ Some t → IsPast t
      → (holder_of new t.relayed ≡ Some number) ⊎ IsLater lanes t
  born_noted [] old new chain number t c runs past = absurd (contains_none number c)
  born_noted (one ∷ touched) old new chain number t c runs past = elim (contains_cases one number touched c) [
    | inl is ↦
        let at : running_at lanes one ≡ Some t = ap (running_at lanes) is ∙ runs in
        let noting = subst (λ (o : Option Tenancy). NotesRunning lanes last old o chain.0) at chain.1 in
        let notes = subst (λ (b : Bool). MatchBool b (Notes lanes old t chain.0) (chain.0 ≡ old)) past noting in
        elim (own_note old chain.0 number t runs notes (is_held_later (held_in lanes old t.relayed) t) refl) [
          | inl held ↦ stays_noted touched chain.0 new chain.2 number t runs held
          | inr later ↦ inr later
        ]
    | inr there ↦ born_noted touched chain.0 new chain.2 number t there runs past
  ]

  -- and of one that was born before the lane stays noted as it was
  pub kept_noted : (touched : List ℕ) (old new : Holders) → Chain (Noting lanes last) old touched new → (number : ℕ) (t : Tenancy) → running_at lanes number ≡ Some t → is_past_last last t.born.key.moment ≡ false
      → (holder_of new t.relayed ≡ holder_of old t.relayed) ⊎ IsLater lanes t
  kept_noted [] old new chain number t runs not_past = inl (ap (λ (h : Holders). holder_of h t.relayed) chain)
  kept_noted (one ∷ touched) old new chain number t runs not_past = elim (kept_noted touched chain.0 new chain.2 number t runs not_past) [
    | inl rest ↦ elim (note_of old chain.0 one chain.1) [
      | inl same ↦ inl (rest ∙ ap (λ (h : Holders). holder_of h t.relayed) same)
      | inr (u, runs_other, past, notes) ↦
          elim (old_note old chain.0 number t runs not_past one u runs_other past notes (is_held_later (held_in lanes old u.relayed) u) (same_addr t.relayed u.relayed) refl refl) [ inl first ↦ inl (rest ∙ first) | inr later ↦ inr later ]
    ]
    | inr later ↦ inr later
  ]
