-- What a look shows is fair to the seat.
use Rattle.std.proofs.Common.{◌≡◌, ℕ, zero, suc, ◌+◌, ◌≤◌, List, [], ◌∷◌, length, Some, None, Option, Bool, true, false, cond, nat_eq, slice_get, count_by, refl, sym, ap, ◌∙◌, subst, inl, inr, arith}
use Rattle.std.specs.Prelude.{IfSome, Result, Ok, Err, IfOk}
use Rattle.std.proofs.lemmas.List.{length-map}
use Rattle.std.proofs.lemmas.List.Sums.{sum_by-cons}
use Rattle.std.proofs.lemmas.Bool.{cases_Bool, eqb-true}
use Rattle.audit_model.specs.Least.{IsLeast}
use Rattle.audit_model.specs.declared.verdict.Breach.{Breach}
use Rattle.audit_lane.specs.Content.{Content, Found, Judgement, Passes, Breaks}
use Rattle.audit_lane.specs.Judged.{IsJudged, IsOf, OneOutcome}
use Rattle.audit_lane.specs.Concluded.{Has, ShowsBreach, breach_in, breaches_of}
use Rattle.audit_book.specs.declared.seat.Receipt.{Receipt}
use Rattle.audit_book.specs.declared.state.View.{View}
use Rattle.audit_book.specs.Machine.{State, Entry, lane_of, IsState}
use Rattle.audit_book.specs.Seats.{Place, receipt, receipts_from, receipts_of, findings_of, IsSeen}
use Rattle.audit_book.specs.Fair.{BreaksAt, IsLowest, IsFair}
use Rattle.audit_book.proofs.Sound.{sound}
use Rattle.audit_book.proofs.Agree.{receipts_short, breaches_short}

abbrev pub AllOf : List Content → List Entry → Type 0
AllOf job es = (q : ℕ) (e : Entry) → slice_get es q ≡ Some e → IsOf job e.finding

-- where the job's lane of a finding breaks a rule, the finding does
pub broken_there : (job : List Content) → OneOutcome job → (f : Found) → IsOf job f → (breach : Breach) → BreaksAt job f.input.number breach → f.outcome ≡ Breaks breach
broken_there job one f of breach at =
    let both : Some f.input ≡ Some at.content = sym of.input ∙ at.of_job in
    let same : f.input ≡ at.content = cc in
    one f.input.number f.input of.input f.outcome (Breaks breach) of.outcome (subst (λ (c : Content). IsJudged c (Breaks breach)) (sym same) at.broken)

abbrev one_if : Bool → ℕ
one_if b = cond b 1 0

breach_count : (j : Judgement) (bs : List Breach) → length bs ≤ length (breach_in j bs)
breach_count (Passes ts) bs = omega arith
breach_count (Breaks b) bs = omega arith

breach_here : (j : Judgement) (bs : List Breach) (b : Breach) → j ≡ Breaks b → length bs + 1 ≤ length (breach_in j bs)
breach_here j bs b is = subst (λ (k : Judgement). length bs + 1 ≤ length (breach_in k bs)) (sym is) (omega arith)

module _ (job : List Content) (one : OneOutcome job) (tells : ℕ → Bool) (right : (lane : ℕ) → tells lane ≡ true → (breach : Breach) × BreaksAt job lane breach) where
  here_too : (f : Found) → IsOf job f → (bs : List Breach) (t : Bool) → tells f.input.number ≡ t → one_if t + length bs ≤ length (breach_in f.outcome bs)
  here_too f of bs true is = (let at = right f.input.number is in let count = breach_here f.outcome bs at.0 (broken_there job one f of at.0 at.1) in omega (arith, count))
  here_too f of bs false is = (let count = breach_count f.outcome bs in omega (arith, count))

  pub own_short : (seat p : ℕ) (es : List Entry) → AllOf job es → count_by (λ (r : Receipt). tells r.lane) (receipts_from seat p es) ≤ length (breaches_of (findings_of es))
  own_short seat p [] all = omega arith
  own_short seat p (e ∷ es) all =
      let rest = own_short seat (p + 1) es (λ q x at. all (suc q) x at) in
      let more = receipts_from seat (p + 1) es in
      let this = receipt (lane_of e) p seat in
      let test : Receipt → Bool = λ r. tells r.lane in
      let bs = breaches_of (findings_of es) in
      let count = here_too e.finding (all 0 e refl) bs (tells (lane_of e)) refl in
      let least = breach_count e.finding.outcome bs in
      let P : Bool → Type 0 = λ t. count_by test (cond t (this ∷ more) more) ≤ length (breach_in e.finding.outcome bs) in
      elim (cases_Bool (nat_eq e.seat seat)) [
        | inl t ↦ subst P (sym t) (let s : count_by test (this ∷ more) ≤ length (breach_in e.finding.outcome bs) = omega (arith, rest, count, sum_by-cons (λ (r : Receipt). one_if (test r)) this more) in s)
        | inr t ↦ subst P (sym t) (let s : count_by test more ≤ length (breach_in e.finding.outcome bs) = omega (arith, rest, least) in s)
      ]

-- what a receipt of the history stands for
pub record IsEntry (seat p : ℕ) (es : List Entry) (r : Receipt) : Type 0 where
  pub place : ℕ
  pub entry : Entry
  pub there : slice_get es place ≡ Some entry
  pub lane : r.lane ≡ lane_of entry
  pub placed : r.place ≡ p + place
  pub by : entry.seat ≡ seat
  pub own : r.seat ≡ seat

entry_later : (seat p : ℕ) (e : Entry) (es : List Entry) (r : Receipt) → IsEntry seat (p + 1) es r → IsEntry seat p (e ∷ es) r
entry_later seat p e es r u = record { place = suc u.place; entry = u.entry; there = u.there; lane = u.lane; placed = omega (arith, u.placed); by = u.by; own = u.own }

receipt_head : (seat p : ℕ) (e : Entry) (es : List Entry) (rs : List Receipt) (i : ℕ) (r : Receipt) → e.seat ≡ seat → slice_get (receipt (lane_of e) p seat ∷ rs) i ≡ Some r → ((k : ℕ) → slice_get rs k ≡ Some r → IsEntry seat (p + 1) es r) → IsEntry seat p (e ∷ es) r
receipt_head seat p e es rs zero r is h later =
    let same : receipt (lane_of e) p seat ≡ r = cc in
    record { place = 0; entry = e; there = refl; lane = ap (λ (x : Receipt). x.lane) (sym same); placed = (let w : r.place ≡ p = ap (λ (x : Receipt). x.place) (sym same) in omega (arith, w)); by = is; own = ap (λ (x : Receipt). x.seat) (sym same) }
receipt_head seat p e es rs (suc i) r is h later = entry_later seat p e es r (later i h)

-- a receipt of the history is that of an entry
pub receipt_from : (seat p : ℕ) (es : List Entry) (i : ℕ) (r : Receipt) → slice_get (receipts_from seat p es) i ≡ Some r → IsEntry seat p es r
receipt_from seat p [] i r h = cc
receipt_from seat p (e ∷ es) i r h =
    let more = receipts_from seat (p + 1) es in
    let this = receipt (lane_of e) p seat in
    let at : (t : Bool) → nat_eq e.seat seat ≡ t → slice_get (cond t (this ∷ more) more) i ≡ Some r = λ t is. ap (λ (b : Bool). slice_get (cond b (this ∷ more) more) i) (sym is) ∙ h in
    elim (cases_Bool (nat_eq e.seat seat)) [
      | inl t ↦ receipt_head seat p e es more i r (eqb-true e.seat seat t) (at true t) (λ k k_at. receipt_from seat (p + 1) es k r k_at)
      | inr t ↦ entry_later seat p e es r (receipt_from seat (p + 1) es i r (at false t))
    ]

-- the findings, by their places
pub finding_at : (es : List Entry) (q : ℕ) (e : Entry) → slice_get es q ≡ Some e → slice_get (findings_of es) q ≡ Some e.finding
finding_at [] q e h = cc
finding_at (x ∷ es) zero e h = let same : x ≡ e = cc in ap (λ (y : Entry). Some y.finding) same
finding_at (x ∷ es) (suc q) e h = finding_at es q e h

pub entry_at : (es : List Entry) (q : ℕ) (f : Found) → slice_get (findings_of es) q ≡ Some f → (e : Entry) × (slice_get es q ≡ Some e) × (e.finding ≡ f)
entry_at [] q f h = cc
entry_at (x ∷ es) zero f h = (x, refl, cc)
entry_at (x ∷ es) (suc q) f h = entry_at es q f h

none_at : (fs : List Found) (q : ℕ) (f : Found) (b : Breach) → slice_get fs q ≡ Some f → f.outcome ≡ Breaks b → length (breaches_of fs) ≡ 0 → ⊥
none_at [] q f b h is none = cc
none_at (x ∷ fs) zero f b h is none =
    let same : x ≡ f = cc in
    let count = breach_here x.outcome (breaches_of fs) b (ap (λ (y : Found). y.outcome) same ∙ is) in
    omega (arith, count, none)
none_at (x ∷ fs) (suc q) f b h is none =
    let count = breach_count x.outcome (breaches_of fs) in none_at fs q f b h is (omega (arith, count, none))

later : (x : Found) (fs : List Found) (b : Breach) → ShowsBreach fs b → ShowsBreach (x ∷ fs) b
later x fs b h = record { found = h.found; has = record { place = suc h.has.place; there = h.has.there }; is = h.is }

shown_head : (x : Found) (fs : List Found) (j : Judgement) → x.outcome ≡ j → length (breaches_of fs) ≡ 0 → ((b : Breach) → ShowsBreach (x ∷ fs) b → ⊥) → length (breaches_of (x ∷ fs)) ≡ 0
shown_head x fs (Passes ts) is rest none = ap (λ (k : Judgement). length (breach_in k (breaches_of fs))) is ∙ rest
shown_head x fs (Breaks b) is rest none = absurd (none b (record { found = x; has = record { place = 0; there = refl }; is = is }))

shown_none : (fs : List Found) → ((b : Breach) → ShowsBreach fs b → ⊥) → length (breaches_of fs) ≡ 0
shown_none [] none = refl
shown_none (x ∷ fs) none = shown_head x fs x.outcome refl (shown_none fs (λ b h. none b (later x fs b h))) none

-- none is told exactly where none is counted
least_none : (fs : List Found) (o : Option Breach) → IsLeast (ShowsBreach fs) o → length (breaches_of fs) ≡ 0 → o ≡ None
least_none fs None is none = refl
least_none fs (Some b) is none = absurd (none_at fs is.0.has.place is.0.found b is.0.has.there is.0.is none)

none_least : (fs : List Found) (o : Option Breach) → IsLeast (ShowsBreach fs) o → o ≡ None → length (breaches_of fs) ≡ 0
none_least fs None is none = shown_none fs is
none_least fs (Some b) is none = cc

module _ (job : List Content) (es : List Entry) (all : AllOf job es) where
  of_job : (f : Found) → Has (findings_of es) f → IsOf job f
  of_job f has = let e = entry_at es has.place f has.there in subst (λ (g : Found). IsOf job g) e.2 (all has.place e.0 e.1)

  pub least_of_job : (o : Option Breach) → IsLeast (ShowsBreach (findings_of es)) o → IfSome o (λ b. (lane : ℕ) × BreaksAt job lane b)
  least_of_job None is = tt
  least_of_job (Some b) is =
      let f = is.0.found in
      let of = of_job f is.0.has in
      (f.input.number, record { content = f.input; of_job = of.input; broken = subst (λ (j : Judgement). IsJudged f.input j) is.0.is of.outcome })

  pub least_lowest : OneOutcome job → (seat : ℕ) (rs : List Receipt) → rs ≡ receipts_of seat es → (o : Option Breach) → IsLeast (ShowsBreach (findings_of es)) o → IfSome o (λ b. IsLowest job rs b)
  least_lowest one seat rs own None is = tt
  least_lowest one seat rs own (Some b) is =
      λ i r at other broken.
      let u = receipt_from seat 0 es i r (ap (λ (l : List Receipt). slice_get l i) (sym own) ∙ at) in
      let f = u.entry.finding in
      let outcome = broken_there job one f (all u.place u.entry u.there) other (subst (λ (n : ℕ). BreaksAt job n other) u.lane broken) in
      is.1 other (record { found = f; has = record { place = u.place; there = finding_at es u.place u.entry u.there }; is = outcome })

pub fair : (job : List Content) (all : ℕ) (s : State) (p : Place) (v : View) → IsState job all s → p.receipts ≡ receipts_of p.number s.entries → IsSeen p.number s.entries v → IsFair job p v
fair job all s p v kept own is =
    let of : AllOf job s.entries = λ q e at. ((sound job all s kept).inputs q e at).0 in
    let fs = findings_of s.entries in record {
      mine = is.mine ∙ ap length (sym own);
      entered = omega (arith, is.mine, is.entered, receipts_short p.number 0 s.entries);
      breaches = omega (arith, is.breaches, is.entered, breaches_short fs, length-map s.entries (λ (e : Entry). e.finding));
      own = λ one tells right. subst (λ (l : List Receipt). count_by (λ (r : Receipt). tells r.lane) l ≤ v.breaches) (sym own)
          (let short = own_short job one tells right p.number 0 s.entries of in omega (arith, short, is.breaches));
      none = (λ h. least_none fs v.least is.least (sym is.breaches ∙ h), λ h. is.breaches ∙ none_least fs v.least is.least h);
      least = least_of_job job s.entries of v.least is.least;
      lowest = λ one. least_lowest job s.entries of one p.number p.receipts own v.least is.least;
    }

pub ok_more : {X Y : Type 0} (r : Result X Y) (P Q : X → Type 0) → ((x : X) → P x → Q x) → IfOk r P → IfOk r Q
ok_more (Ok x) P Q h p = h x p
ok_more (Err y) P Q h p = p
