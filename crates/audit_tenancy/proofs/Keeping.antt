-- What is kept, as one more tenancy comes.
use Rattle.std.proofs.Common.{◌≡◌, ◌≢◌, ℕ, false, List, [], ◌∷◌, ◌++◌, Option, Some, None, inl, inr, refl, sym, ap, subst, ◌∙◌}
use Rattle.std.specs.Prelude.{Contains}
use Rattle.std.specs.Cmp.{tied_itself}
use Rattle.std.specs.Ordering.{is_gt}
use Rattle.std.proofs.lemmas.List.Elements.{Contains-append_left}
use Rattle.audit_model.specs.declared.address.Addr.{Addr}
use Rattle.audit_model.specs.declared.verdict.Tenancy.{Tenancy}
use Rattle.audit_tenancy.specs.Hold.{Outlasts, IsLongerOf}
use Rattle.audit_tenancy.specs.Kept.{addr_cmp, ComeBefore, IsLongest, Keeps}
use Rattle.audit_tenancy.proofs.Addresses.{addr_total, address_before, fresh_address}
use Rattle.audit_tenancy.proofs.Longest.{each_more, longest_skip, longest_first, longest_more}

-- an answer that was found
pub keeps_some : (earlier : List Tenancy) (o other : Option Tenancy) (longest : Tenancy) → o ≡ Some longest → Keeps earlier o other → Keeps earlier (Some longest) other
keeps_some earlier o other longest is keeps = let Kept : Option Tenancy → Type 0 = λ p. Keeps earlier p other in subst Kept is keeps

-- what is kept, of this address, with the others those of other lanes than this
abbrev KeepsAt : List Tenancy → Tenancy → Option Tenancy → Addr → ℕ → Type 0
KeepsAt earlier longest other address lane =
    ((one : Tenancy) → Contains earlier one → is_gt (addr_cmp one.relayed address) ≡ false)
    × IsLongest (λ one. one.relayed ≡ address) earlier (Some longest)
    × IsLongest (λ one. (one.relayed ≡ address) × (one.born.lane ≢ lane)) earlier other

at_own : (earlier : List Tenancy) (longest : Tenancy) (other : Option Tenancy) (address : Addr) (lane : ℕ) → address ≡ longest.relayed
    → lane ≡ longest.born.lane → KeepsAt earlier longest other address lane → Keeps earlier (Some longest) other
at_own earlier longest other address lane same own keeps =
    let AtAddress : Addr → Type 0 = λ a. KeepsAt earlier longest other a lane in
    let AtLane : ℕ → Type 0 = λ l. KeepsAt earlier longest other longest.relayed l in
    subst AtLane own (subst AtAddress same keeps)

module _ (earlier : List Tenancy) (new : Tenancy) (before : ComeBefore earlier new) where
  -- the first tenancy of its address
  restart : ((one : Tenancy) → Contains earlier one → one.relayed ≢ new.relayed) → Keeps (earlier ++ new ∷ []) (Some new) None
  restart fresh = (
    each_more earlier new (λ one. is_gt (addr_cmp one.relayed new.relayed) ≡ false) (λ one among. address_before one new (before one among))
        (ap is_gt (tied_itself addr_total new.relayed)),
    longest_first earlier new (λ one. one.relayed ≡ new.relayed) refl fresh,
    longest_skip earlier new (λ one. (one.relayed ≡ new.relayed) × (one.born.lane ≢ new.born.lane)) None (λ h. h.1 refl) (λ one among h. fresh one among h.0),
  )

  -- nothing came before
  pub restart_first : (o other : Option Tenancy) → ((t : Tenancy) → o ≡ Some t → ⊥) → Keeps earlier o other → Keeps (earlier ++ new ∷ []) (Some new) None
  restart_first None other none keeps = restart (λ one among same. keeps one among)
  restart_first (Some longest) other none keeps = absurd (none longest refl)

  module _ (longest : Tenancy) (other : Option Tenancy) (keeps : Keeps earlier (Some longest) other) where
    -- what came before had another address
    pub restart_after : longest.relayed ≢ new.relayed → Keeps (earlier ++ new ∷ []) (Some new) None
    restart_after differs =
        restart (λ one among. fresh_address one longest new (keeps.0 one among) (before longest keeps.1.0) differs)

    module _ (same : new.relayed ≡ longest.relayed) where
      at_most : (one : Tenancy) → Contains (earlier ++ new ∷ []) one → is_gt (addr_cmp one.relayed longest.relayed) ≡ false
      at_most = each_more earlier new (λ one. is_gt (addr_cmp one.relayed longest.relayed) ≡ false) keeps.0 (rw same (ap is_gt (tied_itself addr_total longest.relayed)))

      -- of the same lane as the longest
      pub keeps_lane : new.born.lane ≡ longest.born.lane → (longer : Tenancy) → IsLongerOf longest new longer → Keeps (earlier ++ new ∷ []) (Some longer) other
      keeps_lane lane longer is =
          let address : longer.relayed ≡ longest.relayed = elim is.0 [ inl l ↦ ap (λ (t : Tenancy). t.relayed) l | inr r ↦ ap (λ (t : Tenancy). t.relayed) r ∙ same ] in
          let own : longer.born.lane ≡ longest.born.lane = elim is.0 [ inl l ↦ ap (λ (t : Tenancy). t.born.lane) l | inr r ↦ ap (λ (t : Tenancy). t.born.lane) r ∙ lane ] in
          at_own (earlier ++ new ∷ []) longer other longest.relayed longest.born.lane (sym address) (sym own) (
            at_most,
            longest_more earlier new (λ one. one.relayed ≡ longest.relayed) longest longer same is keeps.1,
            longest_skip earlier new (λ one. (one.relayed ≡ longest.relayed) × (one.born.lane ≢ longest.born.lane)) other (λ h. h.1 lane) keeps.2,
          )

      -- the longest stays it, and the new one may be longest of the others
      module _ (differs : new.born.lane ≢ longest.born.lane) (outlasts : Outlasts longest new) where
        stays : IsLongest (λ one. one.relayed ≡ longest.relayed) (earlier ++ new ∷ []) (Some longest)
        stays = longest_more earlier new (λ one. one.relayed ≡ longest.relayed) longest longest same (inl refl, (λ key lane held. held), outlasts) keeps.1

        pub keeps_first_other : other ≡ None → Keeps (earlier ++ new ∷ []) (Some longest) (Some new)
        keeps_first_other none =
            let Other : Option Tenancy → Type 0 = λ o. IsLongest (λ one. (one.relayed ≡ longest.relayed) × (one.born.lane ≢ longest.born.lane)) earlier o in (
              at_most,
              stays,
              longest_first earlier new (λ one. (one.relayed ≡ longest.relayed) × (one.born.lane ≢ longest.born.lane)) (same, differs) (subst Other none keeps.2),
            )

        pub keeps_longer_other : (had longer : Tenancy) → other ≡ Some had → IsLongerOf had new longer → Keeps (earlier ++ new ∷ []) (Some longest) (Some longer)
        keeps_longer_other had longer some is =
            let Other : Option Tenancy → Type 0 = λ o. IsLongest (λ one. (one.relayed ≡ longest.relayed) × (one.born.lane ≢ longest.born.lane)) earlier o in (
              at_most,
              stays,
              longest_more earlier new (λ one. (one.relayed ≡ longest.relayed) × (one.born.lane ≢ longest.born.lane)) had longer (same, differs) is
                  (subst Other some keeps.2),
            )

      -- the new one is longest, and the old one is longest of the others
      pub keeps_new : new.born.lane ≢ longest.born.lane → Outlasts new longest → Keeps (earlier ++ new ∷ []) (Some new) (Some longest)
      keeps_new differs outlasts =
          at_own (earlier ++ new ∷ []) new (Some longest) longest.relayed new.born.lane (sym same) refl (
            at_most,
            longest_more earlier new (λ one. one.relayed ≡ longest.relayed) longest new same (inr refl, outlasts, (λ key lane held. held)) keeps.1,
            (
              Contains-append_left earlier (new ∷ []) longest keeps.1.0,
              (refl, (λ h. differs (sym h))),
              each_more earlier new (λ one. (one.relayed ≡ longest.relayed) × (one.born.lane ≢ new.born.lane) → Outlasts longest one)
                  (λ one among h. keeps.1.2 one among h.0) (λ h. absurd (h.1 refl)),
            ),
          )
